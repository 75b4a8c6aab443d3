use Rattle.bridge_setting.proofs.NameLemmas.{also_first, none_named}
use Rattle.bridge_setting.proofs.names.objects_named.Goals as goal

pub loop-number-init : goal.loop-number-init
loop-number-init c = none_named c.args.tag.now 0 c.new-oids.result.items c.new-oids.ensures.items

pub loop-number-preserved : goal.loop-number-preserved
loop-number-preserved c =
    also_first c.args.tag.now c.loop-number.oids.items c.push.new.self.items c.in_ok-oid.oid c.loop-number.number c.loop-number.invariant.0 c.loop-number.invariant.1 c.in_ok-oid.ensures
    c.in_ok-push.ensures.items
