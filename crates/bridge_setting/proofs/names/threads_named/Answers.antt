use Rattle.bridge_setting.proofs.NameLemmas.{also_named, none_named}
use Rattle.bridge_setting.proofs.names.threads_named.Goals as goal

pub loop-place-init : goal.loop-place-init
loop-place-init c = none_named c.args.tag.now 1 c.new-tids.result.items c.new-tids.ensures.items

pub loop-place-preserved : goal.loop-place-preserved
loop-place-preserved c =
    also_named c.args.tag.now 1 c.loop-place.tids.items c.push.new.self.items c.in_ok-tid.tid c.loop-place.place c.loop-place.invariant.0 c.loop-place.invariant.1 c.in_ok-tid.ensures
    c.in_ok-push.ensures.items
