use Rattle.std.proofs.Common.{sym, ◌∙◌}
use Rattle.urp_cache.proofs.Uses.{anew_used, anew_kept}
use Rattle.urp_cache.proofs.Views.{absent_next}
use Rattle.urp_cache.proofs.send_cache.SendCache.use_anew.Goals as goal

pub returns-clause-slot : goal.returns-clause-slot
returns-clause-slot c = c.next_slot-slot.ensures ∙ sym (absent_next c.args.name.now c.args.self.now c.requires)

pub returns-clause-used : goal.returns-clause-used
returns-clause-used c = anew_used c.args.name.now c.args.self.now c.self.inside.names c.put.new.self c.self.view_is c.self.invariant c.in_ok-kept.kept c.next_slot-slot.result c.in_ok-kept.ensures.items c.next_slot-slot.ensures c.requires c.in_ok-put.ensures.entries

pub invariant_of-self-2 : goal.invariant_of-self-2
invariant_of-self-2 c = anew_kept c.args.name.now c.args.self.now c.self.inside.names c.put.new.self c.self.view_is c.self.invariant c.in_ok-kept.kept c.next_slot-slot.result c.in_ok-kept.ensures.items c.next_slot-slot.ensures c.requires c.in_ok-put.ensures.entries
