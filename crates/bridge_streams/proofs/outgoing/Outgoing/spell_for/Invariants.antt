use Rattle.std.proofs.Common.{◌≡◌, length}
use Rattle.bridge_model.specs.Going.{spells_for}
use Rattle.bridge_model.specs.Saying.{AreSayable}
use Rattle.bridge_streams.specs.Queues.{with_said}
use Rattle.bridge_streams.proofs.outgoing.Outgoing.spell_for.Given as goal

-- what is left to spell gives what all gave
abbrev pub invariant-loop-self : goal.invariant-loop-self
invariant-loop-self l =
    record {
      same : spells_for l.registry l.wanted l.unsaid.said l.self ≡ spells_for l.registry l.wanted l.fn.unsaid.said l.fn.self;
      rest : l.unsaid ≡ with_said l.unsaid.said l.fn.unsaid;
      sayable : AreSayable l.registry l.unsaid.said;
    }

abbrev pub decreases-loop-self : goal.decreases-loop-self
decreases-loop-self l = length l.unsaid.said
