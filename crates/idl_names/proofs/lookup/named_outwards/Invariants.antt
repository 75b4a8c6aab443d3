use Rattle.idl_names.proofs.LookupLemmas.{IsOutwards}
use Rattle.idl_names.proofs.lookup.named_outwards.Given as goal

abbrev pub invariant-loop-outer : goal.invariant-loop-outer
invariant-loop-outer l = IsOutwards l.paths l.marks l.modules l.parts l.scope

abbrev pub decreases-loop-outer : goal.decreases-loop-outer
decreases-loop-outer l = l.scope
