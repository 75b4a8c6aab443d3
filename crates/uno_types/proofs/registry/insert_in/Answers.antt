use Rattle.uno_entities.proofs.FindingLemmas.{rising_insert, built_in_insert, adds_insert}
use Rattle.uno_types.proofs.registry.insert_in.Goals as goal

pub returns-clause-rising : goal.returns-clause-rising
returns-clause-rising c =
    rw c.in_ok-insert.ensures.items (rising_insert _ _ _ _ _ c.as_slice.ensures.value c.as_str.ensures c.requires c.in-Some.ensures)

pub returns-clause-added : goal.returns-clause-added
returns-clause-added c = rw c.in_ok-insert.ensures.items (adds_insert _ _ _)

pub returns-clause-built_in : goal.returns-clause-built_in
returns-clause-built_in c =
    λ has. rw c.in_ok-insert.ensures.items (built_in_insert _ _ _ _ _ c.as_slice.ensures.value c.as_str.ensures c.in-Some.ensures has)
