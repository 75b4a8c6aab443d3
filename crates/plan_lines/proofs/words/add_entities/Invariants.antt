use Rattle.std.proofs.Common.{◌≡◌, ◌||◌, List, ℕ, drop, Bor}
use Rattle.std.specs.BTreeSet.{contains_by}
use Rattle.uno_entities.specs.Entities.{entities_of}
use Rattle.plan_lines.specs.Index.{by_text, is_some_first}
use Rattle.plan_lines.proofs.words.add_entities.Given as goal

abbrev pub invariant-loop-entity : goal.invariant-loop-entity
invariant-loop-entity l =
    (q : Bor (List ℕ)) → (contains_by (by_text q) l.names || is_some_first (entities_of (drop l.entity-index l.entities)) q.now)
    ≡ (contains_by (by_text q) l.fn.names || is_some_first (entities_of l.entities) q.now)
