use Rattle.std.proofs.Common.{◌≡◌, ◌||◌, List, ℕ, drop, map, false, Bor}
use Rattle.std.specs.BTreeSet.{contains_by}
use Rattle.uno_entities.specs.Entities.{item_of}
use Rattle.plan_lines.specs.Index.{by_text, seen_in, is_fresh}
use Rattle.plan_lines.proofs.words.add_items.Given as goal

abbrev pub invariant-loop-item : goal.invariant-loop-item
invariant-loop-item l =
    (q : Bor (List ℕ)) → (contains_by (by_text q) l.names || is_fresh (seen_in l.numbers) (map item_of (drop l.item-index l.items)) q.now)
    ≡ (contains_by (by_text q) l.fn.names || is_fresh (λ n. false) (map item_of l.items) q.now)
