-- What is known place by place, and what a search adds.
use Rattle.std.proofs.Common.{◌≡◌, ℕ, ◌<◌, Bool, true, false, List, length, replicate, sym, subst, ◌∙◌, inl, inr}
use Rattle.std.specs.Prelude.{Some, slice_get, Contains}
use Rattle.std.proofs.lemmas.List.{length-replicate}
use Rattle.uno_model.specs.Circles.{HasNoCircle}
use Rattle.uno_model.specs.Entities as plain
use Rattle.uno_model.specs.Registry.{IsRising, leads_to}
use Rattle.uno_model.specs.Sound.{all_differ}
use Rattle.uno_entities.specs.Marks.{MarksBases}
use Rattle.uno_entities.specs.Reaching.{Lists, MarksMore}
use Rattle.uno_entities.proofs.SpreadLemmas.{entity_at, replicate_unmarked}
use Rattle.rules_over_bases.specs.Known.{KeepsAt, KnownToPass, KnownToDiffer, differ_over}
use Rattle.rules_over_bases.specs.OwnNames.{marked_names}
use Rattle.rules_over_bases.specs.Seen.{SeenAll}
use Rattle.rules_over_bases.specs.Trail.{SeenOver}
use Rattle.rules_over_bases.specs.declared.seen.Seen.{Seen}
use Rattle.rules_over_bases.proofs.MarkedNames.{marked_over, marked_differ_over, differ_below}

-- at first nothing is known
pub none_known : (test : plain.Entity → Bool) (reg : List plain.Entity) (count : ℕ) (known : List Bool) → length reg ≡ count → known ≡ replicate count false
    → KnownToPass test reg known
none_known test reg count known long is =
    subst (KnownToPass test reg) (sym is) (record {
      one_each = length-replicate count false ∙ sym long;
      passes = λ i m. absurd (replicate_unmarked count i m);
    })

-- the marks of a search from a place say whether the names of the entity there differ
pub searched_differ : (reg : List plain.Entity) (place : ℕ) (found answer : Bool) (marks : List Bool) → IsRising reg → HasNoCircle (leads_to reg)
    → ((e : plain.Entity) → slice_get reg place ≡ Some e → MarksBases reg e.name marks) → found ≡ all_differ (marked_names marks reg)
    → found ≡ answer → KeepsAt (differ_over reg) reg place answer
searched_differ reg place found answer marks rising none marked says answered e at =
    sym answered ∙ says ∙ marked_differ_over reg e.name marks rising none (marked e at)

-- what a search that found no name twice has reached is known
pub more_differ : (reg : List plain.Entity) (place : ℕ) (marks known known_after : List Bool) (places listed : List ℕ) → IsRising reg → HasNoCircle (leads_to reg) → place < length reg
    → ((e : plain.Entity) → slice_get reg place ≡ Some e → MarksBases reg e.name marks) → Lists marks listed → places ≡ listed → KeepsAt (differ_over reg) reg place true
    → KnownToDiffer reg known → MarksMore places known known_after → KnownToDiffer reg known_after
more_differ reg place marks known known_after places listed rising none within marked lists same passes before more =
    let e = entity_at reg place within in
    record {
      one_each = more.long ∙ before.one_each;
      passes = λ i m. elim (more.only i m) [
        | inl new ↦ λ f at.
            let mark = lists.marked i (subst (λ (ps : List ℕ). Contains ps i) same new) in
            sym (differ_below reg e.0.name f.name rising none (((marked e.0 e.1).marked i f at).0 mark) (sym (passes e.0 e.1)))
        | inr old ↦ before.passes i old
      ];
    }

-- what a search has seen are the names over the entity from which it began
pub searched_over : (reg : List plain.Entity) (place : ℕ) (found answer : Bool) (marks : List Bool) (seen : Seen) → IsRising reg → HasNoCircle (leads_to reg)
    → ((e : plain.Entity) → slice_get reg place ≡ Some e → MarksBases reg e.name marks) → SeenAll seen (marked_names marks reg) found → found ≡ answer
    → SeenOver reg place seen answer
searched_over reg place found answer marks seen rising none marked all answered = record {
  names = all.names;
  has_seen = all.has_seen;
  over = λ yes e at asked. all.all (answered ∙ yes) asked ∙ marked_over asked reg e.name marks rising none (marked e at);
}
