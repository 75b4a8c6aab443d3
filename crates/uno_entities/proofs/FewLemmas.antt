-- Which entities have few functions: what is marked by a search that found few, and what is known after each step.
use Rattle.std.proofs.Common.{◌≡◌, ℕ, zero, suc, ◌+◌, ◌<◌, ◌≤◌, ◌-◌, ◌^◌, min, length, replicate, get_or, Bool}
use Rattle.std.proofs.Common.{true, false, List, [], ◌∷◌, refl, sym, ap, subst, ◌∙◌, ◌⊎◌, inl, inr, arith}
use Rattle.std.specs.Prelude.{Some, slice_get, Contains, IsTrue, ◌↔◌}
use Rattle.std.proofs.lemmas.List.{length-map, length-replicate}
use Rattle.std.proofs.lemmas.Option.{slice_get_within, get_or_from_slice_get, slice_get-get_or}
use borrow.Author.Count.{below_more}
use Rattle.uno_model.specs.Circles.{HasNoCircle}
use Rattle.uno_model.specs.Entities as plain
use Rattle.uno_entities.specs.Marks.{Marked, MarksBases}
use Rattle.uno_model.specs.Functions.{functions_of}
use Rattle.uno_model.specs.Registry.{IsRising, leads_to}
use Rattle.uno_model.specs.Sound.{HasFewFunctions}
use Rattle.uno_entities.proofs.CountLemmas.{functions_are_marked, no_more_than_all, fewer_below}
use Rattle.uno_entities.proofs.SpreadLemmas.{entity_at, replicate_unmarked}
use Rattle.uno_entities.specs.Counts.{FewAt, AllFewBut, KnownFew, total_functions, marked_functions}
use Rattle.uno_entities.specs.Entities.{entities_of, entity_of}
use Rattle.uno_entities.specs.Reaching.{Lists, MarksMore}
use Rattle.uno_entities.specs.declared.entity.Entity.{Entity}

-- where all together have few, each has
pub few_together : (reg : List plain.Entity) (count : ℕ) → IsRising reg → HasNoCircle (leads_to reg) → count ≡ min (total_functions reg) (2 ^ 64 - 1) → count ≤ 65536 → HasFewFunctions reg
few_together reg count rising none is low e has = omega (arith, is, low, no_more_than_all reg e.name rising none)

-- what is false is not true
not_true : IsTrue false → ⊥
not_true bad = cc

-- the marks of a search from a place say whether the entity there has few
as_many : (reg : List plain.Entity) (place count : ℕ) (marks : List Bool) → IsRising reg → HasNoCircle (leads_to reg)
    → ((e : plain.Entity) → slice_get reg place ≡ Some e → MarksBases reg e.name marks) → count ≡ min (marked_functions marks reg) (2 ^ 64 - 1)
    → (e : plain.Entity) → slice_get reg place ≡ Some e → count ≡ min (length (functions_of reg e.name)) (2 ^ 64 - 1)
as_many reg place count marks rising none marked is e at =
    is ∙ ap (λ n. min n (2 ^ 64 - 1)) (sym (functions_are_marked reg e.name marks rising none (marked e at)))

pub many_found : (reg : List plain.Entity) (place count : ℕ) (marks : List Bool) → IsRising reg → HasNoCircle (leads_to reg) → place < length reg
    → ((e : plain.Entity) → slice_get reg place ≡ Some e → MarksBases reg e.name marks) → count ≡ min (marked_functions marks reg) (2 ^ 64 - 1)
    → 65536 < count → IsTrue false ↔ FewAt reg place
many_found reg place count marks rising none within marked is many = (
  λ bad. absurd (not_true bad),
  λ each. absurd (omega (
    arith,
    each found.0 found.1,
    as_many reg place count marks rising none marked is found.0 found.1,
    many,
  )),
)
  where
    found : (e : plain.Entity) × (slice_get reg place ≡ Some e)
    found = entity_at reg place within

few_found : (reg : List plain.Entity) (place count : ℕ) (marks : List Bool) → IsRising reg → HasNoCircle (leads_to reg)
    → ((e : plain.Entity) → slice_get reg place ≡ Some e → MarksBases reg e.name marks) → count ≡ min (marked_functions marks reg) (2 ^ 64 - 1)
    → count ≤ 65536 → FewAt reg place
few_found reg place count marks rising none marked is low e at = omega (arith, low, as_many reg place count marks rising none marked is e at)

pub few_told : (reg : List plain.Entity) (place count : ℕ) (marks : List Bool) → IsRising reg → HasNoCircle (leads_to reg)
    → ((e : plain.Entity) → slice_get reg place ≡ Some e → MarksBases reg e.name marks) → count ≡ min (marked_functions marks reg) (2 ^ 64 - 1)
    → count ≤ 65536 → IsTrue true ↔ FewAt reg place
few_told reg place count marks rising none marked is low = (λ yes. few_found reg place count marks rising none marked is low, λ few. refl)

-- what a list contains stands at a place, and the other way round
contained_at : {X : Type 0} (xs : List X) (x : X) → Contains xs x → (i : ℕ) × (slice_get xs i ≡ Some x)
contained_at [] x has = absurd (omega (arith, has.1))
contained_at (y ∷ ys) x (zero, within, is) = (0, ap (λ k. Some k) is)
contained_at (y ∷ ys) x (suc k, within, is) = let there = contained_at ys x (k, omega (arith, within), is) in (suc there.0, there.1)

at_contained : {X : Type 0} (xs : List X) (i : ℕ) (x : X) → slice_get xs i ≡ Some x → Contains xs x
at_contained xs i x at = (i, slice_get_within xs i x at, get_or_from_slice_get xs i x x at)

-- where each place has few, each entity has
few_everywhere : (reg : List plain.Entity) (count : ℕ) → length reg ≤ count → ((place : ℕ) → place < count → FewAt reg place) → HasFewFunctions reg
few_everywhere reg count all each e has =
    let there = contained_at reg e has in
    each there.0 (omega (arith, all, slice_get_within reg there.0 e there.1)) e there.1

-- where each entity has few, each place has
pub few_at_each : (reg : List plain.Entity) → HasFewFunctions reg → (place : ℕ) → FewAt reg place
few_at_each reg all place e at = all e (at_contained reg place e at)

-- where one that is not put off has many, not each has few
pub one_has_many : (reg : List plain.Entity) (later : List Bool) (few : Bool) → IsTrue few ↔ AllFewBut later reg → few ≡ false
    → IsTrue false ↔ HasFewFunctions reg
one_has_many reg later few says many = (λ bad. absurd (not_true bad), λ all. sym many ∙ says.1 (λ place waits. few_at_each reg all place))

-- where each place below one has few, and that one too, so has each below the next
pub few_at_more : (reg : List plain.Entity) (later : List Bool) (place : ℕ) (waits few : Bool)
    → ((k : ℕ) → k < place → slice_get later k ≡ Some false → FewAt reg k) → IsTrue few ↔ (get_or later place waits ≡ false → FewAt reg place) → few ≡ true
    → (k : ℕ) → k < place + 1 → slice_get later k ≡ Some false → FewAt reg k
few_at_more reg later place waits few below says is = below_more (λ k. slice_get later k ≡ Some false → FewAt reg k) place below here
  where
    here : slice_get later place ≡ Some false → FewAt reg place
    here at = says.0 is (get_or_from_slice_get later place false waits at)

-- where one that is not put off has many, not each that is not has few
pub one_waits_not : (reg : List plain.Entity) (later : List Bool) (place : ℕ) (waits few : Bool) → place < length later
    → IsTrue few ↔ (get_or later place waits ≡ false → FewAt reg place) → few ≡ false → IsTrue false ↔ AllFewBut later reg
one_waits_not reg later place waits few within says is = (λ bad. absurd (not_true bad), λ all. sym is ∙ says.1 (λ at. all place (read at)))
  where
    read : get_or later place waits ≡ false → slice_get later place ≡ Some false
    read at = slice_get-get_or later place waits within ∙ ap (λ w. Some w) at

-- where each place of the list was asked, each that is not put off has few
pub none_left : (reg : List plain.Entity) (later : List Bool) (count : ℕ) → length later ≤ count
    → ((k : ℕ) → k < count → slice_get later k ≡ Some false → FewAt reg k) → IsTrue true ↔ AllFewBut later reg
none_left reg later count all each = (λ yes place at. each place (omega (arith, all, slice_get_within later place false at)) at, λ few. refl)

-- a list without a mark
unmarked_at : (count i : ℕ) → i < count → slice_get (replicate count false) i ≡ Some false
unmarked_at zero i low = absurd (omega (arith, low))
unmarked_at (suc count) zero low = refl
unmarked_at (suc count) (suc i) low = unmarked_at count i (omega (arith, low))

-- where none is put off, all have few if each has
pub all_have_few : (reg : List plain.Entity) (count : ℕ) (later none : List Bool) (few : Bool) → length reg ≡ count → none ≡ replicate count false
    → later ≡ none
    → IsTrue few ↔ AllFewBut later reg → IsTrue few ↔ HasFewFunctions reg
all_have_few reg count later none few long is same says = (
  λ yes. few_everywhere reg count (omega (arith, long)) (λ place low. says.0 yes place (waits place low)),
  λ all. says.1 (λ place waits. few_at_each reg all place),
)
  where
    waits : (place : ℕ) → place < count → slice_get later place ≡ Some false
    waits place low = ap (λ m. slice_get m place) (same ∙ is) ∙ unmarked_at count place low

-- there are as many marks as entities
pub marks_long : (es : List Entity) (place : ℕ) (marks : List Bool) → place < length es
    → ((e : plain.Entity) → slice_get (entities_of es) place ≡ Some e → MarksBases (entities_of es) e.name marks)
    → length marks ≡ length es
marks_long es place marks within marked =
    let long = length-map es entity_of in
    let e = entity_at (entities_of es) place (omega (arith, within, long)) in
    (marked e.0 e.1).one_each ∙ long

-- where an entity has few, so has each on which it stands
few_below : (reg : List plain.Entity) (name : List ℕ) (marks : List Bool) → IsRising reg → HasNoCircle (leads_to reg) → MarksBases reg name marks
    → length (functions_of reg name) ≤ 65536 → (i : ℕ) → Marked marks i → FewAt reg i
few_below reg name marks rising none of_name low i mark f at = omega (arith, low, fewer_below reg name f.name rising none ((of_name.marked i f at).0 mark))

-- what a search that found few has reached is known
pub known_more : (reg : List plain.Entity) (place count : ℕ) (marks known known_after : List Bool) (places listed : List ℕ) → IsRising reg → HasNoCircle (leads_to reg)
    → place < length reg
    → ((e : plain.Entity) → slice_get reg place ≡ Some e → MarksBases reg e.name marks) → count ≡ min (marked_functions marks reg) (2 ^ 64 - 1)
    → count ≤ 65536 → Lists marks listed → places ≡ listed → KnownFew reg known → MarksMore places known known_after → KnownFew reg known_after
known_more reg place count marks known known_after places listed rising none within marked is low lists same before more =
    let e = entity_at reg place within in
    let few_here = few_found reg place count marks rising none marked is low in
    record {
      one_each = more.long ∙ before.one_each;
      few = λ i m. elim (more.only i m) [
        | inl new ↦ few_below reg e.0.name marks rising none (marked e.0 e.1) (few_here e.0 e.1) i (lists.marked i (subst (λ (ps : List ℕ). Contains ps i) same new))
        | inr old ↦ before.few i old
      ];
    }

-- at first nothing is known
pub none_known : (reg : List plain.Entity) (count : ℕ) (shown known : List Bool) → length reg ≡ count → known ≡ replicate count false → shown ≡ known
    → KnownFew reg shown
none_known reg count shown known long is same =
    subst (KnownFew reg) (sym (same ∙ is)) (record {
      one_each = length-replicate count false ∙ sym long;
      few = λ i m. absurd (replicate_unmarked count i m);
    })
