-- The first entity that fails the test of a rule is the one by which a registry breaks the rule first.
use Rattle.std.proofs.Common.{◌≡◌, ℕ, zero, suc, ◌+◌, ◌<◌, Bool, true, false, not, List, [], ◌∷◌, length, map, take, get_or, None, Some, Contains}
use Rattle.std.proofs.Common.{if◌then◌else◌, refl, sym, ap, ◌∙◌, subst, arith, ◌⊎◌, inl, inr}
use Rattle.std.specs.Prelude.{slice_get}
use Rattle.std.specs.List.{position, position_from}
use Rattle.std.proofs.lemmas.Bool.{both_ways, not-true, not-false}
use Rattle.std.proofs.lemmas.Iterator.Adapters.{position_from-zero}
use Rattle.std.proofs.lemmas.List.Quantifiers.{position-Some}
use Rattle.std.proofs.lemmas.Option.{get_or_from_slice_get, slice_get-get_or, slice_get_cases}
use Rattle.uno_model.specs.BuiltIn.{x_interface}
use Rattle.uno_model.specs.Entities.{Entity}
use Rattle.uno_model.proofs.Options.{none_some}
use Rattle.uno_model.proofs.PlaceLaws.{contains_cases}
use Rattle.registry_text_model.specs.Rules.{Rule, number_of, Keeps, AllKeep, BreaksFirst}

-- ---- places

-- the test of elements that are read as others
pub position_mapped : {X Y : Type 0} (f : X → Y) (q : Y → Bool) (xs : List X) → position (λ x. q (f x)) xs ≡ position q (map f xs)
position_mapped f q xs = position_from-zero (λ x. q (f x)) xs ∙ from 0 xs ∙ sym (position_from-zero q (map f xs))
  where
    from : (n : ℕ) (ys : List _) → position_from (λ x. q (f x)) n ys ≡ position_from q n (map f ys)
    from n [] = refl
    from n (y ∷ ys) = ap (λ o. if q (f y) then Some n else o) (from (n + 1) ys)

-- where no place is found, no element passes
pub no_position : {X : Type 0} (p : X → Bool) (xs : List X) → position p xs ≡ None → (x : X) → Contains xs x → p x ≡ false
no_position p xs none x there = from 0 xs (sym (position_from-zero p xs) ∙ none) x there
  where
    from : (n : ℕ) (ys : List _) → position_from p n ys ≡ None → (y : _) → Contains ys y → p y ≡ false
    from n [] none y there = absurd (omega (arith, there.1))
    from n (z ∷ zs) none y there =
        by_test (p z) refl none (λ behind has. from (n + 1) zs behind y has) (contains_cases z zs y there)
      where
        by_test : (b : Bool) → p z ≡ b → (if b then Some n else position_from p (n + 1) zs) ≡ None
            → (position_from p (n + 1) zs ≡ None → Contains zs y → p y ≡ false) → (z ≡ y) ⊎ Contains zs y → p y ≡ false
        by_test true is none rest has = absurd (none_some (sym none))
        by_test false is none rest (inl here) = sym (ap p here) ∙ is
        by_test false is none rest (inr behind) = rest none behind

taken_at : {X : Type 0} (n : ℕ) (xs : List X) (x : X) → Contains (take n xs) x → (i : ℕ) × (i < n) × (slice_get xs i ≡ Some x)
taken_at zero xs x there = absurd (omega (arith, there.1))
taken_at (suc n) [] x there = absurd (omega (arith, there.1))
taken_at (suc n) (y ∷ ys) x there = elim (contains_cases y (take n ys) x there) [
  | inl here ↦ (0, omega arith, ap (λ z. Some z) here)
  | inr behind ↦ one_further (taken_at n ys x behind)
]
  where
    one_further : (i : ℕ) × (i < n) × (slice_get ys i ≡ Some x) → (i : ℕ) × (i < suc n) × (slice_get (y ∷ ys) i ≡ Some x)
    one_further (i, low, is) = (suc i, omega (arith, low), is)

contained_at : {X : Type 0} (xs : List X) (x : X) → Contains xs x → (i : ℕ) × (slice_get xs i ≡ Some x)
contained_at xs x (i, low, is) = (i, slice_get-get_or xs i x low ∙ ap (λ z. Some z) is)

-- ---- the first entity that breaks a rule

-- the registry breaks the rule first by the entity at this place
abbrev pub BreaksAtPlace : List Entity → Rule → ℕ → Type 0
BreaksAtPlace reg rule place = (k : Entity) × (slice_get reg place ≡ Some k) × BreaksFirst reg rule k

-- each lesser rule is kept
abbrev pub LesserKept : List Entity → Rule → Type 0
LesserKept reg rule = (lesser : Rule) → number_of lesser < number_of rule → AllKeep reg lesser

-- it stands there, it breaks the rule, and none before it does
pub breaks_at_place : (reg : List Entity) (rule : Rule) → LesserKept reg rule → (place : ℕ) → place < length reg
    → ((e : Entity) → slice_get reg place ≡ Some e → ¬ Keeps reg rule e)
    → ((i : ℕ) (e : Entity) → i < place → slice_get reg i ≡ Some e → Keeps reg rule e)
    → BreaksAtPlace reg rule place
breaks_at_place reg rule least place within broken before = elim ((slice_get_cases reg place).1) [
  | inl (k, low, at, is) ↦ (
    k,
    at,
    record {
      place = place;
      within = within;
      there = is;
      broken = broken k at;
      least = least;
      first = λ d there. let at = taken_at place reg d there in before at.0 d at.1 at.2;
    },
  )
  | inr (past, none) ↦ absurd (omega (arith, within, past))
]

pub all_keep_at_places : (reg : List Entity) (rule : Rule) → ((i : ℕ) (e : Entity) → slice_get reg i ≡ Some e → Keeps reg rule e) → AllKeep reg rule
all_keep_at_places reg rule each e there = let at = contained_at reg e there in each at.0 e at.1

-- ---- rules that are tests

module _ (reg : List Entity) (rule : Rule) (P : Entity → Bool)
    (passes : (e : Entity) → Keeps reg rule e → P e ≡ true) (keeps : (e : Entity) → P e ≡ true → Keeps reg rule e) where
  pub breaks_at : LesserKept reg rule → (place : ℕ) → position (λ e. not (P e)) reg ≡ Some place → BreaksAtPlace reg rule place
  breaks_at least place found = breaks_at_place reg rule least place within broken before
    where
      within : place < length reg
      within = (position-Some (λ e. not (P e)) reg place x_interface found).0

      broken : (e : Entity) → slice_get reg place ≡ Some e → ¬ Keeps reg rule e
      broken e at kept =
          let failed : not (P (get_or reg place e)) ≡ true = (position-Some (λ d. not (P d)) reg place e found).1 in
          both_ways (P e) (not-true (P e) (subst (λ d. not (P d) ≡ true) (get_or_from_slice_get reg place e e at) failed)) (passes e kept)

      before : (i : ℕ) (e : Entity) → i < place → slice_get reg i ≡ Some e → Keeps reg rule e
      before i e low at =
          let passed : not (P (get_or reg i e)) ≡ false = (position-Some (λ d. not (P d)) reg place e found).2 i low in
          keeps e (not-false (P e) (subst (λ d. not (P d) ≡ false) (get_or_from_slice_get reg i e e at) passed))

  pub all_keep : position (λ e. not (P e)) reg ≡ None → AllKeep reg rule
  all_keep none e there = keeps e (not-false (P e) (no_position (λ d. not (P d)) reg none e there))
