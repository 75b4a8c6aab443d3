-- The first entity that breaks a rule, found place by place.
use Rattle.std.proofs.Common.{◌≡◌, ℕ, zero, suc, ◌+◌, ◌<◌, ◌≤◌, Bool, true, false, not, List, [], ◌∷◌, length, get_or, Option, None, Some, refl, sym, ap, subst, ◌∙◌, cond, arith}
use Rattle.std.specs.Prelude.{slice_get, option_map}
use Rattle.std.specs.List.{list_all, position, position_from}
use Rattle.std.proofs.lemmas.Iterator.Adapters.{position_from-zero}
use Rattle.std.proofs.lemmas.List.Folds.{list_all-map}
use Rattle.std.proofs.lemmas.Option.{slice_get-get_or, slice_get-map}
use borrow.Author.Count.{below_more}
use Rattle.uno_model.specs.Entities as plain
use Rattle.uno_entities.specs.Entities.{entities_of, entity_of, body_of}
use Rattle.uno_entities.specs.declared.entity.Entity.{Entity}
use Rattle.rules_over_bases.specs.Known.{KeepsAt}

-- ---- the first place at which a test passes

at_first : {X : Type 0} (test : X → Bool) (xs : List X) (start i : ℕ) (d : X) → i < length xs → test (get_or xs i d) ≡ true
    → ((k : ℕ) → k < i → test (get_or xs k d) ≡ false) → position_from test start xs ≡ Some (start + i)
at_first test [] start i d within passes before = absurd (omega (arith, within))
at_first test (x ∷ xs) start zero d within passes before = let here : start + 0 ≡ start = omega arith in rw (passes, here) refl
at_first test (x ∷ xs) start (suc i) d within passes before =
    let rest = at_first test xs (start + 1) i d (omega (arith, within)) passes (λ k low. before (suc k) (omega (arith, low))) in
    let here : start + 1 + i ≡ start + suc i = omega arith in
    rw (before 0 (omega arith)) (rest ∙ ap (λ n. Some n) here)

at_none : {X : Type 0} (test : X → Bool) (xs : List X) (start : ℕ) (d : X) → ((k : ℕ) → k < length xs → test (get_or xs k d) ≡ false) → position_from test start xs ≡ None
at_none test [] start d none = refl
at_none test (x ∷ xs) start d none = rw (none 0 (omega arith)) (at_none test xs (start + 1) d (λ k low. none (suc k) (omega (arith, low))))

some_or_none : (b : Bool) (i : ℕ) (rest : Option ℕ) → cond b (Some i) rest ≡ None → (b ≡ false) × (rest ≡ None)
some_or_none true i rest is = let bad : Some i ≡ None = is in absurd cc
some_or_none false i rest is = (refl, is)

none_from : {X : Type 0} (test : X → Bool) (xs : List X) (start : ℕ) → position_from (λ x. not (test x)) start xs ≡ None → list_all test xs ≡ true
none_from test [] start none = refl
none_from test (x ∷ xs) start none =
    let parts = some_or_none (not (test x)) start _ none in
    rw (passes (test x) parts.0) (none_from test xs (start + 1) parts.1)
  where
    passes : (b : Bool) → not b ≡ false → b ≡ true
    passes true is = refl
    passes false is = let bad : true ≡ false = is in absurd cc

-- ---- rules

-- none is found that breaks a rule, so all keep it
pub all_keep : (rule : plain.Entity → Bool) (es : List Entity) → position (λ e. not (rule (entity_of e))) es ≡ None → list_all rule (entities_of es) ≡ true
all_keep rule es none = through es (none_from (λ e. rule (entity_of e)) es 0 (sym (position_from-zero (λ e. not (rule (entity_of e))) es) ∙ none))
  where
    through : (xs : List Entity) → list_all (λ e. rule (entity_of e)) xs ≡ true → list_all rule (entities_of xs) ≡ true
    through xs all = list_all-map rule entity_of xs ∙ all

-- the entity at a place
pub entity_read : (es : List Entity) (i : ℕ) (d : Entity) → i < length es → slice_get (entities_of es) i ≡ Some (entity_of (get_or es i d))
entity_read es i d within = slice_get-map entity_of es i ∙ ap (option_map entity_of) (slice_get-get_or es i d within)

-- the body that code reads is that of the entity at the place
pub body_read : (es : List Entity) (i : ℕ) (d : Entity) → i < length es → (e : plain.Entity) → slice_get (entities_of es) i ≡ Some e → body_of (get_or es i d).body ≡ e.body
body_read es i d within e at = bodies (entity_of (get_or es i d)) e (sym (entity_read es i d within) ∙ at)
  where
    bodies : (x y : plain.Entity) → Some x ≡ Some y → x.body ≡ y.body
    bodies x y both = let one : x ≡ y = cc in ap (λ (z : plain.Entity). z.body) one

-- what a test says of the entity that code reads it says of the one at the place
pub test_read : (test : plain.Entity → Bool) (es : List Entity) (i : ℕ) (d : Entity) → i < length es → d ≡ get_or es i d → (e : plain.Entity)
    → slice_get (entities_of es) i ≡ Some e → test (entity_of d) ≡ test e
test_read test es i d within is e at = same (entity_of d) e (ap (λ x. Some (entity_of x)) is ∙ sym (entity_read es i d within) ∙ at)
  where
    same : (x y : plain.Entity) → Some x ≡ Some y → test x ≡ test y
    same x y both = let one : x ≡ y = cc in ap test one

pub kept_at : (rule : plain.Entity → Bool) (es : List Entity) (i : ℕ) (answer : Bool) (d : Entity) → i < length es → KeepsAt rule (entities_of es) i answer
    → answer ≡ rule (entity_of (get_or es i d))
kept_at rule es i answer d within keeps = keeps (entity_of (get_or es i d)) (entity_read es i d within)

pub keeps_more : (rule : plain.Entity → Bool) (reg : List plain.Entity) (i : ℕ) (answer : Bool) → ((k : ℕ) → k < i → KeepsAt rule reg k true) → KeepsAt rule reg i answer
    → answer ≡ true → (k : ℕ) → k < i + 1 → KeepsAt rule reg k true
keeps_more rule reg i answer before here is = below_more (λ k. KeepsAt rule reg k true) i before (subst (KeepsAt rule reg i) is here)

pub first_broken : (rule : plain.Entity → Bool) (es : List Entity) (i : ℕ) (answer : Bool) → i < length es → ((k : ℕ) → k < i → KeepsAt rule (entities_of es) k true)
    → KeepsAt rule (entities_of es) i answer → answer ≡ false → Some i ≡ position (λ e. not (rule (entity_of e))) es
first_broken rule [] i answer within before here is = absurd (omega (arith, within))
first_broken rule (e ∷ es) i answer within before here is =
    let all = e ∷ es in
    let test = λ (x : Entity). not (rule (entity_of x)) in
    let from_zero : 0 + i ≡ i = omega arith in
    sym (position_from-zero test all ∙ at_first test all 0 i e within (sym (ap not (sym is ∙ kept_at rule all i answer e within here)))
    (λ k low. sym (ap not (kept_at rule all k true e (omega (arith, low, within)) (before k low))))
    ∙ ap (λ n. Some n) from_zero)

pub none_broken : (rule : plain.Entity → Bool) (es : List Entity) (count : ℕ) → length es ≤ count → ((k : ℕ) → k < count → KeepsAt rule (entities_of es) k true)
    → None ≡ position (λ e. not (rule (entity_of e))) es
none_broken rule [] count over each = refl
none_broken rule (e ∷ es) count over each =
    let all = e ∷ es in
    let test = λ (x : Entity). not (rule (entity_of x)) in
    sym (position_from-zero test all ∙ at_none test all 0 e (λ k low. sym (ap not (kept_at rule all k true e low (each k (omega (arith, over, low)))))))
