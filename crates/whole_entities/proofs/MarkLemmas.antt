-- Marks of a test at all entities.
use Rattle.std.proofs.Common.{◌≡◌, refl, sym, ap, ◌∙◌, ℕ, zero, suc, ◌+◌, ◌<◌, ◌≤◌, Bool, List, [], ◌∷◌, ◌++◌, length, map, take, get_or, slice_get, Some, arith}
use Rattle.std.proofs.lemmas.List.{take_all}
use Rattle.uno_model.specs.Entities as plain
use Rattle.uno_entities.specs.Entities.{entities_of, entity_of}
use Rattle.uno_entities.specs.declared.entity.Entity.{Entity}
use Rattle.rules_over_bases.specs.Known.{KeepsAt}

abbrev pub marks_of : (plain.Entity → Bool) → List Entity → List Bool
marks_of test es = map (λ e. test (entity_of e)) es

next_is : (i : ℕ) → suc i ≡ i + 1
next_is i = omega arith

told_more : (test : plain.Entity → Bool) (es : List Entity) (i : ℕ) (b : Bool) → i < length es → KeepsAt test (entities_of es) i b
    → marks_of test (take (suc i) es) ≡ marks_of test (take i es) ++ b ∷ []
told_more test [] i b low keeps = absurd (omega (arith, low))
told_more test (e ∷ es) zero b low keeps = ap (λ c. c ∷ []) (sym (keeps (entity_of e) refl))
told_more test (e ∷ es) (suc i) b low keeps = ap (λ bs. test (entity_of e) ∷ bs) (told_more test es i b (omega (arith, low)) (λ f there. keeps f there))

-- one mark more
pub marked_more : (test : plain.Entity → Bool) (es : List Entity) (i : ℕ) (b : Bool) (now new : List Bool) → i < length es → now ≡ marks_of test (take i es)
    → KeepsAt test (entities_of es) i b → new ≡ now ++ b ∷ [] → new ≡ marks_of test (take (i + 1) es)
marked_more test es i b now new low so_far keeps more =
    more ∙ ap (λ bs. bs ++ b ∷ []) so_far ∙ sym (told_more test es i b low keeps) ∙ ap (λ n. marks_of test (take n es)) (next_is i)

pub all_marked : (test : plain.Entity → Bool) (es : List Entity) (i : ℕ) (marks : List Bool) → length es ≤ i → marks ≡ marks_of test (take i es) → marks ≡ marks_of test es
all_marked test es i marks end so_far = so_far ∙ ap (marks_of test) (take_all i es end)

same_some : {X : Type 0} (x y : X) → Some x ≡ Some y → x ≡ y
same_some x y both = cc

-- what a mark says
pub mark_keeps : (test : plain.Entity → Bool) (es : List Entity) (i : ℕ) (b d : Bool) (marks : List Bool) → i < length es → marks ≡ marks_of test es → b ≡ get_or marks i d
    → KeepsAt test (entities_of es) i b
mark_keeps test es i b d marks low are is e there =
    is ∙ ap (λ ms. get_or ms i d) are ∙ by_place es i low there
  where
    by_place : (es : List Entity) (i : ℕ) → i < length es → slice_get (entities_of es) i ≡ Some e → get_or (marks_of test es) i d ≡ test e
    by_place [] i low there = absurd (omega (arith, low))
    by_place (f ∷ fs) zero low there = ap test (same_some (entity_of f) e there)
    by_place (f ∷ fs) (suc i) low there = by_place fs i (omega (arith, low)) there
