-- What is found by its name stands at a place.
use Rattle.std.proofs.Common.{◌≡◌, ℕ, suc, Bool, true, false, List, [], ◌∷◌, Option, None, Some, refl, sym, ap, ◌∙◌, if◌then◌else◌, ◌⊎◌, inl, inr}
use Rattle.std.specs.Prelude.{slice_get}
use Rattle.std.specs.Str.{bytes_eq}
use Rattle.std.proofs.lemmas.Slice.Eq.{bytes_eq-Decides}
use Rattle.uno_model.specs.Entities.{Entity}
use Rattle.uno_model.specs.Registry.{find_entity}

-- which way a test went
pub chosen : {X : Type 0} (b : Bool) (x y z : X) → (if b then x else y) ≡ z → ((b ≡ true) × (x ≡ z)) ⊎ ((b ≡ false) × (y ≡ z))
chosen true x y z e = inl (refl, e)
chosen false x y z e = inr (refl, e)

-- an entity that is found stands at a place
pub found_place : (name : List ℕ) (es : List Entity) (e : Entity) → find_entity name es ≡ Some e → (i : ℕ) × (slice_get es i ≡ Some e) × (e.name ≡ name)
unfolding find_entity
found_place name [] e found = let bad : None ≡ Some e = found in cc
found_place name (x ∷ xs) e found =
    elim (chosen (bytes_eq name x.name) (Some x) (find_entity name xs) (Some e) found)
    [ inl here ↦ at_head here.0 here.1 | inr behind ↦ later (found_place name xs e behind.1) ]
  where
    at_head : bytes_eq name x.name ≡ true → Some x ≡ Some e → (i : ℕ) × (slice_get (x ∷ xs) i ≡ Some e) × (e.name ≡ name)
    at_head same is = let one : x ≡ e = cc in (0, is, sym (ap (λ (y : Entity). y.name) one) ∙ sym ((bytes_eq-Decides name x.name).0 same))

    later : (i : ℕ) × (slice_get xs i ≡ Some e) × (e.name ≡ name) → (i : ℕ) × (slice_get (x ∷ xs) i ≡ Some e) × (e.name ≡ name)
    later place = (suc place.0, place.1, place.2)
