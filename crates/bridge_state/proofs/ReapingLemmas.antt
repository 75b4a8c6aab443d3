-- The lowest object that may go is the one of its number.
use Rattle.std.proofs.Common.{◌≡◌, refl, sym, ap, ◌∙◌, ℕ, Bool, true, false, cond, ◌==◌, List, [], ◌∷◌, Option, None, Some, arith}
use Rattle.std.proofs.lemmas.Bool.Decides.{nat_tests}
use Rattle.std.specs.List.{find}
use Rattle.plan_model.specs.Frames.{Stack}
use Rattle.bridge_model.specs.Going.{reaps, reaps_object}
use Rattle.bridge_model.specs.Objects.{lowest, may_go, object_numbered}
use Rattle.bridge_model.specs.Settings.{Setting}
use Rattle.bridge_model.specs.Sides.{Object, Tables, Incoming, Outgoing, stands_by}
use Rattle.bridge_model.specs.Steps.{reaps_some}
use Rattle.bridge_model.specs.declared.cause.Cause.{Cause}
use Rattle.bridge_objects.specs.Kept.{number_of}
use Rattle.bridge_tables.specs.EndTables.{EndTables, on_tables}
use Rattle.bridge_state.specs.EndSides.{EndSide, on_side}
use Rattle.bridge_state.proofs.Seen.{seen}

found_passes : {A : Type 0} (p : A → Bool) (xs : List A) (x : A) → find p xs ≡ Some x → p x ≡ true
found_passes p [] x is = absurd (cc)
found_passes p (y ∷ xs) x is =
    elim (p y) as (λ b. p y ≡ b → cond b (Some y) (find p xs) ≡ Some x → p x ≡ true) [
      | true ↦ λ passes is. let same : y ≡ x = cc in ap p (sym same) ∙ passes
      | false ↦ λ _ is. found_passes p xs x is
    ] refl is

same_number : (n : ℕ) → (n == n) ≡ true
same_number n = grind (arith, nat_tests)

other_number : (n m : ℕ) (b : Bool) → (n == m) ≡ b → (n ≡ m → ⊥) → b ≡ false
other_number n m true is other = let same : n ≡ m = grind (arith, nat_tests) in absurd (other same)
other_number n m false is other = refl

-- what a test of numbers finds first is the first of its number
module _ {A : Type 0} (p : ℕ → Bool) (number : A → ℕ) where
  found_numbered : (xs : List A) (x : A) → find (λ y. p (number y)) xs ≡ Some x → find (λ y. number x == number y) xs ≡ Some x
  found_numbered [] x is = absurd (cc)
  found_numbered (y ∷ xs) x is =
      elim (p (number y)) as (λ b. p (number y) ≡ b → cond b (Some y) (find (λ z. p (number z)) xs) ≡ Some x → cond (number x == number y) (Some y) (find (λ z. number x == number z) xs) ≡ Some x) [
        | true ↦ λ _ is.
            let same : y ≡ x = cc in
            ap (λ b. cond b (Some y) (find (λ z. number x == number z) xs)) (ap (λ z. number x == number z) same ∙ same_number (number x)) ∙ is
        | false ↦ λ fails is.
            let passes = found_passes (λ z. p (number z)) xs x is in
            ap (λ b. cond b (Some y) (find (λ z. number x == number z) xs))
            (other_number (number x) (number y) (number x == number y) refl (λ same. let bad : true ≡ false = sym passes ∙ ap p same ∙ fails in absurd (cc)))
            ∙ found_numbered xs x is
      ] refl is

-- there is one of this number
lowest_in : (o : Option Object) (n : ℕ) → number_of o ≡ Some n → (x : Object) × (o ≡ Some x) × (x.number ≡ n)
lowest_in None n is = absurd (cc)
lowest_in (Some x) n is = let same : x.number ≡ n = cc in (x, refl, same)

lowest_numbered : (g : Setting) (t : Tables) (x : Object) → lowest g t ≡ Some x → object_numbered x.number t.objects ≡ Some x
unfolding lowest object_numbered
lowest_numbered g t x is = found_numbered (λ n. may_go g t (record { number = n; behaviour = 0; fields = [] })) (λ o. o.number) t.objects x is

module _ (g : Setting) (e after : EndTables) (n : ℕ) (is : number_of (lowest g e.tables) ≡ Some n)
    (gone : (o : Object) → object_numbered n e.tables.objects ≡ Some o → after ≡ on_tables (reaps_object g e.stands o) e) where
  gone_lowest : (x : Object) × (lowest g e.tables ≡ Some x) × (after ≡ on_tables (reaps_object g e.stands x) e)
  gone_lowest =
      let one = lowest_in (lowest g e.tables) n is in
      (one.0, one.1, gone one.0 (ap (λ m. object_numbered m e.tables.objects) (sym one.2) ∙ lowest_numbered g e.tables one.0 one.1))

  pub still_stands : after.stands ≡ e.stands
  still_stands = ap (λ x. x.stands) gone_lowest.2

  pub reaped_side : (stacks : List Stack) (incoming : Incoming) (outgoing : Outgoing) (entries : ℕ) (cause : Option Cause) (old : EndSide) → seen e stacks incoming outgoing entries cause ≡ old
      → e.stands ≡ stands_by cause → seen after stacks incoming outgoing entries cause ≡ on_side (λ s. reaps_some g (lowest g s.tables) s) old
  unfolding reaps
  reaped_side stacks incoming outgoing entries cause old view up =
      ap (λ x. seen x stacks incoming outgoing entries cause) gone_lowest.2
      ∙ ap (λ b. seen (on_tables (reaps_object g b gone_lowest.0) e) stacks incoming outgoing entries cause) up
      ∙ ap (λ o. on_side (reaps_some g o) (seen e stacks incoming outgoing entries cause)) (sym gone_lowest.1)
      ∙ ap (on_side (λ s. reaps_some g (lowest g s.tables) s)) view
