-- The singleton of a name, by its place.
use Rattle.std.proofs.Common.{◌≡◌, ℕ, ◌+◌, Bool, true, false, cond, List, [], ◌∷◌, length, None, Some, Result, Ok, Err, refl, sym, ap, ◌∙◌, map, not, suc, arith}
use Rattle.std.proofs.lemmas.Bool.Decides.{nat_tests}
use Rattle.uno_values.specs.Values.{plain_of}
use Rattle.uno_values.specs.declared.value.Value.{Value}
use Rattle.std.specs.Prelude.{◌||◌, ◌==◌, nat_lt}
use Rattle.std.specs.List.{list_any, position, position_or_len}
use Rattle.uno_model.specs.Values.{Plain}
use Rattle.plan_model.specs.Services.{Created, singleton, has_name, of_singleton, among_singletons}
use Rattle.plan_model.specs.declared.refusal.Refusal.{Refusal}
use Rattle.plan_model.specs.declared.refusal.Refusal.TheVariants.{UnknownService, BadArguments}
use Rattle.plan_types.specs.declared.plan.Offer.{Offer}
use Rattle.plan_types.specs.Plans.{offer_of}

module _ (name : List ℕ) where
  pub any_same : (os : List Offer) → list_any (has_name name) (map offer_of os) ≡ list_any (λ o. has_name name (offer_of o)) os
  any_same [] = refl
  any_same (o ∷ os) = ap (λ b. has_name name (offer_of o) || b) (any_same os)

  place_same : (os : List Offer) → position_or_len (has_name name) (map offer_of os) ≡ position_or_len (λ o. has_name name (offer_of o)) os
  place_same [] = refl
  place_same (o ∷ os) = ap (λ n. cond (not (has_name name (offer_of o))) (1 + n) 0) (place_same os)

less_more : (a b : ℕ) → nat_lt (1 + a) (suc b) ≡ nat_lt a b
less_more a b = grind (arith, nat_tests)

-- an item passes exactly where the first one that does has a place in the list
any_place : {X : Type 0} (p : X → Bool) (xs : List X) → list_any p xs ≡ nat_lt (position_or_len p xs) (length xs)
any_place p [] = refl
any_place p (x ∷ xs) =
    elim (p x) as (λ b. (b || list_any p xs) ≡ nat_lt (cond (not b) (1 + position_or_len p xs) 0) (suc (length xs))) [
      | true ↦ first (length xs)
      | false ↦ any_place p xs ∙ sym (less_more (position_or_len p xs) (length xs))
    ]
  where
    first : (n : ℕ) → true ≡ nat_lt 0 (suc n)
    first n = grind (arith, nat_tests)

module _ (name : List ℕ) (os : List Offer) (args : List Plain) where
  is_it : Offer → Bool
  is_it o = has_name name (offer_of o)

  among : Bool → ℕ → Result Created Refusal
  among b n = cond b (of_singleton n args) (Err UnknownService)

  among_is : among_singletons name (map offer_of os) args ≡ among (list_any is_it os) (position_or_len is_it os)
  unfolding among is_it
  among_is = λ i. among (any_same name os i) (place_same name os i)

  placed : position is_it os ≡ cond (list_any is_it os) (Some (position_or_len is_it os)) None
  placed = ap (λ b. cond b (Some (position_or_len is_it os)) None) (sym (any_place is_it os))

  of_none : (b : Bool) (n : ℕ) → None ≡ cond b (Some n) None → among b n ≡ Err UnknownService
  unfolding among
  of_none true n none = let bad : ⊥ = cc in absurd bad
  of_none false n none = refl

  of_some : (b : Bool) (n place : ℕ) → Some place ≡ cond b (Some n) None → among b n ≡ of_singleton place args
  unfolding among
  of_some true n place is = let same : n ≡ place = cc in ap (λ n. of_singleton n args) same
  of_some false n place is = let bad : ⊥ = cc in absurd bad

  -- a name that no singleton has, and one that has a place among them
  pub among_none : None ≡ position (λ o. has_name name (offer_of o)) os → among_singletons name (map offer_of os) args ≡ Err UnknownService
  unfolding is_it
  among_none none = among_is ∙ of_none (list_any is_it os) (position_or_len is_it os) (none ∙ placed)

  pub among_some : (place : ℕ) → Some place ≡ position (λ o. has_name name (offer_of o)) os → among_singletons name (map offer_of os) args ≡ of_singleton place args
  unfolding is_it
  among_some place is = among_is ∙ of_some (list_any is_it os) (position_or_len is_it os) place (is ∙ placed)

not_zero : (n : ℕ) → (suc n == 0) ≡ true → ⊥
not_zero n is = grind (arith, nat_tests)

-- a singleton takes no arguments
pub takes_none : (place : ℕ) (vs : List Value) → (length vs == 0) ≡ true → of_singleton place (map plain_of vs) ≡ Ok (singleton place)
takes_none place [] none = refl
takes_none place (v ∷ vs) none = absurd (not_zero (length vs) none)

pub takes_some : (place : ℕ) (vs : List Value) → (length vs == 0) ≡ false → of_singleton place (map plain_of vs) ≡ Err BadArguments
takes_some place [] some = let bad : ⊥ = cc in absurd bad
takes_some place (v ∷ vs) some = refl
