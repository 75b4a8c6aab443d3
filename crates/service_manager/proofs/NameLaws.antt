-- The names of services, and which of them entities have.
use Rattle.std.proofs.Common.{◌≡◌, ℕ, ◌+◌, ◌<◌, Bool, true, false, cond, List, [], ◌∷◌, length, get_or, take, Result, Ok, Err, refl, sym, ap, ◌∙◌, map}
use Rattle.std.specs.Prelude.{◌||◌, IfOk}
use Rattle.std.specs.Cmp.Lexicographic.{nat_list_eq_equiv}
use Rattle.std.specs.List.{list_any}
use Rattle.std.specs.Str.{bytes_eq}
use Rattle.std.proofs.lemmas.List.Folds.{list_any_more}
use Rattle.plan_model.specs.Services.{has_name}
use Rattle.plan_types.specs.declared.plan.Offer.{Offer}
use Rattle.plan_types.specs.Plans.{offer_of}
use Rattle.uno_entities.specs.declared.entity.Entity.{Entity}
use Rattle.uno_entities.specs.Entities.{entities_of}
use Rattle.service_manager.proofs.SingletonLaws.{any_same}

either : (a b d : Bool) → b ≡ d → cond b true a ≡ (a || d)
either true true d is = refl
either true false d is = refl
either false true d is = is
either false false d is = is

-- one service more
pub one_offered : (q key : List ℕ) (known : Bool) (os : List Offer) (i : ℕ) (o : Offer) → i < length os → o ≡ get_or os i o → key ≡ o.name → known ≡ list_any (has_name q) (map offer_of (take i os))
    → cond (bytes_eq key q) true known ≡ list_any (has_name q) (map offer_of (take (i + 1) os))
one_offered q key known os i o within is name so_far =
    either known (bytes_eq key q) (bytes_eq q o.name) (ap (λ k. bytes_eq k q) name ∙ nat_list_eq_equiv.symm o.name q)
    ∙ ap (λ b. b || bytes_eq q o.name) (so_far ∙ any_same q (take i os))
    ∙ ap (λ o. list_any (λ o. has_name q (offer_of o)) (take i os) || has_name q (offer_of o)) is
    ∙ sym (list_any_more (λ o. has_name q (offer_of o)) os i o within) ∙ sym (any_same q (take (i + 1) os))

-- the names of entities are those of their plain trees
pub names_same : (es : List Entity) → map {B = List ℕ} (λ e. e.name) es ≡ map (λ e. e.name) (entities_of es)
names_same [] = refl
names_same (e ∷ es) = ap (λ rest. e.name ∷ rest) (names_same es)

-- what is given is what is to be given
pub as_wanted : {V E : Type 0} (items : V → List (List ℕ)) (given wanted : List (List ℕ)) (r : Result V E) → given ≡ wanted → IfOk r (λ v. items v ≡ given) → IfOk r (λ v. items v ≡ wanted)
as_wanted items given wanted (Ok v) same is = is ∙ same
as_wanted items given wanted (Err e) same is = is
