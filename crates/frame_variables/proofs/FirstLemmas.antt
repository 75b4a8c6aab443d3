-- The variables of a method that begins, parameter by parameter.
use Rattle.std.proofs.Common.{◌≡◌, ℕ, zero, suc, add-one, ◌+◌, ◌≤◌, List, [], ◌∷◌, ◌++◌, length, drop, refl, sym, ap, ◌∙◌, slice_get}
use Rattle.std.specs.Prelude.{Option, Result, Ok, Err, OnOk}
use Rattle.std.proofs.lemmas.List.{append-nil, drop_all}
use Rattle.plan_model.specs.Frames.{Variable}
use Rattle.plan_model.specs.Holdings.{first_variables}
use Rattle.uno_model.specs.Entities.{Entity, Param}
use Rattle.uno_model.specs.Values.{Plain}
use Rattle.frame_variables.specs.Taking.{one_or_none}

-- all parameters have their variables
pub first_done : (reg : List Entity) (ps : List Param) (i : ℕ) (xs : List Variable) (args : List Plain) (whole : List Variable) → length ps ≤ i
    → xs ++ first_variables reg (drop i ps) args ≡ whole → xs ≡ whole
unfolding first_variables
first_done reg ps i xs args whole past all = let here = rw (drop_all i ps past) at all in sym (append-nil xs) ∙ here

-- the parameters from a place on are the one that is there, if any, and those behind it
from_place : (ps : List Param) (i : ℕ) → drop i ps ≡ one_or_none (slice_get ps i) ++ drop (suc i) ps
from_place [] zero = refl
from_place [] (suc i) = refl
from_place (p ∷ ps) zero = refl
from_place (p ∷ ps) (suc i) = from_place ps i

from_ok : {E P : Type 0} (r : Result Unit E) (u : Unit) → r ≡ Ok u → OnOk r P → P
from_ok (Ok v) u is p = p
from_ok (Err e) u is p = let bad : ⊥ = cc in absurd bad

-- one parameter more
pub first_more : {E : Type 0} (r : Result Unit E) (u : Unit) (reg : List Entity) (ps : List Param) (i : ℕ) (o : Option Param) (before after whole : List Variable) (args rest : List Plain)
    → r ≡ Ok u → o ≡ slice_get ps i → ((qs : List Param) → OnOk r (after ++ first_variables reg qs rest ≡ before ++ first_variables reg (one_or_none o ++ qs) args))
    → before ++ first_variables reg (drop i ps) args ≡ whole → after ++ first_variables reg (drop (i + 1) ps) rest ≡ whole
first_more r u reg ps i o before after whole args rest ok is step all =
    let here : drop i ps ≡ one_or_none o ++ drop (i + 1) ps = from_place ps i ∙ (ap (λ p. one_or_none p ++ drop (suc i) ps) (sym is) ∙ ap (λ n. one_or_none o ++ drop n ps) (sym (add-one i))) in
    from_ok r u ok (step (drop (i + 1) ps)) ∙ (ap (λ qs. before ++ first_variables reg qs args) (sym here) ∙ all)
