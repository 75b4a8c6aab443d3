-- Whether names are there, name by name.
use Rattle.std.proofs.Common.{◌≡◌, ℕ, ◌+◌, ◌<◌, ◌≤◌, Bool, true, false, ◌&&◌, List, ◌++◌, length, map, drop, get_or, sym, ap, ◌∙◌}
use Rattle.std.specs.List.{flat_map, list_all}
use Rattle.std.proofs.lemmas.List.{drop_all}
use Rattle.std.proofs.lemmas.List.Folds.{list_all-append}
use Rattle.bridge_model.specs.RootRuns.{argument_names, names_in, names_in_all}
use Rattle.plan_types.specs.Expressions.{argument_of, expression_of, expressions_of}
use Rattle.plan_types.specs.declared.expression.Argument.{Argument}
use Rattle.plan_types.specs.declared.expression.Expression.{Expression}
use Rattle.uno_values.proofs.Parts.{part_at}

-- of two lists of names: the first does not pass, or it passes
pub stops : {A : Type 0} (p : A → Bool) (xs ys : List A) → list_all p xs ≡ false → list_all p (xs ++ ys) ≡ false
stops p xs ys none = list_all-append p xs ys ∙ ap (λ b. b && list_all p ys) none

pub goes_by : {A : Type 0} (p : A → Bool) (xs ys : List A) → list_all p xs ≡ true → list_all p (xs ++ ys) ≡ list_all p ys
goes_by p xs ys all = list_all-append p xs ys ∙ ap (λ b. b && list_all p ys) all

pub argument_here : (p : List ℕ → Bool) (gs : List Argument) (i : ℕ) (g : Argument) (whole : Bool) → i < length gs → g ≡ get_or gs i g → list_all p (argument_names (argument_of g)) ≡ false
    → list_all p (flat_map argument_names (map argument_of (drop i gs))) ≡ whole → false ≡ whole
argument_here p gs i g whole within is none all =
    let here = rw (part_at gs i g within is) at all in
    sym (stops p (argument_names (argument_of g)) (flat_map argument_names (map argument_of (drop (i + 1) gs))) none) ∙ here

pub argument_behind : (p : List ℕ → Bool) (gs : List Argument) (i : ℕ) (g : Argument) (whole : Bool) → i < length gs → g ≡ get_or gs i g → list_all p (argument_names (argument_of g)) ≡ true
    → list_all p (flat_map argument_names (map argument_of (drop i gs))) ≡ whole → list_all p (flat_map argument_names (map argument_of (drop (i + 1) gs))) ≡ whole
argument_behind p gs i g whole within is there all =
    let here = rw (part_at gs i g within is) at all in
    sym (goes_by p (argument_names (argument_of g)) (flat_map argument_names (map argument_of (drop (i + 1) gs))) there) ∙ here

pub arguments_past : (p : List ℕ → Bool) (gs : List Argument) (i : ℕ) (whole : Bool) → length gs ≤ i → list_all p (flat_map argument_names (map argument_of (drop i gs))) ≡ whole → true ≡ whole
arguments_past p gs i whole past all = rw (drop_all i gs past) at all

pub expression_here : (p : List ℕ → Bool) (es : List Expression) (i : ℕ) (e : Expression) (whole : Bool) → i < length es → e ≡ get_or es i e → list_all p (names_in (expression_of e)) ≡ false
    → list_all p (names_in_all (expressions_of (drop i es))) ≡ whole → false ≡ whole
unfolding names_in_all
expression_here p es i e whole within is none all =
    let here = rw (part_at es i e within is) at all in
    sym (stops p (names_in (expression_of e)) (names_in_all (expressions_of (drop (i + 1) es))) none) ∙ here

pub expression_behind : (p : List ℕ → Bool) (es : List Expression) (i : ℕ) (e : Expression) (whole : Bool) → i < length es → e ≡ get_or es i e → list_all p (names_in (expression_of e)) ≡ true
    → list_all p (names_in_all (expressions_of (drop i es))) ≡ whole → list_all p (names_in_all (expressions_of (drop (i + 1) es))) ≡ whole
unfolding names_in_all
expression_behind p es i e whole within is there all =
    let here = rw (part_at es i e within is) at all in
    sym (goes_by p (names_in (expression_of e)) (names_in_all (expressions_of (drop (i + 1) es))) there) ∙ here

pub expressions_past : (p : List ℕ → Bool) (es : List Expression) (i : ℕ) (whole : Bool) → length es ≤ i → list_all p (names_in_all (expressions_of (drop i es))) ≡ whole → true ≡ whole
unfolding names_in_all
expressions_past p es i whole past all = rw (drop_all i es past) at all
