-- Functions by their numbers, and what their parameters give, one after the other.
use Rattle.std.proofs.Common.{◌≡◌, ℕ, zero, suc, add-one, ◌+◌, ◌<◌, ◌≤◌, Bool, true, false, List, [], ◌∷◌, ◌++◌, length, map, drop, get_or, Option, None, Some, refl, sym, ap, ◌∙◌, arith, slice_get, subst, if◌then◌else◌}
use Rattle.std.specs.List.{position_or_len, Contains}
use Rattle.std.proofs.lemmas.List.{append_assoc, append-nil, drop_all}
use Rattle.message_model.specs.Calls.{comes, kinds_on}
use Rattle.plan_model.specs.Asking.{out_values}
use Rattle.plan_model.specs.Evaluation.{value_under}
use Rattle.plan_model.specs.Frames.{Variable}
use Rattle.uno_model.specs.Entities.{Entity, Param}
use Rattle.plan_model.specs.Calling.{number_in}
use Rattle.plan_model.specs.Statements.{Callee}
use Rattle.uno_model.specs.Functions.{Function, functions_of, met_within, is_met, visit_all, declared_by}
use Rattle.uno_model.specs.Kinds.{Kind}
use Rattle.uno_model.specs.Registry.{find_entity}
use Rattle.uno_model.specs.Sound.{IsSound}
use Rattle.uno_model.specs.Values.{Plain}
use Rattle.uno_model.proofs.ReachLaws.{found_place}
use Rattle.type_registry.specs.Functions.{function_of, functions_at}
use Rattle.type_registry.specs.declared.function.Function.{Function as Owned}
use Rattle.uno_values.proofs.Parts.{part_at}
use Rattle.behaviour.specs.Functions.{is_callee, one_or_none}

-- ---- what is at a place

-- the list from a place on begins with what is there
begins_with : {A : Type 0} (xs : List A) (i : ℕ) (x : A) → slice_get xs i ≡ Some x → drop i xs ≡ x ∷ drop (suc i) xs
begins_with [] i x is = let bad : ⊥ = cc in absurd bad
begins_with (y ∷ xs) zero x is = let one : y ≡ x = cc in ap (λ z. z ∷ xs) one
begins_with (y ∷ xs) (suc i) x is = begins_with xs i x is

pub there : {A : Type 0} (xs : List A) (i : ℕ) (x : A) → slice_get xs i ≡ Some x → drop i xs ≡ x ∷ drop (i + 1) xs
there xs i x is = begins_with xs i x is ∙ sym (ap (λ n. x ∷ drop n xs) (add-one i))

-- past the end there is nothing
pub nothing_there : {A : Type 0} (xs : List A) (i : ℕ) → slice_get xs i ≡ None → drop i xs ≡ []
nothing_there [] zero is = refl
nothing_there [] (suc i) is = refl
nothing_there (y ∷ xs) zero is = let bad : ⊥ = cc in absurd bad
nothing_there (y ∷ xs) (suc i) is = nothing_there xs i is

nothing_after : {A : Type 0} (xs : List A) (i : ℕ) → slice_get xs i ≡ None → drop (suc i) xs ≡ []
nothing_after [] i is = refl
nothing_after (y ∷ xs) zero is = let bad : ⊥ = cc in absurd bad
nothing_after (y ∷ xs) (suc i) is = nothing_after xs i is

nothing_behind : {A : Type 0} (xs : List A) (i : ℕ) → slice_get xs i ≡ None → drop (i + 1) xs ≡ []
nothing_behind xs i is = ap (λ n. drop n xs) (add-one i) ∙ nothing_after xs i is

-- what is at a place is one of the list
contained_at : {A : Type 0} (xs : List A) (i : ℕ) (x : A) → slice_get xs i ≡ Some x → Contains xs x
contained_at [] i x is = let bad : ⊥ = cc in absurd bad
contained_at (y ∷ xs) zero x is = let one : y ≡ x = cc in (0, omega arith, one)
contained_at (y ∷ xs) (suc i) x is = let rest = contained_at xs i x is in (suc rest.0, omega (arith, rest.1), rest.2)

-- ---- numbers

-- the function at a number is another one
pub number_behind : (p : Function → Bool) (fs : List Function) (i : ℕ) (f : Function) (whole : ℕ) → slice_get fs i ≡ Some f → p f ≡ false
    → i + position_or_len p (drop i fs) ≡ whole → (i + 1) + position_or_len p (drop (i + 1) fs) ≡ whole
number_behind p fs i f whole is other all = let here = rw (there fs i f is) at all in grind (arith, here, other)

pub number_here : (p : Function → Bool) (fs : List Function) (i : ℕ) (f : Function) (whole : ℕ) → slice_get fs i ≡ Some f → p f ≡ true
    → i + position_or_len p (drop i fs) ≡ whole → i ≡ whole
number_here p fs i f whole is same all = let here = rw (there fs i f is) at all in grind (arith, here, same)

pub number_nowhere : (p : Function → Bool) (fs : List Function) (i : ℕ) (whole : ℕ) → slice_get fs i ≡ None
    → i + position_or_len p (drop i fs) ≡ whole → i ≡ whole
number_nowhere p fs i whole is all = let here = rw (nothing_there fs i is) at all in omega (arith, here)

pub number_past : (p : Function → Bool) (fs : List Function) (i : ℕ) (whole : ℕ) → length fs ≤ i
    → i + position_or_len p (drop i fs) ≡ whole → i ≡ whole
number_past p fs i whole past all = let here = rw (drop_all i fs past) at all in omega (arith, here)

-- the same of a table
pub place_behind : (p : Function → Bool) (ts : List Owned) (i : ℕ) (t : Owned) (place whole : ℕ) → i < length ts → t ≡ get_or ts i t → p (function_of t) ≡ false
    → place + position_or_len p (functions_at (drop i ts)) ≡ whole → (place + 1) + position_or_len p (functions_at (drop (i + 1) ts)) ≡ whole
place_behind p ts i t place whole within is other all = let here = rw (part_at ts i t within is) at all in grind (arith, here, other)

pub place_here : (p : Function → Bool) (ts : List Owned) (i : ℕ) (t : Owned) (place whole : ℕ) → i < length ts → t ≡ get_or ts i t → p (function_of t) ≡ true
    → place + position_or_len p (functions_at (drop i ts)) ≡ whole → place ≡ whole
place_here p ts i t place whole within is same all = let here = rw (part_at ts i t within is) at all in grind (arith, here, same)

pub place_past : (p : Function → Bool) (ts : List Owned) (i place whole : ℕ) → length ts ≤ i → place + position_or_len p (functions_at (drop i ts)) ≡ whole → place ≡ whole
place_past p ts i place whole past all = let here = rw (drop_all i ts past) at all in omega (arith, here)

-- ---- parameters

-- what one gives stands before what those behind it give
step_over : {A B : Type 0} (F : List A → List B) → ((x : A) (xs : List A) → F (x ∷ xs) ≡ F (x ∷ []) ++ F xs) → F [] ≡ [] → (ps : List A) (i : ℕ) (o : Option A) → slice_get ps i ≡ o
    → F (one_or_none o) ++ F (drop (i + 1) ps) ≡ F (drop i ps)
step_over F splits none ps i (Some x) is = rw (there ps i x is) (sym (splits x (drop (i + 1) ps)))
step_over F splits none ps i None is = rw (nothing_there ps i is, nothing_behind ps i is, none) refl

pub gives_more : {A B : Type 0} (F : List A → List B) → ((x : A) (xs : List A) → F (x ∷ xs) ≡ F (x ∷ []) ++ F xs) → F [] ≡ [] → (ps : List A) (i : ℕ) (o : Option A) (xs ys whole : List B)
    → o ≡ slice_get ps i → ys ≡ xs ++ F (one_or_none o) → xs ++ F (drop i ps) ≡ whole → ys ++ F (drop (i + 1) ps) ≡ whole
gives_more F splits none ps i o xs ys whole is pushed all =
    let step = step_over F splits none ps i o (sym is) in
    rw (pushed, append_assoc xs (F (one_or_none o)) (F (drop (i + 1) ps)), step) all

pub gives_all : {A B : Type 0} (F : List A → List B) → F [] ≡ [] → (ps : List A) (i : ℕ) (xs whole : List B) → length ps ≤ i → xs ++ F (drop i ps) ≡ whole → xs ≡ whole
gives_all F none ps i xs whole past all = let here = rw (drop_all i ps past, none) at all in sym (append-nil xs) ∙ here

-- the values that come out of parameters, and the defaults of their types
pub outs_split : (vars : List Variable) (p : Param) (ps : List Param) → out_values (p ∷ ps) vars ≡ out_values (p ∷ []) vars ++ out_values ps vars
unfolding out_values
outs_split vars p ps = by_way (comes p.way)
  where
    by_way : (b : Bool) → (if b then value_under p.name vars ∷ out_values ps vars else out_values ps vars) ≡ (if b then value_under p.name vars ∷ [] else []) ++ out_values ps vars
    by_way true = refl
    by_way false = refl

pub no_outs : (vars : List Variable) → out_values [] vars ≡ []
unfolding out_values
no_outs vars = refl

pub kinds_split : (view : Kind → Plain) (p : Param) (ps : List Param) → map view (kinds_on comes (p ∷ ps)) ≡ map view (kinds_on comes (p ∷ [])) ++ map view (kinds_on comes ps)
unfolding kinds_on
kinds_split view p ps = by_way (comes p.way)
  where
    by_way : (b : Bool)
        → map view (if b then p.kind ∷ kinds_on comes ps else kinds_on comes ps) ≡ map view (if b then p.kind ∷ [] else []) ++ map view (kinds_on comes ps)
    by_way true = refl
    by_way false = refl

pub no_kinds : (view : Kind → Plain) → map view (kinds_on comes []) ≡ []
unfolding kinds_on
no_kinds view = refl

-- ---- how many functions there are

none_few : (name : List ℕ) (found : Option Entity) → found ≡ None → length (declared_by name found ++ []) ≤ 65536
none_few name found none = subst (λ o. length (declared_by name o ++ []) ≤ 65536) (sym none) (omega arith)

few_of : (reg : List Entity) (name : List ℕ) (found : Option Entity) → IsSound reg → find_entity name reg ≡ found → length (functions_of reg name) ≤ 65536
unfolding met_within is_met visit_all
few_of reg name None sound is = rw is (none_few name (find_entity name reg) is)
few_of reg name (Some e) sound is =
    let at = found_place name reg e is in
    subst (λ n. length (functions_of reg n) ≤ 65536) at.2 (sound.functions e (contained_at reg at.0 e at.1))

pub few_functions : (reg : List Entity) (name : List ℕ) → IsSound reg → length (functions_of reg name) ≤ 65536
few_functions reg name sound = few_of reg name (find_entity name reg) sound refl

-- the number is the one of the definition
pub number_told : (reg : List Entity) (face : List ℕ) (c : Callee) → position_or_len (is_callee c) (functions_of reg face) ≡ number_in reg face c
unfolding number_in
number_told reg face c = refl
