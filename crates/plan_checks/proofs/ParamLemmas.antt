-- What is given for parameters, one after the other.
use Rattle.std.proofs.Common.{◌≡◌, ℕ, ◌<◌, ◌≤◌, ◌+◌, zero, suc, List, [], ◌∷◌, ◌++◌, length, map, drop, get_or, refl, sym, ap, ◌∙◌, arith, Option, None, Some}
use Rattle.std.specs.Prelude.{slice_get}
use Rattle.std.proofs.lemmas.List.{drop_more, drop_all, append_assoc, append-nil, length-append, map-append}
use Rattle.plan_model.specs.Contexts.{Context}
use Rattle.plan_model.specs.Evaluation.{both_values}
use Rattle.plan_model.specs.Expressions as e
use Rattle.plan_model.specs.Typing.{argument_of, arguments_of}
use Rattle.uno_model.specs.Entities as plain
use Rattle.plan_model.specs.Lines as line
use Rattle.plan_lines.specs.Terms.{term_of}
use Rattle.plan_lines.specs.declared.term.Term.{Term}
use Rattle.plan_types.specs.Expressions as rust
use Rattle.plan_types.specs.declared.expression.Argument as given
use Rattle.plan_checks.proofs.CheckLemmas.{misfit_so}
use Rattle.plan_checks.specs.Checks.{MisfitBy}
use Rattle.plan_checks.specs.Typed.{behind_list}
use Rattle.plan_checks.specs.declared.line_error.LineError.{LineError}

terms_at : (ts : List Term) (i : ℕ) (t : Term) → i < length ts → t ≡ get_or ts i t → map term_of (drop i ts) ≡ term_of t ∷ map term_of (drop (i + 1) ts)
terms_at ts i t within is = ap (map term_of) (drop_more ts i t within) ∙ ap (λ u. term_of u ∷ map term_of (drop (i + 1) ts)) (sym is)

-- what is left of a list from a place on
pub at_place : {X : Type 0} (xs : List X) (i : ℕ) (x : X) → Some x ≡ slice_get xs i → drop i xs ≡ x ∷ drop (suc i) xs
at_place [] i x is = let bad : Some x ≡ None = is in absurd cc
at_place (y ∷ ys) zero x is = let same : x ≡ y = cc in ap (λ z. z ∷ ys) (sym same)
at_place (y ∷ ys) (suc i) x is = at_place ys i x is

pub at_end : {X : Type 0} (xs : List X) (i : ℕ) → None ≡ slice_get xs i → drop i xs ≡ []
at_end [] i is = drop_all i [] (omega arith)
at_end (y ∷ ys) zero is = let bad : None ≡ Some y = is in absurd cc
at_end (y ∷ ys) (suc i) is = at_end ys i is

pub some_left : {X : Type 0} (xs : List X) (i : ℕ) → i < length xs → drop i xs ≡ [] → ⊥
some_left [] i within none_left = omega arith
some_left (y ∷ ys) zero within none_left = cc
some_left (y ∷ ys) (suc i) within none_left = some_left ys i (omega arith) none_left

abbrev views : List given.Argument → List e.Argument
views xs = map rust.argument_of xs

one_more : (xs ys : List e.Argument) (x : e.Argument) (found : Option e.Argument) (others : Option (List e.Argument)) → found ≡ Some x → ys ≡ xs ++ x ∷ []
    → behind_list ys others ≡ behind_list xs (both_values found others (λ a rest. Some (a ∷ rest)))
one_more xs ys x found None is pushed = rw is refl
one_more xs ys x found (Some rest) is pushed = rw is (ap Some (ap (λ zs. zs ++ rest) pushed ∙ append_assoc xs (x ∷ []) rest))

module _ (reg : List plain.Entity) (c : Context) where
  more_of : (p : plain.Param) (ps : List plain.Param) (t : line.Term) (ts : List line.Term) → arguments_of reg c (p ∷ ps) (t ∷ ts) ≡ both_values (argument_of reg c p t) (arguments_of reg c ps ts) (λ a rest. Some (a ∷ rest))
  unfolding arguments_of
  more_of p ps t ts = refl

  none_of : (p : plain.Param) (ps : List plain.Param) → arguments_of reg c (p ∷ ps) [] ≡ None
  unfolding arguments_of
  none_of p ps = refl

  done_of : (xs : List e.Argument) → behind_list xs (arguments_of reg c [] []) ≡ Some xs
  unfolding arguments_of
  done_of xs = ap Some (append-nil xs)

  over_of : (t : line.Term) (ts : List line.Term) (xs : List e.Argument) → behind_list xs (arguments_of reg c [] (t ∷ ts)) ≡ None
  unfolding arguments_of
  over_of t ts xs = refl

  pub argument_begins : (all : List given.Argument) (ps : List plain.Param) (ts : List line.Term) → all ≡ []
      → behind_list (views all) (arguments_of reg c (drop (length all) ps) ts) ≡ arguments_of reg c ps ts
  argument_begins all ps ts empty = rw empty (unmoved (arguments_of reg c ps ts))
    where
      unmoved : (r : Option (List e.Argument)) → behind_list [] r ≡ r
      unmoved None = refl
      unmoved (Some args) = refl

  module _ (ps : List plain.Param) (ts : List Term) (i : ℕ) (target : Option (List e.Argument)) (xs : List given.Argument) where
    pub argument_lacks : (t : Term) (place : ℕ) → i < length ts → t ≡ get_or ts i t → place ≡ length xs → None ≡ slice_get ps place
        → behind_list (views xs) (arguments_of reg c (drop (length xs) ps) (map term_of (drop i ts))) ≡ target → target ≡ None
    argument_lacks t place within is here lacks so_far =
        sym so_far ∙ rw (terms_at ts i t within is, at_end ps (length xs) (lacks ∙ ap (slice_get ps) here)) (over_of (term_of t) (map term_of (drop (i + 1) ts)) (views xs))

    pub argument_stops : (p : plain.Param) (t : Term) (error : LineError) (place : ℕ) → i < length ts → t ≡ get_or ts i t → place ≡ length xs → Some p ≡ slice_get ps place
        → MisfitBy error (argument_of reg c p (term_of t)) → behind_list (views xs) (arguments_of reg c (drop (length xs) ps) (map term_of (drop i ts))) ≡ target → MisfitBy error target
    argument_stops p t error place within is here has misfit so_far =
        misfit_so error (argument_of reg c p (term_of t)) target
        (λ lost. sym so_far ∙ rw (terms_at ts i t within is, at_place ps (length xs) p (has ∙ ap (slice_get ps) here), more_of p (drop (suc (length xs)) ps) (term_of t) (map term_of (drop (i + 1) ts)), lost) refl) misfit

    pub argument_goes : (p : plain.Param) (t : Term) (a : given.Argument) (ys : List given.Argument) (place : ℕ) → i < length ts → t ≡ get_or ts i t → place ≡ length xs → Some p ≡ slice_get ps place
        → argument_of reg c p (term_of t) ≡ Some (rust.argument_of a) → ys ≡ xs ++ a ∷ [] → behind_list (views xs) (arguments_of reg c (drop (length xs) ps) (map term_of (drop i ts))) ≡ target
        → behind_list (views ys) (arguments_of reg c (drop (length ys) ps) (map term_of (drop (i + 1) ts))) ≡ target
    argument_goes p t a ys place within is here has one pushed so_far =
        let longer : length ys ≡ suc (length xs) = ap length pushed ∙ length-append xs (a ∷ []) ∙ omega arith in
        one_more (views xs) (views ys) (rust.argument_of a) (argument_of reg c p (term_of t)) (arguments_of reg c (drop (length ys) ps) (map term_of (drop (i + 1) ts))) one
        (ap views pushed ∙ map-append rust.argument_of xs (a ∷ []))
        ∙ ap (λ n. behind_list (views xs) (both_values (argument_of reg c p (term_of t)) (arguments_of reg c (drop n ps) (map term_of (drop (i + 1) ts))) (λ x rest. Some (x ∷ rest)))) longer
        ∙ ap (behind_list (views xs)) (sym (more_of p (drop (suc (length xs)) ps) (term_of t) (map term_of (drop (i + 1) ts))))
        ∙ (rw (terms_at ts i t within is, at_place ps (length xs) p (has ∙ ap (slice_get ps) here)) at so_far)

    pub argument_left : length ts ≤ i → length xs < length ps → behind_list (views xs) (arguments_of reg c (drop (length xs) ps) (map term_of (drop i ts))) ≡ target → target ≡ None
    argument_left past fewer so_far = by (drop (length xs) ps) (some_left ps (length xs) fewer) (rw (drop_all i ts past) at so_far)
      where
        by : (qs : List plain.Param) → (qs ≡ [] → ⊥) → behind_list (views xs) (arguments_of reg c qs []) ≡ target → target ≡ None
        by [] some is = absurd (some refl)
        by (q ∷ qs) some is = sym is ∙ ap (behind_list (views xs)) (none_of q qs)

    pub argument_ends : length ts ≤ i → length ps ≤ length xs → behind_list (views xs) (arguments_of reg c (drop (length xs) ps) (map term_of (drop i ts))) ≡ target → target ≡ Some (views xs)
    argument_ends past full so_far = sym (rw (drop_all i ts past, drop_all (length xs) ps full) at so_far) ∙ done_of (views xs)
