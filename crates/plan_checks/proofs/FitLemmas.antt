-- Whether the terms of a line fit, and the statement of the line.
use Rattle.std.proofs.Common.{◌≡◌, ℕ, suc, ◌<◌, ◌≤◌, ◌+◌, Bool, true, false, ◌&&◌, List, [], ◌∷◌, length, map, drop, get_or, Option, None, Some, refl, sym, ap, subst, ◌∙◌, arith}
use Rattle.std.specs.Prelude.{is_some, slice_get, Result}
use Rattle.std.specs.Option.{option_map}
use Rattle.std.proofs.lemmas.List.{drop_more, drop_all}
use Rattle.literal_model.specs.Readings.{and_then}
use Rattle.uno_model.specs.Entities as plain
use Rattle.uno_model.specs.Functions.{Function}
use Rattle.uno_model.specs.Kinds.{Kind, exception_of}
use Rattle.uno_model.specs.Kinds as kd
use Rattle.uno_model.specs.NamedTypes.{type_of_text}
use Rattle.plan_model.specs.Contexts.{Context, kind_of_word, called_function}
use Rattle.plan_model.specs.Evaluation.{both_values}
use Rattle.plan_model.specs.Expressions.{Word, Expression}
use Rattle.plan_model.specs.Lines.{Term, Declared}
use Rattle.plan_model.specs.Statements as s
use Rattle.plan_model.specs.TypedStatements.{let_of, set_of, raise_of, test_of, call_of, face_of_word, result_field, is_compared}
use Rattle.plan_model.specs.Typing.{expression_of, argument_of, arguments_of}
use Rattle.plan_model.specs.declared.comparison.Comparison.{Comparison}
use Rattle.plan_model.specs.declared.line_reason.LineReason.{LineReason}
use Rattle.plan_checks.proofs.ParamLemmas.{at_end, at_place, some_left}
use Rattle.plan_model.specs.declared.line_reason.LineReason.TheVariants.{Misfit}
use Rattle.plan_checks.specs.Checks.{Passes, FailsBy, MisfitBy}
use Rattle.plan_checks.specs.Fits.{term_fits, call_fits_with}
use Rattle.plan_checks.specs.declared.line_error.LineError.{LineError}
use Rattle.plan_checks.specs.declared.line_error.LineError.TheVariants as error

pub passes_so : {X : Type 0} (reason : LineReason) (r : Result X LineError) (a b : Bool) → a ≡ b → Passes reason r a → Passes reason r b
passes_so reason r a b same passes = subst (Passes reason r) same passes

pub lost_fails : {Y : Type 0} (e : LineError) (part : Option Y) (whole : Bool) → (part ≡ None → whole ≡ false) → MisfitBy e part → FailsBy Misfit e whole
lost_fails error.NoMemory part whole so misfits = tt
lost_fails (error.Wrong why) part whole so misfits = (so misfits.0, misfits.1)

pub mapped : {X Y : Type 0} (f : X → Y) (o : Option X) → is_some o ≡ is_some (option_map f o)
mapped f None = refl
mapped f (Some x) = refl

pub both : {X Y Z : Type 0} (a : Option X) (b : Option Y) (go : X → Y → Z) → (is_some a && is_some b) ≡ is_some (both_values a b (λ x y. Some (go x y)))
both None b go = refl
both (Some x) None go = refl
both (Some x) (Some y) go = refl

turned_both : {X Y Z : Type 0} (a : Option X) (b : Option Y) (go : X → Y → Z) → (is_some b && is_some a) ≡ is_some (both_values a b (λ x y. Some (go x y)))
turned_both None None go = refl
turned_both None (Some y) go = refl
turned_both (Some x) None go = refl
turned_both (Some x) (Some y) go = refl

-- a function that is found by the texts of names
pub called_as : {X : Type 0} (reg : List plain.Entity) (view : X → Function) (face function face_text text : List ℕ) (found : Option X) (o : Option X) → face_text ≡ face → text ≡ function
    → option_map view found ≡ called_function reg face_text text → found ≡ o → called_function reg face function ≡ option_map view o
called_as reg view face function face_text text found o same alike is given =
    sym (ap (option_map view) (sym given) ∙ is ∙ ap (λ n. called_function reg n text) same ∙ ap (called_function reg face) alike)

module _ (reg : List plain.Entity) (c : Context) where
  pub set_told : (mk : Expression → s.Statement) (o : Option Kind) (t : Term) → term_fits reg c o t ≡ is_some (set_of reg c mk o t)
  set_told mk None t = refl
  set_told mk (Some k) t = mapped mk (expression_of reg c t k)

  pub let_told : (d : Declared) (t : Term) (k : Kind) → type_of_text reg d.kind ≡ Some k → is_some (expression_of reg c t k) ≡ is_some (let_of reg c d t)
  let_told d t k is = rw is (mapped (s.let_variable (record { name = d.name; kind = k })) (expression_of reg c t k))

  pub let_lost : (d : Declared) (t : Term) → type_of_text reg d.kind ≡ None → is_some (let_of reg c d t) ≡ false
  let_lost d t is = rw is refl

  raised : (t : Term) (k : Kind) → is_some (exception_of k) ≡ true
      → is_some (expression_of reg c t k) ≡ is_some (and_then (exception_of k) (λ name. option_map (s.raise name) (expression_of reg c t (kd.exception name))))
  raised t (kd.exception name) is = mapped (s.raise name) (expression_of reg c t (kd.exception name))
  raised t k is = absurd cc

  pub raise_told : (text : List ℕ) (t : Term) (k : Kind) → type_of_text reg text ≡ Some k → is_some (exception_of k) ≡ true → is_some (expression_of reg c t k) ≡ is_some (raise_of reg c text t)
  raise_told text t k is given = raised t k given ∙ sym (rw is refl)

  not_raised : (t : Term) (o : Option (List ℕ)) → is_some o ≡ false → is_some (and_then o (λ name. option_map (s.raise name) (expression_of reg c t (kd.exception name)))) ≡ false
  not_raised t None is = refl
  not_raised t (Some name) is = absurd cc

  pub raise_other : (text : List ℕ) (t : Term) (k : Kind) → type_of_text reg text ≡ Some k → is_some (exception_of k) ≡ false → is_some (raise_of reg c text t) ≡ false
  raise_other text t k is other = rw is (not_raised t (exception_of k) other)

  pub raise_lost : (text : List ℕ) (t : Term) → type_of_text reg text ≡ None → is_some (raise_of reg c text t) ≡ false
  raise_lost text t is = rw is refl

  pub test_told : (left : Word) (comparison : Comparison) (right : Term) (k : Kind) → kind_of_word c left ≡ Some k → is_compared comparison k ≡ true
      → is_some (expression_of reg c right k) ≡ is_some (test_of reg c left comparison right)
  test_told left comparison right k is compared = rw (is, compared) (mapped (λ a. record { left = left; comparison = comparison; right = a }) (expression_of reg c right k))

  pub test_other : (left : Word) (comparison : Comparison) (right : Term) (k : Kind) → kind_of_word c left ≡ Some k → is_compared comparison k ≡ false
      → is_some (test_of reg c left comparison right) ≡ false
  test_other left comparison right k is other = rw (is, other) refl

  pub test_lost : (left : Word) (comparison : Comparison) (right : Term) → kind_of_word c left ≡ None → is_some (test_of reg c left comparison right) ≡ false
  test_lost left comparison right is = rw is refl

  pub call_told : (to : Option Declared) (target : Word) (function : List ℕ) (args : List Term) (face : List ℕ) (f : Function) → face_of_word c target ≡ Some face → called_function reg face function ≡ Some f
      → call_fits_with reg c f to args ≡ is_some (call_of reg c to target function args)
  unfolding call_of
  call_told to target function args face f is called =
      rw (is, called)
      (turned_both (arguments_of reg c f.params args) (result_field reg f to) (λ given x. record { target = target; callee = record { owner = f.owner; name = f.name }; arguments = given; to = x }))

  pub call_unknown : (to : Option Declared) (target : Word) (function : List ℕ) (args : List Term) (face : List ℕ) → face_of_word c target ≡ Some face → called_function reg face function ≡ None
      → is_some (call_of reg c to target function args) ≡ false
  unfolding call_of
  call_unknown to target function args face is lost = rw (is, lost) refl

  pub call_lost : (to : Option Declared) (target : Word) (function : List ℕ) (args : List Term) → face_of_word c target ≡ None → is_some (call_of reg c to target function args) ≡ false
  unfolding call_of
  call_lost to target function args is = rw is refl

  -- ---- arguments

  more_of : (p : plain.Param) (ps : List plain.Param) (t : Term) (ts : List Term) → is_some (arguments_of reg c (p ∷ ps) (t ∷ ts)) ≡ (is_some (argument_of reg c p t) && is_some (arguments_of reg c ps ts))
  unfolding arguments_of
  more_of p ps t ts = sym (both (argument_of reg c p t) (arguments_of reg c ps ts) (λ a rest. a ∷ rest))

  over_of : (t : Term) (ts : List Term) → is_some (arguments_of reg c [] (t ∷ ts)) ≡ false
  unfolding arguments_of
  over_of t ts = refl

  few_of : (ps : List plain.Param) → (ps ≡ [] → ⊥) → is_some (arguments_of reg c ps []) ≡ false
  unfolding arguments_of
  few_of [] some = absurd (some refl)
  few_of (p ∷ ps) some = refl

  all_of : is_some (arguments_of reg c [] []) ≡ true
  unfolding arguments_of
  all_of = refl

  module _ {X : Type 0} (view : X → Term) (ps : List plain.Param) (ts : List X) (i : ℕ) (target : Bool) (so_far : is_some (arguments_of reg c (drop i ps) (map view (drop i ts))) ≡ target) where
    from_here : (t : X) → i < length ts → t ≡ get_or ts i t → is_some (arguments_of reg c (drop i ps) (view t ∷ map view (drop (i + 1) ts))) ≡ target
    from_here t within is = ap (λ us. is_some (arguments_of reg c (drop i ps) us)) (ap (λ u. view u ∷ map view (drop (i + 1) ts)) is ∙ sym (ap (map view) (drop_more ts i t within))) ∙ so_far

    at_param : (p : plain.Param) (t : X) → i < length ts → t ≡ get_or ts i t → Some p ≡ slice_get ps i
        → (is_some (argument_of reg c p (view t)) && is_some (arguments_of reg c (drop (i + 1) ps) (map view (drop (i + 1) ts)))) ≡ target
    at_param p t within is has =
        let next : suc i ≡ i + 1 = omega arith in
        ap (λ n. is_some (argument_of reg c p (view t)) && is_some (arguments_of reg c (drop n ps) (map view (drop (i + 1) ts)))) (sym next)
        ∙ sym (more_of p (drop (suc i) ps) (view t) (map view (drop (i + 1) ts)))
        ∙ ap (λ qs. is_some (arguments_of reg c qs (view t ∷ map view (drop (i + 1) ts)))) (sym (at_place ps i p has)) ∙ from_here t within is

    pub argument_over : (t : X) → i < length ts → t ≡ get_or ts i t → None ≡ slice_get ps i → target ≡ false
    argument_over t within is lacks =
        sym (from_here t within is) ∙ ap (λ qs. is_some (arguments_of reg c qs (view t ∷ map view (drop (i + 1) ts)))) (at_end ps i lacks) ∙ over_of (view t) (map view (drop (i + 1) ts))

    pub argument_unfit : (p : plain.Param) (t : X) → i < length ts → t ≡ get_or ts i t → Some p ≡ slice_get ps i → is_some (argument_of reg c p (view t)) ≡ false → target ≡ false
    argument_unfit p t within is has unfit =
        sym (at_param p t within is has) ∙ ap (λ b. b && is_some (arguments_of reg c (drop (i + 1) ps) (map view (drop (i + 1) ts)))) unfit

    pub argument_fit : (p : plain.Param) (t : X) → i < length ts → t ≡ get_or ts i t → Some p ≡ slice_get ps i → is_some (argument_of reg c p (view t)) ≡ true
        → is_some (arguments_of reg c (drop (i + 1) ps) (map view (drop (i + 1) ts))) ≡ target
    argument_fit p t within is has fits =
        sym (ap (λ b. b && is_some (arguments_of reg c (drop (i + 1) ps) (map view (drop (i + 1) ts)))) fits) ∙ at_param p t within is has

    pub arguments_few : length ts ≤ i → i < length ps → target ≡ false
    arguments_few past fewer = sym so_far ∙ ap (λ us. is_some (arguments_of reg c (drop i ps) (map view us))) (drop_all i ts past) ∙ few_of (drop i ps) (some_left ps i fewer)

    pub arguments_done : length ts ≤ i → length ps ≤ i → target ≡ true
    arguments_done past full =
        sym so_far ∙ ap (λ us. is_some (arguments_of reg c (drop i ps) (map view us))) (drop_all i ts past) ∙ ap (λ qs. is_some (arguments_of reg c qs [])) (drop_all i ps full) ∙ all_of
