-- In every plan that keeps the rules the statements of roots are typed.
use Rattle.std.proofs.Common.{◌≡◌, refl, sym, ap, ◌∙◌, subst, ℕ, Bool, true, false, not, ◌&&◌, ◌||◌, List, [], ◌∷◌, ◌++◌, Option, None, Some, option_map, append-nil, if◌then◌else◌}
use Rattle.std.specs.List.{AllByRecursion, filter, list_all, list_any, find}
use Rattle.std.specs.Str.{bytes_eq}
use Rattle.std.proofs.lemmas.Bool.{and_parts, and_from}
use Rattle.literal_model.specs.Readings.{and_then}
use Rattle.uno_model.specs.BuiltIn.{x_interface_name}
use Rattle.uno_model.specs.Entities.{Entity, Field}
use Rattle.uno_model.specs.Fits.{IsInterface}
use Rattle.uno_model.specs.Functions.{Function}
use Rattle.uno_model.specs.Kinds.{Kind, interface_of}
use Rattle.uno_model.specs.Kinds as kd
use Rattle.uno_model.specs.NamedTypes.{type_of_text}
use Rattle.uno_model.specs.Sound.{IsSound}
use Rattle.uno_model.specs.Types.{is_type}
use Rattle.uno_model.proofs.KindLaws.{interface_is}
use Rattle.uno_model.proofs.Options.{same_some, none_some}
use Rattle.plan_model.specs.Building.{behind_root_statement, with_root_statement, with_statement, with_line, with_service, with_singleton, with_export, opens_method, with_field, closes, behind, behind_all}
use Rattle.plan_model.specs.Building as building
use Rattle.plan_model.specs.Contexts.{Scoped, Context, Block, at_top, in_behaviour, in_method, in_thread, behaviours_before, behaviour_number, declared_function, kind_of_word, kind_of_variable, kind_of_field, opening, open_behaviours}
use Rattle.plan_model.specs.Evaluation.{both_values}
use Rattle.plan_model.specs.Expressions.{Word, variable, field, own}
use Rattle.plan_model.specs.Forms.{is_line, is_term, is_declared, is_export_name, is_left_out, is_word_formed, is_function_text, is_root_word, is_root_term}
use Rattle.plan_model.specs.Keeps.{has_form, reason_of, first_wrong, KeepsTheRules}
use Rattle.plan_model.specs.KnownNames.{names_are_known}
use Rattle.plan_model.specs.LinePlaces.{may_stand}
use Rattle.plan_model.specs.Lines.{Line, Term, Declared}
use Rattle.plan_model.specs.Lines as line
use Rattle.plan_model.specs.NewNames.{is_variable, is_result_new, names_are_new}
use Rattle.plan_model.specs.Plans.{Plan, Behaviour, Method}
use Rattle.plan_model.specs.Statements.{Call, Query, Making, Statement, RootStatement}
use Rattle.plan_model.specs.Statements as s
use Rattle.plan_model.specs.Typing.{arguments_of, only_if}
use Rattle.plan_model.specs.TypedStatements.{face_of_text, face_of_word, declared_field, result_field, call_with, call_of, query_of, supports_named, making_of, statement_of, root_statement_of}
use Rattle.plan_model.specs.Contexts.{behaviour_named, called_function, kind_fits}
use Rattle.plan_model.specs.declared.line_reason.LineReason.{LineReason}
use Rattle.plan_typing.specs.Statements.{ResultFits, with_result}
use Rattle.plan_typing.specs.Types.{Types, word_type, variable_type}
use Rattle.plan_typing.proofs.FramePuts.{are_types, found_type}
use Rattle.plan_typing.proofs.LineCalls.{then_there, KnowsWords, KeepsBehaviours, call_typed, query_typed, making_typed}
use Rattle.plan_typing.proofs.PlanFields.{all_and_one}
use Rattle.plan_typing.proofs.PlanGrows.{Grows, as_they_are, grow_on, grown_stands, line_grows, statement_stays, root_statement_stays}
use Rattle.plan_typing.proofs.PlanLaws.{right_parts}
use Rattle.plan_typing.proofs.TermTypes.{holds, text_type}
use Rattle.plan_typing.proofs.ValueLaws.{both_there, mapped}
use Rattle.bridge_laws.proofs.RootTerms.{arguments_given}
use Rattle.bridge_laws.specs.RootStatements.{may_be_given, IsNew, IsResultNew, IsTypedRoot, types_behind_root, AreTypedRoots, first_root_types, AreTypedThreads}

-- ---- names that are new

abbrev pub root_types : List Scoped → Types
root_types vs = record { variables = vs; fields = []; own = x_interface_name }

none_by : (name : List ℕ) (x : Scoped) (xs : List Scoped) (b : Bool) → bytes_eq name x.name ≡ b → not (list_any (λ y. bytes_eq name y.name) (x ∷ xs)) ≡ true
    → (not (list_any (λ y. bytes_eq name y.name) xs) ≡ true → option_map (λ y. y.kind) (find (λ y. bytes_eq name y.name) xs) ≡ None)
    → option_map (λ y. y.kind) (find (λ y. bytes_eq name y.name) (x ∷ xs)) ≡ None
none_by name x xs true is new more = absurd (clash (bytes_eq name x.name) (list_any (λ y. bytes_eq name y.name) xs) is new)
  where
    clash : (b c : Bool) → b ≡ true → not (b || c) ≡ true → ⊥
    clash true c is bad = cc
    clash false c is bad = cc
none_by name x xs false is new more = rw is (more (left (bytes_eq name x.name) (list_any (λ y. bytes_eq name y.name) xs) is new))
  where
    left : (b c : Bool) → b ≡ false → not (b || c) ≡ true → not c ≡ true
    left true c is at = absurd (cc)
    left false c is at = at

new_name : (name : List ℕ) (vs : List Scoped) → not (list_any (λ y. bytes_eq name y.name) vs) ≡ true → IsNew name (root_types vs)
unfolding variable_type
new_name name [] new = refl
new_name name (x ∷ xs) new = none_by name x xs (bytes_eq name x.name) refl new (new_name name xs)

-- ---- lines that are not wrong

-- no reason, so neither this one nor a later one
pub ruled : (b : Bool) (why : LineReason) (rest : Option LineReason) → (if not b then Some why else rest) ≡ None → (b ≡ true) × (rest ≡ None)
ruled true why rest is = (refl, is)
ruled false why rest is = absurd (cc)

pub record IsRight (reg : List Entity) (c : Context) (l : Line) : Type 0 where
  pub formed : is_line reg l ≡ true
  pub stands : may_stand c.block l ≡ true
  pub new : names_are_new c l ≡ true

pub right_line : (reg : List Entity) (c : Context) (l : Line) → reason_of reg c l ≡ None → IsRight reg c l
unfolding reason_of has_form
right_line reg c l is =
    let form = ruled (is_line reg l && may_stand c.block l) _ _ is in
    let known = ruled (names_are_known reg c l) _ _ form.1 in
    let new = ruled (names_are_new c l) _ _ known.1 in
    let both = and_parts (is_line reg l) (may_stand c.block l) form.0 in
    record { formed = both.0; stands = both.1; new = new.0 }

abbrev context : Plan → Block → List Scoped → Context
context q bl vs = record { plan = q; block = bl; variables = vs }

module _ (reg : List Entity) (sound : IsSound reg) (plan : Plan) where
  -- ---- statements so far

  -- from no variables on each statement is typed, and these are the variables behind them
  abbrev SoFar : Types → List RootStatement → Types → Type 0
  SoFar ts [] us = ts ≡ us
  SoFar ts (x ∷ xs) us = IsTypedRoot reg plan ts x × SoFar (types_behind_root x ts) xs us

  one_more : (ts us : Types) (xs : List RootStatement) (x : RootStatement) → SoFar ts xs us → IsTypedRoot reg plan us x → SoFar ts (xs ++ x ∷ []) (types_behind_root x us)
  one_more ts us [] x so_far is = (subst (λ z. IsTypedRoot reg plan z x) (sym so_far) is, ap (types_behind_root x) so_far)
  one_more ts us (y ∷ ys) x so_far is = (so_far.0, one_more (types_behind_root y ts) us ys x so_far.1 is)

  whole : (ts us : Types) (xs : List RootStatement) → SoFar ts xs us → AreTypedRoots reg plan ts xs
  unfolding AreTypedRoots
  whole ts us [] so_far = tt
  whole ts us (x ∷ xs) so_far = (so_far.0, whole (types_behind_root x ts) us xs so_far.1)

  -- ---- types of the registry

  added_types : (name : List ℕ) (k : Kind) (vs : List Scoped) → are_types reg vs ≡ true → is_type reg k ≡ true → are_types reg (vs ++ record { name = name; kind = k; comes_out = false } ∷ []) ≡ true
  added_types name k [] types there = and_from (is_type reg k) true there refl
  added_types name k (x ∷ xs) types there =
      let parts = and_parts (is_type reg x.kind) (are_types reg xs) types in
      and_from (is_type reg x.kind) (are_types reg (xs ++ record { name = name; kind = k; comes_out = false } ∷ [])) parts.0 (added_types name k xs parts.1 there)

  left_types : (p : Scoped → Bool) (xs : List Scoped) → are_types reg xs ≡ true → are_types reg (filter p xs) ≡ true
  left_types p [] types = refl
  left_types p (x ∷ xs) types = by_test (p x) (left_types p xs (and_parts (is_type reg x.kind) (are_types reg xs) types).1)
    where
      by_test : (b : Bool) → are_types reg (filter p xs) ≡ true → are_types reg (if b then x ∷ filter p xs else filter p xs) ≡ true
      by_test true rest = and_from (is_type reg x.kind) (are_types reg (filter p xs)) (and_parts (is_type reg x.kind) (are_types reg xs) types).0 rest
      by_test false rest = rest

  result_types : (k : Kind) (to : Option Field) (ts : Types) → are_types reg ts.variables ≡ true → ResultFits reg k to → are_types reg (with_result to ts).variables ≡ true
  result_types k None ts types fits = types
  result_types k (Some x) ts types fits = added_types x.name x.kind ts.variables types fits.0

  pub root_types_kept : (x : RootStatement) (ts : Types) → are_types reg ts.variables ≡ true → IsTypedRoot reg plan ts x → are_types reg (types_behind_root x ts).variables ≡ true
  unfolding IsTypedRoot types_behind_root
  root_types_kept (s.ask to wanted name) ts types is = added_types to (kd.interface wanted) ts.variables types is.1
  root_types_kept (s.ask_instance to wanted) ts types is = added_types to (kd.interface wanted) ts.variables types is.0
  root_types_kept (s.root_call c) ts types is = result_types is.0.function.result_kind c.to ts types is.0.result
  root_types_kept (s.root_query q) ts types is = added_types q.to (kd.interface q.wanted) ts.variables types is.0.wanted
  root_types_kept (s.root_make m) ts types is = added_types m.to (kd.interface m.face) ts.variables types is.0.face
  root_types_kept (s.root_drop name) ts types is = left_types (λ y. not (bytes_eq name y.name)) ts.variables types
  root_types_kept (s.same x y) ts types is = types
  root_types_kept s.root_dispose ts types is = types

  result_is : (q : Plan) (bl : Block) (vs : List Scoped) (to : Option Field)
      → with_result to (root_types vs) ≡ root_types (building.with_result to (context q bl vs)).variables
  result_is q bl vs None = refl
  result_is q bl vs (Some x) = refl

  -- the variables behind a statement are those of its types
  types_are : (q : Plan) (bl : Block) (vs : List Scoped) (x : RootStatement) → types_behind_root x (root_types vs) ≡ root_types (behind_root_statement x (context q bl vs)).variables
  unfolding types_behind_root
  types_are q bl vs (s.ask to wanted name) = refl
  types_are q bl vs (s.ask_instance to wanted) = refl
  types_are q bl vs (s.root_call c) = result_is q bl vs c.to
  types_are q bl vs (s.root_query y) = refl
  types_are q bl vs (s.root_make m) = refl
  types_are q bl vs (s.root_drop name) = refl
  types_are q bl vs (s.same x y) = refl
  types_are q bl vs s.root_dispose = refl

  -- ---- one line

  module _ (q : Plan) (ss : List RootStatement) (vs : List Scoped) (types : are_types reg vs ≡ true) (keeps : KeepsBehaviours (context q (in_thread ss) vs) plan) where
    abbrev here : Context
    here = context q (in_thread ss) vs

    word_typed : (w : Word) (k : Kind) → kind_of_word here w ≡ Some k → word_type (root_types vs) w ≡ Some k
    unfolding kind_of_word kind_of_variable kind_of_field variable_type
    word_typed (variable name) k is = is
    word_typed (field name) k is = absurd (cc)
    word_typed own k is = absurd (cc)

    word_kind : (w : Word) (k : Kind) → kind_of_word here w ≡ Some k → is_type reg k ≡ true
    unfolding kind_of_word kind_of_variable kind_of_field
    word_kind (variable name) k is = found_type reg name vs k types is
    word_kind (field name) k is = absurd (cc)
    word_kind own k is = absurd (cc)

    knows : KnowsWords reg here (root_types vs)
    knows = record { typed = word_typed; types = word_kind; variables = refl }

    face_known : (text face : List ℕ) → face_of_text reg text ≡ Some face → IsInterface reg face
    face_known text face is =
        let known = then_there (type_of_text reg text) interface_of face is in
        text_type reg sound text (kd.interface face) (known.first_is ∙ ap Some (interface_is known.first face known.made))

    -- names of what begins
    result_new : (f : Function) (to : Option Declared) (y : Option Field) → is_result_new here to ≡ true → result_field reg f to ≡ Some y → IsResultNew y (root_types vs)
    result_new f None y new is = subst (λ z. IsResultNew z (root_types vs)) (same_some is) tt
    result_new f (Some d) y new is =
        let known = then_there (declared_field reg d) (λ x. only_if (kind_fits reg x.kind f.result_kind) (Some (Some x))) y is in
        let fits = holds (kind_fits reg known.first.kind f.result_kind) (Some (Some known.first)) y known.made in
        let from = mapped (λ k. record { name = d.name; kind = k }) (type_of_text reg d.kind) known.first known.first_is in
        subst (λ z. IsResultNew z (root_types vs)) (same_some fits.1) (subst (λ (z : Field). IsNew z.name (root_types vs)) from.is (new_name d.name vs new))

    call_to : (to : Option Declared) (target : Word) (function : List ℕ) (xs : List Term) (x : Call) → is_result_new here to ≡ true → call_of reg here to target function xs ≡ Some x → IsResultNew x.to (root_types vs)
    unfolding call_of
    call_to to target function xs x new is =
        let callee = then_there (and_then (face_of_word here target) (λ face. called_function reg face function))
        (λ f. both_values (arguments_of reg here f.params xs) (result_field reg f to) (call_with target f)) x is in
        let f = callee.first in
        let both = both_there (arguments_of reg here f.params xs) (result_field reg f to) (call_with target f) x callee.made in
        subst (λ (z : Call). IsResultNew z.to (root_types vs)) (same_some both.made) (result_new f to both.second new both.second_is)

    query_to : (d : Declared) (target : Word) (q : Query) → query_of reg here d target ≡ Some q → q.to ≡ d.name
    unfolding query_of
    query_to d target q is =
        let both = both_there (face_of_word here target) (face_of_text reg d.kind) (λ face wanted. Some (record { target = target; wanted = wanted; to = d.name })) q is in
        ap (λ (z : Query). z.to) (sym (same_some both.made))

    making_to : (d : Declared) (name : List ℕ) (m : Making) → making_of reg here d name ≡ Some m → m.to ≡ d.name
    unfolding making_of
    making_to d name m is =
        let both = both_there (behaviour_number here name) (face_of_text reg d.kind)
        (λ n face. only_if (supports_named reg (behaviour_named here name) face) (Some (record { behaviour = n; face = face; to = d.name }))) m is in
        let fits = holds (supports_named reg (behaviour_named here name) both.second) (Some (record { behaviour = both.first; face = both.second; to = d.name })) m both.made in
        ap (λ (z : Making). z.to) (sym (same_some fits.1))

    ask_line : (d : Declared) (name : List ℕ) (x : RootStatement) → is_export_name name ≡ true → not (is_variable here d.name) ≡ true
        → option_map (λ wanted. s.ask d.name wanted name) (face_of_text reg d.kind) ≡ Some x → IsTypedRoot reg plan (root_types vs) x
    unfolding IsTypedRoot
    ask_line d name x form new is =
        let from = mapped (λ wanted. s.ask d.name wanted name) (face_of_text reg d.kind) x is in
        subst (IsTypedRoot reg plan (root_types vs)) from.is (form, face_known d.kind from.from from.there, new_name d.name vs new)

    instance_line : (d : Declared) (x : RootStatement) → not (is_variable here d.name) ≡ true → option_map (s.ask_instance d.name) (face_of_text reg d.kind) ≡ Some x → IsTypedRoot reg plan (root_types vs) x
    unfolding IsTypedRoot
    instance_line d x new is =
        let from = mapped (s.ask_instance d.name) (face_of_text reg d.kind) x is in
        subst (IsTypedRoot reg plan (root_types vs)) from.is (face_known d.kind from.from from.there, new_name d.name vs new)

    -- no argument has an operation
    call_given : (to : Option Declared) (target : Word) (function : List ℕ) (xs : List Term) (x : Call) → list_all is_root_term xs ≡ true → call_of reg here to target function xs ≡ Some x
        → list_all may_be_given x.arguments ≡ true
    unfolding call_of
    call_given to target function xs x roots is =
        let callee = then_there (and_then (face_of_word here target) (λ face. called_function reg face function))
        (λ f. both_values (arguments_of reg here f.params xs) (result_field reg f to) (call_with target f)) x is in
        let f = callee.first in
        let both = both_there (arguments_of reg here f.params xs) (result_field reg f to) (call_with target f) x callee.made in
        subst (λ (z : Call). list_all may_be_given z.arguments ≡ true) (same_some both.made) (arguments_given reg here f.params xs both.first roots both.first_is)

    call_line : (to : Option Declared) (target : Word) (function : List ℕ) (xs : List Term) (x : RootStatement) → list_all (is_term reg) xs ≡ true → list_all is_root_term xs ≡ true
        → is_result_new here to ≡ true → option_map s.root_call (call_of reg here to target function xs) ≡ Some x → IsTypedRoot reg plan (root_types vs) x
    unfolding IsTypedRoot
    call_line to target function xs x formed roots new is =
        let from = mapped s.root_call (call_of reg here to target function xs) x is in
        subst (IsTypedRoot reg plan (root_types vs)) from.is
        (call_typed reg sound here (root_types vs) knows to target function xs from.from formed from.there, call_given to target function xs from.from roots from.there, call_to to target function xs from.from new from.there)

    query_line : (d : Declared) (target : Word) (x : RootStatement) → not (is_variable here d.name) ≡ true → option_map s.root_query (query_of reg here d target) ≡ Some x → IsTypedRoot reg plan (root_types vs) x
    unfolding IsTypedRoot
    query_line d target x new is =
        let from = mapped s.root_query (query_of reg here d target) x is in
        subst (IsTypedRoot reg plan (root_types vs)) from.is
        (query_typed reg sound here (root_types vs) knows d target from.from from.there, subst (λ n. IsNew n (root_types vs)) (sym (query_to d target from.from from.there)) (new_name d.name vs new))

    make_line : (d : Declared) (b : List ℕ) (x : RootStatement) → not (is_variable here d.name) ≡ true → option_map s.root_make (making_of reg here d b) ≡ Some x → IsTypedRoot reg plan (root_types vs) x
    unfolding IsTypedRoot
    make_line d b x new is =
        let from = mapped s.root_make (making_of reg here d b) x is in
        subst (IsTypedRoot reg plan (root_types vs)) from.is
        (making_typed reg sound here (root_types vs) knows plan keeps d b from.from from.there, subst (λ n. IsNew n (root_types vs)) (sym (making_to d b from.from from.there)) (new_name d.name vs new))

    one_line : (l : Line) (x : RootStatement) → IsRight reg here l → root_statement_of reg here l ≡ Some x → IsTypedRoot reg plan (root_types vs) x
    unfolding root_statement_of is_line names_are_new may_stand IsTypedRoot
    one_line (line.ask d name) x right is = ask_line d name x (and_parts (is_declared d) (is_export_name name) right.formed).1 right.new is
    one_line (line.ask_instance d) x right is = instance_line d x right.new is
    one_line (line.call to target function xs) x right is =
        let parts = and_parts (is_left_out is_declared to && is_word_formed target) (is_function_text function && list_all (is_term reg) xs) right.formed in
        call_line to target function xs x (and_parts (is_function_text function) (list_all (is_term reg) xs) parts.1).1 (and_parts (is_root_word target) (list_all is_root_term xs) right.stands).1 right.new is
    one_line (line.query d target) x right is = query_line d target x right.new is
    one_line (line.make d b) x right is = make_line d b x right.new is
    one_line (line.drop_variable name) x right is = subst (IsTypedRoot reg plan (root_types vs)) (same_some is) tt
    one_line (line.same a b) x right is = subst (IsTypedRoot reg plan (root_types vs)) (same_some is) tt
    one_line line.dispose x right is = subst (IsTypedRoot reg plan (root_types vs)) (same_some is) tt
    one_line _ x right is = absurd (none_some is)

  -- ---- what is written so far

  pub record ThreadSoFar (ss : List RootStatement) (vs : List Scoped) : Type 0 where
    pub types : are_types reg vs ≡ true
    pub so_far : SoFar first_root_types ss (root_types vs)

  abbrev OpenTyped : Block → List Scoped → Type 0
  OpenTyped at_top vs = Unit
  OpenTyped (in_behaviour b) vs = Unit
  OpenTyped (in_method b m f) vs = Unit
  OpenTyped (in_thread ss) vs = ThreadSoFar ss vs

  pub record RootsSoFar (c : Context) : Type 0 where
    pub closed : AllByRecursion (AreTypedRoots reg plan first_root_types) c.plan.threads
    pub opened : OpenTyped c.block c.variables

  closed_as : (c : Context) (q : Plan) → c.plan ≡ q → AllByRecursion (AreTypedRoots reg plan first_root_types) q.threads → AllByRecursion (AreTypedRoots reg plan first_root_types) c.plan.threads
  closed_as c q same all = subst (λ (p : Plan). AllByRecursion (AreTypedRoots reg plan first_root_types) p.threads) (sym same) all

  method_step : (q : Plan) (b : Behaviour) (m : Method) (f : Function) (vs : List Scoped) (o : Option Statement) → RootsSoFar (context q (in_method b m f) vs)
      → RootsSoFar (with_statement b m f o (context q (in_method b m f) vs))
  method_step q b m f vs None is = is
  method_step q b m f vs (Some x) is =
      let n : Method = record m { body = m.body ++ x ∷ [] } in
      let d : Context = building.behind_statement x (context q (in_method b n f) vs) in
      let same = statement_stays q (in_method b n f) vs x in
      record { closed = closed_as d q same.0 is.closed; opened = subst (λ bl. OpenTyped bl d.variables) (sym same.1) tt }

  root_step : (q : Plan) (ss : List RootStatement) (vs : List Scoped) (o : Option RootStatement) → ((x : RootStatement) → o ≡ Some x → IsTypedRoot reg plan (root_types vs) x)
      → RootsSoFar (context q (in_thread ss) vs) → RootsSoFar (with_root_statement ss o (context q (in_thread ss) vs))
  root_step q ss vs None typed is = is
  root_step q ss vs (Some x) typed is =
      let bl : Block = in_thread (ss ++ x ∷ []) in
      let d : Context = behind_root_statement x (context q bl vs) in
      let stays = root_statement_stays q bl vs x in
      let thread = is.opened in
      let same = types_are q bl vs x in
      let further : ThreadSoFar (ss ++ x ∷ []) d.variables = record {
        types = subst (λ (t : Types). are_types reg t.variables ≡ true) same (root_types_kept x (root_types vs) thread.types (typed x refl));
        so_far = subst (SoFar first_root_types (ss ++ x ∷ [])) same (one_more first_root_types (root_types vs) ss x thread.so_far (typed x refl));
      } in
      record { closed = closed_as d q stays.0 is.closed; opened = subst (λ z. OpenTyped z d.variables) (sym stays.1) further }

  statement_step : (q : Plan) (bl : Block) (vs : List Scoped) (l : Line) → KeepsBehaviours (context q bl vs) plan → IsRight reg (context q bl vs) l
      → RootsSoFar (context q bl vs) → RootsSoFar (with_line reg l (context q bl vs))
  statement_step q at_top vs l keeps right is = is
  statement_step q (in_behaviour b) vs l keeps right is = is
  statement_step q (in_method b m f) vs l keeps right is = method_step q b m f vs (statement_of reg (context q (in_method b m f) vs) l) is
  statement_step q (in_thread ss) vs l keeps right is =
      root_step q ss vs (root_statement_of reg (context q (in_thread ss) vs) l) (λ x made. one_line q ss vs is.opened.types keeps l x right made) is

  field_step : (q : Plan) (bl : Block) (vs : List Scoped) (name : List ℕ) (o : Option Kind) → RootsSoFar (context q bl vs) → RootsSoFar (with_field bl name o (context q bl vs))
  field_step q at_top vs name o is = is
  field_step q (in_behaviour b) vs name None is = is
  field_step q (in_behaviour b) vs name (Some k) is = record { closed = is.closed; opened = tt }
  field_step q (in_method b m f) vs name o is = is
  field_step q (in_thread ss) vs name o is = is

  opens_step : (q : Plan) (bl : Block) (vs : List Scoped) (face function : List ℕ) (o : Option Function) → RootsSoFar (context q bl vs) → RootsSoFar (opens_method bl face function o (context q bl vs))
  opens_step q at_top vs face function o is = is
  opens_step q (in_behaviour b) vs face function None is = is
  opens_step q (in_behaviour b) vs face function (Some f) is = record { closed = is.closed; opened = tt }
  opens_step q (in_method b m f) vs face function o is = is
  opens_step q (in_thread ss) vs face function o is = is

  end_step : (q : Plan) (bl : Block) (vs : List Scoped) → RootsSoFar (context q bl vs) → RootsSoFar (closes bl (context q bl vs))
  end_step q at_top vs is = is
  end_step q (in_behaviour b) vs is = record { closed = is.closed; opened = tt }
  end_step q (in_method b m f) vs is = record { closed = is.closed; opened = tt }
  end_step q (in_thread ss) vs is =
      record { closed = all_and_one (AreTypedRoots reg plan first_root_types) q.threads ss is.closed (whole first_root_types (root_types vs) ss is.opened.so_far); opened = tt }

  service_step : (o : Option ℕ) (name : List ℕ) (q : Plan) → (with_service o name q).threads ≡ q.threads
  service_step None name q = refl
  service_step (Some n) name q = refl

  singleton_step : (o : Option ℕ) (name : List ℕ) (q : Plan) → (with_singleton o name q).threads ≡ q.threads
  singleton_step None name q = refl
  singleton_step (Some n) name q = refl

  export_step : (o : Option ℕ) (name : List ℕ) (q : Plan) → (with_export o name q).threads ≡ q.threads
  export_step None name q = refl
  export_step (Some n) name q = refl

  named_step : (q p : Plan) (bl : Block) (vs : List Scoped) → p.threads ≡ q.threads → RootsSoFar (context q bl vs) → RootsSoFar (context p bl vs)
  named_step q p bl vs same is = record { closed = subst (AllByRecursion (AreTypedRoots reg plan first_root_types)) (sym same) is.closed; opened = is.opened }

  root_line_step : (q : Plan) (bl : Block) (vs : List Scoped) (l : Line) → KeepsBehaviours (context q bl vs) plan → IsRight reg (context q bl vs) l → RootsSoFar (context q bl vs)
      → RootsSoFar (behind reg l (context q bl vs))
  unfolding behind
  root_line_step q bl vs (line.behaviour name faces) keeps right is = record { closed = is.closed; opened = tt }
  root_line_step q bl vs (line.field d) keeps right is = field_step q bl vs d.name (type_of_text reg d.kind) is
  root_line_step q bl vs (line.method face function) keeps right is = opens_step q bl vs face function (declared_function reg face function) is
  root_line_step q bl vs (line.service name b) keeps right is = named_step q _ bl vs (service_step (behaviour_number (context q bl vs) b) name q) is
  root_line_step q bl vs (line.singleton name b) keeps right is = named_step q _ bl vs (singleton_step (behaviour_number (context q bl vs) b) name q) is
  root_line_step q bl vs (line.export name b) keeps right is = named_step q _ bl vs (export_step (behaviour_number (context q bl vs) b) name q) is
  root_line_step q bl vs line.thread keeps right is = record { closed = is.closed; opened = record { types = refl; so_far = refl } }
  root_line_step q bl vs line.end_line keeps right is = end_step q bl vs is
  root_line_step q bl vs l keeps right is = statement_step q bl vs l keeps right is

-- ---- all lines

module _ (reg : List Entity) where
  -- the behaviours that stand before lines are at their places in the plan that comes of them
  lines_grow : (plan : Plan) (ls : List Line) (c : Context) → first_wrong reg c ls ≡ None → (behind_all reg ls c).block ≡ at_top → (behind_all reg ls c).plan ≡ plan
      → Grows (behaviours_before c) plan.behaviours
  unfolding behind_all
  lines_grow plan [] c right closed made =
      let none_open : behaviours_before c ≡ c.plan.behaviours = ap (λ bl. c.plan.behaviours ++ open_behaviours bl) closed ∙ append-nil c.plan.behaviours in
      as_they_are (behaviours_before c) plan.behaviours (sym (none_open ∙ ap (λ (p : Plan). p.behaviours) made))
  lines_grow plan (l ∷ ls) c right closed made =
      let parts = right_parts reg c l ls right in
      let line = right_line reg c l parts.0 in
      grow_on (behaviours_before c) (behaviours_before (behind reg l c)) plan.behaviours (line_grows reg c.plan c.variables c.block l line.stands)
      (lines_grow plan ls (behind reg l c) parts.1 closed made)

  lines_typed : (sound : IsSound reg) → (plan : Plan) (ls : List Line) (c : Context) → first_wrong reg c ls ≡ None → (behind_all reg ls c).plan ≡ plan
      → (behind_all reg ls c).block ≡ at_top → RootsSoFar reg sound plan c → AreTypedThreads reg plan
  unfolding behind_all
  lines_typed sound plan [] c right made closed is = subst (λ (p : Plan). AllByRecursion (AreTypedRoots reg plan first_root_types) p.threads) made is.closed
  lines_typed sound plan (l ∷ ls) c right made closed is =
      let parts = right_parts reg c l ls right in
      let line = right_line reg c l parts.0 in
      let grown = lines_grow plan (l ∷ ls) c right closed made in
      lines_typed sound plan ls (behind reg l c) parts.1 made closed
      (root_line_step reg sound plan c.plan c.block c.variables l (λ n b at. grown_stands plan (behaviours_before c) n b grown at) line is)

  pub threads_typed : IsSound reg → (p : Plan) → KeepsTheRules reg p → AreTypedThreads reg p
  threads_typed sound p keeps = lines_typed sound p keeps.lines opening keeps.right keeps.made keeps.closed (record { closed = tt; opened = tt })
