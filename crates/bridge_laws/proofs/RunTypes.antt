-- A run of a root of a plan that keeps the rules: its variables are typed, and what it gives may be given.
use Rattle.std.proofs.Common.{◌≡◌, ◌≢◌, refl, sym, ap, subst, ◌∙◌, ℕ, zero, suc, ◌<◌, ◌≤◌, ◌^◌, Bool, true, false, not, ◌&&◌, ◌==◌, nat_lt, nat_le, eqb-true, if◌then◌else◌, List, [], ◌∷◌, ◌++◌, length, drop, Option, None, Some, option_map, slice_get, unwrap_or, inl, arith}
use Rattle.std.specs.List.{list_all, flat_map}
use Rattle.std.specs.Str.{bytes_eq}
use Rattle.std.proofs.lemmas.Bool.{and_parts, ltb-true, leb-true}
use Rattle.message_model.specs.Calls.{numbered, kinds_on, comes, argument_kinds}
use Rattle.message_model.specs.Messages.{returned, raised, request}
use Rattle.message_model.specs.Sayable.{MayBeSaid, IsThread, AnswerFits}
use Rattle.uno_model.specs.BuiltIn.{x_interface_name, query_interface}
use Rattle.uno_model.specs.Entities.{Entity, Field, Param}
use Rattle.uno_model.specs.Fits.{Fits, FitEach, HeldFits, InterfaceFits, IsInterface, IsIdentity}
use Rattle.uno_model.specs.Functions.{Function, functions_of, root_functions}
use Rattle.uno_model.specs.Functions as fn
use Rattle.uno_model.specs.Kinds.{Kind}
use Rattle.uno_model.specs.Kinds as kd
use Rattle.uno_model.specs.Sound.{IsSound}
use Rattle.uno_model.specs.Types.{is_type}
use Rattle.uno_model.specs.Values.{Ref, null, own, peer, Plain, plains, depth, depth_in}
use Rattle.uno_model.specs.Values as v
use Rattle.uno_model.proofs.Options.{same_some, none_some}
use Rattle.plan_typing.proofs.CalleePlaces.{among_contains}
use Rattle.plan_model.specs.Calling.{given_values, number_in, object_of}
use Rattle.plan_model.specs.Contexts.{Scoped, called_function}
use Rattle.plan_model.specs.Evaluation.{value_of_word}
use Rattle.plan_model.specs.Expressions.{Word, variable, field, Argument, into, out, both}
use Rattle.plan_model.specs.Expressions as words
use Rattle.plan_model.specs.Forms.{is_export_byte, is_export_name}
use Rattle.plan_model.specs.Frames.{Variable}
use Rattle.plan_model.specs.Holdings.{with_variable}
use Rattle.plan_model.specs.Roots.{Run, statements_of, asked_name, next_loose}
use Rattle.plan_model.specs.Statements.{Call, Query, Making, RootStatement, ask, ask_instance, root_call, root_query, root_make, root_drop, same, root_dispose}
use Rattle.plan_typing.specs.Scenes.{FieldsFit, SceneFits}
use Rattle.plan_typing.specs.Statements.{ArgumentsFit, ResultFits, IsTypedCall, IsTypedQuery, IsTypedMaking, with_result}
use Rattle.plan_typing.specs.Types.{variable_type, field_type, word_type}
use Rattle.plan_typing.proofs.CalleeNumbers.{number_fits, query_at, root_first}
use Rattle.plan_typing.proofs.CalleeOwners.{not_of_root}
use Rattle.plan_typing.proofs.EffectCalls.{given_fit, interface_there}
use Rattle.plan_typing.proofs.EffectRuntime.{interface_found}
use Rattle.plan_typing.proofs.FramePuts.{are_types, found_type, found_before}
use Rattle.plan_typing.proofs.TermFunctions.{Among, found_among, called_typed}
use Rattle.plan_typing.proofs.ValueKinds.{interface_value, fits_wider}
use Rattle.plan_typing.proofs.ValueWords.{found_kind, word_fits}
use Rattle.bridge_laws.specs.OfPlan.{IsRoot}
use Rattle.bridge_model.specs.Calls.{query_args}
use Rattle.bridge_model.specs.Entries.{Entry, asked, called, queried}
use Rattle.bridge_model.specs.RootRuns.{is_skipped, is_there, word_names, names_of, argument_names, Moved, waiting, finished, moved, puts, puts_outs, adds_result, takes_outcome, takes_at, scene_of, begins, calls_on, queries_on, makes_new, disposes, begins_statement, next_statement, statement_at, lets_loose, idle_moves, state_moves}
use Rattle.bridge_model.specs.Settings.{Setting, root_tid, own_oid}
use Rattle.bridge_model.specs.Sides.{Outcome, answer, RootState, idle, waits_call, waits_query, answered, Side, stands, state_of}
use Rattle.bridge_model.specs.Sides as side
use Rattle.bridge_model.specs.Steps.{has_entries}
use Rattle.bridge_laws.specs.Giving.{MayGive}
use Rattle.bridge_laws.proofs.CreatedFits.{root_interface}
use Rattle.bridge_laws.proofs.TypedGiven.{IsGiven}
use Rattle.bridge_laws.proofs.TableLaws.{identity_named, thread_named}
use Rattle.bridge_laws.specs.RootAnswers.{Asking, for_reference, for_answer, asked_by, IsAnswerTo}
use Rattle.bridge_laws.specs.RootStatements.{may_be_given, IsNew, IsResultNew, IsTypedRoot, types_behind_root, AreTypedRoots}
use Rattle.bridge_laws.proofs.OwedSides.{StateFits}
use Rattle.bridge_laws.proofs.RootLines.{root_types_kept}
use Rattle.bridge_laws.proofs.RunVariables.{types_of, VariablesAre, word_typed, arguments_fit, given_there, put_are, grown_are, added_are, without_are, both_all}

-- ---- statements

abbrev pub behind : RootStatement → List Scoped → List Scoped
behind s vs = (types_behind_root s (types_of vs)).variables

behind_result : (to : Option Field) (vs : List Scoped) → with_result to (types_of vs) ≡ types_of (with_result to (types_of vs)).variables
behind_result None vs = refl
behind_result (Some x) vs = refl

behind_is : (s : RootStatement) (vs : List Scoped) → types_behind_root s (types_of vs) ≡ types_of (behind s vs)
unfolding types_behind_root
behind_is (ask to wanted name) vs = refl
behind_is (ask_instance to wanted) vs = refl
behind_is (root_call c) vs = behind_result c.to vs
behind_is (root_query q) vs = refl
behind_is (root_make m) vs = refl
behind_is (root_drop name) vs = refl
behind_is (same x y) vs = refl
behind_is root_dispose vs = refl

-- it takes no variable away
abbrev pub Keeps : RootStatement → Type 0
Keeps (root_drop name) = ⊥
Keeps s = Unit

dropped_at : {X : Type 0} (xs : List X) (n : ℕ) (x : X) → slice_get xs n ≡ Some x → drop n xs ≡ x ∷ drop (suc n) xs
dropped_at [] n x is = absurd (none_some is)
dropped_at (y ∷ xs) zero x is = ap (λ z. z ∷ xs) (same_some is)
dropped_at (y ∷ xs) (suc n) x is = dropped_at xs n x is

module _ (reg : List Entity) where
  grown_result : (to : Option Field) (xs : List Variable) (vs : List Scoped) → VariablesAre reg xs vs → VariablesAre reg xs (with_result to (types_of vs)).variables
  grown_result None xs vs all = all
  grown_result (Some x) xs vs all = grown_are reg xs vs (record { name = x.name; kind = x.kind; comes_out = false } ∷ []) all

  kept_are : (s : RootStatement) (xs : List Variable) (vs : List Scoped) → Keeps s → VariablesAre reg xs vs → VariablesAre reg xs (behind s vs)
  unfolding types_behind_root
  kept_are (ask to wanted name) xs vs keeps all = grown_are reg xs vs (record { name = to; kind = kd.interface wanted; comes_out = false } ∷ []) all
  kept_are (ask_instance to wanted) xs vs keeps all = grown_are reg xs vs (record { name = to; kind = kd.interface wanted; comes_out = false } ∷ []) all
  kept_are (root_call c) xs vs keeps all = grown_result c.to xs vs all
  kept_are (root_query q) xs vs keeps all = grown_are reg xs vs (record { name = q.to; kind = kd.interface q.wanted; comes_out = false } ∷ []) all
  kept_are (root_make m) xs vs keeps all = grown_are reg xs vs (record { name = m.to; kind = kd.interface m.face; comes_out = false } ∷ []) all
  kept_are (root_drop name) xs vs keeps all = absurd keeps
  kept_are (same x y) xs vs keeps all = all
  kept_are root_dispose xs vs keeps all = all

-- a statement asks for this
abbrev pub AsksWith : List Entity → List Scoped → Asking → RootStatement → Type 0
AsksWith reg vs q (ask to wanted name) = q ≡ for_reference wanted
AsksWith reg vs q (ask_instance to wanted) = q ≡ for_reference wanted
AsksWith reg vs q (root_call c) = (typed : IsTypedCall reg (types_of vs) c) × (face : List ℕ) × (function : ℕ) × (q ≡ for_answer face function) × (numbered reg face function ≡ Some typed.function)
AsksWith reg vs q (root_query y) = q ≡ for_reference y.wanted
AsksWith reg vs q s = ⊥

-- a root that asked is at that statement
abbrev pub IsOpen : List Entity → List Scoped → Option Asking → Option RootStatement → Type 0
IsOpen reg vs None s = Unit
IsOpen reg vs (Some q) None = ⊥
IsOpen reg vs (Some q) (Some s) = AsksWith reg vs q s

-- ---- what an outcome does

module _ (reg : List Entity) (sound : IsSound reg) (vs us : List Scoped) (types : are_types reg us ≡ true) (more : (name : List ℕ) (k : Kind) → found_kind name vs ≡ Some k → found_kind name us ≡ Some k) where
  comes_fit : (p : Param) (ps : List Param) (xs : List Plain) (b : Bool) → comes p.way ≡ b → FitEach reg (plains xs) (kinds_on comes (p ∷ ps))
      → FitEach reg (plains xs) (if b then p.kind ∷ kinds_on comes ps else kinds_on comes ps)
  unfolding kinds_on
  comes_fit p ps xs b is fit = subst (λ c. FitEach reg (plains xs) (if c then p.kind ∷ kinds_on comes ps else kinds_on comes ps)) is fit

  outs_are : (ps : List Param) (args : List Argument) (xs : List Plain) (r : Run) → ArgumentsFit reg (types_of vs) ps args → FitEach reg (plains xs) (kinds_on comes ps)
      → VariablesAre reg r.variables us → VariablesAre reg (puts_outs args xs r).variables us
  unfolding ArgumentsFit puts_outs variable_type FitEach
  outs_are [] [] xs r typed fit all = all
  outs_are [] (a ∷ args) xs r typed fit all = absurd typed
  outs_are (p ∷ ps) [] xs r typed fit all = all
  outs_are (p ∷ ps) (into a ∷ args) xs r typed fit all = outs_are ps args xs r typed.1 (comes_fit p ps xs false (ap comes typed.0.0) fit) all
  outs_are (p ∷ ps) (out name ∷ args) [] r typed fit all = all
  outs_are (p ∷ ps) (out name ∷ args) (x ∷ xs) r typed fit all =
      let here = comes_fit p ps (x ∷ xs) true (ap comes typed.0.0) fit in
      let found = more name typed.0.1.to typed.0.1.typed in
      outs_are ps args xs (puts name x r) typed.1 here.1
      (put_are reg name x r.variables us typed.0.1.to found (fits_wider reg sound x typed.0.1.to p.kind (found_type reg name us typed.0.1.to types found) typed.0.1.fits here.0) all)
  outs_are (p ∷ ps) (both name ∷ args) [] r typed fit all = all
  outs_are (p ∷ ps) (both name ∷ args) (x ∷ xs) r typed fit all =
      let here = comes_fit p ps (x ∷ xs) true (ap comes typed.0.0) fit in
      outs_are ps args xs (puts name x r) typed.1 here.1 (put_are reg name x r.variables us p.kind (more name p.kind typed.0.1) here.0 all)

module _ (g : Setting) (given : IsGiven g) where
  result_are : (to : Option Field) (k : Kind) (x : Plain) (vs : List Scoped) (r : Run) → ResultFits g.registry k to → IsResultNew to (types_of vs) → Fits g.registry x k
      → VariablesAre g.registry r.variables vs → VariablesAre g.registry (adds_result (option_map (λ f. f.name) to) x r).variables (with_result to (types_of vs)).variables
  unfolding variable_type
  result_are None k x vs r fits new value all = all
  result_are (Some f) k x vs r fits new value all =
      added_are g.registry f.name x r.variables vs f.kind new (fits_wider g.registry given.sound x f.kind k fits.0 fits.1 value) all

  result_more : (to : Option Field) (vs : List Scoped) (name : List ℕ) (k : Kind) → found_kind name vs ≡ Some k → found_kind name (with_result to (types_of vs)).variables ≡ Some k
  result_more None vs name k is = is
  result_more (Some f) vs name k is = found_before name vs (record { name = f.name; kind = f.kind; comes_out = false } ∷ []) k is

  call_takes : (c : Call) (x : Plain) (outs : List Plain) (r : Run) (vs : List Scoped) (typed : IsTypedCall g.registry (types_of vs) c) → IsResultNew c.to (types_of vs)
      → are_types g.registry (with_result c.to (types_of vs)).variables ≡ true → Fits g.registry x typed.function.result_kind
      → FitEach g.registry (plains outs) (kinds_on comes typed.function.params) → VariablesAre g.registry r.variables vs
      → VariablesAre g.registry (puts_outs c.arguments outs (adds_result (option_map (λ f. f.name) c.to) x r)).variables (with_result c.to (types_of vs)).variables
  call_takes c x outs r vs typed new types value fit all =
      outs_are g.registry given.sound vs (with_result c.to (types_of vs)).variables types (result_more c.to vs) typed.function.params c.arguments outs
      (adds_result (option_map (λ f. f.name) c.to) x r) typed.arguments fit (result_are c.to typed.function.result_kind x vs r typed.result new value all)

  reference_got : (q : Asking) (wanted : List ℕ) (x : Plain) (outs : List Plain) → q ≡ for_reference wanted → IsAnswerTo g.registry (Some q) (returned x outs) → Fits g.registry x (kd.interface wanted)
  reference_got q wanted x outs is fits = subst (λ z. IsAnswerTo g.registry (Some z) (returned x outs)) is fits

  -- what is taken is of the types behind the statement that asked for it
  takes_are : (s : RootStatement) (o : Outcome) (q : Asking) (r : Run) (vs : List Scoped) → IsTypedRoot g.registry g.plan (types_of vs) s → are_types g.registry (behind s vs) ≡ true
      → AsksWith g.registry vs q s → StateFits g.registry (Some q) (answered o) → VariablesAre g.registry r.variables vs → VariablesAre g.registry (takes_outcome s o r).variables (behind s vs)
  unfolding takes_outcome IsTypedRoot types_behind_root variable_type
  takes_are (ask to wanted name) (answer (returned x outs)) q r vs typed types asks fits all =
      added_are g.registry to x r.variables vs (kd.interface wanted) typed.2 (reference_got q wanted x outs asks fits) all
  takes_are (ask to wanted name) (answer (raised k x)) q r vs typed types asks fits all = kept_are g.registry (ask to wanted name) r.variables vs tt all
  takes_are (ask to wanted name) (side.disposed why) q r vs typed types asks fits all = kept_are g.registry (ask to wanted name) r.variables vs tt all
  takes_are (ask to wanted name) side.no_memory q r vs typed types asks fits all = kept_are g.registry (ask to wanted name) r.variables vs tt all
  takes_are (ask_instance to wanted) (answer (returned x outs)) q r vs typed types asks fits all =
      added_are g.registry to x r.variables vs (kd.interface wanted) typed.1 (reference_got q wanted x outs asks fits) all
  takes_are (ask_instance to wanted) (answer (raised k x)) q r vs typed types asks fits all = kept_are g.registry (ask_instance to wanted) r.variables vs tt all
  takes_are (ask_instance to wanted) (side.disposed why) q r vs typed types asks fits all = kept_are g.registry (ask_instance to wanted) r.variables vs tt all
  takes_are (ask_instance to wanted) side.no_memory q r vs typed types asks fits all = kept_are g.registry (ask_instance to wanted) r.variables vs tt all
  takes_are (root_call c) (answer (returned x outs)) q r vs typed types asks fits all =
      let one = asks.0 in
      let at = subst (λ z. IsAnswerTo g.registry (Some z) (returned x outs)) asks.3 fits in
      let is : at.0 ≡ one.function = same_some (sym at.1 ∙ asks.4) in
      let answers = subst (λ f. AnswerFits g.registry f (returned x outs)) is at.2 in
      call_takes c x outs r vs one typed.2 types answers.0 answers.2.fit all
  takes_are (root_call c) (answer (raised k x)) q r vs typed types asks fits all = kept_are g.registry (root_call c) r.variables vs tt all
  takes_are (root_call c) (side.disposed why) q r vs typed types asks fits all = kept_are g.registry (root_call c) r.variables vs tt all
  takes_are (root_call c) side.no_memory q r vs typed types asks fits all = kept_are g.registry (root_call c) r.variables vs tt all
  takes_are (root_query y) (answer (returned x outs)) q r vs typed types asks fits all =
      added_are g.registry y.to x r.variables vs (kd.interface y.wanted) typed.1 (reference_got q y.wanted x outs asks fits) all
  takes_are (root_query y) (answer (raised k x)) q r vs typed types asks fits all = kept_are g.registry (root_query y) r.variables vs tt all
  takes_are (root_query y) (side.disposed why) q r vs typed types asks fits all = kept_are g.registry (root_query y) r.variables vs tt all
  takes_are (root_query y) side.no_memory q r vs typed types asks fits all = kept_are g.registry (root_query y) r.variables vs tt all
  takes_are (root_make m) o q r vs typed types asks fits all = absurd asks
  takes_are (root_drop name) o q r vs typed types asks fits all = absurd asks
  takes_are (same a b) o q r vs typed types asks fits all = absurd asks
  takes_are root_dispose o q r vs typed types asks fits all = absurd asks

  -- ---- what an outcome leaves as it is

  outs_root : (args : List Argument) (xs : List Plain) (r : Run) → (puts_outs args xs r).root ≡ r.root
  unfolding puts_outs
  outs_root [] xs r = refl
  outs_root (into a ∷ args) xs r = outs_root args xs r
  outs_root (out name ∷ args) [] r = refl
  outs_root (out name ∷ args) (x ∷ xs) r = outs_root args xs (puts name x r)
  outs_root (both name ∷ args) [] r = refl
  outs_root (both name ∷ args) (x ∷ xs) r = outs_root args xs (puts name x r)

  outs_instance : (args : List Argument) (xs : List Plain) (r : Run) → (puts_outs args xs r).instance ≡ r.instance
  unfolding puts_outs
  outs_instance [] xs r = refl
  outs_instance (into a ∷ args) xs r = outs_instance args xs r
  outs_instance (out name ∷ args) [] r = refl
  outs_instance (out name ∷ args) (x ∷ xs) r = outs_instance args xs (puts name x r)
  outs_instance (both name ∷ args) [] r = refl
  outs_instance (both name ∷ args) (x ∷ xs) r = outs_instance args xs (puts name x r)

  outs_place : (args : List Argument) (xs : List Plain) (r : Run) → (puts_outs args xs r).place ≡ r.place
  unfolding puts_outs
  outs_place [] xs r = refl
  outs_place (into a ∷ args) xs r = outs_place args xs r
  outs_place (out name ∷ args) [] r = refl
  outs_place (out name ∷ args) (x ∷ xs) r = outs_place args xs (puts name x r)
  outs_place (both name ∷ args) [] r = refl
  outs_place (both name ∷ args) (x ∷ xs) r = outs_place args xs (puts name x r)

  pub record AsItWas (q r : Run) : Type 0 where
    pub root : q.root ≡ r.root
    pub instance : q.instance ≡ r.instance
    pub place : q.place ≡ r.place

  added_as : (to : Option (List ℕ)) (x : Plain) (r : Run) → AsItWas (adds_result to x r) r
  added_as None x r = record { root = refl; instance = refl; place = refl }
  added_as (Some name) x r = record { root = refl; instance = refl; place = refl }

  pub takes_as : (x : RootStatement) (o : Outcome) (r : Run) → AsItWas (takes_outcome x o r) r
  unfolding takes_outcome
  takes_as (root_call c) (answer (returned x outs)) r =
      let first = added_as (option_map (λ f. f.name) c.to) x r in
      let here = adds_result (option_map (λ f. f.name) c.to) x r in
      record { root = outs_root c.arguments outs here ∙ first.root; instance = outs_instance c.arguments outs here ∙ first.instance; place = outs_place c.arguments outs here ∙ first.place }
  takes_as (root_query y) (answer (returned x outs)) r = record { root = refl; instance = refl; place = refl }
  takes_as (ask to wanted name) (answer (returned x outs)) r = record { root = refl; instance = refl; place = refl }
  takes_as (ask_instance to wanted) (answer (returned x outs)) r = record { root = refl; instance = refl; place = refl }
  takes_as s (answer (raised k x)) r = record { root = refl; instance = refl; place = refl }
  takes_as s o r = record { root = refl; instance = refl; place = refl }

  -- ---- a run at its place

  pub record At (r : Run) : Type 0 where
    pub variables : List Scoped
    pub are : VariablesAre g.registry r.variables variables
    pub types : are_types g.registry variables ≡ true
    pub rest : AreTypedRoots g.registry g.plan (types_of variables) (drop r.place (statements_of g.plan r.root))

  abbrev OpenAt : (r : Run) → At r → Option Asking → Type 0
  OpenAt r at q = IsOpen g.registry at.variables q (statement_at g r)

  -- the statement at its place is typed, and those behind it
  rest_typed : (r : Run) (at : At r) (s : RootStatement) → statement_at g r ≡ Some s
      → IsTypedRoot g.registry g.plan (types_of at.variables) s × AreTypedRoots g.registry g.plan (types_of (behind s at.variables)) (drop (suc r.place) (statements_of g.plan r.root))
  unfolding AreTypedRoots
  rest_typed r at s is =
      let both = subst (AreTypedRoots g.registry g.plan (types_of at.variables)) (dropped_at (statements_of g.plan r.root) r.place s is) at.rest in
      (both.0, subst (λ ts. AreTypedRoots g.registry g.plan ts (drop (suc r.place) (statements_of g.plan r.root))) (behind_is s at.variables) both.1)

  -- it is behind that statement
  over_at : (r q : Run) (at : At r) (s : RootStatement) → statement_at g r ≡ Some s → q.root ≡ r.root → q.place ≡ suc r.place → VariablesAre g.registry q.variables (behind s at.variables) → At q
  over_at r q at s is root place all =
      let typed = rest_typed r at s is in
      record {
        variables = behind s at.variables;
        are = all;
        types = root_types_kept g.registry given.sound g.plan s (types_of at.variables) at.types typed.0;
        rest =
            subst (λ n. AreTypedRoots g.registry g.plan (types_of (behind s at.variables)) (drop q.place (statements_of g.plan n))) (sym root)
            (subst (λ n. AreTypedRoots g.registry g.plan (types_of (behind s at.variables)) (drop n (statements_of g.plan r.root))) (sym place) typed.1);
      }

  -- what a move leaves, and gives
  pub record Follows (r next : Run) : Type 0 where
    pub root : next.root ≡ r.root
    pub instance : next.instance ≡ r.instance
    pub at : At next

  abbrev pub MoveFits : Run → Option Asking → Moved → Type 0
  MoveFits r q waiting = Unit
  MoveFits r q finished = Unit
  MoveFits r q (moved next None) = (f : Follows r next) × IsOpen g.registry f.at.variables q (statement_at g next)
  MoveFits r q (moved next (Some e)) = (f : Follows r next) × MayGive g e × IsOpen g.registry f.at.variables (asked_by r.root q e) (statement_at g next)

  fits_by : (r : Run) (q : Option Asking) (b : Bool) (m n : Moved) → (b ≡ true → MoveFits r q m) → (b ≡ false → MoveFits r q n) → MoveFits r q (if b then m else n)
  fits_by r q true m n p o = p refl
  fits_by r q false m n p o = o refl

  -- ---- what begins

  itself : (n : ℕ) → (n == n) ≡ true
  itself n = grind (arith, eqb-true)

  -- an entry that begins with what a statement asks for, where the bridge stands and there is room
  begins_fits : (s : Side) (r : Run) (at : At r) (x : RootStatement) (e : Entry) (q : Asking) → statement_at g r ≡ Some x → Keeps x → MayGive g e → asked_by r.root None e ≡ Some q
      → AsksWith g.registry at.variables q x → MoveFits r None (begins s r e)
  begins_fits s r at x e q is keeps gives asks with_it =
      fits_by r None (not (stands s)) _ _ (λ no. (record { root = refl; instance = refl; at = over_at r _ at x is refl refl (kept_are g.registry x r.variables at.variables keeps at.are) }, tt))
      (λ yes. fits_by r None (has_entries s) _ (moved r (Some e))
      (λ no. (record { root = refl; instance = refl; at = over_at r _ at x is refl refl (kept_are g.registry x r.variables at.variables keeps at.are) }, tt, tt))
      (λ room. (record { root = refl; instance = refl; at = at }, gives, subst (λ o. IsOpen g.registry at.variables o (statement_at g r)) (sym asks) (subst (IsOpen g.registry at.variables (Some q)) (sym is) with_it))))

  asked_here : (n : ℕ) (q : Asking) → (if n == n then Some q else None) ≡ Some q
  asked_here n q = rw (itself n) refl

  over_fits : (r : Run) (at : At r) (x : RootStatement) (next : Run) → statement_at g r ≡ Some x → Keeps x → next.root ≡ r.root → next.instance ≡ r.instance → next.place ≡ suc r.place
      → next.variables ≡ r.variables → MoveFits r None (moved next None)
  over_fits r at x next is keeps root instance place same_variables = (
    record {
      root = root;
      instance = instance;
      at = over_at r next at x is root place (subst (λ xs. VariablesAre g.registry xs (behind x at.variables)) (sym same_variables) (kept_are g.registry x r.variables at.variables keeps at.are));
    },
    tt,
  )

  -- ---- queries and names

  query_said : (root : ℕ) (oid face wanted : List ℕ) → IsThread (root_tid g root) → IsIdentity oid → IsInterface g.registry face → IsInterface g.registry wanted
      → MayBeSaid g.registry (request (root_tid g root) oid face 0 (query_args wanted))
  unfolding Fits FitEach kinds_on depth depth_in
  query_said root oid face wanted thread identity there wants = (
    fn.call x_interface_name query_interface,
    record {
      interface = there;
      found = query_at g.registry given.sound given.built face (interface_there g.registry face there);
      small = omega arith;
      no_acquire = λ is. omega (arith, is);
      no_release = λ is. omega (arith, is);
    },
    thread,
    identity,
    record { fit = ((refl, wants), tt); deep = omega arith },
  )

  name_identity : (name : List ℕ) → is_export_name name ≡ true → IsIdentity name
  unfolding is_export_name
  name_identity name is =
      let both = and_parts (nat_lt 0 (length name) && nat_le (length name) 64) (list_all is_export_byte name) is in
      let sizes = and_parts (nat_lt 0 (length name)) (nat_le (length name) 64) both.0 in
      let least = ltb-true 0 (length name) sizes.0 in
      let most = leb-true (length name) 64 sizes.1 in
      record { some = omega arith; bounded = omega arith }

  -- ---- calls

  behind_three : (fs more : List Function) (f : Function) → fs ≡ root_functions ++ more → Among (drop 3 fs) f → Among more f
  behind_three fs more f whole at = subst (λ l. Among (drop 3 l) f) whole at

  not_query : (face name : List ℕ) (f : Function) → IsInterface g.registry face → called_function g.registry face name ≡ Some f → f ≡ fn.call x_interface_name query_interface → ⊥
  unfolding called_function
  not_query face name f there is same_one =
      let first = root_first g.registry given.sound given.built face (interface_there g.registry face there) in
      let at = behind_three (functions_of g.registry face) first.0 f first.1 (found_among (λ h. bytes_eq name h.name) (drop 3 (functions_of g.registry face)) f is) in
      not_of_root g.registry (interface_found g.registry given.built) given.sound face first.0 f first.1 (among_contains first.0 at.0 f at.1) (ap (λ (h : Function). h.owner) same_one)

  real_number : (n : ℕ) (face wanted name : List ℕ) (f : Function) → IsInterface g.registry face → IsInterface g.registry wanted → called_function g.registry wanted name ≡ Some f
      → numbered g.registry face n ≡ Some f → n ≢ 1 → n ≢ 2 → 3 ≤ n
  real_number zero face wanted name f there also is found a b =
      absurd (not_query wanted name f also is (same_some (sym found ∙ query_at g.registry given.sound given.built face (interface_there g.registry face there))))
  real_number (suc zero) face wanted name f there also is found a b = absurd (a refl)
  real_number (suc (suc zero)) face wanted name f there also is found a b = absurd (b refl)
  real_number (suc (suc (suc n))) face wanted name f there also is found a b = omega arith

  -- ---- what a statement may refer to

  word_type_is : (vs : List Scoped) (w : Word) (k : Kind) → are_types g.registry vs ≡ true → word_type (types_of vs) w ≡ Some k → is_type g.registry k ≡ true
  unfolding variable_type field_type
  word_type_is vs (variable name) k types is = found_type g.registry name vs k types is
  word_type_is vs (field name) k types is = absurd (none_some is)
  word_type_is vs words.own k types is = subst (λ j. is_type g.registry j ≡ true) (same_some is) (root_interface g given)

  scene_fits : (r : Run) (vs : List Scoped) (all : VariablesAre g.registry r.variables vs) → SceneFits g.registry (scene_of r) (types_of all.present)
  unfolding Fits FieldsFit
  scene_fits r vs all = record { variables = all.fit; fields = tt; own = root_interface g given }

  root_thread : (r : Run) → IsRoot g r.root → IsThread (root_tid g r.root)
  root_thread r is = let few = given.roots in let bound = is.1 in thread_named g r.root given.short (omega arith)

  -- ---- statements

  module _ (s : Side) (r : Run) (at : At r) (x : RootStatement) (here : statement_at g r ≡ Some x) (root : IsRoot g r.root) (export : is_export_name r.instance ≡ true)
      (few : has_entries s ≡ false → suc s.tables.objects_made < 2 ^ 64) where
    abbrev Fitting : Moved → Type 0
    Fitting m = MoveFits r None m

    over : (next : Run) → Keeps x → next.root ≡ r.root → next.instance ≡ r.instance → next.place ≡ suc r.place → next.variables ≡ r.variables → Fitting (moved next None)
    over next keeps = over_fits r at x next here keeps

    asks_fits : (name wanted : List ℕ) → Keeps x → is_export_name name ≡ true → IsInterface g.registry wanted → AsksWith g.registry at.variables (for_reference wanted) x
        → Fitting (begins s r (asked r.root name wanted))
    asks_fits name wanted keeps form there asks =
        begins_fits s r at x (asked r.root name wanted) (for_reference wanted) here keeps
        (form, query_said r.root name x_interface_name wanted (root_thread r root) (name_identity name form) (root_interface g given) there) (asked_here r.root (for_reference wanted)) asks

    query_fits : (q : Query) (oid face wanted : List ℕ) → Keeps x → HeldFits g.registry oid face wanted → IsInterface g.registry q.wanted
        → AsksWith g.registry at.variables (for_reference q.wanted) x → Fitting (begins s r (queried r.root oid face q.wanted))
    query_fits q oid face wanted keeps held there asks =
        begins_fits s r at x (queried r.root oid face q.wanted) (for_reference q.wanted) here keeps
        (query_said r.root oid face q.wanted (root_thread r root) held.identity held.held there) (asked_here r.root (for_reference q.wanted)) asks

    module _ (c : Call) (is_call : x ≡ root_call c) (typed : IsTypedCall g.registry (types_of at.variables) c) (has : list_all may_be_given c.arguments ≡ true)
        (there : list_all (is_there r.variables) (word_names c.target ++ flat_map argument_names c.arguments) ≡ true) where
      parts : (list_all (is_there r.variables) (word_names c.target) ≡ true) × (list_all (is_there r.variables) (flat_map argument_names c.arguments) ≡ true)
      parts = both_all (is_there r.variables) (word_names c.target) (flat_map argument_names c.arguments) there

      call_fits : (oid face : List ℕ) → HeldFits g.registry oid face typed.face
          → Fitting (begins s r (called r.root oid face (number_in g.registry face c.callee) (unwrap_or (given_values (scene_of r) c.arguments) [])))
      call_fits oid face held =
          let number = number_fits g.registry given.sound given.built given.differ face typed.face c.callee typed.function held.reached typed.found typed.owner typed.name in
          let types = called_typed g.registry given.sound typed.face c.callee.name typed.function typed.found in
          let args = given_there (scene_of r) c.arguments has in
          let fit = given_fit g.registry given.sound (scene_of r) (types_of at.are.present) (scene_fits r at.variables at.are) typed.function.params c.arguments args.it types.params
          (arguments_fit g.registry r.variables at.variables at.are typed.function.params c.arguments parts.1 typed.arguments) args.is in
          let wanted : IsInterface g.registry typed.face = word_type_is at.variables c.target (kd.interface typed.face) at.types typed.target in
          begins_fits s r at x (called r.root oid face (number_in g.registry face c.callee) (unwrap_or (given_values (scene_of r) c.arguments) [])) (for_answer face (number_in g.registry face c.callee)) here
          (subst Keeps (sym is_call) tt)
          (record {
            real = real_number (number_in g.registry face c.callee) face typed.face c.callee.name typed.function held.held wanted typed.found number.found number.no_acquire number.no_release;
            declared = typed.function;
            called =
                record { interface = held.held; found = number.found; small = number.small; no_acquire = number.no_acquire; no_release = number.no_release };
            thread = root_thread r root;
            identity = held.identity;
            fit = subst (λ o. FitEach g.registry (plains (unwrap_or o [])) (argument_kinds typed.function)) (sym args.is) fit;
          })
          (asked_here r.root (for_answer face (number_in g.registry face c.callee)))
          (subst (AsksWith g.registry at.variables (for_answer face (number_in g.registry face c.callee))) (sym is_call)
          (typed, face, number_in g.registry face c.callee, refl, number.found))

      on_target : (target : Ref) → InterfaceFits g.registry typed.face target → Fitting (calls_on g.registry s r c target)
      on_target null held = over _ (subst Keeps (sym is_call) tt) refl refl refl refl
      on_target (own oid face) held = call_fits oid face held
      on_target (peer oid face) held = call_fits oid face held

      call_moves : Fitting (calls_on g.registry s r c (object_of (value_of_word (scene_of r) c.target)))
      call_moves =
          let value = interface_value g.registry typed.face (value_of_word (scene_of r) c.target)
          (word_fits g.registry (scene_of r) (types_of at.are.present) c.target (kd.interface typed.face) (scene_fits r at.variables at.are)
          (word_typed g.registry r.variables at.variables at.are c.target (kd.interface typed.face) parts.0 typed.target)) in
          subst (λ y. Fitting (calls_on g.registry s r c (object_of y))) (sym value.is) (on_target value.ref value.fits)

    query_target : (q : Query) (face : List ℕ) (target : Ref) → Keeps x → InterfaceFits g.registry face target → IsInterface g.registry q.wanted
        → AsksWith g.registry at.variables (for_reference q.wanted) x → Fitting (queries_on s r q target)
    query_target q face null keeps held there asks = over _ keeps refl refl refl refl
    query_target q face (own oid at_face) keeps held there asks = query_fits q oid at_face face keeps held there asks
    query_target q face (peer oid at_face) keeps held there asks = query_fits q oid at_face face keeps held there asks

    query_moves : (q : Query) → Keeps x → (typed : IsTypedQuery g.registry (types_of at.variables) q) → list_all (is_there r.variables) (word_names q.target) ≡ true
        → AsksWith g.registry at.variables (for_reference q.wanted) x → Fitting (queries_on s r q (object_of (value_of_word (scene_of r) q.target)))
    query_moves q keeps typed there asks =
        let value = interface_value g.registry typed.face (value_of_word (scene_of r) q.target)
        (word_fits g.registry (scene_of r) (types_of at.are.present) q.target (kd.interface typed.face) (scene_fits r at.variables at.are)
        (word_typed g.registry r.variables at.variables at.are q.target (kd.interface typed.face) there typed.target)) in
        subst (λ y. Fitting (queries_on s r q (object_of y))) (sym value.is) (query_target q typed.face value.ref keeps value.fits typed.wanted asks)

    -- ---- a new object

    made_are : (m : Making) → x ≡ root_make m → IsTypedMaking g.registry g.plan m → IsNew m.to (types_of at.variables) → suc s.tables.objects_made < 2 ^ 64
        → VariablesAre g.registry (with_variable m.to (v.ref (own (own_oid g (suc s.tables.objects_made)) m.face)) r.variables) (behind x at.variables)
    unfolding variable_type types_behind_root Fits
    made_are m is_make typed new room =
        subst (λ y. VariablesAre g.registry (with_variable m.to (v.ref (own (own_oid g (suc s.tables.objects_made)) m.face)) r.variables) (behind y at.variables)) (sym is_make)
        (added_are g.registry m.to (v.ref (own (own_oid g (suc s.tables.objects_made)) m.face)) r.variables at.variables (kd.interface m.face) new
        (record { identity = identity_named g (suc s.tables.objects_made) given.short room; held = typed.face; reached = inl refl }) at.are)

    make_moves : (m : Making) (standing filled : Bool) → stands s ≡ standing → has_entries s ≡ filled → x ≡ root_make m → IsTypedMaking g.registry g.plan m → IsNew m.to (types_of at.variables)
        → Fitting (makes_new g s r m)
    make_moves m false filled is has is_make typed new = rw is (over _ (subst Keeps (sym is_make) tt) refl refl refl refl)
    make_moves m true true is has is_make typed new =
        rw (is, has) (record { root = refl; instance = refl; at = over_at r _ at x here refl refl (kept_are g.registry x r.variables at.variables (subst Keeps (sym is_make) tt) at.are) }, tt, tt)
    make_moves m true false is has is_make typed new =
        rw (is, has) (
          record { root = refl; instance = refl; at = over_at r _ at x here refl refl (made_are m is_make typed new (few has)) },
          record { made = typed.behaviour; found = typed.found; supported = typed.supported; interface = typed.face },
          tt,
        )

    dispose_moves : (b : Bool) → stands s ≡ b → Keeps x → Fitting (disposes s r)
    dispose_moves true is keeps = rw is (record { root = refl; instance = refl; at = over_at r _ at x here refl refl (kept_are g.registry x r.variables at.variables keeps at.are) }, tt, tt)
    dispose_moves false is keeps = rw is (over _ keeps refl refl refl refl)

  statement_moves : (s : Side) (r : Run) (at : At r) (x : RootStatement) (here : statement_at g r ≡ Some x) (root : IsRoot g r.root) (export : is_export_name r.instance ≡ true)
      (few : has_entries s ≡ false → suc s.tables.objects_made < 2 ^ 64) → list_all (is_there r.variables) (names_of x) ≡ true → MoveFits r None (begins_statement g s r x)
  unfolding begins_statement asked_name IsTypedRoot names_of types_behind_root
  statement_moves s r at (ask to wanted name) here root export few there =
      let typed = (rest_typed r at (ask to wanted name) here).0 in asks_fits s r at (ask to wanted name) here root export few name wanted tt typed.0 typed.1 refl
  statement_moves s r at (ask_instance to wanted) here root export few there =
      let typed = (rest_typed r at (ask_instance to wanted) here).0 in asks_fits s r at (ask_instance to wanted) here root export few r.instance wanted tt export typed.0 refl
  statement_moves s r at (root_call c) here root export few there =
      let typed = (rest_typed r at (root_call c) here).0 in call_moves s r at (root_call c) here root export few c refl typed.0 typed.1 there
  statement_moves s r at (root_query q) here root export few there =
      let typed = (rest_typed r at (root_query q) here).0 in query_moves s r at (root_query q) here root export few q tt typed.0 there refl
  statement_moves s r at (root_make m) here root export few there =
      let typed = (rest_typed r at (root_make m) here).0 in make_moves s r at (root_make m) here root export few m (stands s) (has_entries s) refl refl refl typed.0 typed.1
  statement_moves s r at (root_drop name) here root export few there =
      (record { root = refl; instance = refl; at = over_at r _ at (root_drop name) here refl refl (without_are g.registry name r.variables at.variables at.are) }, tt)
  statement_moves s r at (same a b) here root export few there = over_fits r at (same a b) _ here tt refl refl refl refl
  statement_moves s r at root_dispose here root export few there = dispose_moves s r at root_dispose here root export few (stands s) refl tt

  -- a statement that is skipped drops nothing
  skipped_keeps : (xs : List Variable) (x : RootStatement) → is_skipped xs x ≡ true → Keeps x
  unfolding names_of
  skipped_keeps xs (root_drop name) is = absurd (cc)
  skipped_keeps xs (ask to wanted name) is = tt
  skipped_keeps xs (ask_instance to wanted) is = tt
  skipped_keeps xs (root_call c) is = tt
  skipped_keeps xs (root_query q) is = tt
  skipped_keeps xs (root_make m) is = tt
  skipped_keeps xs (same a b) is = tt
  skipped_keeps xs root_dispose is = tt

  not_not : (b : Bool) → not b ≡ false → b ≡ true
  not_not true is = refl
  not_not false is = absurd (cc)

  module _ (s : Side) (r : Run) (at : At r) (root : IsRoot g r.root) (export : is_export_name r.instance ≡ true) (few : has_entries s ≡ false → suc s.tables.objects_made < 2 ^ 64) where
    next_moves : (o : Option RootStatement) → statement_at g r ≡ o → MoveFits r None (next_statement g s r o)
    next_moves None here = tt
    next_moves (Some x) here =
        fits_by r None (is_skipped r.variables x) _ _ (λ is. over_fits r at x _ here (skipped_keeps r.variables x is) refl refl refl refl)
        (λ is. statement_moves s r at x here root export few (not_not (list_all (is_there r.variables) (names_of x)) is))

    loose_moves : (x : Ref) → MoveFits r None (lets_loose r x)
    loose_moves null = (record { root = refl; instance = refl; at = record { variables = at.variables; are = at.are; types = at.types; rest = at.rest } }, tt)
    loose_moves (own oid face) = (record { root = refl; instance = refl; at = record { variables = at.variables; are = at.are; types = at.types; rest = at.rest } }, tt, tt)
    loose_moves (peer oid face) = (record { root = refl; instance = refl; at = record { variables = at.variables; are = at.are; types = at.types; rest = at.rest } }, tt, tt)

    idle_fits : (x : Option Ref) → MoveFits r None (idle_moves g s r x)
    idle_fits None = next_moves (statement_at g r) refl
    idle_fits (Some x) = loose_moves x

    taken_here : (n : ℕ) (q : Option Asking) → (if n == n then None else q) ≡ None
    taken_here n q = rw (itself n) refl

    nothing_open : (vs : List Scoped) (q : Option Asking) (x : Option RootStatement) → q ≡ None → IsOpen g.registry vs q x
    nothing_open vs q x is = subst (λ p. IsOpen g.registry vs p x) (sym is) tt

    takes_fits : (o : Outcome) (q : Asking) (x : Option RootStatement) → statement_at g r ≡ x → IsOpen g.registry at.variables (Some q) x → StateFits g.registry (Some q) (answered o)
        → MoveFits r (Some q) (takes_at g r o x)
    takes_fits o q None here asks fits = tt
    takes_fits o q (Some x) here asks fits =
        let typed = rest_typed r at x here in (
          record {
            root = (takes_as x o r).root;
            instance = (takes_as x o r).instance;
            at =
                over_at r _ at x here ((takes_as x o r).root) (ap (λ n. suc n) (takes_as x o r).place)
                (takes_are x o q r at.variables typed.0 (root_types_kept g.registry given.sound g.plan x (types_of at.variables) at.types typed.0) asks fits at.are);
          },
          tt,
          nothing_open _ _ _ (taken_here r.root (Some q)),
        )

    pub state_fits : (q : Option Asking) (state : RootState) → OpenAt r at q → StateFits g.registry q state → MoveFits r q (state_moves g s r state)
    state_fits None idle openss fits = idle_fits (next_loose r.loose)
    state_fits (Some q) idle opens fits = absurd fits
    state_fits q waits_call opens fits = tt
    state_fits q (waits_query wanted) opens fits = tt
    state_fits None (answered (answer a)) opens fits = absurd fits
    state_fits None (answered (side.disposed why)) opens fits = absurd fits
    state_fits None (answered side.no_memory) opens fits = absurd fits
    state_fits (Some q) (answered o) opens fits = takes_fits o q (statement_at g r) refl opens fits
