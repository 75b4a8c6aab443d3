-- Roots that follow the plan give only what can be carried by bytes.
use Rattle.std.proofs.Common.{◌≡◌, ℕ, zero, suc, Bool, true, false, not, if◌then◌else◌, List, [], ◌∷◌, ◌++◌, Option, None, Some, option_map, slice_get, unwrap_or, refl, sym, ap, subst, ◌∙◌}
use Rattle.std.proofs.lemmas.List.{append_assoc, append-nil}
use Rattle.std.specs.List.{AllByRecursion}
use Rattle.std.specs.Str.{IsUtf8}
use Rattle.message_model.specs.Messages.{Message, returned, raised}
use Rattle.uno_model.specs.Spellable.{IsSpellable}
use Rattle.uno_model.specs.Values.{Ref, null, own, peer, Plain}
use Rattle.uno_model.specs.Values as v
use Rattle.plan_model.specs.Calling.{given_values, number_in, object_of}
use Rattle.plan_model.specs.Evaluation.{value_of_word}
use Rattle.plan_model.specs.Expressions.{Argument, into, out, both}
use Rattle.plan_model.specs.Roots.{Run, opening_run, statements_in, statements_of, asked_name, next_loose}
use Rattle.plan_model.specs.Statements.{Call, Query, Making, RootStatement, ask, ask_instance, root_call, root_query, root_make, root_drop, same, root_dispose}
use Rattle.bridge_model.specs.Entries.{Entry, fed, asked, called, queried}
use Rattle.bridge_model.specs.Histories.{Told, nothing_told, told_more, told_by, tells_all, replay, Leads}
use Rattle.bridge_model.specs.RootRuns.{is_skipped, Moved, waiting, finished, moved, puts, puts_outs, adds_result, takes_outcome, takes_at, scene_of, begins, calls_on, queries_on, asks_for, makes_new, disposes, begins_statement, begins_unless_skipped, next_statement, statement_at, lets_loose, idle_moves, state_moves, root_moves, StandsFor, begun, another, entered, passed}
use Rattle.bridge_model.specs.Settings.{Setting, own_oid}
use Rattle.bridge_model.specs.Sides.{Outcome, answer, RootState, idle, waits_call, waits_query, answered, Side, stands, state_of}
use Rattle.bridge_model.specs.Steps.{has_entries, Turn, step}
use Rattle.bridge_laws.specs.SpellableGiving.{IsGivenByRoot, AreGivenByRoots, IsGivenSpellable, AreGivenSpellable}
use Rattle.bridge_laws.specs.Holding.{MessageGoes, OutcomeSpellable, StateSpellable}
use Rattle.bridge_laws.specs.Texts.{IsWritableArgument, IsWritableRootStatement, IsWritableThread}
use Rattle.bridge_laws.proofs.EffectSpelling.{IfAllSpellable, given_spellable, got_one}
use Rattle.bridge_laws.proofs.EvaluationSpelling.{VariablesSpellable, SceneSpellable}
use Rattle.bridge_laws.proofs.SpellableGiven.{IsGiven}
use Rattle.bridge_laws.proofs.GotSpelling.{AllGo, all_front, got_holds}
use Rattle.bridge_laws.proofs.HandingSpelling.{with_spellable, put_spellable, without_spellable}
use Rattle.bridge_laws.proofs.StepSpelling.{all_stays}
use Rattle.bridge_laws.proofs.ValueSpelling.{AllSpellable, ref_spellable, own_utf8}

-- ---- words

abbrev pub EntryGives : List ℕ → Option Entry → Type 0
EntryGives instance None = Unit
EntryGives instance (Some x) = IsUtf8 instance → IsGivenSpellable x

-- the variables behind a move can be carried by bytes, and what it gives, where the name of the instance is UTF-8
abbrev pub MoveGives : List ℕ → Moved → Type 0
MoveGives instance waiting = Unit
MoveGives instance finished = Unit
MoveGives instance (moved next x) = VariablesSpellable next.variables × EntryGives instance x

-- ---- outcomes

outs_put : (args : List Argument) (xs : List Plain) (r : Run) → AllSpellable xs → VariablesSpellable r.variables → VariablesSpellable (puts_outs args xs r).variables
unfolding puts_outs
outs_put [] xs r all fine = fine
outs_put (into a ∷ args) xs r all fine = outs_put args xs r all fine
outs_put (out name ∷ args) [] r all fine = fine
outs_put (out name ∷ args) (x ∷ xs) r all fine = outs_put args xs (puts name x r) all.1 (put_spellable name x r.variables all.0 fine)
outs_put (both name ∷ args) [] r all fine = fine
outs_put (both name ∷ args) (x ∷ xs) r all fine = outs_put args xs (puts name x r) all.1 (put_spellable name x r.variables all.0 fine)

result_added : (name : Option (List ℕ)) (x : Plain) (r : Run) → IsSpellable x → VariablesSpellable r.variables → VariablesSpellable (adds_result name x r).variables
result_added None x r is fine = fine
result_added (Some name) x r is fine = with_spellable name x r.variables is fine

outcome_taken : (s : RootStatement) (o : Outcome) (r : Run) → OutcomeSpellable o → VariablesSpellable r.variables → VariablesSpellable (takes_outcome s o r).variables
unfolding takes_outcome
outcome_taken (root_call c) (answer (returned x outs)) r is fine =
    outs_put c.arguments outs (adds_result (option_map (λ f. f.name) c.to) x r) is.1 (result_added (option_map (λ f. f.name) c.to) x r is.0 fine)
outcome_taken (root_query q) (answer (returned x outs)) r is fine = with_spellable q.to x r.variables is.0 fine
outcome_taken (ask to wanted name) (answer (returned x outs)) r is fine = with_spellable to x r.variables is.0 fine
outcome_taken (ask_instance to wanted) (answer (returned x outs)) r is fine = with_spellable to x r.variables is.0 fine
outcome_taken s (answer (raised k x)) r is fine = fine
outcome_taken s o r is fine = fine

taken_gives : (g : Setting) (r : Run) (o : Outcome) (s : Option RootStatement) → OutcomeSpellable o → VariablesSpellable r.variables → MoveGives r.instance (takes_at g r o s)
taken_gives g r o None is fine = tt
taken_gives g r o (Some s) is fine = (outcome_taken s o r is fine, λ text. tt)

-- ---- statements

move_by : (instance : List ℕ) (b : Bool) (m n : Moved) → MoveGives instance m → MoveGives instance n → MoveGives instance (if b then m else n)
move_by instance true m n p q = p
move_by instance false m n p q = q

begins_gives : (s : Side) (r : Run) (x : Entry) → VariablesSpellable r.variables → (IsUtf8 r.instance → IsGivenSpellable x) → MoveGives r.instance (begins s r x)
begins_gives s r x fine gives =
    move_by r.instance (not (stands s)) _ (if has_entries s then _ else moved r (Some x)) (fine, tt)
    (move_by r.instance (has_entries s) _ (moved r (Some x)) (fine, λ text. tt) (fine, gives))

-- what is given without a value that is not there
given_or : (o : Option (List Plain)) → IfAllSpellable o → AllSpellable (unwrap_or o [])
given_or None fine = tt
given_or (Some xs) fine = fine

run_scene : (r : Run) → VariablesSpellable r.variables → SceneSpellable (scene_of r)
run_scene r fine = record { variables = fine; fields = tt; own = tt }

call_gives : (g : Setting) (s : Side) (r : Run) (c : Call) (target : Ref) → AllByRecursion IsWritableArgument c.arguments → VariablesSpellable r.variables
    → MoveGives r.instance (calls_on g.registry s r c target)
call_gives g s r c null writable fine = (fine, tt)
call_gives g s r c (own oid face) writable fine =
    begins_gives s r (called r.root oid face (number_in g.registry face c.callee) (unwrap_or (given_values (scene_of r) c.arguments) [])) fine
    (λ text. given_or (given_values (scene_of r) c.arguments) (given_spellable (scene_of r) c.arguments (run_scene r fine) writable))
call_gives g s r c (peer oid face) writable fine =
    begins_gives s r (called r.root oid face (number_in g.registry face c.callee) (unwrap_or (given_values (scene_of r) c.arguments) [])) fine
    (λ text. given_or (given_values (scene_of r) c.arguments) (given_spellable (scene_of r) c.arguments (run_scene r fine) writable))

query_gives : (s : Side) (r : Run) (q : Query) (target : Ref) → VariablesSpellable r.variables → MoveGives r.instance (queries_on s r q target)
query_gives s r q null fine = (fine, tt)
query_gives s r q (own oid face) fine = begins_gives s r (queried r.root oid face q.wanted) fine (λ text. tt)
query_gives s r q (peer oid face) fine = begins_gives s r (queried r.root oid face q.wanted) fine (λ text. tt)

ask_gives : (s : Side) (r : Run) (wanted : List ℕ) (name : Option (List ℕ)) → ((n : List ℕ) → name ≡ Some n → IsUtf8 r.instance → IsUtf8 n) → VariablesSpellable r.variables
    → MoveGives r.instance (asks_for s r wanted name)
ask_gives s r wanted None texts fine = tt
ask_gives s r wanted (Some name) texts fine = begins_gives s r (asked r.root name wanted) fine (λ text. texts name refl text)

disposes_gives : (s : Side) (r : Run) (b : Bool) → stands s ≡ b → VariablesSpellable r.variables → MoveGives r.instance (disposes s r)
disposes_gives s r true is fine = rw is (fine, λ text. tt)
disposes_gives s r false is fine = rw is (fine, tt)

module _ (g : Setting) (given : IsGiven g) where
  make_gives : (s : Side) (r : Run) (m : Making) (standing filled : Bool) → stands s ≡ standing → has_entries s ≡ filled → VariablesSpellable r.variables → MoveGives r.instance (makes_new g s r m)
  make_gives s r m false filled is has fine = rw is (fine, tt)
  make_gives s r m true true is has fine = rw (is, has) (fine, λ text. tt)
  make_gives s r m true false is has fine =
      rw (is, has) (
        with_spellable m.to (v.ref (own (own_oid g (suc s.tables.objects_made)) m.face)) r.variables
            (ref_spellable (own (own_oid g (suc s.tables.objects_made)) m.face) (own_utf8 g given.tag (suc s.tables.objects_made))) fine,
        λ text. tt,
      )

  statement_gives : (s : Side) (r : Run) (x : RootStatement) → IsWritableRootStatement x → VariablesSpellable r.variables → MoveGives r.instance (begins_statement g s r x)
  unfolding begins_statement asked_name
  statement_gives s r (ask to wanted name) writable fine = ask_gives s r wanted (Some name) (λ n is text. subst IsUtf8 (cc) writable) fine
  statement_gives s r (ask_instance to wanted) writable fine = ask_gives s r wanted (Some r.instance) (λ n is text. subst IsUtf8 (cc) text) fine
  statement_gives s r (root_call c) writable fine = call_gives g s r c (object_of (value_of_word (scene_of r) c.target)) writable fine
  statement_gives s r (root_query q) writable fine = query_gives s r q (object_of (value_of_word (scene_of r) q.target)) fine
  statement_gives s r (root_make m) writable fine = make_gives s r m (stands s) (has_entries s) refl refl fine
  statement_gives s r (root_drop name) writable fine = (without_spellable name r.variables fine, tt)
  statement_gives s r (same a b) writable fine = (fine, tt)
  statement_gives s r root_dispose writable fine = disposes_gives s r (stands s) refl fine

  unless_gives : (s : Side) (r : Run) (x : RootStatement) → IsWritableRootStatement x → VariablesSpellable r.variables → MoveGives r.instance (begins_unless_skipped g s r x)
  unless_gives s r x writable fine = move_by r.instance (is_skipped r.variables x) _ (begins_statement g s r x) (fine, tt) (statement_gives s r x writable fine)

  -- ---- moves

  thread_in : (n : ℕ) (o : Option (List RootStatement)) → slice_get g.plan.threads n ≡ o → IsWritableThread (statements_in o)
  thread_in n None is = tt
  thread_in n (Some ss) is = got_one IsWritableThread g.plan.threads n given.plan.threads ss is

  thread_writable : (root : ℕ) → IsWritableThread (statements_of g.plan root)
  unfolding statements_of
  thread_writable zero = tt
  thread_writable (suc n) = thread_in n (slice_get g.plan.threads n) refl

  next_gives : (s : Side) (r : Run) (x : Option RootStatement) → slice_get (statements_of g.plan r.root) r.place ≡ x → VariablesSpellable r.variables → MoveGives r.instance (next_statement g s r x)
  next_gives s r None is fine = tt
  next_gives s r (Some x) is fine = unless_gives s r x (got_one IsWritableRootStatement (statements_of g.plan r.root) r.place (thread_writable r.root) x is) fine

  loose_gives : (r : Run) (x : Ref) → VariablesSpellable r.variables → MoveGives r.instance (lets_loose r x)
  loose_gives r null fine = (fine, tt)
  loose_gives r (own oid face) fine = (fine, λ text. tt)
  loose_gives r (peer oid face) fine = (fine, λ text. tt)

  idle_gives : (s : Side) (r : Run) (x : Option Ref) → VariablesSpellable r.variables → MoveGives r.instance (idle_moves g s r x)
  idle_gives s r None fine = next_gives s r (statement_at g r) refl fine
  idle_gives s r (Some x) fine = loose_gives r x fine

  state_gives : (s : Side) (r : Run) (state : RootState) → StateSpellable state → VariablesSpellable r.variables → MoveGives r.instance (state_moves g s r state)
  state_gives s r idle is fine = idle_gives s r (next_loose r.loose) fine
  state_gives s r waits_call is fine = tt
  state_gives s r (waits_query wanted) is fine = tt
  state_gives s r (answered o) is fine = taken_gives g r o (statement_at g r) is fine

  state_or : (o : Option RootState) (states : List RootState) (n : ℕ) → slice_get states n ≡ o → AllByRecursion StateSpellable states → StateSpellable (unwrap_or o idle)
  state_or None states n is all = tt
  state_or (Some state) states n is all = got_one StateSpellable states n all state is

  state_spellable : (root : ℕ) (states : List RootState) → AllByRecursion StateSpellable states → StateSpellable (state_of root states)
  unfolding state_of
  state_spellable zero states all = tt
  state_spellable (suc n) states all = state_or (slice_get states n) states n refl all

  pub move_gives : (s : Side) (r : Run) → AllByRecursion StateSpellable s.tables.roots → VariablesSpellable r.variables → MoveGives r.instance (root_moves g s r)
  unfolding root_moves
  move_gives s r states fine = state_gives s r (state_of r.root s.tables.roots) (state_spellable r.root s.tables.roots states) fine

  -- ---- runs

  next_variables : (s : Side) (r next : Run) (x : Option Entry) → root_moves g s r ≡ moved next x → AllByRecursion StateSpellable s.tables.roots → VariablesSpellable r.variables
      → VariablesSpellable next.variables
  next_variables s r next x is states fine = let gives = subst (MoveGives r.instance) is (move_gives s r states fine) in gives.0

  -- along a history what roots get can be carried
  abbrev StatesAlong : List Entry → Type 0
  StatesAlong es = (front rest : List Entry) (y : Told) → es ≡ front ++ rest → Leads g front y → AllByRecursion StateSpellable y.side.tables.roots

  along_front : (es : List Entry) (x : Entry) → StatesAlong (es ++ x ∷ []) → StatesAlong es
  along_front es x along front rest y is = along front (rest ++ x ∷ []) y (ap (λ zs. zs ++ x ∷ []) is ∙ append_assoc front rest (x ∷ []))

  run_along : (es : List Entry) (r : Run) → StandsFor g es r → StatesAlong es → VariablesSpellable r.variables
  unfolding opening_run
  run_along es r (begun root instance) along = tt
  run_along es r (another {es = before} x other stands_before) along = run_along before r stands_before (along_front before x along)
  run_along es r (entered {es = before} {r = last} {told = told} x leads moves stands_before) along =
      next_variables told.side last r (Some x) moves (along before (x ∷ []) told refl leads) (run_along before last stands_before (along_front before x along))
  run_along es r (passed {r = last} {told = told} leads moves stands_before) along =
      next_variables told.side last r None moves (along es [] told (sym (append-nil es)) leads) (run_along es last stands_before along)

  -- the entry of a move of a run
  entry_along : (es : List Entry) (x : Told) (r next : Run) (e : Entry) → StatesAlong es → Leads g es x → StandsFor g es r → IsUtf8 r.instance → root_moves g x.side r ≡ moved next (Some e)
      → IsGivenSpellable e
  entry_along es x r next e along leads stands_for text is =
      let move = subst (MoveGives r.instance) is (move_gives x.side r (along es [] x (sym (append-nil es)) leads) (run_along es r stands_for along)) in
      move.1 text

  -- ---- where what was given can be carried

  along_given : (es : List Entry) → AreGivenSpellable es → StatesAlong es
  along_given es gives front rest y is leads = (all_stays g given front y (all_front IsGivenSpellable front rest (subst AreGivenSpellable is gives)) leads).side.tables.states

  pub run_spellable : (es : List Entry) (r : Run) → StandsFor g es r → AreGivenSpellable es → VariablesSpellable r.variables
  run_spellable es r stands_for gives = run_along es r stands_for (along_given es gives)

  pub run_gives : (es : List Entry) (x : Told) (r next : Run) (e : Entry) → AreGivenSpellable es → Leads g es x → StandsFor g es r → IsUtf8 r.instance → root_moves g x.side r ≡ moved next (Some e)
      → IsGivenSpellable e
  run_gives es x r next e gives leads stands_for text is = entry_along es x r next e (along_given es gives) leads stands_for text is

  -- ---- where what was got can be

  nowhere : (es : List Entry) (x : Told) → tells_all g None es ≡ Some x → ⊥
  unfolding tells_all
  nowhere [] x is = absurd (cc)
  nowhere (e ∷ es) x is = absurd (cc)

  told_same : (y x : Told) → ◌≡◌ {A = Option Told} (Some y) (Some x) → y ≡ x
  told_same y x is = cc

  -- what was got stays
  got_more : (rest : List Entry) (y x : Told) → tells_all g (Some y) rest ≡ Some x → (more : List Message) × (x.got ≡ y.got ++ more)
  unfolding tells_all
  got_more [] y x is = ([], ap (λ (z : Told). z.got) (sym (told_same y x is)) ∙ sym (append-nil y.got))
  got_more (e ∷ rest) y x is = by_step (λ z to. got_more rest z x to) (step g y.side e) is
    where
      by_step : ((z : Told) → tells_all g (Some z) rest ≡ Some x → (more : List Message) × (x.got ≡ z.got ++ more)) → (o : Option Turn) → tells_all g (told_by y e o) rest ≡ Some x
          → (more : List Message) × (x.got ≡ y.got ++ more)
      by_step later None to = absurd (nowhere rest x to)
      by_step later (Some u) to = let all = later (told_more y e u) to in (u.got ++ all.0, all.1 ∙ append_assoc y.got u.got all.0)

  split : (front rest : List Entry) (z y x : Told) → tells_all g (Some z) front ≡ Some y → tells_all g (Some z) (front ++ rest) ≡ Some x → tells_all g (Some y) rest ≡ Some x
  unfolding tells_all
  split [] rest z y x is to = subst (λ w. tells_all g (Some w) rest ≡ Some x) (told_same z y is) to
  split (e ∷ front) rest z y x is to = by_step (λ w at all. split front rest w y x at all) (step g z.side e) is to
    where
      by_step : ((w : Told) → tells_all g (Some w) front ≡ Some y → tells_all g (Some w) (front ++ rest) ≡ Some x → tells_all g (Some y) rest ≡ Some x) → (o : Option Turn)
          → tells_all g (told_by z e o) front ≡ Some y → tells_all g (told_by z e o) (front ++ rest) ≡ Some x → tells_all g (Some y) rest ≡ Some x
      by_step later None at all = absurd (nowhere front y at)
      by_step later (Some u) at all = later (told_more z e u) at all

  along_got : (es : List Entry) (x : Told) → AreGivenByRoots es → Leads g es x → AllGo x.got → StatesAlong es
  unfolding replay
  along_got es x gives leads all front rest y is leads_front =
      let more = got_more rest y x (split front rest (nothing_told g) y x leads_front (subst (λ zs. tells_all g (Some (nothing_told g)) zs ≡ Some x) is leads)) in
      (got_holds g given front y (all_front IsGivenByRoot front rest (subst AreGivenByRoots is gives)) leads_front
      (all_front MessageGoes y.got more.0 (subst AllGo more.1 all))).side.tables.states

  given_by_root : (e : Entry) → IsGivenSpellable e → IsGivenByRoot e
  given_by_root (fed b) is = tt
  given_by_root e is = is

  pub run_gives_where : (es : List Entry) (x : Told) (r next : Run) (e : Entry) → AreGivenByRoots es → Leads g es x → AllGo x.got → StandsFor g es r → IsUtf8 r.instance
      → root_moves g x.side r ≡ moved next (Some e) → IsGivenByRoot e
  run_gives_where es x r next e gives leads all stands_for text is = given_by_root e (entry_along es x r next e (along_got es x gives leads all) leads stands_for text is)
