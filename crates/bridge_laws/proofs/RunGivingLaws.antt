-- What the root of a run gives may be given: of runs that stand for a history whose roots give what they may.
use Rattle.std.proofs.Common.{◌≡◌, refl, sym, subst, ◌∙◌, ℕ, zero, suc, ◌<◌, ◌≤◌, ◌^◌, Bool, true, false, not, nat_lt, if◌then◌else◌, List, [], ◌∷◌, ◌++◌, length, Option, None, Some, slice_get, arith}
use Rattle.std.proofs.lemmas.Bool.{ltb-true}
use Rattle.uno_model.specs.BuiltIn.{HasBuiltIn}
use Rattle.uno_model.specs.Sound.{IsSound}
use Rattle.uno_model.specs.Values.{Ref, null, own, peer}
use Rattle.plan_model.specs.Calling.{object_of}
use Rattle.plan_model.specs.Evaluation.{value_of_word}
use Rattle.plan_model.specs.Forms.{is_export_name}
use Rattle.plan_model.specs.Keeps.{KeepsTheRules}
use Rattle.plan_model.specs.Roots.{Run, opening_run, statements_in, statements_of, asked_name, next_loose}
use Rattle.plan_model.specs.Statements.{Call, Query, Making, RootStatement, ask, ask_instance, root_call, root_query, root_make, root_drop, same, root_dispose}
use Rattle.plan_typing.specs.Effects.{NamesDiffer}
use Rattle.plan_typing.specs.Scenes.{VariablesFit}
use Rattle.plan_typing.proofs.EffectPlaces.{all_at_place}
use Rattle.bridge_laws.specs.OfPlan.{IsRoot}
use Rattle.bridge_model.specs.Entries.{Entry, fed, ended, failed, asked, called, queried, made, dropped, applied, took, reaped, drained, disposed, full, no_memory}
use Rattle.bridge_model.specs.Histories.{Told, Leads}
use Rattle.bridge_model.specs.RootRuns.{Moved, waiting, finished, moved, takes_at, scene_of, begins, calls_on, queries_on, asks_for, makes_new, begins_statement, next_statement, statement_at, lets_loose, idle_moves, state_moves, root_moves, is_skipped, is_of_root, StandsFor, begun, another, entered, passed}
use Rattle.bridge_model.specs.Settings.{Setting}
use Rattle.bridge_model.specs.Sides.{Outcome, RootState, idle, waits_call, waits_query, answered, Side, stands, state_of}
use Rattle.bridge_model.specs.Steps.{has_entries, most_entries}
use Rattle.bridge_laws.specs.Giving.{MayGive, RootsGive}
use Rattle.bridge_laws.proofs.TypedGiven.{IsGiven}
use Rattle.bridge_laws.proofs.TypedGivenLaws.{is_given}
use Rattle.bridge_laws.proofs.StepFits.{all_stays}
use Rattle.bridge_laws.specs.RootAnswers.{Asking, asked_by, still_asked, asked_behind}
use Rattle.bridge_laws.specs.RootStatements.{AreTypedRoots, first_root_types, AreTypedThreads}
use Rattle.bridge_laws.proofs.OwedEntries.{asked_push, all_owed}
use Rattle.bridge_laws.proofs.OwedSides.{StateFits}
use Rattle.bridge_laws.proofs.RootLines.{threads_typed}
use Rattle.bridge_laws.proofs.RunTypes.{IsOpen, At, MoveFits, takes_as, state_fits}

-- ---- moves keep the root and the name of its instance

abbrev pub IsOfRun : Run → Moved → Type 0
IsOfRun r waiting = Unit
IsOfRun r finished = Unit
IsOfRun r (moved next e) = (next.root ≡ r.root) × (next.instance ≡ r.instance)

run_if : (r : Run) (b : Bool) (m n : Moved) → IsOfRun r m → IsOfRun r n → IsOfRun r (if b then m else n)
run_if r true m n p q = p
run_if r false m n p q = q

begins_run : (s : Side) (r : Run) (e : Entry) → IsOfRun r (begins s r e)
begins_run s r e = run_if r (not (stands s)) _ _ (refl, refl) (run_if r (has_entries s) _ (moved r (Some e)) (refl, refl) (refl, refl))

module _ (g : Setting) (s : Side) (r : Run) where
  call_run : (c : Call) (x : Ref) → IsOfRun r (calls_on g.registry s r c x)
  call_run c null = (refl, refl)
  call_run c (own oid face) = begins_run s r _
  call_run c (peer oid face) = begins_run s r _

  query_run : (q : Query) (x : Ref) → IsOfRun r (queries_on s r q x)
  query_run q null = (refl, refl)
  query_run q (own oid face) = begins_run s r _
  query_run q (peer oid face) = begins_run s r _

  ask_run : (wanted : List ℕ) (name : Option (List ℕ)) → IsOfRun r (asks_for s r wanted name)
  ask_run wanted None = tt
  ask_run wanted (Some name) = begins_run s r _

  make_run : (m : Making) (standing filled : Bool) → stands s ≡ standing → has_entries s ≡ filled → IsOfRun r (makes_new g s r m)
  make_run m false filled is has = rw is (refl, refl)
  make_run m true true is has = rw (is, has) (refl, refl)
  make_run m true false is has = rw (is, has) (refl, refl)

  statement_run : (x : RootStatement) → IsOfRun r (begins_statement g s r x)
  unfolding begins_statement asked_name
  statement_run (ask to wanted name) = ask_run wanted (Some name)
  statement_run (ask_instance to wanted) = ask_run wanted (Some r.instance)
  statement_run (root_call c) = call_run c (object_of (value_of_word (scene_of r) c.target))
  statement_run (root_query q) = query_run q (object_of (value_of_word (scene_of r) q.target))
  statement_run (root_make m) = make_run m (stands s) (has_entries s) refl refl
  statement_run (root_drop name) = (refl, refl)
  statement_run (same a b) = (refl, refl)
  statement_run root_dispose = (refl, refl)

  next_run : (x : Option RootStatement) → IsOfRun r (next_statement g s r x)
  next_run None = tt
  next_run (Some x) = run_if r (is_skipped r.variables x) _ (begins_statement g s r x) (refl, refl) (statement_run x)

  loose_run : (x : Ref) → IsOfRun r (lets_loose r x)
  loose_run null = (refl, refl)
  loose_run (own oid face) = (refl, refl)
  loose_run (peer oid face) = (refl, refl)

  idle_run : (x : Option Ref) → IsOfRun r (idle_moves g s r x)
  idle_run None = next_run (statement_at g r)
  idle_run (Some x) = loose_run x

  takes_run : (given : IsGiven g) (o : Outcome) (x : Option RootStatement) → IsOfRun r (takes_at g r o x)
  takes_run given o None = tt
  takes_run given o (Some x) = let kept = takes_as g given x o r in (kept.root, kept.instance)

  state_run : (given : IsGiven g) (state : RootState) → IsOfRun r (state_moves g s r state)
  state_run given idle = idle_run (next_loose r.loose)
  state_run given waits_call = tt
  state_run given (waits_query wanted) = tt
  state_run given (answered o) = takes_run given o (statement_at g r)

  pub move_run : (given : IsGiven g) → IsOfRun r (root_moves g s r)
  unfolding root_moves
  move_run given = state_run given (state_of r.root s.tables.roots)

-- ---- an entry that is not a root's changes nothing of what it asks for

pub other_asks : (n : ℕ) (q : Option Asking) (e : Entry) → is_of_root n e ≡ false → asked_by n q e ≡ q
other_asks n q (asked root name wanted) is = rw is refl
other_asks n q (called root oid face function args) is = rw is refl
other_asks n q (queried root oid face wanted) is = rw is refl
other_asks n q (took root) is = rw is refl
other_asks n q (fed b) is = refl
other_asks n q ended is = refl
other_asks n q failed is = refl
other_asks n q (made root behaviour wanted) is = refl
other_asks n q (dropped root oid face) is = refl
other_asks n q (applied tid) is = refl
other_asks n q (reaped object) is = refl
other_asks n q (drained b) is = refl
other_asks n q disposed is = refl
other_asks n q full is = refl
other_asks n q no_memory is = refl

module _ (g : Setting) (given : IsGiven g) (typed : AreTypedThreads g.registry g.plan) where
  -- ---- the beginning

  thread_typed : (n : ℕ) (o : Option (List RootStatement)) → slice_get g.plan.threads n ≡ o → AreTypedRoots g.registry g.plan first_root_types (statements_in o)
  unfolding AreTypedRoots
  thread_typed n None is = tt
  thread_typed n (Some ss) is = all_at_place (AreTypedRoots g.registry g.plan first_root_types) g.plan.threads n ss typed is

  statements_typed : (root : ℕ) → AreTypedRoots g.registry g.plan first_root_types (statements_of g.plan root)
  unfolding statements_of AreTypedRoots
  statements_typed zero = tt
  statements_typed (suc n) = thread_typed n (slice_get g.plan.threads n) refl

  first_at : (root : ℕ) (instance : List ℕ) → At g given (opening_run root instance)
  unfolding opening_run VariablesFit
  first_at root instance = record { variables = []; are = record { present = []; fit = tt; are = λ name k is. is }; types = refl; rest = statements_typed root }

  -- ---- a run

  abbrev RunFits : List Entry → Run → Type 0
  RunFits es r = (at : At g given r) × IsOpen g.registry at.variables (still_asked r.root es) (statement_at g r)

  abbrev IsRunOf : Run → Type 0
  IsRunOf r = IsRoot g r.root × (is_export_name r.instance ≡ true)

  few_objects : (es : List Entry) (x : Told) → RootsGive g es → Leads g es x → has_entries x.side ≡ false → suc x.side.tables.objects_made < 2 ^ 64
  unfolding most_entries
  few_objects es x gives leads room =
      let stays = all_stays g given es x gives leads in
      let few = ltb-true x.side.entries 1000000 (not_not (nat_lt x.side.entries 1000000) room) in
      let counted = stays.fit.tables.counted in let most = stays.fit.counted in let first = given.objects in omega arith
    where
      not_not : (b : Bool) → not b ≡ false → b ≡ true
      not_not true is = refl
      not_not false is = absurd (cc)

  moves_fit : (es : List Entry) (x : Told) (r : Run) → RootsGive g es → Leads g es x → IsRunOf r → RunFits es r → MoveFits g given r (still_asked r.root es) (root_moves g x.side r)
  unfolding root_moves
  moves_fit es x r gives leads is fits =
      state_fits g given x.side r fits.0 is.0 is.1 (few_objects es x gives leads) (still_asked r.root es) (state_of r.root x.side.tables.roots) fits.1
      (all_owed g given given.roots r.root is.0.0 is.0.1 es x leads gives).state

  front_gives : (es : List Entry) (e : Entry) → RootsGive g (es ++ e ∷ []) → RootsGive g es
  front_gives [] e all = tt
  front_gives (f ∷ es) e all = (all.0, front_gives es e all.1)

  of_run : (x : Told) (r next : Run) (e : Option Entry) → root_moves g x.side r ≡ moved next e → IsRunOf next → IsRunOf r
  of_run x r next e moves is =
      let kept = subst (IsOfRun r) moves (move_run g x.side r given) in
      (subst (IsRoot g) kept.0 is.0, subst (λ name. is_export_name name ≡ true) kept.1 is.1)

  first_fits : (root : ℕ) (instance : List ℕ) → RunFits [] (opening_run root instance)
  unfolding asked_behind
  first_fits root instance = (first_at root instance, tt)

  run_fits : (es : List Entry) (r : Run) → StandsFor g es r → RootsGive g es → IsRunOf r → RunFits es r
  run_fits es r (begun root instance) gives is = first_fits root instance
  run_fits es r (another {es = before} x other stand) gives is =
      let front = front_gives before x gives in
      let fits = run_fits before r stand front is in
      (fits.0, subst (λ q. IsOpen g.registry fits.0.variables q (statement_at g r)) (sym (asked_push r.root None before x ∙ other_asks r.root (still_asked r.root before) x other)) fits.1)
  run_fits es next (entered {es = before} {r = r} {told = told} x leads moves stand) gives is =
      let front = front_gives before x gives in
      let of_it = of_run told r next (Some x) moves is in
      let fits = subst (MoveFits g given r (still_asked r.root before)) moves (moves_fit before told r front leads of_it (run_fits before r stand front of_it)) in (
        fits.0.at,
        subst (λ n. IsOpen g.registry fits.0.at.variables (still_asked n (before ++ x ∷ [])) (statement_at g next)) (sym fits.0.root)
            (subst (λ q. IsOpen g.registry fits.0.at.variables q (statement_at g next)) (sym (asked_push r.root None before x)) fits.2),
      )
  run_fits es next (passed {r = r} {told = told} leads moves stand) gives is =
      let of_it = of_run told r next None moves is in
      let fits = subst (MoveFits g given r (still_asked r.root es)) moves (moves_fit es told r gives leads of_it (run_fits es r stand gives of_it)) in
      (fits.0.at, subst (λ n. IsOpen g.registry fits.0.at.variables (still_asked n es) (statement_at g next)) (sym fits.0.root) fits.1)

  pub run_gives : (es : List Entry) (x : Told) (r next : Run) (e : Entry) → RootsGive g es → Leads g es x → StandsFor g es r → IsRoot g r.root → is_export_name r.instance ≡ true
      → root_moves g x.side r ≡ moved next (Some e) → MayGive g e
  run_gives es x r next e gives leads stand root export moves =
      let fits = subst (MoveFits g given r (still_asked r.root es)) moves (moves_fit es x r gives leads (root, export) (run_fits es r stand gives (root, export))) in fits.1

  -- so may what the root of a run begins that is idle, whatever the side is like at which it begins it
  pub run_begins : (es : List Entry) (x : Told) (r next : Run) (e : Entry) (s : Side) → RootsGive g es → Leads g es x → StandsFor g es r → IsRoot g r.root → is_export_name r.instance ≡ true
      → state_of r.root x.side.tables.roots ≡ idle → (has_entries s ≡ false → suc s.tables.objects_made < 2 ^ 64) → idle_moves g s r (next_loose r.loose) ≡ moved next (Some e) → MayGive g e
  run_begins es x r next e s gives leads stand root export free few moves =
      let fits = run_fits es r stand gives (root, export) in
      let owed = subst (StateFits g.registry (still_asked r.root es)) free (all_owed g given given.roots r.root root.0 root.1 es x leads gives).state in
      let move = subst (MoveFits g given r (still_asked r.root es)) moves (state_fits g given s r fits.0 root export few (still_asked r.root es) idle fits.1 owed) in
      move.1

pub given_by_run : (g : Setting) → IsSound g.registry → HasBuiltIn g.registry → NamesDiffer g.registry → KeepsTheRules g.registry g.plan → length g.tag ≤ 32
    → (es : List Entry) (x : Told) (r next : Run) (e : Entry) → RootsGive g es → Leads g es x → StandsFor g es r → IsRoot g r.root → is_export_name r.instance ≡ true
    → root_moves g x.side r ≡ moved next (Some e) → MayGive g e
given_by_run g sound built differ keeps short = run_gives g (is_given g sound built differ keeps short) (threads_typed g.registry sound g.plan keeps)

pub begun_by_run : (g : Setting) → IsSound g.registry → HasBuiltIn g.registry → NamesDiffer g.registry → KeepsTheRules g.registry g.plan → length g.tag ≤ 32
    → (es : List Entry) (x : Told) (r next : Run) (e : Entry) (s : Side) → RootsGive g es → Leads g es x → StandsFor g es r → IsRoot g r.root → is_export_name r.instance ≡ true
    → state_of r.root x.side.tables.roots ≡ idle → (has_entries s ≡ false → suc s.tables.objects_made < 2 ^ 64) → idle_moves g s r (next_loose r.loose) ≡ moved next (Some e) → MayGive g e
begun_by_run g sound built differ keeps short = run_begins g (is_given g sound built differ keeps short) (threads_typed g.registry sound g.plan keeps)
