-- The outcome that a root has is that of the call which the statement of its run began.
use Rattle.std.proofs.Common.{◌≡◌, refl, sym, ap, subst, ◌∙◌, ℕ, ◌⊎◌, inl, inr, Bool, true, false, not, ◌==◌, if◌then◌else◌, List, [], ◌∷◌, ◌++◌, Option, None, Some, codes}
use Rattle.std.specs.List.{list_all}
use Rattle.std.specs.Option.{unwrap_or}
use Rattle.std.proofs.lemmas.Bool.{and_parts, true≢false, eq-eqb}
use Rattle.std.proofs.lemmas.List.{append_assoc}
use Rattle.message_model.specs.Messages.{Answer}
use Rattle.uno_model.specs.Values.{Ref, null, own, peer}
use Rattle.plan_model.specs.Calling.{given_values, number_in, object_of}
use Rattle.plan_model.specs.Evaluation.{value_of_word}
use Rattle.plan_model.specs.Roots.{Run, opening_run, asked_name, next_loose}
use Rattle.plan_model.specs.Statements.{Call, Query, Making, RootStatement, ask, ask_instance, root_call, root_query, root_make, root_drop, same, root_dispose}
use Rattle.bridge_laws.specs.OfPlan.{IsRoot}
use Rattle.bridge_laws.proofs.StepLaws.{ended_along}
use Rattle.bridge_model.specs.Entries.{Entry, fed, ended, failed, asked, called, queried, made, dropped, applied, took, reaped, drained, disposed, full, no_memory}
use Rattle.bridge_model.specs.Histories.{Told, told_more, tells_all, Leads}
use Rattle.bridge_model.specs.RootRuns.{Moved, waiting, finished, moved, is_skipped, over_with, takes_at, scene_of, begins, calls_on, queries_on, makes_new, begins_statement, next_statement, statement_at, lets_loose, idle_moves, state_moves, root_moves, is_of_root, StandsFor, begun, another, entered, passed}
use Rattle.bridge_model.specs.Settings.{Setting}
use Rattle.bridge_model.specs.Sides.{Outcome, answer, RootState, idle, waits_call, waits_query, answered, Side, stands_by, stands, state_of}
use Rattle.bridge_model.specs.Sides as side
use Rattle.bridge_model.specs.Steps.{Turn, has_entries, step}
use Rattle.bridge_model.specs.declared.cause.Cause.{Cause}
use Rattle.bridge_model.specs.declared.cause.Cause.TheVariants as cause
use Rattle.bridge_laws.specs.Giving.{MayGive, RootsGive}
use Rattle.bridge_laws.proofs.TypedGiven.{IsGiven}
use Rattle.bridge_laws.proofs.ObjectKeepingLaws.{behind}
use Rattle.bridge_laws.specs.Ending.{EndsWith, HasEnd}
use Rattle.bridge_laws.specs.Givings as givings
use Rattle.bridge_laws.specs.Givings.{leaves_outcome}
use Rattle.bridge_laws.proofs.CauseLaws.{disposed_has_end, memory_has_end}
use Rattle.bridge_laws.proofs.AnswerGivenLaws.{all_push, answer_given}
use Rattle.bridge_laws.proofs.HistoryLaws.{leads_push, along_later}
use Rattle.bridge_laws.specs.RootAnswers.{Asking, asked_by, asked_behind, still_asked}
use Rattle.bridge_laws.specs.RootCalls.{begins_call, IsAtCall, IsOutcomeOf, IsOfItsCall}
use Rattle.bridge_laws.proofs.OwedEntries.{asked_push, all_owed}
use Rattle.bridge_laws.proofs.OwedSides.{StateFits}
use Rattle.bridge_laws.proofs.RunGivingLaws.{IsOfRun, move_run, other_asks}

-- ---- what a move enters

same_moved : (a b : Run) (d e : Option Entry) → moved a d ≡ moved b e → (a ≡ b) × (d ≡ e)
same_moved a b d e is = (cc, cc)

same_entry : (a b : Run) (d e : Entry) → moved a (Some d) ≡ moved b (Some e) → d ≡ e
same_entry a b d e is = cc

no_entry : {X : Type 0} (a b : Run) (e : Entry) → moved a None ≡ moved b (Some e) → X
no_entry a b e is = absurd (cc)

not_over : {X : Type 0} (next : Run) (e : Option Entry) → finished ≡ moved next e → X
not_over next e is = absurd (cc)

not_waiting : {X : Type 0} (next : Run) (e : Option Entry) → waiting ≡ moved next e → X
not_waiting next e is = absurd (cc)

-- the statement began a call, and the run stays; an outcome was taken; or the root is idle, and asks for nothing
data Enters (g : Setting) (z : Side) (r next : Run) (x : Entry) : Type 0 where
  calls_so : (s : RootStatement) → statement_at g r ≡ Some s → begins_statement g z r s ≡ moved r (Some x) → next ≡ r → begins_call r.root x ≡ true → stands z ≡ true → Enters g z r next x
  took_so : x ≡ took r.root → Enters g z r next x
  idle_so : state_of r.root z.tables.roots ≡ idle → ((q : Option Asking) → asked_by r.root q x ≡ q) → Enters g z r next x

module _ (g : Setting) (z : Side) (r next : Run) (x : Entry) where
  abbrev IsIdle : Type 0
  IsIdle = state_of r.root z.tables.roots ≡ idle

  idle_by : (e : Entry) → IsIdle → ((q : Option Asking) → asked_by r.root q e ≡ q) → e ≡ x → Enters g z r next x
  idle_by e free keeps alike = subst (Enters g z r next) alike (idle_so free keeps)

  begins_so : (s : RootStatement) → statement_at g r ≡ Some s → IsIdle → (e : Entry) → begins_call r.root e ≡ true → begins_statement g z r s ≡ begins z r e → (b c : Bool) → stands z ≡ b → has_entries z ≡ c
      → begins z r e ≡ moved next (Some x) → Enters g z r next x
  begins_so s at free e calls starts false c up much is = no_entry (over_with (codes "gone") r) next x (rw up at is)
  begins_so s at free e calls starts true true up much is = idle_by full free (λ q. refl) (same_entry (over_with (codes "full") r) next full x (rw (up, much) at is))
  begins_so s at free e calls starts true false up much is =
      let parts = same_moved r next (Some e) (Some x) (rw (up, much) at is) in
      let entry = same_entry r next e x (rw (up, much) at is) in
      calls_so s at (starts ∙ (is ∙ ap (λ w. moved w (Some x)) (sym parts.0))) (sym parts.0) (subst (λ w. begins_call r.root w ≡ true) entry calls) up

  itself : (r.root == r.root) ≡ true
  itself = eq-eqb r.root r.root refl

  call_so : (c : Call) (o : Ref) → statement_at g r ≡ Some (root_call c) → IsIdle → begins_statement g z r (root_call c) ≡ calls_on g.registry z r c o → calls_on g.registry z r c o ≡ moved next (Some x)
      → Enters g z r next x
  call_so c null at free starts is = no_entry _ next x is
  call_so c (own oid face) at free starts is =
      begins_so (root_call c) at free (called r.root oid face (number_in g.registry face c.callee) (unwrap_or (given_values (scene_of r) c.arguments) [])) itself starts (stands z) (has_entries z) refl refl is
  call_so c (peer oid face) at free starts is =
      begins_so (root_call c) at free (called r.root oid face (number_in g.registry face c.callee) (unwrap_or (given_values (scene_of r) c.arguments) [])) itself starts (stands z) (has_entries z) refl refl is

  query_so : (y : Query) (o : Ref) → statement_at g r ≡ Some (root_query y) → IsIdle → begins_statement g z r (root_query y) ≡ queries_on z r y o → queries_on z r y o ≡ moved next (Some x) → Enters g z r next x
  query_so y null at free starts is = no_entry _ next x is
  query_so y (own oid face) at free starts is = begins_so (root_query y) at free (queried r.root oid face y.wanted) itself starts (stands z) (has_entries z) refl refl is
  query_so y (peer oid face) at free starts is = begins_so (root_query y) at free (queried r.root oid face y.wanted) itself starts (stands z) (has_entries z) refl refl is

  making_so : (m : Making) → IsIdle → (b c : Bool) → stands z ≡ b → has_entries z ≡ c → makes_new g z r m ≡ moved next (Some x) → Enters g z r next x
  making_so m free false c up much is = no_entry (over_with (codes "gone") r) next x (rw up at is)
  making_so m free true true up much is = idle_by full free (λ q. refl) (same_entry (over_with (codes "full") r) next full x (rw (up, much) at is))
  making_so m free true false up much is = idle_by (made r.root m.behaviour m.face) free (λ q. refl) (same_entry _ next (made r.root m.behaviour m.face) x (rw (up, much) at is))

  disposing_so : IsIdle → (over : Run) (b : Bool) → moved over (if b then Some disposed else None) ≡ moved next (Some x) → Enters g z r next x
  disposing_so free over true is = idle_by disposed free (λ q. refl) (same_entry over next disposed x is)
  disposing_so free over false is = no_entry over next x is

  statement_so : (s : RootStatement) → statement_at g r ≡ Some s → IsIdle → begins_statement g z r s ≡ moved next (Some x) → Enters g z r next x
  unfolding begins_statement asked_name
  statement_so (ask to wanted name) at free is = begins_so (ask to wanted name) at free (asked r.root name wanted) itself refl (stands z) (has_entries z) refl refl is
  statement_so (ask_instance to wanted) at free is = begins_so (ask_instance to wanted) at free (asked r.root r.instance wanted) itself refl (stands z) (has_entries z) refl refl is
  statement_so (root_call c) at free is = call_so c (object_of (value_of_word (scene_of r) c.target)) at free refl is
  statement_so (root_query y) at free is = query_so y (object_of (value_of_word (scene_of r) y.target)) at free refl is
  statement_so (root_make m) at free is = making_so m free (stands z) (has_entries z) refl refl is
  statement_so (root_drop name) at free is = no_entry _ next x is
  statement_so (same a b) at free is = no_entry _ next x is
  statement_so root_dispose at free is = disposing_so free _ (stands z) is

  unskipped_so : (s : RootStatement) → statement_at g r ≡ Some s → IsIdle → (b : Bool) → (if b then moved (over_with (codes "skipped") r) None else begins_statement g z r s) ≡ moved next (Some x)
      → Enters g z r next x
  unskipped_so s at free true is = no_entry _ next x is
  unskipped_so s at free false is = statement_so s at free is

  next_so : (o : Option RootStatement) → statement_at g r ≡ o → IsIdle → next_statement g z r o ≡ moved next (Some x) → Enters g z r next x
  next_so None at free is = not_over next (Some x) is
  next_so (Some s) at free is = unskipped_so s at free (is_skipped r.variables s) is

  loose_so : (y : Ref) → IsIdle → lets_loose r y ≡ moved next (Some x) → Enters g z r next x
  loose_so null free is = no_entry _ next x is
  loose_so (own oid face) free is = idle_by (dropped r.root oid face) free (λ q. refl) (same_entry _ next (dropped r.root oid face) x is)
  loose_so (peer oid face) free is = idle_by (dropped r.root oid face) free (λ q. refl) (same_entry _ next (dropped r.root oid face) x is)

  free_so : (o : Option Ref) → IsIdle → idle_moves g z r o ≡ moved next (Some x) → Enters g z r next x
  free_so (Some y) free is = loose_so y free is
  free_so None free is = next_so (statement_at g r) refl free is

  taken_so : (o : Outcome) (s : Option RootStatement) → takes_at g r o s ≡ moved next (Some x) → Enters g z r next x
  taken_so o None is = not_over next (Some x) is
  taken_so o (Some s) is = took_so (sym (same_entry _ next (took r.root) x is))

  state_so : (s : RootState) → state_of r.root z.tables.roots ≡ s → state_moves g z r s ≡ moved next (Some x) → Enters g z r next x
  state_so idle at is = free_so (next_loose r.loose) at is
  state_so waits_call at is = not_waiting next (Some x) is
  state_so (waits_query wanted) at is = not_waiting next (Some x) is
  state_so (answered o) at is = taken_so o (statement_at g r) is

  entry_so : root_moves g z r ≡ moved next (Some x) → Enters g z r next x
  unfolding root_moves
  entry_so is = state_so (state_of r.root z.tables.roots) refl is

-- a root that moves without an entry is idle
taken_enters : {X : Type 0} (g : Setting) (r next : Run) (o : Outcome) (s : Option RootStatement) → takes_at g r o s ≡ moved next None → X
taken_enters g r next o None is = not_over next None is
taken_enters g r next o (Some s) is = absurd (cc)

quiet_state : (g : Setting) (z : Side) (r next : Run) (s : RootState) → state_moves g z r s ≡ moved next None → s ≡ idle
quiet_state g z r next idle is = refl
quiet_state g z r next waits_call is = not_waiting next None is
quiet_state g z r next (waits_query wanted) is = not_waiting next None is
quiet_state g z r next (answered o) is = taken_enters g r next o (statement_at g r) is

quiet_so : (g : Setting) (z : Side) (r next : Run) → root_moves g z r ≡ moved next None → state_of r.root z.tables.roots ≡ idle
unfolding root_moves
quiet_so g z r next is = quiet_state g z r next (state_of r.root z.tables.roots) is

-- ---- two places in a journal

same_place : {A : Type 0} (a b : A) (k l : List A) → a ∷ k ≡ b ∷ l → (a ≡ b) × (k ≡ l)
same_place a b k l is = (cc, cc)

longer : {A : Type 0} (a b : A) → a ≡ b → {k l : List A} → k ≡ l → a ∷ k ≡ b ∷ l
longer a b p q = cc

-- the second place is the first or behind it, or before it
two_places : {A : Type 0} (b l c m : List A) (e f : A) → b ++ e ∷ l ≡ c ++ f ∷ m → ((v : List A) × (c ≡ b ++ v)) ⊎ ((v : List A) × ((b ≡ c ++ f ∷ v) × (m ≡ v ++ e ∷ l)))
two_places [] l c m e f is = inl (c, refl)
two_places (a ∷ b) l [] m e f is = let parts = same_place a f (b ++ e ∷ l) m is in inr (b, (longer a f parts.0 refl, sym parts.1))
two_places {A = A} (a ∷ b) l (d ∷ c) m e f is = let parts = same_place a d (b ++ e ∷ l) (c ++ f ∷ m) is in on parts.0 (two_places b l c m e f parts.1)
  where
    on : a ≡ d → ((v : List A) × (c ≡ b ++ v)) ⊎ ((v : List A) × ((b ≡ c ++ f ∷ v) × (m ≡ v ++ e ∷ l))) → ((v : List A) × (d ∷ c ≡ (a ∷ b) ++ v)) ⊎ ((v : List A) × ((a ∷ b ≡ (d ∷ c) ++ f ∷ v) × (m ≡ v ++ e ∷ l)))
    on alike (inl (v, is)) = inl (v, longer d a (sym alike) is)
    on alike (inr (v, (is, rest))) = inr (v, (longer a d alike is, rest))

-- it is the first, or behind it
behind_place : {A : Type 0} (b l v m : List A) (e f : A) → b ++ e ∷ l ≡ (b ++ v) ++ f ∷ m → (f ≡ e) ⊎ ((w : List A) × (v ≡ e ∷ w))
behind_place [] l [] m e f is = inl (sym (same_place e f l m is).0)
behind_place [] l (u ∷ v) m e f is = inr (v, longer u e (sym (same_place e u l (v ++ f ∷ m) is).0) refl)
behind_place (a ∷ b) l v m e f is = behind_place b l v m e f (same_place a a (b ++ e ∷ l) ((b ++ v) ++ f ∷ m) is).1

all_at : {A : Type 0} (p : A → Bool) (v l : List A) (e : A) → list_all p (v ++ e ∷ l) ≡ true → p e ≡ true
all_at p [] l e all = (and_parts (p e) (list_all p l) all).0
all_at p (a ∷ v) l e all = all_at p v l e (and_parts (p a) (list_all p (v ++ e ∷ l)) all).1

-- ---- what a beginning is not

clash : {X : Type 0} (b : Bool) → b ≡ true → not b ≡ true → X
clash true is other = absurd (true≢false (sym other))
clash false is other = absurd (true≢false (sym is))

leaves_none : {X : Type 0} (n : ℕ) (e : Entry) → begins_call n e ≡ true → leaves_outcome n e ≡ true → X
leaves_none n (asked root name wanted) is kept = clash (root == n) is kept
leaves_none n (called root oid face function args) is kept = clash (root == n) is kept
leaves_none n (queried root oid face wanted) is kept = clash (root == n) is kept
leaves_none n _ is kept = absurd (true≢false (sym is))

ends_none : {X : Type 0} (g : Setting) (s : Side) (n : ℕ) (e : Entry) (why : Cause) → begins_call n e ≡ true → EndsWith g s e why → X
ends_none g s n (asked root name wanted) why is ends = absurd ends
ends_none g s n (called root oid face function args) why is ends = absurd ends
ends_none g s n (queried root oid face wanted) why is ends = absurd ends
ends_none g s n _ why is ends = absurd (true≢false (sym is))

-- ---- a bridge that has ended

pub ended_later : (g : Setting) (es later : List Entry) (x y : Told) → Leads g es x → stands x.side ≡ false → tells_all g (Some x) later ≡ Some y → stands y.side ≡ false
ended_later g es later x y leads down to = along_later g (λ zs z. stands z.side ≡ false) (λ zs z e u at is does. (ended_along g zs z e u at is does).ended) later es x y leads down to

end_stays : (g : Setting) (es : List Entry) (why : Cause) (end : HasEnd g es why) (v : List Entry) (y : Told) → Leads g (end.before ++ end.entry ∷ v) y → stands y.side ≡ false
end_stays g es why end v y to =
    let first = leads_push g end.before end.entry end.stood end.turn end.leads end.does in
    let all : Leads g ((end.before ++ end.entry ∷ []) ++ v) y = subst (λ zs. Leads g zs y) (sym (append_assoc end.before (end.entry ∷ []) v)) to in
    ended_later g (end.before ++ end.entry ∷ []) v (told_more end.stood end.entry end.turn) y first (ap stands_by end.cause)
    (behind g (end.before ++ end.entry ∷ []) v (told_more end.stood end.entry end.turn) y first all)

-- ---- runs

pub gives_front : (g : Setting) (es later : List Entry) → RootsGive g (es ++ later) → RootsGive g es
gives_front g [] later all = tt
gives_front g (e ∷ es) later all = (all.0, gives_front g es later all.1)

-- a run is at a statement that began a call, or it asks for nothing
abbrev Calls : Setting → List Entry → Run → Type 0
Calls g es r = (still_asked r.root es ≡ None) ⊎ ((s : RootStatement) × IsAtCall g es r s)

first_calls : (g : Setting) (root : ℕ) (instance : List ℕ) → Calls g [] (opening_run root instance)
unfolding opening_run asked_behind
first_calls g root instance = inl refl

later_call : (g : Setting) (es : List Entry) (r : Run) (s : RootStatement) (e : Entry) → is_of_root r.root e ≡ false → IsAtCall g es r s → IsAtCall g (es ++ e ∷ []) r s
later_call g es r s e other k =
    record {
      at = k.at;
      before = k.before;
      entry = k.entry;
      later = k.later ++ e ∷ [];
      journal = ap (λ zs. zs ++ e ∷ []) k.journal ∙ append_assoc k.before (k.entry ∷ k.later) (e ∷ []);
      told = k.told;
      leads = k.leads;
      up = k.up;
      begun = k.begun;
      calls = k.calls;
      last = all_push (λ z. not (is_of_root r.root z)) k.later e k.last (ap not other);
    }

another_calls : (g : Setting) (es : List Entry) (r : Run) (e : Entry) → is_of_root r.root e ≡ false → Calls g es r → Calls g (es ++ e ∷ []) r
another_calls g es r e other (inl none) = inl (asked_push r.root None es e ∙ (other_asks r.root (still_asked r.root es) e other ∙ none))
another_calls g es r e other (inr (s, k)) = inr (s, later_call g es r s e other k)

took_nothing : (n : ℕ) (q : Option Asking) → asked_by n q (took n) ≡ None
took_nothing n q = rw (eq-eqb n n refl) refl

module _ (g : Setting) (given : IsGiven g) where
  owes_none : (q : Option Asking) → StateFits g.registry q idle → q ≡ None
  owes_none None fits = refl
  owes_none (Some asking) fits = absurd fits

  idle_asks : (es : List Entry) (x : Told) (n : ℕ) → RootsGive g es → Leads g es x → IsRoot g n → state_of n x.side.tables.roots ≡ idle → still_asked n es ≡ None
  idle_asks es x n gives leads is free = owes_none (still_asked n es) (subst (StateFits g.registry (still_asked n es)) free (all_owed g given given.roots n is.0 is.1 es x leads gives).state)

  entered_calls : (es : List Entry) (x : Told) (r next : Run) (e : Entry) → RootsGive g es → Leads g es x → IsRoot g r.root → next.root ≡ r.root → Enters g x.side r next e → Calls g (es ++ e ∷ []) next
  entered_calls es x r next e gives leads is root (calls_so s at starts stays calls up) =
      inr (
        s,
        subst (λ w. IsAtCall g (es ++ e ∷ []) w s) (sym stays)
            (record { at = at; before = es; entry = e; later = []; journal = refl; told = x; leads = leads; up = up; begun = starts; calls = calls; last = refl }),
      )
  entered_calls es x r next e gives leads is root (took_so alike) =
      inl (ap (λ n. still_asked n (es ++ e ∷ [])) root ∙ (asked_push r.root None es e ∙ (ap (asked_by r.root (still_asked r.root es)) alike ∙ took_nothing r.root (still_asked r.root es))))
  entered_calls es x r next e gives leads is root (idle_so free keeps) =
      inl (ap (λ n. still_asked n (es ++ e ∷ [])) root ∙ (asked_push r.root None es e ∙ (keeps (still_asked r.root es) ∙ idle_asks es x r.root gives leads is free)))

  run_calls : (es : List Entry) (r : Run) → StandsFor g es r → RootsGive g es → IsRoot g r.root → Calls g es r
  run_calls es r (begun root instance) gives is = first_calls g root instance
  run_calls es r (another {es = before} x other stand) gives is = another_calls g before r x other (run_calls before r stand (gives_front g before (x ∷ []) gives) is)
  run_calls es next (entered {es = before} {r = r} {told = told} x leads moves stand) gives is =
      let root = (subst (IsOfRun r) moves (move_run g told.side r given)).0 in
      entered_calls before told r next x (gives_front g before (x ∷ []) gives) leads (subst (IsRoot g) root is) root (entry_so g told.side r next x moves)
  run_calls es next (passed {r = r} {told = told} leads moves stand) gives is =
      let root = (subst (IsOfRun r) moves (move_run g told.side r given)).0 in
      inl (ap (λ n. still_asked n es) root ∙ idle_asks es told r.root gives leads (subst (IsRoot g) root is) (quiet_so g told.side r next moves))

  -- ---- outcomes

  asks_some : {X : Type 0} (q : Option Asking) (o : Outcome) → StateFits g.registry q (answered o) → q ≡ None → X
  asks_some None (answer a) fits none = absurd fits
  asks_some None (side.disposed why) fits none = absurd fits
  asks_some None side.no_memory fits none = absurd fits
  asks_some (Some asking) o fits none = absurd (cc)

  call_there : (es : List Entry) (x : Told) (r : Run) (o : Outcome) → RootsGive g es → Leads g es x → IsRoot g r.root → state_of r.root x.side.tables.roots ≡ answered o → Calls g es r
      → (s : RootStatement) × IsAtCall g es r s
  call_there es x r o gives leads is at (inl none) =
      asks_some (still_asked r.root es) o (subst (StateFits g.registry (still_asked r.root es)) at (all_owed g given given.roots r.root is.0 is.1 es x leads gives).state) none
  call_there es x r o gives leads is at (inr k) = k

  module _ (es : List Entry) (r : Run) (s : RootStatement) (k : IsAtCall g es r s) where
    given_behind : (a : Answer) (it : givings.IsGiven g es r.root a) → IsOutcomeOf g es r.root k.before k.entry (answer a)
    given_behind a it = by_place (two_places k.before k.later it.before it.later k.entry it.entry (sym k.journal ∙ it.journal))
      where
        by_place : ((v : List Entry) × (it.before ≡ k.before ++ v)) ⊎ ((v : List Entry) × ((k.before ≡ it.before ++ it.entry ∷ v) × (it.later ≡ v ++ k.entry ∷ k.later)))
            → IsOutcomeOf g es r.root k.before k.entry (answer a)
        by_place (inl (v, is)) = (it, v, is)
        by_place (inr (v, (is, rest))) = leaves_none r.root k.entry k.calls (all_at (leaves_outcome r.root) v k.later k.entry (subst (λ zs. list_all (leaves_outcome r.root) zs ≡ true) rest it.kept))

    abbrev IsBehind : (why : Cause) → HasEnd g es why → Type 0
    IsBehind why it = (v : List Entry) × (it.before ≡ k.before ++ k.entry ∷ v)

    end_behind : (why : Cause) (it : HasEnd g es why) → IsBehind why it
    end_behind why it = by_place (two_places k.before k.later it.before it.later k.entry it.entry (sym k.journal ∙ it.journal))
      where
        strictly : (v : List Entry) → it.before ≡ k.before ++ v → (it.entry ≡ k.entry) ⊎ ((w : List Entry) × (v ≡ k.entry ∷ w)) → IsBehind why it
        strictly v is (inl one) = ends_none g it.stood.side r.root it.entry why (subst (λ e. begins_call r.root e ≡ true) (sym one) k.calls) it.ends
        strictly v is (inr (w, more)) = (w, is ∙ ap (λ zs. k.before ++ zs) more)

        by_place : ((v : List Entry) × (it.before ≡ k.before ++ v)) ⊎ ((v : List Entry) × ((k.before ≡ it.before ++ it.entry ∷ v) × (it.later ≡ v ++ k.entry ∷ k.later))) → IsBehind why it
        by_place (inl (v, is)) =
            strictly v is (behind_place k.before k.later v it.later k.entry it.entry (sym k.journal ∙ (it.journal ∙ ap (λ zs. zs ++ it.entry ∷ it.later) is)))
        by_place (inr (v, (is, rest))) =
            let down = end_stays g es why it v k.told (subst (λ zs. Leads g zs k.told) is k.leads) in absurd (true≢false (sym k.up ∙ down))

    outcome_of : (x : Told) (o : Outcome) → Leads g es x → state_of r.root x.side.tables.roots ≡ answered o → IsOutcomeOf g es r.root k.before k.entry o
    outcome_of x (answer a) leads at = given_behind a (answer_given g es x r.root a leads at)
    outcome_of x (side.disposed why) leads at = let it = (disposed_has_end g es x r.root why leads at).0 in let it_behind = end_behind why it in (it, it_behind.0, it_behind.1)
    outcome_of x side.no_memory leads at = let it = memory_has_end g es x r.root leads at in let it_behind = end_behind cause.NoMemory it in (it, it_behind.0, it_behind.1)

  pub outcome_is : (es : List Entry) (x : Told) (r : Run) (o : Outcome) → RootsGive g es → Leads g es x → StandsFor g es r → IsRoot g r.root → state_of r.root x.side.tables.roots ≡ answered o → IsOfItsCall g es r o
  outcome_is es x r o gives leads stand is at =
      let there = call_there es x r o gives leads is at (run_calls es r stand gives is) in
      record { statement = there.0; call = there.1; outcome = outcome_of es r there.0 there.1 x o leads at }
