-- Roots that move: the lowest that does is found behind those that do not, and the entry of a move is a root's.
use Rattle.std.proofs.Common.{◌≡◌, refl, sym, ap, ◌∙◌, ℕ, ◌+◌, Bool, true, false, not, List, [], ◌∷◌, ◌++◌, Option, None, Some, if◌then◌else◌}
use Rattle.std.proofs.lemmas.Bool.{not-true, true≢false}
use Rattle.uno_model.specs.Values.{Ref, null, own, peer}
use Rattle.plan_model.specs.Calling.{object_of}
use Rattle.plan_model.specs.Evaluation.{value_of_word}
use Rattle.plan_model.specs.Roots.{Run, asked_name, next_loose}
use Rattle.plan_model.specs.Statements.{Making, RootStatement, ask, ask_instance, root_call, root_query, root_make, root_drop, same, root_dispose}
use Rattle.bridge_model.specs.Entries.{Entry, fed, ended, failed, asked, called, queried, made, dropped, applied, took, reaped, drained, disposed, full, no_memory}
use Rattle.bridge_model.specs.Histories.{bytes_drained}
use Rattle.bridge_model.specs.Orders.{RootMove, root_move, in_front, first_or_later}
use Rattle.bridge_model.specs.RootRuns.{Moved, waiting, finished, moved, root_moves, state_moves, idle_moves, next_statement, begins_statement, is_skipped, statement_at, takes_at, begins, asks_for, calls_on, queries_on, makes_new, scene_of}
use Rattle.bridge_model.specs.Settings.{Setting}
use Rattle.bridge_model.specs.Sides.{Outcome, RootState, idle, waits_call, waits_query, answered, Side, stands, state_of}
use Rattle.bridge_model.specs.Steps.{has_entries}
use Rattle.answering.proofs.ClosingLaws.{is_lack}

-- ---- a move

-- want of memory, and bytes that go out, are no root's
abbrev pub is_other : Entry → Bool
is_other no_memory = true
is_other (drained b) = true
is_other e = false

-- an entry, where there is one, is a root's
abbrev pub is_plain : Option Entry → Bool
is_plain None = true
is_plain (Some e) = not (is_other e)

-- with an entry of a root's
abbrev Stays : Moved → Type 0
Stays (moved next x) = is_plain x ≡ true
Stays m = Unit

stays_if : (b : Bool) (m n : Moved) → Stays m → Stays n → Stays (if b then m else n)
stays_if true m n p q = p
stays_if false m n p q = q

begins_stay : (s : Side) (r : Run) (e : Entry) → is_other e ≡ false → Stays (begins s r e)
begins_stay s r e plain = stays_if (not (stands s)) _ _ refl (stays_if (has_entries s) _ _ refl (ap not plain))

new_stays : (g : Setting) (s : Side) (r : Run) (m : Making) → Stays (makes_new g s r m)
new_stays g s r m = by_standing (not (stands s)) refl (has_entries s) refl
  where
    by_standing : (a : Bool) → not (stands s) ≡ a → (b : Bool) → has_entries s ≡ b → Stays (makes_new g s r m)
    by_standing true gone b many = rw gone refl
    by_standing false up true many = rw (up, many) refl
    by_standing false up false few = rw (up, few) refl

asks_stay : (s : Side) (r : Run) (wanted : List ℕ) (name : Option (List ℕ)) → Stays (asks_for s r wanted name)
asks_stay s r wanted None = tt
asks_stay s r wanted (Some name) = begins_stay s r (asked r.root name wanted) refl

statement_stays : (g : Setting) (s : Side) (r : Run) (x : RootStatement) → Stays (begins_statement g s r x)
unfolding begins_statement
statement_stays g s r (ask to wanted name) = asks_stay s r wanted (asked_name r.instance (ask to wanted name))
statement_stays g s r (ask_instance to wanted) = asks_stay s r wanted (asked_name r.instance (ask_instance to wanted))
statement_stays g s r (root_call c) = of_target (object_of (value_of_word (scene_of r) c.target))
  where
    of_target : (x : Ref) → Stays (calls_on g.registry s r c x)
    of_target null = refl
    of_target (own oid face) = begins_stay s r _ refl
    of_target (peer oid face) = begins_stay s r _ refl
statement_stays g s r (root_query q) = of_target (object_of (value_of_word (scene_of r) q.target))
  where
    of_target : (x : Ref) → Stays (queries_on s r q x)
    of_target null = refl
    of_target (own oid face) = begins_stay s r _ refl
    of_target (peer oid face) = begins_stay s r _ refl
statement_stays g s r (root_make m) = new_stays g s r m
statement_stays g s r (root_drop name) = refl
statement_stays g s r (same a b) = refl
statement_stays g s r root_dispose = by_standing (stands s)
  where
    by_standing : (b : Bool) → is_plain (if b then Some disposed else None) ≡ true
    by_standing true = refl
    by_standing false = refl

idle_stays : (g : Setting) (s : Side) (r : Run) (x : Option Ref) → Stays (idle_moves g s r x)
idle_stays g s r (Some null) = refl
idle_stays g s r (Some (own oid face)) = refl
idle_stays g s r (Some (peer oid face)) = refl
idle_stays g s r None = of_next (statement_at g r)
  where
    of_next : (x : Option RootStatement) → Stays (next_statement g s r x)
    of_next None = tt
    of_next (Some x) = stays_if (is_skipped r.variables x) _ _ refl (statement_stays g s r x)

taking_stays : (g : Setting) (r : Run) (o : Outcome) (x : Option RootStatement) → Stays (takes_at g r o x)
taking_stays g r o None = tt
taking_stays g r o (Some x) = refl

state_stays : (g : Setting) (s : Side) (r : Run) (x : RootState) → Stays (state_moves g s r x)
state_stays g s r idle = idle_stays g s r (next_loose r.loose)
state_stays g s r waits_call = tt
state_stays g s r (waits_query wanted) = tt
state_stays g s r (answered o) = taking_stays g r o (statement_at g r)

move_stays : (g : Setting) (s : Side) (r : Run) → Stays (root_moves g s r)
unfolding root_moves
move_stays g s r = state_stays g s r (state_of r.root s.tables.roots)

-- ---- the roots in their order

-- it waits, or has nothing left to do
abbrev pub DoesNotMove : Moved → Type 0
DoesNotMove waiting = Unit
DoesNotMove finished = Unit
DoesNotMove (moved next x) = ⊥

-- the first does not move where none does, and then those behind it count
record IsPassed (g : Setting) (s : Side) (f : Run) (front : List Run) : Type 0 where
  pub none : root_move g s front ≡ None
  pub later : (rs : List Run) → root_move g s (f ∷ rs) ≡ in_front f (root_move g s rs)

none_in_front : (f : Run) (o : Option RootMove) → in_front f o ≡ None → o ≡ None
none_in_front f None is = refl
none_in_front f (Some m) is = absurd (cc)

some_first : {X : Type 0} (m : RootMove) → Some m ≡ None → X
some_first m is = absurd (cc)

passed : (g : Setting) (s : Side) (f : Run) (front : List Run) → root_move g s (f ∷ front) ≡ None → IsPassed g s f front
unfolding root_move
passed g s f front none = of_first (root_moves g s f) refl
  where
    at : (m : Moved) → root_moves g s f ≡ m → first_or_later f front m (root_move g s front) ≡ None
    at m is = ap (λ z. first_or_later f front z (root_move g s front)) (sym is) ∙ none

    of_first : (m : Moved) → root_moves g s f ≡ m → IsPassed g s f front
    of_first (moved run e) is = some_first _ (at (moved run e) is)
    of_first waiting is = record { none = none_in_front f (root_move g s front) (at waiting is); later = λ rs. ap (λ z. first_or_later f rs z (root_move g s rs)) is }
    of_first finished is = record { none = none_in_front f (root_move g s front) (at finished is); later = λ rs. ap (λ z. first_or_later f rs z (root_move g s rs)) is }

-- where the first ones do not move, the next one that does is the lowest
pub lowest_moves : (g : Setting) (s : Side) (front back : List Run) (r next : Run) (x : Option Entry) → root_move g s front ≡ None → root_moves g s r ≡ moved next x
    → root_move g s (front ++ r ∷ back) ≡ Some (record { runs = front ++ next ∷ back; entry = x })
unfolding root_move
lowest_moves g s [] back r next x none is = ap (λ m. first_or_later r back m (root_move g s back)) is
lowest_moves g s (f ∷ front) back r next x none is =
    let past = passed g s f front none in
    past.later (front ++ r ∷ back) ∙ ap (in_front f) (lowest_moves g s front back r next x past.none is)

-- and one that does not move either is passed
pub none_moves : (g : Setting) (s : Side) (front : List Run) (r : Run) → root_move g s front ≡ None → DoesNotMove (root_moves g s r) → root_move g s (front ++ r ∷ []) ≡ None
unfolding root_move
none_moves g s [] r none still = of_move (root_moves g s r) still
  where
    of_move : (m : Moved) → DoesNotMove m → first_or_later r [] m None ≡ None
    of_move waiting rests = refl
    of_move finished rests = refl
    of_move (moved next x) rests = absurd rests
none_moves g s (f ∷ front) r none still =
    let past = passed g s f front none in
    past.later (front ++ r ∷ []) ∙ ap (in_front f) (none_moves g s front r past.none still)

-- ---- the entry of a move

-- it is a root's, and not want of memory
fine_in_front : (r : Run) (o : Option RootMove) (m : RootMove) → in_front r o ≡ Some m → ((n : RootMove) → o ≡ Some n → is_plain n.entry ≡ true) → is_plain m.entry ≡ true
fine_in_front r None m is fine = absurd (cc)
fine_in_front r (Some n) m is fine = let same : record n { runs = r ∷ n.runs } ≡ m = cc in ap (λ (z : RootMove). is_plain z.entry) (sym same) ∙ fine n refl

fine_first : (r : Run) (rs : List Run) (mv : Moved) (o : Option RootMove) (m : RootMove) → Stays mv → first_or_later r rs mv o ≡ Some m → ((n : RootMove) → o ≡ Some n → is_plain n.entry ≡ true)
    → is_plain m.entry ≡ true
fine_first r rs (moved next x) o m stays is fine = let same : record { runs = next ∷ rs; entry = x } ≡ m = cc in ap (λ (z : RootMove). is_plain z.entry) (sym same) ∙ stays
fine_first r rs waiting o m stays is fine = fine_in_front r o m is fine
fine_first r rs finished o m stays is fine = fine_in_front r o m is fine

no_move : {X : Type 0} (g : Setting) (s : Side) (m : RootMove) → root_move g s [] ≡ Some m → X
unfolding root_move
no_move g s m is = absurd (cc)

pub move_is_plain : (g : Setting) (s : Side) (runs : List Run) (m : RootMove) → root_move g s runs ≡ Some m → is_plain m.entry ≡ true
unfolding root_move
move_is_plain g s [] m is = no_move g s m is
move_is_plain g s (r ∷ rs) m is =
    fine_first r rs (root_moves g s r) (root_move g s rs) m (move_stays g s r) is (λ n there. move_is_plain g s rs n there)

pub entry_is_plain : (e : Entry) → is_plain (Some e) ≡ true → is_other e ≡ false
entry_is_plain e is = not-true (is_other e) is

pub lack_is_other : (e : Entry) → is_other e ≡ false → is_lack e ≡ false
lack_is_other (fed b) is = refl
lack_is_other ended is = refl
lack_is_other failed is = refl
lack_is_other (asked root name wanted) is = refl
lack_is_other (called root oid face function args) is = refl
lack_is_other (queried root oid face wanted) is = refl
lack_is_other (made root behaviour wanted) is = refl
lack_is_other (dropped root oid face) is = refl
lack_is_other (applied tid) is = refl
lack_is_other (took root) is = refl
lack_is_other (reaped object) is = refl
lack_is_other (drained b) is = absurd (true≢false is)
lack_is_other disposed is = refl
lack_is_other full is = refl
lack_is_other no_memory is = absurd (true≢false is)

pub others_drain : (e : Entry) → is_other e ≡ false → bytes_drained e ≡ []
others_drain (fed b) is = refl
others_drain ended is = refl
others_drain failed is = refl
others_drain (asked root name wanted) is = refl
others_drain (called root oid face function args) is = refl
others_drain (queried root oid face wanted) is = refl
others_drain (made root behaviour wanted) is = refl
others_drain (dropped root oid face) is = refl
others_drain (applied tid) is = refl
others_drain (took root) is = refl
others_drain (reaped object) is = refl
others_drain (drained b) is = absurd (true≢false is)
others_drain disposed is = refl
others_drain full is = refl
others_drain no_memory is = absurd (true≢false is)
