-- A deed that was done at an end is a move of the pairing of both; and runs that stand for both ends stand for their history.
use Rattle.std.proofs.Common.{◌≡◌, refl, sym, ap, ◌∙◌, subst, ℕ, ◌<◌, List, [], ◌∷◌, ◌++◌, length, drop, slice_get, Option, None, Some, Result, Ok, Err, OnOk}
use Rattle.std.proofs.lemmas.List.{append-nil, drop_at}
use Rattle.bridge_core.specs.declared.side.Side as code_side
use Rattle.bridge_core.specs.declared.side.Side.TheVariants as code
use Rattle.bridge_endpoint.specs.Journals.{Endpoint}
use Rattle.bridge_model.specs.Entries.{Entry}
use Rattle.bridge_model.specs.Settings.{Setting}
use Rattle.bridge_core.specs.Moving.{with_any}
use Rattle.world_laws.specs.Merging.{event_at, events_at}
use Rattle.world_laws.specs.Standing.{AllStandAt}
use Rattle.world_model.specs.Moves.{Deed, Move, Progress, at}
use Rattle.world_model.specs.Pairs.{Pairing, does, enters, is_done_a, is_done_b, with_world}
use Rattle.plan_model.specs.Roots.{Run}
use Rattle.world_model.specs.Worlds.{Event, Settings, World, entries_of, happen_all, happens, opening_world}
use Rattle.world_model.specs.declared.side.Side.TheVariants.{A, B}
use Rattle.bridge_world.specs.Doing.{BothStand, IsDone, IsKnown, IsMoved, other_of, runs_in}
use Rattle.bridge_world.specs.Joined.{Grows, Joined, end_at, settings_of, side_of, world_of}
use Rattle.bridge_world.specs.Playing.{MovesSo, StandForHistory, moves_of, pairing_of}
use Rattle.bridge_world.proofs.MovesLemmas.{there_is}

-- ---- one event more

nowhere : {X : Type 0} (g : Settings) (es : List Event) (v : World) → happen_all g None es ≡ Some v → X
unfolding happen_all
nowhere g [] v is = absurd (cc)
nowhere g (e ∷ es) v is = absurd (cc)

none_behind : (g : Settings) (o : Option World) → happen_all g o [] ≡ o
unfolding happen_all
none_behind g None = refl
none_behind g (Some w) = refl

same_world : (u w : World) → ◌≡◌ {A = Option World} (Some u) (Some w) → u ≡ w
same_world u w is = cc

last_happens : (g : Settings) (o : Option World) (es : List Event) (e : Event) (w v : World) → happen_all g o es ≡ Some w → happen_all g o (es ++ e ∷ []) ≡ Some v → happens g w e ≡ Some v
unfolding happen_all
last_happens g None es e w v to more = nowhere g es w to
last_happens g (Some u) [] e w v to more = ap (λ (z : World). happens g z e) (sym (same_world u w to)) ∙ (sym (none_behind g (happens g u e)) ∙ more)
last_happens g (Some u) (f ∷ es) e w v to more = last_happens g (happens g u f) es e w v to more

-- ---- what is seen of both

same_joined : (j k : Joined) → k.a ≡ j.a → k.b ≡ j.b → k.events ≡ j.events → k ≡ j
same_joined j k a b es = λ i. record { a = a i; b = b i; events = es i }

pub same_settings : (j k : Joined) → k.a ≡ j.a → k.b ≡ j.b → settings_of k ≡ settings_of j
same_settings j k a b = λ i. settings_of (record { a = a i; b = b i; events = j.events })

none_made : (xs ys : List Entry) → ys ≡ xs → drop (length xs) ys ≡ []
none_made xs ys is = ap (drop (length xs)) (is ∙ sym (append-nil xs)) ∙ drop_at xs [] (length xs) refl

one_made : (xs ys : List Entry) (x : Entry) → ys ≡ xs ++ x ∷ [] → drop (length xs) ys ≡ x ∷ []
one_made xs ys x is = ap (drop (length xs)) is ∙ drop_at xs (x ∷ []) (length xs) refl

module _ (j k : Joined) (before : IsKnown j) (after : IsKnown k) where
  -- an event that stands behind all others
  last_event : (e : Event) → k.a ≡ j.a → k.b ≡ j.b → k.events ≡ j.events ++ e ∷ [] → happens (settings_of j) (world_of j) e ≡ Some (world_of k)
  last_event e a b more =
      let same = same_settings j k a b in
      let led = subst (λ (g : Settings). happen_all g (Some (opening_world g)) k.events ≡ Some (world_of k)) same after.runs in
      last_happens (settings_of j) (Some (opening_world (settings_of j))) j.events e (world_of j) (world_of k) before.runs
      (subst (λ (es : List Event). happen_all (settings_of j) (Some (opening_world (settings_of j))) es ≡ Some (world_of k)) more led)

  -- nothing was entered
  enters_none : (p : Progress) → k.a ≡ j.a → k.b ≡ j.b → k.events ≡ j.events → ◌≡◌ {A = Option Pairing} (Some (pairing_of j p None)) (Some (pairing_of k p None))
  enters_none p a b es = ap (λ (z : Joined). Some (pairing_of z p None)) (sym (same_joined j k a b es))

  -- or one entry
  enters_one : (p : Progress) (e : Event) → k.a ≡ j.a → k.b ≡ j.b → k.events ≡ j.events ++ e ∷ [] → with_world (pairing_of j p None) e (happens (settings_of j) (world_of j) e) ≡ Some (pairing_of k p None)
  enters_one p e a b more =
      ap (with_world (pairing_of j p None) e) (last_event e a b more)
      ∙ ap (λ (es : List Event). Some (record { world = world_of k; events = es; runs = p; generator = None })) (sym more)

  -- by an entry of A
  enters_a : (p : Progress) (o : Option Entry) → end_at k code.A ≡ with_any o (end_at j code.A) → Grows code.A j k → enters (settings_of j) (pairing_of j p None) A o ≡ Some (pairing_of k p None)
  enters_a p None entered grows =
      enters_none p grows.a grows.b
      (grows.events ∙ (ap (λ (xs : List Entry). j.events ++ events_at A xs) (none_made (end_at j code.A).entries (end_at k code.A).entries (ap (λ (e : Endpoint). e.entries) entered)) ∙ append-nil j.events))
  enters_a p (Some x) entered grows =
      enters_one p (event_at A x) grows.a grows.b
      (grows.events ∙ ap (λ (xs : List Entry). j.events ++ events_at A xs) (one_made (end_at j code.A).entries (end_at k code.A).entries x (ap (λ (e : Endpoint). e.entries) entered)))

  -- or of B
  enters_b : (p : Progress) (o : Option Entry) → end_at k code.B ≡ with_any o (end_at j code.B) → Grows code.B j k → enters (settings_of j) (pairing_of j p None) B o ≡ Some (pairing_of k p None)
  enters_b p None entered grows =
      enters_none p grows.a grows.b
      (grows.events ∙ (ap (λ (xs : List Entry). j.events ++ events_at B xs) (none_made (end_at j code.B).entries (end_at k code.B).entries (ap (λ (e : Endpoint). e.entries) entered)) ∙ append-nil j.events))
  enters_b p (Some x) entered grows =
      enters_one p (event_at B x) grows.a grows.b
      (grows.events ∙ ap (λ (xs : List Entry). j.events ++ events_at B xs) (one_made (end_at j code.B).entries (end_at k code.B).entries x (ap (λ (e : Endpoint). e.entries) entered)))

  -- a deed of A, or one of B
  does_a : (cut : ℕ) (d : Deed) (p : Progress) (after : List Run) → IsDone cut code.A d j k p.a after → does (settings_of j) cut (pairing_of j p None) (at A d) ≡ Some (pairing_of k (record p { a = after }) None)
  unfolding does
  does_a cut d p after is = ap (is_done_a (settings_of j) (pairing_of j p None)) is.does ∙ enters_a (record p { a = after }) is.entry is.entered is.grows

  does_b : (cut : ℕ) (d : Deed) (p : Progress) (after : List Run) → IsDone cut code.B d j k p.b after → does (settings_of j) cut (pairing_of j p None) (at B d) ≡ Some (pairing_of k (record p { b = after }) None)
  unfolding does
  does_b cut d p after is = ap (is_done_b (settings_of j) (pairing_of j p None)) is.does ∙ enters_b (record p { b = after }) is.entry is.entered is.grows

  does_move : (cut : ℕ) (m : Move) (p q : Progress) → IsMoved cut m j k p q → does (settings_of j) cut (pairing_of j p None) m ≡ Some (pairing_of k q None)
  does_move cut m p q moved = by_side moved.side moved.deed moved.is moved.does moved.rest
    where
      by_side : (s : code_side.Side) (d : Deed) → m ≡ at (side_of s) d → IsDone cut s d j k (runs_in p s) (runs_in q s) → runs_in q (other_of s) ≡ runs_in p (other_of s)
          → does (settings_of j) cut (pairing_of j p None) m ≡ Some (pairing_of k q None)
      by_side code.A d is done rest =
          ap (does (settings_of j) cut (pairing_of j p None)) is
          ∙ (does_a cut d p q.a done ∙ ap (λ (rs : List Run). Some (pairing_of k (record { a = q.a; b = rs }) None)) (sym rest))
      by_side code.B d is done rest =
          ap (does (settings_of j) cut (pairing_of j p None)) is
          ∙ (does_b cut d p q.b done ∙ ap (λ (rs : List Run). Some (pairing_of k (record { a = rs; b = q.b }) None)) (sym rest))

  same_a : (cut : ℕ) (m : Move) (p q : Progress) → IsMoved cut m j k p q → (k.a ≡ j.a) × (k.b ≡ j.b)
  same_a cut m p q moved = (moved.does.grows.a, moved.does.grows.b)

  pub moves_so : (cut nth : ℕ) (m : Move) (p q : Progress) → slice_get (moves_of j p) nth ≡ Some m → IsMoved cut m j k p q → MovesSo cut nth j k p q
  moves_so cut nth m p q there moved = record { move = m; there = there; same = same_a cut m p q moved; does = does_move cut m p q moved }

  -- the move at a place below their number is there
  pub moved_ok : {X Y : Type 0} (cut nth : ℕ) (p q : Progress) (r : Result X Y) → nth < length (moves_of j p) → OnOk r ((m : Move) → slice_get (moves_of j p) nth ≡ Some m → IsMoved cut m j k p q)
      → OnOk r (MovesSo cut nth j k p q)
  moved_ok cut nth p q (Ok x) less moved = let one = there_is (moves_of j p) nth less in moves_so cut nth one.0 p q one.1 (moved one.0 one.1)
  moved_ok cut nth p q (Err x) less moved = tt

-- ---- runs

pub stand_for_ends : (j : Joined) → IsKnown j → (p : Progress) → StandForHistory j p → BothStand j p
stand_for_ends j known p stand =
    record {
      a = subst (λ (g : Setting). AllStandAt g (entries_of A j.events) p.a) (known.setting code.A) stand.a;
      b = subst (λ (g : Setting). AllStandAt g (entries_of B j.events) p.b) (known.setting code.B) stand.b;
    }

pub stand_for_both : (j : Joined) → IsKnown j → (p : Progress) → BothStand j p → StandForHistory j p
stand_for_both j known p stand =
    record {
      a = subst (λ (g : Setting). AllStandAt g (entries_of A j.events) p.a) (sym (known.setting code.A)) stand.a;
      b = subst (λ (g : Setting). AllStandAt g (entries_of B j.events) p.b) (sym (known.setting code.B)) stand.b;
    }
