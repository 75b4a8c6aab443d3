-- What lasts of what frames hold, and of an object that is taken back.
use Rattle.std.proofs.Common.{◌≡◌, ℕ, suc, ◌-◌, ◌<◌, Bool, true, false, not, ◌==◌, if◌then◌else◌, cond, List, [], ◌∷◌, ◌++◌, None, Some, is_some, unwrap_or, refl, sym, ap, ◌∙◌, arith}
use Rattle.std.proofs.lemmas.Bool.Decides.{nat_tests}
use Rattle.std.specs.Cmp.{Equal-is}
use Rattle.std.specs.FinMap.{IsAntisymmetric}
use Rattle.std.specs.List.{filter, find}
use Rattle.std.specs.Ordering.{eq_by_cmp, is_gt}
use Rattle.std.specs.declared.cmp.Ordering.{Ordering}
use Rattle.message_model.specs.Messages.{Message}
use Rattle.uno_model.specs.Values.{Plain, Ref, null, own, peer}
use Rattle.table_model.specs.Bags.{one_less, one_more}
use Rattle.table_model.specs.Holdings.{hold, hold_cmp, Holdings, outlasts}
use Rattle.table_model.specs.Pair.{pair}
use Rattle.table_model.specs.declared.holder.Holder.{Holder}
use Rattle.table_model.specs.declared.holder.Holder.TheVariants as holder
use Rattle.table_model.proofs.HoldLaws.{same_hold}
use Rattle.bridge_model.specs.Objects.{object_numbered, makes_object, without_object}
use Rattle.bridge_model.specs.References.{says, gains, gains_all, is_held, releases, takes, takes_all, loses, loses_all, stays, gives_back, holds_ref, lets_go, lets_go_all, refs_of_values}
use Rattle.bridge_model.specs.Settings.{Setting}
use Rattle.bridge_model.specs.Sides.{Object, RootState, Tables}
use Rattle.bridge_objects.specs.Kept.{Kept, fields_of, numbered, unmade}
use Rattle.bridge_streams.specs.Queues.{Queue}
use Rattle.bridge_tables.specs.EndTables.{EndTables, lasting, lasts, on_tables, quiet, with_tables}
use Rattle.bridge_tables.proofs.LettingLemmas.{seen}
use Rattle.bridge_tables.proofs.ReferringLemmas.{lost_gained}

-- what is quietly the same lasts the same
pub lasting_quiet : (a b : EndTables) → quiet a ≡ quiet b → lasting a ≡ lasting b
lasting_quiet a b same = ap lasting same

-- ---- bags and tests

module _ {X : Type 0} (cmp : X → X → Ordering) (same : IsAntisymmetric cmp) (test : X → Bool) where
  -- an item that fails a test does not stand among those that pass it
  absent : (k : X) (ys : List X) → test k ≡ false → one_less cmp k (filter test ys) ≡ filter test ys
  absent k [] fails = refl
  absent k (y ∷ ys) fails =
      elim (test y) as (λ b. test y ≡ b → one_less cmp k (cond b (y ∷ filter test ys) (filter test ys)) ≡ cond b (y ∷ filter test ys) (filter test ys)) [
        | true ↦ λ passes.
            elim (eq_by_cmp cmp k y) as (λ b. eq_by_cmp cmp k y ≡ b → cond b (filter test ys) (y ∷ one_less cmp k (filter test ys)) ≡ y ∷ filter test ys) [
              | true ↦ λ is. let bad : true ≡ false = sym passes ∙ sym (ap test (same k y ((Equal-is _).0 is))) ∙ fails in absurd (cc)
              | false ↦ λ other. ap (λ zs. y ∷ zs) (absent k ys fails)
            ] refl
        | false ↦ λ _. absent k ys fails
      ] refl

  filter_one_less : (k : X) (ys : List X) → filter test (one_less cmp k ys) ≡ one_less cmp k (filter test ys)
  filter_one_less k [] = refl
  filter_one_less k (y ∷ ys) =
      elim (eq_by_cmp cmp k y) as (λ b. eq_by_cmp cmp k y ≡ b → filter test (cond b ys (y ∷ one_less cmp k ys)) ≡ one_less cmp k (cond (test y) (y ∷ filter test ys) (filter test ys))) [
        | true ↦ λ is.
            elim (test y) as (λ b. test y ≡ b → filter test ys ≡ one_less cmp k (cond b (y ∷ filter test ys) (filter test ys))) [
              | true ↦ λ _. ap (λ b. cond b (filter test ys) (y ∷ one_less cmp k (filter test ys))) (sym is)
              | false ↦ λ fails. sym (absent k ys (ap test (same k y ((Equal-is _).0 is)) ∙ fails))
            ] refl
        | false ↦ λ other.
            elim (test y) as (λ b. cond b (y ∷ filter test (one_less cmp k ys)) (filter test (one_less cmp k ys)) ≡ one_less cmp k (cond b (y ∷ filter test ys) (filter test ys))) [
              | true ↦ ap (λ zs. y ∷ zs) (filter_one_less k ys) ∙ ap (λ b. cond b (filter test ys) (y ∷ one_less cmp k (filter test ys))) (sym other)
              | false ↦ filter_one_less k ys
            ]
      ] refl

  less_apart : (k : X) (ys : List X) → test k ≡ false → filter test (one_less cmp k ys) ≡ filter test ys
  less_apart k ys fails = filter_one_less k ys ∙ absent k ys fails

  more_apart : (k : X) (ys : List X) → test k ≡ false → filter test (one_more cmp k ys) ≡ filter test ys
  more_apart k [] fails = ap (λ b. cond b (k ∷ []) []) fails
  more_apart k (y ∷ ys) fails =
      elim (is_gt (cmp k y)) as (λ b. filter test (cond b (y ∷ one_more cmp k ys) (k ∷ y ∷ ys)) ≡ filter test (y ∷ ys)) [
        | true ↦ ap (λ zs. cond (test y) (y ∷ zs) zs) (more_apart k ys fails)
        | false ↦ ap (λ b. cond b (k ∷ filter test (y ∷ ys)) (filter test (y ∷ ys))) fails
      ]

  swap_step : (a b y : X) (ys : List X) (p q : Bool) → eq_by_cmp cmp a y ≡ p → eq_by_cmp cmp b y ≡ q → one_less cmp a (one_less cmp b ys) ≡ one_less cmp b (one_less cmp a ys)
      → one_less cmp a (one_less cmp b (y ∷ ys)) ≡ one_less cmp b (one_less cmp a (y ∷ ys))
  swap_step a b y ys true true at_a at_b rest = rw (at_a, at_b) (ap (λ x. one_less cmp x ys) (same a y ((Equal-is _).0 at_a) ∙ sym (same b y ((Equal-is _).0 at_b))))
  swap_step a b y ys true false at_a off_b rest = rw (at_a, off_b, at_a) refl
  swap_step a b y ys false true off_a at_b rest = rw (off_a, at_b) refl
  swap_step a b y ys false false off_a off_b rest = rw (off_a, off_b, off_a) (ap (λ zs. y ∷ zs) rest)

  -- it does not matter which of two goes first
  less_swap : (a b : X) (ys : List X) → one_less cmp a (one_less cmp b ys) ≡ one_less cmp b (one_less cmp a ys)
  less_swap a b [] = refl
  less_swap a b (y ∷ ys) = swap_step a b y ys (eq_by_cmp cmp a y) (eq_by_cmp cmp b y) refl refl (less_swap a b ys)

-- ---- what frames hold

abbrev pub with_holdings : Holdings → Tables → Tables
with_holdings hs t = record t { holdings = hs }

module _ (n : ℕ) where
  pub frame_gains : (r : Ref) (t : Tables) → lasts (gains (holder.Frame n) r t) ≡ lasts t
  frame_gains null t = refl
  frame_gains (own oid face) t = ap (λ hs. with_holdings hs (lasts t)) (more_apart hold_cmp same_hold outlasts (hold (holder.Frame n) (pair oid face)) t.holdings refl)
  frame_gains (peer oid face) t = ap (λ hs. with_holdings hs (lasts t)) (more_apart hold_cmp same_hold outlasts (hold (holder.Frame n) (pair oid face)) t.holdings refl)

  pub frame_gains_all : (rs : List Ref) (t : Tables) → lasts (gains_all (holder.Frame n) rs t) ≡ lasts t
  unfolding gains_all
  frame_gains_all [] t = refl
  frame_gains_all (r ∷ rs) t = frame_gains_all rs (gains (holder.Frame n) r t) ∙ frame_gains r t

  frame_loses : (r : Ref) (t : Tables) → lasts (loses (holder.Frame n) r t) ≡ lasts t
  frame_loses null t = refl
  frame_loses (own oid face) t = ap (λ hs. with_holdings hs (lasts t)) (less_apart hold_cmp same_hold outlasts (hold (holder.Frame n) (pair oid face)) t.holdings refl)
  frame_loses (peer oid face) t = ap (λ hs. with_holdings hs (lasts t)) (less_apart hold_cmp same_hold outlasts (hold (holder.Frame n) (pair oid face)) t.holdings refl)

-- what is said does not last
pub lasts_said : (g : Setting) (m : Message) (t : Tables) → lasts (says g m t) ≡ lasts t
unfolding says
lasts_said g m t = refl

lasts_given : (b : Bool) (g : Setting) (oid face : List ℕ) (t : Tables) → lasts (if b then t else releases g oid face t) ≡ lasts t
unfolding says
lasts_given true g oid face t = refl
lasts_given false g oid face t = refl

lasts_back : (g : Setting) (r : Ref) (t : Tables) → lasts (gives_back g r t) ≡ lasts t
lasts_back g null t = refl
lasts_back g (own oid face) t = refl
lasts_back g (peer oid face) t = lasts_given (stays g oid face t) g oid face t

lasts_if : (b : Bool) (x t : Tables) → lasts x ≡ lasts t → lasts (if b then x else t) ≡ lasts t
lasts_if true x t same = same
lasts_if false x t same = refl

lasts_if_held : (b : Bool) (g : Setting) (oid face : List ℕ) (t : Tables) → lasts (if b then releases g oid face t else t) ≡ lasts t
unfolding says
lasts_if_held true g oid face t = refl
lasts_if_held false g oid face t = refl

module _ (n : ℕ) (g : Setting) where
  pub frame_lets_go : (r : Ref) (t : Tables) → lasts (lets_go g (holder.Frame n) r t) ≡ lasts t
  frame_lets_go r t =
      lasts_if (holds_ref (holder.Frame n) r t) (gives_back g r (loses (holder.Frame n) r t)) t (lasts_back g r (loses (holder.Frame n) r t) ∙ frame_loses n r t)

  pub frame_lets_go_all : (rs : List Ref) (t : Tables) → lasts (lets_go_all g (holder.Frame n) rs t) ≡ lasts t
  unfolding lets_go_all
  frame_lets_go_all [] t = refl
  frame_lets_go_all (r ∷ rs) t = frame_lets_go_all rs (lets_go g (holder.Frame n) r t) ∙ frame_lets_go r t

  frame_takes : (r : Ref) (t : Tables) → lasts (takes g (holder.Frame n) r t) ≡ lasts t
  frame_takes null t = refl
  frame_takes (own oid face) t = frame_gains n (own oid face) t
  frame_takes (peer oid face) t =
      frame_gains n (peer oid face) (if is_held oid face t then releases g oid face t else t) ∙ lasts_if_held (is_held oid face t) g oid face t

  pub frame_takes_all : (rs : List Ref) (t : Tables) → lasts (takes_all g (holder.Frame n) rs t) ≡ lasts t
  unfolding takes_all
  frame_takes_all [] t = refl
  frame_takes_all (r ∷ rs) t = frame_takes_all rs (takes g (holder.Frame n) r t) ∙ frame_takes r t

-- ---- what is lost lasts no more

module _ (h : Holder) where
  lasts_loses : (r : Ref) (t : Tables) → lasts (loses h r t) ≡ loses h r (lasts t)
  lasts_loses null t = refl
  lasts_loses (own oid face) t = ap (λ hs. with_holdings hs (lasts t)) (filter_one_less hold_cmp same_hold outlasts (hold h (pair oid face)) t.holdings)
  lasts_loses (peer oid face) t = ap (λ hs. with_holdings hs (lasts t)) (filter_one_less hold_cmp same_hold outlasts (hold h (pair oid face)) t.holdings)

  pub lasts_loses_all : (rs : List Ref) (t : Tables) → lasts (loses_all h rs t) ≡ loses_all h rs (lasts t)
  unfolding loses_all
  lasts_loses_all [] t = refl
  lasts_loses_all (r ∷ rs) t = lasts_loses_all rs (loses h r t) ∙ ap (loses_all h rs) (lasts_loses r t)

  loses_swap : (r q : Ref) (t : Tables) → loses h r (loses h q t) ≡ loses h q (loses h r t)
  loses_swap null q t = refl
  loses_swap (own a b) null t = refl
  loses_swap (own a b) (own c d) t = ap (λ hs. with_holdings hs t) (less_swap hold_cmp same_hold outlasts (hold h (pair a b)) (hold h (pair c d)) t.holdings)
  loses_swap (own a b) (peer c d) t = ap (λ hs. with_holdings hs t) (less_swap hold_cmp same_hold outlasts (hold h (pair a b)) (hold h (pair c d)) t.holdings)
  loses_swap (peer a b) null t = refl
  loses_swap (peer a b) (own c d) t = ap (λ hs. with_holdings hs t) (less_swap hold_cmp same_hold outlasts (hold h (pair a b)) (hold h (pair c d)) t.holdings)
  loses_swap (peer a b) (peer c d) t = ap (λ hs. with_holdings hs t) (less_swap hold_cmp same_hold outlasts (hold h (pair a b)) (hold h (pair c d)) t.holdings)

  loses_past : (r : Ref) (rs : List Ref) (t : Tables) → loses_all h rs (loses h r t) ≡ loses h r (loses_all h rs t)
  unfolding loses_all
  loses_past r [] t = refl
  loses_past r (q ∷ rs) t = ap (loses_all h rs) (loses_swap q r t) ∙ loses_past r rs (loses h q t)

  -- all that was gained is lost again
  pub all_lost_gained : (rs : List Ref) (t : Tables) → loses_all h rs (gains_all h rs t) ≡ t
  unfolding loses_all gains_all
  all_lost_gained [] t = refl
  all_lost_gained (r ∷ rs) t = loses_past r rs (gains_all h rs (gains h r t)) ∙ ap (loses h r) (all_lost_gained rs (gains h r t)) ∙ lost_gained h r t

-- ---- an object that is taken back

-- the object that was made last is gone, and counts no more
abbrev pub without_last : Tables → Tables
without_last t = record t { objects = without_object t.objects_made t.objects; objects_made = t.objects_made - 1 }

-- and so is what it held
abbrev pub takes_back : Tables → Tables
takes_back t = loses_all (holder.Object t.objects_made) (refs_of_values (unwrap_or (fields_of (object_numbered t.objects_made t.objects)) [])) (without_last t)

module _ (h : Holder) where
  only_holdings : (r : Ref) (hs : Holdings) (t : Tables) → with_holdings hs (gains h r t) ≡ with_holdings hs t
  only_holdings null hs t = refl
  only_holdings (own oid face) hs t = refl
  only_holdings (peer oid face) hs t = refl

  gains_holdings : (rs : List Ref) (t : Tables) → gains_all h rs t ≡ with_holdings (gains_all h rs t).holdings t
  unfolding gains_all
  gains_holdings [] t = refl
  gains_holdings (r ∷ rs) t = gains_holdings rs (gains h r t) ∙ only_holdings r (gains_all h rs (gains h r t)).holdings t

  pub objects_stay : (rs : List Ref) (t : Tables) → (gains_all h rs t).objects ≡ t.objects
  objects_stay rs t = ap (λ x. x.objects) (gains_holdings rs t)

  pub frames_stay : (rs : List Ref) (t : Tables) → (gains_all h rs t).frames_made ≡ t.frames_made
  frames_stay rs t = ap (λ x. x.frames_made) (gains_holdings rs t)

  gains_without : (r : Ref) (t : Tables) → without_last (gains h r t) ≡ gains h r (without_last t)
  gains_without null t = refl
  gains_without (own oid face) t = refl
  gains_without (peer oid face) t = refl

  all_without : (rs : List Ref) (t : Tables) → without_last (gains_all h rs t) ≡ gains_all h rs (without_last t)
  unfolding gains_all
  all_without [] t = refl
  all_without (r ∷ rs) t = all_without rs (gains h r t) ∙ ap (gains_all h rs) (gains_without r t)

has_number : ℕ → Object → Bool
has_number n o = n == o.number

none_numbered : (n : ℕ) (os : List Object) (o : Object) → (n == o.number) ≡ true → object_numbered n os ≡ None → object_numbered n (os ++ o ∷ []) ≡ Some o
unfolding object_numbered
none_numbered n [] o is none = ap (λ b. cond b (Some o) None) is
none_numbered n (x ∷ os) o is none =
    elim (n == x.number) as (λ b. cond b (Some x) (find (λ y. n == y.number) os) ≡ None → cond b (Some x) (find (λ y. n == y.number) (os ++ o ∷ [])) ≡ Some o) [
      | true ↦ λ some. absurd (cc)
      | false ↦ λ none. none_numbered n os o is none
    ] none

none_goes : (n : ℕ) (os : List Object) (o : Object) → (n == o.number) ≡ true → object_numbered n os ≡ None → without_object n (os ++ o ∷ []) ≡ os
unfolding object_numbered without_object
none_goes n [] o is none = ap (λ b. cond (not b) (o ∷ []) []) is
none_goes n (x ∷ os) o is none =
    elim (n == x.number) as (λ b. cond b (Some x) (find (λ y. n == y.number) os) ≡ None → cond (not b) (x ∷ filter (λ y. not (n == y.number)) (os ++ o ∷ [])) (filter (λ y. not (n == y.number)) (os ++ o ∷ [])) ≡ x ∷ os) [
      | true ↦ λ some. absurd (cc)
      | false ↦ λ none. ap (λ ys. x ∷ ys) (none_goes n os o is none)
    ] none

same_number : (n : ℕ) → (n == n) ≡ true
same_number n = grind (arith, nat_tests)

less_one : (n : ℕ) → suc n - 1 ≡ n
less_one n = omega arith

-- it is as if it had not been made
pub taken_back_made : (b : ℕ) (fs : List Plain) (t : Tables) → object_numbered (suc t.objects_made) t.objects ≡ None → takes_back (makes_object b fs t) ≡ t
unfolding makes_object
taken_back_made b fs t fresh =
    let o : Object = record { number = suc t.objects_made; behaviour = b; fields = fs } in
    let h : Holder = holder.Object (suc t.objects_made) in
    let made : Tables = record t { objects = t.objects ++ o ∷ []; objects_made = suc t.objects_made } in
    let kept = gains_holdings h (refs_of_values fs) made in
    let found : object_numbered (suc t.objects_made) (t.objects ++ o ∷ []) ≡ Some o = none_numbered (suc t.objects_made) t.objects o (same_number (suc t.objects_made)) fresh in
    (λ i. loses_all (holder.Object (kept i).objects_made) (refs_of_values (unwrap_or (fields_of (object_numbered (kept i).objects_made (kept i).objects)) [])) (without_last (gains_all h (refs_of_values fs) made)))
    ∙ ap (λ x. loses_all h (refs_of_values (unwrap_or (fields_of x) [])) (without_last (gains_all h (refs_of_values fs) made))) found
    ∙ ap (loses_all h (refs_of_values fs)) (all_without h (refs_of_values fs) made)
    ∙ all_lost_gained h (refs_of_values fs) (without_last made)
    ∙ (λ i. record t { objects = none_goes (suc t.objects_made) t.objects o (same_number (suc t.objects_made)) fresh i; objects_made = less_one t.objects_made i })

pub lasting_back : (b : ℕ) (fs : List Plain) (e old new : EndTables) → object_numbered (suc e.tables.objects_made) e.tables.objects ≡ None → lasting old ≡ lasting (on_tables (makes_object b fs) e)
    → new ≡ on_tables takes_back old → lasting new ≡ lasting e
lasting_back b fs e old new fresh same is =
    ap lasting is
    ∙ ap (λ t. with_tables t old) (lasts_loses_all (holder.Object old.tables.objects_made) (refs_of_values (unwrap_or (fields_of (object_numbered old.tables.objects_made old.tables.objects)) [])) (without_last old.tables))
    ∙ ap (on_tables takes_back) same
    ∙ ap (λ t. with_tables t e)
    (sym
    (lasts_loses_all (holder.Object made.objects_made) (refs_of_values (unwrap_or (fields_of (object_numbered made.objects_made made.objects)) [])) (without_last made))
    ∙ ap lasts (taken_back_made b fs e.tables fresh))
  where
    made : Tables
    made = makes_object b fs e.tables

-- the object is there before
pub made_there : (b : ℕ) (fs : List Plain) (e old : EndTables) → object_numbered (suc e.tables.objects_made) e.tables.objects ≡ None → lasting old ≡ lasting (on_tables (makes_object b fs) e)
    → (is_some (object_numbered old.tables.objects_made old.tables.objects) ≡ true) × (old.tables.objects_made ≡ suc e.tables.objects_made)
unfolding makes_object
made_there b fs e old fresh same = (
  ap (λ x. is_some (object_numbered x.tables.objects_made x.tables.objects)) same
      ∙ ap (λ t. is_some (object_numbered t.objects_made t.objects)) kept
      ∙ ap is_some (none_numbered (suc e.tables.objects_made) e.tables.objects (record { number = suc e.tables.objects_made; behaviour = b; fields = fs }) (same_number (suc e.tables.objects_made)) fresh),
  ap (λ x. x.tables.objects_made) same ∙ ap (λ t. t.objects_made) kept,
)
  where
    made : Tables
    made = record e.tables { objects = e.tables.objects ++ record { number = suc e.tables.objects_made; behaviour = b; fields = fs } ∷ []; objects_made = suc e.tables.objects_made }

    kept : gains_all (holder.Object (suc e.tables.objects_made)) (refs_of_values fs) made ≡ with_holdings (gains_all (holder.Object (suc e.tables.objects_made)) (refs_of_values fs) made).holdings made
    kept = gains_holdings (holder.Object (suc e.tables.objects_made)) (refs_of_values fs) made

-- ---- as code takes it back

module _ (k : Kept) (q : Queue) (stands : Bool) (roots : List RootState) (frames : ℕ) (b : ℕ) (fs : List Plain) (e old : EndTables) (view : seen k q stands roots frames ≡ old)
    (fresh : object_numbered (suc e.tables.objects_made) e.tables.objects ≡ None) (same : lasting old ≡ lasting (on_tables (makes_object b fs) e)) where
  goes_back : (n : ℕ) (xs : List Plain) (after : EndTables) → n ≡ k.objects_made → fields_of (numbered k.objects_made k) ≡ Some xs
      → after ≡ on_tables (loses_all (holder.Object n) (refs_of_values xs)) (seen (unmade k) q stands roots frames) → after ≡ on_tables takes_back old
  goes_back n xs after count found here =
      here
      ∙ (λ i. on_tables (loses_all (holder.Object (count i)) (refs_of_values xs)) (seen (unmade k) q stands roots frames))
      ∙ ap (λ o. on_tables (loses_all (holder.Object k.objects_made) (refs_of_values (unwrap_or o []))) (seen (unmade k) q stands roots frames)) (sym found)
      ∙ ap (on_tables takes_back) view

  pub back_some : (n : ℕ) (xs : List Plain) (new : Kept) (after : EndTables) → n ≡ k.objects_made → fields_of (numbered k.objects_made k) ≡ Some xs → new ≡ unmade k
      → after ≡ on_tables (loses_all (holder.Object n) (refs_of_values xs)) (seen new q stands roots frames) → lasting after ≡ lasting e
  back_some n xs new after count found taken here =
      lasting_back b fs e old after fresh same
      (goes_back n xs after count found (here ∙ ap (λ x. on_tables (loses_all (holder.Object n) (refs_of_values xs)) (seen x q stands roots frames)) taken))

  -- there is one to take back
  pub back_none : {P : Type 0} → (0 < k.objects_made → numbered k.objects_made k ≡ None) → P
  back_none none =
      let there = made_there b fs e old fresh same in
      let count : k.objects_made ≡ suc e.tables.objects_made = ap (λ x. x.tables.objects_made) view ∙ there.1 in
      let bad : false ≡ true = sym (ap is_some (none (omega (arith, count)))) ∙ ap (λ x. is_some (object_numbered x.tables.objects_made x.tables.objects)) view ∙ there.0 in
      absurd (cc)
