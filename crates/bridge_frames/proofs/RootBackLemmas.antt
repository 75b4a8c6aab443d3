-- A root that was answered is taken back, and what lasts is as before.
use Rattle.std.proofs.Common.{◌≡◌, ℕ, zero, suc, Bool, true, false, if◌then◌else◌, List, [], ◌∷◌, slice_get, slice_set, unwrap_or, refl, sym, ap, ◌∙◌, arith}
use Rattle.std.proofs.lemmas.Bool.Decides.{nat_tests}
use Rattle.std.proofs.lemmas.List.{append-nil}
use Rattle.std.specs.Prelude.{nat_lt}
use Rattle.message_model.specs.Messages.{Answer, returned, raised}
use Rattle.uno_model.specs.Entities.{Entity}
use Rattle.uno_model.specs.Kinds as kd
use Rattle.uno_model.specs.Reaches.{is_base_of}
use Rattle.uno_model.specs.Values.{Ref, null, own, peer, Plain, object_in, refs}
use Rattle.uno_model.specs.Values as v
use Rattle.table_model.specs.Bags.{how_often}
use Rattle.table_model.specs.Holdings.{Hold, hold, hold_cmp, holds, let_go}
use Rattle.table_model.specs.Pair.{pair}
use Rattle.table_model.specs.declared.holder.Holder.{Holder}
use Rattle.table_model.specs.declared.holder.Holder.TheVariants as holder
use Rattle.table_model.proofs.BagLaws.{one_less_none}
use Rattle.table_model.proofs.HoldLaws.{hold_order}
use Rattle.plan_model.specs.Frames.{Frame, base, body, outgoing}
use Rattle.plan_model.specs.Holdings.{is_taken, reference_of}
use Rattle.bridge_model.specs.Handing.{gains_below, root_gets, takes_below}
use Rattle.bridge_model.specs.References.{says, gains, gains_all, gives_back, is_held, lets_go, lets_go_all, loses, loses_all, refs_of_answer, refs_of_values, releases, stays, takes, takes_all}
use Rattle.bridge_model.specs.Settings.{Setting}
use Rattle.bridge_model.specs.Sides.{RootState, idle, waits_call, waits_query, answer, answered, Tables, state_of, states_with, with_root}
use Rattle.bridge_tables.specs.EndTables.{lasts}
use Rattle.bridge_tables.specs.Roots.{state_refs}
use Rattle.bridge_tables.proofs.LastingLemmas.{all_lost_gained, lasts_loses_all, with_holdings}
use Rattle.bridge_frames.specs.Answered.{gets_all, takes_back_root}
use Rattle.bridge_frames.proofs.GoingLemmas.{root_twice}

-- ---- what is taken is gained, but for what is said

-- without what was said
abbrev pub still : Tables → Tables
still t = record t { stubs = []; unsaid = [] }

still_held : (b : Bool) (g : Setting) (h : Holder) (oid face : List ℕ) (t : Tables)
    → still (gains h (peer oid face) (if b then releases g oid face t else t)) ≡ gains h (peer oid face) (still t)
unfolding says
still_held true g h oid face t = refl
still_held false g h oid face t = refl

still_takes : (g : Setting) (h : Holder) (r : Ref) (t : Tables) → still (takes g h r t) ≡ gains h r (still t)
still_takes g h null t = refl
still_takes g h (own oid face) t = refl
still_takes g h (peer oid face) t = still_held (is_held oid face t) g h oid face t

still_gains : (h : Holder) (r : Ref) (t : Tables) → gains h r (still t) ≡ still (gains h r t)
still_gains h null t = refl
still_gains h (own oid face) t = refl
still_gains h (peer oid face) t = refl

takes_still : (g : Setting) (h : Holder) (rs : List Ref) (t : Tables) → still (takes_all g h rs t) ≡ gains_all h rs (still t)
unfolding takes_all gains_all
takes_still g h [] t = refl
takes_still g h (r ∷ rs) t = takes_still g h rs (takes g h r t) ∙ ap (gains_all h rs) (still_takes g h r t)

gains_still : (h : Holder) (rs : List Ref) (t : Tables) → gains_all h rs (still t) ≡ still (gains_all h rs t)
unfolding gains_all
gains_still h [] t = refl
gains_still h (r ∷ rs) t = ap (gains_all h rs) (still_gains h r t) ∙ gains_still h rs (gains h r t)

all_taken : (g : Setting) (h : Holder) (rs : List Ref) (t : Tables) → lasts (takes_all g h rs t) ≡ lasts (gains_all h rs t)
all_taken g h rs t = ap lasts (takes_still g h rs t ∙ gains_still h rs t)

pub below_taken : (g : Setting) (fs : List Frame) (a : Answer) (t : Tables) → lasts (takes_below g fs a t) ≡ lasts (gains_below fs a t)
below_taken g [] a t = refl
below_taken g (base root ∷ fs) a t = all_taken g (holder.Root root) (refs_of_answer a) t
below_taken g (body b ∷ fs) a t = all_taken g (holder.Frame b.number) (refs_of_answer a) t
below_taken g (outgoing o ∷ fs) a t = refl

-- ---- what is let go is lost, but for what is said

given_back : (b : Bool) (g : Setting) (oid face : List ℕ) (t : Tables) → lasts (if b then t else releases g oid face t) ≡ lasts t
unfolding says
given_back true g oid face t = refl
given_back false g oid face t = refl

no_test : (n : ℕ) → nat_lt 0 n ≡ false → n ≡ 0
no_test n none = grind (arith, nat_tests)

not_held : (k : Hold) (t : Tables) → holds k t.holdings ≡ false → t ≡ with_holdings (let_go k t.holdings) t
not_held k t none = ap (λ hs. with_holdings hs t) (sym (one_less_none hold_order k t.holdings (no_test (how_often hold_cmp k t.holdings) none)))

own_lost : (b : Bool) (h : Holder) (oid face : List ℕ) (t : Tables) → holds (hold h (pair oid face)) t.holdings ≡ b
    → lasts (if b then loses h (own oid face) t else t) ≡ lasts (loses h (own oid face) t)
own_lost true h oid face t there = refl
own_lost false h oid face t none = ap lasts (not_held (hold h (pair oid face)) t none)

peer_lost : (b : Bool) (g : Setting) (h : Holder) (oid face : List ℕ) (t : Tables) → holds (hold h (pair oid face)) t.holdings ≡ b
    → lasts (if b then gives_back g (peer oid face) (loses h (peer oid face) t) else t) ≡ lasts (loses h (peer oid face) t)
peer_lost true g h oid face t there = given_back (stays g oid face (loses h (peer oid face) t)) g oid face (loses h (peer oid face) t)
peer_lost false g h oid face t none = ap lasts (not_held (hold h (pair oid face)) t none)

one_lost : (g : Setting) (h : Holder) (r : Ref) (t : Tables) → lasts (lets_go g h r t) ≡ lasts (loses h r t)
one_lost g h null t = refl
one_lost g h (own oid face) t = own_lost (holds (hold h (pair oid face)) t.holdings) h oid face t refl
one_lost g h (peer oid face) t = peer_lost (holds (hold h (pair oid face)) t.holdings) g h oid face t refl

all_lost : (g : Setting) (h : Holder) (rs : List Ref) (t : Tables) → lasts (lets_go_all g h rs t) ≡ lasts (loses_all h rs t)
unfolding lets_go_all loses_all
all_lost g h [] t = refl
all_lost g h (r ∷ rs) t =
    all_lost g h rs (lets_go g h r t) ∙ lasts_loses_all h rs (lets_go g h r t) ∙ ap (loses_all h rs) (one_lost g h r t) ∙ sym (lasts_loses_all h rs (loses h r t))

-- ---- roots

same_place : (n : ℕ) (xs : List RootState) → slice_set xs n (unwrap_or (slice_get xs n) idle) ≡ xs
same_place n [] = refl
same_place zero (x ∷ xs) = refl
same_place (suc n) (x ∷ xs) = ap (λ ys. x ∷ ys) (same_place n xs)

same_states : (root : ℕ) (xs : List RootState) → states_with root (state_of root xs) xs ≡ xs
unfolding state_of states_with
same_states zero xs = refl
same_states (suc n) xs = same_place n xs

place_set : (n : ℕ) (o : RootState) (a : Answer) (xs : List RootState) → gets_all (unwrap_or (slice_get xs n) idle) a ≡ true → unwrap_or (slice_get (slice_set xs n o) n) idle ≡ o
unfolding gets_all
place_set n o a [] gets = absurd (cc)
place_set zero o a (x ∷ xs) gets = refl
place_set (suc n) o a (x ∷ xs) gets = place_set n o a xs gets

-- a root that waits is there
root_set : (root : ℕ) (o : RootState) (a : Answer) (xs : List RootState) → gets_all (state_of root xs) a ≡ true → state_of root (states_with root o xs) ≡ o
unfolding state_of states_with gets_all
root_set zero o a xs gets = absurd (cc)
root_set (suc n) o a xs gets = place_set n o a xs gets

module _ (h : Holder) where
  gains_root : (root : ℕ) (s : RootState) (r : Ref) (t : Tables) → gains h r (with_root root s t) ≡ with_root root s (gains h r t)
  gains_root root s null t = refl
  gains_root root s (own oid face) t = refl
  gains_root root s (peer oid face) t = refl

  all_gains_root : (root : ℕ) (s : RootState) (rs : List Ref) (t : Tables) → gains_all h rs (with_root root s t) ≡ with_root root s (gains_all h rs t)
  unfolding gains_all
  all_gains_root root s [] t = refl
  all_gains_root root s (r ∷ rs) t = ap (gains_all h rs) (gains_root root s r t) ∙ all_gains_root root s rs (gains h r t)

  one_stays : (r : Ref) (t : Tables) → (gains h r t).roots ≡ t.roots
  one_stays null t = refl
  one_stays (own oid face) t = refl
  one_stays (peer oid face) t = refl

  pub roots_stay : (rs : List Ref) (t : Tables) → (gains_all h rs t).roots ≡ t.roots
  unfolding gains_all
  roots_stay [] t = refl
  roots_stay (r ∷ rs) t = roots_stay rs (gains h r t) ∙ one_stays r t

pub below_roots : (fs : List Frame) (a : Answer) (t : Tables) → (gains_below fs a t).roots ≡ t.roots
below_roots [] a t = refl
below_roots (base root ∷ fs) a t = roots_stay (holder.Root root) (refs_of_answer a) t
below_roots (body b ∷ fs) a t = roots_stay (holder.Frame b.number) (refs_of_answer a) t
below_roots (outgoing o ∷ fs) a t = refl

-- ---- a root that was answered is taken back

same_back : (root : ℕ) (s : RootState) (t u : Tables) → lasts t ≡ lasts u → lasts (takes_back_root root s t) ≡ lasts (takes_back_root root s u)
same_back root s t u same =
    lasts_loses_all (holder.Root root) (state_refs (state_of root t.roots)) (with_root root s t) ∙ ap (takes_back_root root s) same
    ∙ sym (lasts_loses_all (holder.Root root) (state_refs (state_of root u.roots)) (with_root root s u))

module _ (root : ℕ) (o : RootState) (a : Answer) (t : Tables) (gets : gets_all (state_of root t.roots) a ≡ true) where
  -- a root with an outcome, which holds what is in it
  got : Tables
  got = gains_all (holder.Root root) (state_refs o) (with_root root o t)

  state_got : state_of root got.roots ≡ o
  unfolding got
  state_got = ap (state_of root) (roots_stay (holder.Root root) (state_refs o) (with_root root o t)) ∙ root_set root o a t.roots gets

  got_back : takes_back_root root (state_of root t.roots) got ≡ t
  unfolding got
  got_back =
      let s : RootState = state_of root t.roots in
      let h : Holder = holder.Root root in
      ap (λ x. loses_all h (state_refs x) (with_root root s got)) state_got
      ∙ ap (loses_all h (state_refs o)) (sym (all_gains_root h root s (state_refs o) (with_root root o t)))
      ∙ ap (λ x. loses_all h (state_refs o) (gains_all h (state_refs o) x)) (root_twice root o s t ∙ ap (λ xs. record t { roots = xs }) (same_states root t.roots))
      ∙ all_lost_gained h (state_refs o) t

  back_by : (u : Tables) → lasts u ≡ lasts got → lasts (takes_back_root root (state_of root t.roots) u) ≡ lasts t
  back_by u same = same_back root (state_of root t.roots) u got same ∙ ap lasts got_back

-- a result or an exception as it is
plainly_got : (root : ℕ) (o : RootState) (rs : List Ref) (t u : Tables) → lasts u ≡ lasts (gains_all (holder.Root root) rs t)
    → lasts (with_root root o u) ≡ lasts (gains_all (holder.Root root) rs (with_root root o t))
plainly_got root o rs t u same = ap (with_root root o) same ∙ sym (ap lasts (all_gains_root (holder.Root root) root o rs t))

-- a reference that a query got, or did not
query_got : (b : Bool) (g : Setting) (root : ℕ) (o : RootState) (rs : List Ref) (t u : Tables) → lasts u ≡ lasts (gains_all (holder.Root root) rs t)
    → lasts (lets_go_all g (holder.Root root) (if b then [] else rs) (with_root root o u)) ≡ lasts (gains_all (holder.Root root) (if b then rs else []) (with_root root o t))
unfolding lets_go_all gains_all
query_got true g root o rs t u same = plainly_got root o rs t u same
query_got false g root o rs t u same =
    let h : Holder = holder.Root root in
    all_lost g h rs (with_root root o u)
    ∙ lasts_loses_all h rs (with_root root o u)
    ∙ ap (loses_all h rs) (plainly_got root o rs t u same)
    ∙ sym (lasts_loses_all h rs (gains_all h rs (with_root root o t)))
    ∙ ap lasts (all_lost_gained h rs (with_root root o t))

by_test : (b : Bool) (r : Ref) → object_in (if b then r else null) ≡ (if b then object_in r else [])
by_test true r = refl
by_test false r = refl

reference_refs : (reg : List Entity) (wanted : List ℕ) (x : Plain) → object_in (reference_of reg wanted x) ≡ (if is_taken reg wanted x then refs x else [])
unfolding refs
reference_refs reg wanted (v.any (kd.interface face) (v.ref r)) = by_test (is_base_of reg wanted face) r
reference_refs reg wanted x = refl

returned_refs : (x : Plain) → refs_of_answer (returned x []) ≡ refs x
unfolding refs_of_answer refs_of_values
returned_refs x = append-nil (refs x)

object_refs : (r : Ref) → refs_of_answer (returned (v.ref r) []) ≡ object_in r
unfolding refs_of_answer refs_of_values refs
object_refs r = append-nil (object_in r)

abbrev pub outcome_for : Setting → RootState → Answer → RootState
outcome_for g (waits_query wanted) (returned x outs) = answered (answer (returned (v.ref (reference_of g.registry wanted x)) []))
outcome_for g s a = answered (answer a)

-- what lasts of a root that is answered is that it holds what its outcome does
root_got : (g : Setting) (root : ℕ) (s : RootState) (a : Answer) (t u : Tables) → gets_all s a ≡ true → lasts u ≡ lasts (gains_all (holder.Root root) (refs_of_answer a) t)
    → lasts (root_gets g root s a u) ≡ lasts (gains_all (holder.Root root) (state_refs (outcome_for g s a)) (with_root root (outcome_for g s a) t))
unfolding gets_all root_gets
root_got g root (waits_query wanted) (returned x []) t u gets same =
    let o : RootState = outcome_for g (waits_query wanted) (returned x []) in
    query_got (is_taken g.registry wanted x) g root o (refs x) t u (same ∙ ap (λ rs. lasts (gains_all (holder.Root root) rs t)) (returned_refs x))
    ∙ ap (λ rs. lasts (gains_all (holder.Root root) rs (with_root root o t))) (sym (object_refs (reference_of g.registry wanted x) ∙ reference_refs g.registry wanted x))
root_got g root (waits_query wanted) (returned x (out ∷ outs)) t u gets same = absurd (cc)
root_got g root (waits_query wanted) (raised k x) t u gets same = plainly_got root (answered (answer (raised k x))) (refs_of_answer (raised k x)) t u same
root_got g root waits_call a t u gets same = plainly_got root (answered (answer a)) (refs_of_answer a) t u same
root_got g root idle a t u gets same = absurd (cc)
root_got g root (answered o) a t u gets same = absurd (cc)

pub root_back : (g : Setting) (root : ℕ) (a : Answer) (t u : Tables) → gets_all (state_of root t.roots) a ≡ true → lasts u ≡ lasts (gains_all (holder.Root root) (refs_of_answer a) t)
    → lasts (takes_back_root root (state_of root t.roots) (root_gets g root (state_of root u.roots) a u)) ≡ lasts t
unfolding got
root_back g root a t u gets same =
    let s : RootState = state_of root t.roots in
    let roots : u.roots ≡ t.roots = ap (λ x. x.roots) same ∙ roots_stay (holder.Root root) (refs_of_answer a) t in
    ap (λ xs. lasts (takes_back_root root s (root_gets g root (state_of root xs) a u))) roots
    ∙ back_by root (outcome_for g s a) a t gets (root_gets g root s a u) (root_got g root s a t u gets same)
