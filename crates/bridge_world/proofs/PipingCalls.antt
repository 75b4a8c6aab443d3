-- Bytes that go between an end and the pipes of two that are joined: what is seen of it.
use Rattle.std.proofs.Common.{◌≡◌, ◌≢◌, sym, ap, ◌∙◌, subst, ℕ, List, ◌++◌, take, drop, Result, Ok, Err, IfOk, OnErr}
use Rattle.bridge_core.specs.declared.side.Side.{Side}
use Rattle.bridge_core.specs.declared.side.Side.TheVariants as code
use Rattle.bridge_endpoint.specs.Entering.{draining, fed_by, out_of_memory}
use Rattle.bridge_endpoint.specs.Journals.{Endpoint, setting_at, side_at, stamped, told_at}
use Rattle.bridge_endpoint.specs.declared.answers.Fed.{Fed}
use Rattle.bridge_endpoint.specs.declared.answers.Fed.TheVariants as feeding
use Rattle.bridge_model.specs.Answers.{broken, feed_answer, next_cut}
use Rattle.bridge_core.specs.Standing.{IsHistory}
use Rattle.world_laws.specs.Linking.{AreTwoEnds}
use Rattle.urp_model.specs.declared.reason.Reason.{Reason}
use Rattle.bridge_world.specs.Joined.{Joined, end_at, joined, on_the_way, settings_of, taken_with}
use Rattle.bridge_world.specs.Worlds.{IsWorld}
use Rattle.bridge_world.proofs.CallLaws.{goes_draining, goes_lost}
use Rattle.bridge_world.proofs.EndCalls.{Calls, did, is_seen, went}
use Rattle.bridge_world.proofs.FeedingLaws.{AnswersSo, IsWhole, goes_piece, stays_whole, whole_a, whole_b}
use Rattle.bridge_world.proofs.Going.{Goes}
use Rattle.bridge_world.proofs.Known.{way_to_a, way_to_b}
use Rattle.bridge_world.proofs.Opening.{two_ends}
use Rattle.bridge_world.proofs.Unmarked.{unmark_fed}

-- two ends of which each knows its journal
pub both_known : (a b : Endpoint) (to_a to_b : List ℕ) → IsWorld a b to_a to_b → IsHistory a → IsHistory b → AreTwoEnds (settings_of (joined a b)) (joined a b).events (told_at a) (told_at b) to_a to_b
both_known a b to_a to_b is one other = two_ends a b to_a to_b is one.leads one.gives other.leads other.gives

-- ---- in

module _ (m : Endpoint) (to from piece : List ℕ) (n : ℕ) (front : piece ≡ take n to) (r : Fed) (answer : AnswersSo (setting_at m) (side_at m) piece r) (whole : IsWhole (setting_at m) (side_at m) to) where
  pub goes_in : (e : Endpoint) → e ≡ fed_by r (next_cut (side_at m) piece) m → Goes m to from e (drop (taken_with r) to) from
  goes_in e is = went m to from e (fed_by r (next_cut (side_at m) piece) m) (drop (taken_with r) to) from is (goes_piece m to from piece n front r answer whole)

  pub never_breaks : (why : Reason) (place : ℕ) → r ≢ feeding.Broken why place
  never_breaks why place is =
      stays_whole (setting_at m) (side_at m) piece r answer (λ why place broke. whole n why place (subst (λ (p : List ℕ). feed_answer (setting_at m) (side_at m) p ≡ broken why place) front broke)) why place is

pub fed_seen : (s : Side) (j k : Joined) (m e : Endpoint) → Calls s j k m e → (r : Fed) (piece : List ℕ) → e ≡ fed_by r (next_cut (side_at m) piece) m
    → end_at k s ≡ fed_by r (next_cut (side_at (end_at j s)) piece) (end_at j s)
fed_seen s j k m e calls r piece is =
    is_seen m (end_at j s) calls.before (λ g z. end_at k s ≡ fed_by r (next_cut z piece) (end_at j s))
    (did s j k m e calls (fed_by r (next_cut (side_at m) piece)) (unmark_fed r (next_cut (side_at m) piece)) is)

module _ (a b : Endpoint) (to_a to_b : List ℕ) (is : IsWorld a b to_a to_b) (j : Joined) (seen : joined a b ≡ j) where
  pub on_way_a : (s : Side) → s ≡ code.A → on_the_way j s ≡ to_a
  on_way_a s at = ap (on_the_way j) at ∙ (ap (λ w. on_the_way w code.A) (sym seen) ∙ way_to_a a b to_a to_b is)

  pub on_way_b : (s : Side) → s ≡ code.B → on_the_way j s ≡ to_b
  on_way_b s at = ap (on_the_way j) at ∙ (ap (λ w. on_the_way w code.B) (sym seen) ∙ way_to_b a b to_a to_b is)

  -- no front of what is on its way breaks the marked endpoint
  pub whole_at_a : IsHistory a → IsHistory b → (n : ℕ) (m : Endpoint) → m ≡ stamped n a → IsWhole (setting_at m) (side_at m) to_a
  whole_at_a one other n m marked =
      subst (λ (x : Endpoint). IsWhole (setting_at x) (side_at x) to_a) (sym marked) (whole_a a b to_a to_b is (both_known a b to_a to_b is one other) n)

  pub whole_at_b : IsHistory a → IsHistory b → (n : ℕ) (m : Endpoint) → m ≡ stamped n b → IsWhole (setting_at m) (side_at m) to_b
  whole_at_b one other n m marked =
      subst (λ (x : Endpoint). IsWhole (setting_at x) (side_at x) to_b) (sym marked) (whole_b a b to_a to_b is (both_known a b to_a to_b is one other) n)

  -- what was taken is on its way no more
  pub left_a : (s : Side) → s ≡ code.A → (e : Endpoint) (n : ℕ) (from : List ℕ) → IsWorld e b (drop n to_a) from → on_the_way (joined e b) s ≡ drop n (on_the_way j s)
  left_a s at e n from after = ap (on_the_way (joined e b)) at ∙ (way_to_a e b (drop n to_a) from after ∙ ap (drop n) (sym (on_way_a s at)))

  pub left_b : (s : Side) → s ≡ code.B → (e : Endpoint) (n : ℕ) (from : List ℕ) → IsWorld a e from (drop n to_b) → on_the_way (joined a e) s ≡ drop n (on_the_way j s)
  left_b s at e n from after = ap (on_the_way (joined a e)) at ∙ (way_to_b a e from (drop n to_b) after ∙ ap (drop n) (sym (on_way_b s at)))

-- ---- out

pub goes_out : {X Y : Type 0} (items : X → List ℕ) (m : Endpoint) (to from : List ℕ) (r : Result X Y) (e : Endpoint) (out : List ℕ) → IfOk r (λ x. e ≡ draining (items x) m) → IfOk r (λ x. out ≡ from ++ items x) → OnErr r (e ≡ out_of_memory m)
    → OnErr r (out ≡ from) → Goes m to from e to out
goes_out items m to from (Ok x) e out drains put lost kept =
    subst (λ (ys : List ℕ). Goes m to from e to ys) (sym put) (went m to from e (draining (items x) m) to (from ++ items x) drains (goes_draining m to from (items x)))
goes_out items m to from (Err y) e out drains put lost kept =
    subst (λ (ys : List ℕ). Goes m to from e to ys) (sym kept) (went m to from e (out_of_memory m) to from lost (goes_lost m to from))
