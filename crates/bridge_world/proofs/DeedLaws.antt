-- What was done at an end is the deed that is listed, as the definition of a pair has it.
use Rattle.std.proofs.Common.{◌≡◌, ◌≢◌, refl, sym, ap, ◌∙◌, subst, ℕ, zero, suc, ◌-◌, ◌<◌, ◌≤◌, Bool, true, false, not, ◌&&◌, ◌||◌, nat_lt, List, [], ◌∷◌, ◌++◌, take, slice_get, Option, None, Some, arith, if◌then◌else◌}
use Rattle.std.proofs.lemmas.Bool.{and_parts, not-true, ltb-true}
use Rattle.bridge_core.specs.declared.side.Side.{Side}
use Rattle.bridge_endpoint.specs.Answering.{fed_told}
use Rattle.bridge_endpoint.specs.Entering.{draining, fed_by, how_ended, taking}
use Rattle.bridge_endpoint.specs.Journals.{Endpoint, setting_at, side_at, with_entry}
use Rattle.bridge_endpoint.specs.declared.answers.Fed.{Fed}
use Rattle.bridge_endpoint.specs.declared.answers.Fed.TheVariants as feeding
use Rattle.bridge_model.specs.Answers.{FeedAnswer, after_feeding, at_end, at_limit, bytes_wait, cut, drained_next, feed_answer, feed_is_full, feed_standing, gone, is_some_piece, may_reap, next_cut, no_room, ready_at, taken}
use Rattle.bridge_model.specs.Entries.{applied, drained, ended, fed, full, reaped}
use Rattle.bridge_model.specs.Feeding.{ends_part}
use Rattle.bridge_model.specs.Going.{waiting_bytes}
use Rattle.bridge_model.specs.Histories.{Told}
use Rattle.bridge_model.specs.Orders.{most_drained, or_full}
use Rattle.bridge_model.specs.RootRuns.{root_moves}
use Rattle.bridge_model.specs.Settings.{Setting}
use Rattle.bridge_model.specs.Sides as end
use Rattle.bridge_model.specs.Steps.{does, fed_count, has_entries, is_no_memory, most_fed}
use Rattle.bridge_model.specs.declared.cause.Cause.{Cause}
use Rattle.bridge_model.specs.declared.cause.Cause.TheVariants as cause
use Rattle.bridge_model.specs.declared.input_end.InputEnd.TheVariants as how
use Rattle.move_choice.specs.declared.choices.Deed.TheVariants as named
use Rattle.world_model.specs.Moves.{Deed, steps, carried, done, step_done, steps_at, stepping}
use Rattle.plan_model.specs.Roots.{Run}
use Rattle.urp_model.specs.declared.reason.Reason.{Reason}
use Rattle.world_model.specs.Worlds.{pipe}
use Rattle.bridge_world.specs.Doing.{HasStepped, IsDeedIn, IsDone, IsKnown, deeds_in, other_of, setting_in, told_in}
use Rattle.bridge_world.specs.Joined.{Grows, Joined, end_at, on_the_way}
use Rattle.bridge_world.proofs.OfferLaws.{carries_may, closes_may, drains_may}
use Rattle.bridge_world.proofs.Seeing.{side_of_told}

-- ---- bytes that go out

some_first : (n : ℕ) (xs : List ℕ) → 1 ≤ n → is_some_piece xs ≡ true → is_some_piece (take n xs) ≡ true
some_first zero xs least is = let bad : ⊥ = omega arith in absurd bad
some_first (suc n) [] least is = absurd (cc)
some_first (suc n) (x ∷ xs) least is = refl

some_if : (g : Setting) (s : end.Side) (n : ℕ) (b : Bool) → 1 ≤ n → b ≡ false → is_some_piece (waiting_bytes g s) ≡ true → is_some_piece (if b then [] else take n (waiting_bytes g s)) ≡ true
some_if g s n true least memory waits = absurd (cc)
some_if g s n false least memory waits = some_first n (waiting_bytes g s) least waits

-- where bytes wait, some are drained
pub some_drained : (g : Setting) (s : end.Side) (n : ℕ) → 1 ≤ n → bytes_wait g s ≡ true → is_some_piece (drained_next g n s) ≡ true
unfolding drained_next
some_drained g s n least waits =
    let parts = and_parts (not (is_no_memory s.cause)) (is_some_piece (waiting_bytes g s)) waits in
    some_if g s n (is_no_memory s.cause) least (not-true (is_no_memory s.cause) parts.0) parts.1

pub drains_some : (e : Endpoint) (bytes : List ℕ) → is_some_piece bytes ≡ true → draining bytes e ≡ with_entry (drained bytes) e
drains_some e [] is = absurd (cc)
drains_some e (b ∷ bytes) is = refl

-- ---- bytes that come in

cut_if : (b : Bool) (x : ℕ) (more : List ℕ) → is_some_piece (if b then x ∷ [] else x ∷ more) ≡ true
cut_if true x more = refl
cut_if false x more = refl

cut_some : (held piece : List ℕ) → is_some_piece piece ≡ true → is_some_piece (cut held piece) ≡ true
unfolding cut
cut_some held [] is = absurd (cc)
cut_some held (b ∷ bytes) is = cut_if (ends_part (held ++ b ∷ [])) b (cut (held ++ b ∷ []) bytes)

takes_some : (e : Endpoint) (bytes : List ℕ) → is_some_piece bytes ≡ true → taking bytes e ≡ with_entry (fed bytes) e
takes_some e [] is = absurd (cc)
takes_some e (b ∷ bytes) is = refl

module _ (g : Setting) (s : end.Side) (piece : List ℕ) (up : end.stands s ≡ true) (some : is_some_piece piece ≡ true) where
  -- an end that stands
  stood : (c : Option Cause) (a : FeedAnswer) → end.stands_by c ≡ true → at_end c a ≡ a
  stood None a is = refl
  stood (Some c) a is = absurd (cc)

  abbrev standing : Bool → FeedAnswer
  standing b = if b then at_limit else feed_standing g s piece

  answer_is : feed_answer g s piece ≡ standing (feed_is_full s piece)
  unfolding feed_answer
  answer_is = stood s.cause (standing (feed_is_full s piece)) up

  -- what is answered below the limit
  not_limit : (c : Option Cause) (b : List ℕ) → at_limit ≡ after_feeding b c → ⊥
  not_limit None b is = cc
  not_limit (Some cause.Disposed) b is = cc
  not_limit (Some cause.Ended) b is = cc
  not_limit (Some cause.Failed) b is = cc
  not_limit (Some (cause.Broken why place)) b is = cc
  not_limit (Some cause.Full) b is = cc
  not_limit (Some cause.NoMemory) b is = cc

  not_gone : (c : Option Cause) (b : List ℕ) → gone ≡ after_feeding b c → ⊥
  not_gone None b is = cc
  not_gone (Some cause.Disposed) b is = cc
  not_gone (Some cause.Ended) b is = cc
  not_gone (Some cause.Failed) b is = cc
  not_gone (Some (cause.Broken why place)) b is = cc
  not_gone (Some cause.Full) b is = cc
  not_gone (Some cause.NoMemory) b is = cc

  below_limit : (p : List ℕ) → at_limit ≡ feed_standing g s p → ⊥
  below_limit [] is = cc
  below_limit (b ∷ bytes) is = not_limit (does g (fed (next_cut s (b ∷ bytes))) s).side.cause (next_cut s (b ∷ bytes)) is

  stays_there : (p : List ℕ) → gone ≡ feed_standing g s p → ⊥
  stays_there [] is = cc
  stays_there (b ∷ bytes) is = not_gone (does g (fed (next_cut s (b ∷ bytes))) s).side.cause (next_cut s (b ∷ bytes)) is

  taken_below : (b : Bool) (n : ℕ) → taken n ≡ standing b → b ≡ false
  taken_below true n is = absurd (cc)
  taken_below false n is = refl

  full_at : (b : Bool) → at_limit ≡ standing b → b ≡ true
  full_at true is = refl
  full_at false is = absurd (below_limit piece is)

  never_gone : (b : Bool) → gone ≡ standing b → ⊥
  never_gone true is = cc
  never_gone false is = stays_there piece is

  room : (a p f : Bool) → (a || (p && not f)) ≡ false → p ≡ true → f ≡ true
  room true p f is yes_some = absurd (cc)
  room false true true is yes_some = refl
  room false true false is yes_some = absurd (cc)
  room false false f is yes_some = absurd (cc)

  some_cut : feed_is_full s piece ≡ false → is_some_piece (next_cut s piece) ≡ true
  some_cut is =
      let less : fed_count s.incoming < most_fed = ltb-true (fed_count s.incoming) most_fed (room (has_entries s) (is_some_piece piece) (nat_lt (fed_count s.incoming) most_fed) is some) in
      let left : 1 ≤ most_fed - fed_count s.incoming = omega (arith, less) in
      cut_some s.incoming.held (take (most_fed - fed_count s.incoming) piece) (some_first (most_fed - fed_count s.incoming) piece left some)

  -- what is entered is what the definition has
  by_limit : (b : Bool) (e : Endpoint) → feed_is_full s piece ≡ b → with_entry (if b then full else fed (next_cut s piece)) e ≡ with_entry (carried s piece) e
  by_limit b e is = ap (λ (z : Bool). with_entry (if z then full else fed (next_cut s piece)) e) (sym is)

  pub fed_so : (r : Fed) (e f : Endpoint) → (fed_told r ≢ no_room → fed_told r ≡ feed_answer g s piece) → ((why : Reason) (place : ℕ) → r ≢ feeding.Broken why place) → fed_told r ≢ no_room
      → f ≡ fed_by r (next_cut s piece) e → f ≡ with_entry (carried s piece) e
  fed_so (feeding.Taken n) e f answer whole room entered =
      let few = taken_below (feed_is_full s piece) n (answer room ∙ answer_is) in
      entered ∙ (takes_some e (next_cut s piece) (some_cut few) ∙ by_limit false e few)
  fed_so (feeding.Broken why place) e f answer whole room entered = absurd (whole why place refl)
  fed_so feeding.Full e f answer whole room entered = entered ∙ by_limit true e (full_at (feed_is_full s piece) (answer room ∙ answer_is))
  fed_so feeding.Gone e f answer whole room entered = absurd (never_gone (feed_is_full s piece) (answer room ∙ answer_is))
  fed_so feeding.NoMemory e f answer whole room entered = absurd (room refl)

-- ---- deeds

module _ (j k : Joined) (known : IsKnown j) (s : Side) (cut_at : ℕ) (rs : List Run) (d : Deed) where
  abbrev here : Endpoint
  here = end_at j s

  side_is : (told_in j s).side ≡ side_at here
  side_is = ap (λ (t : Told). t.side) (known.told s) ∙ sym (side_of_told here)

  -- by its setting and its side
  moves_here : {X : Type 0} (f : Setting → end.Side → X) → f (setting_at here) (side_at here) ≡ f (setting_in j s) (told_in j s).side
  moves_here f = ap (λ (g : Setting). f g (side_at here)) (sym (known.setting s)) ∙ ap (f (setting_in j s)) (sym side_is)

  pub is_applied : (nth : ℕ) → IsDeedIn j s rs d (named.Applies nth)
      → ((tid : List ℕ) → ready_at (side_at here) nth ≡ Some tid → end_at k s ≡ with_entry (or_full (side_at here) (applied tid)) here)
      → Grows s j k → IsDone cut_at s d j k rs rs
  unfolding done
  is_applied nth is did grows =
      record {
        entry = Some (or_full (told_in j s).side (applied is.0));
        does = ap (done (setting_in j s) cut_at (told_in j s) (told_in j (other_of s)) rs) is.2;
        entered = did is.0 (moves_here (λ g x. ready_at x nth) ∙ is.1) ∙ moves_here (λ g x. with_entry (or_full x (applied is.0)) here);
        grows = grows;
      }

  same_deed : (c : Deed) → ◌≡◌ {A = Option Deed} (Some d) (Some c) → d ≡ c
  same_deed c is = cc

  pub is_stepped : (nth : ℕ) (ss : List Run) → IsDeedIn j s rs d (named.Steps nth)
      → ((c : Deed) → slice_get (stepping (setting_at here) (side_at here) 0 rs) nth ≡ Some c → HasStepped nth here (end_at k s) rs ss)
      → Grows s j k → IsDone cut_at s d j k rs ss
  unfolding done
  is_stepped nth ss is step grows =
      let listed = moves_here (λ g x. slice_get (stepping g x 0 rs) nth) ∙ is in
      let did = step d listed in
      let same = same_deed (steps did.place) (sym listed ∙ did.moves) in
      record {
        entry = did.entry;
        does =
            ap (done (setting_in j s) cut_at (told_in j s) (told_in j (other_of s)) rs) same
            ∙ (ap (steps_at (setting_in j s) (told_in j s).side did.place rs) did.there
            ∙ (ap (step_done did.place rs) (sym (moves_here (λ g x. root_moves g x did.run)) ∙ did.step)
            ∙ ap (λ (xs : List Run). Some (record { entry = did.entry; runs = xs })) (sym did.set)));
        entered = did.entered;
        grows = grows;
      }

  pub is_reaped : IsDeedIn j s rs d named.Reaps → ((n : ℕ) → may_reap (setting_at here) (side_at here) ≡ Some n → end_at k s ≡ with_entry (reaped n) here) → Grows s j k → IsDone cut_at s d j k rs rs
  unfolding done
  is_reaped is did grows =
      record {
        entry = Some (reaped is.0);
        does = ap (done (setting_in j s) cut_at (told_in j s) (told_in j (other_of s)) rs) is.2;
        entered = did is.0 (moves_here (λ g x. may_reap g x) ∙ is.1);
        grows = grows;
      }

  pub is_drained : (n : ℕ) → slice_get (deeds_in j s rs) n ≡ Some d → IsDeedIn j s rs d named.Drains → end_at k s ≡ draining (drained_next (setting_at here) most_drained (side_at here)) here → Grows s j k
      → IsDone cut_at s d j k rs rs
  unfolding done
  is_drained n at is did grows =
      let bytes = drained_next (setting_in j s) most_drained (told_in j s).side in
      let waits = drains_may (setting_in j s) (setting_in j (other_of s)) (told_in j s) (told_in j (other_of s)) rs n d at is in
      record {
        entry = Some (drained bytes);
        does = ap (done (setting_in j s) cut_at (told_in j s) (told_in j (other_of s)) rs) is;
        entered = did ∙ (moves_here (λ g x. draining (drained_next g most_drained x) here) ∙ drains_some here bytes (some_drained (setting_in j s) (told_in j s).side most_drained (omega arith) waits));
        grows = grows;
      }

  pub is_carried : (n : ℕ) → 1 ≤ cut_at → slice_get (deeds_in j s rs) n ≡ Some d → IsDeedIn j s rs d named.Carries
      → (end.stands (side_at here) ≡ true → is_some_piece (take cut_at (on_the_way j s)) ≡ true → end_at k s ≡ with_entry (carried (side_at here) (take cut_at (on_the_way j s))) here)
      → Grows s j k → IsDone cut_at s d j k rs rs
  unfolding done
  is_carried n least at is did grows =
      let way = pipe (told_in j (other_of s)) (told_in j s) in
      let may = and_parts (is_some_piece way) (end.stands (told_in j s).side) (carries_may (setting_in j s) (setting_in j (other_of s)) (told_in j s) (told_in j (other_of s)) rs n d at is) in
      let some = some_first cut_at (on_the_way j s) least (subst (λ (bytes : List ℕ). is_some_piece bytes ≡ true) (known.way s) may.0) in
      record {
        entry = Some (carried (told_in j s).side (take cut_at way));
        does = ap (done (setting_in j s) cut_at (told_in j s) (told_in j (other_of s)) rs) is;
        entered =
            did (moves_here (λ g x. end.stands x) ∙ may.1) some
            ∙ (moves_here (λ g x. with_entry (carried x (take cut_at (on_the_way j s))) here)
            ∙ ap (λ (bytes : List ℕ). with_entry (carried (told_in j s).side (take cut_at bytes)) here) (sym (known.way s)));
        grows = grows;
      }

  pub is_closed : (n : ℕ) → slice_get (deeds_in j s rs) n ≡ Some d → IsDeedIn j s rs d named.Closes → (end.stands (side_at here) ≡ true → end_at k s ≡ with_entry (how_ended how.Ended) here) → Grows s j k
      → IsDone cut_at s d j k rs rs
  unfolding done
  is_closed n at is did grows =
      let up = closes_may (setting_in j s) (setting_in j (other_of s)) (told_in j s) (told_in j (other_of s)) rs n d at is in
      record {
        entry = Some ended;
        does = ap (done (setting_in j s) cut_at (told_in j s) (told_in j (other_of s)) rs) is;
        entered = did (moves_here (λ g x. end.stands x) ∙ up);
        grows = grows;
      }
