-- What a piece that is fed is answered, and what it leads to.
use Rattle.std.proofs.Common.{◌≡◌, ◌≢◌, refl, sym, ap, subst, ◌∙◌, ℕ, zero, suc, ◌+◌, ◌-◌, ◌<◌, ◌≤◌, Bool, true, false, ◌||◌, nat_lt, List, [], ◌∷◌, ◌++◌, length, take, drop, Option, None, Some, if◌then◌else◌, arith}
use Rattle.std.proofs.lemmas.Bool.{true≢false, false≢true, ltb-true, not-false}
use Rattle.std.proofs.lemmas.List.{length-drop, length-take}
use Rattle.urp_model.specs.declared.reason.Reason.{Reason}
use Rattle.bridge_endpoint.specs.Answering.{fed_told}
use Rattle.bridge_endpoint.specs.Entering.{taking, fed_by}
use Rattle.bridge_endpoint.specs.Journals.{Endpoint, setting_at, side_at, told_at, with_entry}
use Rattle.bridge_endpoint.specs.declared.answers.Fed.{Fed}
use Rattle.bridge_endpoint.specs.declared.answers.Fed.TheVariants as fed_so
use Rattle.bridge_laws.proofs.Replays.{of_step}
use Rattle.bridge_model.specs.Answers.{cut, next_cut, FeedAnswer, taken, broken, at_limit, gone, no_room, after_feeding, feed_standing, feed_answer}
use Rattle.bridge_model.specs.Ends.{ends_by}
use Rattle.bridge_model.specs.Entries.{fed, full}
use Rattle.bridge_model.specs.Feeding.{ends_part}
use Rattle.bridge_model.specs.Histories.{Told, tells}
use Rattle.bridge_model.specs.Settings.{Setting}
use Rattle.bridge_model.specs.Sides.{Side, stands, stands_by}
use Rattle.bridge_model.specs.Steps.{most_fed, fed_count, has_entries, has_fed, does}
use Rattle.bridge_model.specs.declared.cause.Cause.{Cause}
use Rattle.bridge_model.specs.declared.cause.Cause.TheVariants as why
use Rattle.answering.specs.Ends.{IsFed}
use Rattle.answering.proofs.ClosingLaws.{turn_of}
use Rattle.answering.proofs.EndLaws.{IsLed, told_side, is_told, same_setting}
use Rattle.answering.proofs.TurnLaws.{cut_feeds, full_feeds}

-- ---- answers

-- below both limits
record HasRoom (s : Side) : Type 0 where
  pub few : has_entries s ≡ false
  pub less : has_fed s ≡ false

standing_answer : (g : Setting) (s : Side) (b : ℕ) (piece : List ℕ) → stands s ≡ true
    → feed_answer g s (b ∷ piece) ≡ (if has_entries s || has_fed s then at_limit else feed_standing g s (b ∷ piece))
unfolding feed_answer
standing_answer g s b piece up = of_cause s.cause refl
  where
    of_cause : (c : Option Cause) → s.cause ≡ c → feed_answer g s (b ∷ piece) ≡ (if has_entries s || has_fed s then at_limit else feed_standing g s (b ∷ piece))
    of_cause None is = rw is refl
    of_cause (Some c) is = absurd (false≢true (sym (ap stands_by is) ∙ up))

has_room : (s : Side) → (has_entries s || has_fed s) ≡ false → HasRoom s
has_room s is = by_entries (has_entries s) (has_fed s) refl refl is
  where
    by_entries : (a b : Bool) → has_entries s ≡ a → has_fed s ≡ b → (a || b) ≡ false → HasRoom s
    by_entries true b few less none = absurd (true≢false none)
    by_entries false b few less none = record { few = few; less = less ∙ none }

-- so many bytes were taken: those up to where the piece may be cut
record IsTaken (g : Setting) (s : Side) (piece : List ℕ) (n : ℕ) : Type 0 where
  pub room : HasRoom s
  pub count : n ≡ length (next_cut s piece)

-- the peer broke the protocol
record IsBroken (g : Setting) (s : Side) (piece : List ℕ) : Type 0 where
  pub room : HasRoom s
  pub ended : stands_by (does g (fed (next_cut s piece)) s).side.cause ≡ false

taken_of : (piece : List ℕ) (c : Option Cause) (n : ℕ) → taken n ≡ after_feeding piece c → n ≡ length piece
taken_of piece None n is = cc
taken_of piece (Some why.Disposed) n is = cc
taken_of piece (Some why.Ended) n is = cc
taken_of piece (Some why.Failed) n is = cc
taken_of piece (Some (why.Broken reason place)) n is = absurd (cc)
taken_of piece (Some why.Full) n is = cc
taken_of piece (Some why.NoMemory) n is = cc

broken_of : (piece : List ℕ) (c : Option Cause) (reason : Reason) (place : ℕ) → broken reason place ≡ after_feeding piece c → stands_by c ≡ false
broken_of piece None reason place is = absurd (cc)
broken_of piece (Some c) reason place is = refl

limit_of : {X : Type 0} (piece : List ℕ) (c : Option Cause) → at_limit ≡ after_feeding piece c → X
limit_of piece None is = absurd (cc)
limit_of piece (Some why.Disposed) is = absurd (cc)
limit_of piece (Some why.Ended) is = absurd (cc)
limit_of piece (Some why.Failed) is = absurd (cc)
limit_of piece (Some (why.Broken reason place)) is = absurd (cc)
limit_of piece (Some why.Full) is = absurd (cc)
limit_of piece (Some why.NoMemory) is = absurd (cc)

gone_of : {X : Type 0} (piece : List ℕ) (c : Option Cause) → gone ≡ after_feeding piece c → X
gone_of piece None is = absurd (cc)
gone_of piece (Some why.Disposed) is = absurd (cc)
gone_of piece (Some why.Ended) is = absurd (cc)
gone_of piece (Some why.Failed) is = absurd (cc)
gone_of piece (Some (why.Broken reason place)) is = absurd (cc)
gone_of piece (Some why.Full) is = absurd (cc)
gone_of piece (Some why.NoMemory) is = absurd (cc)

-- a limit, or not
by_limit : {X : Type 0} (b : Bool) (a x : FeedAnswer) → a ≡ (if b then at_limit else x) → (b ≡ true → a ≡ at_limit → X) → (b ≡ false → a ≡ x → X) → X
by_limit true a x is limit below = limit refl is
by_limit false a x is limit below = below refl is

clash_taken : {X : Type 0} (n : ℕ) → taken n ≡ at_limit → X
clash_taken n is = absurd (cc)

clash_broken : {X : Type 0} (reason : Reason) (place : ℕ) → broken reason place ≡ at_limit → X
clash_broken reason place is = absurd (cc)

clash_gone : {X : Type 0} → gone ≡ at_limit → X
clash_gone is = absurd (cc)

module _ (g : Setting) (s : Side) (b : ℕ) (piece : List ℕ) (up : stands s ≡ true) where
  is_taken : (n : ℕ) → taken n ≡ feed_answer g s (b ∷ piece) → IsTaken g s (b ∷ piece) n
  is_taken n is =
      by_limit (has_entries s || has_fed s) (taken n) (feed_standing g s (b ∷ piece)) (is ∙ standing_answer g s b piece up) (λ limit at. clash_taken n at)
      (λ below at. record { room = has_room s below; count = taken_of (next_cut s (b ∷ piece)) (does g (fed (next_cut s (b ∷ piece))) s).side.cause n at })

  is_broken : (reason : Reason) (place : ℕ) → broken reason place ≡ feed_answer g s (b ∷ piece) → IsBroken g s (b ∷ piece)
  is_broken reason place is =
      by_limit (has_entries s || has_fed s) (broken reason place) (feed_standing g s (b ∷ piece)) (is ∙ standing_answer g s b piece up)
      (λ limit at. clash_broken reason place at)
      (λ below at. record { room = has_room s below; ended = broken_of (next_cut s (b ∷ piece)) (does g (fed (next_cut s (b ∷ piece))) s).side.cause reason place at })

  is_full : at_limit ≡ feed_answer g s (b ∷ piece) → (has_entries s || has_fed s) ≡ true
  is_full is =
      by_limit (has_entries s || has_fed s) at_limit (feed_standing g s (b ∷ piece)) (is ∙ standing_answer g s b piece up) (λ limit at. limit)
      (λ below at. limit_of (next_cut s (b ∷ piece)) (does g (fed (next_cut s (b ∷ piece))) s).side.cause at)

  is_not_gone : {X : Type 0} → gone ≡ feed_answer g s (b ∷ piece) → X
  is_not_gone is =
      by_limit (has_entries s || has_fed s) gone (feed_standing g s (b ∷ piece)) (is ∙ standing_answer g s b piece up) (λ limit at. clash_gone at)
      (λ below at. gone_of (next_cut s (b ∷ piece)) (does g (fed (next_cut s (b ∷ piece))) s).side.cause at)

-- ---- a piece is cut behind a byte at least

cut_longer : (held : List ℕ) (b : ℕ) (bytes : List ℕ) → 0 < length (cut held (b ∷ bytes))
unfolding cut
cut_longer held b bytes = by_end (ends_part (held ++ b ∷ []))
  where
    by_end : (e : Bool) → 0 < length (if e then b ∷ [] else b ∷ cut (held ++ b ∷ []) bytes)
    by_end true = omega arith
    by_end false = omega arith

cut_taken : (held : List ℕ) (n : ℕ) (b : ℕ) (bytes : List ℕ) → 0 < n → 0 < length (cut held (take n (b ∷ bytes)))
cut_taken held zero b bytes some = absurd (omega arith)
cut_taken held (suc n) b bytes some = cut_longer held b (take n bytes)

cut_some : (s : Side) (b : ℕ) (piece : List ℕ) → has_fed s ≡ false → 0 < length (next_cut s (b ∷ piece))
cut_some s b piece less =
    let within = ltb-true (fed_count s.incoming) most_fed (not-false (nat_lt (fed_count s.incoming) most_fed) less) in
    cut_taken s.incoming.held (most_fed - fed_count s.incoming) b piece (omega (arith, within))

taking_some : (c : List ℕ) (e : Endpoint) → 0 < length c → taking c e ≡ with_entry (fed c) e
taking_some [] e some = absurd (omega arith)
taking_some (b ∷ c) e some = refl

drop_shorter : (n : ℕ) (b : ℕ) (piece : List ℕ) → 0 < n → length (drop n (b ∷ piece)) < length (b ∷ piece)
drop_shorter n b piece some = let long = length-drop n (b ∷ piece) in omega (arith, long, some)

-- ---- where the bridge ends with it

broken_ends : (g : Setting) (t u : Told) (c : List ℕ) → tells g t (fed c) ≡ Some u → stands_by (does g (fed c) t.side).side.cause ≡ false → stands u.side ≡ false
broken_ends g t u c told is =
    let has = turn_of g t u (fed c) told in
    ap (λ z. stands z.side) has.told ∙ of_step g t.side (fed c) has.turn (λ v. stands v.side ≡ false) (λ ok. is) has.is

full_ends : (g : Setting) (t u : Told) → tells g t full ≡ Some u → stands u.side ≡ false
unfolding does ends_by
full_ends g t u told =
    let has = turn_of g t u full told in
    ap (λ z. stands z.side) has.told ∙ of_step g t.side full has.turn (λ v. stands v.side ≡ false) (λ ok. refl) has.is

-- ---- what an endpoint is fed

unlike : {X : Type 0} (b : Bool) → b ≡ false → b ≡ true → X
unlike true is is_not = absurd (true≢false is)
unlike false is is_not = absurd (false≢true is_not)

-- what is left of a piece that is fed; where the bridge ended nothing is asked of it
abbrev pub left_of : Fed → List ℕ → List ℕ
left_of (fed_so.Taken n) piece = drop n piece
left_of r piece = []

module _ (e f : Endpoint) (b : ℕ) (piece : List ℕ) (up : stands (told_at e).side ≡ true) (before : IsLed e) (after : IsLed f) where
  -- the front up to where the piece is cut
  cut_fed : (rest : List ℕ) → HasRoom (told_at e).side → f ≡ with_entry (fed (next_cut (told_at e).side (b ∷ piece))) e
      → (stands (told_at f).side ≡ true → drop (length (next_cut (told_at e).side (b ∷ piece))) (b ∷ piece) ≡ rest) → length rest < length (b ∷ piece) → IsFed e f (b ∷ piece) rest
  cut_fed rest room is same shorter =
      record {
        setting = same_setting e f (Some (fed (next_cut (told_at e).side (b ∷ piece)))) is;
        left = drop (length (next_cut (told_at e).side (b ∷ piece))) (b ∷ piece);
        feeds =
            cut_feeds (setting_at e) (told_at e) (told_at f) b piece up room.few room.less
            (is_told e f (Some (fed (next_cut (told_at e).side (b ∷ piece)))) before after is);
        same = same;
        shorter = shorter;
      }

  is_entered : HasRoom (told_at e).side → f ≡ taking (next_cut (told_at e).side (b ∷ piece)) e → f ≡ with_entry (fed (next_cut (told_at e).side (b ∷ piece))) e
  is_entered room is = is ∙ taking_some (next_cut (told_at e).side (b ∷ piece)) e (cut_some (told_at e).side b piece room.less)

  taken_fed : (n : ℕ) → IsTaken (setting_at e) (told_at e).side (b ∷ piece) n → f ≡ taking (next_cut (told_at e).side (b ∷ piece)) e → IsFed e f (b ∷ piece) (drop n (b ∷ piece))
  taken_fed n so is =
      let some = cut_some (told_at e).side b piece so.room.less in
      let count = so.count in
      cut_fed (drop n (b ∷ piece)) so.room (is_entered so.room is) (λ up_yet. ap (λ k. drop k (b ∷ piece)) (sym so.count)) (drop_shorter n b piece (omega (arith, some, count)))

  broken_fed : IsBroken (setting_at e) (told_at e).side (b ∷ piece) → f ≡ taking (next_cut (told_at e).side (b ∷ piece)) e → IsFed e f (b ∷ piece) []
  broken_fed so is =
      let entered = is_entered so.room is in
      let told = is_told e f (Some (fed (next_cut (told_at e).side (b ∷ piece)))) before after entered in
      cut_fed [] so.room entered
      (λ up_yet. unlike (stands (told_at f).side) (broken_ends (setting_at e) (told_at e) (told_at f) (next_cut (told_at e).side (b ∷ piece)) told so.ended) up_yet)
      (omega arith)

  full_fed : (has_entries (told_at e).side || has_fed (told_at e).side) ≡ true → f ≡ with_entry full e → IsFed e f (b ∷ piece) []
  full_fed limit is =
      let told = is_told e f (Some full) before after is in
      record {
        setting = same_setting e f (Some full) is;
        left = b ∷ piece;
        feeds = full_feeds (setting_at e) (told_at e) (told_at f) b piece up limit told;
        same = λ up_yet. unlike (stands (told_at f).side) (full_ends (setting_at e) (told_at e) (told_at f) told) up_yet;
        shorter = omega arith;
      }

  -- by what it answers, unless memory was wanting
  pub is_fed : (r : Fed) → fed_told r ≢ no_room → fed_told r ≡ feed_answer (setting_at e) (told_at e).side (b ∷ piece) → f ≡ fed_by r (next_cut (told_at e).side (b ∷ piece)) e
      → IsFed e f (b ∷ piece) (left_of r (b ∷ piece))
  is_fed (fed_so.Taken n) room answer is = taken_fed n (is_taken (setting_at e) (told_at e).side b piece up n answer) is
  is_fed (fed_so.Broken reason place) room answer is = broken_fed (is_broken (setting_at e) (told_at e).side b piece up reason place answer) is
  is_fed fed_so.Full room answer is = full_fed (is_full (setting_at e) (told_at e).side b piece up answer) is
  is_fed fed_so.Gone room answer is = is_not_gone (setting_at e) (told_at e).side b piece up answer
  is_fed fed_so.NoMemory room answer is = absurd (room refl)

-- ---- any piece

cut_fits : (held bytes : List ℕ) → length (cut held bytes) ≤ length bytes
unfolding cut
cut_fits held [] = omega arith
cut_fits held (b ∷ bytes) = by_end (ends_part (held ++ b ∷ [])) (cut_fits (held ++ b ∷ []) bytes)
  where
    by_end : (e : Bool) → length (cut (held ++ b ∷ []) bytes) ≤ length bytes → length (if e then b ∷ [] else b ∷ cut (held ++ b ∷ []) bytes) ≤ suc (length bytes)
    by_end true fits = omega arith
    by_end false fits = omega (arith, fits)

next_fits : (s : Side) (piece : List ℕ) → length (next_cut s piece) ≤ length piece
next_fits s piece =
    let cuts = cut_fits s.incoming.held (take (most_fed - fed_count s.incoming) piece) in
    let long = length-take (most_fed - fed_count s.incoming) piece in
    omega (arith, cuts, long)

pub not_no_room : (r : Fed) → (r ≡ fed_so.NoMemory → ⊥) → fed_told r ≢ no_room
not_no_room (fed_so.Taken n) other at = absurd (cc)
not_no_room (fed_so.Broken reason place) other at = absurd (cc)
not_no_room fed_so.Full other at = absurd (cc)
not_no_room fed_so.Gone other at = absurd (cc)
not_no_room fed_so.NoMemory other at = other refl

module _ (e f : Endpoint) (xs : List ℕ) (some : 0 < length xs) (up : stands (told_at e).side ≡ true) where
  pub count_fits : (n : ℕ) → (taken n ≢ no_room → taken n ≡ feed_answer (setting_at e) (side_at e) xs) → n ≤ length xs
  count_fits n answer = of_piece xs some (subst (λ s. taken n ≡ feed_answer (setting_at e) s xs) (told_side e) (answer (λ at. absurd (cc))))
    where
      of_piece : (ys : List ℕ) → 0 < length ys → taken n ≡ feed_answer (setting_at e) (told_at e).side ys → n ≤ length ys
      of_piece [] none is = absurd (omega arith)
      of_piece (b ∷ piece) long is =
          let count = (is_taken (setting_at e) (told_at e).side b piece up n is).count in
          let fits = next_fits (told_at e).side (b ∷ piece) in
          omega (arith, count, fits)

  pub any_fed : IsLed e → IsLed f → (r : Fed) → (r ≡ fed_so.NoMemory → ⊥) → (fed_told r ≢ no_room → fed_told r ≡ feed_answer (setting_at e) (side_at e) xs)
      → f ≡ fed_by r (next_cut (side_at e) xs) e → IsFed e f xs (left_of r xs)
  any_fed before after r other answer is =
      of_piece xs some (subst (λ s. fed_told r ≡ feed_answer (setting_at e) s xs) (told_side e) (answer (not_no_room r other)))
      (subst (λ s. f ≡ fed_by r (next_cut s xs) e) (told_side e) is)
    where
      of_piece : (ys : List ℕ) → 0 < length ys → fed_told r ≡ feed_answer (setting_at e) (told_at e).side ys → f ≡ fed_by r (next_cut (told_at e).side ys) e → IsFed e f ys (left_of r ys)
      of_piece [] none said entered = absurd (omega arith)
      of_piece (b ∷ piece) long said entered = is_fed e f b piece up before after r (not_no_room r other) said entered
