-- A piece of what is on its way to an end, as it is fed: as much is taken as is answered, and it breaks no bridge.
use Rattle.std.proofs.Common.{◌≡◌, ◌≢◌, sym, ◌∙◌, subst, ℕ, List, length, take, drop}
use Rattle.bridge_endpoint.specs.Answering.{fed_told}
use Rattle.bridge_endpoint.specs.Entering.{fed_by}
use Rattle.bridge_endpoint.specs.Journals.{Endpoint, setting_at, side_at, stamped, told_at}
use Rattle.bridge_endpoint.specs.declared.answers.Fed.{Fed}
use Rattle.bridge_endpoint.specs.declared.answers.Fed.TheVariants as feeding
use Rattle.bridge_model.specs.Answers.{broken, feed_answer, next_cut, no_room, taken}
use Rattle.bridge_model.specs.Settings.{Setting}
use Rattle.bridge_model.specs.Sides.{Side}
use Rattle.world_laws.proofs.FeedLaws.{next_front, taken_is_cut, whole_feed_a, whole_feed_b}
use Rattle.world_laws.specs.Linking.{AreTwoEnds}
use Rattle.urp_model.specs.declared.reason.Reason.{Reason}
use Rattle.bridge_world.specs.Joined.{joined, settings_of, taken_with}
use Rattle.bridge_world.specs.Worlds.{IsWorld}
use Rattle.bridge_world.proofs.CallLaws.{goes_fed}
use Rattle.bridge_world.proofs.Going.{Goes}
use Rattle.bridge_world.proofs.Known.{of_second}
use Rattle.bridge_world.proofs.Seeing.{side_of_told, stamped_side}

-- what a call that feeds says of its answer
abbrev pub AnswersSo : Setting → Side → List ℕ → Fed → Type 0
AnswersSo g s piece r = fed_told r ≢ no_room → fed_told r ≡ feed_answer g s piece

-- no piece of these bytes breaks the bridge
abbrev pub IsWhole : Setting → Side → List ℕ → Type 0
IsWhole g s way = (n : ℕ) (why : Reason) (place : ℕ) → feed_answer g s (take n way) ≡ broken why place → ⊥

taken_or_none : (n : ℕ) → taken n ≡ no_room → ⊥
taken_or_none n is = cc

broken_or_none : (why : Reason) (place : ℕ) → broken why place ≡ no_room → ⊥
broken_or_none why place is = cc

pub count_is : (g : Setting) (s : Side) (piece : List ℕ) (r : Fed) → AnswersSo g s piece r → (n : ℕ) → r ≡ feeding.Taken n → n ≡ length (next_cut s piece)
count_is g s piece r answer n is =
    let said : AnswersSo g s piece (feeding.Taken n) = subst (AnswersSo g s piece) is answer in
    taken_is_cut g s piece n (sym (said (taken_or_none n)))

pub stays_whole : (g : Setting) (s : Side) (piece : List ℕ) (r : Fed) → AnswersSo g s piece r → ((why : Reason) (place : ℕ) → feed_answer g s piece ≡ broken why place → ⊥)
    → (why : Reason) (place : ℕ) → r ≡ feeding.Broken why place → ⊥
stays_whole g s piece r answer whole why place is =
    let said : AnswersSo g s piece (feeding.Broken why place) = subst (AnswersSo g s piece) is answer in
    whole why place (sym (said (broken_or_none why place)))

-- the first bytes of those on their way
pub goes_piece : (e : Endpoint) (into from piece : List ℕ) (n : ℕ) → piece ≡ take n into → (r : Fed) → AnswersSo (setting_at e) (side_at e) piece r → IsWhole (setting_at e) (side_at e) into
    → Goes e into from (fed_by r (next_cut (side_at e) piece) e) (drop (taken_with r) into) from
goes_piece e into from piece n front r answer whole =
    goes_fed e into from (next_cut (side_at e) piece)
    (subst (λ (p : List ℕ). next_cut (side_at e) p ≡ take (length (next_cut (side_at e) p)) into) (sym front) (next_front (side_at e) n into))
    r (count_is (setting_at e) (side_at e) piece r answer)
    (stays_whole (setting_at e) (side_at e) piece r answer (λ why place broke. whole n why place (subst (λ (p : List ℕ). feed_answer (setting_at e) (side_at e) p ≡ broken why place) front broke)))

module _ (a b : Endpoint) (to_a to_b : List ℕ) (is : IsWorld a b to_a to_b) (ends : AreTwoEnds (settings_of (joined a b)) (joined a b).events (told_at a) (told_at b) to_a to_b) (n : ℕ) where
  pub whole_a : IsWhole (setting_at (stamped n a)) (side_at (stamped n a)) to_a
  whole_a =
      subst (λ (s : Side). IsWhole (setting_at a) s to_a) (sym (stamped_side n a ∙ side_of_told a))
      (whole_feed_a (settings_of (joined a b)) (joined a b).events (told_at a) (told_at b) to_a to_b ends)

  pub whole_b : IsWhole (setting_at (stamped n b)) (side_at (stamped n b)) to_b
  whole_b =
      subst (λ (s : Side). IsWhole (setting_at b) s to_b) (sym (stamped_side n b ∙ side_of_told b))
      (subst (λ (g : Setting). IsWhole g (told_at b).side to_b) (of_second a b to_a to_b is) (whole_feed_b (settings_of (joined a b)) (joined a b).events (told_at a) (told_at b) to_a to_b ends))
