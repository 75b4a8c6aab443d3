-- What becomes of a statement that asked something, by what was answered.
use Rattle.std.proofs.Common.{◌≡◌, ◌≢◌, refl, sym, ◌∙◌, Bool, true, false, inl, inr, Option, None, Some, Result, Ok, Err, is_ok, codes, not, if◌then◌else◌}
use Rattle.std.proofs.lemmas.Bool.{true≢false, false≢true}
use Rattle.plan_model.specs.Roots.{Run}
use Rattle.bridge_model.specs.Answers as answers
use Rattle.bridge_model.specs.Answers.{begun, begun_standing, begun_at_end, by_outcome}
use Rattle.bridge_model.specs.Entries.{Entry, full}
use Rattle.bridge_model.specs.RootRuns.{begins, moved, without_entry, over_with}
use Rattle.bridge_model.specs.Settings.{Setting}
use Rattle.bridge_model.specs.Sides.{Side, Outcome, stands, stands_by}
use Rattle.bridge_model.specs.Steps.{has_entries, may}
use Rattle.bridge_model.specs.declared.cause.Cause.{Cause}
use Rattle.bridge_endpoint.specs.Answering.{begun_told}
use Rattle.bridge_endpoint.specs.Entering.{begun_by}
use Rattle.bridge_endpoint.specs.Journals.{Endpoint, setting_at, side_at, with_entry}
use Rattle.bridge_endpoint.specs.declared.answers.Begun.{Begun}
use Rattle.bridge_endpoint.specs.declared.answers.Begun.TheVariants as variant
use Rattle.bridge_core.specs.Beginning.{IsBegun, began_run, has_begun}
use Rattle.bridge_core.specs.Moving.{Does, DoesOr}
use Rattle.bridge_core.proofs.MoveLemmas.{entered}

-- where the bridge stands, its end is not answered
pub at_no_end : (c : Option Cause) (a : answers.Begun) → stands_by c ≡ true → begun_at_end c a ≡ a
at_no_end None a up = refl
at_no_end (Some why) a up = absurd (false≢true up)

-- the limit is answered where it is reached alone
pub open_told : (fill : Bool) (a b : answers.Begun) → (if fill then answers.at_limit_too else a) ≡ b → b ≢ answers.at_limit_too → fill ≡ false
open_told false a b is other = refl
open_told true a b is other = absurd (other (sym is))

outcome_open : (o : Option Outcome) → by_outcome o ≢ answers.at_limit_too
outcome_open None is = let bad : ⊥ = cc in bad
outcome_open (Some o) is = let bad : ⊥ = cc in bad

standing_open : (g : Setting) (s : Side) (x : Entry) → begun_standing g s x ≢ answers.at_limit_too
standing_open g s x is = by_may (may g s x) (by_outcome _) (outcome_open _) is
  where
    by_may : (b : Bool) (a : answers.Begun) → a ≢ answers.at_limit_too → (if b then a else answers.not_held) ≢ answers.at_limit_too
    by_may true a other same = other same
    by_may false a other same = let bad : ⊥ = cc in bad

pub full_told : (fill : Bool) (a : answers.Begun) → a ≢ answers.at_limit_too → (if fill then answers.at_limit_too else a) ≡ answers.at_limit_too → fill ≡ true
full_told true a other is = refl
full_told false a other is = absurd (other is)

-- nor is it answered that what it gives is not held
some_outcome : (o : Option Outcome) → by_outcome o ≢ answers.not_held
some_outcome None is = let bad : ⊥ = cc in bad
some_outcome (Some o) is = let bad : ⊥ = cc in bad

held_told : (g : Setting) (s : Side) (x : Entry) (fill : Bool) → has_entries s ≡ fill → (has_entries s ≡ false → may g s x ≡ true)
    → (if fill then answers.at_limit_too else begun_standing g s x) ≡ answers.not_held → ⊥
held_told g s x true had can is = let bad : ⊥ = cc in bad
held_told g s x false had can is = by_may (may g s x) (can had) (by_outcome _) (some_outcome _) is
  where
    by_may : (b : Bool) → b ≡ true → (a : answers.Begun) → a ≢ answers.not_held → (if b then a else answers.not_held) ≢ answers.not_held
    by_may true sure a other same = other same
    by_may false sure a other same = absurd (false≢true sure)

pub is_begun : (g : Setting) (s : Side) (x : Entry) (b : Begun) → stands s ≡ true → (has_entries s ≡ false → may g s x ≡ true) → (begun_told b ≢ answers.no_room_left → begun_told b ≡ begun g s x) → IsBegun b
unfolding begun
is_begun g s x variant.Started up can is = tt
is_begun g s x variant.Answered up can is = tt
is_begun g s x variant.Full up can is = tt
is_begun g s x variant.NoMemory up can is = tt
is_begun g s x variant.NotHeld up can is =
    held_told g s x (has_entries s) refl can (sym (at_no_end s.cause _ up) ∙ sym (is (λ a. let bad : ⊥ = cc in bad)))
is_begun g s x variant.Gone up can is = by_limit (has_entries s) (sym (at_no_end s.cause _ up) ∙ sym (is (λ a. let bad : ⊥ = cc in bad)))
  where
    by_standing : (b : Bool) (o : Option Outcome) → (if b then by_outcome o else answers.not_held) ≡ answers.gone_already → ⊥
    by_standing false o same = let bad : ⊥ = cc in bad
    by_standing true None same = let bad : ⊥ = cc in bad
    by_standing true (Some o) same = let bad : ⊥ = cc in bad

    by_limit : (fill : Bool) → (if fill then answers.at_limit_too else begun_standing g s x) ≡ answers.gone_already → ⊥
    by_limit true same = let bad : ⊥ = cc in bad
    by_limit false same = by_standing (may g s x) _ same

begins_where : (s : Side) (r : Run) (x : Entry) (up fill : Bool) → stands s ≡ up → has_entries s ≡ fill
    → begins s r x ≡ (if not up then without_entry (over_with (codes "gone") r) else (if fill then moved (over_with (codes "full") r) (Some full) else moved r (Some x)))
begins_where s r x up fill stood had = rw (stood, had) refl

module _ (e f : Endpoint) (r after : Run) (x : Entry) (up : stands (side_at e) ≡ true) where
  told : (b : Begun) → begun_told b ≡ begun (setting_at e) (side_at e) x → (if has_entries (side_at e) then answers.at_limit_too else begun_standing (setting_at e) (side_at e) x) ≡ begun_told b
  unfolding begun
  told b is = sym (at_no_end (side_at e).cause _ up) ∙ sym is

  -- the endpoint has the entry of what was asked
  asked : (b : Begun) → begun_told b ≡ begun (setting_at e) (side_at e) x → begun_told b ≢ answers.at_limit_too → f ≡ with_entry x e → after ≡ r
      → Does (begins (side_at e) r x) e f after
  asked b is unfilled made same =
      entered (begins (side_at e) r x) e f x r after (begins_where (side_at e) r x true false up (open_told (has_entries (side_at e)) _ (begun_told b) (told b is) unfilled)) same made

  filled : begun_told variant.Full ≡ begun (setting_at e) (side_at e) x → f ≡ with_entry full e → after ≡ over_with (codes "full") r → Does (begins (side_at e) r x) e f after
  filled is made same =
      entered (begins (side_at e) r x) e f full (over_with (codes "full") r) after
      (begins_where (side_at e) r x true true up (full_told (has_entries (side_at e)) _ (standing_open (setting_at e) (side_at e) x) (told variant.Full is))) same made

  pub by_answer : {X : Type 0} (b : Begun) (done : Result Unit X) → (begun_told b ≢ answers.no_room_left → begun_told b ≡ begun (setting_at e) (side_at e) x) → f ≡ begun_by b x e
      → after ≡ began_run b r → is_ok done ≡ has_begun b → DoesOr (begins (side_at e) r x) e f r after done
  by_answer variant.Started (Ok u) is made same ok = asked variant.Started (is (λ a. let bad : ⊥ = cc in bad)) (λ a. let bad : ⊥ = cc in bad) made same
  by_answer variant.Answered (Ok u) is made same ok = asked variant.Answered (is (λ a. let bad : ⊥ = cc in bad)) (λ a. let bad : ⊥ = cc in bad) made same
  by_answer variant.Full (Ok u) is made same ok = filled (is (λ a. let bad : ⊥ = cc in bad)) made same
  by_answer variant.NotHeld (Err y) is made same ok = record { run = same; bridge = inl made }
  by_answer variant.Gone (Err y) is made same ok = record { run = same; bridge = inl made }
  by_answer variant.NoMemory (Err y) is made same ok = record { run = same; bridge = inr made }
  by_answer variant.Started (Err y) is made same ok = absurd (false≢true ok)
  by_answer variant.Answered (Err y) is made same ok = absurd (false≢true ok)
  by_answer variant.Full (Err y) is made same ok = absurd (false≢true ok)
  by_answer variant.NotHeld (Ok u) is made same ok = absurd (true≢false ok)
  by_answer variant.Gone (Ok u) is made same ok = absurd (true≢false ok)
  by_answer variant.NoMemory (Ok u) is made same ok = absurd (true≢false ok)
