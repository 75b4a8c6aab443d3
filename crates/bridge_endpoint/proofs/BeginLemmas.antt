-- Roots that begin something: what they may, and what they are answered.
use Rattle.std.proofs.Common.{◌≡◌, refl, sym, ap, ◌∙◌, ℕ, suc, ◌≤◌, Bool, true, false, not, ◌&&◌, nat_lt, length, Option, None, Some, arith, if◌then◌else◌}
use Rattle.std.proofs.lemmas.Bool.{and_parts, false≢true, true≢false}
use Rattle.std.proofs.lemmas.Bool.Decides.{nat_tests}
use Rattle.bridge_journal.specs.Logs.{Log}
use Rattle.bridge_laws.specs.Rooted.{waits}
use Rattle.bridge_model.specs.Answers as answers
use Rattle.bridge_model.specs.Answers.{begun, begun_at_end, begun_standing, by_outcome, root_of}
use Rattle.bridge_model.specs.Entries.{Entry, counts}
use Rattle.bridge_model.specs.Roots.{is_idle, outcome_in}
use Rattle.bridge_model.specs.Settings.{Setting}
use Rattle.bridge_model.specs.Sides.{RootState, idle, waits_call, waits_query, answered, Side, stands, stands_by, state_of}
use Rattle.bridge_model.specs.Steps.{counted, does, has_entries, is_no_memory, is_root, may, may_begin}
use Rattle.bridge_model.specs.declared.cause.Cause.{Cause}
use Rattle.bridge_model.specs.declared.cause.Cause.TheVariants as cause
use Rattle.bridge_state.specs.EndSides.{EndSide, with_side}
use Rattle.bridge_state.specs.Roots.{MayBegin}
use Rattle.bridge_state.specs.Telling.{state_told}
use Rattle.bridge_endpoint.specs.Kept.{IsKept}
use Rattle.bridge_endpoint.proofs.KeptLaws.{kept_idle, kept_rooted}
use Rattle.bridge_endpoint.specs.Answering.{begun_state, begun_told, made_answer, made_told}
use Rattle.bridge_endpoint.specs.Entering.{begun_by, made_by, out_of_memory}
use Rattle.bridge_endpoint.specs.Journals.{Endpoint, setting_at, side_at, with_entry}
use Rattle.bridge_endpoint.specs.Refusing.{IsRefused, refused_begun, refused_made}
use Rattle.bridge_endpoint.specs.declared.refusing.Refused.{Refused}
use Rattle.bridge_endpoint.specs.declared.refusing.Refused.TheVariants as refused

-- ---- what a root may begin

idle_is : (x : RootState) → is_idle x ≡ true → x ≡ idle
idle_is idle is = refl
idle_is waits_call is = absurd (false≢true is)
idle_is (waits_query wanted) is = absurd (false≢true is)
idle_is (answered o) is = absurd (false≢true is)

root_within : (root most : ℕ) → (nat_lt 0 root && not (nat_lt most root)) ≡ true → (1 ≤ root) × (root ≤ most)
root_within root most is =
    let parts = and_parts (nat_lt 0 root) (not (nat_lt most root)) is in
    let low = parts.0 in let high = parts.1 in
    (grind (arith, nat_tests), grind (arith, nat_tests))

pub begins : {g : Setting} {roots : ℕ} {e : EndSide} {l : Log} → IsKept g roots e l → stands e.side ≡ true → (root : ℕ) → may_begin g root e.side ≡ true → MayBegin g root e.side
begins {g} {roots} {e} {l} kept up root ok =
    let parts = and_parts (is_root g root) (is_idle (state_of root e.side.tables.roots)) ok in
    let still = idle_is (state_of root e.side.tables.roots) parts.1 in
    let range = root_within root (length g.plan.threads) parts.0 in
    record {
      stands = up;
      of_plan = parts.0;
      idle = still;
      none = kept_idle g roots e l kept root range.0 range.1 (ap waits still);
      least = range.0;
      most = (let many = (kept_rooted g roots e l kept).counted in let under = range.1 in omega (arith, many, under));
    }

-- ---- what it is answered

at_end_none : (o : Option Cause) (a : answers.Begun) → stands_by o ≡ true → begun_at_end o a ≡ a
at_end_none None a up = refl
at_end_none (Some why) a up = absurd (false≢true up)

at_end_gone : (o : Option Cause) (a : answers.Begun) → stands_by o ≡ false → is_no_memory o ≡ false → begun_at_end o a ≡ answers.gone_already
at_end_gone None a ended more = absurd (true≢false ended)
at_end_gone (Some cause.NoMemory) a ended more = absurd (true≢false more)
at_end_gone (Some cause.Disposed) a ended more = refl
at_end_gone (Some cause.Ended) a ended more = refl
at_end_gone (Some cause.Failed) a ended more = refl
at_end_gone (Some (cause.Broken why place)) a ended more = refl
at_end_gone (Some cause.Full) a ended more = refl

at_end_dry : (o : Option Cause) (a : answers.Begun) → is_no_memory o ≡ true → begun_at_end o a ≡ answers.no_room_left
at_end_dry (Some cause.NoMemory) a dry = refl
at_end_dry None a dry = absurd (false≢true dry)
at_end_dry (Some cause.Disposed) a dry = absurd (false≢true dry)
at_end_dry (Some cause.Ended) a dry = absurd (false≢true dry)
at_end_dry (Some cause.Failed) a dry = absurd (false≢true dry)
at_end_dry (Some (cause.Broken why place)) a dry = absurd (false≢true dry)
at_end_dry (Some cause.Full) a dry = absurd (false≢true dry)

pub begun_standing_is : (g : Setting) (s : Side) (x : Entry) → stands s ≡ true → has_entries s ≡ false → begun g s x ≡ begun_standing g s x
unfolding begun
begun_standing_is g s x up few = at_end_none s.cause (if has_entries s then answers.at_limit_too else begun_standing g s x) up ∙ rw (few) refl

pub not_held_told : (g : Setting) (s : Side) (x : Entry) → stands s ≡ true → has_entries s ≡ false → may g s x ≡ false → begun g s x ≡ answers.not_held
not_held_told g s x up few bad = begun_standing_is g s x up few ∙ rw (bad) refl

pub begun_is : (g : Setting) (s : Side) (x : Entry) → stands s ≡ true → has_entries s ≡ false → may g s x ≡ true → begun g s x ≡ by_outcome (outcome_in (state_of (root_of x) (does g x s).side.tables.roots))
begun_is g s x up few fine = begun_standing_is g s x up few ∙ rw (fine) refl

counted_tables : (b : Bool) (s : Side) → (if b then record s { entries = suc s.entries } else s).tables ≡ s.tables
counted_tables true s = refl
counted_tables false s = refl

state_begun : (x : RootState) → begun_told (begun_state (state_told x)) ≡ by_outcome (outcome_in x)
state_begun idle = refl
state_begun waits_call = refl
state_begun (waits_query wanted) = refl
state_begun (answered o) = refl

-- what a root is answered that began what an entry says
module _ (g : Setting) (e f : EndSide) (x : Entry) (now : f ≡ with_side (counted x (does g x e.side).side) e) (up : stands e.side ≡ true) (few : has_entries e.side ≡ false) (fine : may g e.side x ≡ true) where
  pub started_told : begun_told (begun_state (state_told (state_of (root_of x) f.side.tables.roots))) ≡ begun g e.side x
  started_told =
      state_begun (state_of (root_of x) f.side.tables.roots)
      ∙ ap (λ t. by_outcome (outcome_in (state_of (root_of x) t.roots))) (ap (λ y. y.side.tables) now ∙ counted_tables (counts x) (does g x e.side).side)
      ∙ sym (begun_is g e.side x up few fine)

pub started_by : (z : RootState) (x : Entry) (e : Endpoint) → begun_by (begun_state (state_told z)) x e ≡ with_entry x e
started_by idle x e = refl
started_by waits_call x e = refl
started_by (waits_query wanted) x e = refl
started_by (answered o) x e = refl

-- ---- what is refused at once

pub refused_told : (r : Refused) (e f : Endpoint) (x : Entry) → IsRefused r e f → begun_told (refused_begun r) ≡ begun (setting_at e) (side_at e) x
unfolding begun
refused_told refused.Full e f x is = sym (at_end_none (side_at e).cause (if has_entries (side_at e) then answers.at_limit_too else begun_standing (setting_at e) (side_at e) x) is.0 ∙ rw (is.1) refl)
refused_told refused.Gone e f x is = sym (at_end_gone (side_at e).cause _ is.0 is.1)
refused_told refused.NoMemory e f x is = sym (at_end_dry (side_at e).cause _ is.0)

pub stays_out : (e : Endpoint) → is_no_memory (side_at e).cause ≡ true → out_of_memory e ≡ e
stays_out e dry = rw (dry) refl

pub refused_by : (r : Refused) (e f : Endpoint) (x : Entry) → IsRefused r e f → f ≡ begun_by (refused_begun r) x e
refused_by refused.Full e f x is = is.2
refused_by refused.Gone e f x is = is.2
refused_by refused.NoMemory e f x is = is.1 ∙ sym (stays_out e is.0)

pub refused_made_told : (r : Refused) (e f : Endpoint) → IsRefused r e f → made_told (refused_made r) ≡ made_answer (side_at e)
refused_made_told refused.Full e f is = sym (at_end_none (side_at e).cause (if has_entries (side_at e) then answers.at_limit_too else answers.started) is.0 ∙ rw (is.1) refl)
refused_made_told refused.Gone e f is = sym (at_end_gone (side_at e).cause _ is.0 is.1)
refused_made_told refused.NoMemory e f is = sym (at_end_dry (side_at e).cause _ is.0)

pub made_is : (s : Side) → stands s ≡ true → has_entries s ≡ false → answers.started ≡ made_answer s
made_is s up few = sym (at_end_none s.cause (if has_entries s then answers.at_limit_too else answers.started) up ∙ rw (few) refl)

pub refused_made_by : (r : Refused) (e f : Endpoint) (x : Entry) → IsRefused r e f → f ≡ made_by (refused_made r) x e
refused_made_by refused.Full e f x is = is.2
refused_made_by refused.Gone e f x is = is.2
refused_made_by refused.NoMemory e f x is = is.1 ∙ sym (stays_out e is.0)
