-- Runs that stand for the entries of an end stand behind each call there that is no root's own; and the other end stays.
use Rattle.std.proofs.Common.{◌≡◌, refl, sym, ap, ◌∙◌, subst, ℕ, Bool, true, false, List, [], ◌∷◌, ◌++◌, length, drop, Option, None, Some, IfNone, IfSome, Result, Ok, Err, if◌then◌else◌}
use Rattle.std.proofs.lemmas.List.{append-nil}
use Rattle.bridge_core.specs.declared.side.Side.{Side}
use Rattle.bridge_core.specs.declared.side.Side.TheVariants as code
use Rattle.bridge_endpoint.specs.Entering.{applied_by, draining, fed_by, how_ended, out_of_memory, taking}
use Rattle.bridge_endpoint.specs.Journals.{Endpoint, setting_at, side_at, with_entry}
use Rattle.bridge_endpoint.specs.declared.answers.ApplyError.{ApplyError}
use Rattle.bridge_endpoint.specs.declared.answers.ApplyError.TheVariants as applying
use Rattle.bridge_endpoint.specs.declared.answers.Fed.{Fed}
use Rattle.bridge_endpoint.specs.declared.answers.Fed.TheVariants as feeding
use Rattle.bridge_model.specs.Entries.{Entry, applied, drained, ended, fed, full, no_memory, reaped}
use Rattle.bridge_model.specs.RootRuns.{is_of_root}
use Rattle.bridge_model.specs.Steps.{is_no_memory}
use Rattle.bridge_model.specs.declared.input_end.InputEnd.TheVariants as how
use Rattle.world_laws.proofs.StandingLaws.{others_stand}
use Rattle.world_laws.specs.Merging.{events_at}
use Rattle.world_laws.proofs.RunLaws.{entries_both}
use Rattle.world_model.specs.Worlds.{Event, entries_of}
use Rattle.world_model.specs.declared.side.Side.TheVariants.{A, B}
use Rattle.bridge_world.specs.Doing.{KeepsRuns, StandThere, other_of}
use Rattle.bridge_world.specs.Joined.{Grows, Joined, end_at, unmarked}

-- ---- an end goes on

pub keeps_same : (e f : Endpoint) → f ≡ e → KeepsRuns e f
keeps_same e f is rs stand = subst (λ (x : Endpoint). StandThere x rs) (sym is) stand

keeps_entry : (x : Entry) → ((n : ℕ) → is_of_root n x ≡ false) → (e f : Endpoint) → f ≡ with_entry x e → KeepsRuns e f
keeps_entry x none e f is rs stand = subst (λ (y : Endpoint). StandThere y rs) (sym is) (others_stand (setting_at e) e.entries x none rs stand)

pub keeps_full : (e f : Endpoint) → f ≡ with_entry full e → KeepsRuns e f
keeps_full e f is = keeps_entry full (λ n. refl) e f is

pub keeps_no_memory : (e f : Endpoint) → f ≡ with_entry no_memory e → KeepsRuns e f
keeps_no_memory e f is = keeps_entry no_memory (λ n. refl) e f is

keeps_if : (b : Bool) (e f : Endpoint) → f ≡ (if b then e else with_entry no_memory e) → KeepsRuns e f
keeps_if true e f is = keeps_same e f is
keeps_if false e f is = keeps_no_memory e f is

-- want of memory
pub keeps_lost : (e f : Endpoint) → f ≡ out_of_memory e → KeepsRuns e f
keeps_lost e f is = keeps_if (is_no_memory (side_at e).cause) e f is

pub keeps_where : (b : Bool) (e f : Endpoint) → (b ≡ false → f ≡ with_entry no_memory e) → (b ≡ true → f ≡ e) → KeepsRuns e f
keeps_where true e f entered kept = keeps_same e f (kept refl)
keeps_where false e f entered kept = keeps_no_memory e f (entered refl)

-- a statement of a thread
pub keeps_applied : (r : Result Unit ApplyError) (tid : List ℕ) (e f : Endpoint) → f ≡ applied_by r tid e → KeepsRuns e f
keeps_applied (Ok u) tid e f is = keeps_entry (applied tid) (λ n. refl) e f is
keeps_applied (Err (applying.Stale now)) tid e f is = keeps_same e f is
keeps_applied (Err applying.Full) tid e f is = keeps_full e f is
keeps_applied (Err applying.NoMemory) tid e f is = keeps_lost e f is

-- bytes that come in
keeps_taking : (bytes : List ℕ) (e f : Endpoint) → f ≡ taking bytes e → KeepsRuns e f
keeps_taking [] e f is = keeps_same e f is
keeps_taking (b ∷ bytes) e f is = keeps_entry (fed (b ∷ bytes)) (λ n. refl) e f is

pub keeps_fed : (r : Fed) (bytes : List ℕ) (e f : Endpoint) → f ≡ fed_by r bytes e → KeepsRuns e f
keeps_fed (feeding.Taken n) bytes e f is = keeps_taking bytes e f is
keeps_fed (feeding.Broken why place) bytes e f is = keeps_taking bytes e f is
keeps_fed feeding.Full bytes e f is = keeps_full e f is
keeps_fed feeding.Gone bytes e f is = keeps_same e f is
keeps_fed feeding.NoMemory bytes e f is = keeps_lost e f is

-- bytes that go out
pub keeps_drained : (bytes : List ℕ) (e f : Endpoint) → f ≡ draining bytes e → KeepsRuns e f
keeps_drained [] e f is = keeps_same e f is
keeps_drained (b ∷ bytes) e f is = keeps_entry (drained (b ∷ bytes)) (λ n. refl) e f is

-- an object that goes
pub keeps_reaped : (r : Option ℕ) (e f : Endpoint) → IfSome r (λ n. f ≡ with_entry (reaped n) e) → IfNone r (f ≡ e) → KeepsRuns e f
keeps_reaped (Some n) e f entered kept = keeps_entry (reaped n) (λ m. refl) e f entered
keeps_reaped None e f entered kept = keeps_same e f kept

-- the end of the input
pub keeps_ended : (b : Bool) (e f : Endpoint) → (b ≡ true → f ≡ with_entry (how_ended how.Ended) e) → (b ≡ false → f ≡ e) → KeepsRuns e f
keeps_ended true e f entered kept = keeps_entry ended (λ n. refl) e f (entered refl)
keeps_ended false e f entered kept = keeps_same e f (kept refl)

-- ---- the other end

none_of_b : (es : List Entry) → entries_of B (events_at A es) ≡ []
unfolding entries_of
none_of_b [] = refl
none_of_b (e ∷ es) = none_of_b es

none_of_a : (es : List Entry) → entries_of A (events_at B es) ≡ []
unfolding entries_of
none_of_a [] = refl
none_of_a (e ∷ es) = none_of_a es

of_b_stay : (es : List Event) (more : List Entry) → entries_of B (es ++ events_at A more) ≡ entries_of B es
of_b_stay es more = entries_both B es (events_at A more) ∙ (ap (λ fs. entries_of B es ++ fs) (none_of_b more) ∙ append-nil (entries_of B es))

of_a_stay : (es : List Event) (more : List Entry) → entries_of A (es ++ events_at B more) ≡ entries_of A es
of_a_stay es more = entries_both A es (events_at B more) ∙ (ap (λ fs. entries_of A es ++ fs) (none_of_a more) ∙ append-nil (entries_of A es))

pub other_stays : (s : Side) (j k : Joined) → Grows s j k → end_at k (other_of s) ≡ end_at j (other_of s)
other_stays code.A j k grows =
    ap (λ c. unmarked c (entries_of B k.events)) grows.b
    ∙ ap (unmarked j.b) (ap (entries_of B) grows.events ∙ of_b_stay j.events (drop (length (end_at j code.A).entries) (end_at k code.A).entries))
other_stays code.B j k grows =
    ap (λ c. unmarked c (entries_of A k.events)) grows.a
    ∙ ap (unmarked j.a) (ap (entries_of A) grows.events ∙ of_a_stay j.events (drop (length (end_at j code.B).entries) (end_at k code.B).entries))
