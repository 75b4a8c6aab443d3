-- Each call of an endpoint makes nothing or one entry more: by what it answers.
use Rattle.std.proofs.Common.{◌≡◌, refl, sym, subst, ℕ, true, false, Bool, List, [], ◌∷◌, ◌++◌, length, take, drop, Option, None, Some, Result, Ok, Err, if◌then◌else◌}
use Rattle.std.proofs.lemmas.List.{append-nil}
use Rattle.bridge_endpoint.specs.Entering.{applied_by, begun_by, draining, fed_by, made_by, out_of_memory, taking}
use Rattle.bridge_endpoint.specs.Journals.{Endpoint, side_at, with_entry}
use Rattle.bridge_endpoint.specs.declared.answers.ApplyError.{ApplyError}
use Rattle.bridge_endpoint.specs.declared.answers.ApplyError.TheVariants as applying
use Rattle.bridge_endpoint.specs.declared.answers.Begun.{Begun}
use Rattle.bridge_endpoint.specs.declared.answers.Begun.TheVariants as begun
use Rattle.bridge_endpoint.specs.declared.answers.Fed.{Fed}
use Rattle.bridge_endpoint.specs.declared.answers.Fed.TheVariants as feeding
use Rattle.bridge_endpoint.specs.declared.answers.Made.{Made}
use Rattle.bridge_endpoint.specs.declared.answers.Made.TheVariants as making
use Rattle.bridge_model.specs.Entries.{Entry, applied, drained, fed, full, no_memory}
use Rattle.bridge_model.specs.Histories.{bytes_drained, bytes_fed}
use Rattle.bridge_model.specs.Steps.{is_no_memory}
use Rattle.bridge_core.specs.Moving.{with_any}
use Rattle.bridge_laws.specs.SpellableGiving.{IsGivenByRoot}
use Rattle.urp_model.specs.declared.reason.Reason.{Reason}
use Rattle.bridge_world.specs.Joined.{taken_with}
use Rattle.bridge_world.proofs.Going.{Goes, stays, enters, enters_still}

-- an entry that roots may give, which moves no bytes
pub record IsStill (x : Entry) : Type 0 where
  pub given : IsGivenByRoot x
  pub none_in : bytes_fed x ≡ []
  pub none_out : bytes_drained x ≡ []

pub goes_still : (e : Endpoint) (into from : List ℕ) (x : Entry) → IsStill x → Goes e into from (with_entry x e) into from
goes_still e into from x still = enters_still e into from x still.given still.none_in still.none_out

goes_if : (e : Endpoint) (into from : List ℕ) (b : Bool) → Goes e into from (if b then e else with_entry no_memory e) into from
goes_if e into from true = stays
goes_if e into from false = goes_still e into from no_memory (record { given = tt; none_in = refl; none_out = refl })

pub goes_lost : (e : Endpoint) (into from : List ℕ) → Goes e into from (out_of_memory e) into from
goes_lost e into from = goes_if e into from (is_no_memory (side_at e).cause)

goes_full : (e : Endpoint) (into from : List ℕ) → Goes e into from (with_entry full e) into from
goes_full e into from = goes_still e into from full (record { given = tt; none_in = refl; none_out = refl })

pub goes_begun : (e : Endpoint) (into from : List ℕ) (x : Entry) → IsStill x → (r : Begun) → Goes e into from (begun_by r x e) into from
goes_begun e into from x still begun.Started = goes_still e into from x still
goes_begun e into from x still begun.Answered = goes_still e into from x still
goes_begun e into from x still begun.NotHeld = stays
goes_begun e into from x still begun.Full = goes_full e into from
goes_begun e into from x still begun.Gone = stays
goes_begun e into from x still begun.NoMemory = goes_lost e into from

pub goes_made : (e : Endpoint) (into from : List ℕ) (x : Entry) → IsStill x → (r : Made) → Goes e into from (made_by r x e) into from
goes_made e into from x still (making.Made oid) = goes_still e into from x still
goes_made e into from x still making.Full = goes_full e into from
goes_made e into from x still making.Gone = stays
goes_made e into from x still making.NoMemory = goes_lost e into from

pub goes_applied : (e : Endpoint) (into from tid : List ℕ) (r : Result Unit ApplyError) → Goes e into from (applied_by r tid e) into from
goes_applied e into from tid (Ok u) = goes_still e into from (applied tid) (record { given = tt; none_in = refl; none_out = refl })
goes_applied e into from tid (Err (applying.Stale now)) = stays
goes_applied e into from tid (Err applying.Full) = goes_full e into from
goes_applied e into from tid (Err applying.NoMemory) = goes_lost e into from

-- a step of a root
pub goes_any : (e : Endpoint) (into from : List ℕ) (o : Option Entry) → ((x : Entry) → o ≡ Some x → IsStill x) → Goes e into from (with_any o e) into from
goes_any e into from None still = stays
goes_any e into from (Some x) still = goes_still e into from x (still x refl)

-- bytes that come in were next, and leave what is on its way
pub goes_taking : (e : Endpoint) (into from bytes : List ℕ) → bytes ≡ take (length bytes) into → Goes e into from (taking bytes e) (drop (length bytes) into) from
goes_taking e into from [] next = stays
goes_taking e into from (b ∷ bytes) next = subst (λ ys. Goes e into from (with_entry (fed (b ∷ bytes)) e) (drop (length (b ∷ bytes)) into) ys) (append-nil from) (enters (fed (b ∷ bytes)) tt next)

-- a piece that was fed: as much of it is taken as the answer says, and it never breaks the bridge
pub goes_fed : (e : Endpoint) (into from bytes : List ℕ) → bytes ≡ take (length bytes) into → (r : Fed) → ((n : ℕ) → r ≡ feeding.Taken n → n ≡ length bytes) → ((why : Reason) (place : ℕ) → r ≡ feeding.Broken why place → ⊥)
    → Goes e into from (fed_by r bytes e) (drop (taken_with r) into) from
goes_fed e into from bytes next (feeding.Taken n) count whole = subst (λ k. Goes e into from (taking bytes e) (drop k into) from) (sym (count n refl)) (goes_taking e into from bytes next)
goes_fed e into from bytes next (feeding.Broken why place) count whole = absurd (whole why place refl)
goes_fed e into from bytes next feeding.Full count whole = goes_full e into from
goes_fed e into from bytes next feeding.Gone count whole = stays
goes_fed e into from bytes next feeding.NoMemory count whole = goes_lost e into from

-- those that go out are on their way behind the others
pub goes_draining : (e : Endpoint) (into from bytes : List ℕ) → Goes e into from (draining bytes e) into (from ++ bytes)
goes_draining e into from [] = subst (λ ys. Goes e into from e into ys) (sym (append-nil from)) stays
goes_draining e into from (b ∷ bytes) = enters (drained (b ∷ bytes)) tt refl
