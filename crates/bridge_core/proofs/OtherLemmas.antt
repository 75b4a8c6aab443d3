-- A run at an endpoint is one behind each entry that is none of its root's.
use Rattle.std.proofs.Common.{◌≡◌, refl, sym, subst, ℕ, Bool, true, false, List, [], ◌∷◌, Result, Ok, Err, if◌then◌else◌}
use Rattle.plan_model.specs.Roots.{Run}
use Rattle.bridge_model.specs.Entries.{Entry, fed, applied, full, no_memory}
use Rattle.bridge_model.specs.RootRuns.{is_of_root, another}
use Rattle.bridge_model.specs.Steps.{is_no_memory}
use Rattle.bridge_endpoint.specs.Entering.{applied_by, fed_by, taking}
use Rattle.bridge_endpoint.specs.Journals.{Endpoint, side_at, with_entry}
use Rattle.bridge_endpoint.specs.declared.answers.ApplyError.{ApplyError}
use Rattle.bridge_endpoint.specs.declared.answers.ApplyError.TheVariants as applying
use Rattle.bridge_endpoint.specs.declared.answers.Fed.{Fed}
use Rattle.bridge_endpoint.specs.declared.answers.Fed.TheVariants as feeding
use Rattle.bridge_core.specs.Standing.{IsRunAt}

pub other_stays : (e : Endpoint) (x : Entry) (r : Run) → is_of_root r.root x ≡ false → IsRunAt e r → IsRunAt (with_entry x e) r
other_stays e x r other run = record { root = run.root; stands = another x other run.stands; named = run.named }

lost_stays : (e : Endpoint) (r : Run) (already : Bool) → IsRunAt e r → IsRunAt (if already then e else with_entry no_memory e) r
lost_stays e r true run = run
lost_stays e r false run = other_stays e no_memory r refl run

-- behind a piece of the input
taken_stays : (e : Endpoint) (bytes : List ℕ) (r : Run) → IsRunAt e r → IsRunAt (taking bytes e) r
taken_stays e [] r run = run
taken_stays e (b ∷ bytes) r run = other_stays e (fed (b ∷ bytes)) r refl run

fed_by_stays : (a : Fed) (e : Endpoint) (bytes : List ℕ) (r : Run) → IsRunAt e r → IsRunAt (fed_by a bytes e) r
fed_by_stays (feeding.Taken n) e bytes r run = taken_stays e bytes r run
fed_by_stays (feeding.Broken why place) e bytes r run = taken_stays e bytes r run
fed_by_stays feeding.Full e bytes r run = other_stays e full r refl run
fed_by_stays feeding.Gone e bytes r run = run
fed_by_stays feeding.NoMemory e bytes r run = lost_stays e r (is_no_memory (side_at e).cause) run

pub fed_stays : (a : Fed) (e f : Endpoint) (bytes : List ℕ) → f ≡ fed_by a bytes e → (r : Run) → IsRunAt e r → IsRunAt f r
fed_stays a e f bytes is r run = subst (λ (z : Endpoint). IsRunAt z r) (sym is) (fed_by_stays a e bytes r run)

-- behind a statement of a method
applied_by_stays : (a : Result Unit ApplyError) (e : Endpoint) (tid : List ℕ) (r : Run) → IsRunAt e r → IsRunAt (applied_by a tid e) r
applied_by_stays (Ok u) e tid r run = other_stays e (applied tid) r refl run
applied_by_stays (Err (applying.Stale now)) e tid r run = run
applied_by_stays (Err applying.Full) e tid r run = other_stays e full r refl run
applied_by_stays (Err applying.NoMemory) e tid r run = lost_stays e r (is_no_memory (side_at e).cause) run

pub applied_stays : (a : Result Unit ApplyError) (e f : Endpoint) (tid : List ℕ) → f ≡ applied_by a tid e → (r : Run) → IsRunAt e r → IsRunAt f r
applied_stays a e f tid is r run = subst (λ (z : Endpoint). IsRunAt z r) (sym is) (applied_by_stays a e tid r run)
