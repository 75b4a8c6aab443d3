-- An endpoint without its marks does what it does with them: entries are made alike, and its side is the same.
use Rattle.std.proofs.Common.{◌≡◌, refl, sym, ap, ◌∙◌, ℕ, true, false, Bool, List, [], ◌∷◌, ◌++◌, map, Result, Ok, Err, if◌then◌else◌}
use Rattle.bridge_endpoint.specs.Entering.{applied_by, begun_by, draining, fed_by, made_by, out_of_memory, taking}
use Rattle.bridge_endpoint.specs.Journals.{Endpoint, side_at, told_at, with_entry}
use Rattle.bridge_endpoint.specs.declared.answers.ApplyError.{ApplyError}
use Rattle.bridge_endpoint.specs.declared.answers.ApplyError.TheVariants as applying
use Rattle.bridge_endpoint.specs.declared.answers.Begun.{Begun}
use Rattle.bridge_endpoint.specs.declared.answers.Begun.TheVariants as begun
use Rattle.bridge_endpoint.specs.declared.answers.Fed.{Fed}
use Rattle.bridge_endpoint.specs.declared.answers.Fed.TheVariants as feeding
use Rattle.bridge_endpoint.specs.declared.answers.Made.{Made}
use Rattle.bridge_endpoint.specs.declared.answers.Made.TheVariants as making
use Rattle.bridge_model.specs.Entries.{Entry, no_memory}
use Rattle.bridge_model.specs.Steps.{is_no_memory}
use Rattle.bridge_world.specs.Joined.{unmarked}

abbrev pub unmark : Endpoint → Endpoint
unmark e = unmarked e.configured e.entries

zeros_more : (es : List Entry) (x : Entry) → map {B = ℕ} (λ y. 0) (es ++ x ∷ []) ≡ map {B = ℕ} (λ y. 0) es ++ 0 ∷ []
zeros_more [] x = refl
zeros_more (y ∷ es) x = ap (λ ns. 0 ∷ ns) (zeros_more es x)

pub unmark_more : (x : Entry) (e : Endpoint) → unmark (with_entry x e) ≡ with_entry x (unmark e)
unmark_more x e = ap (λ ns. record { configured = e.configured; entries = e.entries ++ x ∷ []; stamps = ns; stamp = 0 }) (zeros_more e.entries x)

unmark_if : (b : Bool) (e : Endpoint) → unmark (if b then e else with_entry no_memory e) ≡ (if b then unmark e else with_entry no_memory (unmark e))
unmark_if true e = refl
unmark_if false e = unmark_more no_memory e

-- want of memory ends it alike, since its side is the same
pub same_told : (e : Endpoint) → told_at (unmark e) ≡ told_at e
unfolding told_at
same_told e = refl

pub same_side : (e : Endpoint) → side_at (unmark e) ≡ side_at e
unfolding side_at
same_side e = ap (λ t. t.side) (same_told e)

pub unmark_lost : (e : Endpoint) → unmark (out_of_memory e) ≡ out_of_memory (unmark e)
unmark_lost e =
    unmark_if (is_no_memory (side_at e).cause) e
    ∙ ap (λ s. if is_no_memory s.cause then unmark e else with_entry no_memory (unmark e)) (sym (same_side e))

pub unmark_taking : (bytes : List ℕ) (e : Endpoint) → unmark (taking bytes e) ≡ taking bytes (unmark e)
unmark_taking [] e = refl
unmark_taking (b ∷ bytes) e = unmark_more _ e

pub unmark_draining : (bytes : List ℕ) (e : Endpoint) → unmark (draining bytes e) ≡ draining bytes (unmark e)
unmark_draining [] e = refl
unmark_draining (b ∷ bytes) e = unmark_more _ e

pub unmark_fed : (fed : Fed) (bytes : List ℕ) (e : Endpoint) → unmark (fed_by fed bytes e) ≡ fed_by fed bytes (unmark e)
unmark_fed (feeding.Taken n) bytes e = unmark_taking bytes e
unmark_fed (feeding.Broken why place) bytes e = unmark_taking bytes e
unmark_fed feeding.Full bytes e = unmark_more _ e
unmark_fed feeding.Gone bytes e = refl
unmark_fed feeding.NoMemory bytes e = unmark_lost e

pub unmark_begun : (b : Begun) (x : Entry) (e : Endpoint) → unmark (begun_by b x e) ≡ begun_by b x (unmark e)
unmark_begun begun.Started x e = unmark_more x e
unmark_begun begun.Answered x e = unmark_more x e
unmark_begun begun.NotHeld x e = refl
unmark_begun begun.Full x e = unmark_more _ e
unmark_begun begun.Gone x e = refl
unmark_begun begun.NoMemory x e = unmark_lost e

pub unmark_made : (m : Made) (x : Entry) (e : Endpoint) → unmark (made_by m x e) ≡ made_by m x (unmark e)
unmark_made (making.Made oid) x e = unmark_more x e
unmark_made making.Full x e = unmark_more _ e
unmark_made making.Gone x e = refl
unmark_made making.NoMemory x e = unmark_lost e

pub unmark_applied : (r : Result Unit ApplyError) (tid : List ℕ) (e : Endpoint) → unmark (applied_by r tid e) ≡ applied_by r tid (unmark e)
unmark_applied (Ok u) tid e = unmark_more _ e
unmark_applied (Err (applying.Stale now)) tid e = refl
unmark_applied (Err applying.Full) tid e = unmark_more _ e
unmark_applied (Err applying.NoMemory) tid e = unmark_lost e
