-- What an entry keeps: messages come by bytes alone, a bridge that has ended stays so and says nothing, and entries are counted one by one.
use Rattle.std.proofs.Common.{◌≡◌, refl, true, []}
use Rattle.bridge_model.specs.Entries.{Entry, fed, ended, failed, asked, called, queried, made, dropped, applied, took, reaped, drained, disposed, full, no_memory, counts}
use Rattle.bridge_model.specs.Settings.{Setting}
use Rattle.bridge_model.specs.Sides.{Side}
use Rattle.bridge_model.specs.Steps.{does}

-- only bytes bring messages
pub brings_by_bytes : (g : Setting) (e : Entry) (s : Side) → counts e ≡ true → (does g e s).got ≡ []
unfolding does
brings_by_bytes g (fed b) s is = absurd (cc)
brings_by_bytes g ended s is = refl
brings_by_bytes g failed s is = refl
brings_by_bytes g (asked root name wanted) s is = refl
brings_by_bytes g (called root oid face function args) s is = refl
brings_by_bytes g (queried root oid face wanted) s is = refl
brings_by_bytes g (made root behaviour wanted) s is = refl
brings_by_bytes g (dropped root oid face) s is = refl
brings_by_bytes g (applied tid) s is = refl
brings_by_bytes g (took root) s is = refl
brings_by_bytes g (reaped object) s is = refl
brings_by_bytes g (drained b) s is = refl
brings_by_bytes g disposed s is = refl
brings_by_bytes g full s is = refl
brings_by_bytes g no_memory s is = refl
