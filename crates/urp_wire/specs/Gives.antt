-- When a call gives what the verdict on the bytes gives, its value or its fault, unless memory ran out.
use Rattle.std.specs.Prelude.{◌≡◌, Result, Ok, Err}
use Rattle.urp_cache.specs.declared.read_caches.ReadCaches.{ReadCaches}
use Rattle.urp_model.specs.Tables.{Tables}
use Rattle.urp_model.specs.declared.fault.Fault.{Fault}
use Rattle.urp_model.specs.declared.fault.Fault.TheVariants as fault
use Rattle.urp_wire.specs.declared.error.WireError.{WireError}
use Rattle.urp_wire.specs.declared.error.WireError.TheVariants as error

-- an error is the verdict's fault, or want of memory, which says nothing of it
abbrev pub Fails : {A : Type 0} → WireError → Result A Fault → Type 0
Fails error.NoMemory verdict = Unit
Fails error.Short verdict = verdict ≡ Err fault.Short
Fails (error.Bad reason) verdict = verdict ≡ Err (fault.Bad reason)

-- what is read, as view sees it, is what the verdict gives, and an error says of the verdict what fails says
abbrev pub GivesOr : {E X A : Type 0} → (E → Result A Fault → Type 0) → (X → A) → Result X E → Result A Fault → Type 0
GivesOr fails view (Ok x) verdict = verdict ≡ Ok (view x)
GivesOr fails view (Err e) verdict = fails e verdict

abbrev pub Gives : {X A : Type 0} → (X → A) → Result X WireError → Result A Fault → Type 0
Gives view result verdict = GivesOr Fails view result verdict

-- what the slots mean by the three caches of a reader
abbrev pub tables_of : ReadCaches → Tables
tables_of caches = record { types = caches.types; oids = caches.oids; tids = caches.tids }
