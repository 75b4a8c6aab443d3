-- The steps of `idl`: a text is written, that of a registry, that of a text of a registry.
use Rattle.std.specs.Prelude.{◌≡◌, ℕ, List, Option}
use Rattle.std.specs.Io.KnownBytes.{Appends}
use Rattle.uno_base.specs.Causes.{Rose}
use Rattle.uno_io.specs.Fronts.{AppendsFront}
use Rattle.uno_model.specs.Entities.{Entity}
use Rattle.registry_text_model.specs.Canonical.{canonical_unoidl}
use Rattle.registry_reading.specs.declared.error.RegError.{RegError}
use Rattle.registry_reading.specs.declared.error.RegError.TheVariants as error
use Rattle.uno_run.specs.Idl.{IsRefused, IsRegistryText}
use Rattle.uno_run.specs.declared.reason.RegistryReason.TheVariants as reason
use Rattle.uno_run.specs.declared.status.Status.{Status}
use Rattle.uno_run.specs.declared.status.Status.TheVariants.{Done, BadRegistry, WriteFault, NoMemory}

-- the status of a refused text, where the command names one file
abbrev pub refused : RegError → Status
refused error.NoMemory = NoMemory
refused (error.BadLine line) = BadRegistry 0 line reason.BadLine
refused (error.Order line) = BadRegistry 0 line reason.Order
refused (error.Rule rule line) = BadRegistry 0 line (reason.Rule rule)
refused error.TooLong = BadRegistry 0 0 reason.TooLong

-- all of the text was written, or a prefix of it, where the output failed
abbrev pub TextWritten : List ℕ → Option (List ℕ) → Option (List ℕ) → ℕ → ℕ → Status → Type 0
TextWritten text old new before now Done = Appends old new text × (now ≡ before)
TextWritten text old new before now WriteFault = AppendsFront old new text × Rose before now
TextWritten text old new before now _ = ⊥

-- or nothing was done, out of memory
abbrev pub RegistryPrinted : List Entity → Option (List ℕ) → Option (List ℕ) → ℕ → ℕ → Status → Type 0
RegistryPrinted registry old new before now NoMemory = (new ≡ old) × (now ≡ before)
RegistryPrinted registry old new before now status = TextWritten (canonical_unoidl registry) old new before now status

-- the registry of a text
pub record Printed (text : List ℕ) (old new : Option (List ℕ)) (before now : ℕ) (status : Status) : Type 0 where
  pub registry : List Entity
  pub is_text : IsRegistryText text registry
  pub printed : TextWritten (canonical_unoidl registry) old new before now status

-- the registry of the text was printed, or the text was refused, or memory was wanted
abbrev pub TextPrinted : List ℕ → Option (List ℕ) → Option (List ℕ) → ℕ → ℕ → Status → Type 0
TextPrinted text old new before now Done = Printed text old new before now Done
TextPrinted text old new before now WriteFault = Printed text old new before now WriteFault
TextPrinted text old new before now (BadRegistry file line reason) = (file ≡ 0) × IsRefused text line reason × (new ≡ old) × (now ≡ before)
TextPrinted text old new before now NoMemory = (new ≡ old) × (now ≡ before)
TextPrinted text old new before now _ = ⊥
