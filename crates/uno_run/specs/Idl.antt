-- The promise of `idl`: canonical UNOIDL of the registry whose text the named file is, and what each other status says.
use Rattle.std.specs.Prelude.{◌≡◌, ◌≢◌, ◌⊎◌, ◌<◌, ◌≤◌, ℕ, List, length, Option, Some, None}
use Rattle.std.specs.Io.KnownBytes.{Appends}
use Rattle.uno_base.specs.Causes.{Rose}
use Rattle.uno_io.specs.Files.{Stored, read_at}
use Rattle.uno_io.specs.Fronts.{AppendsFront}
use Rattle.uno_model.specs.Entities.{Entity}
use Rattle.registry_text_model.specs.Canonical.{canonical_unoidl}
use Rattle.registry_text_model.specs.Reading.{IsBadLine, IsOutOfOrder}
use Rattle.registry_reading.specs.Judging.{IsBroken}
use Rattle.registry_reading.specs.Verdicts.{IsAccepted}
use Rattle.command_words.specs.Names.{Text}
use Rattle.uno_run.specs.declared.reason.RegistryReason.{RegistryReason}
use Rattle.uno_run.specs.declared.reason.RegistryReason.TheVariants as reason
use Rattle.uno_run.specs.declared.status.Status.{Status}
use Rattle.uno_run.specs.declared.status.Status.TheVariants.{Done, BadRegistry, ReadFault, WriteFault, NoFile, NoMemory}

-- the text is refused at this line for this reason: it is too long; or a line is the first wrong one, or out of order; or it says a registry that breaks this
-- rule, and none before it, first at the entity of this line
abbrev pub IsRefused : List ℕ → ℕ → RegistryReason → Type 0
IsRefused text line reason.TooLong = (line ≡ 0) × (4194304 < length text)
IsRefused text line reason.BadLine = IsBadLine text line × (length text ≤ 4194304)
IsRefused text line reason.Order = IsOutOfOrder text line × (length text ≤ 4194304)
IsRefused text line (reason.Rule number) = IsBroken text number line × (length text ≤ 4194304)

-- the text is that of this registry, and is not too long
pub record IsRegistryText (text : List ℕ) (registry : List Entity) : Type 0 where
  pub accepted : IsAccepted text registry
  pub short : length text ≤ 4194304

-- where the store tells its files, this is what it tells of the file of the name
abbrev pub Tells : Option Stored → Text → Option (List ℕ) → Type 0
Tells store name read = (files : Stored) → store ≡ Some files → read_at name files ≡ read

-- the file is the text of this registry
pub record IsOfFile (store : Option Stored) (name : Text) (registry : List Entity) : Type 0 where
  pub text : List ℕ
  pub told : Tells store name (Some text)
  pub is_text : IsRegistryText text registry

-- the output took the canonical UNOIDL of the registry whose text the file is
pub record WroteAll (store : Option Stored) (name : Text) (old new : Option (List ℕ)) : Type 0 where
  pub registry : List Entity
  pub is_of : IsOfFile store name registry
  pub written : Appends old new (canonical_unoidl registry)

-- it took a prefix of it
pub record WroteFront (store : Option Stored) (name : Text) (old new : Option (List ℕ)) : Type 0 where
  pub registry : List Entity
  pub is_of : IsOfFile store name registry
  pub written : AppendsFront old new (canonical_unoidl registry)

-- the file is a text that is refused
pub record Refused (store : Option Stored) (name : Text) (line : ℕ) (reason : RegistryReason) : Type 0 where
  pub text : List ℕ
  pub told : Tells store name (Some text)
  pub refused : IsRefused text line reason

-- the statuses of `idl`
abbrev pub EndsPrinting : Status → Type 0
EndsPrinting Done = Unit
EndsPrinting (BadRegistry file line reason) = Unit
EndsPrinting ReadFault = Unit
EndsPrinting WriteFault = Unit
EndsPrinting (NoFile file) = Unit
EndsPrinting NoMemory = Unit
EndsPrinting status = ⊥

-- a run of `idl` on the file of this name, over a store of files and an output
pub record IdlRun {F O : Type 0} (stored : F → Option Stored) (reads : F → ℕ) (taken : O → Option (List ℕ)) (writes : O → ℕ) (name : Text)
    (files_old files_new : F) (output_old output_new : O) (status : Status) : Type 0 where
  pub only : EndsPrinting status
  pub done : status ≡ Done → WroteAll (stored files_old) name (taken output_old) (taken output_new)
  pub refused : (file line : ℕ) (reason : RegistryReason) → status ≡ BadRegistry file line reason → (file ≡ 0) × Refused (stored files_old) name line reason
  pub read_fault : status ≡ ReadFault → Rose (reads files_old) (reads files_new)
  pub write_fault : status ≡ WriteFault → Rose (writes output_old) (writes output_new) × WroteFront (stored files_old) name (taken output_old) (taken output_new)
  pub no_file : (file : ℕ) → status ≡ NoFile file → (file ≡ 0) × Tells (stored files_old) name None
  pub no_read_fault : status ≢ ReadFault → reads files_new ≡ reads files_old
  pub no_write_fault : status ≢ WriteFault → writes output_new ≡ writes output_old
  pub silent : status ≢ Done → status ≢ WriteFault → output_new ≡ output_old
  -- where the store has there the text of a registry that keeps the rules, and neither it nor the output fails
  pub well : (files : Stored) (text : List ℕ) (registry : List Entity) → stored files_old ≡ Some files → read_at name files ≡ Some text
      → IsRegistryText text registry → ¬ Rose (reads files_old) (reads files_new) → ¬ Rose (writes output_old) (writes output_new) → (status ≡ Done) ⊎ (status ≡ NoMemory)
