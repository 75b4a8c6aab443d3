-- The promise of `compile`: the text of the registry that the named files mean together, and what each other status says.
use Rattle.std.specs.Prelude.{◌≡◌, ◌≢◌, ◌⊎◌, ℕ, List, [], ◌∷◌, ◌++◌, length, Option, Some, None, Ok, Err}
use Rattle.uno_base.specs.Causes.{Rose}
use Rattle.uno_io.specs.Files.{Stored}
use Rattle.uno_model.specs.Entities.{Entity}
use Rattle.registry_text_model.specs.Lines.{registry_text}
use Rattle.idl_compiled_model.specs.Compiling.{Refusal, refused_at, IsCompiled}
use Rattle.idl_compile.specs.Refusing.{reason_of}
use Rattle.idl_compile.specs.declared.error.Reason.{Reason}
use Rattle.command_words.specs.Names.{Text}
use Rattle.uno_run.specs.Idl.{Tells}
use Rattle.uno_run.specs.Pair.{Wrote, WroteSome}
use Rattle.uno_run.specs.declared.status.Status.{Status}
use Rattle.uno_run.specs.declared.status.Status.TheVariants.{Done, BadUnoidl, ReadFault, WriteFault, NoFile, NoMemory}

-- ---- files

-- where the store tells its files, it has each of these texts under the name in its place
abbrev pub AllTell : Option Stored → List Text → List (List ℕ) → Type 0
AllTell store [] [] = Unit {0}
AllTell store [] (text ∷ texts) = ⊥
AllTell store (name ∷ names) [] = ⊥
AllTell store (name ∷ names) (text ∷ texts) = Tells store name (Some text) × AllTell store names texts

-- the store has no file of the name at this place, and those before it were read
pub record Lacks (store : Option Stored) (names : List Text) (place : ℕ) : Type 0 where
  pub before : List Text
  pub name : Text
  pub behind : List Text
  pub split : names ≡ before ++ name ∷ behind
  pub at : place ≡ length before
  pub texts : List (List ℕ)
  pub told : AllTell store before texts
  pub absent : Tells store name None

-- ---- what they come to

-- this is the text of the registry that the files mean together
pub record FilesCompiled (store : Option Stored) (names : List Text) (text : List ℕ) : Type 0 where
  pub texts : List (List ℕ)
  pub told : AllTell store names texts
  pub registry : List Entity
  pub compiled : IsCompiled texts (Ok registry)
  pub written : text ≡ registry_text registry

-- the status that tells a refusal: the file and the byte at which it stands, and its reason
abbrev pub refused_as : Refusal → Status
refused_as refusal = BadUnoidl (refused_at refusal).file (refused_at refusal).byte (reason_of refusal)

-- the files, all of which were read, are refused, and the status tells for what
pub record FilesRefused (store : Option Stored) (names : List Text) (status : Status) : Type 0 where
  pub texts : List (List ℕ)
  pub told : AllTell store names texts
  pub refusal : Refusal
  pub compiled : IsCompiled texts (Err refusal)
  pub is_told : status ≡ refused_as refusal

-- ---- a run

-- the statuses of `compile`
abbrev pub EndsCompiling : Status → Type 0
EndsCompiling Done = Unit
EndsCompiling (BadUnoidl file byte reason) = Unit
EndsCompiling ReadFault = Unit
EndsCompiling WriteFault = Unit
EndsCompiling (NoFile file) = Unit
EndsCompiling NoMemory = Unit
EndsCompiling status = ⊥

-- a run of `compile` on the files of these names, over a store of files and an output
pub record CompileRun {F O : Type 0} (stored : F → Option Stored) (reads : F → ℕ) (taken : O → Option (List ℕ)) (writes : O → ℕ) (names : List Text)
    (files_old files_new : F) (output_old output_new : O) (status : Status) : Type 0 where
  pub only : EndsCompiling status
  -- the output took the text of the registry that the files mean together
  pub done : status ≡ Done → Wrote (FilesCompiled (stored files_old) names) (taken output_old) (taken output_new)
  -- all files were read, and the refusal that counts is told
  pub refused : (file byte : ℕ) (reason : Reason) → status ≡ BadUnoidl file byte reason → FilesRefused (stored files_old) names status
  -- the first file that is not there ends the run, before any is judged
  pub no_file : (file : ℕ) → status ≡ NoFile file → Lacks (stored files_old) names file
  pub read_fault : status ≡ ReadFault → Rose (reads files_old) (reads files_new)
  pub no_read_fault : status ≢ ReadFault → reads files_new ≡ reads files_old
  pub write_fault : status ≡ WriteFault → Rose (writes output_old) (writes output_new)
      × WroteSome (FilesCompiled (stored files_old) names) (taken output_old) (taken output_new)
  pub no_write_fault : status ≢ WriteFault → writes output_new ≡ writes output_old
  pub silent : status ≢ Done → status ≢ WriteFault → output_new ≡ output_old
  -- where the store has files there that mean a registry together, and neither it nor the output fails
  pub well : (files : Stored) (texts : List (List ℕ)) (registry : List Entity) → stored files_old ≡ Some files → AllTell (Some files) names texts
      → IsCompiled texts (Ok registry)
      → ¬ Rose (reads files_old) (reads files_new) → ¬ Rose (writes output_old) (writes output_new) → (status ≡ Done) ⊎ (status ≡ NoMemory)
  -- where it has files there that are refused, and does not fail
  pub wrong : (files : Stored) (texts : List (List ℕ)) (refusal : Refusal) → stored files_old ≡ Some files → AllTell (Some files) names texts
      → IsCompiled texts (Err refusal)
      → ¬ Rose (reads files_old) (reads files_new) → (status ≡ refused_as refusal) ⊎ (status ≡ NoMemory)
