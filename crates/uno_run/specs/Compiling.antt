-- The steps of `compile`: files are read one after the other, and then the text of the registry that they mean is written.
use Rattle.std.specs.Prelude.{◌≡◌, ℕ, List, [], ◌∷◌, ◌++◌, map, vec_items, Option, None, Some, Ok, Err}
use Rattle.uno_base.specs.Causes.{Rose}
use Rattle.uno_io.specs.Files.{Stored}
use Rattle.uno_model.specs.Entities.{Entity}
use Rattle.registry_text_model.specs.Lines.{registry_text}
use Rattle.idl_compiled_model.specs.Compiling.{Refusal, IsCompiled}
use Rattle.idl_compile.specs.declared.error.CompileError.{CompileError}
use Rattle.idl_compile.specs.declared.error.CompileError.TheVariants as error
use Rattle.command_words.specs.Names.{Text}
use Rattle.uno_run.specs.Compile.{Lacks, refused_as}
use Rattle.uno_run.specs.Idl.{Tells}
use Rattle.uno_run.specs.Printing.{TextWritten}
use Rattle.uno_run.specs.declared.status.Status.{Status}
use Rattle.uno_run.specs.declared.status.Status.TheVariants.{Done, BadUnoidl, ReadFault, WriteFault, NoFile, NoMemory}

-- ---- files

-- the text of the file of this name stands behind those that were read
pub record AddsText (store : Option Stored) (name : Text) (old new : List (List ℕ)) : Type 0 where
  pub text : List ℕ
  pub told : Tells store name (Some text)
  pub added : new ≡ old ++ text ∷ []

-- one of these files is not there, or the store failed, or memory was wanted
abbrev pub OneUnread : Option Stored → List Text → (before now : ℕ) → Status → Type 0
OneUnread store names before now (NoFile file) = Lacks store names file × (now ≡ before)
OneUnread store names before now ReadFault = Rose before now
OneUnread store names before now NoMemory = now ≡ before
OneUnread store names before now _ = ⊥

-- ---- texts

-- the status of refused texts
abbrev pub status_of : CompileError → Status
status_of error.NoMemory = NoMemory
status_of (error.Refused place reason) = BadUnoidl place.file place.byte reason

-- the text of a registry was written, or a prefix of it, where the output failed; or nothing was done, out of memory
abbrev pub RegistryWritten : List Entity → Option (List ℕ) → Option (List ℕ) → ℕ → ℕ → Status → Type 0
RegistryWritten registry old new before now NoMemory = (new ≡ old) × (now ≡ before)
RegistryWritten registry old new before now status = TextWritten (registry_text registry) old new before now status

-- of the registry that texts mean together
pub record Written (texts : List (List ℕ)) (old new : Option (List ℕ)) (before now : ℕ) (status : Status) : Type 0 where
  pub registry : List Entity
  pub compiled : IsCompiled texts (Ok registry)
  pub written : TextWritten (registry_text registry) old new before now status

-- the texts are refused, and the status tells for what
pub record AreRefused (texts : List (List ℕ)) (status : Status) : Type 0 where
  pub refusal : Refusal
  pub compiled : IsCompiled texts (Err refusal)
  pub is_told : status ≡ refused_as refusal

-- the text of their registry was written, or they were refused, or memory was wanted
abbrev pub TextsCompiled : List (List ℕ) → Option (List ℕ) → Option (List ℕ) → ℕ → ℕ → Status → Type 0
TextsCompiled texts old new before now Done = Written texts old new before now Done
TextsCompiled texts old new before now WriteFault = Written texts old new before now WriteFault
TextsCompiled texts old new before now (BadUnoidl file byte reason) = AreRefused texts (BadUnoidl file byte reason) × (new ≡ old) × (now ≡ before)
TextsCompiled texts old new before now NoMemory = (new ≡ old) × (now ≡ before)
TextsCompiled texts old new before now _ = ⊥
