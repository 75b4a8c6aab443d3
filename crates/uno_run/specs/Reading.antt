-- What an unread file answers.
use Rattle.std.specs.Prelude.{◌≡◌, ℕ, Option, None}
use Rattle.uno_base.specs.Causes.{Rose}
use Rattle.uno_io.specs.Files.{Stored}
use Rattle.command_words.specs.Names.{Text}
use Rattle.uno_run.specs.Idl.{Tells}
use Rattle.uno_run.specs.declared.status.Status.{Status}
use Rattle.uno_run.specs.declared.status.Status.TheVariants.{ReadFault, NoFile, NoMemory}

-- the store has no file of the name at this place of the words, it failed, or memory was wanted
abbrev pub Unread : Option Stored → Text → (place before now : ℕ) → Status → Type 0
Unread store name place before now (NoFile file) = (file ≡ place) × Tells store name None × (now ≡ before)
Unread store name place before now ReadFault = Rose before now
Unread store name place before now NoMemory = now ≡ before
Unread store name place before now _ = ⊥
