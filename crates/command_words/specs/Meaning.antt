-- What an answer says of what is meant.
use Rattle.std.specs.Prelude.{◌≡◌, Option, Some, None, Result, Ok, Err}
use Rattle.command_words.specs.declared.error.WordsError.{WordsError}
use Rattle.command_words.specs.declared.error.WordsError.TheVariants.{NoMemory, Words}

-- the answer is what is meant, `Words` where nothing is, or want of memory
abbrev pub Means : {A : Type 0} → Option A → Result A WordsError → Type 0
Means meant (Ok answer) = meant ≡ Some answer
Means meant (Err Words) = meant ≡ None
Means meant (Err NoMemory) = Unit {0}
