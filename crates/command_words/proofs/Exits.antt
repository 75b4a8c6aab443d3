-- What an answer means that is handed on.
use Rattle.std.proofs.Common.{◌≡◌, Option, None, sym}
use Rattle.std.specs.Prelude.{Result, Ok, Err, IsErr, IsErrAnd}
use Rattle.command_words.specs.Meaning.{Means}
use Rattle.command_words.specs.declared.error.WordsError.{WordsError}
use Rattle.command_words.specs.declared.error.WordsError.TheVariants.{NoMemory, Words}

-- an error that is handed on is `Words` where nothing is meant
pub refused_means : {A : Type 0} (meant : Option A) (r : Result A WordsError) (e : WordsError) → IsErr r × IsErrAnd r (λ f. f ≡ e) → (e ≡ Words → meant ≡ None) → Means meant r
refused_means meant (Ok x) e is none = let bad : ⊥ = cc in absurd bad
refused_means meant (Err Words) e is none = none (sym is.1)
refused_means meant (Err NoMemory) e is none = tt
