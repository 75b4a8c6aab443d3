-- What the reading of a text gives: what the verdict gives, unless memory ran out.
use Rattle.std.specs.Prelude.{◌≡◌, Result, Ok, Err}
use Rattle.literal_model.specs.Verdicts.{Wrong, bad, wrong_type}
use Rattle.literal_reading.specs.declared.read.TextError.{TextError}
use Rattle.literal_reading.specs.declared.read.TextError.TheVariants as error

abbrev pub RefusedBy : {Y : Type 0} → TextError → Result Y Wrong → Type 0
RefusedBy error.NoMemory verdict = Unit {0}
RefusedBy (error.BadLiteral place) verdict = verdict ≡ Err (bad place)
RefusedBy (error.WrongType place) verdict = verdict ≡ Err (wrong_type place)

abbrev pub Reads : {X Y : Type 0} → (X → Y) → Result X TextError → Result Y Wrong → Type 0
Reads view (Ok x) verdict = verdict ≡ Ok (view x)
Reads view (Err e) verdict = RefusedBy e verdict
