-- What is said of a text.
use Rattle.std.specs.Prelude.{◌≡◌, ◌⊎◌, ℕ, List, Err, true, ⊤}
use Rattle.std.specs.Str.{IsUtf8}
use Rattle.uno_model.specs.BuiltIn.{HasBuiltIn}
use Rattle.uno_model.specs.Entities.{Entity}
use Rattle.uno_model.specs.Registry.{IsRising}
use Rattle.registry_text_model.specs.Lines.{registry_text}
use Rattle.registry_text_model.specs.Reading.{IsBadLine, IsOutOfOrder}
use Rattle.registry_text_model.specs.Rules.{KeepsTheRules}
use Rattle.registry_reading_model.specs.Changes.{Change}
use Rattle.registry_reading_model.specs.States.{State, step, bad, out_of_order}
use Rattle.registry_reading.specs.Judging.{IsBroken}
use Rattle.registry_reading.specs.declared.error.RegError.{RegError}
use Rattle.registry_reading.specs.declared.error.RegError.TheVariants as error

-- why a line is refused where so much was read
abbrev pub IsAtLine : Change → State → List ℕ → ℕ → RegError → Type 0
IsAtLine c st line number (error.BadLine n) = (n ≡ number) × ((¬ IsUtf8 line) ⊎ (step true c st line ≡ Err bad))
IsAtLine c st line number (error.Order n) = (n ≡ number) × (step true c st line ≡ Err out_of_order)
IsAtLine c st line number error.NoMemory = ⊤
IsAtLine c st line number _ = ⊥

-- why the lines of a text are refused
abbrev pub IsOfLines : List ℕ → RegError → Type 0
IsOfLines bytes (error.BadLine line) = IsBadLine bytes line
IsOfLines bytes (error.Order line) = IsOutOfOrder bytes line
IsOfLines bytes error.NoMemory = ⊤
IsOfLines bytes _ = ⊥

-- why a text that is not too long is refused
abbrev pub IsRefusal : List ℕ → RegError → Type 0
IsRefusal bytes (error.BadLine line) = IsBadLine bytes line
IsRefusal bytes (error.Order line) = IsOutOfOrder bytes line
IsRefusal bytes (error.Rule number line) = IsBroken bytes number line
IsRefusal bytes error.NoMemory = ⊤
IsRefusal bytes error.TooLong = ⊥

-- the text is that of this registry, which keeps the rules
pub record IsAccepted (bytes : List ℕ) (reg : List Entity) : Type 0 where
  pub text : registry_text reg ≡ bytes
  pub keeps : KeepsTheRules reg
  pub rising : IsRising reg
  pub built_in : HasBuiltIn reg
