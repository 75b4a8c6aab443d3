-- An endpoint was served, or there was no memory for it.
use Rattle.std.specs.Prelude.{◌≡◌, ◌⊎◌, ℕ, List, Option}
use Rattle.bridge_model.specs.Settings.{Setting}
use Rattle.uno_run.specs.Answer.{IsIdle, Served}
use Rattle.uno_run.specs.declared.status.Status.{Status}
use Rattle.uno_run.specs.declared.status.Status.TheVariants.{NoMemory}

-- where there was none, nothing was done
abbrev pub ServedOrNot : {I O : Type 0} → (I → Option (List ℕ)) → (I → ℕ) → (O → Option (List ℕ)) → (O → ℕ) → Setting → I → I → O → O → Status → Type 0
ServedOrNot left reads taken writes g input_old input_new output_old output_new status =
    Served left reads taken writes g input_old input_new output_old output_new status ⊎ ((status ≡ NoMemory) × IsIdle input_old input_new output_old output_new)
