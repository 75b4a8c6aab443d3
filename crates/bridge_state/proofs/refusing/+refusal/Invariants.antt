use Rattle.std.specs.Prelude.{◌≡◌, drop}
use Rattle.uno_model.specs.Values.{refs_in}
use Rattle.uno_values.specs.Values.{plains_of}
use Rattle.bridge_model.specs.Receiving.{refs_refusal}
use Rattle.bridge_setting.specs.Settings.{setting_of}
use Rattle.bridge_state.proofs.refusing.+refusal.Given as goal

-- the rest is refused for what all are
abbrev pub invariant-each_refusal-loop-value : goal.invariant-each_refusal-loop-value
invariant-each_refusal-loop-value l =
    refs_refusal (setting_of l.setting) l.tables.tables (refs_in (plains_of (drop l.value-index l.values))) ≡ refs_refusal (setting_of l.setting) l.tables.tables (refs_in (plains_of l.values))
