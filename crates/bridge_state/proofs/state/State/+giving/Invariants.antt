use Rattle.std.specs.Prelude.{◌≡◌, drop}
use Rattle.std.specs.List.{list_all}
use Rattle.uno_model.specs.Values.{refs_in}
use Rattle.uno_values.specs.Values.{plains_of}
use Rattle.bridge_setting.specs.Settings.{setting_of}
use Rattle.bridge_state.specs.Roots.{gives}
use Rattle.bridge_state.proofs.state.State.+giving.Given as goal

-- the rest passes where all do
abbrev pub invariant-gives_each-loop-value : goal.invariant-gives_each-loop-value
invariant-gives_each-loop-value l =
    list_all (gives (setting_of l.setting) l.root l.self.side.tables) (refs_in (plains_of (drop l.value-index l.values)))
    ≡ list_all (gives (setting_of l.setting) l.root l.self.side.tables) (refs_in (plains_of l.values))
