-- What a contract sees of an endpoint, and the side to which its journal leads.
use Rattle.std.specs.Prelude.{ℕ, List, [], ◌∷◌, ◌++◌}
use Rattle.std.specs.Option.{unwrap_or}
use Rattle.uno_model.specs.Sound.{IsSound}
use Rattle.plan_model.specs.Keeps.{KeepsTheRules}
use Rattle.plan_typing.specs.Effects.{NamesDiffer}
use Rattle.bridge_journal.specs.Logs.{Log}
use Rattle.bridge_model.specs.Entries.{Entry}
use Rattle.bridge_model.specs.Histories.{Told, nothing_told, replay}
use Rattle.bridge_model.specs.Settings.{Setting}
use Rattle.bridge_model.specs.Sides.{Side}
use Rattle.bridge_setting.specs.Settings.{setting_of}
use Rattle.bridge_setting.specs.declared.setting.Setting.{Setting as Configured}

-- what it is set up with, as code has it; the entries of its journal, oldest first; the mark of each, and that of those to come
pub record Endpoint : Type 0 where
  pub configured : Configured
  pub entries : List Entry
  pub stamps : List ℕ
  pub stamp : ℕ

-- what is seen of a journal
abbrev pub seen : Configured → Log → Endpoint
seen c l = record { configured = c; entries = l.entries; stamps = l.stamps; stamp = l.stamp }

abbrev pub opening_endpoint : Configured → Endpoint
opening_endpoint c = record { configured = c; entries = []; stamps = []; stamp = 0 }

abbrev pub setting_at : Endpoint → Setting
setting_at e = setting_of e.configured

-- what the entries told, one by one from the opening on: the messages and bytes that came in and went out, and the side behind them
unfoldable pub told_at : Endpoint → Told
told_at e = unwrap_or (replay (setting_at e) e.entries) (nothing_told (setting_at e))

-- the side to which the journal leads
unfoldable pub side_at : Endpoint → Side
side_at e = (told_at e).side

-- an entry more, with its mark
abbrev pub with_entry : Entry → Endpoint → Endpoint
with_entry x e = record e { entries = e.entries ++ x ∷ []; stamps = e.stamps ++ e.stamp ∷ [] }

-- another mark for those to come
abbrev pub stamped : ℕ → Endpoint → Endpoint
stamped next e = record e { stamp = next }

-- a sound registry in which no two functions of an interface and no two parameters have one name, and a plan that keeps the rules in it
pub record IsSetUp (g : Setting) : Type 0 where
  pub sound : IsSound g.registry
  pub names : NamesDiffer g.registry
  pub rules : KeepsTheRules g.registry g.plan
