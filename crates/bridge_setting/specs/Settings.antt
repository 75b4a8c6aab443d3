-- What an end is set up with, as the definition of an end has it.
use Rattle.bridge_model.specs.Settings as plain
use Rattle.plan_types.specs.Plans.{plan_of}
use Rattle.bridge_setting.specs.declared.setting.Setting.{Setting}

abbrev pub setting_of : Setting → plain.Setting
setting_of s = record { tag = s.names.tag; registry = s.registry; plan = plan_of s.plan }
