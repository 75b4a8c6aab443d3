-- Letting go while the bridge stands, and after its end, where nothing is released.
use Rattle.std.specs.Prelude.{Bool, if◌then◌else◌}
use Rattle.uno_model.specs.Values.{Ref}
use Rattle.table_model.specs.declared.holder.Holder.{Holder}
use Rattle.bridge_model.specs.References.{lets_go, loses}
use Rattle.bridge_model.specs.Settings.{Setting}
use Rattle.bridge_model.specs.Sides.{Tables}

abbrev pub goes : Setting → Bool → Holder → Ref → Tables → Tables
goes g standing h r t = if standing then lets_go g h r t else loses h r t
