-- What is told of a declaration.
use Rattle.idl_entities.specs.Telling.{Telling}
use Rattle.idl_meant.specs.Resolving.{all_in}
use Rattle.idl_names.specs.Collected.{declared_of}
use Rattle.idl_names.specs.declared.declaration.Declared.{Declared}
use Rattle.idl_names.specs.declared.resolving.Resolved.{Resolved}
use Rattle.registry_reading_model.specs.Kept.{limited}

-- of what is beyond all limits no more is kept than shows it
abbrev pub telling_in : Resolved → Declared → Telling
telling_in r d = record { all = all_in r; declared = declared_of r.paths d; kept = limited }
