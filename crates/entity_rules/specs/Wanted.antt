-- The kind of entity that a place asks, as a test of what an entity is.
use Rattle.std.specs.Prelude.{Bool, Option, None, Some}
use Rattle.uno_model.specs.Entities.{Body}
use Rattle.uno_model.specs.Kinds.{Kind}
use Rattle.uno_model.specs.Kinds as kd
use Rattle.uno_model.specs.Sound.{is_interface, is_struct, is_exception, is_enum, is_service}
use Rattle.entity_rules.specs.declared.there.Wanted.{Wanted}
use Rattle.entity_rules.specs.declared.there.Wanted.TheVariants as wanted

-- what an entity is, is of this kind
abbrev pub is_wanted : Wanted → Body → Bool
is_wanted wanted.Interface = is_interface
is_wanted wanted.Struct = is_struct
is_wanted wanted.Exception = is_exception
is_wanted wanted.Enum = is_enum
is_wanted wanted.Service = is_service

-- the kind of entity that a type names itself
abbrev pub kind_wanted : Kind → Option Wanted
kind_wanted (kd.enum name) = Some wanted.Enum
kind_wanted (kd.struct name) = Some wanted.Struct
kind_wanted (kd.exception name) = Some wanted.Exception
kind_wanted (kd.interface name) = Some wanted.Interface
kind_wanted _ = None
