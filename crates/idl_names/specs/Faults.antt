-- What is wrong with names, as code has it, and the fault that comes first.
use Rattle.std.specs.Prelude.{◌≡◌, false, List, ◌++◌, map, Option, None, Some, Contains, option_map, if◌then◌else◌}
use Rattle.idl_meaning_model.specs.NameFaults as model
use Rattle.idl_model.specs.Places.{Place, is_before}
use Rattle.idl_names.specs.declared.fault.Fault.{Fault}
use Rattle.idl_names.specs.declared.fault.NameFault.{NameFault}
use Rattle.idl_names.specs.declared.fault.NameFault.TheVariants as why
use Rattle.idl_trees.specs.Names.{place_of}

abbrev pub why_of : NameFault → model.NameFault
why_of why.Unknown = model.unknown
why_of (why.Twice first) = model.twice (option_map place_of first)
why_of why.FloatRefused = model.float_refused

abbrev pub fault_of : Fault → Place × model.NameFault
fault_of f = (place_of f.place, why_of f.why)

abbrev pub all_faults_of : List Fault → List (Place × model.NameFault)
all_faults_of fs = map fault_of fs

-- it is one of them, and no other comes before it
pub record ComesFirst (faults : List (Place × model.NameFault)) (fault : Place × model.NameFault) : Type 0 where
  pub one : Contains faults fault
  pub first : (other : Place × model.NameFault) → Contains faults other → is_before other.0 fault.0 ≡ false

-- the earlier of two; of those at one place the one that was met before
abbrev pub earlier : Option (Place × model.NameFault) → Place × model.NameFault → Place × model.NameFault
earlier None fault = fault
earlier (Some least) fault = if is_before fault.0 least.0 then fault else least

-- a type that is refused there
abbrev pub refused_at : Place → Place × model.NameFault
refused_at p = (p, model.float_refused)

-- these are added behind those that are there
abbrev pub AddsFaults : List Fault → List (Place × model.NameFault) → List Fault → Type 0
AddsFaults old more new = all_faults_of new ≡ all_faults_of old ++ more
