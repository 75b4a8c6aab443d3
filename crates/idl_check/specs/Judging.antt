-- What files are refused for.
use Rattle.std.specs.Prelude.{◌≡◌, List, Err}
use Rattle.idl_check.specs.declared.error.CheckError.{CheckError}
use Rattle.idl_check.specs.declared.error.CheckError.TheVariants as error
use Rattle.idl_model.specs.Trees.{Tree}
use Rattle.idl_rules_model.specs.CheckVerdicts.{IsChecked}
use Rattle.idl_trees.specs.Names.{place_of}
use Rattle.registry_text_model.specs.Rules.{Rule, number_of}

-- the rule that is broken first, at its least place; of want of memory nothing is said
abbrev pub IsBroken : List Tree → CheckError → Type 0
IsBroken trees error.NoMemory = Unit {0}
IsBroken trees (error.Rule number place) = (r : Rule) × (number_of r ≡ number) × IsChecked trees (Err (r, place_of place))
