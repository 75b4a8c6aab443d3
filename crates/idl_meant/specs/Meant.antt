-- What is known of all that resolved files mean.
use Rattle.std.specs.Prelude.{◌≡◌, ℕ, List, Option}
use Rattle.idl_meant.specs.FullNames.{AreFullNames}
use Rattle.idl_meant.specs.Naming.{NamesMeant}
use Rattle.idl_meant.specs.Numbering.{NumbersMeant}
use Rattle.idl_meant.specs.Resolving.{AreTold}
use Rattle.idl_meant.specs.declared.names.Names.{Names}
use Rattle.idl_meant.specs.declared.numbers.Numbers.{Numbers}
use Rattle.idl_names.specs.declared.resolving.Resolved.{Resolved}
use Rattle.uno_entities.specs.Entities.{entities_of}
use Rattle.uno_entities.specs.declared.entity.Entity.{Entity}
use Rattle.uno_model.specs.BuiltIn.{built_in}

pub record IsMeant (r : Resolved) (names : Names) (numbers : Numbers) (full_names : List (Option (List ℕ))) (entities : List Entity) : Type 0 where
  pub told : AreTold r
  pub names_are : NamesMeant r names
  pub numbers_are : NumbersMeant r numbers
  pub full_names_are : AreFullNames r.paths full_names
  pub built_in_are : entities_of entities ≡ built_in
