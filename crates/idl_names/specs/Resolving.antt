-- Why names are refused, and all that is told of them.
use Rattle.std.specs.List.{AllByRecursion}
use Rattle.std.specs.Prelude.{◌≡◌, List, [], Some, Err, map, option_map, slice_get}
use Rattle.idl_meaning_model.specs.Declarations.{Declared}
use Rattle.idl_meaning_model.specs.NameFaults as model
use Rattle.idl_meaning_model.specs.NameFaults.{IsResolved, faults_among}
use Rattle.idl_meaning_model.specs.Uses.{uses}
use Rattle.idl_model.specs.Trees.{Tree}
use Rattle.idl_names.specs.Collected.{HasNumbers, declared_of}
use Rattle.idl_names.specs.Faults.{all_faults_of}
use Rattle.idl_names.specs.Opened.{HasOpened}
use Rattle.idl_names.specs.Paths.{Parts}
use Rattle.idl_names.specs.Telling.{AreRight, named_of, told_among}
use Rattle.idl_names.specs.declared.error.NameError.{NameError}
use Rattle.idl_names.specs.declared.error.NameError.TheVariants as error
use Rattle.idl_names.specs.declared.resolving.Resolved.{Resolved}
use Rattle.idl_names.specs.declared.telling.Told.{Told}
use Rattle.idl_trees.specs.Names.{place_of}

-- the names of files are refused so: want of memory says nothing of them
abbrev pub IsRefused : List Tree → NameError → Type 0
IsRefused trees error.NoMemory = Unit
IsRefused trees (error.Unknown place) = IsResolved trees (Err (place_of place, model.unknown))
IsRefused trees (error.Twice place first) = IsResolved trees (Err (place_of place, model.twice (option_map place_of first)))
IsRefused trees (error.FloatRefused place) = IsResolved trees (Err (place_of place, model.float_refused))

-- all names that these declarations use are told, with all faults
pub record TellsAll (paths : List Parts) (ds : List Declared) (told : Told) : Type 0 where
  pub faults : all_faults_of told.faults.items ≡ faults_among ds
  pub names : named_of paths told.names.items ≡ told_among ds (uses ds)
  pub right : AreRight paths told.names.items

-- declarations, and the numbers of all that is opened for them
pub record IsMadeOf (ds : List Declared) (r : Resolved) : Type 0 where
  pub declared : map (declared_of r.paths) r.declared.items ≡ ds
  pub numbered : AllByRecursion (HasNumbers r.paths) r.declared.items
  pub outermost : slice_get r.paths 0 ≡ Some []
  pub opened : HasOpened r.paths ds r.opened
