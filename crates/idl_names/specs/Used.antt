-- The names that a declaration uses, as code has them.
use Rattle.std.specs.Prelude.{◌≡◌, List, ◌++◌, map}
use Rattle.idl_meaning_model.specs.Uses as model
use Rattle.idl_model.specs.Trees.{Path}
use Rattle.idl_trees.specs.Names.{path_of}
use Rattle.idl_names.specs.declared.used.Used.{Used}
use Rattle.idl_names.specs.declared.used.Used.TheVariants as used

abbrev pub used_of : Used → model.Used
used_of (used.Entity path) = model.an_entity (path_of path.now)
used_of (used.Value path) = model.a_value (path_of path.now)

abbrev pub all_used_of : List Used → List model.Used
all_used_of us = map used_of us

abbrev pub entities_used : List Path → List model.Used
entities_used paths = map model.an_entity paths

abbrev pub values_used : List Path → List model.Used
values_used paths = map model.a_value paths

-- these are added behind those that are there
abbrev pub AddsUsed : List Used → List model.Used → List Used → Type 0
AddsUsed old more new = all_used_of new ≡ all_used_of old ++ more
