use Rattle.std.proofs.Common.{◌≡◌, List, map, take, true}
use Rattle.std.specs.List.{AllByRecursion, list_all}
use Rattle.idl_meaning_model.specs.Declarations as model
use Rattle.idl_meaning_model.specs.FromFiles.{has_identifiers}
use Rattle.idl_meaning_model.specs.Scopes.{is_built_in}
use Rattle.idl_names.specs.Alone.{HasLeasts, twice_among}
use Rattle.idl_names.specs.Collected.{HasNumbers, declared_of}
use Rattle.idl_names.specs.Faults.{AddsFaults}
use Rattle.idl_names.specs.Paths.{Parts}
use Rattle.idl_names.specs.Standing.{Answers}
use Rattle.idl_names.proofs.twice.add_declared_twice.Given as goal

abbrev pub invariant-loop-declared : goal.invariant-loop-declared
invariant-loop-declared l = (paths : List Parts) (ds : List model.Declared) → Answers paths l.built_in is_built_in → HasLeasts paths l.leasts ds → AllByRecursion (HasNumbers paths) l.all
    → list_all has_identifiers (map (declared_of paths) l.all) ≡ true → AddsFaults l.fn.faults.items (twice_among ds (map (declared_of paths) (take l.declared-index l.all))) l.faults.items
