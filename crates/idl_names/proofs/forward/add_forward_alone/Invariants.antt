use Rattle.std.proofs.Common.{◌≡◌, List, map, take, true}
use Rattle.std.specs.List.{AllByRecursion, list_all}
use Rattle.idl_meaning_model.specs.Declarations as model
use Rattle.idl_meaning_model.specs.FromFiles.{has_identifiers}
use Rattle.idl_meaning_model.specs.NameFaults.{has_interface}
use Rattle.idl_names.specs.Alone.{alone_among}
use Rattle.idl_names.specs.Collected.{HasNumbers, declared_of}
use Rattle.idl_names.specs.Faults.{AddsFaults}
use Rattle.idl_names.specs.Paths.{Parts}
use Rattle.idl_names.specs.Standing.{Answers}
use Rattle.idl_names.proofs.forward.add_forward_alone.Given as goal

abbrev pub invariant-loop-declared : goal.invariant-loop-declared
invariant-loop-declared l = (paths : List Parts) (ds : List model.Declared) → Answers paths l.interfaces (has_interface ds) → AllByRecursion (HasNumbers paths) l.all
    → list_all has_identifiers (map (declared_of paths) l.all) ≡ true → AddsFaults l.fn.faults.items (alone_among ds (map (declared_of paths) (take l.declared-index l.all))) l.faults.items
