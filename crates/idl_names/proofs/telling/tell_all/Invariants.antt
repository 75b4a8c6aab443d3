use Rattle.std.proofs.Common.{◌≡◌, List, map, take, true}
use Rattle.std.specs.List.{list_all}
use Rattle.idl_meaning_model.specs.Declarations as model
use Rattle.idl_meaning_model.specs.FromFiles.{has_identifiers, is_spelled_use}
use Rattle.idl_meaning_model.specs.Uses.{uses}
use Rattle.idl_names.specs.Collected.{declared_of}
use Rattle.idl_names.specs.Telling.{Tells, TellsUses}
use Rattle.idl_names.proofs.telling.tell_all.Given as goal

abbrev pub invariant-loop-declared : goal.invariant-loop-declared
invariant-loop-declared l = (ds : List model.Declared) → Tells l.paths l.marked ds → list_all has_identifiers (map (declared_of l.paths) l.all) ≡ true
    → list_all is_spelled_use (uses (map (declared_of l.paths) l.all)) ≡ true
    → TellsUses l.paths ds l.fn.told (uses (map (declared_of l.paths) (take l.declared-index l.all))) l.told
