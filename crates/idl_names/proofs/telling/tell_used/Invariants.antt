use Rattle.std.proofs.Common.{◌≡◌, List, take, true}
use Rattle.std.specs.List.{list_all}
use Rattle.idl_meaning_model.specs.Declarations as model
use Rattle.idl_meaning_model.specs.Declarations.{scope_of}
use Rattle.idl_meaning_model.specs.FromFiles.{has_identifiers, is_spelled_use}
use Rattle.idl_names.specs.Collected.{declared_of}
use Rattle.idl_names.specs.Telling.{Tells, TellsUses, uses_there}
use Rattle.idl_names.proofs.telling.tell_used.Given as goal

abbrev pub invariant-loop-used : goal.invariant-loop-used
invariant-loop-used l = (ds : List model.Declared) → Tells l.paths l.marked ds → has_identifiers (declared_of l.paths l.declared) ≡ true
    → list_all is_spelled_use (uses_there (scope_of (declared_of l.paths l.declared)) l.all) ≡ true
    → TellsUses l.paths ds l.fn.told (uses_there (scope_of (declared_of l.paths l.declared)) (take l.used-index l.all)) l.told
