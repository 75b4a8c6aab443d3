use Rattle.std.proofs.Common.{[], get_or, map, take}
use Rattle.idl_meaning_model.specs.Declarations.{all_declared_in}
use Rattle.idl_model.specs.Trees.{defs}
use Rattle.idl_trees.specs.Trees.{def_of}
use Rattle.idl_names.specs.Collected.{Adds}
use Rattle.idl_names.proofs.collecting.Collected.+collecting.Given as goal

abbrev pub invariant-add_defs-loop-def : goal.invariant-add_defs-loop-def
invariant-add_defs-loop-def l = Adds l.fn.self (all_declared_in (get_or l.fn.self.paths l.modules []) (defs (map def_of (take l.def-index l.defs)))) l.self
