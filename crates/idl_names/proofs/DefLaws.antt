-- A module as its plain tree.
use Rattle.std.proofs.Common.{◌≡◌, sym, ap, ◌∙◌, map}
use Rattle.std.specs.declared.alloc.Global.{Global}
use Rattle.std.specs.declared.vec.Vec.{Vec}
use Rattle.idl_model.specs.Trees.{defs}
use Rattle.idl_model.specs.Trees as tree
use Rattle.idl_trees.specs.Names.{id_of}
use Rattle.idl_trees.specs.Trees.{def_of, def_step}
use Rattle.idl_trees.specs.declared.declaration.Def.{Def}
use Rattle.idl_trees.specs.declared.declaration.Def.TheFolds.{fold-roll-Def}
use Rattle.idl_trees.specs.declared.declaration.Def.TheVariants.{Module, rolls-Module}
use Rattle.idl_trees.specs.declared.name.Id.{Id}

pub module_seen : (name : Id) (inner : Vec Def Global) → def_of (Module name inner) ≡ tree.in_module (id_of name) (defs (map def_of inner.items))
module_seen name inner = ap def_of (sym (rolls-Module name inner)) ∙ fold-roll-Def tree.Def def_step _
