use Rattle.std.proofs.Common.{◌≡◌, length, ◌≤◌, map, get_or, [], OnOk, refl, sym, ap, ◌∙◌, subst, arith}
use Rattle.std.proofs.lemmas.List.{take_all}
use Rattle.idl_meaning_model.specs.Declarations.{declared_in, all_declared_in}
use Rattle.idl_model.specs.Trees.{defs}
use Rattle.idl_model.specs.Trees as tree
use Rattle.idl_trees.specs.Names.{id_of}
use Rattle.idl_trees.specs.Trees.{def_of}
use Rattle.idl_names.specs.Collected.{Adds}
use Rattle.idl_names.proofs.CollectedLemmas.{adds_no_defs, adds_next, adds_inside, on_ok}
use Rattle.idl_names.proofs.DefLaws.{module_seen}
use Rattle.idl_names.proofs.collecting.Collected.+collecting.Goals as goal

pub add_defs-loop-def-init : goal.add_defs-loop-def-init
add_defs-loop-def-init t c = adds_no_defs c.args.self.now (get_or c.args.self.now.paths c.args.modules [])

pub add_defs-loop-def-preserved : goal.add_defs-loop-def-preserved
add_defs-loop-def-preserved t c =
    adds_next def_of c.args.self.now c.loop-def.self c.add_def.new.self c.args.modules c.args.defs.now c.loop-def.def-index c.def-item.result c.requires
    c.loop-def-test.true c.def-item.is c.loop-def.invariant c.in_ok-add_def.ensures

pub add_defs-returns : goal.add_defs-returns
add_defs-returns t c =
    let end : length c.args.defs.now ≤ c.loop-def.def-index = omega (arith, c.loop-def-test.false) in
    subst (λ ds. Adds c.args.self.now (all_declared_in (get_or c.args.self.now.paths c.args.modules []) (defs (map def_of ds))) c.loop-def.self)
    (take_all c.loop-def.def-index c.args.defs.now end) c.loop-def.invariant

pub add_def-returns-in_ok-opened-in-Module : goal.add_def-returns-in_ok-opened-in-Module
add_def-returns-in_ok-opened-in-Module t c =
    let inside = defs (map def_of c.in-Module.inner.items) in
    let whole : def_of c.args.def.now ≡ tree.in_module (id_of c.in-Module.name) inside = ap def_of c.in-Module.is ∙ module_seen c.in-Module.name c.in-Module.inner in
    subst (λ d. OnOk c.add_defs.result (Adds c.args.self.now (declared_in (get_or c.args.self.now.paths c.args.modules []) d) c.add_defs.new.self)) (sym whole)
    (on_ok c.add_defs.result
    (λ adds. adds_inside c.args.self.now (record { paths = c.open.new.self; declared = c.args.self.now.declared }) c.add_defs.new.self c.args.modules c.in_ok-opened-in-Module.opened
    c.as_str.result.now (id_of c.in-Module.name) inside refl c.as_str.ensures c.in_ok-opened-in-Module.ensures.opened c.in_ok-opened-in-Module.ensures.number
    (subst (λ ds. Adds (record { paths = c.open.new.self; declared = c.args.self.now.declared }) (all_declared_in (get_or c.open.new.self c.in_ok-opened-in-Module.opened []) (defs (map def_of ds)))
    c.add_defs.new.self) c.as_slice.ensures.value adds)) c.add_defs.ensures)
