use Rattle.std.proofs.Common.{length, ap, subst, ◌∙◌}
use Rattle.idl_compile.proofs.ReadLemmas.{adds_tree}
use Rattle.idl_compile.proofs.Telling.{handed_on}
use Rattle.idl_compile.specs.Refusing.{Tells}
use Rattle.idl_compiled_model.specs.Compiling.{IsUnread}
use Rattle.idl_compile.proofs.reading.add_tree.Goals as goal

pub returns-clause-added : goal.returns-clause-added
returns-clause-added c =
    adds_tree c.in-Ok.number c.args.trees.now.items c.push.new.self.items c.args.text.now c.in_ok-tree.tree (c.in-Ok.ensures.1 ∙ ap length c.as_slice.ensures.value) c.in_ok-tree.ensures.read c.in_ok-push.ensures.items

pub returns-in_err-tree-clause-refused : goal.returns-in_err-tree-clause-refused
returns-in_err-tree-clause-refused c =
    let e = c.in_err-tree.field-0.0 in
    handed_on c.from_residual.result (IsUnread (length c.args.trees.now.items) c.args.text.now) e c.from_residual.ensures
    (subst (λ n. Tells e (IsUnread n c.args.text.now)) (c.in-Ok.ensures.1 ∙ ap length c.as_slice.ensures.value) c.in_err-tree.ensures.refused)
