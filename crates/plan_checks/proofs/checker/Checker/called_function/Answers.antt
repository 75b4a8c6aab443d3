use Rattle.std.proofs.Common.{sym, ◌∙◌}
use Rattle.plan_checks.proofs.CalledLaws.{found_called, none_called}
use Rattle.plan_checks.proofs.checker.Checker.called_function.Goals as goal

pub returns-then-not-is_interface_there : goal.returns-then-not-is_interface_there
returns-then-not-is_interface_there c =
    none_called c.args.self.now.registry.now c.args.face.now c.args.name.now c.args.self.now.sound (sym c.is_interface_there.ensures.is ∙ c.if-not-is_interface_there.true)

pub returns : goal.returns
returns c =
    found_called c.args.self.now.registry.now c.args.face.now c.args.name.now _ _ c.args.self.now.sound c.is_interface_there.ensures.built_in
    (sym c.is_interface_there.ensures.is ∙ c.if-not-is_interface_there.false) (c.names.ensures ∙ c.in_ok-faces.ensures) c.called_in.ensures
