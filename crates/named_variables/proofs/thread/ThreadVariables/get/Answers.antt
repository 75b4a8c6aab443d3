use Rattle.std.proofs.Common.{sym, ap, ◌∙◌}
use Rattle.plan_types.specs.declared.frame.Variable.{Variable}
use Rattle.uno_values.specs.Values.{plain_of}
use Rattle.uno_values.specs.declared.value.Value.TheVariants.{Void}
use Rattle.named_variables.specs.Lending.{value_or_void}
use Rattle.named_variables.proofs.VariableLemmas.{found_first, found_none, value_here, value_nowhere}
use Rattle.named_variables.proofs.thread.ThreadVariables.get.Goals as goal

-- no variable has the name
pub returns-in_err-place : goal.returns-in_err-place
returns-in_err-place c =
    let name = c.args.name.now in
    let xs = c.args.self.now.all.items in
    let some : Variable = record { name = name; value = Void } in
    ap value_or_void c.from_residual.ensures ∙ value_nowhere name xs some (found_none name xs some (sym c.in_err-place.ensures))

-- the first one that has it
pub returns : goal.returns
returns c =
    let name = c.args.name.now in
    let xs = c.args.self.now.all.items in
    let here = c.index.result.now in
    ap (λ v. plain_of v.value) c.index.ensures ∙ value_here name xs c.in_ok-place.place here (found_first name xs c.in_ok-place.place here (sym c.in_ok-place.ensures))
