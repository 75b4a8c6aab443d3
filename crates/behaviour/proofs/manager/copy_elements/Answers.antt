use Rattle.std.proofs.Common.{sym, ◌∙◌, map}
use Rattle.std.proofs.lemmas.Result.{IfOk-weaker}
use Rattle.uno_values.specs.Values.{plain_of}
use Rattle.behaviour.proofs.ManagerLemmas.{values_back}
use Rattle.behaviour.proofs.manager.copy_elements.Goals as goal

pub returns : goal.returns
returns c = IfOk-weaker c.copy_all.result _ _ (λ xs is. is ∙ sym (values_back (map plain_of c.args.elements.now))) c.copy_all.ensures
