use Rattle.std.proofs.Common.{◌≡◌, IfOk, subst}
use Rattle.idl_meant.proofs.FullNameLemmas.{full_name_there}
use Rattle.idl_meant.proofs.full_names.full_name.Goals as goal

pub returns-in-Some : goal.returns-in-Some
returns-in-Some c = λ all.
    subst (λ text. IfOk c.copy.result (λ name. name ≡ text))
    (full_name_there c.args.paths.now c.args.names.now c.in-Some.name.now c.args.number c.in-Some.ensures all) c.copy.ensures

pub returns-in-None : goal.returns-in-None
returns-in-None c = λ all. c.full_name.ensures
