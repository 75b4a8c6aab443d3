use Rattle.std.proofs.Common.{refl, map}
use Rattle.idl_check.proofs.VerdictLemmas.{found_each, no_memory_judged}
use Rattle.registry_text_model.specs.Rules as rule
use Rattle.idl_check.proofs.judge.constant_values.Goals as goal

pub returns : goal.returns
returns g c ds reg asked below =
    c.refuse.ensures rule.constant_values ds refl below (found_each rule.constant_values ds (map g.M.Meanings.telling c.args.all.now) reg c.in_ok-found.found asked (c.in_ok-found.ensures reg))

pub returns-in_err-found : goal.returns-in_err-found
returns-in_err-found g c ds reg asked below = no_memory_judged 7 ds c.from_residual.result c.from_residual.ensures
