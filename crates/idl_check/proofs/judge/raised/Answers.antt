use Rattle.std.proofs.Common.{refl, map}
use Rattle.uno_entities.specs.Entities.{entities_of}
use Rattle.idl_check.proofs.VerdictLemmas.{found_each, no_memory_judged}
use Rattle.registry_text_model.specs.Rules as rule
use Rattle.idl_check.proofs.judge.raised.Goals as goal

pub returns : goal.returns
returns g c ds asked below =
    c.refuse.ensures rule.raised ds refl below (found_each rule.raised ds (map g.M.Meanings.telling c.args.all.now) (entities_of c.args.entities.now) c.in_ok-found.found asked c.in_ok-found.ensures)

pub returns-in_err-found : goal.returns-in_err-found
returns-in_err-found g c ds asked below = no_memory_judged 5 ds c.from_residual.result c.from_residual.ensures
