use Rattle.std.proofs.Common.{◌++◌, codes}
use Rattle.literal_model.specs.Literals.{print}
use Rattle.uno_model.specs.Values as v
use Rattle.uno_values.specs.Values.{plain_of}
use Rattle.behaviour.specs.Roots.{run_of}
use Rattle.bridge_core.proofs.MadeLemmas.{made_there}
use Rattle.bridge_core.proofs.making.tells.Goals as goal

pub returns-clause-run : goal.returns-clause-run
returns-clause-run c = λ reg r ready.
    made_there (codes "returned " ++ print reg (v.ref r)) r (run_of c.args.run.now) (run_of c.add_variable.new.run) (run_of c.over_with.new.run) c.args.to c.args.ready.made (plain_of c.args.ready.new) ready.new
    ready.made c.add_variable.ensures.added c.over_with.ensures
