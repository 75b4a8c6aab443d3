use Rattle.std.proofs.Common.{ap}
use Rattle.message_model.specs.Messages.{raised}
use Rattle.plan_model.specs.Asking.{ends_with}
use Rattle.uno_model.specs.BuiltIn.{runtime_exception_name}
use Rattle.uno_model.specs.Kinds as kd
use Rattle.behaviour.proofs.EndingLemmas.{given_too}
use Rattle.behaviour.specs.Effects.{effect_of}
use Rattle.behaviour.specs.Running.{running_of}
use Rattle.behaviour.proofs.ending.fails.Goals as goal

pub returns : goal.returns
returns c =
    given_too c.raises.result effect_of _ _
    (ap (λ x. ends_with c.args.registry.now (running_of c.args.running.now) (raised (kd.exception runtime_exception_name) x)) c.in_ok-caused_value.ensures) c.raises.ensures
