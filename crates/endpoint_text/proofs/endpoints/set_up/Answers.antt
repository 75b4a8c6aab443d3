use Rattle.std.proofs.Common.{ap, subst, sym}
use Rattle.behaviour_text.specs.declared.error.PlanError.TheVariants as error
use Rattle.plan_model.specs.Keeps.{IsTextOf}
use Rattle.plan_model.proofs.PlanLaws.{text_keeps}
use Rattle.plan_types.specs.Plans.{plan_of}
use Rattle.endpoint_text.proofs.SettingUp.{same_error}
use Rattle.endpoint_text.proofs.endpoints.set_up.Goals as goal

pub new-requires : goal.new-requires
new-requires c =
    record {
      sound = c.requires.sound;
      names = c.requires.names;
      rules = text_keeps c.args.registry c.args.plan.now (plan_of c.in-Ok.plan) c.in-Ok.ensures.text;
    }

pub returns-in-Ok-new-clause-plan : goal.returns-in-Ok-new-clause-plan
returns-in-Ok-new-clause-plan c =
    subst (IsTextOf c.args.registry c.args.plan.now) (sym (ap (λ s. s.plan) c.in-Ok-new.ensures.setting)) c.in-Ok.ensures.text

pub returns-in-Err-clause-wrong : goal.returns-in-Err-clause-wrong
returns-in-Err-clause-wrong c n why is = c.in-Err.ensures.refused n why (same_error c.in-Err.error (error.BadLine n why) is)
