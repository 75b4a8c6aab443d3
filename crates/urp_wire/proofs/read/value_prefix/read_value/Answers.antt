use Rattle.urp_model.proofs.ReadFronts.{is_read, found, gives, only}
use Rattle.urp_model.proofs.ValueLaws.{value_agrees}
use Rattle.urp_wire.proofs.Fronts.{none_else, broken}
use Rattle.urp_wire.proofs.read.value_prefix.read_value.Goals as goal

pub overflow_sub-result : goal.overflow_sub-result
overflow_sub-result c = (is_read (value_agrees _ _ c.requires.named _ _) _ _ _ _ c.in-Ok.ensures).front.shorter

pub returns-in-Ok-clause-gives : goal.returns-in-Ok-clause-gives
returns-in-Ok-clause-gives c = gives (value_agrees _ _ c.requires.named _ _) _ _ _ _ c.in-Ok.ensures

pub returns-in-Ok-clause-found : goal.returns-in-Ok-clause-found
returns-in-Ok-clause-found c = found (value_agrees _ _ c.requires.named _ _) _ _ _ _ c.in-Ok.ensures

pub returns-in-Ok-clause-only : goal.returns-in-Ok-clause-only
returns-in-Ok-clause-only c = λ v used rest t spelled whole.
    only (value_agrees _ _ c.requires.named _ _) _ _ _ _ c.in-Ok.ensures v t used rest spelled whole

pub returns-in-Err-clause-only : goal.returns-in-Err-clause-only
returns-in-Err-clause-only c = none_else _ _ _ _ c.requires _ _ c.in-Err.ensures

pub returns-in-Err-clause-bad : goal.returns-in-Err-clause-bad
returns-in-Err-clause-bad c = λ reason is. broken _ _ _ _ c.requires _ _ c.in-Err.ensures reason cc
