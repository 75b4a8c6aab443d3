use Rattle.std.proofs.Common.{◌∙◌}
use Rattle.uno_run.proofs.JoiningLaws.{are_of_files, end_as, has_plan, no_first, no_second}
use Rattle.uno_run.proofs.Results.{err_so, ok_both, ok_so}
use Rattle.uno_run.proofs.joining.world_in.Goals as goal

pub returns-in-Ok-clause-are_of : goal.returns-in-Ok-clause-are_of
returns-in-Ok-clause-are_of g c =
    ok_both _ _ _ c.world_with.result (λ w a b types first. are_of_files _ types _ _ _ _ first (end_as _ _ _ _ _ _ a c.in-Ok.ensures.is_of) b) c.world_with.ensures.a
    (rw c.in-Ok.ensures.kept at c.world_with.ensures.b)

pub returns-in-Ok-clause-same : goal.returns-in-Ok-clause-same
returns-in-Ok-clause-same g c = ok_so _ _ c.world_with.result (λ w same. same ∙ c.in-Ok.ensures.same) c.world_with.ensures.same

pub returns-in-Ok-clause-refused : goal.returns-in-Ok-clause-refused
returns-in-Ok-clause-refused g c =
    err_so _ _ c.world_with.result (λ status none types first. no_second _ types _ _ _ _ _ _ status first (has_plan _ types _ _ _ _ first c.in-Ok.ensures.is_of) c.in-Ok.ensures.same none)
    (rw c.in-Ok.ensures.kept at c.world_with.ensures.refused)

pub returns-in-Err-clause-refused : goal.returns-in-Err-clause-refused
returns-in-Err-clause-refused g c = λ types first. no_first _ types _ _ _ _ _ _ first c.in-Err.ensures.refused
