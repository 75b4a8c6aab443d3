use Rattle.world_laws.proofs.StandingLaws.{runs_begin}
use Rattle.world_laws.proofs.standing_laws.the_runs_of_a_plan_stand_at_the_beginning.Goals as goal

pub returns : goal.returns
returns c = runs_begin
