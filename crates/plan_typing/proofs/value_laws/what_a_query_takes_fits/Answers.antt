use Rattle.plan_typing.proofs.FrameTakes.{reference_taken}
use Rattle.plan_typing.proofs.value_laws.what_a_query_takes_fits.Goals as goal

pub returns : goal.returns
returns c = reference_taken
