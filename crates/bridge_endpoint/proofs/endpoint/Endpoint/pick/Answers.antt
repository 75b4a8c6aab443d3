use Rattle.std.proofs.Common.{◌≡◌}
use Rattle.std.specs.Prelude.{IfOk}
use Rattle.std.specs.Option.{option_map}
use Rattle.bridge_model.specs.Answers.{pick}
use Rattle.plan_types.specs.Frames.{job_of}
use Rattle.bridge_endpoint.proofs.EntryLemmas.{to_now}
use Rattle.bridge_endpoint.proofs.endpoint.Endpoint.pick.Goals as goal

pub returns : goal.returns
returns c = to_now (λ g s. IfOk c.pick.result (λ j. option_map job_of j ≡ pick g c.args.tid.now s)) c.self.invariant c.self.view_is c.pick.ensures
