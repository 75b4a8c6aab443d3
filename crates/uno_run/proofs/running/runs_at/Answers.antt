use Rattle.std.proofs.Common.{◌≡◌, ap, arith, length}
use Rattle.bridge_endpoint.specs.Journals.{setting_at}
use Rattle.bridge_world.specs.Joined.{end_at}
use Rattle.uno_run.proofs.Results.{ok_so}
use Rattle.uno_run.proofs.Roots.{thread_count}
use Rattle.uno_run.proofs.running.runs_at.Goals as goal

pub returns : goal.returns
returns c =
    let planned = ap (λ p. length p.threads) c.plan.ensures in
    let many : length (setting_at (end_at c.args.world.now c.args.side)).plan.threads ≡ c.len.result = omega (arith, planned, thread_count c.plan.result.now, c.plan.result.now.threads.ok.0, c.len.ensures) in
    ok_so _ _ c.openings.result (λ runs all. all _ many) c.openings.ensures
