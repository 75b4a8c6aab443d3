use Rattle.std.proofs.Common.{◌<◌, ap, ◌∙◌, arith, length, map}
use Rattle.behaviour.specs.Roots.{run_of}
use Rattle.uno_values.specs.References.{ref_of}
use Rattle.root_runs.proofs.LooseLemmas.{loose_behind, opened, with_others_loose}
use Rattle.root_runs.proofs.loose.open_first.Goals as goal

pub returns-clause-same : goal.returns-clause-same
returns-clause-same c =
    let run = c.args.run.now in
    let some : 0 < length run.loose.items = omega (arith, c.requires.some, run.loose.ok.0) in
    with_others_loose (run_of run) _ _
    (ap (loose_behind (map ref_of c.in_ok-run.field-0.items)) c.remove.ensures.by_index.2
    ∙ opened run.letting.items c.in_ok-run.field-0.items run.loose.items c.index.result.now c.requires.none c.in_ok-run.ensures some c.index.ensures)
