use Rattle.std.proofs.Common.{ap, sym, ◌∙◌, arith}
use Rattle.std.proofs.lemmas.List.Folds.{flat_map-map}
use Rattle.std.specs.List.{count_by}
use Rattle.behaviour.specs.Roots.{run_of}
use Rattle.report_model.specs.Drills.{says}
use Rattle.uno_report.proofs.Pieces.{all_added, counted_in_each}
use Rattle.uno_report.proofs.drill.of_roots.Goals as goal

pub returns : goal.returns
returns c =
    all_added c.args.runs.now c.loop-run.run-index (λ r. count_by (says c.args.word.now) (run_of r).lines) c.loop-run.count _ (omega arith) c.loop-run.invariant
    ∙ (sym (counted_in_each (says c.args.word.now) (λ r. (run_of r).lines) c.args.runs.now)
    ∙ ap (count_by (says c.args.word.now)) (sym (flat_map-map (λ r. r.lines) run_of c.args.runs.now)))
