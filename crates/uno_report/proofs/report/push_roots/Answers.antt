use Rattle.std.proofs.Common.{◌++◌, ap, sym, ◌∙◌, arith, string_bytes}
use Rattle.std.proofs.lemmas.List.Folds.{flat_map-map}
use Rattle.behaviour.specs.Roots.{run_of}
use Rattle.report_model.specs.Reports.{root_text}
use Rattle.uno_report.proofs.Pieces.{all_put}
use Rattle.uno_report.proofs.report.push_roots.Goals as goal

pub returns : goal.returns
returns c =
    all_put c.args.runs.now c.loop-run.run-index (λ r. root_text c.args.side_name.now (run_of r)) (string_bytes c.loop-run.text) _ (omega arith) c.loop-run.invariant
    ∙ ap (λ t. string_bytes c.args.text.now ++ t) (sym (flat_map-map (root_text c.args.side_name.now) run_of c.args.runs.now))
