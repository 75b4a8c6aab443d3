use Rattle.std.proofs.Common.{rules, ap, ◌∙◌}
use Rattle.behaviour.specs.Roots.{run_of}
use Rattle.bridge_endpoint.specs.Journals.{setting_at, side_at}
use Rattle.bridge_core.specs.Asking.{entry_of}
use Rattle.bridge_core.specs.Beginning.{began_run}
use Rattle.bridge_core.proofs.AskLemmas.{stands_there}
use Rattle.bridge_core.proofs.BegunLemmas.{by_answer, is_begun}
use Rattle.bridge_core.proofs.beginning.ask.Goals as goal

pub began-requires-clause-begun : goal.began-requires-clause-begun
began-requires-clause-begun c =
    let up = stands_there (side_at c.args.end.now).cause c.end.result c.end.ensures (search rules) in
    is_begun (setting_at c.args.end.now) (side_at c.args.end.now) (entry_of c.args.run.now.root c.args.asked) c.ask_it-begun.result up (c.requires.holds up) c.ask_it-begun.ensures.answer

pub returns-in-Ok : goal.returns-in-Ok
returns-in-Ok c =
    by_answer c.args.end.now c.ask_it-begun.new.end (run_of c.args.run.now) (run_of c.began.new.run) (entry_of c.args.run.now.root c.args.asked)
    (stands_there (side_at c.args.end.now).cause c.end.result c.end.ensures (search rules))
    c.ask_it-begun.result c.began.result c.ask_it-begun.ensures.answer c.ask_it-begun.ensures.entered
    (c.began.ensures.run ∙ ap (began_run c.ask_it-begun.result) c.line_for.ensures.same) c.began.ensures.moved
