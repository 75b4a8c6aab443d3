use Rattle.std.proofs.Common.{◌∙◌, ap, map}
use Rattle.behaviour.specs.Roots.{run_of}
use Rattle.bridge_model.specs.Sides.{stands}
use Rattle.answering.proofs.EndLaws.{told_side}
use Rattle.answering.proofs.PieceLaws.{closed_so}
use Rattle.answering.proofs.RunningLaws.{ended_roots}
use Rattle.answering.proofs.serving.close.Goals as goal

pub settle-requires : goal.settle-requires
settle-requires g c =
    ended_roots c.args.end.now c.end_input.new.self (map run_of c.args.runs.now.items) (c.end_input.ensures.ended (ap stands (told_side c.args.end.now) ∙ c.requires.up)) c.requires.roots

pub returns-clause-closes : goal.returns-clause-closes
returns-clause-closes g c =
    closed_so c.args.end.now c.end_input.new.self c.settle.new.end (map run_of c.args.runs.now.items) (map run_of c.settle.new.runs.items) _ _ c.settle.result c.know.ensures.leads
    c.know-2.ensures.leads c.requires.up c.requires.settled (c.end_input.ensures.ended (ap stands (told_side c.args.end.now) ∙ c.requires.up)) c.settle.ensures.settles
