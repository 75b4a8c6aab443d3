use Rattle.plan_types.specs.Frames.{body_of}
use Rattle.bridge_frames.proofs.CallLemmas.{at_ok}
use Rattle.bridge_frames.proofs.OwnLemmas.{skip_on, still_top}
use Rattle.bridge_frames.proofs.own.apply_skip.Goals as goal

pub go_on-requires : goal.go_on-requires
go_on-requires c = still_top c.args.tid.now c.args.stacks.now c.take_method-body.new.stacks c.requires c.take_method-body.ensures.taken

pub returns : goal.returns
returns c = λ b fs these.
    at_ok c.go_on.result
    (skip_on c.args.tid.now c.args.stacks.now c.take_method-body.new.stacks c.go_on.new.stacks b (body_of c.take_method-body.result) fs these c.take_method-body.ensures.top c.take_method-body.ensures.taken)
    c.go_on.ensures
