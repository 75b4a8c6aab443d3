use Rattle.std.proofs.Common.{◌∙◌, sym}
use Rattle.env_table.proofs.Joined.{held_frame, held_other, frames_held, others_held, first_frame, first_other}
use Rattle.env_table.proofs.environment.Environment.hold.Goals as goal

pub invariant_of-self-then-is_frame : goal.invariant_of-self-then-is_frame
invariant_of-self-then-is_frame c =
    (frames_held c.self.inside.frames c.self.inside.others c.args.self.now c.self.view_is c.self.invariant.0 c.self.invariant.1 _ (sym c.is_frame.ensures ∙ c.if-is_frame.true) c.hold.new.self c.in_ok-first.ensures.held, c.self.invariant.1)

pub returns-then-is_frame-clause-held : goal.returns-then-is_frame-clause-held
returns-then-is_frame-clause-held c = held_frame c.self.inside.frames c.self.inside.others c.args.self.now c.self.view_is c.self.invariant.0 c.self.invariant.1 _ (sym c.is_frame.ensures ∙ c.if-is_frame.true) c.hold.new.self c.in_ok-first.ensures.held

pub returns-then-is_frame-clause-first : goal.returns-then-is_frame-clause-first
returns-then-is_frame-clause-first c =
    c.alone.ensures ∙ first_frame c.self.inside.frames c.self.inside.others c.args.self.now c.self.view_is c.self.invariant.0 c.self.invariant.1 _ (sym c.is_frame.ensures ∙ c.if-is_frame.true) _ _ c.in_ok-first.ensures.first c.holders.ensures.number

pub invariant_of-self-2 : goal.invariant_of-self-2
invariant_of-self-2 c = (c.self.invariant.0, others_held c.self.inside.frames c.self.inside.others c.args.self.now c.self.view_is c.self.invariant.0 c.self.invariant.1 _ (sym c.is_frame.ensures ∙ c.if-is_frame.false) c.hold-2.new.self c.in_ok-first-2.ensures.held)

pub returns-clause-held : goal.returns-clause-held
returns-clause-held c = held_other c.self.inside.frames c.self.inside.others c.args.self.now c.self.view_is c.self.invariant.0 c.self.invariant.1 _ (sym c.is_frame.ensures ∙ c.if-is_frame.false) c.hold-2.new.self c.in_ok-first-2.ensures.held

pub returns-clause-first : goal.returns-clause-first
returns-clause-first c =
    c.alone-2.ensures ∙ first_other c.self.inside.frames c.self.inside.others c.args.self.now c.self.view_is c.self.invariant.0 c.self.invariant.1 _ (sym c.is_frame.ensures ∙ c.if-is_frame.false) _ _ c.in_ok-first-2.ensures.first c.holders-2.ensures.number
