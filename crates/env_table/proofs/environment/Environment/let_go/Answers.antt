use Rattle.std.proofs.Common.{◌∙◌, sym}
use Rattle.env_table.proofs.Joined.{gone_frame, gone_other, frames_gone, others_gone, last_frame, last_other}
use Rattle.env_table.proofs.environment.Environment.let_go.Goals as goal

pub invariant_of-self : goal.invariant_of-self
invariant_of-self c = (frames_gone c.self.inside.frames c.self.inside.others c.args.self.now c.self.view_is c.self.invariant.0 c.self.invariant.1 _ (sym c.is_frame.ensures ∙ c.if-is_frame.true) c.let_go-gone.new.self c.let_go-gone.ensures.gone, c.self.invariant.1)

pub returns-then-is_frame-clause-answer : goal.returns-then-is_frame-clause-answer
returns-then-is_frame-clause-answer c =
    last_frame c.self.inside.frames c.self.inside.others c.args.self.now c.self.view_is c.self.invariant.0 c.self.invariant.1 _ (sym c.is_frame.ensures ∙ c.if-is_frame.true) _ _ _ c.let_go-gone.ensures.answer c.holders.ensures.number c.last_of.ensures

pub returns-then-is_frame-clause-gone : goal.returns-then-is_frame-clause-gone
returns-then-is_frame-clause-gone c = gone_frame c.self.inside.frames c.self.inside.others c.args.self.now c.self.view_is c.self.invariant.0 c.self.invariant.1 _ (sym c.is_frame.ensures ∙ c.if-is_frame.true) c.let_go-gone.new.self c.let_go-gone.ensures.gone

pub invariant_of-self-2 : goal.invariant_of-self-2
invariant_of-self-2 c = (c.self.invariant.0, others_gone c.self.inside.frames c.self.inside.others c.args.self.now c.self.view_is c.self.invariant.0 c.self.invariant.1 _ (sym c.is_frame.ensures ∙ c.if-is_frame.false) c.let_go-gone-2.new.self c.let_go-gone-2.ensures.gone)

pub returns-clause-answer : goal.returns-clause-answer
returns-clause-answer c =
    last_other c.self.inside.frames c.self.inside.others c.args.self.now c.self.view_is c.self.invariant.0 c.self.invariant.1 _ (sym c.is_frame.ensures ∙ c.if-is_frame.false) _ _ _ c.let_go-gone-2.ensures.answer c.holders-2.ensures.number c.last_of-2.ensures

pub returns-clause-gone : goal.returns-clause-gone
returns-clause-gone c = gone_other c.self.inside.frames c.self.inside.others c.args.self.now c.self.view_is c.self.invariant.0 c.self.invariant.1 _ (sym c.is_frame.ensures ∙ c.if-is_frame.false) c.let_go-gone-2.new.self c.let_go-gone-2.ensures.gone
