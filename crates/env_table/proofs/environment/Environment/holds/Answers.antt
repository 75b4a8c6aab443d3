use Rattle.std.proofs.Common.{◌∙◌, sym}
use Rattle.env_table.proofs.Joined.{holds_frame, holds_other}
use Rattle.env_table.proofs.environment.Environment.holds.Goals as goal

pub returns-then-is_frame : goal.returns-then-is_frame
returns-then-is_frame c =
    holds_frame c.self.inside.frames c.self.inside.others c.args.self.now c.self.view_is c.self.invariant.0 c.self.invariant.1 _ (sym c.is_frame.ensures ∙ c.if-is_frame.true) _ c.holds.ensures

pub returns : goal.returns
returns c =
    holds_other c.self.inside.frames c.self.inside.others c.args.self.now c.self.view_is c.self.invariant.0 c.self.invariant.1 _ (sym c.is_frame.ensures ∙ c.if-is_frame.false) _ c.holds-2.ensures
