use Rattle.std.proofs.Common.{ap, ◌∙◌, vec_items}
use Rattle.urp_stream.proofs.GivenLaws.{gave_parts}
use Rattle.urp_stream.proofs.blocks.Blocks.next_block.Goals as goal

pub returns-clause-gave : goal.returns-clause-gave
returns-clause-gave c =
    gave_parts c.self.inside.place c.in_ok-said.said.size c.in_ok-said.said.count c.len.result c.len-2.result c.self.view_is c.self.invariant c.in_ok-said.ensures
    c.if-len-said.false (c.len.ensures ∙ c.self.inside.body.ok.0) (ap vec_items c.replace-body.ensures.value) (c.len-2.ensures ∙ c.replace-body.result.ok.0)
    c.new-self-inside.ensures (ap vec_items c.replace-body.ensures.after ∙ c.new.ensures.items)
