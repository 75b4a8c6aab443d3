use Rattle.std.proofs.Common.{◌∙◌}
use Rattle.plan_checks.proofs.IndexLemmas.{index_more}
use Rattle.plan_checks.proofs.fields.Fields.push_new.Goals as goal

pub invariant_of-self-2 : goal.invariant_of-self-2
invariant_of-self-2 c =
    index_more c.self.inside.by_name c.note.new.by_name c.self.inside.list.items c.reserve.new.self.items c.push_reserved.new.self.items c.args.self.now c.args.field c.as_str.result.now c.self.view_is
    c.self.invariant c.len.result c.requires c.in_ok-reserve.ensures.items c.as_str.ensures (c.len.ensures ∙ c.reserve.new.self.ok.0) c.push_reserved.ensures.items c.in_ok-note.ensures.noted
