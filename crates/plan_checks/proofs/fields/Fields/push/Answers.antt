use Rattle.std.proofs.Common.{sym, ◌∙◌}
use Rattle.plan_checks.proofs.IndexLemmas.{index_again}
use Rattle.plan_checks.proofs.fields.Fields.push.Goals as goal

pub invariant_of-self-then-has : goal.invariant_of-self-then-has
invariant_of-self-then-has c =
    index_again c.self.inside.by_name c.self.inside.by_name c.self.inside.list.items c.self.inside.list.items c.push.new.self.items c.args.self.now c.args.field c.as_str.result.now c.self.view_is c.self.invariant
    (sym c.has.ensures ∙ c.if-has.true) c.as_str.ensures c.in_ok-push.ensures.items
