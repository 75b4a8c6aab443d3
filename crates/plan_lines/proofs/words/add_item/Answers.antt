use Rattle.std.proofs.Common.{◌∙◌, sym}
use Rattle.plan_lines.specs.Index.{seen_in}
use Rattle.plan_lines.proofs.WordLemmas.{name_added, not_seen}
use Rattle.plan_lines.proofs.words.add_item.Goals as goal

pub returns-clause-names : goal.returns-clause-names
returns-clause-names c =
    name_added _ _ c.as_str.result c.args.item.now.name (seen_in c.args.numbers.now c.args.item.now.number) c.in_ok-insert.ensures.updates c.as_str.ensures (not_seen (seen_in c.args.numbers.now c.args.item.now.number) (sym c.in_ok-is_new.ensures.told ∙ c.if-not-is_new.false))
