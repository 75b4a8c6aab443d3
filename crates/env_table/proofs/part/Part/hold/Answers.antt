use Rattle.std.proofs.Common.{◌∙◌, ap, sym}
use Rattle.table_model.specs.Holdings.{held}
use Rattle.env_table.proofs.Occurrences.{holders_are}
use Rattle.env_table.proofs.Parts.{held_more}
use Rattle.env_table.proofs.RowChanges.{view_more, some_told, none_told, held_some}
use Rattle.env_table.proofs.part.Part.hold.Goals as goal

pub hold_first-requires : goal.hold_first-requires
hold_first-requires c = sym c.number.ensures.number ∙ c.if-number-eq0.true

pub invariant_of-self-then-number-eq0 : goal.invariant_of-self-then-number-eq0
invariant_of-self-then-number-eq0 c = held_more c.args.holder _ c.self.inside.pairs c.hold_first.new.pairs c.self.invariant c.in_ok-hold_first.ensures.held

pub returns-then-number-eq0-clause-held : goal.returns-then-number-eq0-clause-held
returns-then-number-eq0-clause-held c = view_more c.args.holder _ c.self.inside.pairs c.hold_first.new.pairs c.number.ensures.rises c.in_ok-hold_first.ensures.held ∙ ap (held _) c.self.view_is

pub returns-then-number-eq0-clause-first : goal.returns-then-number-eq0-clause-first
returns-then-number-eq0-clause-first c = none_told _ (sym (holders_are c.self.inside.pairs c.number.ensures.rises c.args.self.now c.self.view_is _ _ c.number.ensures.number) ∙ c.if-number-eq0.true)

pub hold_again-requires-clause-some : goal.hold_again-requires-clause-some
hold_again-requires-clause-some c = held_some _ _ c.number.ensures.number c.if-number-eq0.false

pub invariant_of-self-2 : goal.invariant_of-self-2
invariant_of-self-2 c = held_more c.args.holder _ c.self.inside.pairs c.hold_again.new.pairs c.self.invariant c.in_ok-hold_again.ensures.held

pub returns-clause-held : goal.returns-clause-held
returns-clause-held c = view_more c.args.holder _ c.self.inside.pairs c.hold_again.new.pairs c.number.ensures.rises c.in_ok-hold_again.ensures.held ∙ ap (held _) c.self.view_is

pub returns-clause-first : goal.returns-clause-first
returns-clause-first c = some_told _ _ (holders_are c.self.inside.pairs c.number.ensures.rises c.args.self.now c.self.view_is _ _ c.number.ensures.number) c.if-number-eq0.false
