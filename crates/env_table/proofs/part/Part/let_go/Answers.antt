use Rattle.std.proofs.Common.{◌∙◌, ap, sym}
use Rattle.table_model.specs.Holdings.{let_go}
use Rattle.table_model.proofs.BagLaws.{one_less_none}
use Rattle.table_model.proofs.HoldLaws.{hold_order}
use Rattle.env_table.proofs.Occurrences.{holders_are, times_are}
use Rattle.env_table.proofs.Parts.{held_less}
use Rattle.env_table.proofs.RowChanges.{view_less, refused, answered, told_one, told_several, held_some}
use Rattle.env_table.proofs.part.Part.let_go.Goals as goal

pub let_last_go-requires-clause-there : goal.let_last_go-requires-clause-there
let_last_go-requires-clause-there c = held_some _ _ c.counts-times.ensures.times c.if-times-eq0.false

pub let_last_go-requires-clause-last : goal.let_last_go-requires-clause-last
let_last_go-requires-clause-last c = sym c.counts-times.ensures.number ∙ c.if-number-eq1.true

pub let_one_go-requires-clause-there : goal.let_one_go-requires-clause-there
let_one_go-requires-clause-there c = held_some _ _ c.counts-times.ensures.times c.if-times-eq0.false

pub let_one_go-requires-clause-several : goal.let_one_go-requires-clause-several
let_one_go-requires-clause-several c one = c.if-number-eq1.false (c.counts-times.ensures.number ∙ one)

pub invariant_of-self : goal.invariant_of-self
invariant_of-self c = held_less c.args.holder _ c.self.inside.pairs c.let_last_go.new.pairs c.self.invariant _ c.let_last_go.ensures

pub invariant_of-self-2 : goal.invariant_of-self-2
invariant_of-self-2 c = held_less c.args.holder _ c.self.inside.pairs c.let_one_go.new.pairs c.self.invariant _ c.let_one_go.ensures

pub returns-then-times-eq0-clause-answer : goal.returns-then-times-eq0-clause-answer
returns-then-times-eq0-clause-answer c =
    let times = times_are c.self.inside.pairs c.counts-times.ensures.rises c.args.self.now c.self.view_is _ _ c.args.holder c.counts-times.ensures.times in
    refused _ _ (sym times ∙ c.if-times-eq0.true)

pub returns-then-times-eq0-clause-gone : goal.returns-then-times-eq0-clause-gone
returns-then-times-eq0-clause-gone c =
    let times = times_are c.self.inside.pairs c.counts-times.ensures.rises c.args.self.now c.self.view_is _ _ c.args.holder c.counts-times.ensures.times in
    sym (one_less_none hold_order _ c.args.self.now (sym times ∙ c.if-times-eq0.true))

pub returns-then-number-eq1-clause-answer : goal.returns-then-number-eq1-clause-answer
returns-then-number-eq1-clause-answer c =
    let times = times_are c.self.inside.pairs c.counts-times.ensures.rises c.args.self.now c.self.view_is _ _ c.args.holder c.counts-times.ensures.times in
    let number = holders_are c.self.inside.pairs c.counts-times.ensures.rises c.args.self.now c.self.view_is _ _ c.counts-times.ensures.number in
    answered _ _ _ (held_some _ _ times c.if-times-eq0.false) (told_one _ (sym number ∙ c.if-number-eq1.true))

pub returns-then-number-eq1-clause-gone : goal.returns-then-number-eq1-clause-gone
returns-then-number-eq1-clause-gone c =
    view_less c.args.holder _ c.self.inside.pairs c.let_last_go.new.pairs c.counts-times.ensures.rises (held_some _ _ c.counts-times.ensures.times c.if-times-eq0.false) c.let_last_go.ensures
    ∙ ap (let_go _) c.self.view_is

pub returns-clause-answer : goal.returns-clause-answer
returns-clause-answer c =
    let times = times_are c.self.inside.pairs c.counts-times.ensures.rises c.args.self.now c.self.view_is _ _ c.args.holder c.counts-times.ensures.times in
    let number = holders_are c.self.inside.pairs c.counts-times.ensures.rises c.args.self.now c.self.view_is _ _ c.counts-times.ensures.number in
    answered _ _ _ (held_some _ _ times c.if-times-eq0.false) (told_several _ (λ one. c.if-number-eq1.false (number ∙ one)))

pub returns-clause-gone : goal.returns-clause-gone
returns-clause-gone c =
    view_less c.args.holder _ c.self.inside.pairs c.let_one_go.new.pairs c.counts-times.ensures.rises (held_some _ _ c.counts-times.ensures.times c.if-times-eq0.false) c.let_one_go.ensures
    ∙ ap (let_go _) c.self.view_is
