use Rattle.std.proofs.Common.{sym, ap, ◌∙◌}
use Rattle.type_registry.specs.Frames.{names_in}
use Rattle.type_registry.proofs.MetLemmas.{none_met, is_last, is_before}
use Rattle.type_registry.proofs.frames.+has.Goals as goal

pub returns-in-Nothing : goal.returns-in-Nothing
returns-in-Nothing t c = none_met c.args.name.now _ (ap names_in c.in-Nothing.is)

pub returns-then-eq : goal.returns-then-eq
returns-then-eq t c = is_last _ c.in-More.last.now (names_in c.in-More.before.now) _ (ap names_in c.in-More.is) (sym c.eq.ensures ∙ c.if-eq.true)

pub returns-else-eq : goal.returns-else-eq
returns-else-eq t c =
    is_before _ c.in-More.last.now (names_in c.in-More.before.now) _ _ (ap names_in c.in-More.is) (sym c.eq.ensures ∙ c.if-eq.false) c.has.ensures
