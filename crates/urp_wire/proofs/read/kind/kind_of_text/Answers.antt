use Rattle.std.proofs.Common.{sym, ap, ◌∙◌}
use Rattle.uno_model.specs.TypeClasses.{class_code}
use Rattle.urp_wire.proofs.Texts.{none_named, other_named, same_named}
use Rattle.urp_wire.proofs.read.kind.kind_of_text.Goals as goal

pub returns-in_default : goal.returns-in_default
returns-in_default c = none_named _ _ _ c.requires (rw c.in_default.is at c.in_ok-kind.ensures)

pub returns-then-code : goal.returns-then-code
returns-then-code c = other_named _ _ _ _ c.requires (rw c.in-Some.is at c.in_ok-kind.ensures) (λ same. c.if-code.true (c.code.ensures ∙ ap class_code c.class.ensures ∙ same ∙ sym c.code-2.ensures))

pub returns : goal.returns
returns c = same_named _ _ _ _ c.requires (rw c.in-Some.is at c.in_ok-kind.ensures) (ap class_code (sym c.class.ensures) ∙ sym c.code.ensures ∙ c.if-code.false ∙ c.code-2.ensures)
