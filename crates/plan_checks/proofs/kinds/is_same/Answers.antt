use Rattle.std.proofs.Common.{sym, ap, ◌∙◌}
use Rattle.uno_entities.specs.TypeNames.{kind_of}
use Rattle.uno_model.specs.Codes.{same_kind}
use Rattle.plan_checks.specs.Lent.{lent_kind}
use Rattle.plan_checks.proofs.Truths.{kind_told}
use Rattle.plan_checks.proofs.kinds.is_same.Goals as goal

pub returns-in-Interface : goal.returns-in-Interface
returns-in-Interface c = kind_told _ _ _ c.is_interface.ensures ∙ ap (λ f. same_kind (kind_of c.args.wanted.now) (lent_kind f)) (sym c.in-Interface.is)

pub returns-in-Whole : goal.returns-in-Whole
returns-in-Whole c = kind_told _ _ _ c.is.ensures ∙ ap (λ f. same_kind (kind_of c.args.wanted.now) (lent_kind f)) (sym c.in-Whole.is)
