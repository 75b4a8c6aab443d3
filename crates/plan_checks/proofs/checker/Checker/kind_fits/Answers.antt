use Rattle.std.proofs.Common.{◌∙◌}
use Rattle.uno_entities.specs.TypeNames.{kind_of}
use Rattle.plan_checks.specs.Lent.{lent_kind}
use Rattle.plan_checks.proofs.Truths.{fits_same, fits_base, fits_none}
use Rattle.plan_checks.proofs.checker.Checker.kind_fits.Goals as goal

pub returns-in_default : goal.returns-in_default
returns-in_default c = c.is_same.ensures ∙ fits_same c.args.self.now.registry.now (kind_of c.args.wanted.now) (lent_kind c.args.from) c.in_default.ensures

pub returns-in-Some-face : goal.returns-in-Some-face
returns-in-Some-face c =
    c.is_base_of.ensures
    ∙ fits_base c.args.self.now.registry.now (kind_of c.args.wanted.now) (lent_kind c.args.from) _ _ _ _ c.in-Some.ensures c.in-Some-face.ensures c.as_str.ensures c.as_str-in-Some-face.ensures

pub returns-in-None : goal.returns-in-None
returns-in-None c = fits_none c.args.self.now.registry.now (kind_of c.args.wanted.now) (lent_kind c.args.from) _ c.in-Some.ensures c.in-None.ensures
