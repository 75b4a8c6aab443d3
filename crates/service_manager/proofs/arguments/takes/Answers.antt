use Rattle.std.proofs.Common.{sym, subst}
use Rattle.uno_model.proofs.FitLaws.{fit_told}
use Rattle.uno_model.specs.Fits.{Fits, does_fit}
use Rattle.plan_model.specs.Services.{content_of}
use Rattle.uno_entities.specs.Entities.{field_of}
use Rattle.uno_entities.specs.TypeNames.{kind_of}
use Rattle.uno_values.specs.Values.{plain_of}
use Rattle.service_manager.proofs.ArgumentLaws.{takes_any, takes_fitting, any_not, same_answer}
use Rattle.service_manager.proofs.arguments.takes.Goals as goal

pub returns-then-is_any : goal.returns-then-is_any
returns-then-is_any c = takes_any c.args.registry.now (field_of c.args.param.now) (plain_of c.args.arg.now) (c.is_any.ensures.0 c.if-is_any.true)

pub returns : goal.returns
returns c =
    let reg = c.args.registry.now in
    let k = kind_of c.args.param.now.kind in
    let held = content_of (plain_of c.args.arg.now) in
    takes_fitting reg (field_of c.args.param.now) (plain_of c.args.arg.now) c.fits.result (any_not k c.is_any.result c.if-is_any.false c.is_any.ensures.1)
    (same_answer c.fits.result (does_fit reg held k) (λ t. subst (λ v. Fits reg v k) c.content.ensures (c.fits.ensures.0 t)) (λ f. c.fits.ensures.1 (subst (λ v. Fits reg v k) (sym c.content.ensures) f)) (fit_told reg c.requires.no_circle held k))
