use Rattle.std.proofs.Common.{sym, ap, cond, ◌∙◌}
use Rattle.plan_model.specs.Services.{content_of}
use Rattle.uno_entities.specs.TypeNames.{kind_of}
use Rattle.uno_values.specs.Values.{plain_of}
use Rattle.service_manager.proofs.ArgumentLaws.{any_is, any_not}
use Rattle.service_manager.proofs.arguments.whole_or_content.Goals as goal

pub returns-then-is_any : goal.returns-then-is_any
returns-then-is_any c = sym (ap (λ b. cond b (plain_of c.args.arg.now) (content_of (plain_of c.args.arg.now))) (any_is (kind_of c.args.kind.now) (c.is_any.ensures.0 c.if-is_any.true)))

pub returns : goal.returns
returns c =
    c.content.ensures ∙ sym (ap (λ b. cond b (plain_of c.args.arg.now) (content_of (plain_of c.args.arg.now))) (any_not (kind_of c.args.kind.now) c.is_any.result c.if-is_any.false c.is_any.ensures.1))
