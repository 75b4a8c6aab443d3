use Rattle.std.proofs.Common.{sym, ap, ◌∙◌, map, Ok}
use Rattle.plan_model.specs.Services as plain
use Rattle.uno_values.specs.Values.{plain_of}
use Rattle.service_manager.specs.declared.created.Created.TheVariants.{Singleton}
use Rattle.service_manager.proofs.AnswerLaws.{is_made, is_bad, is_unknown, is_refused_for_memory}
use Rattle.service_manager.proofs.SingletonLaws.{among_none, among_some, takes_none, takes_some}
use Rattle.service_manager.proofs.creating.of_singleton.Goals as goal

pub returns-in_default : goal.returns-in_default
returns-in_default c = is_unknown _ (among_none c.args.name.now c.args.singletons.now (map plain_of c.args.args.now) c.in_default.ensures)

pub returns-then-not-is_empty : goal.returns-then-not-is_empty
returns-then-not-is_empty c =
    is_bad _ (among_some c.args.name.now c.args.singletons.now (map plain_of c.args.args.now) c.in-Some.place c.in-Some.ensures ∙ takes_some c.in-Some.place c.args.args.now (sym c.is_empty.ensures ∙ c.if-not-is_empty.true))

pub returns-in-Ok : goal.returns-in-Ok
returns-in-Ok c =
    is_made (Singleton c.in-Ok.place) _
    (among_some c.args.name.now c.args.singletons.now (map plain_of c.args.args.now) c.in-Some.place c.in-Some.ensures ∙ takes_none c.in-Some.place c.args.args.now (sym c.is_empty.ensures ∙ c.if-not-is_empty.false)
    ∙ ap (λ n. Ok (plain.singleton n)) (sym c.in-Ok.ensures.1))

pub returns-in-Err : goal.returns-in-Err
returns-in-Err c =
    is_refused_for_memory (plain.singleton c.in-Some.place) _
    (among_some c.args.name.now c.args.singletons.now (map plain_of c.args.args.now) c.in-Some.place c.in-Some.ensures ∙ takes_none c.in-Some.place c.args.args.now (sym c.is_empty.ensures ∙ c.if-not-is_empty.false))
