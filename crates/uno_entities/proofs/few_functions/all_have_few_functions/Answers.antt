use Rattle.std.proofs.Common.{refl}
use Rattle.std.proofs.lemmas.List.{length-map}
use Rattle.std.proofs.lemmas.Result.{IfOk-weaker}
use Rattle.uno_entities.proofs.FewLemmas.{few_together, none_known, one_has_many, all_have_few}
use Rattle.uno_entities.specs.Entities.{entity_of, entities_of}
use Rattle.uno_entities.proofs.few_functions.all_have_few_functions.Goals as goal

pub returns-then-functions_of_all-le-MOST : goal.returns-then-functions_of_all-le-MOST
returns-then-functions_of_all-le-MOST c = (λ yes. few_together _ _ c.requires.rising c.requires.circles c.functions_of_all.ensures c.if-functions_of_all-le-MOST.true, λ few. refl)

pub others_have_few-requires-clause-before : goal.others_have_few-requires-clause-before
others_have_few-requires-clause-before c =
    none_known (entities_of c.args.entities.now) _ _ c.in_ok-known.known.items (length-map c.args.entities.now entity_of) c.in_ok-known.ensures
    c.as_mut_slice.ensures.value

pub returns-then-not-first_few : goal.returns-then-not-first_few
returns-then-not-first_few c =
    one_has_many (entities_of c.args.entities.now) _ c.in_ok-first_few.first_few c.in_ok-first_few.ensures.few c.if-not-first_few.true

pub returns : goal.returns
returns c =
    IfOk-weaker c.others_have_few-2.result _ _
    (λ few. all_have_few (entities_of c.args.entities.now) _ _ c.in_ok-none.none.items few (length-map c.args.entities.now entity_of) c.in_ok-none.ensures
    c.as_slice-2.ensures.value)
    c.others_have_few-2.ensures.few
