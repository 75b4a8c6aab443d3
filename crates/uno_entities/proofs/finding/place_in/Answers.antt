use Rattle.std.proofs.Common.{rules, of_calls}
use Rattle.std.proofs.lemmas.Fn.{always_returns_same}
use Rattle.uno_entities.proofs.FindingLemmas.{order_of, placed, parted}
use Rattle.uno_entities.proofs.finding.place_in.Goals as goal

pub returns-clause-place : goal.returns-clause-place
returns-clause-place c =
    placed _ _ _ c.requires c.binary_search_by.ensures.bound
    (c.binary_search_by.ensures.position (order_of c.args.name.now) (always_returns_same _ _ _ (λ a r f k. search (rules, of_calls))))

pub returns-clause-gap : goal.returns-clause-gap
returns-clause-gap c =
    parted _ _ _ c.requires c.binary_search_by.ensures.bound
    (c.binary_search_by.ensures.position (order_of c.args.name.now) (always_returns_same _ _ _ (λ a r f k. search (rules, of_calls))))
