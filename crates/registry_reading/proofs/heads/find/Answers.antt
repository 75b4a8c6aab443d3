use Rattle.std.proofs.Common.{rules, of_calls, sym}
use Rattle.std.proofs.lemmas.Fn.{always_returns_same}
use Rattle.registry_reading.proofs.HeadLemmas.{order_of, placed, parted}
use Rattle.registry_reading.proofs.heads.find.Goals as goal

pub returns-in-Ok : goal.returns-in-Ok
returns-in-Ok c =
    placed _ _ c.in-Ok.place _ c.requires c.in-Ok.ensures.bound
    (c.in-Ok.ensures.position (order_of c.args.name.now) (always_returns_same _ _ _ (λ a r f k. search (rules, of_calls)))) c.at.ensures

pub returns-in-Err : goal.returns-in-Err
returns-in-Err c =
    sym (parted _ _ c.in-Err.field-0 c.requires
    (c.in-Err.ensures.position (order_of c.args.name.now) (always_returns_same _ _ _ (λ a r f k. search (rules, of_calls)))))
