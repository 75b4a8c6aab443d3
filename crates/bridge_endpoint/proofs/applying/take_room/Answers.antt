use Rattle.std.proofs.Common.{ap, arith}
use Rattle.bridge_endpoint.proofs.applying.take_room.Goals as goal

pub returns-clause-room : goal.returns-clause-room
returns-clause-room c b is =
    let first = ap (λ l. l.room) c.in_ok-reserve.ensures.room in
    let second = ap (λ l. l.room) c.in_ok-reserve-2.ensures.room in
    let brings = c.in_ok-more.ensures b is in omega (arith, first, second, brings)

pub returns-clause-some : goal.returns-clause-some
returns-clause-some c =
    let first = ap (λ l. l.room) c.in_ok-reserve.ensures.room in
    let second = ap (λ l. l.room) c.in_ok-reserve-2.ensures.room in omega (arith, first, second)
