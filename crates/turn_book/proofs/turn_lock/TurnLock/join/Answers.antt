use Rattle.std.proofs.Common.{rules, ◌∙◌}
use Rattle.turn_book.proofs.Numbering.{joins_as}
use Rattle.turn_book.proofs.Passing.{may_count_down, joined_is, rests, both_some, facts}
use Rattle.turn_book.proofs.turn_lock.TurnLock.join.Goals as goal

pub join_seat-requires : goal.join_seat-requires
join_seat-requires g c =
    let p = c.requires.pass in
    let q = c.requires.other in
    (p.of_lock.table, q.of_lock.table, q.empty, search rules, joins_as _ _ _ _ c.args.pass.now.me.0 _ c.args.other.me.0 p.of_lock.numbered p.idle q.of_lock.numbered q.idle)

pub fetch_sub-requires : goal.fetch_sub-requires
fetch_sub-requires g c =
    let p = c.requires.pass in
    let a = c.join_seat.ensures in
    (a.0 ∙ p.of_lock.table, search rules, may_count_down _ _ _ _ _ c.args.pass.now.me c.join_seat.new.seat.me c.args.other.me.0 p.of_lock.numbered a.2)

pub returns-clause-pass : goal.returns-clause-pass
returns-clause-pass g c =
    let p = c.requires.pass in
    let a = c.join_seat.ensures in
    let b = c.fetch_sub.ensures in
    let m = c.args.pass.now.me in
    let w = c.args.other.me.0 in
    rests _ _ c.fetch_sub.new.seat _ _ _ _ (b.0 ∙ (a.0 ∙ p.of_lock.table)) (joined_is m c.join_seat.new.seat.me c.fetch_sub.new.seat.me w a.2 b.2 p.empty) p.of_lock.fixed_is (both_some m.0.own w.own p.of_lock.numbered)

pub returns-clause-seen : goal.returns-clause-seen
returns-clause-seen g c =
    (facts c.fetch_sub.new.seat.me _ _ _ _ _ _ (joined_is c.args.pass.now.me c.join_seat.new.seat.me c.fetch_sub.new.seat.me c.args.other.me.0 c.join_seat.ensures.2 c.fetch_sub.ensures.2 c.requires.pass.empty)).0

pub returns-clause-own : goal.returns-clause-own
returns-clause-own g c =
    (facts c.fetch_sub.new.seat.me _ _ _ _ _ _ (joined_is c.args.pass.now.me c.join_seat.new.seat.me c.fetch_sub.new.seat.me c.args.other.me.0 c.join_seat.ensures.2 c.fetch_sub.ensures.2 c.requires.pass.empty)).1

pub returns-clause-room : goal.returns-clause-room
returns-clause-room g c =
    (facts c.fetch_sub.new.seat.me _ _ _ _ _ _ (joined_is c.args.pass.now.me c.join_seat.new.seat.me c.fetch_sub.new.seat.me c.args.other.me.0 c.join_seat.ensures.2 c.fetch_sub.ensures.2 c.requires.pass.empty)).2
