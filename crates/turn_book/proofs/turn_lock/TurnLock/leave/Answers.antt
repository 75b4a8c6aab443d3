use Rattle.std.proofs.Common.{None, rules, ◌∙◌}
use Rattle.turn_book.proofs.Passing.{may_record, may_pass_on, left_is, rests, grown_some, facts, has_fixed, first_and_rest}
use Rattle.turn_book.proofs.turn_lock.TurnLock.leave.Goals as goal

pub exchange-nothing-requires : goal.exchange-nothing-requires
exchange-nothing-requires g c =
    let p = c.requires.turn in
    (p.of_lock.table, (None, first_and_rest c.args.pass.now.me.1 (0, None) p.out))

pub store-requires : goal.store-requires
store-requires g c =
    let p = c.requires.turn in
    let e = c.exchange-nothing.ensures in (
      e.0 ∙ p.of_lock.table,
      search rules,
      may_record _ _ _ _ _ c.args.pass.now.me c.exchange-nothing.new.seat.me p.ticket c.count-count.result c.args.turn.book p.of_lock.numbered p.turn p.out e.3 c.requires.items c.count-count.ensures,
    )

pub fetch_add-served-requires : goal.fetch_add-served-requires
fetch_add-served-requires g c =
    let p = c.requires.turn in
    let e = c.exchange-nothing.ensures in
    let s = c.store.ensures in (
      s.0 ∙ (e.0 ∙ p.of_lock.table),
      search rules,
      may_pass_on _ _ _ _ _ c.args.pass.now.me c.exchange-nothing.new.seat.me c.store.new.seat.me c.args.turn.book p.of_lock.numbered p.out e.3 s.2 (has_fixed c.args.pass.now.me.0.fixed _ _ p.of_lock.fixed_is c.requires.fixed),
    )

pub returns-clause-pass : goal.returns-clause-pass
returns-clause-pass g c =
    let p = c.requires.turn in
    let e = c.exchange-nothing.ensures in
    let s = c.store.ensures in
    let a = c.fetch_add-served.ensures in
    let m = c.args.pass.now.me in
    rests _ _ c.fetch_add-served.new.seat _ _ _ _ (a.0 ∙ (s.0 ∙ (e.0 ∙ p.of_lock.table))) (left_is _ g.B.Book.fixed m c.exchange-nothing.new.seat.me c.store.new.seat.me c.fetch_add-served.new.seat.me c.args.turn.book p.out e.3 s.2 a.2) p.of_lock.fixed_is
    (grown_some m.0.own _ p.of_lock.numbered)

pub returns-clause-seen : goal.returns-clause-seen
returns-clause-seen g c =
    (facts c.fetch_add-served.new.seat.me _ _ _ _ _ _ (left_is _ g.B.Book.fixed c.args.pass.now.me c.exchange-nothing.new.seat.me c.store.new.seat.me c.fetch_add-served.new.seat.me c.args.turn.book c.requires.turn.out c.exchange-nothing.ensures.3 c.store.ensures.2 c.fetch_add-served.ensures.2)).0

pub returns-clause-own : goal.returns-clause-own
returns-clause-own g c =
    (facts c.fetch_add-served.new.seat.me _ _ _ _ _ _ (left_is _ g.B.Book.fixed c.args.pass.now.me c.exchange-nothing.new.seat.me c.store.new.seat.me c.fetch_add-served.new.seat.me c.args.turn.book c.requires.turn.out c.exchange-nothing.ensures.3 c.store.ensures.2 c.fetch_add-served.ensures.2)).1

pub returns-clause-room : goal.returns-clause-room
returns-clause-room g c =
    (facts c.fetch_add-served.new.seat.me _ _ _ _ _ _ (left_is _ g.B.Book.fixed c.args.pass.now.me c.exchange-nothing.new.seat.me c.store.new.seat.me c.fetch_add-served.new.seat.me c.args.turn.book c.requires.turn.out c.exchange-nothing.ensures.3 c.store.ensures.2 c.fetch_add-served.ensures.2)).2
