use Rattle.std.proofs.Common.{rules, ap}
use Rattle.turn_book.proofs.Numbering.{asks_as}
use Rattle.turn_book.proofs.Passing.{rests_same, starts_same, whole_same, not_all, more_than_one}
use Rattle.turn_book.proofs.turn_lock.TurnLock.close.Goals as goal

pub load-passes-requires : goal.load-passes-requires
load-passes-requires g c =
    let p = c.requires.pass in
    (p.of_lock.table, search rules, asks_as _ _ _ _ _ c.args.pass.me p.of_lock.numbered p.idle)

pub returns-then-passes-ne1-clause-out : goal.returns-then-passes-ne1-clause-out
returns-then-passes-ne1-clause-out g c =
    let a = c.load-passes.ensures.2 in
    (not_all c.load-passes.result _ c.if-passes-ne1.true a.2 a.4, more_than_one c.load-passes.result c.if-passes-ne1.true a.1)

pub returns-then-passes-ne1-clause-back : goal.returns-then-passes-ne1-clause-back
returns-then-passes-ne1-clause-back g c =
    let l = c.load-passes.ensures in
    (rests_same _ _ c.args.pass c.load-passes.new.seat l.0 l.2.0 c.requires.pass, ap (λ m. m.0.seen) l.2.0, ap (λ m. m.0.own) l.2.0, ap (λ m. m.0.room) l.2.0)

pub enter-book-requires : goal.enter-book-requires
enter-book-requires g c =
    let l = c.load-passes.ensures in
    record { pass = rests_same _ _ c.args.pass c.load-passes.new.seat l.0 l.2.0 c.requires.pass }

pub returns-clause-begins : goal.returns-clause-begins
returns-clause-begins g c = starts_same c.args.pass.me c.load-passes.new.seat.me _ c.load-passes.ensures.2.0 c.enter-book.ensures.begins

pub returns-clause-whole : goal.returns-clause-whole
returns-clause-whole g c =
    let a = c.load-passes.ensures.2 in
    whole_same c.args.pass.me c.load-passes.new.seat.me _ a.0 c.enter-book.ensures.alone (a.3 c.if-passes-ne1.false)

pub returns-clause-fixed : goal.returns-clause-fixed
returns-clause-fixed g c = c.enter-book.ensures.fixed

pub returns-clause-last : goal.returns-clause-last
returns-clause-last g c = c.load-passes.ensures.2.3 c.if-passes-ne1.false
