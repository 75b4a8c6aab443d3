use Rattle.std.proofs.Common.{[], ◌∷◌, rules, ◌∙◌, arith}
use Rattle.turn_book.proofs.Numbering.{numbers_as}
use Rattle.turn_book.proofs.Passing.{may_count_up, may_split, kept_is, new_is, rests, facts, one_back}
use Rattle.turn_book.proofs.turn_lock.TurnLock.split.Goals as goal

pub fetch_add-requires : goal.fetch_add-requires
fetch_add-requires g c =
    let p = c.requires.pass in
    (p.of_lock.table, search rules, numbers_as _ _ _ _ _ c.args.pass.now.me p.of_lock.numbered p.idle c.requires.room)

pub fetch_add-requires-2 : goal.fetch_add-requires-2
fetch_add-requires-2 g c =
    let p = c.requires.pass in
    let a = c.fetch_add.ensures in
    (a.0 ∙ p.of_lock.table, search rules, may_count_up _ _ _ _ _ c.args.pass.now.me c.fetch_add.new.seat.me c.fetch_add.result p.of_lock.numbered a.2)

pub split_seat-requires : goal.split_seat-requires
split_seat-requires g c =
    let p = c.requires.pass in
    let a = c.fetch_add.ensures in
    let b = c.fetch_add-2.ensures in
    (b.0 ∙ (a.0 ∙ p.of_lock.table), search rules, may_split _ _ _ _ c.args.pass.now.me c.fetch_add.new.seat.me c.fetch_add-2.new.seat.me c.fetch_add.result p.of_lock.numbered a.2 b.2)

pub returns-clause-pass : goal.returns-clause-pass
returns-clause-pass g c =
    let p = c.requires.pass in
    let a = c.fetch_add.ensures in
    let b = c.fetch_add-2.ensures in
    let s = c.split_seat.ensures in
    let m = c.args.pass.now.me in
    let table = b.0 ∙ (a.0 ∙ p.of_lock.table) in (
      rests _ _ c.split_seat.new.seat m.0.fixed m.0.seen m.0.own _ (s.0 ∙ table) (kept_is m c.fetch_add.new.seat.me c.fetch_add-2.new.seat.me c.split_seat.new.seat.me c.fetch_add.result a.2 b.2 s.2 p.empty) p.of_lock.fixed_is p.of_lock.numbered,
      rests _ _ c.split_seat.result m.0.fixed m.0.seen ((c.fetch_add.result, []) ∷ []) 0 (s.3 ∙ table) (new_is m c.fetch_add.new.seat.me c.fetch_add-2.new.seat.me c.split_seat.result.me c.fetch_add.result a.2 b.2 s.4) p.of_lock.fixed_is
          (omega arith),
    )

pub returns-clause-seen : goal.returns-clause-seen
returns-clause-seen g c =
    let p = c.requires.pass in
    let a = c.fetch_add.ensures in
    let b = c.fetch_add-2.ensures in
    let s = c.split_seat.ensures in
    let m = c.args.pass.now.me in (
      (facts c.split_seat.new.seat.me _ _ _ _ _ _ (kept_is m c.fetch_add.new.seat.me c.fetch_add-2.new.seat.me c.split_seat.new.seat.me c.fetch_add.result a.2 b.2 s.2 p.empty)).0,
      (facts c.split_seat.result.me _ _ _ _ _ _ (new_is m c.fetch_add.new.seat.me c.fetch_add-2.new.seat.me c.split_seat.result.me c.fetch_add.result a.2 b.2 s.4)).0,
    )

pub returns-clause-own : goal.returns-clause-own
returns-clause-own g c =
    let p = c.requires.pass in
    let a = c.fetch_add.ensures in
    let b = c.fetch_add-2.ensures in
    let s = c.split_seat.ensures in
    let m = c.args.pass.now.me in (
      (facts c.split_seat.new.seat.me _ _ _ _ _ _ (kept_is m c.fetch_add.new.seat.me c.fetch_add-2.new.seat.me c.split_seat.new.seat.me c.fetch_add.result a.2 b.2 s.2 p.empty)).1,
      (c.fetch_add.result, (facts c.split_seat.result.me _ _ _ _ _ _ (new_is m c.fetch_add.new.seat.me c.fetch_add-2.new.seat.me c.split_seat.result.me c.fetch_add.result a.2 b.2 s.4)).1, a.2.1),
    )

pub returns-clause-room : goal.returns-clause-room
returns-clause-room g c =
    let p = c.requires.pass in
    let a = c.fetch_add.ensures in
    let b = c.fetch_add-2.ensures in
    let s = c.split_seat.ensures in
    let m = c.args.pass.now.me in (
      one_back c.split_seat.new.seat.me.0.room m.0.room (facts c.split_seat.new.seat.me _ _ _ _ _ _ (kept_is m c.fetch_add.new.seat.me c.fetch_add-2.new.seat.me c.split_seat.new.seat.me c.fetch_add.result a.2 b.2 s.2 p.empty)).2 c.requires.room,
      (facts c.split_seat.result.me _ _ _ _ _ _ (new_is m c.fetch_add.new.seat.me c.fetch_add-2.new.seat.me c.split_seat.result.me c.fetch_add.result a.2 b.2 s.4)).2,
    )
