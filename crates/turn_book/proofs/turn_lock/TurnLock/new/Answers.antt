use Rattle.std.proofs.Common.{Some, ◌∙◌}
use Rattle.turn_book.proofs.Passing.{opens_as, rests_first, key_is, first_facts, pushed_one, one_same}
use Rattle.turn_book.proofs.turn_lock.TurnLock.new.Goals as goal

pub new-requires : goal.new-requires
new-requires g c =
    opens_as g.B.Book.items g.B.Book.fixed c.args.book c.of-given.result.value c.count-count.result c.push.new.self.items c.of-given.ensures c.count-count.ensures
    (pushed_one c.new-slots.result.items c.push.new.self.items (Some c.args.book) c.in_default.ensures.items c.new-slots.ensures.items)

pub only-requires : goal.only-requires
only-requires g c = (c.args.book, c.in-Err-new.ensures.err ∙ pushed_one c.new-slots.result.items c.push.new.self.items (Some c.args.book) c.in_default.ensures.items c.new-slots.ensures.items)

pub returns-clause-err : goal.returns-clause-err
returns-clause-err g c =
    one_same c.in-Err-new.refused.slots.items c.only.result c.args.book c.only.ensures
    (c.in-Err-new.ensures.err ∙ pushed_one c.new-slots.result.items c.push.new.self.items (Some c.args.book) c.in_default.ensures.items c.new-slots.ensures.items)

pub returns-in-Ok-clause-pass : goal.returns-in-Ok-clause-pass
returns-in-Ok-clause-pass g c = let i = c.in-Ok.ensures.ok in rests_first g.B.Book.items g.B.Book.fixed c.in-Ok.table.shared c.in-Ok.pass c.of-given.result i.2 i.4 i.5

pub returns-in-Ok-clause-book : goal.returns-in-Ok-clause-book
returns-in-Ok-clause-book g c = key_is c.in-Ok.table.shared.key c.of-given.result c.args.book c.in-Ok.ensures.ok.5 c.of-given.ensures

pub returns-in-Ok-clause-seen : goal.returns-in-Ok-clause-seen
returns-in-Ok-clause-seen g c = (first_facts g.B.Book.items g.B.Book.fixed c.in-Ok.pass.me c.of-given.result.value c.args.book c.in-Ok.ensures.ok.4 c.of-given.ensures).0

pub returns-in-Ok-clause-own : goal.returns-in-Ok-clause-own
returns-in-Ok-clause-own g c = (first_facts g.B.Book.items g.B.Book.fixed c.in-Ok.pass.me c.of-given.result.value c.args.book c.in-Ok.ensures.ok.4 c.of-given.ensures).1

pub returns-in-Ok-clause-room : goal.returns-in-Ok-clause-room
returns-in-Ok-clause-room g c = (first_facts g.B.Book.items g.B.Book.fixed c.in-Ok.pass.me c.of-given.result.value c.args.book c.in-Ok.ensures.ok.4 c.of-given.ensures).2
