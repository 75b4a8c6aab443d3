use Rattle.std.proofs.Common.{Some, rules, sym, ◌∙◌}
use Rattle.turn_book.proofs.Turning.{draws_as}
use Rattle.turn_book.proofs.Passing.{may_look, shown, not_shown, out_is, taken_is, Entered, entered, in_turn, facts, some_same}
use Rattle.turn_book.proofs.turn_lock.TurnLock.enter.Given.{Over}
use Rattle.turn_book.proofs.turn_lock.TurnLock.enter.Goals as goal

pub fetch_add-ticket-requires : goal.fetch_add-ticket-requires
fetch_add-ticket-requires g c =
    let p = c.requires.pass in
    (p.of_lock.table, search rules, draws_as _ _ _ _ _ c.args.pass.now.me p.of_lock.numbered p.idle)

pub load-found-requires : goal.load-found-requires
load-found-requires g c =
    let p = c.requires.pass in
    let d = c.fetch_add-ticket.ensures in
    let i = c.loop.invariant in
    (i.0 ∙ (d.0 ∙ p.of_lock.table), search rules, may_look _ _ _ _ _ c.args.pass.now.me _ d.2.0 p.of_lock.numbered (i.1 ∙ d.2.1))

pub exchange-requires : goal.exchange-requires
exchange-requires g c =
    let p = c.requires.pass in
    let d = c.fetch_add-ticket.ensures in
    let i = c.loop.invariant in
    let l = c.load-found.ensures in
    let took = l.2.0 (shown c.args.pass.now.me _ d.2.0 _ _ c.if-found-ticket.true d.2.2 (i.1 ∙ d.2.1)) in
    (l.0 ∙ (i.0 ∙ (d.0 ∙ p.of_lock.table)), (Some took.book, out_is _ _ _ _ took))

-- what was taken out is the book
pub unreachable-requires : goal.unreachable-requires
unreachable-requires g c =
    let d = c.fetch_add-ticket.ensures in
    let i = c.loop.invariant in
    let l = c.load-found.ensures in
    let took = l.2.0 (shown c.args.pass.now.me _ d.2.0 _ _ c.if-found-ticket.true d.2.2 (i.1 ∙ d.2.1)) in
    c.in_default.not-Some took.book (sym (taken_is _ _ _ _ _ took c.exchange.ensures.2))

pub loop-preserved : goal.loop-preserved
loop-preserved g c =
    let d = c.fetch_add-ticket.ensures in
    let i = c.loop.invariant in
    let l = c.load-found.ensures in
    (l.0 ∙ i.0, l.2.1 (not_shown c.args.pass.now.me _ d.2.0 _ _ c.if-found-ticket.false d.2.2 (i.1 ∙ d.2.1)) ∙ i.1)

-- the turn begins
begun : (g : Over) (c : goal.After-drop-iterator g) → Entered g.B.Book.items g.B.Book.fixed c.args.pass.now.me c.exchange.new.seat.me c.in-Some-exchange.book
begun g c =
    let d = c.fetch_add-ticket.ensures in
    let i = c.loop.invariant in
    let e = c.exchange.ensures in
    let drawn = i.1 ∙ d.2.1 in
    let took = c.load-found.ensures.2.0 (shown c.args.pass.now.me _ d.2.0 _ _ c.if-found-ticket.true d.2.2 drawn) in
    entered _ _ c.args.pass.now.me c.loop.pass.me c.load-found.new.seat.me c.exchange.new.seat.me d.2.0 c.exchange.result c.in-Some-exchange.book took drawn c.requires.pass.empty e.2 c.in-Some-exchange.is e.3

pub returns-then-found-ticket-clause-turn : goal.returns-then-found-ticket-clause-turn
returns-then-found-ticket-clause-turn g c =
    let p = c.requires.pass in
    let b = begun g c in
    in_turn _ _ c.exchange.new.seat _ _ _ _ b.ticket_is (c.exchange.ensures.0 ∙ (c.load-found.ensures.0 ∙ (c.loop.invariant.0 ∙ (c.fetch_add-ticket.ensures.0 ∙ p.of_lock.table)))) b.now p.of_lock.fixed_is p.of_lock.numbered

pub returns-then-found-ticket-clause-begins : goal.returns-then-found-ticket-clause-begins
returns-then-found-ticket-clause-begins g c = (begun g c).begins

pub returns-then-found-ticket-clause-seen : goal.returns-then-found-ticket-clause-seen
returns-then-found-ticket-clause-seen g c = (facts c.exchange.new.seat.me _ _ _ _ _ _ (begun g c).now).0

pub returns-then-found-ticket-clause-own : goal.returns-then-found-ticket-clause-own
returns-then-found-ticket-clause-own g c = (facts c.exchange.new.seat.me _ _ _ _ _ _ (begun g c).now).1

pub returns-then-found-ticket-clause-stands : goal.returns-then-found-ticket-clause-stands
returns-then-found-ticket-clause-stands g c = (begun g c).stands

pub returns-then-found-ticket-clause-alone : goal.returns-then-found-ticket-clause-alone
returns-then-found-ticket-clause-alone g c = (begun g c).alone

pub returns-then-found-ticket-clause-room : goal.returns-then-found-ticket-clause-room
returns-then-found-ticket-clause-room g c = (facts c.exchange.new.seat.me _ _ _ _ _ _ (begun g c).now).2

pub returns-then-found-ticket-clause-fixed : goal.returns-then-found-ticket-clause-fixed
returns-then-found-ticket-clause-fixed g c = some_same c.args.pass.now.me.0.fixed _ _ (begun g c).has c.requires.pass.of_lock.fixed_is
