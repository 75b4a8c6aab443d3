use Rattle.std.proofs.Common.{Some, sym, ap, ◌∙◌}
use Rattle.plan_reading_model.specs.TermReading.{term_at}
use Rattle.term_pieces.specs.Pieces.{term_in}
use Rattle.plan_lines.specs.Opened.{opened, place_of, is_read}
use Rattle.plan_lines.specs.Pieces.{pieces_of}
use Rattle.plan_lines.proofs.LoopLemmas.{none_ready, none_comes, term_read}
use Rattle.plan_lines.proofs.terms.Terms.push.Goals as goal

pub loop-place-init : goal.loop-place-init
loop-place-init c = (
  none_comes c.args.self.now.words.now c.args.stack.now.items c.args.pieces.now.items c.args.bytes.now c.requires.stack c.requires.pieces,
  none_ready c.args.stack.now.items c.args.pieces.now.items c.requires.stack c.requires.pieces,
)

pub returns-clause-term : goal.returns-clause-term
returns-clause-term c =
    (term_read c.args.self.now.words.now (place_of c.loop-place.place) c.loop-place.stack.items c.loop-place.pieces.items (term_at c.args.self.now.words.now c.args.bytes.now)
    (ap (λ s. is_read (place_of c.loop-place.place) (opened s)) (sym c.deref.ensures.value) ∙ sym c.is_read.ensures ∙ c.loop-place-test.false) c.loop-place.invariant.0 c.loop-place.invariant.1).0
    ∙ ap (λ rest. Some (term_in (pieces_of c.loop-place.pieces.items), rest)) (sym c.left_at.ensures)

pub returns-clause-one : goal.returns-clause-one
returns-clause-one c =
    (term_read c.args.self.now.words.now (place_of c.loop-place.place) c.loop-place.stack.items c.loop-place.pieces.items (term_at c.args.self.now.words.now c.args.bytes.now)
    (ap (λ s. is_read (place_of c.loop-place.place) (opened s)) (sym c.deref.ensures.value) ∙ sym c.is_read.ensures ∙ c.loop-place-test.false) c.loop-place.invariant.0 c.loop-place.invariant.1).1
