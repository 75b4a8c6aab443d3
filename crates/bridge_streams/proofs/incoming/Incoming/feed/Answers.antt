use Rattle.std.proofs.Common.{◌∙◌, sym, ap, subst, Err}
use Rattle.urp_model.specs.declared.reason.Reason.TheVariants.{TooLarge, NoMessages}
use Rattle.bridge_streams.specs.Spoken.{heard_by}
use Rattle.bridge_streams.specs.Taking.{Took, TookNone}
use Rattle.bridge_streams.proofs.TakingLemmas.{unended_block, ended_taken, ended_rest, took_large, took_none, with_heard}
use Rattle.bridge_streams.proofs.incoming.Incoming.feed.Goals as goal

pub invariant_of-self : goal.invariant_of-self
invariant_of-self c = (
  ended_rest (heard_by c.self.inside.listener) c.self.inside.blocks c.feed.new.self c.args.piece.now c.in-Ok.count c.self.invariant.0 c.in-Ok.ensures.took c.taken.result c.taken.new.blocks c.taken.ensures,
  c.self.invariant.1,
)

pub returns-in-Ok-clause-took : goal.returns-in-Ok-clause-took
returns-in-Ok-clause-took c =
    let heard = heard_by c.self.inside.listener in
    subst (λ old. Took old c.args.piece.now c.taken.result (with_heard heard c.taken.new.blocks)) c.self.view_is
    (ended_taken heard c.self.inside.blocks c.feed.new.self c.args.piece.now c.in-Ok.count c.self.invariant.0 c.in-Ok.ensures.took c.taken.result c.taken.new.blocks c.taken.ensures)

pub feed-requires-clause-no_block : goal.feed-requires-clause-no_block
feed-requires-clause-no_block c = unended_block c.self.inside.blocks.held c.self.invariant.0

pub returns-in-Err-TooLarge-clause-took : goal.returns-in-Err-TooLarge-clause-took
returns-in-Err-TooLarge-clause-took c =
    let heard = heard_by c.self.inside.listener in
    let wants = c.header_wants-wants.result in
    let says = (c.in-Err-TooLarge.ensures.too_large c.in-Err-TooLarge.field-0-0).0 (ap Err c.in-Err-TooLarge.field-0-is) in
    subst (λ old. TookNone old c.args.piece.now wants TooLarge (with_heard heard c.feed.new.self)) c.self.view_is
    (subst (λ s. TookNone (with_heard heard c.self.inside.blocks) c.args.piece.now wants TooLarge (with_heard heard s)) (sym c.in-Err-TooLarge.ensures.refused)
    (took_large (with_heard heard c.self.inside.blocks) c.args.piece.now wants c.self.invariant.0 c.in-Err-TooLarge.ensures.refused_at c.header_wants-wants.ensures c.in-Err-TooLarge.field-0-0 says))

pub returns-in-Err-NoMessages-clause-took : goal.returns-in-Err-NoMessages-clause-took
returns-in-Err-NoMessages-clause-took c =
    let heard = heard_by c.self.inside.listener in
    let wants = c.header_wants-wants.result in
    let says = c.in-Err-NoMessages.ensures.no_messages.0 (ap Err c.in-Err-NoMessages.field-0-is) in
    subst (λ old. TookNone old c.args.piece.now wants NoMessages (with_heard heard c.feed.new.self)) c.self.view_is
    (subst (λ s. TookNone (with_heard heard c.self.inside.blocks) c.args.piece.now wants NoMessages (with_heard heard s)) (sym c.in-Err-NoMessages.ensures.refused)
    (took_none (with_heard heard c.self.inside.blocks) c.args.piece.now wants c.self.invariant.0 c.in-Err-NoMessages.ensures.refused_at c.header_wants-wants.ensures says))
