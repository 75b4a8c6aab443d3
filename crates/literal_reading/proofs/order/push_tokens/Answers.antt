use Rattle.std.proofs.Common.{◌≡◌, ◌-◌, ◌+◌, ◌∙◌, suc, length, sym, false, true, arith}
use Rattle.literal_model.specs.Shapes.{is_at_end}
use Rattle.literal_reading.proofs.OrderLemmas.{tokens_end, tokens_next, tokens_out, scan_stops, handed_on}
use Rattle.literal_reading.specs.Scanning.{all_placed, awaited_of, outer_of, token_of}
use Rattle.literal_reading.proofs.order.push_tokens.Goals as goal

pub returns-then-is_at_end : goal.returns-then-is_at_end
returns-then-is_at_end c =
    let whole : is_at_end (awaited_of c.loop.awaited) (outer_of c.loop.outer.items) c.loop.rest.now ≡ true = sym (rw c.deref.ensures.value at c.if-is_at_end.ensures) in
    sym c.loop.invariant ∙ tokens_end (suc (length c.args.bytes.now) - c.loop.counter) c.args.registry.now _ _ c.loop.rest.now (all_placed c.loop.tokens.items) (omega arith) whole

pub returns-in_err-token : goal.returns-in_err-token
returns-in_err-token c =
    let more : is_at_end (awaited_of c.loop.awaited) (outer_of c.loop.outer.items) c.loop.rest.now ≡ false = sym (rw c.deref.ensures.value at c.if-is_at_end.ensures) in
    let read = rw c.deref-in-loop.ensures.value at c.in_err-token.ensures in
    handed_on _ c.from_residual.result c.in_err-token.field-0.0 _ c.from_residual.ensures
    (scan_stops (suc (length c.args.bytes.now) - c.loop.counter) c.args.registry.now _ _ c.loop.rest.now (all_placed c.loop.tokens.items) _ c.in_err-token.field-0.0 (omega arith) more read c.loop.invariant)

pub loop-preserved : goal.loop-preserved
loop-preserved c =
    let more : is_at_end (awaited_of c.loop.awaited) (outer_of c.loop.outer.items) c.loop.rest.now ≡ false = sym (rw c.deref.ensures.value at c.if-is_at_end.ensures) in
    let read = rw c.deref-in-loop.ensures.value at c.in_ok-token.ensures in
    tokens_next (suc (length c.args.bytes.now) - c.loop.counter) (suc (length c.args.bytes.now) - (c.loop.counter + 1)) c.args.registry.now (awaited_of c.loop.awaited) _ (outer_of c.loop.outer.items) _ c.loop.rest.now c.in_ok-token.behind.now
    (all_placed c.loop.tokens.items) _ (token_of c.in_ok-token.token) _ (omega arith) (omega arith) more read c.behind_of-awaited.ensures c.in_ok-push_token.ensures.opened c.in_ok-push_token.ensures.pushed c.loop.invariant

pub returns : goal.returns
returns c = sym c.loop.invariant ∙ tokens_out (suc (length c.args.bytes.now) - c.loop.counter) c.args.registry.now _ _ c.loop.rest.now (all_placed c.loop.tokens.items) (omega arith)
