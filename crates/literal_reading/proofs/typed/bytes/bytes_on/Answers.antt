use Rattle.std.proofs.Common.{◌≡◌, ◌-◌, ◌+◌, [], length, sym, ap, arith}
use Rattle.std.proofs.lemmas.List.{nil_from_length}
use Rattle.literal_model.specs.Readings.{only_token, byte_in}
use Rattle.literal_reading.proofs.TypedLemmas.{element_fails, element_alone, element_last, element_lost, element_next, handed_over}
use Rattle.literal_reading.specs.Scanning.{all_placed, placed_of}
use Rattle.literal_reading.proofs.typed.bytes.bytes_on.Goals as goal

pub returns-in_err-byte : goal.returns-in_err-byte
returns-in_err-byte c =
    handed_over _ c.from_residual.result c.in_err-byte.field-0.0 _ c.from_residual.ensures (element_fails (length c.args.tokens.now - c.loop.counter) c.args.left (only_token byte_in) (all_placed c.loop.rest.now) c.loop.bytes.items _ c.in_err-byte.field-0.0 (omega arith) c.in_err-byte.ensures c.loop.invariant)

pub returns-in_default : goal.returns-in_default
returns-in_default c =
    let none : all_placed c.in_ok-byte.behind.now ≡ [] = ap all_placed (nil_from_length c.in_ok-byte.behind.now c.in_default.ensures.cases) in
    element_alone (length c.args.tokens.now - c.loop.counter) c.args.left (only_token byte_in) (all_placed c.loop.rest.now) (all_placed c.in_ok-byte.behind.now) c.in_ok-byte.byte c.loop.bytes.items _ (omega arith) c.in_ok-byte.ensures none c.loop.invariant

pub returns-then-is_mark : goal.returns-then-is_mark
returns-then-is_mark c =
    element_last (length c.args.tokens.now - c.loop.counter) c.args.left (only_token byte_in) (all_placed c.loop.rest.now) (all_placed c.in_ok-byte.behind.now) (all_placed c.in-Some.after.now) (placed_of c.in-Some.next.now) c.in_ok-byte.byte c.loop.bytes.items _ _ (omega arith) c.in_ok-byte.ensures (ap all_placed c.in-Some.ensures.cases.0) (sym c.if-is_mark.ensures)
    c.in_ok-push.ensures.items c.loop.invariant

pub returns-then-not-is_mark : goal.returns-then-not-is_mark
returns-then-not-is_mark c =
    element_lost (length c.args.tokens.now - c.loop.counter) c.args.left (only_token byte_in) (all_placed c.loop.rest.now) (all_placed c.in_ok-byte.behind.now) (all_placed c.in-Some.after.now) (placed_of c.in-Some.next.now) c.in_ok-byte.byte c.loop.bytes.items _ (omega arith) c.in_ok-byte.ensures (ap all_placed c.in-Some.ensures.cases.0) (sym c.if-is_mark.ensures)
    (sym c.if-not-is_mark.ensures) c.loop.invariant

pub loop-preserved : goal.loop-preserved
loop-preserved c =
    element_next (length c.args.tokens.now - c.loop.counter) (length c.args.tokens.now - (c.loop.counter + 1)) c.args.left (only_token byte_in) (all_placed c.loop.rest.now) (all_placed c.in_ok-byte.behind.now) (all_placed c.in-Some.after.now) (placed_of c.in-Some.next.now) c.in_ok-byte.byte c.loop.bytes.items _ _
    (omega arith) (omega arith) c.in_ok-byte.ensures (ap all_placed c.in-Some.ensures.cases.0) (sym c.if-is_mark.ensures) (sym c.if-not-is_mark.ensures) c.in_ok-push.ensures.items c.loop.invariant
