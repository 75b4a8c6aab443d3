use Rattle.std.proofs.Common.{◌≡◌, ◌-◌, suc, length}
use Rattle.literal_model.specs.Shapes.{value, tokens_at}
use Rattle.literal_reading.specs.Scanning.{all_placed, awaited_of, outer_of, with_tokens}
use Rattle.literal_reading.proofs.order.push_tokens.Given as goal

abbrev pub invariant-loop : goal.invariant-loop
invariant-loop l =
    with_tokens (all_placed l.tokens.items) (tokens_at (suc (length l.bytes) - l.counter) l.registry (awaited_of l.awaited) (outer_of l.outer.items) l.rest)
    ≡ with_tokens (all_placed l.fn.tokens.items) (tokens_at (suc (length l.bytes)) l.registry value (outer_of l.fn.outer.items) l.bytes)
