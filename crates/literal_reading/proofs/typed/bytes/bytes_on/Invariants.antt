use Rattle.std.proofs.Common.{◌≡◌, ◌-◌, length}
use Rattle.literal_model.specs.Readings.{elements_on, only_token, byte_in}
use Rattle.literal_reading.specs.Scanning.{all_placed}
use Rattle.literal_reading.specs.Typing.{with_firsts}
use Rattle.literal_reading.proofs.typed.bytes.bytes_on.Given as goal

abbrev pub invariant-loop : goal.invariant-loop
invariant-loop l =
    with_firsts l.bytes.items (elements_on (length l.tokens - l.counter) l.left (only_token byte_in) (all_placed l.rest))
    ≡ with_firsts l.fn.bytes.items (elements_on (length (all_placed l.tokens)) l.left (only_token byte_in) (all_placed l.tokens))
