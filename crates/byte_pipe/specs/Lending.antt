-- What a pipe ends as, once a `&mut` to its bytes has ended.
use Rattle.std.specs.Prelude.{ℕ, List, length}
use Rattle.std.specs.Borrow.{Fml, MutBor, Array, Lends, u8}
use Rattle.std.specs.List.{refill}
use Rattle.circular_buffer.specs.Buffer.{Buffer, buffer}
use Rattle.byte_pipe.specs.contracts.pipe.Pipe.{the_row}

-- its bytes are the last ones written through r
abbrev pub lends_bytes : MutBor (Buffer ℕ) → MutBor (List ℕ) → Fml
lends_bytes p r = Lends the_row (Array u8 0) p r (λ ws. buffer (refill (length p.now.items) p.now.items ws) p.now.capacity)
