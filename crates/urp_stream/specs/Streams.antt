-- What a contract sees of `Blocks`.
use Rattle.std.specs.Prelude.{◌≡◌, ℕ, ◌+◌, ◌^◌, ◌<◌, ◌≤◌, List, [], length}
use Rattle.urp_stream.specs.Headers.{size_said, HasNoBadHeader}

-- a stream as far as it came: how many bytes stand in the blocks already given, and the bytes held
pub record Stream : Type 0 where
  pub place : ℕ
  pub held : List ℕ

-- a stream of which nothing came
abbrev pub nothing_yet : Stream
nothing_yet = record { place = 0; held = [] }

-- what is held is at most one whole block, with a good header as far as it came, and each place in it fits 64 bits
pub record IsStream (s : Stream) : Type 0 where
  pub header : HasNoBadHeader s.held
  pub one_block : 8 ≤ length s.held → length s.held ≤ 8 + size_said s.held
  pub place_fits : s.place + length s.held < 2 ^ 64

-- the header and the body of what is held, and the place of its front, stand for such a stream
pub record AreParts (place : ℕ) (header body : List ℕ) : Type 0 where
  pub header_fits : length header ≤ 8
  pub header_first : length header < 8 → length body ≡ 0
  pub good : HasNoBadHeader header
  pub one_block : length body ≤ size_said header
  pub place_fits : place + length header + length body < 2 ^ 64
