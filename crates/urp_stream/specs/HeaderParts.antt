-- What is read of a header.
use Rattle.std.specs.Prelude.{◌≡◌, ℕ, ◌<◌, ◌≤◌, ◌^◌, List, ◌++◌, length}
use Rattle.std.specs.Int.{w32, to_be_bytes}
use Rattle.urp_stream.specs.Headers.{size_said, count_said, HasNoBadHeader}

-- the eight bytes are these two numbers, of which each has four bytes
pub record IsSaid (header : List ℕ) (size count : ℕ) : Type 0 where
  pub whole : length header ≡ 8
  pub size_is : size ≡ size_said header
  pub count_is : count ≡ count_said header
  pub count_fits : count < 2 ^ 32
  pub spelled : header ≡ to_be_bytes w32 size ++ to_be_bytes w32 count

-- the header is none bad, and the size is the one that it says, or 0 before all of it came
pub record IsBodySize (header : List ℕ) (size : ℕ) : Type 0 where
  pub good : HasNoBadHeader header
  pub said : 8 ≤ length header → size ≡ size_said header
  pub unsaid : length header < 8 → size ≡ 0
