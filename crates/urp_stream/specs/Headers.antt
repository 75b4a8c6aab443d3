-- What the first eight bytes of a block say of it, and what they may not say. Numbers have their high byte first.
use Rattle.std.specs.Prelude.{◌≡◌, ℕ, ◌<◌, ◌≤◌, List, length, take, drop}
use Rattle.std.specs.Int.{w32, from_be_bytes}
use Rattle.urp_model.specs.PlacedBlocks.{largest_size}

-- the size of the body, in the first four bytes
unfoldable pub size_said : List ℕ → ℕ
size_said s = from_be_bytes w32 (take 4 s)

-- the count of messages, in the next four
unfoldable pub count_said : List ℕ → ℕ
count_said s = from_be_bytes w32 (take 4 (drop 4 s))

-- the header is there, and its size is above the largest
pub record SaysTooLarge (s : List ℕ) (size : ℕ) : Type 0 where
  pub header : 8 ≤ length s
  pub size_is : size ≡ size_said s
  pub above : largest_size < size

-- the header is there, its size is none too large, and its count is 0
pub record SaysNoMessages (s : List ℕ) : Type 0 where
  pub header : 8 ≤ length s
  pub within : size_said s ≤ largest_size
  pub none : count_said s ≡ 0

-- where the header is there, its size is none too large and its count is not 0
pub record HasNoBadHeader (s : List ℕ) : Type 0 where
  pub size : 8 ≤ length s → size_said s ≤ largest_size
  pub count : 8 ≤ length s → 0 < count_said s
