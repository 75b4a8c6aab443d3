-- Blocks of the wire: the size of the messages, their count, and the messages. Numbers have their high byte first.
use Rattle.std.specs.Prelude.{◌≡◌, ℕ, ◌+◌, ◌^◌, ◌<◌, ◌≤◌, List, ◌++◌, length, take, slice_index}
use Rattle.std.specs.Int.{w32, to_be_bytes, from_be_bytes}

-- each number is a byte
abbrev pub AreBytes : List ℕ → Type 0
AreBytes s = (i : ℕ) → slice_index s i < 256

-- the size of the messages in four bytes, their count in four, and the messages
unfoldable pub spell_block : ℕ → List ℕ → List ℕ
spell_block count body = to_be_bytes w32 (length body) ++ (to_be_bytes w32 count ++ body)

-- count and size have four bytes each
pub record IsBlock (count : ℕ) (body : List ℕ) : Type 0 where
  pub count_fits : count < 2 ^ 32
  pub size_fits : length body < 2 ^ 32

-- a whole block stands at the front: eight bytes, and as many as the first four say
abbrev pub BeginsWhole : List ℕ → Type 0
BeginsWhole s = 8 + from_be_bytes w32 (take 4 s) ≤ length s

-- the bytes are a block and what stands behind it
pub record BeginsWithBlock (s : List ℕ) : Type 0 where
  pub count : ℕ
  pub body : List ℕ
  pub rest : List ℕ
  pub fits : IsBlock count body
  pub spelled : s ≡ spell_block count body ++ rest
