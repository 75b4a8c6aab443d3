-- All bytes of a stream, as blocks one after the other and what stands behind them.
use Rattle.std.specs.Prelude.{◌≡◌, ℕ, ◌+◌, ◌<◌, ◌≤◌, ◌⊎◌, List, ◌++◌, length, take}
use Rattle.urp_model.specs.Blocks.{BeginsWhole}
use Rattle.urp_model.specs.PlacedBlocks.{PlacedBlock, AreBlocksAnd}
use Rattle.urp_stream.specs.Headers.{SaysTooLarge, SaysNoMessages, HasNoBadHeader}

-- the bytes are these blocks and a rest that begins with no whole block and no bad header
pub record StandsAs (s : List ℕ) (blocks : List PlacedBlock) (rest : List ℕ) : Type 0 where
  pub blocks_first : AreBlocksAnd s blocks rest
  pub no_block : ¬ BeginsWhole rest
  pub header : HasNoBadHeader rest

-- the bytes begin with a header that is a bad one
abbrev pub BeginsBad : List ℕ → Type 0
BeginsBad s = ((size : ℕ) × SaysTooLarge s size) ⊎ SaysNoMessages s

-- the bytes stand as some blocks and a rest
pub record StandAsBlocks (s : List ℕ) : Type 0 where
  pub blocks : List PlacedBlock
  pub rest : List ℕ
  pub stands : StandsAs s blocks rest

-- behind some blocks, the bytes begin with a bad header
pub record BreakBehindBlocks (s : List ℕ) : Type 0 where
  pub blocks : List PlacedBlock
  pub rest : List ℕ
  pub blocks_first : AreBlocksAnd s blocks rest
  pub bad : BeginsBad rest

-- the header that is held is completed by n bytes of the piece, of which the last is its eighth, and is then a bad one
pub record IsRefusedAt (held piece : List ℕ) (n : ℕ) : Type 0 where
  pub within : n ≤ length piece
  pub eighth : length held + n ≡ 8
  pub bad : BeginsBad (held ++ take n piece)
  pub least : (m : ℕ) → m < n → ¬ BeginsBad (held ++ take m piece)
