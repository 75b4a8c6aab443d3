-- What one call of `feed` takes, and what one call of `next_block` gives.
use Rattle.std.specs.Prelude.{◌≡◌, ℕ, ◌+◌, ◌<◌, ◌≤◌, ◌⊎◌, List, [], ◌++◌, length, take}
use Rattle.urp_model.specs.Blocks.{spell_block, BeginsWhole}
use Rattle.urp_model.specs.PlacedBlocks.{PlacedBlock, IsBlockAt}
use Rattle.urp_stream.specs.Headers.{HasNoBadHeader}
use Rattle.urp_stream.specs.Streams.{Stream}

-- the first n bytes of the piece are the fewest that complete a block with what is held, or all where none do
pub record IsTaken (held piece : List ℕ) (n : ℕ) : Type 0 where
  pub within : n ≤ length piece
  pub whole_or_all : BeginsWhole (held ++ take n piece) ⊎ (n ≡ length piece)
  pub least : (m : ℕ) → m < n → ¬ BeginsWhole (held ++ take m piece)

-- n bytes of the piece were taken, behind those that were held, and no header that came is a bad one
pub record Took (old : Stream) (piece : List ℕ) (n : ℕ) (new : Stream) : Type 0 where
  pub taken : IsTaken old.held piece n
  pub header : HasNoBadHeader (old.held ++ piece)
  pub now : new ≡ record { place = old.place; held = old.held ++ take n piece }

-- the block that was held is given, and nothing is held behind it
pub record Gave (old : Stream) (b : PlacedBlock) (new : Stream) : Type 0 where
  pub block : IsBlockAt old.place b
  pub held : old.held ≡ spell_block b.count b.body
  pub now : new ≡ record { place = old.place + 8 + length b.body; held = [] }
