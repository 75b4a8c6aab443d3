-- Blocks one after the other, each at its place in all bytes of a stream.
use Rattle.std.specs.Prelude.{◌≡◌, ℕ, ◌^◌, ◌<◌, ◌≤◌, List, ◌∷◌, ◌++◌, length}
use Rattle.std.specs.List.{flat_map}
use Rattle.urp_model.specs.Blocks.{spell_block}

-- the most bytes that the body of a block may have
abbrev pub largest_size : ℕ
largest_size = 16777216

-- a block, and the place of its first byte in all bytes of the stream
pub record PlacedBlock : Type 0 where
  pub place : ℕ
  pub count : ℕ
  pub body : List ℕ

-- a block has a message and at most the largest size, and stands at this place
pub record IsBlockAt (place : ℕ) (b : PlacedBlock) : Type 0 where
  pub place_is : b.place ≡ place
  pub some : 0 < b.count
  pub count_fits : b.count < 2 ^ 32
  pub size_fits : length b.body ≤ largest_size

-- the bytes of blocks, one after the other
unfoldable pub spell_blocks : List PlacedBlock → List ℕ
spell_blocks blocks = flat_map (λ b. spell_block b.count b.body) blocks

-- the bytes are the blocks, each at the place where the ones before it end, and then the rest
pub record AreBlocksAnd (s : List ℕ) (blocks : List PlacedBlock) (rest : List ℕ) : Type 0 where
  pub whole : s ≡ spell_blocks blocks ++ rest
  pub placed : (before : List PlacedBlock) (b : PlacedBlock) (after : List PlacedBlock) → blocks ≡ before ++ b ∷ after → IsBlockAt (length (spell_blocks before)) b
