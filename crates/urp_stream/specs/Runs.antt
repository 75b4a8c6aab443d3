-- Calls of `feed` and `next_block`, one after the other from the beginning of a stream.
use Rattle.std.specs.Prelude.{◌≡◌, ℕ, List, [], ◌∷◌, ◌++◌, take}
use Rattle.urp_model.specs.Blocks.{BeginsWhole}
use Rattle.urp_model.specs.PlacedBlocks.{PlacedBlock}
use Rattle.urp_stream.specs.Streams.{Stream, nothing_yet}
use Rattle.urp_stream.specs.Calls.{Took, Gave}

-- some calls took these bytes in all and gave these blocks, and the stream is now this one: as the clauses of each call say
pub data Run : List ℕ → List PlacedBlock → Stream → Type 0 where
  new : Run [] [] nothing_yet
  feed_took : {bytes : List ℕ} {given : List PlacedBlock} {old now : Stream} (piece : List ℕ) (n : ℕ) → Run bytes given old → ¬ BeginsWhole old.held
      → Took old piece n now → Run (bytes ++ take n piece) given now
  feed_refused : {bytes : List ℕ} {given : List PlacedBlock} {old now : Stream} → Run bytes given old → now ≡ old → Run bytes given now
  next_block_gave : {bytes : List ℕ} {given : List PlacedBlock} {old now : Stream} (b : PlacedBlock) → Run bytes given old → Gave old b now → Run bytes (given ++ b ∷ []) now
  next_block_none : {bytes : List ℕ} {given : List PlacedBlock} {old now : Stream} → Run bytes given old → ¬ BeginsWhole old.held → now ≡ old → Run bytes given now
