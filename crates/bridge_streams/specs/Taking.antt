-- What comes in: what of a piece is taken, and what it ended.
use Rattle.std.specs.Prelude.{◌≡◌, ℕ, ◌+◌, false, true, List, [], ◌++◌, length, drop, None, Some}
use Rattle.bridge_model.specs.Answers.{cut}
use Rattle.bridge_model.specs.Feeding.{count_said, header_fault, block_stands}
use Rattle.bridge_model.specs.Sides.{Incoming}
use Rattle.message_model.specs.Headers.{Heard}
use Rattle.urp_model.specs.declared.reason.Reason.{Reason}
use Rattle.urp_model.specs.Blocks.{BeginsWhole}
use Rattle.urp_stream.specs.Calls.{Gave}
use Rattle.urp_stream.specs.Streams.{Stream}
use Rattle.urp_stream.specs.declared.block.Block.{Block}
use Rattle.bridge_streams.specs.declared.taken.Taken.{Taken}
use Rattle.bridge_streams.specs.declared.taken.Taken.TheVariants.{Part, Whole, Refused}

-- the bytes of the open block with as much of a piece as is taken
abbrev pub with_cut : Incoming → List ℕ → List ℕ
with_cut i piece = i.held ++ cut i.held piece

-- these bytes are held
abbrev pub holding : List ℕ → Incoming → Incoming
holding bytes i = record i { held = bytes }

-- what is remembered of the messages that came
abbrev pub hearing : Heard → Incoming → Incoming
hearing heard i = record i { heard = heard }

-- a block of these bytes is gone, and the next one begins behind it
abbrev pub behind : List ℕ → Incoming → Incoming
behind bytes i = record i { place = i.place + length bytes; held = [] }

-- a block is what its bytes say, at this place
pub record IsBlockOf (place : ℕ) (bytes : List ℕ) (block : Block) : Type 0 where
  pub at : block.place ≡ place
  pub count : block.count ≡ count_said bytes
  pub body : block.body.items ≡ drop 8 bytes

-- so many bytes were taken, which end no block and no refused header, and are held
pub record TookPart (old : Incoming) (piece : List ℕ) (n : ℕ) (new : Incoming) : Type 0 where
  pub size : n ≡ length (cut old.held piece)
  pub good : header_fault (with_cut old piece) ≡ None
  pub unended : block_stands (with_cut old piece) ≡ false
  pub now : new ≡ holding (with_cut old piece) old

-- so many bytes were taken, which end a block, and it is given
pub record TookWhole (old : Incoming) (piece : List ℕ) (n : ℕ) (block : Block) (new : Incoming) : Type 0 where
  pub size : n ≡ length (cut old.held piece)
  pub good : header_fault (with_cut old piece) ≡ None
  pub stands : block_stands (with_cut old piece) ≡ true
  pub given : IsBlockOf old.place (with_cut old piece) block
  pub now : new ≡ behind (with_cut old piece) old

-- so many bytes end a header that is refused, and nothing changes
pub record TookNone (old : Incoming) (piece : List ℕ) (n : ℕ) (why : Reason) (new : Incoming) : Type 0 where
  pub size : n ≡ length (cut old.held piece)
  pub fault : header_fault (with_cut old piece) ≡ Some why
  pub now : new ≡ old

-- what a call of `feed` did
abbrev pub Took : Incoming → List ℕ → Taken → Incoming → Type 0
Took old piece (Part n) new = TookPart old piece n new
Took old piece (Whole n block) new = TookWhole old piece n block new
Took old piece (Refused n why) new = TookNone old piece n why new

-- what so many bytes ended that a stream of blocks took
abbrev pub Ended : Stream → ℕ → Taken → Stream → Type 0
Ended old count (Part n) new = (n ≡ count) × (¬ BeginsWhole old.held) × (new ≡ old)
Ended old count (Whole n block) new = (n ≡ count) × Gave old (record { place = block.place; count = block.count; body = block.body.items }) new
Ended old count (Refused n why) new = ⊥
