-- Blocks that stand one after the other, each at its place.
use Rattle.std.proofs.Common.{◌≡◌, ℕ, ◌+◌, List, [], ◌∷◌, ◌++◌, length, refl, sym, ap, ◌∙◌, append-nil, append_assoc, arith, length-append}
use Rattle.urp_model.specs.Blocks.{spell_block}
use Rattle.urp_model.specs.PlacedBlocks.{PlacedBlock, IsBlockAt, spell_blocks, AreBlocksAnd}

-- the bytes of one more block at the end
pub spell_blocks-push : (blocks : List PlacedBlock) (b : PlacedBlock) → spell_blocks (blocks ++ b ∷ []) ≡ spell_blocks blocks ++ spell_block b.count b.body
unfolding spell_blocks
spell_blocks-push [] b = simp append-nil
spell_blocks-push (x ∷ blocks) b = rw (spell_blocks-push blocks b) (sym (append_assoc (spell_block x.count x.body) (spell_blocks blocks) (spell_block b.count b.body)))

-- the bytes of one more block at the front
pub spell_blocks-cons : (b : PlacedBlock) (blocks : List PlacedBlock) → spell_blocks (b ∷ blocks) ≡ spell_block b.count b.body ++ spell_blocks blocks
unfolding spell_blocks
spell_blocks-cons b blocks = refl

pub spell_blocks-nil : spell_blocks [] ≡ []
unfolding spell_blocks
spell_blocks-nil = refl

-- a block of these parts
abbrev pub block : ℕ → ℕ → List ℕ → PlacedBlock
block place count body = record { place = place; count = count; body = body }

-- each block stands where the ones before it end, and the first of them at a place
abbrev pub ArePlacedFrom : ℕ → List PlacedBlock → Type 0
ArePlacedFrom from blocks = (before : List PlacedBlock) (b : PlacedBlock) (after : List PlacedBlock) → blocks ≡ before ++ b ∷ after → IsBlockAt (from + length (spell_blocks before)) b

-- a place that is another number
pub at_place : (m n : ℕ) (b : PlacedBlock) → m ≡ n → IsBlockAt m b → IsBlockAt n b
at_place m n b e is = record { place_is = is.place_is ∙ e; some = is.some; count_fits = is.count_fits; size_fits = is.size_fits }

-- the first block stands at the place
pub first_placed : (from : ℕ) (b : PlacedBlock) (blocks : List PlacedBlock) → ArePlacedFrom from (b ∷ blocks) → IsBlockAt from b
first_placed from b blocks placed = at_place (from + length (spell_blocks [])) from b (rw spell_blocks-nil (omega arith)) (placed [] b blocks refl)

-- the others stand where it ends
pub others_placed : (from : ℕ) (b : PlacedBlock) (blocks : List PlacedBlock) → ArePlacedFrom from (b ∷ blocks) → ArePlacedFrom (from + length (spell_block b.count b.body)) blocks
others_placed from b blocks placed before x after e =
    let lengths = length-append (spell_block b.count b.body) (spell_blocks before) in
    at_place (from + length (spell_blocks (b ∷ before))) (from + length (spell_block b.count b.body) + length (spell_blocks before)) x
    (rw (spell_blocks-cons b before) (omega arith)) (placed (b ∷ before) x after (ap (λ y. b ∷ y) e))

-- a block at a place, and others from where it ends
pub placed_cons : (from : ℕ) (b : PlacedBlock) (blocks : List PlacedBlock) → IsBlockAt from b
    → ArePlacedFrom (from + length (spell_block b.count b.body)) blocks → ArePlacedFrom from (b ∷ blocks)
placed_cons from b blocks is placed [] x after e =
    let same : b ≡ x = cc in
    at_place from (from + length (spell_blocks [])) x (rw spell_blocks-nil (omega arith)) (rw same at is)
placed_cons from b blocks is placed (y ∷ before) x after e =
    let same : b ≡ y = cc in
    let tails : blocks ≡ before ++ x ∷ after = cc in
    let lengths = length-append (spell_block y.count y.body) (spell_blocks before) in
    let begins = ap (λ (z : PlacedBlock). length (spell_block z.count z.body)) same in
    at_place (from + length (spell_block b.count b.body) + length (spell_blocks before)) (from + length (spell_blocks (y ∷ before))) x
    (rw (spell_blocks-cons y before) (omega arith)) (placed before x after tails)

-- the blocks of all bytes are placed from the start
pub from_start : (s : List ℕ) (blocks : List PlacedBlock) (rest : List ℕ) → AreBlocksAnd s blocks rest → ArePlacedFrom 0 blocks
from_start s blocks rest are before b after e = at_place (length (spell_blocks before)) (0 + length (spell_blocks before)) b (omega arith) (are.placed before b after e)

-- more bytes stand behind the rest
pub blocks_and_more : (s more : List ℕ) (blocks : List PlacedBlock) (rest : List ℕ) → AreBlocksAnd s blocks rest → AreBlocksAnd (s ++ more) blocks (rest ++ more)
blocks_and_more s more blocks rest are = record { whole = ap (λ x. x ++ more) are.whole ∙ append_assoc (spell_blocks blocks) rest more; placed = are.placed }
