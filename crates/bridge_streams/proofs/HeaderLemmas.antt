-- What a stream of blocks says of a header is what the definitions of a side say of it.
use Rattle.std.proofs.Common.{◌≡◌, refl, sym, ap, ◌∙◌, ℕ, ◌+◌, ◌<◌, ◌≤◌, Bool, true, false, not, ◌&&◌, ◌||◌, ◌==◌, nat_lt, List, [], ◌++◌, length, take, Option, Some, None, arith, if◌then◌else◌}
use Rattle.std.proofs.lemmas.Bool.{ltb-false, ltb-true, lt-ltb, le-ltb, cases_lt, true≢false}
use Rattle.std.proofs.lemmas.Bool.Decides.{nat_tests}
use Rattle.urp_model.specs.Blocks.{BeginsWhole}
use Rattle.urp_model.specs.PlacedBlocks.{largest_size}
use Rattle.urp_model.specs.declared.reason.Reason.{Reason}
use Rattle.urp_model.specs.declared.reason.Reason.TheVariants.{TooLarge, NoMessages}
use Rattle.urp_stream.specs.Headers.{size_said, count_said, SaysTooLarge, SaysNoMessages, HasNoBadHeader}
use Rattle.bridge_model.specs.Feeding.{has_header, header_fault, block_stands, is_some_reason, ends_part}
use Rattle.bridge_model.specs.Feeding as side

-- the fault of a header, by what it says
abbrev fault_by : (long : Bool) → (size count : ℕ) → Option Reason
fault_by long size count = if long then (if nat_lt largest_size size then Some TooLarge else (if count == 0 then Some NoMessages else None)) else None

fault_is : (s : List ℕ) → header_fault s ≡ fault_by (not (nat_lt (length s) 8)) (size_said s) (count_said s)
unfolding header_fault size_said count_said
fault_is s = refl

too_large_by : (long size count : ℕ) → 8 ≤ long → largest_size < size → fault_by (not (nat_lt long 8)) size count ≡ Some TooLarge
too_large_by long size count whole above = grind (arith, nat_tests)

no_messages_by : (long size count : ℕ) → 8 ≤ long → size ≤ largest_size → count ≡ 0 → fault_by (not (nat_lt long 8)) size count ≡ Some NoMessages
no_messages_by long size count whole within none = grind (arith, nat_tests)

good_by : (long size count : ℕ) → (8 ≤ long → size ≤ largest_size) → (8 ≤ long → 0 < count) → fault_by (not (nat_lt long 8)) size count ≡ None
good_by long size count within some = grind (arith, nat_tests)

-- a size that is too large
pub fault_large : (s : List ℕ) (size : ℕ) → SaysTooLarge s size → header_fault s ≡ Some TooLarge
fault_large s size says =
    let above : largest_size < size_said s = omega (arith, says.above, says.size_is) in
    fault_is s ∙ too_large_by (length s) (size_said s) (count_said s) says.header above

-- no messages
pub fault_none : (s : List ℕ) → SaysNoMessages s → header_fault s ≡ Some NoMessages
fault_none s says = fault_is s ∙ no_messages_by (length s) (size_said s) (count_said s) says.header says.within says.none

-- a good header
pub fault_good : (s : List ℕ) → HasNoBadHeader s → header_fault s ≡ None
fault_good s good = fault_is s ∙ good_by (length s) (size_said s) (count_said s) good.size good.count

-- fewer than eight bytes are no bad header
pub fault_short : (s : List ℕ) → length s < 8 → header_fault s ≡ None
fault_short s short = fault_is s ∙ good_by (length s) (size_said s) (count_said s) (λ long. absurd (omega arith)) (λ long. absurd (omega arith))

-- a whole block
stands_by : (long size : ℕ) (b : Bool) → (not (nat_lt long 8) && not (nat_lt long (8 + size))) ≡ b → (8 + size ≤ long → b ≡ true) × (b ≡ true → 8 + size ≤ long)
stands_by long size true is = (λ whole. refl, λ e. grind (arith, nat_tests))
stands_by long size false is = (λ whole. grind (arith, nat_tests), λ e. absurd (true≢false (sym e)))

pub stands_whole : (s : List ℕ) → (BeginsWhole s → block_stands s ≡ true) × (block_stands s ≡ true → BeginsWhole s)
unfolding block_stands
stands_whole s = stands_by (length s) (side.size_said s) (block_stands s) refl
