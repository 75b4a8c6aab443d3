-- Words over words: a bit for each word below that has one.
use Rattle.std.specs.Prelude.{◌≡◌, ℕ, ◌*◌, ◌/◌, ◌^◌, ◌≤◌, true, false, List, length}
use Rattle.birth_index.specs.Members.{HasIn}
use Rattle.birth_index.specs.Bits.{bit_of}

-- a bit is set exactly where the word below has one, and there is room for each word
pub record IsOver (below above : List ℕ) : Type 0 where
  pub full : (word : ℕ) → bit_of above word ≡ true → HasIn (bit_of below) word
  pub empty : (k : ℕ) → bit_of above (k / 64) ≡ false → bit_of below k ≡ false
  pub room : length below ≤ 64 * length above
  pub most_below : length below ≤ 2 ^ 58
  pub most_above : length above ≤ 2 ^ 58

pub record AreLevels (births words groups : List ℕ) : Type 0 where
  pub over_births : IsOver births words
  pub over_words : IsOver words groups
