-- Words of 64 bits as sets.
use Rattle.std.specs.Prelude.{ℕ, ◌*◌, ◌/◌, ◌%◌, Bool, false, List, length, map, ◌==◌, slice_index, slice_index_or}
use Rattle.std.specs.List.{range_with_len}
use Rattle.std.specs.Int.{bit_at}

-- bit n of the words is set
abbrev pub bit_of : List ℕ → ℕ → Bool
bit_of words n = bit_at (slice_index words (n / 64)) (n % 64) == 1

-- all the bits of the words
unfoldable pub bits_of : List ℕ → List Bool
bits_of words = map (bit_of words) (range_with_len 0 (64 * length words))

-- a number is a member of a set
abbrev pub has : List Bool → ℕ → Bool
has members n = slice_index_or members n false
