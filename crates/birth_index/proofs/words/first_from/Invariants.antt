use Rattle.std.specs.Prelude.{◌-◌, ◌/◌, ◌<◌, ◌≤◌, ◌^◌, length}
use Rattle.birth_index.specs.Bits.{bit_of}
use Rattle.birth_index.proofs.MemberLaws.{NoneTo}
use Rattle.birth_index.proofs.words.first_from.Given as goal

abbrev pub invariant-loop-index : goal.invariant-loop-index
invariant-loop-index l = record { none : NoneTo (bit_of l.words.items) l.place l.index; behind : l.place / 64 < l.index; most : length l.words.items ≤ 2 ^ 58 }

abbrev pub decreases-loop-index : goal.decreases-loop-index
decreases-loop-index l = length l.words.items - l.index
