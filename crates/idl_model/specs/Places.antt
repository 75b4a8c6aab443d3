-- Places in the files that are compiled together, and which of several comes first.
use Rattle.std.specs.Prelude.{◌≡◌, ℕ, Bool, false, ◌&&◌, ◌||◌, ◌==◌, nat_lt, List, Contains}

-- the number of a file, and of a byte in it, both counted from 0
pub record Place : Type 0 where
  pub file : ℕ
  pub byte : ℕ

-- by file, and then by byte
abbrev pub is_before : Place → Place → Bool
is_before p q = nat_lt p.file q.file || ((p.file == q.file) && nat_lt p.byte q.byte)

abbrev pub is_at : Place → Place → Bool
is_at p q = (p.file == q.file) && (p.byte == q.byte)

-- it is one of them, and no other comes before it
pub record IsLeast (least : Place) (places : List Place) : Type 0 where
  pub one : Contains places least
  pub first : (p : Place) → Contains places p → is_before p least ≡ false
