use Rattle.std.proofs.Common.{◌≡◌, ◌==◌, ℕ, None, get_or, length, take}
use Rattle.idl_values.specs.Places.{first_place}
use Rattle.idl_values.proofs.table.first_places.Given as goal

abbrev pub invariant-loop-place : goal.invariant-loop-place
invariant-loop-place l = record {
  long : length l.table.items ≡ l.count;
  noted : (n : ℕ) → get_or l.table.items n None ≡ first_place (λ m. m == n) (take l.place l.numbers);
}
