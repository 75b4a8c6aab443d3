-- What is lent, as what it is.
use Rattle.std.specs.Prelude.{ℕ, List}
use Rattle.std.specs.Borrow.{Bor}

abbrev pub one : Bor (List ℕ) → List ℕ
one x = x.now

abbrev pub both : Bor (List ℕ) × Bor (List ℕ) → List ℕ × List ℕ
both x = (x.0.now, x.1.now)
