-- A turn lends its book.
use Rattle.std.specs.Borrow.{Lends, MutBor, Fml, RattleType}
use Rattle.turn_book.specs.declared.turn.Turn.{Turn}
use Rattle.turn_book.specs.contracts.turn.Turn.{the_row}

-- the turn ends with the last value behind r as its book
abbrev pub LendsBook : (B : RattleType) → MutBor (Turn B.Denot) → MutBor B.Denot → Fml
LendsBook B s r = Lends (the_row B) B s r (λ w. record { book = w })
