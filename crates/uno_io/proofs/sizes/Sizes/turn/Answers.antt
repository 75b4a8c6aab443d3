use Rattle.std.proofs.Common.{◌<◌, length, sym, ap, ◌∙◌, arith}
use Rattle.uno_io.specs.Sizes.{turned}
use Rattle.uno_io.proofs.Rounds.{turned_on}
use Rattle.uno_io.proofs.sizes.Sizes.turn.Goals as goal

-- the next place is within the list
pub returns-then-self-last : goal.returns-then-self-last
returns-then-self-last c =
    let within : c.self.inside.turn < length c.self.inside.lengths.items = omega arith in
    sym (turned_on _ _ within) ∙ ap turned c.self.view_is
