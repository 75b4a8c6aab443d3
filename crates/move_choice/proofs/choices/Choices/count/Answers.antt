use Rattle.std.proofs.Common.{◌≡◌, ◌+◌, ap, length, is_some, arith}
use Rattle.bridge_laws.specs.Counting.{one_if}
use Rattle.bridge_model.specs.Answers.{bytes_wait, may_reap}
use Rattle.world_model.specs.Moves.{applying, stepping, may_carry, may_close, deeds}
use Rattle.move_choice.specs.Choosing.{counted}
use Rattle.move_choice.proofs.ChoosingLemmas.{how_many}
use Rattle.move_choice.proofs.choices.Choices.count.Goals as goal

pub returns : goal.returns
returns c g h one other rs are =
    let all : length (deeds g h one other rs)
    ≡ length (applying one.side) + (length (stepping g one.side 0 rs) + (one_if (is_some (may_reap g one.side))
    + (one_if (bytes_wait g one.side) + (one_if (may_carry other one) + one_if (may_close h other one)))))
    = how_many g h one other rs in
    let ready : c.args.self.now.ready ≡ counted (length (applying one.side)) = are.ready in
    let moving : c.args.self.now.moving ≡ counted (length (stepping g one.side 0 rs)) = are.moving in
    let reaps : one_if c.args.self.now.reaps ≡ one_if (is_some (may_reap g one.side)) = ap one_if are.reaps in
    let drains : one_if c.args.self.now.drains ≡ one_if (bytes_wait g one.side) = ap one_if are.drains in
    let carries : one_if c.args.self.now.carries ≡ one_if (may_carry other one) = ap one_if are.carries in
    let closes : one_if c.args.self.now.closes ≡ one_if (may_close h other one) = ap one_if are.closes in
    omega arith
