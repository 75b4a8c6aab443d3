use Rattle.std.proofs.Common.{ap, length, take, ◌∙◌}
use Rattle.uno_io.proofs.Portions.{portion}
use Rattle.uno_io.proofs.mem_source.give.Goals as goal

-- the piece is the front of what was left
pub returns-clause-front : goal.returns-clause-front
returns-clause-front c =
    let copied = c.copy_from_slice.ensures.after in
    let long = ap length copied ∙ c.split_at-2.ensures.front_len in
    let is = copied ∙ c.split_at-2.ensures.front ∙ ap (take c.min-len.result) c.split_at.ensures.back in
    portion c.args.bytes.now c.copy_from_slice.new.self _ c.args.given c.min-len.result long is
