use Rattle.std.proofs.Common.{arith, ap, ◌∙◌}
use Rattle.std.specs.Int.{w32, from_be_bytes}
use Rattle.urp_stream.proofs.HeaderLaws.{read_header}
use Rattle.urp_stream.proofs.header.numbers_in.Goals as goal

pub returns : goal.returns
returns c =
    let first = c.in_ok-size.ensures.cases in
    let second = c.in_ok-count.ensures.cases in
    read_header c.args.header.now c.in_ok-size.behind.now c.from_be_bytes.result c.from_be_bytes-2.result (λ i. omega (arith, c.type_inv.header i)) c.requires first.1 (omega (arith, second.2))
    (c.from_be_bytes.ensures ∙ ap (from_be_bytes w32) first.0) (c.from_be_bytes-2.ensures ∙ ap (from_be_bytes w32) second.0)
