use Rattle.std.proofs.Common.{◌≡◌, ◌-◌, arith}
use Rattle.idl_names.proofs.SlotLemmas.{told_so}
use Rattle.idl_names.proofs.paths.is_told.Goals as goal

pub returns : goal.returns
returns c =
    let found = c.in-Some.ensures.lookup in
    let round : c.in-Some.field-0.now.0 ≡ c.args.outer = let same = c.if-round-outer.false in omega (arith, same) in
    told_so c.args.inside.now (c.args.number - 1) c.in-Some.field-0.now c.args.outer c.args.name.now c.eq.result found.3.0 found.1 round c.eq.ensures
