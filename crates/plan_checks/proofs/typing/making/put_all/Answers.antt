use Rattle.std.proofs.Common.{arith}
use Rattle.std.proofs.lemmas.List.{nil_from_length}
use Rattle.plan_types.specs.Expressions.{expression_of}
use Rattle.plan_checks.proofs.MakingLemmas.{one_left, part_finds, part_makes, part_put, parts_end}
use Rattle.plan_checks.specs.Parts.{part_of}
use Rattle.plan_checks.proofs.typing.making.put_all.Goals as goal

pub put-requires : goal.put-requires
put-requires c = part_finds part_of expression_of c.loop-part.made.items _ _ _ c.in-Some.ensures.items c.loop-part.invariant.makes

pub loop-part-preserved : goal.loop-part-preserved
loop-part-preserved c =
    record {
      makes = part_makes part_of _ _ _ _ _ c.in-Some.ensures.items c.in_ok-put.ensures c.loop-part.invariant.makes;
      whole = part_put part_of _ _ _ _ _ _ c.in-Some.ensures.items c.in_ok-put.ensures c.loop-part.invariant.whole;
    }

pub returns-clause-all : goal.returns-clause-all
returns-clause-all c = parts_end part_of _ _ _ (nil_from_length c.loop-part.parts.items (omega (arith, c.in_default.ensures.cases.0))) c.loop-part.invariant.whole

pub returns-clause-one : goal.returns-clause-one
returns-clause-one c = one_left part_of expression_of _ _ (nil_from_length c.loop-part.parts.items (omega (arith, c.in_default.ensures.cases.0))) c.loop-part.invariant.makes
