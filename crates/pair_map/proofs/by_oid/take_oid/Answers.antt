use Rattle.std.proofs.Common.{◌∙◌, ap, cond, None}
use Rattle.std.specs.Str.{bytes_eq}
use Rattle.pair_map.proofs.Taking.{same_in_rows}
use Rattle.pair_map.proofs.by_oid.take_oid.Goals as goal

pub returns-then-number-gt0-clause-gone : goal.returns-then-number-gt0-clause-gone
returns-then-number-gt0-clause-gone g c q =
    c.in-Some.ensures.gone q
    ∙ ap (cond (bytes_eq c.in-Some.oid q.oid) None) (same_in_rows c.args.by_oid.now c.loop-oid.by_oid c.requires c.loop-oid.invariant.unique c.loop-oid.invariant.rows q)
