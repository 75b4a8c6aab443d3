use Rattle.std.proofs.Common.{refl, arith}
use Rattle.idl_joint_places.proofs.RankLemmas.{rank_place}
use Rattle.idl_joint_places.proofs.ranks.rank_at.Goals as goal

pub returns : goal.returns
returns c = rank_place c.args.file c.args.byte _ (omega (arith, c.ranges.byte.fits)) refl
