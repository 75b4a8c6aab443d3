use Rattle.plan_types.specs.Expressions.{expression_of}
use Rattle.plan_checks.proofs.MakingLemmas.{none_made, nothing_made, one_made}
use Rattle.plan_checks.proofs.typing.making.built.Goals as goal

pub put_all-requires : goal.put_all-requires
put_all-requires c = nothing_made expression_of _ _ c.new-made.ensures.items c.requires

pub returns : goal.returns
returns c =
    one_made expression_of _ _ _ _ (none_made expression_of _ _ _ c.new-made.ensures.items c.in_ok-put_all.ensures.all) c.in-Some.ensures.items c.in_ok-put_all.ensures.one
