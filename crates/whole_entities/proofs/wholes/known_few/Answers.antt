use Rattle.rules_over_bases.proofs.WholeLemmas.{few_known}
use Rattle.whole_entities.proofs.wholes.known_few.Goals as goal

pub returns : goal.returns
returns c = few_known c.args.entities.now c.in_ok-few.few c.in_ok-known.known.items c.in_ok-few.ensures (c.in_ok-known.ensures.items_if_clones_equal (λ y e. e))
