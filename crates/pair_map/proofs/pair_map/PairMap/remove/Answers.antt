use Rattle.std.proofs.Common.{refl, ◌∙◌, sym, subst, IsSome}
use Rattle.pair_map.proofs.Views.{found_at, without_at}
use Rattle.pair_map.proofs.pair_map.PairMap.remove.Goals as goal

pub remove-requires : goal.remove-requires
remove-requires g c =
    subst IsSome (sym (found_at c.self.inside.by_oid c.self.invariant c.args.self.now c.self.view_is _ _ refl)) c.requires

pub returns-clause-was : goal.returns-clause-was
returns-clause-was g c =
    c.remove.ensures.was ∙ found_at c.self.inside.by_oid c.self.invariant c.args.self.now c.self.view_is _ _ refl

pub returns-clause-without : goal.returns-clause-without
returns-clause-without g c =
    without_at c.self.inside.by_oid c.self.invariant c.args.self.now c.self.view_is _ _ refl c.remove.new.by_oid c.remove.ensures.unique
    c.remove.ensures.without
