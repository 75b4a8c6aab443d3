use Rattle.std.proofs.Common.{refl, ◌∙◌, sym, subst, IsSome}
use Rattle.pair_map.proofs.Views.{found_at, put_at}
use Rattle.pair_map.proofs.pair_map.PairMap.replace.Goals as goal

pub replace-requires : goal.replace-requires
replace-requires g c =
    subst IsSome (sym (found_at c.self.inside.by_oid c.self.invariant c.args.self.now c.self.view_is _ _ refl)) c.requires

pub returns-clause-was : goal.returns-clause-was
returns-clause-was g c =
    c.replace.ensures.was ∙ found_at c.self.inside.by_oid c.self.invariant c.args.self.now c.self.view_is _ _ refl

pub returns-clause-put : goal.returns-clause-put
returns-clause-put g c =
    put_at c.self.inside.by_oid c.self.invariant c.args.self.now c.self.view_is _ _ refl c.replace.new.by_oid c.replace.ensures.unique c.args.value
    c.replace.ensures.put
