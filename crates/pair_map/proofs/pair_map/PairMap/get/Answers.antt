use Rattle.std.proofs.Common.{refl, ◌∙◌, subst}
use Rattle.std.specs.Prelude.{T}
use Rattle.std.specs.FinMap.{is_sorted}
use Rattle.table_model.specs.Pair.{pair_cmp}
use Rattle.table_model.proofs.PairLaws.{pair_order}
use Rattle.table_model.proofs.RowLaws.{in_order_rises}
use Rattle.pair_map.specs.ByOid.{pair_rows}
use Rattle.pair_map.proofs.Views.{found_at}
use Rattle.pair_map.proofs.pair_map.PairMap.get.Goals as goal

pub returns-clause-found : goal.returns-clause-found
returns-clause-found g c =
    c.at_pair.ensures ∙ found_at c.self.inside.by_oid c.self.invariant c.args.self.now c.self.view_is _ _ refl

pub returns-clause-rises : goal.returns-clause-rises
returns-clause-rises g c = subst (λ rows. T (is_sorted pair_cmp rows)) c.self.view_is (in_order_rises pair_order (pair_rows c.self.inside.by_oid.entries))
