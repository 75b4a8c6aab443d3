use Rattle.std.proofs.Common.{refl, ◌∙◌, sym, subst}
use Rattle.std.specs.Prelude.{T}
use Rattle.std.specs.FinMap.{is_sorted}
use Rattle.std.specs.Str.{bytes_eq}
use Rattle.table_model.specs.Pair.{pair_cmp}
use Rattle.table_model.proofs.PairLaws.{pair_order}
use Rattle.table_model.proofs.RowLaws.{in_order_rises}
use Rattle.pair_map.specs.ByOid.{pair_rows}
use Rattle.pair_map.proofs.Views.{taken_at, number_taken, any_at}
use Rattle.pair_map.proofs.pair_map.PairMap.take_counted.Goals as goal

pub returns-clause-gone : goal.returns-clause-gone
returns-clause-gone g c =
    taken_at c.self.inside.by_oid c.take_oid.new.by_oid c.args.self.now _ c.in_ok-oid.oid c.self.invariant c.take_oid.ensures.unique c.self.view_is refl c.in_ok-oid.ensures.gone

pub returns-clause-some : goal.returns-clause-some
returns-clause-some g c = sym (any_at (λ oid p. bytes_eq oid p.oid) c.self.inside.by_oid c.args.self.now c.self.view_is _ _ refl) ∙ c.in_ok-oid.ensures.some

pub returns-clause-number : goal.returns-clause-number
returns-clause-number g c =
    number_taken c.self.inside.by_oid c.take_oid.new.by_oid c.args.self.now _ c.self.invariant c.take_oid.ensures.unique c.self.view_is c.in_ok-oid.ensures.gone
    _ c.in_ok-oid.ensures.number

pub returns-clause-rises : goal.returns-clause-rises
returns-clause-rises g c = subst (λ rows. T (is_sorted pair_cmp rows)) c.self.view_is (in_order_rises pair_order (pair_rows c.self.inside.by_oid.entries))

pub returns-in_err-oid-clause-rises : goal.returns-in_err-oid-clause-rises
returns-in_err-oid-clause-rises g c = subst (λ rows. T (is_sorted pair_cmp rows)) c.self.view_is (in_order_rises pair_order (pair_rows c.self.inside.by_oid.entries))
