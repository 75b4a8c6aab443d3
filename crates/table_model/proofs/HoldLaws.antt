-- The orders of holders and of occurrences are total, and tell unequal ones apart.
use Rattle.std.proofs.Common.{◌≡◌, ◌&&◌, refl, sym, ap}
use Rattle.std.specs.Ordering.{nat_cmp, eq_by_cmp}
use Rattle.std.specs.Cmp.{IsTotalOrder, on_total, then_total, both_tied, nat_cmp_total}
use Rattle.std.specs.FinMap.{IsAntisymmetric, nat_cmp-IsAntisymmetric}
use Rattle.table_model.specs.Pair.{is_pair}
use Rattle.table_model.specs.Holdings.{Hold, holder_kind, holder_number, holder_cmp, hold_cmp}
use Rattle.table_model.specs.declared.holder.Holder.{Holder}
use Rattle.table_model.specs.declared.holder.Holder.TheVariants.{Frame, Object, Root}
use Rattle.table_model.proofs.PairLaws.{pair_order, same_pair, both_equal}

-- holders are in a total order
pub holder_order : IsTotalOrder holder_cmp
holder_order = then_total (on_total holder_kind nat_cmp_total) (on_total holder_number nat_cmp_total)

-- occurrences are in a total order
pub hold_order : IsTotalOrder hold_cmp
hold_order = then_total (on_total (λ h. h.holder) holder_order) (on_total (λ h. h.pair) pair_order)

one_holder : (a b : Holder) → holder_kind a ≡ holder_kind b → holder_number a ≡ holder_number b → a ≡ b
one_holder (Frame n) (Frame m) k e = ap Frame e
one_holder (Object n) (Object m) k e = ap Object e
one_holder (Root n) (Root m) k e = ap Root e
one_holder (Frame n) (Object m) k e = cc
one_holder (Frame n) (Root m) k e = cc
one_holder (Object n) (Frame m) k e = cc
one_holder (Object n) (Root m) k e = cc
one_holder (Root n) (Frame m) k e = cc
one_holder (Root n) (Object m) k e = cc

-- holders that the order does not tell apart are the same
pub same_holder : IsAntisymmetric holder_cmp
same_holder a b e =
    let tied = both_equal (nat_cmp (holder_kind a) (holder_kind b)) (nat_cmp (holder_number a) (holder_number b)) e in
    one_holder a b (nat_cmp-IsAntisymmetric _ _ tied.0) (nat_cmp-IsAntisymmetric _ _ tied.1)

-- so are occurrences
pub same_hold : IsAntisymmetric hold_cmp
same_hold a b e =
    let tied = both_equal (holder_cmp a.holder b.holder) _ e in
    let holders = same_holder a.holder b.holder tied.0 in
    let pairs = same_pair a.pair b.pair tied.1 in
    λ i. record { holder = holders i; pair = pairs i }

-- an occurrence is another where holder and pair are
pub is_hold_by_parts : (a b : Hold) → eq_by_cmp hold_cmp a b ≡ (eq_by_cmp holder_cmp a.holder b.holder && is_pair a.pair b.pair)
is_hold_by_parts a b = sym (both_tied _ _ (holder_cmp a.holder b.holder) _ refl refl)
