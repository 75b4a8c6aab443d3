-- `==` holds of the holders that their order does not tell apart.
use Rattle.std.proofs.Common.{◌≡◌, refl}
use Rattle.std.specs.Ordering.{eq_by_cmp}
use Rattle.std.specs.Cmp.{unsigned_ties}
use Rattle.table_model.specs.Holdings.{holder_cmp}
use Rattle.table_model.specs.declared.holder.Holder.{Holder}
use Rattle.table_model.specs.declared.holder.Holder.TheVariants.{Frame, Object, Root}
use Rattle.table_model.specs.contracts.holder.HolderPartialEq.TheImpl as derived

-- the two tests answer alike
pub holder_ties : (a b : Holder) → derived.ghosts.eq a b ≡ eq_by_cmp holder_cmp a b
holder_ties (Frame n) (Frame m) = unsigned_ties n m
holder_ties (Object n) (Object m) = unsigned_ties n m
holder_ties (Root n) (Root m) = unsigned_ties n m
holder_ties (Frame n) (Object m) = refl
holder_ties (Frame n) (Root m) = refl
holder_ties (Object n) (Frame m) = refl
holder_ties (Object n) (Root m) = refl
holder_ties (Root n) (Frame m) = refl
holder_ties (Root n) (Object m) = refl
