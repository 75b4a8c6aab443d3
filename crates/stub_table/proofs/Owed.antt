-- Each stub of a table is owed a release, before and after each call.
use Rattle.std.proofs.Common.{◌≡◌, ℕ, ◌<◌, true, not, List, [], length, Option, None, Some, IfSome, IfNone, Result, Ok, Err, OnOk, OnErr, sym, subst}
use Rattle.std.specs.List.{list_any}
use Rattle.std.specs.Str.{bytes_eq}
use Rattle.std.specs.FinMap.{put}
use Rattle.table_model.specs.Pair.{Pair, pair_cmp, without_oid}
use Rattle.table_model.specs.Rows.{without}
use Rattle.table_model.specs.Stubs.{Stubs, stub, IsOwed}
use Rattle.table_model.specs.declared.stub.Stub.{Stub}
use Rattle.table_model.proofs.BagLaws.{fewer_left}
use Rattle.table_model.proofs.PairLaws.{pair_order, other_oids}
use Rattle.table_model.proofs.RowLaws.{all_put, all_where, all_without}

module _ (p : Pair) (old new : Stubs) (owed : (q : Pair) → IfSome (stub q old) IsOwed) where
  -- after a stub that is owed a release is put
  pub owed_put : (s : Stub) → IsOwed s → new ≡ put pair_cmp p s old → (q : Pair) → IfSome (stub q new) IsOwed
  owed_put s o is = subst (λ stubs. (q : Pair) → IfSome (stub q stubs) IsOwed) (sym is) (all_put pair_order IsOwed p old owed s o)

  -- after a stub is gone
  pub owed_without : new ≡ without pair_cmp p old → (q : Pair) → IfSome (stub q new) IsOwed
  owed_without is = subst (λ stubs. (q : Pair) → IfSome (stub q stubs) IsOwed) (sym is) (all_without pair_order IsOwed p old owed)

  -- after a stub may have been put
  pub owed_tried : {E : Type 0} (r : Result (Unit {0}) E) (s : Stub) → IsOwed s → OnOk r (new ≡ put pair_cmp p s old) → OnErr r (new ≡ old) → (q : Pair) → IfSome (stub q new) IsOwed
  owed_tried (Ok x) s o is same = owed_put s o is
  owed_tried (Err e) s o is same = subst (λ stubs. (q : Pair) → IfSome (stub q stubs) IsOwed) (sym same) owed

module _ (old new : Stubs) (owed : (q : Pair) → IfSome (stub q old) IsOwed) where
  -- after the stubs of some OID are gone, or none is left
  pub owed_taken : (o : Option (List ℕ)) → IfSome o (λ oid. new ≡ without_oid oid old) → IfNone o (new ≡ []) → (q : Pair) → IfSome (stub q new) IsOwed
  owed_taken None gone none q = subst (λ stubs. IfSome (stub q stubs) IsOwed) (sym none) tt
  owed_taken (Some oid) gone none q =
      subst (λ stubs. IfSome (stub q stubs) IsOwed) (sym gone) (all_where pair_order IsOwed q old owed (λ p. not (bytes_eq oid p.oid)) (other_oids oid) q)

  -- fewer are left where one was there
  pub fewer_stubs : (o : Option (List ℕ)) → IfSome o (λ oid. new ≡ without_oid oid old) → IfSome o (λ oid. list_any (λ row. bytes_eq oid row.0.oid) old ≡ true) → IfSome o (λ oid. length new < length old)
  fewer_stubs None gone there = tt
  fewer_stubs (Some oid) gone there = subst (λ stubs. length stubs < length old) (sym gone) (fewer_left (λ row. bytes_eq oid row.0.oid) old there)
