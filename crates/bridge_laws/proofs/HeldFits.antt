-- What a root holds is fine, as it is here.
use Rattle.std.proofs.Common.{◌≡◌, ℕ, ◌≤◌, Bool, true, false, cond, not, ◌&&◌, ◌||◌, if◌then◌else◌, List, [], ◌∷◌, refl, arith}
use Rattle.std.specs.List.{list_all}
use Rattle.std.proofs.lemmas.Bool.{and_parts, ltb-true}
use Rattle.uno_model.specs.Values.{Ref, null, own, peer}
use Rattle.table_model.specs.Bags.{how_often}
use Rattle.table_model.specs.Holdings.{Hold, hold, hold_cmp, holds, Holdings}
use Rattle.table_model.specs.Pair.{pair}
use Rattle.table_model.specs.declared.holder.Holder.TheVariants as holder
use Rattle.bridge_laws.specs.Counting.{total, one_if}
use Rattle.bridge_laws.proofs.LivingRootLaws.{often_passes}
use Rattle.bridge_model.specs.References.{holds_ref}
use Rattle.bridge_model.specs.Roots.{holds_pair}
use Rattle.bridge_model.specs.Settings.{Setting, ref_of, is_own, is_told}
use Rattle.bridge_model.specs.Sides.{Object, Tables}
use Rattle.bridge_laws.proofs.Fine.{is_well, is_fine_own, is_fine_peer, wrong}
use Rattle.bridge_laws.proofs.TablesFit.{is_wrong_pair, held_wrong}

-- ---- what is held

pair_right : (own other : Bool) → cond (not (own || other)) 1 0 ≤ 0 → (own || other) ≡ true
pair_right true other none = refl
pair_right false true none = refl
pair_right false false none = absurd (omega arith)

-- a pair that is held is fine
held_right : (g : Setting) (os : List Object) (h : Hold) (hs : Holdings) → holds h hs ≡ true → held_wrong g os hs ≡ 0 → (is_fine_own g os h.pair.oid h.pair.face || is_fine_peer g h.pair.oid h.pair.face) ≡ true
unfolding held_wrong
held_right g os h hs is none =
    let most = often_passes h (λ k. is_wrong_pair g os k.pair) hs (ltb-true 0 (how_often hold_cmp h hs) is) in
    pair_right (is_fine_own g os h.pair.oid h.pair.face) (is_fine_peer g h.pair.oid h.pair.face) (omega arith)

own_by : (own well supported : Bool) → own ≡ true → ((own && (well && supported)) || (not own && well)) ≡ true → one_if (not (own && (well && supported))) ≡ 0
own_by true true true told is = refl
own_by true true false told is = absurd (cc)
own_by true false supported told is = absurd (cc)
own_by false well supported told is = absurd (cc)

peer_by : (own well supported : Bool) → own ≡ false → ((own && (well && supported)) || (not own && well)) ≡ true → one_if (not (not own && well)) ≡ 0
peer_by true well supported told is = absurd (cc)
peer_by false true supported told is = refl
peer_by false false supported told is = absurd (cc)

module _ (g : Setting) (os : List Object) where
  held_own : (oid face : List ℕ) → is_own g oid ≡ true → (is_fine_own g os oid face || is_fine_peer g oid face) ≡ true → wrong g os (own oid face) ≡ 0
  unfolding wrong is_fine_own is_fine_peer
  held_own oid face told is = own_by (is_own g oid) (is_well g.registry oid face) _ told is

  held_peer : (oid face : List ℕ) → is_own g oid ≡ false → (is_fine_own g os oid face || is_fine_peer g oid face) ≡ true → wrong g os (peer oid face) ≡ 0
  unfolding wrong is_fine_own is_fine_peer
  held_peer oid face told is = peer_by (is_own g oid) (is_well g.registry oid face) _ told is

  ref_by : (oid face : List ℕ) (b : Bool) → is_own g oid ≡ b → (is_fine_own g os oid face || is_fine_peer g oid face) ≡ true → wrong g os (if b then own oid face else peer oid face) ≡ 0
  ref_by oid face true told is = held_own oid face told is
  ref_by oid face false told is = held_peer oid face told is

  -- what a root holds, as it is here
  pub ref_held : (root : ℕ) (oid face : List ℕ) (t : Tables) → holds_pair root oid face t ≡ true → held_wrong g os t.holdings ≡ 0 → wrong g os (ref_of g oid face) ≡ 0
  unfolding ref_of
  ref_held root oid face t held none = ref_by oid face (is_own g oid) refl (held_right g os (hold (holder.Root root) (pair oid face)) t.holdings held none)

  not_true : (b : Bool) → not b ≡ true → b ≡ false
  not_true true is = absurd (cc)
  not_true false is = refl

  told_held : (root : ℕ) (r : Ref) (t : Tables) → is_told g r ≡ true → holds_ref (holder.Root root) r t ≡ true → held_wrong g os t.holdings ≡ 0 → wrong g os r ≡ 0
  unfolding is_told
  told_held root null t told held none = absurd (cc)
  told_held root (own oid face) t told held none = held_own oid face told (held_right g os (hold (holder.Root root) (pair oid face)) t.holdings held none)
  told_held root (peer oid face) t told held none =
      held_peer oid face (not_true (is_own g oid) told) (held_right g os (hold (holder.Root root) (pair oid face)) t.holdings held none)

  pub each_held : (root : ℕ) (rs : List Ref) (t : Tables) → list_all (is_told g) rs ≡ true → list_all (λ r. holds_ref (holder.Root root) r t) rs ≡ true → held_wrong g os t.holdings ≡ 0
      → total (wrong g os) rs ≡ 0
  unfolding total
  each_held root [] t told held none = refl
  each_held root (r ∷ rs) t told held none =
      let tells = and_parts (is_told g r) (list_all (is_told g) rs) told in
      let holds_it = and_parts (holds_ref (holder.Root root) r t) (list_all (λ r. holds_ref (holder.Root root) r t) rs) held in
      let here = told_held root r t tells.0 holds_it.0 none in
      let rest = each_held root rs t tells.1 holds_it.1 none in omega arith
