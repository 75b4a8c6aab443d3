-- An object that a root makes may be held before it is made.
use Rattle.std.proofs.Common.{◌≡◌, refl, sym, ap, ◌∙◌, ℕ, suc, Bool, true, false, cond, List, [], ◌∷◌, Option}
use Rattle.std.proofs.lemmas.Bool.{true≢false}
use Rattle.std.specs.Cmp.{IsTotalOrder, upto}
use Rattle.std.specs.FinMap.{IsAntisymmetric}
use Rattle.std.specs.Ordering.{is_gt, ordering_reverse}
use Rattle.std.specs.declared.cmp.Ordering.{Ordering}
use Rattle.std.specs.declared.cmp.Ordering.TheVariants.{Less, Equal, Greater}
use Rattle.table_model.specs.Bags.{one_more}
use Rattle.table_model.specs.Holdings.{hold}
use Rattle.table_model.specs.Pair.{pair}
use Rattle.table_model.specs.declared.holder.Holder.{Holder}
use Rattle.table_model.specs.declared.holder.Holder.TheVariants as holder
use Rattle.table_model.proofs.BagLaws.{one_less_one_more}
use Rattle.table_model.proofs.HoldLaws.{hold_order, same_hold}
use Rattle.uno_model.specs.Values.{Plain, Ref, null, own, peer}
use Rattle.plan_model.specs.Frames.{Stack}
use Rattle.bridge_model.specs.Objects.{makes_object, makes_default, defaults_of}
use Rattle.bridge_model.specs.References.{gains, gains_all, loses, refs_of_values}
use Rattle.bridge_model.specs.Roots.{root_makes}
use Rattle.bridge_model.specs.Settings.{Setting, own_oid}
use Rattle.bridge_model.specs.Sides.{Tables, Incoming, Outgoing}
use Rattle.bridge_model.specs.Sides as sides
use Rattle.bridge_model.specs.declared.cause.Cause.{Cause}
use Rattle.bridge_tables.specs.EndTables.{EndTables, on_tables}
use Rattle.bridge_state.specs.EndSides.{EndSide, on_side}
use Rattle.bridge_state.proofs.Seen.{seen}

-- ---- two items that come into a bag

module _ {X : Type 0} {cmp : X → X → Ordering} (order : IsTotalOrder cmp) (same : IsAntisymmetric cmp) where
  behind : (x z : X) (ws : List X) → is_gt (cmp x z) ≡ true → one_more cmp x (z ∷ ws) ≡ z ∷ one_more cmp x ws
  behind x z ws is = ap (λ b. cond b (z ∷ one_more cmp x ws) (x ∷ z ∷ ws)) is

  before : (x z : X) (ws : List X) → is_gt (cmp x z) ≡ false → one_more cmp x (z ∷ ws) ≡ x ∷ z ∷ ws
  before x z ws is = ap (λ b. cond b (z ∷ one_more cmp x ws) (x ∷ z ∷ ws)) is

  turned_back : (x y : X) → is_gt (cmp x y) ≡ true → is_gt (cmp y x) ≡ false
  turned_back x y is = ap is_gt (order.antisymm y x) ∙ elim (cmp x y) as (λ o. is_gt o ≡ true → is_gt (ordering_reverse o) ≡ false) [ Less ↦ λ e. absurd (true≢false (sym e)) | Equal ↦ λ _. refl | Greater ↦ λ _. refl ] is

  neither : (x y : X) → is_gt (cmp x y) ≡ false → is_gt (cmp y x) ≡ false → x ≡ y
  neither x y p q =
      elim (cmp x y) as (λ o. cmp x y ≡ o → is_gt o ≡ false → is_gt (ordering_reverse o) ≡ false → x ≡ y) [
        | Less ↦ λ _ _ e. absurd (true≢false e)
        | Equal ↦ λ is _ _. same x y is
        | Greater ↦ λ _ e _. absurd (true≢false e)
      ] refl p (sym (ap is_gt (order.antisymm y x)) ∙ q)

  in_front : (x y : X) (ws : List X) (b c : Bool) → is_gt (cmp x y) ≡ b → is_gt (cmp y x) ≡ c → one_more cmp x ws ≡ x ∷ ws → one_more cmp y ws ≡ y ∷ ws
      → one_more cmp x (y ∷ ws) ≡ one_more cmp y (x ∷ ws)
  in_front x y ws true true p q fx fy = absurd (true≢false (sym q ∙ turned_back x y p))
  in_front x y ws true false p q fx fy = behind x y ws p ∙ ap (λ vs. y ∷ vs) fx ∙ sym (before y x ws q)
  in_front x y ws false true p q fx fy = before x y ws p ∙ sym (ap (λ vs. x ∷ vs) fy) ∙ sym (behind y x ws q)
  in_front x y ws false false p q fx fy = before x y ws p ∙ (λ i. neither x y p q i ∷ sym (neither x y p q) i ∷ ws) ∙ sym (before y x ws q)

  above : (x y z : X) (b : Bool) → is_gt (cmp x y) ≡ b → is_gt (cmp x z) ≡ true → is_gt (cmp y z) ≡ false → b ≡ true
  above x y z true is p q = refl
  above x y z false is p q = absurd (true≢false (sym p ∙ upto order x y z is q))

  apart : (x y z : X) (zs : List X) → is_gt (cmp x z) ≡ true → is_gt (cmp y z) ≡ false → one_more cmp x (one_more cmp y (z ∷ zs)) ≡ one_more cmp y (one_more cmp x (z ∷ zs))
  apart x y z zs p q =
      ap (one_more cmp x) (before y z zs q) ∙ behind x y (z ∷ zs) (above x y z (is_gt (cmp x y)) refl p q) ∙ ap (λ vs. y ∷ vs) (behind x z zs p)
      ∙ sym (before y z (one_more cmp x zs) q) ∙ sym (ap (one_more cmp y) (behind x z zs p))

  swap_step : (x y z : X) (zs : List X) (b c : Bool) → is_gt (cmp x z) ≡ b → is_gt (cmp y z) ≡ c → one_more cmp x (one_more cmp y zs) ≡ one_more cmp y (one_more cmp x zs)
      → one_more cmp x (one_more cmp y (z ∷ zs)) ≡ one_more cmp y (one_more cmp x (z ∷ zs))
  swap_step x y z zs true true p q rest =
      ap (one_more cmp x) (behind y z zs q) ∙ behind x z (one_more cmp y zs) p ∙ ap (λ vs. z ∷ vs) rest ∙ sym (behind y z (one_more cmp x zs) q) ∙ sym (ap (one_more cmp y) (behind x z zs p))
  swap_step x y z zs true false p q rest = apart x y z zs p q
  swap_step x y z zs false true p q rest = sym (apart y x z zs q p)
  swap_step x y z zs false false p q rest =
      ap (one_more cmp x) (before y z zs q) ∙ in_front x y (z ∷ zs) (is_gt (cmp x y)) (is_gt (cmp y x)) refl refl (before x z zs p) (before y z zs q) ∙ sym (ap (one_more cmp y) (before x z zs p))

  -- it does not matter which comes first
  more_swap : (x y : X) (zs : List X) → one_more cmp x (one_more cmp y zs) ≡ one_more cmp y (one_more cmp x zs)
  more_swap x y [] = in_front x y [] (is_gt (cmp x y)) (is_gt (cmp y x)) refl refl refl refl
  more_swap x y (z ∷ zs) = swap_step x y z zs (is_gt (cmp x z)) (is_gt (cmp y z)) refl refl (more_swap x y zs)

-- ---- two references that are gained

module _ (h k : Holder) (oid face : List ℕ) where
  gains_swap : (r : Ref) (t : Tables) → gains h (own oid face) (gains k r t) ≡ gains k r (gains h (own oid face) t)
  gains_swap null t = refl
  gains_swap (own c d) t = ap (λ hs. record t { holdings = hs }) (more_swap hold_order same_hold (hold h (pair oid face)) (hold k (pair c d)) t.holdings)
  gains_swap (peer c d) t = ap (λ hs. record t { holdings = hs }) (more_swap hold_order same_hold (hold h (pair oid face)) (hold k (pair c d)) t.holdings)

  gains_past : (rs : List Ref) (t : Tables) → gains_all k rs (gains h (own oid face) t) ≡ gains h (own oid face) (gains_all k rs t)
  unfolding gains_all
  gains_past [] t = refl
  gains_past (r ∷ rs) t = ap (gains_all k rs) (sym (gains_swap r t)) ∙ gains_past rs (gains k r t)

module _ (h : Holder) (oid face : List ℕ) (t : Tables) where
  -- what is gained before an object is made is gained behind it
  pub gained_first : (b : ℕ) (fs : List Plain) → makes_object b fs (gains h (own oid face) t) ≡ gains h (own oid face) (makes_object b fs t)
  unfolding makes_object
  gained_first b fs = gains_past h (holder.Object (suc t.objects_made)) oid face (refs_of_values fs) (record t { objects = _; objects_made = suc t.objects_made })

  -- and is lost again where none is made
  pub gained_lost : loses h (own oid face) (gains h (own oid face) t) ≡ t
  gained_lost = ap (λ hs. record t { holdings = hs }) (one_less_one_more hold_order (hold h (pair oid face)) t.holdings)

-- ---- as code does it

module _ (g : Setting) (root : ℕ) (wanted : List ℕ) (e after : EndTables) (stacks : List Stack) (incoming : Incoming) (outgoing : Outgoing) (entries : ℕ) (cause : Option Cause) (n : ℕ) (old : EndSide)
    (gained : seen e stacks incoming outgoing entries cause ≡ on_side (sides.on_tables (gains (holder.Root root) (own (own_oid g n) wanted))) old) where
  pub held_then_made : (b : ℕ) → n ≡ suc old.side.tables.objects_made → after ≡ on_tables (makes_default g b) e
      → seen after stacks incoming outgoing entries cause ≡ on_side (root_makes g root b wanted) old
  unfolding root_makes
  held_then_made b is made =
      ap (λ x. seen x stacks incoming outgoing entries cause) made
      ∙ ap (on_side (sides.on_tables (makes_default g b))) gained
      ∙ ap (λ t. on_side (sides.with_tables t) old) (gained_first (holder.Root root) (own_oid g n) wanted old.side.tables b (defaults_of g b))
      ∙ ap (λ m. on_side (sides.on_tables (λ t. gains (holder.Root root) (own (own_oid g m) wanted) (makes_default g b t))) old) is

  pub held_then_lost : (between : EndTables) → between ≡ e → after ≡ on_tables (loses (holder.Root root) (own (own_oid g n) wanted)) between → seen after stacks incoming outgoing entries cause ≡ old
  held_then_lost between kept gone =
      ap (λ x. seen x stacks incoming outgoing entries cause) (gone ∙ ap (on_tables (loses (holder.Root root) (own (own_oid g n) wanted))) kept)
      ∙ ap (on_side (sides.on_tables (loses (holder.Root root) (own (own_oid g n) wanted)))) gained
      ∙ ap (λ t. on_side (sides.with_tables t) old) (gained_lost (holder.Root root) (own_oid g n) wanted old.side.tables)
