-- The births after one of them is noted or forgotten.
use Rattle.std.proofs.Common.{◌≡◌, ℕ, Bool, true, false, cond, List, Option, refl, sym, ◌∙◌, subst}
use Rattle.std.specs.BTreeMap as tree
use Rattle.std.specs.BTreeMap.{BTreeMap}
use Rattle.std.specs.Cmp.{eq_by_cmp_equiv}
use Rattle.std.specs.Cmp.Lexicographic.{slice_cmp, bytes_decides, nat_list_cmp_total, nat_list_eq_equiv}
use Rattle.std.specs.Global.{Vec}
use Rattle.std.specs.Map.{KeepsOthers, IsKeyTest, AreApart, lookup}
use Rattle.std.specs.Ordering.{nat_cmp, is_eq}
use Rattle.std.specs.declared.cmp.Ordering.{Ordering}
use Rattle.std.specs.Str.{bytes_eq}
use Rattle.std.proofs.lemmas.Map.Text.{is_eq-slice_cmp}
use Rattle.call_stacks.specs.Births.{birth_at}

abbrev pub by_items : Vec ℕ → Vec ℕ → Ordering
by_items x y = slice_cmp nat_cmp x.items y.items

apart : (tid q key : List ℕ) → bytes_eq tid q ≡ false → is_eq (slice_cmp nat_cmp tid key) ≡ true → is_eq (slice_cmp nat_cmp q key) ≡ false
apart tid q key other same =
    is_eq-slice_cmp q key ∙ nat_list_eq_equiv.symm q key ∙ sym (nat_list_eq_equiv.congr tid key q (sym (is_eq-slice_cmp tid key) ∙ same)) ∙ other

module _ {X : Type 0} where
  kept_others : (eq : Vec ℕ → Vec ℕ → Bool) (test : Vec ℕ → Bool) (old new : List (Vec ℕ × X)) → KeepsOthers eq test old new → (other : Vec ℕ → Bool) → IsKeyTest eq other → AreApart test other → lookup other new ≡ lookup other old
  unfolding KeepsOthers
  kept_others eq test old new h = h

-- after a change at one TID all others have the births that they had
pub birth_updates : (old new : BTreeMap (Vec ℕ) ℕ) (tid : List ℕ) (w : Option ℕ) → tree.UpdatesBy by_items (λ key. slice_cmp nat_cmp tid key.items) old new w → (q : List ℕ) → birth_at q new ≡ cond (bytes_eq tid q) w (birth_at q old)
birth_updates old new tid w up q =
    elim (bytes_eq tid q) as (λ b. bytes_eq tid q ≡ b → birth_at q new ≡ cond b w (birth_at q old)) [
      | true ↦ λ same. subst (λ q. birth_at q new ≡ w) ((bytes_decides tid q).0 same) up.1
      | false ↦ λ other. kept_others _ _ _ _ up.3 _ (λ x y. (eq_by_cmp_equiv nat_list_cmp_total).congr q x.items y.items) (λ key. apart tid q key.items other)
    ] refl
