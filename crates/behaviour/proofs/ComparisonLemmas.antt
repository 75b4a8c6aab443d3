-- When types are the same, and when values are not as many.
use Rattle.std.proofs.Common.{◌≡◌, suc, ◌&&◌, Bool, true, false, IsTrue, ◌↔◌, List, [], ◌∷◌, length, refl, sym, ap, ◌∙◌, arith}
use Rattle.uno_model.specs.Codes.{same_kind, same_tree, store_kind, kind_in, kind_back}
use Rattle.uno_model.specs.Kinds.{Kind}
use Rattle.plan_model.specs.Evaluation.{same_value, same_values}
use Rattle.uno_values.specs.Values.{plain_of, plains_of}
use Rattle.uno_values.specs.declared.value.Value.{Value}
use base.Stored.{Gv, gnil, gnum, gcons}

-- ---- types

tree_itself : (a : Gv) → same_tree a a ≡ true
tree_itself gnil = refl
tree_itself (gnum n) = grind arith
tree_itself (gcons a b) = let left = tree_itself a in let right = tree_itself b in grind (arith, left, right)

tree_same : (a b : Gv) → same_tree a b ≡ true → a ≡ b
tree_same gnil gnil same = refl
tree_same (gnum n) (gnum m) same = let e : n ≡ m = grind (arith, same) in ap gnum e
tree_same (gcons a b) (gcons c d) same =
    let left : same_tree a c ≡ true = grind (arith, same) in
    let right : same_tree b d ≡ true = grind (arith, same) in
    ap (λ x. gcons x b) (tree_same a c left) ∙ ap (gcons c) (tree_same b d right)
tree_same gnil (gnum m) same = let bad : ⊥ = cc in absurd bad
tree_same gnil (gcons c d) same = let bad : ⊥ = cc in absurd bad
tree_same (gnum n) gnil same = let bad : ⊥ = cc in absurd bad
tree_same (gnum n) (gcons c d) same = let bad : ⊥ = cc in absurd bad
tree_same (gcons a b) gnil same = let bad : ⊥ = cc in absurd bad
tree_same (gcons a b) (gnum m) same = let bad : ⊥ = cc in absurd bad

kind_same : (k j : Kind) → same_kind k j ≡ true → k ≡ j
unfolding same_kind
kind_same k j same = sym (kind_back k) ∙ ap kind_in (tree_same (store_kind k) (store_kind j) same) ∙ kind_back j

-- a test that is true just where two types are one
pub kind_told : (k j : Kind) (answer : Bool) → IsTrue answer ↔ (k ≡ j) → answer ≡ same_kind k j
unfolding same_kind
kind_told k j true told = sym (ap (λ x. same_tree (store_kind k) (store_kind x)) (sym (told.0 refl)) ∙ tree_itself (store_kind k))
kind_told k j false told = by_test (same_tree (store_kind k) (store_kind j)) refl
  where
    by_test : (b : Bool) → b ≡ same_tree (store_kind k) (store_kind j) → false ≡ b
    by_test false is = refl
    by_test true is = told.1 (kind_same k j (sym is))

-- ---- parts

-- there are not as many
either_way : (b c : Bool) → false ≡ c → false ≡ (b && c)
either_way true c untrue = untrue
either_way false c untrue = refl

pub other_length : (vs ws : List Value) → (length vs ≡ length ws → ⊥) → false ≡ same_values (plains_of vs) (plains_of ws)
unfolding same_values
other_length [] [] other = absurd (other refl)
other_length [] (w ∷ ws) other = refl
other_length (v ∷ vs) [] other = refl
other_length (v ∷ vs) (w ∷ ws) other = either_way (same_value (plain_of v) (plain_of w)) _ (other_length vs ws (λ long. other (ap suc long)))
