-- Two types are one exactly where their number trees are.
use Rattle.std.proofs.Common.{◌≡◌, ◌==◌, ◌&&◌, true, refl, sym, ap, ◌∙◌}
use Rattle.std.specs.Bool.{Decides}
use Rattle.std.proofs.lemmas.Bool.{and_parts, and_from}
use Rattle.std.proofs.lemmas.Bool.Decides.{Decides-eqb}
use Rattle.uno_model.specs.Codes.{store_kind, kind_back, kind_in, same_tree, same_kind}
use Rattle.uno_model.specs.Kinds.{Kind}
use base.Stored.{Gv, gnil, gnum, gcons}

one_tree : (a b : Gv) → same_tree a b ≡ true → a ≡ b
one_tree gnil gnil same = refl
one_tree gnil (gnum m) same = absurd cc
one_tree gnil (gcons c d) same = absurd cc
one_tree (gnum n) gnil same = absurd cc
one_tree (gnum n) (gnum m) same = ap gnum ((Decides-eqb n m).0 same)
one_tree (gnum n) (gcons c d) same = absurd cc
one_tree (gcons a b) gnil same = absurd cc
one_tree (gcons a b) (gnum m) same = absurd cc
one_tree (gcons a b) (gcons c d) same =
    let parts = and_parts (same_tree a c) (same_tree b d) same in
    let first = one_tree a c parts.0 in
    let second = one_tree b d parts.1 in
    cc

itself : (a : Gv) → same_tree a a ≡ true
itself gnil = refl
itself (gnum n) = (Decides-eqb n n).1 refl
itself (gcons a b) = and_from (same_tree a a) (same_tree b b) (itself a) (itself b)

pub same_kind_told : (k j : Kind) → Decides (same_kind k j) (k ≡ j)
unfolding same_kind
same_kind_told k j = (
  λ same. sym (kind_back k) ∙ ap kind_in (one_tree (store_kind k) (store_kind j) same) ∙ kind_back j,
  λ is. rw (← is) (itself (store_kind k)),
)
