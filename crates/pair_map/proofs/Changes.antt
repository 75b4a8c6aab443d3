-- What the map has at pairs, after a change at one OID.
use Rattle.std.proofs.Common.{◌≡◌, ℕ, Bool, true, false, cond, ◌&&◌, List, [], ◌∷◌, length, arith, Option, None, Some}
use Rattle.std.proofs.Common.{refl, sym, ap, ◌∙◌, subst, Result, Ok, Err, OnErr, OnOk, IfSome}
use Rattle.std.specs.HashMap.{HashMap, get_by, UpdatesBy}
use Rattle.std.specs.Str.{bytes_eq}
use Rattle.std.specs.Cmp.Lexicographic.{nat_list_eq_equiv, same_text}
use Rattle.table_model.specs.Pair.{Pair, pair, is_pair}
use Rattle.table_model.proofs.PairLaws.{is_pair_by_texts}
use Rattle.pair_map.specs.ByOid.{at_pair, at_face}
use Rattle.pair_map.specs.Faces.{Rows, value_of, ChangesFace}

both_chosen : {X : Type 0} (a b : Bool) (x y : X) → cond (a && b) x y ≡ cond a (cond b x y) y
both_chosen a b x y = elim a as (λ a. cond (a && b) x y ≡ cond a (cond b x y) y) [ true ↦ refl | false ↦ refl ]

no_rows : {X : Type 0} (rows : Rows X) (face : List ℕ) → length rows ≡ 0 → value_of face rows ≡ None
no_rows [] face e = refl
no_rows (r ∷ rows) face e = let bad : ⊥ = omega arith in absurd bad

bare_at : {X : Type 0} (found : Option (Rows X)) (g : List ℕ) → IfSome found (λ faces. length faces ≡ 0) → None ≡ at_face found g
bare_at None g bare = refl
bare_at (Some faces) g bare = sym (no_rows faces g bare)

module _ {X S : Type 0} (m n : HashMap (List ℕ) (Rows X) S) where
  -- the second map is the first with these rows, or none, at an OID
  abbrev SetsRows : List ℕ → Option (Rows X) → Type 0
  SetsRows oid rows = UpdatesBy bytes_eq (bytes_eq oid) m n rows

  -- and has this value, or none, at a pair
  abbrev SetsPair : Pair → Option X → Type 0
  SetsPair p w = (q : Pair) → at_pair n q ≡ cond (is_pair q p) w (at_pair m q)

module _ {X S : Type 0} (m n : HashMap (List ℕ) (Rows X) S) (oid : List ℕ) where
  module _ (others : (other : List ℕ) → bytes_eq oid other ≡ false → get_by (bytes_eq other) n ≡ get_by (bytes_eq other) m) where
    at_same : (face : List ℕ) (w : Option X) (a : Bool) (q : Pair) → bytes_eq oid q.oid ≡ a
        → at_face (get_by (bytes_eq oid) n) q.face ≡ cond (bytes_eq q.face face) w (at_face (get_by (bytes_eq oid) m) q.face)
        → at_pair n q ≡ cond a (cond (bytes_eq q.face face) w (at_pair m q)) (at_pair m q)
    at_same face w true q is here =
        subst (λ o. at_face (get_by (bytes_eq o) n) q.face ≡ cond (bytes_eq q.face face) w (at_face (get_by (bytes_eq o) m) q.face))
        (same_text oid q.oid (sym is)) here
    at_same face w false q is here = ap (λ faces. at_face faces q.face) (others q.oid is)

    -- a change at one face of one OID is one at the pair
    changed_at : (face : List ℕ) (w : Option X)
        → ((f : List ℕ) → at_face (get_by (bytes_eq oid) n) f ≡ cond (bytes_eq face f) w (at_face (get_by (bytes_eq oid) m) f))
        → SetsPair m n (pair oid face) w
    changed_at face w here q =
        let turned = ap (λ b. cond b w (at_face (get_by (bytes_eq oid) m) q.face)) (nat_list_eq_equiv.symm face q.face) in
        at_same face w (bytes_eq oid q.oid) q refl (here q.face ∙ turned)
        ∙ sym (both_chosen (bytes_eq oid q.oid) (bytes_eq q.face face) w (at_pair m q))
        ∙ ap (λ b. cond (b && bytes_eq q.face face) w (at_pair m q)) (nat_list_eq_equiv.symm oid q.oid)
        ∙ ap (λ b. cond b w (at_pair m q)) (sym (is_pair_by_texts q (pair oid face)))

    -- what the rows of one OID have stays, so all does
    kept_at : ((f : List ℕ) → at_face (get_by (bytes_eq oid) n) f ≡ at_face (get_by (bytes_eq oid) m) f) → (q : Pair) → at_pair n q ≡ at_pair m q
    kept_at here q =
        elim (bytes_eq oid q.oid) as (λ a. bytes_eq oid q.oid ≡ a → at_pair n q ≡ at_pair m q) [
          | true ↦ λ is.
              subst (λ o. at_face (get_by (bytes_eq o) n) q.face ≡ at_face (get_by (bytes_eq o) m) q.face)
              (same_text oid q.oid (sym is)) (here q.face)
          | false ↦ λ is. ap (λ faces. at_face faces q.face) (others q.oid is)
        ] refl

  others_stay : (v : Option (Rows X)) → SetsRows m n oid v
      → (other : List ℕ) → bytes_eq oid other ≡ false → get_by (bytes_eq other) n ≡ get_by (bytes_eq other) m
  others_stay v up other is = up.0 other ∙ ap (λ b. cond b v (get_by (bytes_eq other) m)) is

  module _ (a : Rows X) (was : Some a ≡ get_by (bytes_eq oid) m) where
    -- rows that stay change nothing
    pub kept : (b : Rows X) → SetsRows m n oid (Some b) → b ≡ a → (q : Pair) → at_pair n q ≡ at_pair m q
    kept b up same =
        kept_at (others_stay (Some b) up)
        (λ g. ap (λ faces. at_face faces g) up.1 ∙ ap (value_of g) same ∙ ap (λ faces. at_face faces g) was)

    -- a change of the rows of an OID is one at the pair
    pub changed : (face f : List ℕ) (w : Option X) (b : Rows X) → ChangesFace f w a b → f ≡ face → SetsRows m n oid (Some b)
        → SetsPair m n (pair oid face) w
    changed face f w b change is up =
        changed_at (others_stay (Some b) up) face w
        (λ g. ap (λ faces. at_face faces g) up.1
        ∙ change g
        ∙ ap (λ h. cond (bytes_eq h g) w (value_of g a)) is
        ∙ ap (λ faces. cond (bytes_eq face g) w (at_face faces g)) was)

  -- an OID without faces that goes changes nothing
  pub emptied : SetsRows m n oid None → IfSome (get_by (bytes_eq oid) m) (λ faces. length faces ≡ 0) → (q : Pair) → at_pair n q ≡ at_pair m q
  emptied up bare =
      kept_at (others_stay None up) (λ g. ap (λ faces. at_face faces g) up.1 ∙ bare_at (get_by (bytes_eq oid) m) g bare)

  -- an OID that is taken out has nothing at its pairs, and all else stays
  pub taken : SetsRows m n oid None → (q : Pair) → at_pair n q ≡ cond (bytes_eq oid q.oid) None (at_pair m q)
  taken up q =
      elim (bytes_eq oid q.oid) as (λ a. bytes_eq oid q.oid ≡ a → at_pair n q ≡ cond a None (at_pair m q)) [
        | true ↦ λ is. ap (λ faces. at_face faces q.face) (subst (λ o. get_by (bytes_eq o) n ≡ None) (same_text oid q.oid (sym is)) up.1)
        | false ↦ λ is. ap (λ faces. at_face faces q.face) (others_stay None up q.oid is)
      ] refl

  -- the first face of an OID is a change at the pair
  pub begun : (face : List ℕ) (key : List ℕ) (v : X) → key ≡ face
      → (b : Rows X) → b ≡ (key, v) ∷ [] → get_by (bytes_eq oid) m ≡ None → SetsRows m n oid (Some b)
      → SetsPair m n (pair oid face) (Some v)
  begun face key v is b lone none up =
      changed_at (others_stay _ up) face (Some v)
      (λ g. ap (λ faces. at_face faces g) up.1
      ∙ ap (value_of g) lone
      ∙ ap (λ b. cond b (Some v) None) (nat_list_eq_equiv.symm g key)
      ∙ ap (λ h. cond (bytes_eq h g) (Some v) None) is
      ∙ ap (cond (bytes_eq face g) (Some v)) (sym (ap (λ faces. at_face faces g) none)))

-- rows that are set at a text, in a map that is another
pub as_set : {X S : Type 0} (l m n : HashMap (List ℕ) (Rows X) S) (o oid : List ℕ) (v : Option (Rows X))
    → l ≡ m → o ≡ oid → SetsRows l n o v → SetsRows m n oid v
as_set l m n o oid v before same up = subst (λ m. SetsRows m n oid v) before (subst (λ o. SetsRows l n o v) same up)

-- what follows holds where an answer is given
pub then_ok : {A E : Type 0} {P Q : Type 0} (r : Result A E) → (P → Q) → OnOk r P → OnOk r Q
then_ok (Ok x) f p = f p
then_ok (Err e) f p = p

-- and at a refusal
pub then_err : {A E : Type 0} {P Q : Type 0} (r : Result A E) → (P → Q) → OnErr r P → OnErr r Q
then_err (Ok x) f p = p
then_err (Err e) f p = f p
