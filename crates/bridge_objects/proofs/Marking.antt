-- The marks of objects, after one identity is held or sent more or less.
use Rattle.std.proofs.Common.{◌≡◌, ℕ, ◌≤◌, ◌<◌, ◌^◌, ◌+◌, Bool, true, false, cond, not, ◌&&◌, ◌||◌, nat_lt, List, [], ◌∷◌, ◌++◌, Option, None, Some, IfSome, refl, sym, ap, ◌∙◌, subst, arith}
use Rattle.std.proofs.lemmas.Bool.{true≢false, lt-ltb, le-ltb}
use Rattle.std.proofs.lemmas.Bool.Decides.{nat_tests}
use borrow.Author.Tests.{ltb-true}
use Rattle.std.proofs.lemmas.Map.Views.{any-filter_same}
use Rattle.std.specs.Cmp.{nat_cmp_total, Equal-is, tied_itself}
use Rattle.std.specs.Cmp.Lexicographic.{same_text, nat_list_eq_equiv}
use Rattle.std.specs.FinMap.{find, put, nat_cmp-IsAntisymmetric}
use Rattle.std.specs.FinMap.Entries.{find-put}
use Rattle.std.specs.Fmt.{decimal}
use Rattle.std.specs.List as list
use Rattle.std.specs.Ordering.{nat_cmp, eq_by_cmp, is_eq}
use Rattle.std.specs.Str.{bytes_eq}
use Rattle.table_model.specs.Holdings.{Hold, Holdings, hold_cmp, held, let_go, is_of_frame, frames_without}
use Rattle.table_model.specs.Objects as model
use Rattle.table_model.specs.Pair.{Pair, pair_cmp, without_oid}
use Rattle.table_model.specs.Rows.{without}
use Rattle.table_model.specs.Stubs.{Stubs, stub, sent_again, sent_one, released_one, released_from, is_last}
use Rattle.table_model.specs.declared.stub.Stub.{Stub}
use Rattle.table_model.proofs.FrameLaws.{any_more}
use Rattle.table_model.proofs.HoldLaws.{same_hold}
use Rattle.table_model.proofs.PairLaws.{same_pair}
use Rattle.table_model.proofs.RowLaws.{any_put, found_without}
use Rattle.bridge_model.specs.Objects.{is_held_object, has_stub}
use Rattle.bridge_objects.specs.Marks.{is_free, free_at, IsMarked, AreMarked}
use Rattle.bridge_objects.proofs.Numbers.{one_number}

-- ---- other identities

-- texts that are not the same
pub apart : (a b : List ℕ) → (a ≡ b → ⊥) → bytes_eq a b ≡ false
apart a b other = elim (bytes_eq a b) as (λ t. bytes_eq a b ≡ t → t ≡ false) [ true ↦ λ is. absurd (other (same_text a b (sym is))) | false ↦ λ is. refl ] refl

pub apart_too : (a b : List ℕ) → (a ≡ b → ⊥) → bytes_eq b a ≡ false
apart_too a b other = apart b a (λ same. other (sym same))

-- ---- who is held as before

module _ (oid : List ℕ) where
  -- an OID is held as before, where another is held once more
  pub held_others : (h : Hold) (hs : Holdings) → bytes_eq oid h.pair.oid ≡ false → is_held_object oid (held h hs) ≡ is_held_object oid hs
  unfolding is_held_object
  held_others h hs other = any_more oid h hs ∙ ap (λ b. b || list.list_any (λ h. bytes_eq oid h.pair.oid) hs) other

  -- or once less
  pub gone_others : (h : Hold) (hs : Holdings) → bytes_eq oid h.pair.oid ≡ false → is_held_object oid (let_go h hs) ≡ is_held_object oid hs
  unfolding is_held_object
  gone_others h [] other = refl
  gone_others h (k ∷ hs) other =
      elim (eq_by_cmp hold_cmp h k) as (λ b. eq_by_cmp hold_cmp h k ≡ b → list.list_any (λ h. bytes_eq oid h.pair.oid) (cond b hs (k ∷ let_go h hs)) ≡ (bytes_eq oid k.pair.oid || list.list_any (λ h. bytes_eq oid h.pair.oid) hs)) [
        | true ↦ λ is. ap (λ b. b || list.list_any (λ h. bytes_eq oid h.pair.oid) hs) (sym other ∙ ap (λ h. bytes_eq oid h.pair.oid) (same_hold h k ((Equal-is _).0 is)))
        | false ↦ λ is. ap (λ b. bytes_eq oid k.pair.oid || b) (gone_others h hs other)
      ] refl

  passes : (frame : Bool) (gone at : List ℕ) → bytes_eq oid gone ≡ false → bytes_eq oid at ≡ true → not (frame && bytes_eq gone at) ≡ true
  passes true gone at other here =
      let same : oid ≡ at = same_text oid at (sym here) in
      ap not (ap (bytes_eq gone) (sym same) ∙ nat_list_eq_equiv.symm gone oid ∙ other)
  passes false gone at other here = refl

  -- or is let go by frames
  pub frames_others : (gone : List ℕ) (hs : Holdings) → bytes_eq oid gone ≡ false → is_held_object oid (frames_without gone hs) ≡ is_held_object oid hs
  unfolding is_held_object
  frames_others gone hs other = any-filter_same (λ h. bytes_eq oid h.pair.oid) (λ h. not (is_of_frame h && bytes_eq gone h.pair.oid)) true (λ h here. passes (is_of_frame h) gone h.pair.oid other here) hs

  -- ---- what is sent as before

  pub sent_others : (p : Pair) (stubs : Stubs) → bytes_eq oid p.oid ≡ false → has_stub oid (sent_one p stubs) ≡ has_stub oid stubs
  unfolding has_stub
  sent_others p stubs other = any_put same_pair (λ q. bytes_eq oid q.oid) p (sent_again (stub p stubs)) stubs ∙ ap (λ b. b || list.list_any (λ row. bytes_eq oid row.0.oid) stubs) other

  without_others : (p : Pair) (stubs : Stubs) → bytes_eq oid p.oid ≡ false → list.list_any (λ row. bytes_eq oid row.0.oid) (without pair_cmp p stubs) ≡ list.list_any (λ row. bytes_eq oid row.0.oid) stubs
  without_others p stubs other =
      any-filter_same (λ row. bytes_eq oid row.0.oid) (λ row. not (eq_by_cmp pair_cmp p row.0)) true
      (λ row here. keeps row.0 here) stubs
    where
      clash : (q : Pair) → p ≡ q → bytes_eq oid q.oid ≡ true → ⊥
      clash q same here = true≢false (sym here ∙ ap (λ q. bytes_eq oid q.oid) (sym same) ∙ other)

      keeps : (q : Pair) → bytes_eq oid q.oid ≡ true → not (eq_by_cmp pair_cmp p q) ≡ true
      keeps q here =
          elim (eq_by_cmp pair_cmp p q) as (λ b. eq_by_cmp pair_cmp p q ≡ b → not b ≡ true) [
            | true ↦ λ is. absurd (clash q (same_pair p q ((Equal-is _).0 is)) here)
            | false ↦ λ _. refl
          ] refl

  released_in : (p : Pair) (found : Option Stub) (stubs : Stubs) → bytes_eq oid p.oid ≡ false → list.list_any (λ row. bytes_eq oid row.0.oid) (released_from p found stubs) ≡ list.list_any (λ row. bytes_eq oid row.0.oid) stubs
  released_in p None stubs other = refl
  released_in p (Some s) stubs other =
      elim (is_last s) as (λ b. list.list_any (λ row. bytes_eq oid row.0.oid) (cond b (without pair_cmp p stubs) (put pair_cmp p (record s { released = s.released + 1 }) stubs)) ≡ list.list_any (λ row. bytes_eq oid row.0.oid) stubs) [
        | true ↦ without_others p stubs other
        | false ↦ any_put same_pair (λ q. bytes_eq oid q.oid) p (record s { released = s.released + 1 }) stubs ∙ ap (λ b. b || list.list_any (λ row. bytes_eq oid row.0.oid) stubs) other
      ]

  pub released_others : (p : Pair) (stubs : Stubs) → bytes_eq oid p.oid ≡ false → has_stub oid (released_one p stubs) ≡ has_stub oid stubs
  unfolding has_stub
  released_others p stubs other = released_in p (stub p stubs) stubs other

  pub taken_others : (gone : List ℕ) (stubs : Stubs) → bytes_eq oid gone ≡ false → has_stub oid (without_oid gone stubs) ≡ has_stub oid stubs
  unfolding has_stub
  taken_others gone stubs other = any-filter_same (λ row. bytes_eq oid row.0.oid) (λ row. not (bytes_eq gone row.0.oid)) true (λ row here. passes true gone row.0.oid other here) stubs

-- ---- the marks

nothing : {X : Type 0} (x : X) → None ≡ Some x → ⊥
nothing x e = cc

not_below : (n m : ℕ) → nat_lt n m ≡ false → m ≤ n
not_below n m e = grind (arith, nat_tests)

differs : (n k : ℕ) → eq_by_cmp nat_cmp n k ≡ false → n ≡ k → ⊥
differs n k other same = true≢false (sym (ap is_eq (tied_itself nat_cmp_total k)) ∙ ap (λ n. eq_by_cmp nat_cmp n k) (sym same) ∙ other)

-- an object that was there from the beginning never goes
pub not_free : (first n : ℕ) (oid : List ℕ) (hs : Holdings) (ss : Stubs) → n ≤ first → is_free first oid hs ss n ≡ false
not_free first n oid hs ss early = ap (λ b. b && (not (is_held_object oid hs) && not (has_stub oid ss))) (le-ltb first n early)

-- and another does where nobody holds it, and the peer does not
pub free_later : (first n : ℕ) (bare : Bool) → first < n → bare ≡ (nat_lt first n && bare)
free_later first n bare late = ap (λ b. b && bare) (sym (lt-ltb first n late))

module _ {V : Type 0} (prefix : List ℕ) (first : ℕ) (rows : List (ℕ × model.Object V)) where
  -- an object's mark is right still, where its identity is held and sent as before
  pub marked_still : (hs hs' : Holdings) (ss ss' : Stubs) (n : ℕ) → is_held_object (prefix ++ decimal n) hs' ≡ is_held_object (prefix ++ decimal n) hs → has_stub (prefix ++ decimal n) ss' ≡ has_stub (prefix ++ decimal n) ss
      → IsMarked (free_at prefix first hs ss) rows n → IsMarked (free_at prefix first hs' ss') rows n
  marked_still hs hs' ss ss' n held sent marked =
      subst (λ free. IfSome (find nat_cmp n rows) (λ o. o.may_go ≡ free)) (λ i. nat_lt first n && (not (sym held i) && not (sym sent i))) marked

  -- and that of one which was there from the beginning, whoever holds it
  pub marked_early : (hs hs' : Holdings) (ss ss' : Stubs) (n : ℕ) → n ≤ first → IsMarked (free_at prefix first hs ss) rows n → IsMarked (free_at prefix first hs' ss') rows n
  marked_early hs hs' ss ss' n early marked =
      subst (λ free. IfSome (find nat_cmp n rows) (λ o. o.may_go ≡ free)) (never hs ss ∙ sym (never hs' ss')) marked
    where
      never : (hs : Holdings) (ss : Stubs) → free_at prefix first hs ss n ≡ false
      never hs ss = not_free first n (prefix ++ decimal n) hs ss early

  module _ (hs : Holdings) (ss : Stubs) (oid : List ℕ) (others : (n : ℕ) → (oid ≡ prefix ++ decimal n → ⊥) → IsMarked (free_at prefix first hs ss) rows n) where
    -- all marks are right, where no object that was not there from the beginning has the one identity of which they might not be
    pub marked_later : ((n : ℕ) → n ≤ first → IsMarked (free_at prefix first hs ss) rows n) → ((n : ℕ) → first < n → oid ≡ prefix ++ decimal n → find nat_cmp n rows ≡ None)
        → AreMarked (free_at prefix first hs ss) rows
    marked_later early none n =
        elim (nat_lt first n) as (λ b. nat_lt first n ≡ b → IsMarked (free_at prefix first hs ss) rows n) [
          | true ↦ λ late.
              elim (bytes_eq oid (prefix ++ decimal n)) as (λ b. bytes_eq oid (prefix ++ decimal n) ≡ b → IsMarked (free_at prefix first hs ss) rows n) [
                | true ↦ λ is. subst (λ found. IfSome found (λ o. o.may_go ≡ free_at prefix first hs ss n)) (sym (none n (ltb-true first n late) (same_text oid (prefix ++ decimal n) (sym is)))) tt
                | false ↦ λ is. others n (λ same. true≢false (sym (ap (bytes_eq oid) (sym same) ∙ nat_list_eq_equiv.refl oid) ∙ is))
              ] refl
          | false ↦ λ more. early n (not_below first n more)
        ] refl

    -- or where the object that has it is marked right
    pub marked_one : (k : ℕ) (was : model.Object V) → oid ≡ prefix ++ decimal k → find nat_cmp k rows ≡ Some was → ((n : ℕ) → 2 ^ 32 ≤ n → find nat_cmp n rows ≡ None)
        → (after : List (ℕ × model.Object V)) → after ≡ put nat_cmp k (record was { may_go = is_free first oid hs ss k }) rows → AreMarked (free_at prefix first hs ss) after
    marked_one k was is found few after set n =
        subst (λ found. IfSome found (λ o. o.may_go ≡ free_at prefix first hs ss n)) (sym (ap (find nat_cmp n) set ∙ find-put nat_cmp nat_cmp_total n k _ rows))
        (elim (eq_by_cmp nat_cmp n k) as (λ b. eq_by_cmp nat_cmp n k ≡ b → IfSome (cond b (Some (record was { may_go = is_free first oid hs ss k })) (find nat_cmp n rows)) (λ o. o.may_go ≡ free_at prefix first hs ss n)) [
          | true ↦ λ same.
              let one : k ≡ n = sym (nat_cmp-IsAntisymmetric n k ((Equal-is _).0 same)) in
              (λ i. is_free first (is i) hs ss k) ∙ ap (free_at prefix first hs ss) one
          | false ↦ λ other. other_row n other (find nat_cmp n rows) refl
        ] refl)
      where
        below : (n : ℕ) (o : model.Object V) → find nat_cmp n rows ≡ Some o → n < 2 ^ 32
        below n o there = elim (nat_lt n (2 ^ 32)) as (λ b. nat_lt n (2 ^ 32) ≡ b → n < 2 ^ 32) [
          | true ↦ λ less. ltb-true n (2 ^ 32) less
          | false ↦ λ more. absurd (nothing o (sym (few n (not_below n (2 ^ 32) more)) ∙ there))
        ] refl

        other_row : (n : ℕ) → eq_by_cmp nat_cmp n k ≡ false → (found : Option (model.Object V)) → find nat_cmp n rows ≡ found → IfSome (find nat_cmp n rows) (λ o. o.may_go ≡ free_at prefix first hs ss n)
        other_row n other None none = subst (λ found. IfSome found (λ o. o.may_go ≡ free_at prefix first hs ss n)) (sym none) tt
        other_row n other (Some o) there = others n (λ too. differs n k other (one_number prefix oid n k (below n o there) (below k was found) too is))

module _ {V : Type 0} (free : ℕ → Bool) (k : ℕ) (rows : List (ℕ × model.Object V)) where
  -- the marks of all but one object are right still, after that one is put
  pub marked_put : (now : model.Object V) → AreMarked free rows → (n : ℕ) → (n ≡ k → ⊥) → IsMarked free (put nat_cmp k now rows) n
  marked_put now marked n other =
      subst (λ found. IfSome found (λ o. o.may_go ≡ free n)) (sym (find-put nat_cmp nat_cmp_total n k now rows))
      (elim (eq_by_cmp nat_cmp n k) as (λ b. eq_by_cmp nat_cmp n k ≡ b → IfSome (cond b (Some now) (find nat_cmp n rows)) (λ o. o.may_go ≡ free n)) [
        | true ↦ λ same. absurd (other (nat_cmp-IsAntisymmetric n k ((Equal-is _).0 same)))
        | false ↦ λ _. marked n
      ] refl)

  -- and those of all, after one is put whose mark is right
  pub marked_new : (now : model.Object V) (n : ℕ) → now.may_go ≡ free n → AreMarked free rows → IsMarked free (put nat_cmp k now rows) n
  marked_new now n right marked =
      subst (λ found. IfSome found (λ o. o.may_go ≡ free n)) (sym (find-put nat_cmp nat_cmp_total n k now rows))
      (elim (eq_by_cmp nat_cmp n k) as (λ b. IfSome (cond b (Some now) (find nat_cmp n rows)) (λ o. o.may_go ≡ free n)) [ true ↦ right | false ↦ marked n ])

  -- and that one's, where its mark stays
  pub marked_changed : (was now : model.Object V) → find nat_cmp k rows ≡ Some was → now.may_go ≡ was.may_go → AreMarked free rows → AreMarked free (put nat_cmp k now rows)
  marked_changed was now found same marked n =
      subst (λ found. IfSome found (λ o. o.may_go ≡ free n)) (sym (find-put nat_cmp nat_cmp_total n k now rows))
      (elim (eq_by_cmp nat_cmp n k) as (λ b. eq_by_cmp nat_cmp n k ≡ b → IfSome (cond b (Some now) (find nat_cmp n rows)) (λ o. o.may_go ≡ free n)) [
        | true ↦ λ is.
            let one : n ≡ k = nat_cmp-IsAntisymmetric n k ((Equal-is _).0 is) in
            same ∙ subst (λ found. IfSome found (λ o. o.may_go ≡ free k)) found (marked k) ∙ ap free (sym one)
        | false ↦ λ _. marked n
      ] refl)

  -- the others' marks are right still, after an object is gone
  pub marked_without : AreMarked free rows → AreMarked free (without nat_cmp k rows)
  marked_without marked n =
      subst (λ found. IfSome found (λ o. o.may_go ≡ free n)) (sym (found_without nat_cmp_total n k rows))
      (elim (eq_by_cmp nat_cmp n k) as (λ b. IfSome (cond b None (find nat_cmp n rows)) (λ o. o.may_go ≡ free n)) [ true ↦ tt | false ↦ marked n ])
