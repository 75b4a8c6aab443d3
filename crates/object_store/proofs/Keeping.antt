-- A store is kept as it is to be, after each change.
use Rattle.std.proofs.Common.{◌≡◌, ℕ, ◌+◌, ◌^◌, ◌≤◌, ◌<◌, Bool, true, false, cond, List, length, set, length-set, Option, None, Some, IsSome, IfNone, ◌-◌, refl, sym, ap, ◌∙◌, subst, inl, inr, arith}
use Rattle.std.specs.Prelude.{T}
use Rattle.std.specs.Option.{IsSomeAnd}
use Rattle.std.proofs.lemmas.Bool.{cases_eq, cases_lt}
use Rattle.std.proofs.lemmas.List.{set-get_or}
use Rattle.std.specs.BTreeMap.{BTreeMap, IsOrdered}
use Rattle.std.specs.Cmp.{nat_cmp_total}
use Rattle.std.specs.Ordering.{nat_cmp, eq_by_cmp}
use Rattle.std.specs.FinMap.{find, put, is_sorted, nat_cmp-IsAntisymmetric}
use Rattle.std.specs.FinMap.Entries.{find-put, is_sorted-where_key, same_entries}
use Rattle.birth_index.specs.Bits.{has}
use Rattle.table_model.specs.Objects as model
use Rattle.table_model.specs.Rows.{without}
use Rattle.table_model.proofs.RowLaws.{found_without, without_put}
use Rattle.object_store.specs.Rows.{object_rows, is_marked, IsKept}
use Rattle.object_store.specs.declared.object.Object.{Object}
use Rattle.object_store.proofs.Marking.{one_number, flag_set, marked_either}

-- what is there is one
pub the_one : {X : Type 0} (o : Option X) → IsSome o → (x : X) × (o ≡ Some x)
the_one (Some x) h = (x, refl)
the_one None h = let bad : false ≡ true = h in cc

apart : {P X : Type 0} (x : X) → None ≡ Some x → P
apart x e = let bad : ⊥ = cc in absurd bad

module _ {V : Type 0} (k : ℕ) (o : model.Object V) (rows after : List (ℕ × model.Object V)) where
  -- what is found after an object was put
  pub found_put : after ≡ put nat_cmp k o rows → (q : ℕ) → find nat_cmp q after ≡ cond (eq_by_cmp nat_cmp q k) (Some o) (find nat_cmp q rows)
  found_put is q = ap (find nat_cmp q) is ∙ find-put nat_cmp nat_cmp_total q k o rows

module _ {V : Type 0} (rows : List (ℕ × model.Object V)) (rises : T (is_sorted nat_cmp rows)) where
  gone_already : (k : ℕ) → find nat_cmp k rows ≡ None → without nat_cmp k rows ≡ rows
  gone_already k none =
      same_entries nat_cmp nat_cmp_total nat_cmp-IsAntisymmetric _ _ (is_sorted-where_key nat_cmp _ rows rises) rises
      (λ q. found_without nat_cmp_total q k rows
      ∙ elim (eq_by_cmp nat_cmp q k) as (λ b. eq_by_cmp nat_cmp q k ≡ b → cond b None (find nat_cmp q rows) ≡ find nat_cmp q rows) [ true ↦ λ is. sym (ap (λ q. find nat_cmp q rows) (one_number q k is) ∙ none) | false ↦ λ _. refl ] refl)

module _ {V : Type 0} (m : BTreeMap ℕ (Object V)) (marks : List Bool) (made : ℕ) (kept : IsKept m marks made) where
  -- an object that lives has a number that was given
  was_given : (k : ℕ) (o : model.Object V) → find nat_cmp k (object_rows m.entries) ≡ Some o → k ≤ made
  was_given k o found = elim (cases_lt made k) [ inl past ↦ apart o (sym (kept.given k past) ∙ found) | inr within ↦ within ]

  -- after the last object that was made is gone
  pub kept_unmade : find nat_cmp made (object_rows m.entries) ≡ None → IsKept m marks (made - 1)
  kept_unmade gone = record {
    ordered = kept.ordered;
    given = λ q past. elim (cases_eq q made) as (λ _. find nat_cmp q (object_rows m.entries) ≡ None) [ inl same ↦ ap (λ q. find nat_cmp q (object_rows m.entries)) same ∙ gone | inr other ↦ kept.given q (omega (arith, past, other)) ];
    few = let few = kept.few in omega (arith, few);
    marks_are = kept.marks_are;
    room = kept.room;
  }

module _ {V : Type 0} (m n : BTreeMap ℕ (Object V)) (marks : List Bool) (made : ℕ) (kept : IsKept m marks made) where
  -- one object is another, or is gone, and its mark is what it says
  module _ (k : ℕ) (w : Option (model.Object V)) (found : (q : ℕ) → find nat_cmp q (object_rows n.entries) ≡ cond (eq_by_cmp nat_cmp q k) w (find nat_cmp q (object_rows m.entries)))
      (after : List Bool) (flags : (q : ℕ) → has after q ≡ cond (eq_by_cmp nat_cmp q k) (is_marked w) (has marks q)) where
    given_after : (most : ℕ) → made ≤ most → k ≤ most → (q : ℕ) → most < q → find nat_cmp q (object_rows n.entries) ≡ None
    given_after most more within q past =
        found q
        ∙ elim (eq_by_cmp nat_cmp q k) as (λ b. eq_by_cmp nat_cmp q k ≡ b → cond b w (find nat_cmp q (object_rows m.entries)) ≡ None) [
          | true ↦ λ is. let one = one_number q k is in absurd (omega (arith, one, within, past))
          | false ↦ λ _. kept.given q (omega (arith, more, past))
        ] refl

    marks_after : (q : ℕ) → has after q ≡ is_marked (find nat_cmp q (object_rows n.entries))
    marks_after q =
        flags q ∙ ap (cond (eq_by_cmp nat_cmp q k) (is_marked w)) (kept.marks_are q)
        ∙ sym (ap is_marked (found q) ∙ marked_either (eq_by_cmp nat_cmp q k) w (find nat_cmp q (object_rows m.entries)))

    room_after : k < length after → ((q : ℕ) (o : model.Object V) → find nat_cmp q (object_rows m.entries) ≡ Some o → q < length after) → (q : ℕ) (o : model.Object V) → find nat_cmp q (object_rows n.entries) ≡ Some o → q < length after
    room_after here others q o is =
        elim (eq_by_cmp nat_cmp q k) as (λ b. eq_by_cmp nat_cmp q k ≡ b → cond b w (find nat_cmp q (object_rows m.entries)) ≡ Some o → q < length after) [
          | true ↦ λ tied _. let one = one_number q k tied in omega (arith, one, here)
          | false ↦ λ _ there. others q o there
        ] refl (sym (found q) ∙ is)

    kept_after : IsOrdered nat_cmp n → (most : ℕ) → made ≤ most → k ≤ most → most < 2 ^ 32 → k < length after → ((q : ℕ) (o : model.Object V) → find nat_cmp q (object_rows m.entries) ≡ Some o → q < length after) → IsKept n after most
    kept_after ordered most more within few here others = record {
      ordered = ordered;
      given = given_after most more within;
      few = few;
      marks_are = marks_after;
      room = room_after here others;
    }

  -- after an object that lives has changed or is gone, with its mark
  pub kept_turned : (k : ℕ) (w : Option (model.Object V)) → IsOrdered nat_cmp n → (was : model.Object V) → find nat_cmp k (object_rows m.entries) ≡ Some was
      → ((q : ℕ) → find nat_cmp q (object_rows n.entries) ≡ cond (eq_by_cmp nat_cmp q k) w (find nat_cmp q (object_rows m.entries)))
      → (after : List Bool) → after ≡ set marks k (is_marked w) → IsKept n after made
  kept_turned k w ordered was there found after turned =
      let within = kept.room k was there in
      let long : length after ≡ length marks = ap length turned ∙ length-set marks k (is_marked w) in
      kept_after k w found after (λ q. ap (λ flags. has flags q) turned ∙ flag_set marks k (is_marked w) q within)
      ordered made (omega arith) (was_given m marks made kept k was there) kept.few (omega (arith, within, long)) (λ q o is. let near = kept.room q o is in omega (arith, near, long))

  -- after an object that lives has changed, and its mark has not
  pub kept_unturned : (k : ℕ) (now : model.Object V) → IsOrdered nat_cmp n → (was : model.Object V) → find nat_cmp k (object_rows m.entries) ≡ Some was → now.may_go ≡ was.may_go
      → object_rows n.entries ≡ put nat_cmp k now (object_rows m.entries) → IsKept n marks made
  kept_unturned k now ordered was there same put_in =
      let mark : has marks k ≡ now.may_go = kept.marks_are k ∙ ap is_marked there ∙ sym same in
      kept_turned k (Some now) ordered was there (found_put k now (object_rows m.entries) (object_rows n.entries) put_in)
      marks (sym (ap (set marks k) (sym mark) ∙ set-get_or marks k false))

  -- after an object was made
  pub kept_made : made + 1 < 2 ^ 32 → (now : model.Object V) → IsOrdered nat_cmp n → now.may_go ≡ false → object_rows n.entries ≡ put nat_cmp (made + 1) now (object_rows m.entries)
      → (after : List Bool) → ((q : ℕ) → has after q ≡ has marks q) → made + 1 < length after → IsKept n after (made + 1)
  kept_made few now ordered unmarked put_in after same room =
      kept_after (made + 1) (Some now) (found_put (made + 1) now (object_rows m.entries) (object_rows n.entries) put_in) after
      (λ q. same q ∙ elim (eq_by_cmp nat_cmp q (made + 1)) as (λ b. eq_by_cmp nat_cmp q (made + 1) ≡ b → has marks q ≡ cond b now.may_go (has marks q)) [
        | true ↦ λ is. ap (has marks) (one_number q (made + 1) is) ∙ kept.marks_are (made + 1) ∙ ap is_marked (kept.given (made + 1) (omega arith)) ∙ sym unmarked
        | false ↦ λ _. refl
      ] refl)
      ordered (made + 1) (omega arith) (omega arith) few room (λ q o is. let low = was_given m marks made kept q o is in omega (arith, low, room))

-- an object that has a field lives
pub the_field : {V : Type 0} (o : Option (model.Object V)) (place : ℕ) → IsSomeAnd o (λ o. place < length o.fields) → (x : model.Object V) × (o ≡ Some x)
the_field (Some x) place h = (x, refl)
the_field None place h = absurd h

module _ {V : Type 0} (made : ℕ) (rows after : List (ℕ × model.Object V)) (objects : model.Objects V) (is : record { made = made; rows = rows } ≡ objects) where
  -- what is said of the fields of a store is said of the store
  pub found_outside : (k : ℕ) (o : Option (model.Object V)) → find nat_cmp k rows ≡ o → model.object k objects ≡ o
  found_outside k o found = sym (ap (model.object k) is) ∙ found

  pub found_inside : (k : ℕ) (o : Option (model.Object V)) → model.object k objects ≡ o → find nat_cmp k rows ≡ o
  found_inside k o found = ap (model.object k) is ∙ found

  pub made_outside : (behaviour : ℕ) (fields : List V) → after ≡ put nat_cmp (made + 1) (record { behaviour = behaviour; fields = fields; may_go = false }) rows → ◌≡◌ {A = model.Objects V} (record { made = made + 1; rows = after }) (model.made_one behaviour fields objects)
  made_outside behaviour fields put_in = (λ i. record { made = made + 1; rows = put_in i }) ∙ ap (model.made_one behaviour fields) is

  pub unmade_outside : after ≡ without nat_cmp made rows → ◌≡◌ {A = model.Objects V} (record { made = made - 1; rows = after }) (model.unmade objects)
  unmade_outside gone = (λ i. record { made = made - 1; rows = gone i }) ∙ ap model.unmade is

  -- one that was made and is taken back leaves all as it was
  pub back_outside : (o : model.Object V) → T (is_sorted nat_cmp rows) → find nat_cmp (made + 1) rows ≡ None → after ≡ put nat_cmp (made + 1) o rows
      → ◌≡◌ {A = model.Objects V} (model.unmade (record { made = made + 1; rows = after })) objects
  back_outside o rises none put_in =
      let less : (made + 1) - 1 ≡ made = omega arith in
      (λ i. record { made = less i; rows = without nat_cmp (made + 1) (put_in i) })
      ∙ (λ i. record { made = made; rows = without_put nat_cmp_total (made + 1) o rows i })
      ∙ (λ i. record { made = made; rows = gone_already rows rises (made + 1) none i })
      ∙ is

  pub rises_outside : T (is_sorted nat_cmp rows) → T (is_sorted nat_cmp objects.rows)
  rises_outside rises = subst (λ s. T (is_sorted nat_cmp s.rows)) is rises

  pub removed_outside : (k : ℕ) → after ≡ without nat_cmp k rows → ◌≡◌ {A = model.Objects V} (record { made = made; rows = after }) (model.removed k objects)
  removed_outside k gone = (λ i. record { made = made; rows = gone i }) ∙ ap (model.removed k) is

  pub lives_inside : (k : ℕ) → IsSome (model.object k objects) → IsSome (find nat_cmp k rows)
  lives_inside k there = subst (λ s. IsSome (model.object k s)) (sym is) there

  pub field_inside : (k place : ℕ) → IsSomeAnd (model.object k objects) (λ o. place < length o.fields) → IsSomeAnd (find nat_cmp k rows) (λ o. place < length o.fields)
  field_inside k place there = subst (λ s. IsSomeAnd (model.object k s) (λ o. place < length o.fields)) (sym is) there

-- whatever was answered, what holds holds where nothing is answered
pub at_none : {A P : Type 0} (o : Option A) → P → IfNone o P
at_none None p = p
at_none (Some x) p = tt

-- whatever was asked, what holds holds where nothing is answered
pub none_made : {A P : Type 0} (Q : Type 0) (o : Option A) → P → IfNone o (Q → P)
none_made Q None p = λ _. p
none_made Q (Some x) p = tt
