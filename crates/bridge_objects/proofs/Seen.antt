-- What is kept, as a store and its tables are seen.
use Rattle.std.proofs.Common.{◌≡◌, ℕ, suc, ◌+◌, ◌-◌, ◌≤◌, ◌<◌, ◌^◌, false, List, ◌++◌, map, Option, None, Some, IsSome, IfSome, IfNone, option_map, refl, sym, ap, ◌∙◌, subst, arith}
use Rattle.std.specs.Prelude.{T}
use Rattle.std.specs.Fmt.{decimal}
use Rattle.std.specs.FinMap.{is_sorted}
use Rattle.std.specs.Option.{unwrap_or}
use Rattle.std.specs.Ordering.{nat_cmp}
use Rattle.uno_model.specs.Values.{Plain}
use Rattle.table_model.specs.Holdings.{Holdings}
use Rattle.table_model.specs.Objects as model
use Rattle.table_model.specs.Stubs.{Stubs}
use Rattle.bridge_objects.specs.Kept.{Kept, numbered, named, lowest, number_of, behaviour_of, fields_of, with_made, unmade, with_object_fields, removed}
use Rattle.bridge_objects.specs.Marks.{free_at, AreMarked}
use Rattle.bridge_objects.specs.Objects.{objects_of}
use Rattle.bridge_objects.proofs.Lists.{numbered_as, numbered_none, numbered_fields, fields_put, no_fields, put_last, without_row, without_last, without_none, lowest_marked, the_one, named_row, named_none}

module _ {V : Type 0} (plain : V → Plain) (prefix : List ℕ) (first : ℕ) (holdings : Holdings) (stubs : Stubs) where
  -- what is kept of a store beside the rest
  abbrev pub seen : model.Objects V → Kept
  seen s = record { prefix = prefix; first = first; objects = objects_of plain s.rows; objects_made = s.made; holdings = holdings; stubs = stubs }

  module _ (s : model.Objects V) (k : Kept) (is : seen s ≡ k) where
    module _ (n : ℕ) where
      pub behaviour_seen : (r : ℕ) → option_map (λ o. o.behaviour) (model.object n s) ≡ Some r → behaviour_of (numbered n k) ≡ Some r
      behaviour_seen r found = ap (λ k. behaviour_of (numbered n k)) (sym is) ∙ numbered_as plain (λ o. o.behaviour) (λ o. o.behaviour) (λ row. refl) n s.rows ∙ found

      pub fields_seen : (xs : List V) → option_map (λ o. o.fields) (model.object n s) ≡ Some xs → fields_of (numbered n k) ≡ Some (map plain xs)
      fields_seen xs found = ap (λ k. fields_of (numbered n k)) (sym is) ∙ numbered_fields plain n s.rows (Some xs) found

      pub none_seen : model.object n s ≡ None → numbered n k ≡ None
      none_seen none = ap (numbered n) (sym is) ∙ numbered_none plain n s.rows none

      -- what an object gives back that gets other fields, or goes
      pub fields_back : (was : model.Object V) (xs : List V) (other : List Plain) → model.object n s ≡ Some was → xs ≡ was.fields → map plain xs ≡ unwrap_or (fields_of (numbered n k)) other
      fields_back was xs other found same =
          ap (map plain) same ∙ sym (ap (λ o. unwrap_or o other) (fields_seen was.fields (ap (option_map (λ o. o.fields)) found)))

      pub none_back : (other : List Plain) → model.object n s ≡ None → other ≡ unwrap_or (fields_of (numbered n k)) other
      none_back other none = sym (ap (λ o. unwrap_or (fields_of o) other) (none_seen none))

      -- ---- changes

      pub fields_same : (fields : List Plain) → model.object n s ≡ None → k ≡ with_object_fields n fields k
      fields_same fields none = subst (λ k. k ≡ with_object_fields n fields k) is (λ i. record { prefix = prefix; first = first; objects = sym (no_fields plain n fields s.rows none) i; objects_made = s.made; holdings = holdings; stubs = stubs })

      pub fields_set : (was : model.Object V) (xs : List V) (after : model.Objects V) → T (is_sorted nat_cmp s.rows) → model.object n s ≡ Some was
          → after ≡ model.changed n (record was { fields = xs }) s → seen after ≡ with_object_fields n (map plain xs) k
      fields_set was xs after rises found set =
          ap seen set
          ∙ (λ i. record { prefix = prefix; first = first; objects = fields_put plain n was (record was { fields = xs }) s.rows rises found refl i; objects_made = s.made; holdings = holdings; stubs = stubs })
          ∙ ap (with_object_fields n (map plain xs)) is

      pub removed_same : model.object n s ≡ None → k ≡ removed n k
      removed_same none = subst (λ k. k ≡ removed n k) is (λ i. record { prefix = prefix; first = first; objects = sym (without_none plain n s.rows none) i; objects_made = s.made; holdings = holdings; stubs = stubs })

      pub removed_seen : (after : model.Objects V) → after ≡ model.removed n s → seen after ≡ removed n k
      removed_seen after gone =
          ap seen gone
          ∙ (λ i. record { prefix = prefix; first = first; objects = without_row plain n s.rows i; objects_made = s.made; holdings = holdings; stubs = stubs })
          ∙ ap (removed n) is

    pub unmade_seen : (after : model.Objects V) → after ≡ model.unmade s → seen after ≡ unmade k
    unmade_seen after back =
        ap seen back
        ∙ (λ i. record { prefix = prefix; first = first; objects = without_row plain s.made s.rows i; objects_made = s.made - 1; holdings = holdings; stubs = stubs })
        ∙ ap unmade is

    -- the next object
    pub made_seen : (behaviour : ℕ) (xs : List V) (after marked : model.Objects V) → ((n : ℕ) → s.made < n → model.object n s ≡ None) → after ≡ model.made_one behaviour xs s
        → objects_of plain marked.rows ≡ objects_of plain after.rows → marked.made ≡ after.made → seen marked ≡ with_made behaviour (map plain xs) k
    made_seen behaviour xs after marked given made objects number =
        let next : s.made + 1 ≡ suc s.made = omega arith in
        (λ i. record { prefix = prefix; first = first; objects = objects i; objects_made = number i; holdings = holdings; stubs = stubs })
        ∙ ap seen made
        ∙ (λ i. record { prefix = prefix; first = first; objects = put_last plain s.made (record { behaviour = behaviour; fields = xs; may_go = false }) s.rows given i; objects_made = next i; holdings = holdings; stubs = stubs })
        ∙ ap (with_made behaviour (map plain xs)) is

    -- and back
    pub back_seen : (behaviour : ℕ) (fields : List Plain) → ((n : ℕ) → s.made < n → model.object n s ≡ None) → unmade (with_made behaviour fields k) ≡ k
    back_seen behaviour fields given =
        let next : suc s.made - 1 ≡ s.made = omega arith in
        let above : s.made < suc s.made = omega arith in
        subst (λ k. unmade (with_made behaviour fields k) ≡ k) is
        (λ i. record { prefix = prefix; first = first; objects = without_last plain (suc s.made) (record { number = suc s.made; behaviour = behaviour; fields = fields }) s.rows refl (given (suc s.made) above) i; objects_made = next i; holdings = holdings; stubs = stubs })

    -- the lowest object that may go
    pub lowest_seen : T (is_sorted nat_cmp s.rows) → AreMarked (free_at prefix first holdings stubs) s.rows → model.lowest s.rows ≡ number_of (lowest k)
    unfolding lowest
    lowest_seen rises marked = lowest_marked plain (free_at prefix first holdings stubs) s.rows rises marked ∙ ap (λ k. number_of (lowest k)) is

    -- the object of an identity
    pub named_seen : (oid : List ℕ) (r : Option ℕ) → IfSome r (λ n. oid ≡ prefix ++ decimal n) → IfSome r (λ n. IsSome (model.object n s)) → ((n : ℕ) → 2 ^ 32 ≤ n → model.object n s ≡ None)
        → IfNone r ((n : ℕ) → oid ≡ prefix ++ decimal n → model.object n s ≡ None) → r ≡ number_of (named oid k)
    unfolding named
    named_seen oid None here lives few none = sym (named_none plain prefix oid s.rows none) ∙ ap (λ k. number_of (named oid k)) is
    named_seen oid (Some n) here lives few none =
        let one = the_one (model.object n s) lives in
        sym (named_row plain prefix oid n one.0 here s.rows few one.1) ∙ ap (λ k. number_of (named oid k)) is
