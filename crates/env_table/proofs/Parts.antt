-- The occurrences of rows with a holder each, and of rows of which those of an OID go.
use Rattle.std.proofs.Common.{◌≡◌, ℕ, ◌<◌, Bool, true, false, cond, not, ◌&&◌, ◌||◌, List, [], ◌∷◌, ◌++◌, length, Option, None, Some, IfSome, refl, sym, ap, ◌∙◌, subst, arith}
use Rattle.std.proofs.lemmas.List.Elements.{filter-append}
use Rattle.std.proofs.lemmas.List.Folds.{list_any-append}
use Rattle.std.specs.Prelude.{T}
use Rattle.std.specs.FinMap.{find, put, is_sorted}
use Rattle.std.specs.List.{filter, list_any}
use Rattle.std.specs.Str.{bytes_eq}
use Rattle.table_model.specs.Bags.{bag_of, one_more}
use Rattle.table_model.specs.Holdings.{Hold, hold_cmp, holder_cmp, without_holds}
use Rattle.table_model.specs.Pair.{Pair, pair_cmp, without_oid}
use Rattle.table_model.specs.declared.holder.Holder.{Holder}
use Rattle.table_model.proofs.BagLaws.{any_bag_of, bag_filter, fewer_left, length_one_more}
use Rattle.table_model.proofs.HoldLaws.{hold_order, same_hold}
use Rattle.table_model.proofs.PairLaws.{pair_order, same_pair, other_oids}
use Rattle.table_model.proofs.RowLaws.{all_put, all_where, all_without, first_found, rest_found}
use Rattle.env_table.specs.Holders.{occurrences, all_occurrences, holders_at, with_holders}

-- each pair that has a row has a holder
abbrev pub AreHeld : List (Pair × List Holder) → Type 0
AreHeld rows = (p : Pair) → IfSome (find pair_cmp p rows) (λ holders. 0 < length holders)

second : (a b : Bool) → T (a && b) → T b
second true b p = p
second false b p = absurd p

or_false : (a : Bool) → (a || false) ≡ a
or_false true = refl
or_false false = refl

or_same : (a : Bool) → (a || a) ≡ a
or_same true = refl
or_same false = refl

any_of_row : (oid : List ℕ) (p : Pair) (hs : List Holder) → 0 < length hs → list_any (λ h. bytes_eq oid h.pair.oid) (occurrences p hs) ≡ bytes_eq oid p.oid
any_of_row oid p [] some = absurd (omega arith)
any_of_row oid p (h ∷ []) some = or_false (bytes_eq oid p.oid)
any_of_row oid p (h ∷ k ∷ hs) some = ap (λ b. bytes_eq oid p.oid || b) (any_of_row oid p (k ∷ hs) (omega arith)) ∙ or_same (bytes_eq oid p.oid)

-- an OID has a row where it has an occurrence
pub any_occurs : (oid : List ℕ) (rows : List (Pair × List Holder)) → T (is_sorted pair_cmp rows) → AreHeld rows
    → list_any (λ h. bytes_eq oid h.pair.oid) (all_occurrences rows) ≡ list_any (λ row. bytes_eq oid row.0.oid) rows
any_occurs oid [] rises held = refl
any_occurs oid (row ∷ rows) rises held =
    list_any-append (λ h. bytes_eq oid h.pair.oid) (occurrences row.0 row.1) (all_occurrences rows)
    ∙ (λ i. any_of_row oid row.0 row.1 (first_found pair_order (λ p hs. 0 < length hs) row rows held) i
    || any_occurs oid rows (second _ _ rises) (rest_found pair_order (λ p hs. 0 < length hs) row rows held same_pair rises) i)

none_of_row : (oid : List ℕ) (p : Pair) (hs : List Holder) (b : Bool) → bytes_eq oid p.oid ≡ b
    → filter (λ h. not (bytes_eq oid h.pair.oid)) (occurrences p hs) ≡ cond (not b) (occurrences p hs) []
none_of_row oid p [] true is = refl
none_of_row oid p [] false is = refl
none_of_row oid p (h ∷ hs) true is =
    ap (λ b. cond (not b) (record { holder = h; pair = p } ∷ filter (λ h. not (bytes_eq oid h.pair.oid)) (occurrences p hs)) (filter (λ h. not (bytes_eq oid h.pair.oid)) (occurrences p hs))) is
    ∙ none_of_row oid p hs true is
none_of_row oid p (h ∷ hs) false is =
    ap (λ b. cond (not b) (record { holder = h; pair = p } ∷ filter (λ h. not (bytes_eq oid h.pair.oid)) (occurrences p hs)) (filter (λ h. not (bytes_eq oid h.pair.oid)) (occurrences p hs))) is
    ∙ ap (λ hs. record { holder = h; pair = p } ∷ hs) (none_of_row oid p hs false is)

-- rows without those of an OID have the occurrences without those of it
occurs_without : (oid : List ℕ) (rows : List (Pair × List Holder)) → all_occurrences (without_oid oid rows) ≡ without_holds oid (all_occurrences rows)
occurs_without oid [] = refl
occurs_without oid (row ∷ rows) =
    elim (bytes_eq oid row.0.oid) as (λ b. bytes_eq oid row.0.oid ≡ b
    → all_occurrences (cond (not b) (row ∷ without_oid oid rows) (without_oid oid rows)) ≡ filter (λ h. not (bytes_eq oid h.pair.oid)) (occurrences row.0 row.1) ++ without_holds oid (all_occurrences rows)) [
      | true ↦ λ is. occurs_without oid rows ∙ ap (λ hs. hs ++ without_holds oid (all_occurrences rows)) (sym (none_of_row oid row.0 row.1 true is))
      | false ↦ λ is.
          ap (λ rest. occurrences row.0 row.1 ++ rest) (occurs_without oid rows)
          ∙ ap (λ hs. hs ++ without_holds oid (all_occurrences rows)) (sym (none_of_row oid row.0 row.1 false is))
    ] refl
    ∙ sym (filter-append (λ h. not (bytes_eq oid h.pair.oid)) (occurrences row.0 row.1) (all_occurrences rows))

module _ (rows after : List (Pair × List Holder)) (holdings : List Hold) (is : bag_of hold_cmp (all_occurrences rows) ≡ holdings) where
  -- whether an OID has a row is whether it is held
  pub any_held : (oid : List ℕ) (b : Bool) → T (is_sorted pair_cmp rows) → AreHeld rows → b ≡ list_any (λ row. bytes_eq oid row.0.oid) rows → b ≡ list_any (λ h. bytes_eq oid h.pair.oid) holdings
  any_held oid b rises held e =
      e ∙ sym (any_occurs oid rows rises held) ∙ sym (any_bag_of hold_cmp (λ h. bytes_eq oid h.pair.oid) (all_occurrences rows)) ∙ ap (list_any (λ h. bytes_eq oid h.pair.oid)) is

  module _ (oid : List ℕ) (gone : after ≡ without_oid oid rows) where
    -- the rows of an OID go with what is held of it
    pub bag_without : bag_of hold_cmp (all_occurrences after) ≡ without_holds oid holdings
    bag_without =
        ap (λ rows. bag_of hold_cmp (all_occurrences rows)) gone ∙ ap (bag_of hold_cmp) (occurs_without oid rows)
        ∙ bag_filter hold_order same_hold (λ h. not (bytes_eq oid h.pair.oid)) (all_occurrences rows) ∙ ap (without_holds oid) is

    -- and then less is held
    pub fewer_held : T (is_sorted pair_cmp rows) → AreHeld rows → list_any (λ row. bytes_eq oid row.0.oid) rows ≡ true → length (bag_of hold_cmp (all_occurrences after)) < length holdings
    fewer_held rises held there =
        subst (λ hs. length hs < length holdings) (sym bag_without)
        (fewer_left (λ h. bytes_eq oid h.pair.oid) holdings (sym (any_held oid true rises held (sym there))))

    pub held_without : AreHeld rows → AreHeld after
    held_without held = subst AreHeld (sym gone) (all_where pair_order (λ holders. 0 < length holders) (record { oid = oid; face = [] }) rows held (λ p. not (bytes_eq oid p.oid)) (other_oids oid))

  -- wherever rows of an OID go, less is held
  pub fewer_some : (o : Option (List ℕ)) → T (is_sorted pair_cmp rows) → AreHeld rows → IfSome o (λ oid. after ≡ without_oid oid rows) → IfSome o (λ oid. list_any (λ row. bytes_eq oid row.0.oid) rows ≡ true)
      → IfSome o (λ oid. length (bag_of hold_cmp (all_occurrences after)) < length holdings)
  fewer_some None rises held gone there = tt
  fewer_some (Some oid) rises held gone there = fewer_held oid gone rises held there

-- where no row is there, nothing is held
pub none_held : (rows : List (Pair × List Holder)) (holdings : List Hold) → bag_of hold_cmp (all_occurrences rows) ≡ holdings → rows ≡ [] → holdings ≡ []
none_held rows holdings is none = sym is ∙ ap (λ rows. bag_of hold_cmp (all_occurrences rows)) none

pub none_are_held : (rows : List (Pair × List Holder)) → rows ≡ [] → AreHeld rows
none_are_held rows none p = subst (λ rows. IfSome (find pair_cmp p rows) (λ holders. 0 < length holders)) (sym none) tt

module _ (k : Holder) (p : Pair) (rows after : List (Pair × List Holder)) (held : AreHeld rows) where
  -- each pair has a holder after one is counted more
  pub held_more : after ≡ put pair_cmp p (one_more holder_cmp k (holders_at p rows)) rows → AreHeld after
  held_more is =
      let longer = length_one_more holder_cmp k (holders_at p rows) in
      subst AreHeld (sym is) (all_put pair_order (λ holders. 0 < length holders) p rows held (one_more holder_cmp k (holders_at p rows)) (omega (arith, longer)))

  -- and less
  pub held_less : (hs : List Holder) → after ≡ with_holders p hs rows → AreHeld after
  held_less [] is = subst AreHeld (sym is) (all_without pair_order (λ holders. 0 < length holders) p rows held)
  held_less (h ∷ hs) is = subst AreHeld (sym is) (all_put pair_order (λ holders. 0 < length holders) p rows held (h ∷ hs) (omega arith))
