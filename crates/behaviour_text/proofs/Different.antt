-- Names that are looked up, from the last to the first, among those behind them.
use Rattle.std.proofs.Common.{◌≡◌, ℕ, ◌-◌, ◌<◌, ◌≤◌, zero, suc, List, [], ◌∷◌, Bool, true, false, not, refl}
use Rattle.std.proofs.Common.{length, drop, ap, ◌∙◌, arith, get_or, drop-cons, Bor, Ordering}
use Rattle.std.specs.List.{list_any}
use Rattle.std.specs.BTreeSet.{BTreeSet, contains_by, contains, IsEmpty, Updates}
use Rattle.std.specs.BTreeMap.{is_at}
use Rattle.std.proofs.Math.Seq.{drop-length}
use Rattle.std.specs.Ordering.{nat_cmp}
use Rattle.std.specs.Cmp.Lexicographic.{slice_cmp}
use Rattle.std.specs.Str.{bytes_eq}
use Rattle.std.proofs.lemmas.Cmp.{nat_list_eq_equiv}
use Rattle.std.proofs.lemmas.Map.Text.{is_eq-slice_cmp}
use Rattle.uno_model.specs.Sound.{all_differ}

-- the order of the set's keys
abbrev pub by_text : Bor (List ℕ) → Bor (List ℕ) → Ordering
by_text x y = slice_cmp nat_cmp x.now y.now

-- the set has just these names
abbrev pub Has : BTreeSet (Bor (List ℕ)) → List (List ℕ) → Type 0
Has set names = (q : Bor (List ℕ)) → contains_by (by_text q) set ≡ list_any (bytes_eq q.now) names

-- the names from one place on differ, and the set has just them
pub record Differ (set : BTreeSet (Bor (List ℕ))) (items : List (List ℕ)) (left : ℕ) : Type 0 where
  pub within : left ≤ length items
  pub has : Has set (drop left items)
  pub differ : all_differ (drop left items) ≡ true

-- before the first look-up
pub none_differ : (set : BTreeSet (Bor (List ℕ))) (items : List (List ℕ)) → IsEmpty set → Differ set items (length items)
unfolding all_differ
none_differ set items empty = record {
  within = omega arith;
  has = λ q. rw (drop-length items) (ap (list_any (is_at (by_text q))) empty);
  differ = rw (drop-length items) refl;
}

-- the names from one place on: the one there, and those behind it
names_from : (items : List (List ℕ)) (left : ℕ) (d : List ℕ) (name : List ℕ) → 0 < left → left ≤ length items → name ≡ get_or items (left - 1) d
    → drop (left - 1) items ≡ name ∷ drop left items
names_from items left d name some within named =
    let next : suc (left - 1) ≡ left = omega arith in
    let cut = rw next at (drop-cons items (left - 1) d (omega arith)) in
    rw named cut

-- with one name more they differ just where the set has not got it
pub first_differs : (set : BTreeSet (Bor (List ℕ))) (items : List (List ℕ)) (left : ℕ) (d : List ℕ) (name : Bor (List ℕ)) (is_new : Bool) → Differ set items left → 0 < left
    → name.now ≡ get_or items (left - 1) d → is_new ≡ not (contains by_text set name) → all_differ (drop (left - 1) items) ≡ is_new
unfolding all_differ
first_differs set items left d name is_new old some named added =
    let found = old.has name in
    let differ = old.differ in
    rw (names_from items left d name.now some old.within named) (grind (arith, found, differ))

-- the set with one name more
has_more : (old new : BTreeSet (Bor (List ℕ))) (name : Bor (List ℕ)) (names : List (List ℕ)) → Updates by_text old new name true → Has old names → Has new (name.now ∷ names)
has_more old new name names updates has q =
    let same = is_eq-slice_cmp name.now q.now ∙ nat_list_eq_equiv.symm name.now q.now in
    updates.0 q ∙ grind (arith, same, has q)

pub one_more : (set new : BTreeSet (Bor (List ℕ))) (items : List (List ℕ)) (left : ℕ) (d : List ℕ) (name : Bor (List ℕ)) → Differ set items left → 0 < left
    → name.now ≡ get_or items (left - 1) d → Updates by_text set new name true → all_differ (drop (left - 1) items) ≡ true → Differ new items (left - 1)
one_more set new items left d name old some named updates differ =
    let within = old.within in
    record {
      within = omega arith;
      has = rw (names_from items left d name.now some within named) (has_more set new name (drop left items) updates old.has);
      differ = differ;
    }

-- names that do not differ from one place on do not differ
pub differ_behind : (items : List (List ℕ)) (n : ℕ) → all_differ (drop n items) ≡ false → all_differ items ≡ false
unfolding all_differ
differ_behind items zero e = e
differ_behind [] (suc n) e = e
differ_behind (item ∷ items) (suc n) e = let rest : all_differ items ≡ false = differ_behind items n e in grind (arith, rest)
