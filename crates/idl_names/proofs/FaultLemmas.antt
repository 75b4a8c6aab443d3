-- Of faults that are met one after the other, the one that comes first.
use Rattle.std.proofs.Common.{◌≡◌, refl, sym, ap, subst, ◌∙◌, ℕ, zero, suc, ◌+◌, ◌<◌, ◌≤◌, Bool, true, false, List, [], ◌∷◌, length, drop, get_or, Option, None, Some, Contains, MatchOption, option_map, if◌then◌else◌, arith}
use Rattle.std.proofs.lemmas.Bool.Decides.{nat_tests}
use Rattle.std.proofs.lemmas.List.{drop_more, drop_all}
use Rattle.uno_model.proofs.Options.{same_some}
use Rattle.idl_meaning_model.specs.NameFaults.{NameFault}
use Rattle.idl_model.specs.Places.{Place, is_before}
use Rattle.idl_names.specs.Faults.{ComesFirst, all_faults_of, earlier, fault_of}
use Rattle.idl_names.specs.declared.fault.Fault.{Fault}

abbrev Plain : Type 0
Plain = Place × NameFault

-- ---- the order of places

not_before_itself : (p : Place) → is_before p p ≡ false
not_before_itself p = grind (arith, nat_tests)

-- what does not come before one does not come before what is not behind it
not_before : (f g h : Place) → is_before f g ≡ false → is_before g h ≡ false → is_before f h ≡ false
not_before f g h one two = grind (arith, nat_tests)

-- nor does one behind what comes before nothing earlier
behind_too : (f g h : Place) → is_before f g ≡ true → is_before f h ≡ false → is_before g h ≡ false
behind_too f g h less one = grind (arith, nat_tests)

-- ---- the first of a list

unfoldable pub least_in : Option Plain → List Plain → Option Plain
least_in least [] = least
least_in least (f ∷ fs) = least_in (Some (earlier least f)) fs

at_front : (f : Plain) (fs : List Plain) → Contains (f ∷ fs) f
at_front f fs = (0, omega arith, refl)

further : (f x : Plain) (fs : List Plain) → Contains fs x → Contains (f ∷ fs) x
further f x fs has = let low = has.1 in (suc has.0, omega (arith, low), has.2)

-- an element is the first one, or one of the others
by_place : (f x : Plain) (fs : List Plain) (P : Type 0) → (f ≡ x → P) → (Contains fs x → P) → Contains (f ∷ fs) x → P
by_place f x fs P front behind has = by_number has.0 has.1 has.2
  where
    by_number : (k : ℕ) → k < length (f ∷ fs) → get_or (f ∷ fs) k x ≡ x → P
    by_number zero low is = front is
    by_number (suc k) low is = behind (k, omega (arith, low), is)

-- what comes first where the earlier of two stands alone comes first where both stand
two_in_front : (g f h : Plain) (fs : List Plain) → ComesFirst (earlier (Some g) f ∷ fs) h → ComesFirst (g ∷ f ∷ fs) h
two_in_front g f h fs given = by_test (is_before f.0 g.0) refl given
  where
    by_test : (b : Bool) → is_before f.0 g.0 ≡ b → ComesFirst ((if b then f else g) ∷ fs) h → ComesFirst (g ∷ f ∷ fs) h
    by_test true less is =
        record {
          one =
              by_place f h fs (Contains (g ∷ f ∷ fs) h) (λ same. further g h (f ∷ fs) (subst (λ (x : Plain). Contains (f ∷ fs) x) same (at_front f fs)))
              (λ has. further g h (f ∷ fs) (further f h fs has)) is.one;
          first = λ other has.
              by_place g other (f ∷ fs) (is_before other.0 h.0 ≡ false)
              (λ same. subst (λ (x : Plain). is_before x.0 h.0 ≡ false) same (behind_too f.0 g.0 h.0 less (is.first f (at_front f fs)))) (λ behind. is.first other behind) has;
        }
    by_test false kept is =
        record {
          one =
              by_place g h fs (Contains (g ∷ f ∷ fs) h) (λ same. subst (λ (x : Plain). Contains (g ∷ f ∷ fs) x) same (at_front g (f ∷ fs)))
              (λ has. further g h (f ∷ fs) (further f h fs has)) is.one;
          first = λ other has.
              by_place g other (f ∷ fs) (is_before other.0 h.0 ≡ false) (λ same. is.first other (subst (λ (x : Plain). Contains (g ∷ fs) x) same (at_front g fs)))
              (λ behind.
              by_place f other fs (is_before other.0 h.0 ≡ false)
              (λ same. subst (λ (x : Plain). is_before x.0 h.0 ≡ false) same (not_before f.0 g.0 h.0 kept (is.first g (at_front g fs)))) (λ rest. is.first other (further g other fs rest)) behind) has;
        }

least_first : (g : Plain) (fs : List Plain) (h : Plain) → least_in (Some g) fs ≡ Some h → ComesFirst (g ∷ fs) h
unfolding least_in
least_first g [] h is =
    let same : g ≡ h = same_some is in
    record {
      one = subst (λ (x : Plain). Contains (g ∷ []) x) same (at_front g []);
      first = λ other has.
          by_place g other [] (is_before other.0 h.0 ≡ false) (λ here. subst (λ (x : Plain). is_before x.0 h.0 ≡ false) (sym same ∙ here) (not_before_itself h.0))
          (λ bad. let low = bad.1 in absurd (omega (arith, low))) has;
    }
least_first g (f ∷ fs) h is = two_in_front g f h fs (least_first (earlier (Some g) f) fs h is)

some_left : (g : Plain) (fs : List Plain) → None ≡ least_in (Some g) fs → ⊥
unfolding least_in
some_left g [] is = cc
some_left g (f ∷ fs) is = some_left (earlier (Some g) f) fs is

no_left : (h : Plain) → Some h ≡ least_in None [] → ⊥
unfolding least_in
no_left h is = cc

pub first_is : (r : Option Fault) (fs : List Fault) → option_map fault_of r ≡ least_in None (all_faults_of fs) → MatchOption r (fs ≡ []) (λ f. ComesFirst (all_faults_of fs) (fault_of f))
unfolding least_in
first_is None [] is = refl
first_is None (f ∷ fs) is = absurd (some_left (fault_of f) (all_faults_of fs) is)
first_is (Some r) [] is = absurd (no_left (fault_of r) is)
first_is (Some r) (f ∷ fs) is = least_first (fault_of f) (all_faults_of fs) (fault_of r) (sym is)

-- ---- one after the other

pub one_more_fault : (fs : List Fault) (i : ℕ) (d : Fault) (least : Option Fault) (next : Fault) (whole : Option Plain) → i < length fs
    → fault_of next ≡ earlier (option_map fault_of least) (fault_of (get_or fs i d)) → least_in (option_map fault_of least) (all_faults_of (drop i fs)) ≡ whole
    → least_in (option_map fault_of (Some next)) (all_faults_of (drop (i + 1) fs)) ≡ whole
unfolding least_in
one_more_fault fs i d least next whole low taken so_far =
    ap (λ (k : Plain). least_in (Some k) (all_faults_of (drop (i + 1) fs))) taken
    ∙ sym (ap (λ (k : List Fault). least_in (option_map fault_of least) (all_faults_of k)) (drop_more fs i d low)) ∙ so_far

pub faults_end : (fs : List Fault) (i : ℕ) (least : Option Fault) (whole : Option Plain) → length fs ≤ i → least_in (option_map fault_of least) (all_faults_of (drop i fs)) ≡ whole
    → option_map fault_of least ≡ whole
unfolding least_in
faults_end fs i least whole past so_far = sym (ap (λ (k : List Fault). least_in (option_map fault_of least) (all_faults_of k)) (drop_all i fs past)) ∙ so_far
