-- Of places that are met one after the other, the least.
use Rattle.std.proofs.Common.{◌≡◌, refl, sym, ap, subst, ◌∙◌, ℕ, zero, suc, ◌+◌, ◌<◌, ◌≤◌, Bool, true, false, List, [], ◌∷◌, length, drop, get_or, Option, None, Some, Contains, MatchOption, option_map, if◌then◌else◌, arith}
use Rattle.std.proofs.lemmas.Bool.Decides.{nat_tests}
use Rattle.std.proofs.lemmas.List.{drop_more, drop_all}
use Rattle.uno_model.proofs.Options.{same_some}
use Rattle.idl_model.specs.Places.{Place, IsLeast, is_before}
use Rattle.idl_places.specs.Places.{lesser, places_of}
use Rattle.idl_trees.specs.Names.{place_of}
use Rattle.idl_trees.specs.declared.place.Place as code

-- ---- the order of places

not_before_itself : (p : Place) → is_before p p ≡ false
not_before_itself p = grind (arith, nat_tests)

-- what does not come before one does not come before what is not behind it
not_before : (f g h : Place) → is_before f g ≡ false → is_before g h ≡ false → is_before f h ≡ false
not_before f g h one two = grind (arith, nat_tests)

-- nor does one behind what comes before nothing lesser
behind_too : (f g h : Place) → is_before f g ≡ true → is_before f h ≡ false → is_before g h ≡ false
behind_too f g h less one = grind (arith, nat_tests)

-- ---- the first of a list

unfoldable pub least_in : Option Place → List Place → Option Place
least_in least [] = least
least_in least (f ∷ fs) = least_in (Some (lesser least f)) fs

at_front : (f : Place) (fs : List Place) → Contains (f ∷ fs) f
at_front f fs = (0, omega arith, refl)

further : (f x : Place) (fs : List Place) → Contains fs x → Contains (f ∷ fs) x
further f x fs has = let low = has.1 in (suc has.0, omega (arith, low), has.2)

-- an element is the first one, or one of the others
by_place : (f x : Place) (fs : List Place) (P : Type 0) → (f ≡ x → P) → (Contains fs x → P) → Contains (f ∷ fs) x → P
by_place f x fs P front behind has = by_number has.0 has.1 has.2
  where
    by_number : (k : ℕ) → k < length (f ∷ fs) → get_or (f ∷ fs) k x ≡ x → P
    by_number zero low is = front is
    by_number (suc k) low is = behind (k, omega (arith, low), is)

-- what comes first where the lesser of two stands alone comes first where both stand
two_in_front : (g f h : Place) (fs : List Place) → IsLeast h (lesser (Some g) f ∷ fs) → IsLeast h (g ∷ f ∷ fs)
two_in_front g f h fs given = by_test (is_before f g) refl given
  where
    by_test : (b : Bool) → is_before f g ≡ b → IsLeast h ((if b then f else g) ∷ fs) → IsLeast h (g ∷ f ∷ fs)
    by_test true less is =
        record {
          one =
              by_place f h fs (Contains (g ∷ f ∷ fs) h) (λ same. further g h (f ∷ fs) (subst (λ (x : Place). Contains (f ∷ fs) x) same (at_front f fs)))
              (λ has. further g h (f ∷ fs) (further f h fs has)) is.one;
          first = λ other has.
              by_place g other (f ∷ fs) (is_before other h ≡ false)
              (λ same. subst (λ (x : Place). is_before x h ≡ false) same (behind_too f g h less (is.first f (at_front f fs)))) (λ behind. is.first other behind) has;
        }
    by_test false kept is =
        record {
          one =
              by_place g h fs (Contains (g ∷ f ∷ fs) h) (λ same. subst (λ (x : Place). Contains (g ∷ f ∷ fs) x) same (at_front g (f ∷ fs)))
              (λ has. further g h (f ∷ fs) (further f h fs has)) is.one;
          first = λ other has.
              by_place g other (f ∷ fs) (is_before other h ≡ false) (λ same. is.first other (subst (λ (x : Place). Contains (g ∷ fs) x) same (at_front g fs)))
              (λ behind.
              by_place f other fs (is_before other h ≡ false)
              (λ same. subst (λ (x : Place). is_before x h ≡ false) same (not_before f g h kept (is.first g (at_front g fs)))) (λ rest. is.first other (further g other fs rest)) behind) has;
        }

least_first : (g : Place) (fs : List Place) (h : Place) → least_in (Some g) fs ≡ Some h → IsLeast h (g ∷ fs)
unfolding least_in
least_first g [] h is =
    let same : g ≡ h = same_some is in
    record {
      one = subst (λ (x : Place). Contains (g ∷ []) x) same (at_front g []);
      first = λ other has.
          by_place g other [] (is_before other h ≡ false) (λ here. subst (λ (x : Place). is_before x h ≡ false) (sym same ∙ here) (not_before_itself h))
          (λ bad. let low = bad.1 in absurd (omega (arith, low))) has;
    }
least_first g (f ∷ fs) h is = two_in_front g f h fs (least_first (lesser (Some g) f) fs h is)

some_left : (g : Place) (fs : List Place) → None ≡ least_in (Some g) fs → ⊥
unfolding least_in
some_left g [] is = cc
some_left g (f ∷ fs) is = some_left (lesser (Some g) f) fs is

no_left : (h : Place) → Some h ≡ least_in None [] → ⊥
unfolding least_in
no_left h is = cc

pub first_is : (r : Option code.Place) (fs : List code.Place) → option_map place_of r ≡ least_in None (places_of fs) → MatchOption r (fs ≡ []) (λ f. IsLeast (place_of f) (places_of fs))
unfolding least_in
first_is None [] is = refl
first_is None (f ∷ fs) is = absurd (some_left (place_of f) (places_of fs) is)
first_is (Some r) [] is = absurd (no_left (place_of r) is)
first_is (Some r) (f ∷ fs) is = least_first (place_of f) (places_of fs) (place_of r) (sym is)

-- ---- one after the other

pub one_more_place : (fs : List code.Place) (i : ℕ) (d : code.Place) (least : Option code.Place) (next : code.Place) (whole : Option Place) → i < length fs
    → place_of next ≡ lesser (option_map place_of least) (place_of (get_or fs i d)) → least_in (option_map place_of least) (places_of (drop i fs)) ≡ whole
    → least_in (option_map place_of (Some next)) (places_of (drop (i + 1) fs)) ≡ whole
unfolding least_in
one_more_place fs i d least next whole low taken so_far =
    ap (λ (k : Place). least_in (Some k) (places_of (drop (i + 1) fs))) taken
    ∙ sym (ap (λ (k : List code.Place). least_in (option_map place_of least) (places_of k)) (drop_more fs i d low)) ∙ so_far

pub places_end : (fs : List code.Place) (i : ℕ) (least : Option code.Place) (whole : Option Place) → length fs ≤ i → least_in (option_map place_of least) (places_of (drop i fs)) ≡ whole
    → option_map place_of least ≡ whole
unfolding least_in
places_end fs i least whole past so_far = sym (ap (λ (k : List code.Place). least_in (option_map place_of least) (places_of k)) (drop_all i fs past)) ∙ so_far
