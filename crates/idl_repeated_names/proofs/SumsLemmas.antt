-- What is known of places of which some are missing.
use Rattle.std.proofs.Common.{◌≡◌, refl, sym, ap, subst, ◌∙◌, Bool, true, false, ◌||◌, List, [], ◌∷◌, ◌++◌, map, append-nil, Option, None, Some, unwrap_or, option_map, Contains, inl, inr, if◌then◌else◌, arith}
use Rattle.std.proofs.lemmas.Bool.Decides.{nat_tests}
use Rattle.std.proofs.lemmas.List.Elements.{Contains-append_cases, Contains-append_left, Contains-append_right}
use Rattle.std.specs.Option.{option_or}
use Rattle.idl_joint_places.specs.Circles.{FindsLeast}
use Rattle.idl_model.specs.Places.{Place, IsLeast, is_before}
use Rattle.idl_repeated_names.specs.Sums.{Summary, Sums, has_any, is_there, joined, least_both, lesser, nothing, of_one, own_with, second_with, summary_of}
use Rattle.idl_repeated_names.specs.Tables.{IsWithin}
use Rattle.idl_repeated_names.specs.declared.least.Least.{Least}
use Rattle.idl_trees.specs.Names.{place_of}
use Rattle.idl_trees.specs.declared.place.Place as code
use Rattle.uno_model.proofs.PlaceLaws.{contains_behind, contains_cases, contains_head}

-- ---- which of two places comes first

not_itself : (p : Place) → is_before p p ≡ false
not_itself p = grind (arith, nat_tests)

not_before : (p q r : Place) → is_before p q ≡ false → is_before q r ≡ false → is_before p r ≡ false
not_before p q r one two = grind (arith, nat_tests)

not_behind : (p q : Place) → is_before p q ≡ true → is_before q p ≡ false
not_behind p q is = grind (arith, nat_tests)

-- ---- what is in lists

none_in : {X : Type 0} (x : X) → Contains [] x → ⊥
none_in x has = omega (arith, has.1)

only_one : {X : Type 0} (x y : X) → Contains (x ∷ []) y → x ≡ y
only_one x y has = elim (contains_cases x [] y has) [ inl is ↦ is | inr there ↦ absurd (none_in y there) ]

no_members : {X : Type 0} (xs : List X) → ((x : X) → Contains xs x → ⊥) → xs ≡ []
no_members [] no_one = refl
no_members (x ∷ xs) no_one = absurd (no_one x (contains_head x xs))

map_has : {X Y : Type 0} (f : X → Y) (xs : List X) (x : X) → Contains xs x → Contains (map f xs) (f x)
map_has f [] x has = absurd (none_in x has)
map_has f (z ∷ zs) x has = elim (contains_cases z zs x has) [
  | inl is ↦ subst (λ k. Contains (f z ∷ map f zs) (f k)) is (contains_head (f z) (map f zs))
  | inr there ↦ contains_behind (f z) (map f zs) (f x) (map_has f zs x there)
]

map_had : {X Y : Type 0} (f : X → Y) (xs : List X) (y : Y) → Contains (map f xs) y → (x : X) × Contains xs x × (f x ≡ y)
map_had f [] y has = absurd (none_in y has)
map_had f (z ∷ zs) y has = elim (contains_cases (f z) (map f zs) y has) [
  | inl is ↦ (z, contains_head z zs, is)
  | inr there ↦ let rest = map_had f zs y there in (rest.0, contains_behind z zs rest.0 rest.1, rest.2)
]

none_some : {X : Type 0} (x : X) → None ≡ Some x → ⊥
none_some x is = cc

not_both : (b : Bool) → b ≡ true → b ≡ false → ⊥
not_both b one other = cc

same_some : {X : Type 0} (x y : X) → Some x ≡ Some y → x ≡ y
same_some x y is = cc

-- ---- of none, of one, and of two lists

pub sums_none : Sums [] nothing
sums_none =
    record {
      one = λ p is. absurd (none_some p is);
      first = λ q has. absurd (none_in (Some q) has);
      missing = λ is. absurd (not_both false is refl);
      bare = λ has. absurd (none_in None has);
    }

pub sums_one : (o : Option Place) → Sums (o ∷ []) (of_one o)
sums_one None =
    record {
      one = λ p is. absurd (none_some p is);
      first = λ q has. absurd (none_some q (only_one None (Some q) has));
      missing = λ is. contains_head None [];
      bare = λ has. refl;
    }
sums_one (Some p) =
    record {
      one = λ q is. subst (Contains (Some p ∷ [])) is (contains_head (Some p) []);
      first = λ q has. (p, refl, subst (λ (r : Place). is_before r p ≡ false) (same_some p q (only_one (Some p) (Some q) has)) (not_itself p));
      missing = λ is. absurd (not_both false is refl);
      bare = λ has. absurd (none_some p (sym (only_one (Some p) None has)));
    }

one_both : (ss ts : List (Option Place)) (a b : Option Place) → ((p : Place) → a ≡ Some p → Contains ss (Some p)) → ((p : Place) → b ≡ Some p → Contains ts (Some p))
    → (p : Place) → least_both a b ≡ Some p → Contains (ss ++ ts) (Some p)
one_both ss ts a None one other p is = Contains-append_left ss ts (Some p) (one p is)
one_both ss ts None (Some q) one other p is = Contains-append_right ss ts (Some p) (other p is)
one_both ss ts (Some r) (Some q) one other p is = by_test (is_before q r) is
  where
    by_test : (b : Bool) → Some (if b then q else r) ≡ Some p → Contains (ss ++ ts) (Some p)
    by_test true same = Contains-append_right ss ts (Some p) (other p same)
    by_test false same = Contains-append_left ss ts (Some p) (one p same)

below_left : (a b : Option Place) (p q : Place) → a ≡ Some p → is_before q p ≡ false → (r : Place) × (least_both a b ≡ Some r) × (is_before q r ≡ false)
below_left a None p q is first = (p, is, first)
below_left None (Some r) p q is first = absurd (none_some p is)
below_left (Some s) (Some r) p q is first = by_test (is_before r s) refl
  where
    before : is_before q s ≡ false
    before = subst (λ (k : Place). is_before q k ≡ false) (sym (same_some s p is)) first

    by_test : (b : Bool) → is_before r s ≡ b → (k : Place) × (Some (if b then r else s) ≡ Some k) × (is_before q k ≡ false)
    by_test true less = (r, refl, not_before q s r before (not_behind r s less))
    by_test false kept = (s, refl, before)

below_right : (a b : Option Place) (p q : Place) → b ≡ Some p → is_before q p ≡ false → (r : Place) × (least_both a b ≡ Some r) × (is_before q r ≡ false)
below_right a None p q is first = absurd (none_some p is)
below_right None (Some r) p q is first = (p, is, first)
below_right (Some s) (Some r) p q is first = by_test (is_before r s) refl
  where
    before : is_before q r ≡ false
    before = subst (λ (k : Place). is_before q k ≡ false) (sym (same_some r p is)) first

    by_test : (b : Bool) → is_before r s ≡ b → (k : Place) × (Some (if b then r else s) ≡ Some k) × (is_before q k ≡ false)
    by_test true less = (r, refl, before)
    by_test false kept = (s, refl, not_before q r s before kept)

either : {X : Type 0} (a b : Bool) → (a ≡ true → X) → (b ≡ true → X) → (a || b) ≡ true → X
either true b one other is = one refl
either false b one other is = other is

or_left : (a b : Bool) → a ≡ true → (a || b) ≡ true
or_left true b is = refl
or_left false b is = absurd (not_both false is refl)

or_right : (a b : Bool) → b ≡ true → (a || b) ≡ true
or_right true b is = refl
or_right false b is = is

pub sums_both : (ss ts : List (Option Place)) (s t : Summary) → Sums ss s → Sums ts t → Sums (ss ++ ts) (joined s t)
sums_both ss ts s t these those =
    record {
      one = one_both ss ts s.place t.place these.one those.one;
      first = λ q has.
          elim (Contains-append_cases ss ts (Some q) has) [
            | inl here ↦ let is = these.first q here in below_left s.place t.place is.0 q is.1 is.2
            | inr there ↦ let is = those.first q there in below_right s.place t.place is.0 q is.1 is.2
          ];
      missing = either s.bare t.bare (λ is. Contains-append_left ss ts None (these.missing is)) (λ is. Contains-append_right ss ts None (those.missing is));
      bare = λ has.
          elim (Contains-append_cases ss ts None has) [
            | inl here ↦ or_left s.bare t.bare (these.bare here)
            | inr there ↦ or_right s.bare t.bare (those.bare there)
          ];
    }

pub sums_within : (ss ts : List (Option Place)) (s : Summary) → IsWithin ss ts → IsWithin ts ss → Sums ss s → Sums ts s
sums_within ss ts s forth back sums =
    record {
      one = λ p is. forth (Some p) (sums.one p is);
      first = λ q has. sums.first q (back (Some q) has);
      missing = λ is. forth None (sums.missing is);
      bare = λ has. sums.bare (back None has);
    }

-- ---- where a name comes behind others

there_then : (o : Option Place) → is_there o true ≡ true
there_then None = refl
there_then (Some p) = refl

any_has : (ss : List (Option Place)) (s : Summary) → Sums ss s → (x : Option Place) → Contains ss x → has_any s ≡ true
any_has ss s sums None has = ap (is_there s.place) (sums.bare has) ∙ there_then s.place
any_has ss s sums (Some q) has = ap (λ o. is_there o s.bare) (sums.first q has).1

has_member : (ss : List (Option Place)) (s : Summary) → Sums ss s → has_any s ≡ true → ((x : Option Place) → Contains ss x → ⊥) → ⊥
has_member ss s sums is no_one = by_place s.place refl is
  where
    by_place : (o : Option Place) → s.place ≡ o → is_there o s.bare ≡ true → ⊥
    by_place None at bare = no_one None (sums.missing bare)
    by_place (Some p) at there = no_one (Some p) (sums.one p at)

all_same : (p : Place) (x : Option Place) (xs : List (Option Place)) → Sums (map (option_or (Some p)) (x ∷ xs)) (of_one (Some p))
all_same p x xs =
    record {
      one = λ q is. subst (Contains (map (option_or (Some p)) (x ∷ xs))) is (contains_head (Some p) (map (option_or (Some p)) xs));
      first = λ q has. let from = map_had (option_or (Some p)) (x ∷ xs) (Some q) has in (p, refl, subst (λ (r : Place). is_before r p ≡ false) (same_some p q from.2) (not_itself p));
      missing = λ is. absurd (not_both false is refl);
      bare = λ has. let from = map_had (option_or (Some p)) (x ∷ xs) None has in absurd (none_some p (sym from.2));
    }

unchanged : (xs : List (Option Place)) → map (option_or None) xs ≡ xs
unchanged [] = refl
unchanged (x ∷ xs) = ap (λ ys. x ∷ ys) (unchanged xs)

own_sums : (p : Place) (ss fs : List (Option Place)) (s f : Summary) → Sums ss s → Sums fs f → Sums (fs ++ map (option_or (Some p)) ss) (own_with f s (Some p))
own_sums p [] fs s f these found = by_test (has_any s) refl
  where
    by_test : (b : Bool) → has_any s ≡ b → Sums (fs ++ []) (if b then joined f (of_one (Some p)) else f)
    by_test true is = absurd (has_member [] s these is none_in)
    by_test false is = subst (λ xs. Sums xs f) (sym (append-nil fs)) found
own_sums p (x ∷ xs) fs s f these found = by_test (has_any s) refl
  where
    by_test : (b : Bool) → has_any s ≡ b → Sums (fs ++ map (option_or (Some p)) (x ∷ xs)) (if b then joined f (of_one (Some p)) else f)
    by_test true is = sums_both fs (map (option_or (Some p)) (x ∷ xs)) f (of_one (Some p)) found (all_same p x xs)
    by_test false is = absurd (not_both (has_any s) (any_has (x ∷ xs) s these x (contains_head x xs)) is)

pub second_sums : (place : Option Place) (ss fs : List (Option Place)) (s f : Summary) → Sums ss s → Sums fs f → Sums (fs ++ map (option_or place) ss) (second_with f s place)
second_sums None ss fs s f these found = subst (λ xs. Sums (fs ++ xs) (joined f s)) (sym (unchanged ss)) (sums_both fs ss f s found these)
second_sums (Some p) ss fs s f these found = own_sums p ss fs s f these found

-- ---- with a place for one that is missing

-- the least of these places, and none where there are none
abbrev pub Finds : List Place → Option Place → Type 0
Finds ps None = ps ≡ []
Finds ps (Some p) = IsLeast p ps

pub as_plain : (ps : List Place) (found : Option code.Place) → FindsLeast ps found → Finds ps (option_map place_of found)
as_plain ps None finds = finds
as_plain ps (Some p) finds = finds

pub as_code : (ps : List Place) (found : Option code.Place) → Finds ps (option_map place_of found) → FindsLeast ps found
as_code ps None finds = finds
as_code ps (Some p) finds = finds

module _ (own : Place) (them : List (Option Place)) (s : Summary) (sums : Sums them s) where
  abbrev put : Option Place → Place
  put p = unwrap_or p own

  -- a place that is none of them in front of any of them
  abbrev NoneBefore : Place → Type 0
  NoneBefore least = (x : Option Place) → Contains them x → is_before (put x) least ≡ false

  least_put : (x : Option Place) → Contains them x → NoneBefore (put x) → IsLeast (put x) (map put them)
  least_put x has first =
      record {
        one = map_has put them x has;
        first = λ q there. let from = map_had put them q there in subst (λ (r : Place). is_before r (put x) ≡ false) from.2 (first from.0 from.1);
      }

  -- the least place that is not missing
  kept_first : (p q : Place) → s.place ≡ Some p → Contains them (Some q) → is_before q p ≡ false
  kept_first p q is has = let first = sums.first q has in subst (λ (r : Place). is_before q r ≡ false) (same_some first.0 p (sym first.1 ∙ is)) first.2

  none_there : s.bare ≡ false → s.place ≡ None → (x : Option Place) → Contains them x → ⊥
  none_there no_bare is None has = not_both s.bare (sums.bare has) no_bare
  none_there no_bare is (Some q) has = let first = sums.first q has in none_some first.0 (sym is ∙ first.1)

  none_first : s.bare ≡ false → (p : Place) → s.place ≡ Some p → NoneBefore p
  none_first no_bare p is None has = absurd (not_both s.bare (sums.bare has) no_bare)
  none_first no_bare p is (Some q) has = kept_first p q is has

  kept_by : s.bare ≡ false → (o : Option Place) → s.place ≡ o → Finds (map put them) o
  kept_by no_bare None is = ap (map put) (no_members them (none_there no_bare is))
  kept_by no_bare (Some p) is = least_put (Some p) (sums.one p is) (none_first no_bare p is)

  pub kept_least : s.bare ≡ false → Finds (map put them) s.place
  kept_least no_bare = kept_by no_bare s.place refl

  own_alone : s.place ≡ None → NoneBefore own
  own_alone is None has = not_itself own
  own_alone is (Some q) has = let first = sums.first q has in absurd (none_some first.0 (sym is ∙ first.1))

  own_first : (p : Place) → s.place ≡ Some p → is_before own p ≡ true → NoneBefore own
  own_first p is less None has = not_itself own
  own_first p is less (Some q) has = not_before q p own (kept_first p q is has) (not_behind own p less)

  other_first : (p : Place) → s.place ≡ Some p → is_before own p ≡ false → NoneBefore p
  other_first p is kept None has = kept
  other_first p is kept (Some q) has = kept_first p q is has

  own_by : s.bare ≡ true → (o : Option Place) → s.place ≡ o → IsLeast (lesser o own) (map put them)
  own_by bare None is = least_put None (sums.missing bare) (own_alone is)
  own_by bare (Some p) is = by_test (is_before own p) refl
    where
      by_test : (b : Bool) → is_before own p ≡ b → IsLeast (if b then own else p) (map put them)
      by_test true less = least_put None (sums.missing bare) (own_first p is less)
      by_test false kept = least_put (Some p) (sums.one p is) (other_first p is kept)

  pub own_least : s.bare ≡ true → IsLeast (lesser s.place own) (map put them)
  own_least bare = own_by bare s.place refl

-- ---- the least of what two are the least of

lesser_left : (ps qs : List Place) (p q : Place) → IsLeast p ps → IsLeast q qs → is_before q p ≡ false → IsLeast p (ps ++ qs)
lesser_left ps qs p q one other kept =
    record {
      one = Contains-append_left ps qs p one.one;
      first = λ r has. elim (Contains-append_cases ps qs r has) [ inl here ↦ one.first r here | inr there ↦ not_before r q p (other.first r there) kept ];
    }

lesser_right : (ps qs : List Place) (p q : Place) → IsLeast p ps → IsLeast q qs → is_before q p ≡ true → IsLeast q (ps ++ qs)
lesser_right ps qs p q one other less =
    record {
      one = Contains-append_right ps qs q other.one;
      first = λ r has. elim (Contains-append_cases ps qs r has) [ inl here ↦ not_before r p q (one.first r here) (not_behind q p less) | inr there ↦ other.first r there ];
    }

both_least : (ps qs : List Place) (a b : Option Place) → Finds ps a → Finds qs b → Finds (ps ++ qs) (least_both a b)
both_least ps qs a None one nothing_there = subst (λ xs. Finds (ps ++ xs) a) (sym nothing_there) (subst (λ xs. Finds xs a) (sym (append-nil ps)) one)
both_least ps qs None (Some q) none_there other = subst (λ xs. IsLeast q (xs ++ qs)) (sym none_there) other
both_least ps qs (Some p) (Some q) one other = by_test (is_before q p) refl
  where
    by_test : (b : Bool) → is_before q p ≡ b → IsLeast (if b then q else p) (ps ++ qs)
    by_test true less = lesser_right ps qs p q one other less
    by_test false kept = lesser_left ps qs p q one other kept

pub both_found : (ps qs : List Place) (one other both : Option code.Place) → option_map place_of both ≡ least_both (option_map place_of one) (option_map place_of other) → FindsLeast ps one → FindsLeast qs other
    → FindsLeast (ps ++ qs) both
both_found ps qs one other both is first second =
    as_code (ps ++ qs) both
    (subst (Finds (ps ++ qs)) (sym is) (both_least ps qs (option_map place_of one) (option_map place_of other) (as_plain ps one first) (as_plain qs other second)))

pub kept_found : (own : Place) (them : List (Option Place)) (found : Least) → Sums them (summary_of found) → found.bare ≡ false → FindsLeast (map (λ p. unwrap_or p own) them) found.place
kept_found own them found sums no_bare = as_code (map (λ p. unwrap_or p own) them) found.place (kept_least own them (summary_of found) sums no_bare)

pub own_found : (own : Place) (them : List (Option Place)) (found : Least) (least : code.Place) → Sums them (summary_of found) → found.bare ≡ true → place_of least ≡ lesser (option_map place_of found.place) own
    → FindsLeast (map (λ p. unwrap_or p own) them) (Some least)
own_found own them found least sums bare is = subst (λ (p : Place). IsLeast p (map (λ k. unwrap_or k own) them)) (sym is) (own_least own them (summary_of found) sums bare)
