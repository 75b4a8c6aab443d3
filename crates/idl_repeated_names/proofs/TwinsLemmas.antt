-- Names that are met one after the other, and taken back.
use Rattle.std.proofs.Common.{◌≡◌, ◌≢◌, refl, sym, ap, ap₂, subst, ◌∙◌, ℕ, zero, suc, ◌<◌, ◌≤◌, ◌==◌, nat_lt, Bool, true, false, ◌&&◌, List, [], ◌∷◌, ◌++◌, length, map, append-nil, append_assoc, Option, Some, unwrap_or, option_map, cond, if◌then◌else◌, arith}
use Rattle.std.proofs.lemmas.Bool.{eqb-true, ltb-true}
use Rattle.std.proofs.lemmas.List.{length-append, length-map, map-append}
use Rattle.std.proofs.lemmas.Map.Text.{is_eq-slice_cmp}
use Rattle.std.proofs.lemmas.Slice.Eq.{bytes_eq-Decides}
use Rattle.std.specs.Borrow.{Bor}
use Rattle.std.specs.BTreeMap as tree
use Rattle.std.specs.BTreeMap.{BTreeMap}
use Rattle.std.specs.Cmp.Lexicographic.{slice_cmp, bytes_decides}
use Rattle.std.specs.List.{flat_map}
use Rattle.std.specs.Option.{option_or}
use Rattle.std.specs.Ordering.{nat_cmp, ordering_then, is_eq}
use Rattle.std.specs.Str.{bytes_eq}
use Rattle.std.specs.declared.cmp.Ordering.{Ordering}
use Rattle.std.specs.declared.cmp.Ordering.TheVariants.{Less, Equal, Greater}
use Rattle.idl_model.specs.Places.{Place}
use Rattle.idl_names.specs.Paths.{Inside, is_same}
use Rattle.idl_names.proofs.PathLaws.{same_end}
use Rattle.idl_repeated_names.specs.Sums.{Summary, Sums, joined, nothing, of_one, second_with, summary_of}
use Rattle.idl_repeated_names.specs.Tables.{place_if_second, second_places, seconds}
use Rattle.idl_repeated_names.specs.Twins.{ForgetsLast, Has, HasMet, HaveKeys, IsKey, Logged, Named, SumsSeconds, TakesBack, known_at, known_from, logged_behind, logged_of, name_at, named, text_of}
use Rattle.idl_repeated_names.specs.declared.least.Least.{Least}
use Rattle.idl_repeated_names.specs.declared.twins.Met.{Met}
use Rattle.idl_repeated_names.specs.declared.twins.Twins.{Twins}
use Rattle.idl_repeated_names.proofs.SecondLaws.{one_more_has, one_more_in}
use Rattle.idl_repeated_names.proofs.SumsLemmas.{second_sums, sums_both, sums_none, sums_one, sums_within}
use Rattle.idl_rules_model.specs.NamesDiffer.{NameAt}
use Rattle.idl_trees.specs.Names.{place_of}
use Rattle.idl_trees.specs.declared.place.Place as code
use Rattle.rules_over_bases.specs.OwnNames.{getter_name, setter_name}

-- ---- keys

both_equal : (a b : Ordering) → is_eq (ordering_then a b) ≡ is_eq a && is_eq b
both_equal Less b = refl
both_equal Equal b = refl
both_equal Greater b = refl

same_number : (x y : ℕ) → is_eq (nat_cmp x y) ≡ (x == y)
same_number x y = by_less (nat_lt x y) refl (x == y) refl
  where
    by_less : (less : Bool) → nat_lt x y ≡ less → (same : Bool) → (x == y) ≡ same → is_eq (cond less Less (cond same Equal Greater)) ≡ same
    by_less true is true also = let low = ltb-true x y is in let one = eqb-true x y also in absurd (omega (arith, low, one))
    by_less true is false also = refl
    by_less false is true also = refl
    by_less false is false also = refl

same_key : (k l : Inside) → is_eq (ordering_then (nat_cmp k.0 l.0) (slice_cmp nat_cmp k.1 l.1)) ≡ is_same k l
same_key k l = both_equal (nat_cmp k.0 l.0) (slice_cmp nat_cmp k.1 l.1) ∙ (λ i. same_number k.0 l.0 i && is_eq-slice_cmp k.1 l.1 i)

both : (a b : Bool) → (a && b) ≡ true → (a ≡ true) × (b ≡ true)
both true true is = (refl, refl)
both true false is = absurd (cc)
both false b is = absurd (cc)

same_is : (k l : Inside) → is_same k l ≡ true → k ≡ l
same_is k l is =
    let parts = both (k.0 == l.0) (bytes_eq k.1 l.1) is in
    let numbers = eqb-true k.0 l.0 parts.0 in
    let names = (bytes_decides k.1 l.1).0 parts.1 in
    λ i. (numbers i, names i)

abbrev key_cmp : ℕ × Bor (List ℕ) → ℕ × Bor (List ℕ) → Ordering
key_cmp x y = ordering_then (nat_cmp x.0 y.0) (slice_cmp nat_cmp x.1.now y.1.now)

-- ---- what is known

abbrev Known : Type 0
Known = BTreeMap (ℕ × Bor (List ℕ)) Least

summed_cond : (b : Bool) (l : Least) (o : Option Least) → unwrap_or (option_map (λ (k : Least). summary_of k) (cond b (Some l) o)) nothing ≡ cond b (summary_of l) (unwrap_or (option_map (λ (k : Least). summary_of k) o) nothing)
summed_cond true l o = refl
summed_cond false l o = refl

-- one key is known otherwise, and all others as they were
pub known_otherwise : (old new : Known) (key : ℕ × Bor (List ℕ)) (l : Least) → tree.Updates key_cmp old new key (Some l)
    → (k : Inside) → known_at new k ≡ cond (is_same (key.0, key.1.now) k) (summary_of l) (known_at old k)
known_otherwise old new key l up k =
    let at : ℕ × Bor (List ℕ) = (k.0, record { ref_ptr = key.1.ref_ptr; now = k.1 }) in
    ap (λ o. unwrap_or (option_map (λ (m : Least). summary_of m) o) nothing) (up.0 at ∙ ap (λ b. cond b (Some l) (tree.get key_cmp old at)) (same_key (key.0, key.1.now) k))
    ∙ summed_cond (is_same (key.0, key.1.now) k) l (tree.get key_cmp old at)

last_known : (known : Summary) (ns : List Named) (n : Named) (k : Inside)
    → known_from known (ns ++ n ∷ []) k ≡ cond (is_same n.key k) (joined (known_from known ns k) (of_one n.place)) (known_from known ns k)
unfolding known_from
last_known known [] n k = refl
last_known known (m ∷ ms) n k = last_known (cond (is_same m.key k) (joined known (of_one m.place)) known) ms n k

abbrev log : Inside → Summary → Logged
log key before = record { key = key; before = before }

last_logged : (before ns : List Named) (n : Named) → logged_behind before (ns ++ n ∷ []) ≡ logged_behind before ns ++ log n.key (known_from nothing (before ++ ns) n.key) ∷ []
unfolding logged_behind
last_logged before [] n = ap (λ ms. log n.key (known_from nothing ms n.key) ∷ []) (sym (append-nil before))
last_logged before (m ∷ ms) n =
    ap (λ ks. log m.key (known_from nothing before m.key) ∷ ks)
    (last_logged (before ++ m ∷ []) ms n ∙ ap (λ xs. logged_behind (before ++ m ∷ []) ms ++ log n.key (known_from nothing xs n.key) ∷ []) (append_assoc before (m ∷ []) ms))

many_logged : (before ns : List Named) → length (logged_behind before ns) ≡ length ns
unfolding logged_behind
many_logged before [] = refl
many_logged before (n ∷ ns) = ap suc (many_logged (before ++ n ∷ []) ns)

pub many_met : (t : Twins) (ns : List Named) → HasMet t ns → length t.met.items ≡ length ns
many_met t ns has = sym (length-map t.met.items logged_of) ∙ ap length has.met_so ∙ many_logged [] ns

-- none are known of an empty map
none_known : (known : Known) → tree.IsEmpty known → (k : Inside) → known_at known k ≡ known_from nothing [] k
unfolding known_from
none_known known none k = rw none refl

none_logged : (met : List Met) → met ≡ [] → map logged_of met ≡ logged_behind [] []
unfolding logged_behind
none_logged met none = ap (map logged_of) none

pub none_met : (known : Known) (met : List Met) → tree.IsEmpty known → met ≡ [] → Has known met []
none_met known met empty none = record { known_so = none_known known empty; met_so = none_logged met none }

-- where a key is the same, the same is known of it
at_same : (f : Inside → Summary) (x : Summary → Summary) (k l : Inside) → cond (is_same k l) (x (f k)) (f l) ≡ cond (is_same k l) (x (f l)) (f l)
at_same f x k l = by_test (is_same k l) refl
  where
    by_test : (b : Bool) → is_same k l ≡ b → cond b (x (f k)) (f l) ≡ cond b (x (f l)) (f l)
    by_test true is = ap (λ m. x (f m)) (same_is k l is)
    by_test false is = refl

pub met_one : (old new : Known) (was now : List Met) (key : ℕ × Bor (List ℕ)) (place : Option code.Place) (before least : Least)
    → summary_of before ≡ known_at old (key.0, key.1.now) → now ≡ was ++ record { key = key; before = before } ∷ []
    → summary_of least ≡ joined (summary_of before) (of_one (option_map place_of place))
    → ((k : Inside) → known_at new k ≡ cond (is_same (key.0, key.1.now) k) (summary_of least) (known_at old k))
    → (ns : List Named) → Has old was ns → Has new now (ns ++ named key place ∷ [])
met_one old new was now key place before least seen put is_then known ns has =
    let n : Named = named key place in
    let it : summary_of before ≡ known_from nothing ns n.key = seen ∙ has.known_so n.key in
    record {
      known_so = λ k.
          known k ∙ ap₂ (λ x y. cond (is_same n.key k) x y) (is_then ∙ ap (λ (o : Summary). joined o (of_one n.place)) it) (has.known_so k)
          ∙ at_same (known_from nothing ns) (λ o. joined o (of_one n.place)) n.key k
          ∙ sym (last_known nothing ns n k);
      met_so =
          ap (map logged_of) put ∙ map-append logged_of was (record { key = key; before = before } ∷ [])
          ∙ ap₂ (λ ms o. ms ++ log n.key o ∷ []) has.met_so it ∙ sym (last_logged [] ns n);
    }

-- ---- names that are taken back

known_back : (ns : List Named) (n : Named) (k : Inside) → cond (is_same n.key k) (known_from nothing ns n.key) (known_from nothing (ns ++ n ∷ []) k) ≡ known_from nothing ns k
known_back ns n k = ap (λ o. cond (is_same n.key k) (known_from nothing ns n.key) o) (last_known nothing ns n k) ∙ by_test (is_same n.key k) refl
  where
    by_test : (b : Bool) → is_same n.key k ≡ b → cond b (known_from nothing ns n.key) (cond b (joined (known_from nothing ns k) (of_one n.place)) (known_from nothing ns k)) ≡ known_from nothing ns k
    by_test true is = ap (known_from nothing ns) (same_is n.key k is)
    by_test false is = refl

pub forgot_one : (old new : Known) (was now : List Met) (m : Met) → was ≡ now ++ m ∷ []
    → ((k : Inside) → known_at new k ≡ cond (is_same (m.key.0, m.key.1.now) k) (summary_of m.before) (known_at old k))
    → (ns : List Named) (n : Named) → Has old was (ns ++ n ∷ []) → Has new now ns
forgot_one old new was now m split known ns n has =
    let ends = same_end (map logged_of now) (logged_behind [] ns) (logged_of m) (log n.key (known_from nothing ns n.key))
    (sym (map-append logged_of now (m ∷ [])) ∙ sym (ap (map logged_of) split) ∙ has.met_so ∙ last_logged [] ns n) in
    let key : (m.key.0, m.key.1.now) ≡ n.key = ap (λ (l : Logged). l.key) ends.1 in
    let before : summary_of m.before ≡ known_from nothing ns n.key = ap (λ (l : Logged). l.before) ends.1 in
    record {
      known_so = λ k.
          known k ∙ ap₂ (λ (l : Inside) o. cond (is_same l k) o (known_at old k)) key before
          ∙ ap (λ o. cond (is_same n.key k) (known_from nothing ns n.key) o) (has.known_so k)
          ∙ known_back ns n k;
      met_so = ends.0;
    }

pub none_last : (t : Twins) → length t.met.items ≡ 0 → (ns : List Named) (n : Named) → HasMet t (ns ++ n ∷ []) → ⊥
none_last t none ns n has = let many = many_met t (ns ++ n ∷ []) has in let long = length-append ns (n ∷ []) in omega (arith, many, long, none)

-- the first names are left, and no fewer than are to be
abbrev pub TakenTo : Twins → Twins → ℕ → Type 0
TakenTo first now count = (ns more : List Named) → HasMet first (ns ++ more) → count ≡ length ns → (rest : List Named) × HasMet now (ns ++ rest)

pub taken_first : (t : Twins) (count : ℕ) → TakenTo t t count
taken_first t count ns more has is = (more, has)

split_last : {X : Type 0} (x : X) (xs : List X) → (front : List X) × (last : X) × (x ∷ xs ≡ front ++ last ∷ [])
split_last x [] = ([], x, refl)
split_last x (y ∷ ys) = let rest = split_last y ys in (x ∷ rest.0, rest.1, ap (λ zs. x ∷ zs) rest.2)

pub taken_one_more : (first now next : Twins) (count : ℕ) → TakenTo first now count → ForgetsLast now next → count < length now.met.items → TakenTo first next count
taken_one_more first now next count before forgets low ns more has is = let was = before ns more has is in by_rest was.0 was.1
  where
    by_rest : (rest : List Named) → HasMet now (ns ++ rest) → (left : List Named) × HasMet next (ns ++ left)
    by_rest [] all = let many = many_met now (ns ++ []) all in let long = length-append ns [] in absurd (omega (arith, many, long, is, low))
    by_rest (n ∷ rest) all =
        let last = split_last n rest in
        (last.0, forgets (ns ++ last.0) last.1 (subst (HasMet now) (ap (λ r. ns ++ r) last.2 ∙ sym (append_assoc ns last.0 (last.1 ∷ []))) all))

pub taken_all : (first now : Twins) (count : ℕ) → TakenTo first now count → length now.met.items ≤ count → TakesBack first now count
taken_all first now count taken within ns more has is = let was = taken ns more has is in by_rest was.0 was.1
  where
    by_rest : (rest : List Named) → HasMet now (ns ++ rest) → HasMet now ns
    by_rest [] all = subst (HasMet now) (append-nil ns) all
    by_rest (n ∷ rest) all = let many = many_met now (ns ++ n ∷ rest) all in let long = length-append ns (n ∷ rest) in absurd (omega (arith, many, long, is, within))

-- ---- texts of keys

told_apart : (x y : List ℕ) → x ≢ y → bytes_eq x y ≡ false
told_apart x y other = by_test (bytes_eq x y) refl
  where
    by_test : (b : Bool) → bytes_eq x y ≡ b → bytes_eq x y ≡ false
    by_test false is = is
    by_test true is = absurd (other ((bytes_eq-Decides x y).0 is))

getters_alike : (x y : List ℕ) → bytes_eq (getter_name x) (getter_name y) ≡ bytes_eq x y
unfolding getter_name
getters_alike x y = refl

setters_alike : (x y : List ℕ) → bytes_eq (setter_name x) (setter_name y) ≡ bytes_eq x y
unfolding setter_name
setters_alike x y = refl

getter_or_setter : (x y : List ℕ) → bytes_eq (getter_name x) (setter_name y) ≡ false
unfolding getter_name setter_name
getter_or_setter x y = refl

setter_or_getter : (x y : List ℕ) → bytes_eq (setter_name x) (getter_name y) ≡ false
unfolding getter_name setter_name
setter_or_getter x y = refl

same_text : (k l : Inside) → IsKey k → IsKey l → bytes_eq (text_of k) (text_of l) ≡ is_same k l
same_text (zero, x) (zero, y) one other = refl
same_text (zero, x) (suc zero, y) one other = told_apart x (getter_name y) (one.reads_none y)
same_text (zero, x) (suc (suc zero), y) one other = told_apart x (setter_name y) (one.writes_none y)
same_text (suc zero, x) (zero, y) one other = told_apart (getter_name x) y (λ is. other.reads_none x (sym is))
same_text (suc zero, x) (suc zero, y) one other = getters_alike x y
same_text (suc zero, x) (suc (suc zero), y) one other = getter_or_setter x y
same_text (suc (suc zero), x) (zero, y) one other = told_apart (setter_name x) y (λ is. other.writes_none x (sym is))
same_text (suc (suc zero), x) (suc zero, y) one other = setter_or_getter x y
same_text (suc (suc zero), x) (suc (suc zero), y) one other = setters_alike x y
same_text (zero, x) (suc (suc (suc n)), y) one other = absurd other
same_text (suc zero, x) (suc (suc (suc n)), y) one other = absurd other
same_text (suc (suc zero), x) (suc (suc (suc n)), y) one other = absurd other
same_text (suc (suc (suc n)), x) l one other = absurd one

-- ---- second names with one name more

-- the places of the names that are equal to one
abbrev same_named : List NameAt → NameAt → List (Option Place)
same_named names n = flat_map (λ (m : NameAt). if bytes_eq m.name n.name then m.place ∷ [] else []) names

seconds_are : (names : List NameAt) (n : NameAt) → seconds names n ≡ map (option_or n.place) (same_named names n)
unfolding seconds
seconds_are [] n = refl
seconds_are (m ∷ ms) n = by_test (bytes_eq m.name n.name) (seconds_are ms n)
  where
    by_test : (b : Bool) → flat_map (λ first. place_if_second first n) ms ≡ map (option_or n.place) (same_named ms n)
        → (if b then option_or n.place m.place ∷ [] else []) ++ flat_map (λ first. place_if_second first n) ms ≡ map (option_or n.place) ((if b then m.place ∷ [] else []) ++ same_named ms n)
    by_test true rest = ap (λ ps. option_or n.place m.place ∷ ps) rest
    by_test false rest = rest

module _ (n : Named) (is_key : IsKey n.key) where
  one_more_known : (m : Named) → IsKey m.key → (known : Summary) (done more : List (Option Place)) (after : Summary → Summary)
      → ((k : Summary) (ps : List (Option Place)) → Sums ps k → Sums (ps ++ more) (after k)) → Sums done known
      → Sums (done ++ ((if bytes_eq (text_of m.key) (text_of n.key) then m.place ∷ [] else []) ++ more)) (after (cond (is_same m.key n.key) (joined known (of_one m.place)) known))
  one_more_known m key known done more after rest sums = by_test (is_same m.key n.key) (bytes_eq (text_of m.key) (text_of n.key)) (same_text m.key n.key key is_key)
    where
      by_test : (b t : Bool) → t ≡ b → Sums (done ++ ((if t then m.place ∷ [] else []) ++ more)) (after (cond b (joined known (of_one m.place)) known))
      by_test true true same =
          subst (λ ps. Sums ps (after (joined known (of_one m.place)))) (append_assoc done (m.place ∷ []) more)
          (rest (joined known (of_one m.place)) (done ++ m.place ∷ []) (sums_both done (m.place ∷ []) known (of_one m.place) sums (sums_one m.place)))
      by_test false false same = rest known done sums
      by_test true false same = let bad : ⊥ = cc in absurd bad
      by_test false true same = let bad : ⊥ = cc in absurd bad

  known_sums : (known : Summary) (done : List (Option Place)) (ns : List Named) → HaveKeys ns → Sums done known
      → Sums (done ++ same_named (map name_at ns) (name_at n)) (known_from known ns n.key)
  unfolding known_from
  known_sums known done [] have sums = subst (λ ps. Sums ps known) (sym (append-nil done)) sums
  known_sums known done (m ∷ ms) have sums =
      one_more_known m have.0 known done (same_named (map name_at ms) (name_at n)) (λ k. known_from k ms n.key) (λ k ps so. known_sums k ps ms have.1 so) sums

keys_parts : (ns : List Named) (n : Named) → HaveKeys (ns ++ n ∷ []) → HaveKeys ns × IsKey n.key
keys_parts [] n have = (tt, have.0)
keys_parts (m ∷ ms) n have = let rest = keys_parts ms n have.1 in ((have.0, rest.0), rest.1)

pub found_one : (old : Twins) (key : ℕ × Bor (List ℕ)) (place : Option code.Place) (before found : Least) → summary_of before ≡ known_at old.known (key.0, key.1.now)
    → summary_of found ≡ second_with (summary_of old.found) (summary_of before) (option_map place_of place)
    → (ns : List Named) → HasMet old ns → HaveKeys (ns ++ named key place ∷ []) → SumsSeconds ns old.found → SumsSeconds (ns ++ named key place ∷ []) found
found_one old key place before found seen is ns has have sums =
    let n : Named = named key place in
    let keys = keys_parts ns n have in
    let names : List NameAt = map name_at ns in
    let it : summary_of before ≡ known_from nothing ns n.key = seen ∙ has.known_so n.key in
    let same : List (Option Place) = same_named names (name_at n) in
    let known : Sums same (summary_of before) = subst (Sums same) (sym it) (known_sums n keys.1 nothing [] ns keys.0 sums_none) in
    let both : Sums (second_places names ++ map (option_or n.place) same) (second_with (summary_of old.found) (summary_of before) n.place) =
    second_sums n.place same (second_places names) (summary_of before) (summary_of old.found) known sums in
    let all : Sums (second_places names ++ seconds names (name_at n)) (summary_of found) =
    subst (λ s. Sums (second_places names ++ seconds names (name_at n)) s) (sym is)
    (subst (λ ps. Sums (second_places names ++ ps) (second_with (summary_of old.found) (summary_of before) n.place)) (sym (seconds_are names (name_at n))) both) in
    subst (λ ks. Sums (second_places ks) (summary_of found)) (sym (map-append name_at ns (n ∷ [])))
    (sums_within (second_places names ++ seconds names (name_at n)) (second_places (names ++ name_at n ∷ [])) (summary_of found) (one_more_has (name_at n) names) (one_more_in (name_at n) names) all)
