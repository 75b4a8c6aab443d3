-- Names that are met, and lists that are asked, one behind the other.
use Rattle.std.proofs.Common.{◌≡◌, refl, sym, ap, subst, ◌∙◌, ℕ, zero, suc, ◌+◌, ◌<◌, ◌≤◌, inl, inr, true, false, List, [], ◌∷◌, ◌++◌, length, map, take, get_or, append-nil, append_assoc, Option, None, Some, unwrap_or, Contains, if◌then◌else◌, arith}
use Rattle.std.proofs.lemmas.List.{map-append, take_all}
use Rattle.std.proofs.lemmas.List.Elements.{Contains-append_cases, Contains-append_left, Contains-append_right}
use Rattle.std.proofs.lemmas.Grind.{flat_map-append}
use Rattle.std.specs.List.{AllByRecursion, flat_map}
use Rattle.idl_joint_places.specs.Circles.{FindsLeast}
use Rattle.idl_meaning_model.specs.Meaning.{is_read_only}
use Rattle.idl_model.specs.Places.{Place}
use Rattle.idl_model.specs.Trees.{Attribute}
use Rattle.idl_places.proofs.Steps.{Tells, told_behind}
use Rattle.idl_repeated_names.specs.Meeting.{Asks, Meets, at_accessor, attribute_named, members_named, methods_named}
use Rattle.idl_repeated_names.specs.Sums.{Sums, nothing, summary_of}
use Rattle.idl_repeated_names.specs.Tables.{IsWithin, second_places}
use Rattle.idl_repeated_names.specs.Twins.{FindsSeconds, HasMet, HaveKeys, Named, SumsSeconds, name_at}
use Rattle.idl_repeated_names.specs.Walking.{IsOfLists}
use Rattle.idl_repeated_names.specs.declared.least.Least.{Least}
use Rattle.idl_repeated_names.specs.declared.twins.Twins.{Twins}
use Rattle.idl_repeated_names.proofs.SecondLaws.{seconds_told}
use Rattle.idl_repeated_names.proofs.SumsLemmas.{sums_none}
use Rattle.idl_rules_model.specs.NamesDiffer.{NameAt, second_names}
use Rattle.idl_trees.specs.Names.{place_of}
use Rattle.idl_trees.specs.declared.place.Place as code
use Rattle.uno_entities.specs.Entities.{service_of, singleton_of}
use Rattle.uno_entities.specs.declared.entity.Service.{Service}
use Rattle.uno_entities.specs.declared.entity.Service.TheVariants as service
use Rattle.uno_entities.specs.declared.entity.Singleton.{Singleton}
use Rattle.uno_entities.specs.declared.entity.Singleton.TheVariants as singleton

-- ---- names

pub keys_first : (xs ys : List Named) → HaveKeys (xs ++ ys) → HaveKeys xs
keys_first [] ys have = tt
keys_first (x ∷ xs) ys have = (have.0, keys_first xs ys have.1)

pub keys_then : (xs ys : List Named) → HaveKeys (xs ++ ys) → HaveKeys ys
keys_then [] ys have = have
keys_then (x ∷ xs) ys have = keys_then xs ys have.1

pub keys_both : (xs ys : List Named) → HaveKeys xs → HaveKeys ys → HaveKeys (xs ++ ys)
keys_both [] ys one other = other
keys_both (x ∷ xs) ys one other = (one.0, keys_both xs ys one.1 other)

pub meets_none : (t : Twins) → Meets t t []
meets_none t =
    record {
      met = λ ns has. subst (HasMet t) (sym (append-nil ns)) has;
      own = refl;
      least = refl;
      found = λ ns has have finds. subst (λ ms. FindsSeconds ms t) (sym (append-nil ns)) finds;
    }

pub meets_nothing : (t : Twins) (more : List Named) → more ≡ [] → Meets t t more
meets_nothing t more none = subst (Meets t t) (sym none) (meets_none t)

pub meets_then : (old mid new : Twins) (xs ys : List Named) → Meets old mid xs → Meets mid new ys → Meets old new (xs ++ ys)
meets_then old mid new xs ys first next =
    record {
      met = λ ns has. subst (HasMet new) (append_assoc ns xs ys) (next.met (ns ++ xs) (first.met ns has));
      own = next.own ∙ first.own;
      least = next.least ∙ first.least;
      found = λ ns has have finds.
          let all : HaveKeys ((ns ++ xs) ++ ys) = subst HaveKeys (sym (append_assoc ns xs ys)) have in
          subst (λ ms. FindsSeconds ms new) (append_assoc ns xs ys) (next.found (ns ++ xs) (first.met ns has) all (first.found ns has (keys_first (ns ++ xs) ys all) finds));
    }

pub meets_on : {X Y : Type 0} (whole : List Y → List Named) (each : Y → List Named) → Tells whole each → (view : X → Y) (xs : List X) (i : ℕ) (x : X) (first now next : Twins) → i < length xs → x ≡ get_or xs i x
    → Meets first now (whole (map view (take i xs))) → Meets now next (each (view x)) → Meets first next (whole (map view (take (i + 1) xs)))
meets_on whole each tells view xs i x first now next low is so_far one =
    let before = whole (map view (take i xs)) in
    subst (Meets first next) (told_behind whole each tells view xs i x [] before (before ++ each (view x)) low is refl refl) (meets_then first now next before (each (view x)) so_far one)

same_read : {X : Type 0} (xs : List X) (i : ℕ) (d e : X) → i < length xs → get_or xs i d ≡ get_or xs i e
same_read [] i d e low = absurd (omega (arith, low))
same_read (x ∷ xs) zero d e low = refl
same_read (x ∷ xs) (suc i) d e low = same_read xs i d e (omega (arith, low))

pub meets_read : {X Y : Type 0} (whole : List Y → List Named) (each : Y → List Named) → Tells whole each → (view : X → Y) (xs : List X) (i : ℕ) (d : X) (first now next : Twins) → i < length xs
    → Meets first now (whole (map view (take i xs))) → Meets now next (each (view (get_or xs i d))) → Meets first next (whole (map view (take (i + 1) xs)))
meets_read whole each tells view xs i d first now next low so_far one = meets_on whole each tells view xs i (get_or xs i d) first now next low (same_read xs i d (get_or xs i d) low) so_far one

pub meets_all : {X Y : Type 0} (whole : List Y → List Named) (view : X → Y) (xs : List X) (i : ℕ) (first now : Twins) → length xs ≤ i → Meets first now (whole (map view (take i xs)))
    → Meets first now (whole (map view xs))
meets_all whole view xs i first now past so_far = subst (λ ys. Meets first now (whole (map view ys))) (take_all i xs past) so_far

-- services and singletons have no functions and no members
pub no_methods_served : (s : Service) → methods_named (service_of s) ≡ []
no_methods_served (service.New base constructors) = refl
no_methods_served (service.Old parts) = refl

pub no_members_served : (s : Service) → members_named (service_of s) ≡ []
no_members_served (service.New base constructors) = refl
no_members_served (service.Old parts) = refl

pub no_methods_single : (s : Singleton) → methods_named (singleton_of s) ≡ []
no_methods_single (singleton.New base) = refl
no_methods_single (singleton.Old name) = refl

pub no_members_single : (s : Singleton) → members_named (singleton_of s) ≡ []
no_members_single (singleton.New base) = refl
no_members_single (singleton.Old name) = refl

-- the functions of an attribute
pub read_only_named : (old new : Twins) (a : Attribute) → is_read_only a ≡ true → Meets old new (at_accessor 1 a.name ∷ []) → Meets old new (attribute_named a)
read_only_named old new a is meets = subst (λ b. Meets old new (if b then at_accessor 1 a.name ∷ [] else at_accessor 1 a.name ∷ (at_accessor 2 a.name ∷ []))) (sym is) meets

pub written_named : (old new : Twins) (a : Attribute) → is_read_only a ≡ false → Meets old new (at_accessor 1 a.name ∷ (at_accessor 2 a.name ∷ [])) → Meets old new (attribute_named a)
written_named old new a is meets = subst (λ b. Meets old new (if b then at_accessor 1 a.name ∷ [] else at_accessor 1 a.name ∷ (at_accessor 2 a.name ∷ []))) (sym is) meets

-- ---- least places of lists with the same elements

pub same_least : (ps qs rs : List Place) (found : Option code.Place) → IsWithin qs rs → IsWithin rs qs → FindsLeast (ps ++ qs) found → FindsLeast (ps ++ rs) found
same_least ps qs rs None to from none = no_more ps qs rs to from none
  where
    nothing : (xs : List Place) → ((p : Place) → Contains xs p → ⊥) → xs ≡ []
    nothing [] no_one = refl
    nothing (x ∷ xs) no_one = absurd (no_one x (0, omega arith, refl))

    no_more : (ks bs cs : List Place) → IsWithin bs cs → IsWithin cs bs → ks ++ bs ≡ [] → ks ++ cs ≡ []
    no_more [] bs cs forth back is = nothing cs (λ p has. let there = subst (λ xs. Contains xs p) is (back p has) in absurd (omega (arith, there.1)))
    no_more (k ∷ ks) bs cs forth back is = let bad : ⊥ = cc in absurd bad
same_least ps qs rs (Some p) to from least =
    record {
      one = elim (Contains-append_cases ps qs (place_of p) least.one) [ inl here ↦ Contains-append_left ps rs (place_of p) here | inr there ↦ Contains-append_right ps rs (place_of p) (to (place_of p) there) ];
      first = λ q has.
          elim (Contains-append_cases ps rs q has) [ inl here ↦ least.first q (Contains-append_left ps qs q here) | inr there ↦ least.first q (Contains-append_right ps qs q (from q there)) ];
    }

-- ---- lists

pub asks_none : (t : Twins) → Asks t t []
asks_none t = record { own = refl; least = λ ps have finds. subst (λ qs. FindsLeast qs t.least) (sym (append-nil ps)) finds }

pub asks_nothing : (t : Twins) (lists : List (List Named)) → lists ≡ [] → Asks t t lists
asks_nothing t lists none = subst (Asks t t) (sym none) (asks_none t)

-- these places count, that of the declaration where one is missing
pub counts_one : (old new : Twins) (found : Least) (lists : List (List Named)) → new.own ≡ old.own
    → ((them : List (Option Place)) (ps : List Place) → Sums them (summary_of found) → FindsLeast ps old.least → FindsLeast (ps ++ map (λ p. unwrap_or p (place_of old.own)) them) new.least)
    → IsOfLists lists found → Asks old new lists
counts_one old new found lists own least of_lists =
    subst (Asks old new) (sym of_lists.1)
    (record {
      own = own;
      least = λ ps have finds.
          let at : Place = place_of old.own in
          let all : List NameAt = map name_at of_lists.0 in
          subst (λ qs. FindsLeast (ps ++ qs) new.least) (sym (append-nil (second_names at all) ∙ seconds_told at all)) (least (second_places all) ps (of_lists.2 have.0) finds);
    })

pub none_found : (found : Least) → summary_of found ≡ nothing → SumsSeconds [] found
unfolding second_places
none_found found is = subst (Sums []) (sym is) sums_none

pub asks_one : (old begun met new : Twins) (names : List Named) → HasMet begun [] → begun.own ≡ old.own → summary_of begun.found ≡ nothing → begun.least ≡ old.least → Meets begun met names → new.own ≡ met.own
    → ((them : List (Option Place)) (ps : List Place) → Sums them (summary_of met.found) → FindsLeast ps met.least → FindsLeast (ps ++ map (λ p. unwrap_or p (place_of met.own)) them) new.least)
    → Asks old new (names ∷ [])
asks_one old begun met new names none own nothing_found kept meets counted counts =
    counts_one old new met.found (names ∷ []) (counted ∙ meets.own ∙ own)
    (λ them ps sums finds.
    subst (λ (o : code.Place). FindsLeast (ps ++ map (λ p. unwrap_or p (place_of o)) them) new.least) (meets.own ∙ own)
    (counts them ps sums (subst (λ f. FindsLeast ps f) (sym (meets.least ∙ kept)) finds)))
    (names, refl, λ have. meets.found [] none have (none_found begun.found nothing_found))

pub lists_first : (xs ys : List (List Named)) → AllByRecursion HaveKeys (xs ++ ys) → AllByRecursion HaveKeys xs
lists_first [] ys all = tt
lists_first (x ∷ xs) ys all = (all.0, lists_first xs ys all.1)

pub lists_then : (xs ys : List (List Named)) → AllByRecursion HaveKeys (xs ++ ys) → AllByRecursion HaveKeys ys
lists_then [] ys all = all
lists_then (x ∷ xs) ys all = lists_then xs ys all.1

pub lists_both : (xs ys : List (List Named)) → AllByRecursion HaveKeys xs → AllByRecursion HaveKeys ys → AllByRecursion HaveKeys (xs ++ ys)
lists_both [] ys one other = other
lists_both (x ∷ xs) ys one other = (one.0, lists_both xs ys one.1 other)

pub asks_then : (old mid new : Twins) (xs ys : List (List Named)) → Asks old mid xs → Asks mid new ys → Asks old new (xs ++ ys)
asks_then old mid new xs ys first next =
    record {
      own = next.own ∙ first.own;
      least = λ ps have finds.
          let each : code.Place → List Named → List Place = λ own names. second_names (place_of own) (map name_at names) in
          let so_far = first.least ps (lists_first xs ys have) finds in
          let all : FindsLeast ((ps ++ flat_map (each old.own) xs) ++ flat_map (each mid.own) ys) new.least = next.least (ps ++ flat_map (each old.own) xs) (lists_then xs ys have) so_far in
          let same : FindsLeast ((ps ++ flat_map (each old.own) xs) ++ flat_map (each old.own) ys) new.least = subst (λ (o : code.Place). FindsLeast ((ps ++ flat_map (each old.own) xs) ++ flat_map (each o) ys) new.least) first.own all in
          subst (λ qs. FindsLeast qs new.least)
          (append_assoc ps (flat_map (each old.own) xs) (flat_map (each old.own) ys) ∙ ap (λ qs. ps ++ qs) (sym (flat_map-append (each old.own) xs ys))) same;
    }

pub asks_on : {X Y : Type 0} (each : Y → List Named) (view : X → Y) (xs : List X) (i : ℕ) (x : X) (first now next : Twins) → i < length xs → x ≡ get_or xs i x
    → Asks first now (map each (map view (take i xs))) → Asks now next (each (view x) ∷ []) → Asks first next (map each (map view (take (i + 1) xs)))
asks_on each view xs i x first now next low is so_far one =
    let before = map each (map view (take i xs)) in
    subst (Asks first next)
    (told_behind (map each) (λ y. each y ∷ []) (λ ys y. map-append each ys (y ∷ [])) view xs i x [] before (before ++ each (view x) ∷ []) low is refl refl)
    (asks_then first now next before (each (view x) ∷ []) so_far one)

pub asks_all : {X Y : Type 0} (each : Y → List Named) (view : X → Y) (xs : List X) (i : ℕ) (first now : Twins) → length xs ≤ i → Asks first now (map each (map view (take i xs)))
    → Asks first now (map each (map view xs))
asks_all each view xs i first now past so_far = subst (λ ys. Asks first now (map each (map view ys))) (take_all i xs past) so_far
