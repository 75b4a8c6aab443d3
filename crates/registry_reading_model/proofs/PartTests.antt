-- What a body says, test by test, passes where each of its parts can be written.
use Rattle.std.proofs.Common.{◌≡◌, ℕ, Bool, true, not, ◌&&◌, ◌||◌, List, [], ◌∷◌, ◌++◌, map, refl, sym, ◌∙◌}
use Rattle.std.specs.List.{list_all}
use Rattle.std.proofs.lemmas.Bool.{and_parts, and_from}
use Rattle.std.proofs.lemmas.List.Folds.{list_all-map}
use Rattle.uno_model.proofs.AllLaws.{all_both, each_of_both, all_append, of_append, all_flat, of_flat}
use Rattle.uno_model.specs.Entities.{Base, Member, attribute, method, Body, interface, Entity}
use Rattle.uno_model.specs.Kinds.{Kind}
use Rattle.uno_model.specs.Names.{is_identifier, is_entity_name}
use Rattle.uno_model.specs.Sound.{is_named}
use Rattle.uno_model.specs.Uses.{inner_names, raised_names, interfaces_used, services_used, kinds_in, value_kinds, result_kinds, target_kinds}
use Rattle.uno_model.specs.Uses.{member_names, raised_by, value_kinds_of, result_kinds_of}
use Rattle.registry_text_model.specs.OneWayMethods.{is_void}
use Rattle.registry_text_model.specs.Reading.{is_spelled, is_writable, names_used, base_names, results_written, oneway_is_void}
use Rattle.registry_reading_model.proofs.GoodParts.{is_good_member, tests_of_attribute, good_attribute, tests_of_method, good_method}

-- ---- tests of lists

pub all_more : {X : Type 0} (P Q : X → Bool) → ((x : X) → P x ≡ true → Q x ≡ true) → (xs : List X) → list_all P xs ≡ true → list_all Q xs ≡ true
all_more P Q each [] all = refl
all_more P Q each (x ∷ xs) all =
    let parts = and_parts (P x) (list_all P xs) all in
    and_from (Q x) (list_all Q xs) (each x parts.0) (all_more P Q each xs parts.1)

pub all_of_map : {X Y : Type 0} (P : X → Bool) (f : Y → X) (ys : List Y) → list_all P (map f ys) ≡ true → list_all (λ y. P (f y)) ys ≡ true
all_of_map P f ys all = sym (list_all-map P f ys) ∙ all

pub map_of_all : {X Y : Type 0} (P : X → Bool) (f : Y → X) (ys : List Y) → list_all (λ y. P (f y)) ys ≡ true → list_all P (map f ys) ≡ true
map_of_all P f ys all = list_all-map P f ys ∙ all

-- what a body says, test by test
pub record Tests (body : Body) : Type 0 where
  pub inner : list_all is_identifier (inner_names body) ≡ true
  pub bases : list_all is_entity_name (base_names body) ≡ true
  pub raised : list_all is_entity_name (raised_names body) ≡ true
  pub interfaces : list_all is_entity_name (interfaces_used body) ≡ true
  pub services : list_all is_entity_name (services_used body) ≡ true
  pub values : list_all is_spelled (value_kinds body) ≡ true
  pub results : list_all is_spelled (result_kinds body) ≡ true
  pub targets : list_all is_spelled (target_kinds body) ≡ true
  pub void : results_written body ≡ true

pub tests_of : (e : Entity) → is_writable e ≡ true → (is_entity_name e.name ≡ true) × Tests e.body
unfolding is_writable
tests_of e writable =
    let body = e.body in
    let others = list_all is_spelled (kinds_in body) && results_written body in
    let first = and_parts (is_named e) (list_all is_entity_name (names_used body) && others) writable in
    let named = and_parts (is_entity_name e.name) (list_all is_identifier (inner_names body)) first.0 in
    let second = and_parts (list_all is_entity_name (names_used body)) others first.1 in
    let third = and_parts (list_all is_spelled (kinds_in body)) (results_written body) second.1 in
    let used = of_append is_entity_name (base_names body) (raised_names body ++ (interfaces_used body ++ services_used body)) second.0 in
    let raised = of_append is_entity_name (raised_names body) (interfaces_used body ++ services_used body) used.1 in
    let parts = of_append is_entity_name (interfaces_used body) (services_used body) raised.1 in
    let kinds = of_append is_spelled (value_kinds body) (result_kinds body ++ target_kinds body) third.0 in
    let more_kinds = of_append is_spelled (result_kinds body) (target_kinds body) kinds.1 in (
      named.0,
      record {
        inner = named.1;
        bases = used.0;
        raised = raised.0;
        interfaces = parts.0;
        services = parts.1;
        values = kinds.0;
        results = more_kinds.0;
        targets = more_kinds.1;
        void = third.1;
      },
    )

pub of_tests : (e : Entity) → is_entity_name e.name ≡ true → Tests e.body → is_writable e ≡ true
unfolding is_writable
of_tests e named tests =
    let body = e.body in
    let own = and_from (is_entity_name e.name) (list_all is_identifier (inner_names body)) named tests.inner in
    let parts = all_append is_entity_name (interfaces_used body) (services_used body) tests.interfaces tests.services in
    let raised = all_append is_entity_name (raised_names body) (interfaces_used body ++ services_used body) tests.raised parts in
    let used = all_append is_entity_name (base_names body) (raised_names body ++ (interfaces_used body ++ services_used body)) tests.bases raised in
    let others = all_append is_spelled (result_kinds body) (target_kinds body) tests.results tests.targets in
    let kinds = all_append is_spelled (value_kinds body) (result_kinds body ++ target_kinds body) tests.values others in
    and_from (is_named e) (list_all is_entity_name (names_used body) && (list_all is_spelled (kinds_in body) && results_written body)) own
    (and_from (list_all is_entity_name (names_used body)) (list_all is_spelled (kinds_in body) && results_written body) used
    (and_from (list_all is_spelled (kinds_in body)) (results_written body) kinds tests.void))

-- ---- from tests of the whole to tests of the parts

pub both_of_maps : {Y : Type 0} (name : Y → List ℕ) (kind : Y → Kind) (ys : List Y) → list_all is_identifier (map name ys) ≡ true
    → list_all is_spelled (map kind ys) ≡ true
    → list_all (λ y. is_identifier (name y) && is_spelled (kind y)) ys ≡ true
both_of_maps name kind ys names kinds =
    all_both (λ y. is_identifier (name y)) (λ y. is_spelled (kind y)) ys (all_of_map is_identifier name ys names)
    (all_of_map is_spelled kind ys kinds)

pub maps_of_both : {Y : Type 0} (name : Y → List ℕ) (kind : Y → Kind) (ys : List Y)
    → list_all (λ y. is_identifier (name y) && is_spelled (kind y)) ys ≡ true
    → (list_all is_identifier (map name ys) ≡ true) × (list_all is_spelled (map kind ys) ≡ true)
maps_of_both name kind ys all =
    let both = each_of_both (λ y. is_identifier (name y)) (λ y. is_spelled (kind y)) ys all in
    (map_of_all is_identifier name ys both.0, map_of_all is_spelled kind ys both.1)

pub only : (b : Bool) → (b && true) ≡ true → b ≡ true
only b is = (and_parts b true is).0

pub alone : (b : Bool) → b ≡ true → (b && true) ≡ true
alone b is = and_from b true is refl

-- ---- members

-- the tests of a member, of a constructor and of a part
abbrev names_pass : Member → Bool
names_pass m = list_all is_identifier (member_names m) && list_all is_entity_name (raised_by m)

abbrev kinds_pass : Member → Bool
kinds_pass m = list_all is_spelled (value_kinds_of m) && list_all is_spelled (result_kinds_of m)

abbrev member_passes : Member → Bool
member_passes m = (names_pass m && kinds_pass m) && oneway_is_void m

good_member : (m : Member) → member_passes m ≡ true → is_good_member m ≡ true
good_member (attribute a) passes =
    let m = attribute a in
    let both = and_parts (names_pass m) (kinds_pass m) (only (names_pass m && kinds_pass m) passes) in
    let names = and_parts (is_identifier a.name && true) (list_all is_entity_name (a.get_raises ++ a.set_raises)) both.0 in
    let raises = of_append is_entity_name a.get_raises a.set_raises names.1 in
    let kind = only (is_spelled a.kind) (only (is_spelled a.kind && true) both.1) in
    good_attribute a (record { named = only (is_identifier a.name) names.0; spelled = kind; gets = raises.0; sets = raises.1 })
good_member (method o) passes =
    let m = method o in
    let own_names = is_identifier o.name && list_all is_identifier (map (λ p. p.name) o.params) in
    let all = and_parts (names_pass m && kinds_pass m) (not o.oneway || is_void o.result_kind) passes in
    let both = and_parts (names_pass m) (kinds_pass m) all.0 in
    let names = and_parts own_names (list_all is_entity_name o.raises) both.0 in
    let own = and_parts (is_identifier o.name) (list_all is_identifier (map (λ p. p.name) o.params)) names.0 in
    let kinds = and_parts (list_all is_spelled (map (λ p. p.kind) o.params)) (is_spelled o.result_kind && true) both.1 in
    good_method o
    (record {
      named = own.0;
      spelled = only (is_spelled o.result_kind) kinds.1;
      void = all.1;
      good_params = both_of_maps (λ p. p.name) (λ p. p.kind) o.params own.1 kinds.0;
      raised = names.1;
    })

member_good : (m : Member) → is_good_member m ≡ true → member_passes m ≡ true
member_good (attribute a) good =
    let m = attribute a in
    let t = tests_of_attribute a good in
    let raises = all_append is_entity_name a.get_raises a.set_raises t.gets t.sets in
    let named = alone (is_identifier a.name) t.named in
    let names = and_from (is_identifier a.name && true) (list_all is_entity_name (a.get_raises ++ a.set_raises)) named raises in
    let kinds = alone (is_spelled a.kind && true) (alone (is_spelled a.kind) t.spelled) in
    alone (names_pass m && kinds_pass m) (and_from (names_pass m) (kinds_pass m) names kinds)
member_good (method o) good =
    let m = method o in
    let t = tests_of_method o good in
    let params = maps_of_both (λ p. p.name) (λ p. p.kind) o.params t.good_params in
    let own_names = is_identifier o.name && list_all is_identifier (map (λ p. p.name) o.params) in
    let own = and_from (is_identifier o.name) (list_all is_identifier (map (λ p. p.name) o.params)) t.named params.0 in
    let names = and_from own_names (list_all is_entity_name o.raises) own t.raised in
    let result = alone (is_spelled o.result_kind) t.spelled in
    let kinds = and_from (list_all is_spelled (map (λ p. p.kind) o.params)) (is_spelled o.result_kind && true) params.1 result in
    and_from (names_pass m && kinds_pass m) (not o.oneway || is_void o.result_kind) (and_from (names_pass m) (kinds_pass m) names kinds) t.void

pub good_members : (bases : List Base) (members : List Member) → Tests (interface bases members) → list_all is_good_member members ≡ true
good_members bases members t =
    let inner = of_flat is_identifier member_names members t.inner in
    let raised = of_flat is_entity_name raised_by members t.raised in
    let values = of_flat is_spelled value_kinds_of members t.values in
    let results = of_flat is_spelled result_kinds_of members t.results in
    let names = all_both (λ m. list_all is_identifier (member_names m)) (λ m. list_all is_entity_name (raised_by m)) members inner raised in
    let kinds = all_both (λ m. list_all is_spelled (value_kinds_of m)) (λ m. list_all is_spelled (result_kinds_of m)) members values results in
    all_more member_passes is_good_member good_member members
    (all_both (λ m. names_pass m && kinds_pass m) oneway_is_void members (all_both names_pass kinds_pass members names kinds) t.void)

pub members_good : (bases : List Base) (members : List Member) → list_all is_entity_name (map (λ b. b.name) bases) ≡ true
    → list_all is_good_member members ≡ true → Tests (interface bases members)
members_good bases members named good =
    let all = each_of_both (λ m. names_pass m && kinds_pass m) oneway_is_void members
    (all_more is_good_member member_passes member_good members good) in
    let both = each_of_both names_pass kinds_pass members all.0 in
    let names = each_of_both (λ m. list_all is_identifier (member_names m)) (λ m. list_all is_entity_name (raised_by m)) members both.0 in
    let kinds = each_of_both (λ m. list_all is_spelled (value_kinds_of m)) (λ m. list_all is_spelled (result_kinds_of m)) members both.1 in
    record {
      inner = all_flat is_identifier member_names members names.0;
      bases = named;
      raised = all_flat is_entity_name raised_by members names.1;
      interfaces = refl;
      services = refl;
      values = all_flat is_spelled value_kinds_of members kinds.0;
      results = all_flat is_spelled result_kinds_of members kinds.1;
      targets = refl;
      void = all.1;
    }
