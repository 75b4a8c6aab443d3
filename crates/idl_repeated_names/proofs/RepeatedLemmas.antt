-- The least place of second names over all declarations.
use Rattle.std.proofs.Common.{◌≡◌, refl, sym, ap, ap₂, subst, ◌∙◌, ℕ, zero, suc, ◌+◌, ◌<◌, ◌≤◌, Bool, true, false, not, ◌&&◌, List, [], ◌∷◌, ◌++◌, map, length, take, get_or, append-nil, Option, None, Some, option_map, cond, arith}
use Rattle.std.proofs.lemmas.Bool.{and_parts}
use Rattle.std.proofs.lemmas.List.{take_all}
use Rattle.std.proofs.lemmas.List.Concat.{flat_map-append}
use Rattle.std.proofs.lemmas.List.Folds.{flat_map-map, list_all-map}
use Rattle.std.specs.List.{AllByRecursion, filter, find, flat_map, list_all}
use Rattle.std.specs.Prelude.{IfSome}
use Rattle.std.specs.Str.{bytes_eq}
use Rattle.idl_joint_places.specs.Circles.{FindsLeast}
use Rattle.idl_joint_places.proofs.LoopLemmas.{one_taken}
use Rattle.idl_meaning_model.specs.Declarations.{Declared, entities_declared, full_name, is_forward}
use Rattle.idl_meaning_model.specs.FromFiles.{has_identifiers, inner_ids, is_spelled}
use Rattle.idl_meaning_model.specs.Scopes.{declared_as}
use Rattle.idl_model.specs.Places.{Place}
use Rattle.idl_model.specs.Trees as tree
use Rattle.idl_names.specs.Collected.{declared_of}
use Rattle.idl_names.specs.Paths.{Parts}
use Rattle.idl_names.specs.declared.declaration.Declared as code
use Rattle.idl_repeated_names.specs.Meeting.{Asks, arguments_named, at_id, member_named, own_lists, parameters_named, property_named}
use Rattle.idl_repeated_names.specs.Over.{AreNamed, FindsMore, IsNamed, Knows, fields_at, fields_named, fields_over, functions_at, functions_named, functions_over, lists_over, owned, told}
use Rattle.idl_repeated_names.specs.Twins.{HaveKeys, Named, name_at}
use Rattle.idl_repeated_names.specs.Walking.{IsFoundOver, found_at}
use Rattle.idl_repeated_names.specs.declared.least.Least.{Least}
use Rattle.idl_repeated_names.specs.declared.owners.Entry.{Entry}
use Rattle.idl_repeated_names.specs.declared.twins.Twins.{Twins}
use Rattle.idl_repeated_names.specs.declared.walk.Asked.{Asked}
use Rattle.idl_repeated_names.proofs.KeyLemmas.{built_in_is_bare, fields_keys, keys_joined, methods_keys, own_fields_keys, own_functions_keys, own_lists_keys}
use Rattle.idl_repeated_names.proofs.MeetingLemmas.{lists_both, same_least}
use Rattle.idl_repeated_names.proofs.NameLemmas.{fields_chained, fields_same, ids_named, joined_same, mapped_join, member_same, methods_same, own_fields_same, own_functions_same, parameters_same, property_same, twice_mapped}
use Rattle.idl_repeated_names.proofs.OwnerLemmas.{Owners, at_index}
use Rattle.idl_repeated_names.specs.Tables.{IsWithin}
use Rattle.idl_repeated_names.proofs.SecondLaws.{in_both, in_left, in_right, itself}
use Rattle.idl_rules_model.specs.NamesDiffer.{NameAt, all_fields, all_functions, fields_of, functions_of_owner, member_name, name_lists, parameter_names, property_name, repeated_names, second_names, without_place, written_at}
use Rattle.idl_trees.specs.Names.{place_of}
use Rattle.idl_trees.specs.Trees.{declaration_of}
use Rattle.idl_trees.specs.declared.place.Place as placing
use Rattle.uno_model.specs.BuiltIn.{built_in}
use Rattle.uno_model.specs.Entities as uno
use Rattle.uno_model.specs.Entities.{Entity}
use Rattle.uno_model.specs.Functions.{Function, declared_by, interfaces_of}
use Rattle.uno_model.specs.Registry.{find_entity, own_members}

-- ---- the names of an owner

pub functions_owned : (own : List ℕ → Option tree.Declaration) (built : List Entity) (name : List ℕ) (o : Option tree.Declaration) → o ≡ own name → functions_named o (find_entity name built) ≡ functions_at own built name
unfolding functions_at
functions_owned own built name o is = ap (λ k. functions_named k (find_entity name built)) is

pub fields_owned : (own : List ℕ → Option tree.Declaration) (built : List Entity) (name : List ℕ) (o : Option tree.Declaration) → o ≡ own name → fields_named o (find_entity name built) ≡ fields_at own built name
unfolding fields_at
fields_owned own built name o is = ap (λ k. fields_named k (find_entity name built)) is

find_passes : {X : Type 0} (passes test : X → Bool) (xs : List X) (x : X) → list_all passes xs ≡ true → find test xs ≡ Some x → passes x ≡ true
find_passes passes test [] x all found = let bad : ⊥ = cc in absurd bad
find_passes passes test (y ∷ ys) x all found = by_test (test y) found (λ more there. find_passes passes test ys x more there)
  where
    parts : (passes y ≡ true) × (list_all passes ys ≡ true)
    parts = and_parts (passes y) (list_all passes ys) all

    same_some : Some y ≡ Some x → y ≡ x
    same_some is = cc

    by_test : (b : Bool) → cond b (Some y) (find test ys) ≡ Some x → (list_all passes ys ≡ true → find test ys ≡ Some x → passes x ≡ true) → passes x ≡ true
    by_test true is later = sym (ap passes (same_some is)) ∙ parts.0
    by_test false is later = later parts.1 is

inner_spelled : (d : Declared) → has_identifiers d ≡ true → list_all is_spelled (inner_ids d.body) ≡ true
unfolding has_identifiers
inner_spelled d all = (and_parts _ (list_all is_spelled (inner_ids d.body)) all).1

declared_spelled : (ds : List Declared) (name : List ℕ) (d : Declared) → list_all has_identifiers ds ≡ true → declared_as ds name ≡ Some d → list_all is_spelled (inner_ids d.body) ≡ true
unfolding declared_as
declared_spelled ds name d all found = inner_spelled d (find_passes has_identifiers (λ (k : Declared). not (is_forward k.body) && bytes_eq name (full_name k)) ds d all found)

abbrev body_in : Option Declared → Option tree.Declaration
body_in o = option_map (λ (d : Declared). d.body) o

module _ (ds : List Declared) (own : List ℕ → Option tree.Declaration) (built : List Entity) (owns : (name : List ℕ) → own name ≡ body_in (declared_as ds name)) (is_built : built ≡ built_in) where
  functions_at_same : (o : List ℕ) → map name_at (functions_at own built o) ≡ functions_of_owner o (declared_as ds o)
  unfolding functions_at
  functions_at_same o = ap₂ (λ a b. map name_at (functions_named a (find_entity o b))) (owns o) is_built ∙ by_declared (declared_as ds o)
    where
      by_found : (e : Option Entity) → find_entity o built_in ≡ e → map name_at (functions_named None e) ≡ map (λ (f : Function). without_place f.name) (declared_by o e)
      by_found None is = refl
      by_found (Some e) is = methods_same o e.body (built_in_is_bare o e is)

      by_declared : (d : Option Declared) → map name_at (functions_named (body_in d) (find_entity o built_in)) ≡ functions_of_owner o d
      by_declared (Some d) = own_functions_same d.body
      by_declared None = by_found (find_entity o built_in) refl

  fields_at_same : (o : List ℕ) → map name_at (fields_at own built o) ≡ fields_of o (declared_as ds o)
  unfolding fields_at
  fields_at_same o = ap₂ (λ a b. map name_at (fields_named a (find_entity o b))) (owns o) is_built ∙ by_declared (declared_as ds o)
    where
      by_found : (e : Option Entity) → map name_at (fields_named None e) ≡ map (λ (f : uno.Field). without_place f.name) (own_members e)
      by_found None = refl
      by_found (Some e) = fields_same e

      by_declared : (d : Option Declared) → map name_at (fields_named (body_in d) (find_entity o built_in)) ≡ fields_of o d
      by_declared (Some d) = own_fields_same d.body
      by_declared None = by_found (find_entity o built_in)

  functions_over_same : (reg : List Entity) (name : List ℕ) → map name_at (functions_over own built reg name) ≡ all_functions ds reg name
  unfolding all_functions
  functions_over_same reg name =
      mapped_join name_at (functions_at own built) (interfaces_of reg name)
      ∙ joined_same (λ o. map name_at (functions_at own built o)) (λ o. functions_of_owner o (declared_as ds o)) (interfaces_of reg name) functions_at_same

  fields_over_same : (reg : List Entity) (name : List ℕ) → map name_at (fields_over own built reg name) ≡ all_fields ds reg name
  unfolding all_fields
  fields_over_same reg name =
      mapped_join name_at (fields_at own built) _
      ∙ joined_same (λ o. map name_at (fields_at own built o)) (λ o. fields_of o (declared_as ds o)) _ fields_at_same
      ∙ sym (fields_chained (suc (length reg)) ds reg name)

  -- ---- their keys

  module _ (spelled : list_all has_identifiers ds ≡ true) where
    functions_at_keys : (o : List ℕ) → HaveKeys (functions_at own built o)
    unfolding functions_at
    functions_at_keys o = subst HaveKeys (sym (ap₂ (λ a b. functions_named a (find_entity o b)) (owns o) is_built)) (by_declared (declared_as ds o) refl)
      where
        by_found : (e : Option Entity) → find_entity o built_in ≡ e → HaveKeys (functions_named None e)
        by_found None is = tt
        by_found (Some e) is = methods_keys e.body (built_in_is_bare o e is)

        by_declared : (d : Option Declared) → declared_as ds o ≡ d → HaveKeys (functions_named (body_in d) (find_entity o built_in))
        by_declared (Some d) is = own_functions_keys d.body (declared_spelled ds o d spelled is)
        by_declared None is = by_found (find_entity o built_in) refl

    fields_at_keys : (o : List ℕ) → HaveKeys (fields_at own built o)
    unfolding fields_at
    fields_at_keys o = subst HaveKeys (sym (ap₂ (λ a b. fields_named a (find_entity o b)) (owns o) is_built)) (by_declared (declared_as ds o) refl)
      where
        by_found : (e : Option Entity) → find_entity o built_in ≡ e → HaveKeys (fields_named None e)
        by_found None is = tt
        by_found (Some e) is = fields_keys e.body (built_in_is_bare o e is)

        by_declared : (d : Option Declared) → declared_as ds o ≡ d → HaveKeys (fields_named (body_in d) (find_entity o built_in))
        by_declared (Some d) is = own_fields_keys d.body (declared_spelled ds o d spelled is)
        by_declared None is = by_found (find_entity o built_in) refl

    over_keys : (reg : List Entity) (name : List ℕ) (body : tree.Declaration) → AllByRecursion HaveKeys (lists_over own built reg name body)
    over_keys reg name (tree.interface base members) = (keys_joined (functions_at own built) (interfaces_of reg name) functions_at_keys, tt)
    over_keys reg name (tree.struct base members) = (keys_joined (fields_at own built) _ fields_at_keys, tt)
    over_keys reg name (tree.exception base members) = (keys_joined (fields_at own built) _ fields_at_keys, tt)
    over_keys reg name _ = tt

    all_keys : (reg : List Entity) (name : List ℕ) (body : tree.Declaration) → list_all is_spelled (inner_ids body) ≡ true → AllByRecursion HaveKeys (own_lists body ++ lists_over own built reg name body)
    all_keys reg name body inner = lists_both (own_lists body) (lists_over own built reg name body) (own_lists_keys body inner) (over_keys reg name body)

-- ---- the same places

-- each of the one is one of the other
record Alike (qs rs : List Place) : Type 0 where
  forth : IsWithin qs rs
  back : IsWithin rs qs

alike_equal : (qs rs : List Place) → qs ≡ rs → Alike qs rs
alike_equal qs rs is = subst (Alike qs) is (record { forth = itself qs; back = itself qs })

-- the last list of places is moved behind the first
moved_back : (one rest last : List Place) → Alike (one ++ (rest ++ (last ++ []))) (one ++ (last ++ rest))
moved_back one rest last =
    record {
      forth =
          in_both one (rest ++ (last ++ [])) (one ++ (last ++ rest)) (in_left one one (last ++ rest) (itself one))
          (in_both rest (last ++ []) (one ++ (last ++ rest)) (in_right rest one (last ++ rest) (in_right rest last rest (itself rest)))
          (subst (λ ps. IsWithin ps (one ++ (last ++ rest))) (sym (append-nil last)) (in_right last one (last ++ rest) (in_left last last rest (itself last)))));
      back =
          in_both one (last ++ rest) (one ++ (rest ++ (last ++ []))) (in_left one one (rest ++ (last ++ [])) (itself one))
          (in_both last rest (one ++ (rest ++ (last ++ [])))
          (in_right last one (rest ++ (last ++ [])) (in_right last rest (last ++ []) (in_left last last [] (itself last))))
          (in_right rest one (rest ++ (last ++ [])) (in_left rest rest (last ++ []) (itself rest))));
    }

module _ (own : Place) where
  abbrev each : List Named → List Place
  each names = second_names own (map name_at names)

  rows_same : {X : Type 0} (f : X → List Named) (g : X → List NameAt) (xs : List X) → ((x : X) → map name_at (f x) ≡ g x) → flat_map each (map f xs) ≡ flat_map (second_names own) (map g xs)
  rows_same f g xs same =
      flat_map-map each f xs ∙ joined_same (λ x. each (f x)) (λ x. second_names own (g x)) xs (λ x. ap (second_names own) (same x)) ∙ sym (flat_map-map (second_names own) g xs)

  one_same : (names : List Named) (them : List NameAt) → map name_at names ≡ them → flat_map each (names ∷ []) ≡ flat_map (second_names own) (them ∷ [])
  one_same names them is = ap (λ ns. second_names own ns ++ []) is

  module _ (ds : List Declared) (owner : List ℕ → Option tree.Declaration) (built : List Entity) (owns : (name : List ℕ) → owner name ≡ body_in (declared_as ds name)) (is_built : built ≡ built_in) (reg : List Entity) (name : List ℕ) where
    lists_alike : (body : tree.Declaration) → Alike (flat_map each (own_lists body ++ lists_over owner built reg name body)) (flat_map (second_names own) (name_lists ds reg name body))
    lists_alike (tree.interface base members) =
        let names : List Named = flat_map member_named members in
        let rows : List (List Named) = map parameters_named members in
        let functions : List Named = functions_over owner built reg name in
        let told_members = ap (second_names own) (mapped_join name_at member_named members ∙ joined_same (λ m. map name_at (member_named m)) member_name members member_same) in
        let told_functions = ap (second_names own) (functions_over_same ds owner built owns is_built reg name) in
        let told_rows = rows_same parameters_named parameter_names members parameters_same in
        subst (λ ps. Alike ps (flat_map (second_names own) (name_lists ds reg name (tree.interface base members))))
        (sym (ap (λ ps. each names ++ ps) (flat_map-append each rows (functions ∷ []))))
        (subst (λ ps. Alike (each names ++ (flat_map each rows ++ (each functions ++ []))) ps)
        (ap₂ (λ a b. a ++ b) told_members (ap₂ (λ a b. a ++ b) told_functions told_rows))
        (moved_back (each names) (flat_map each rows) (each functions)))
    lists_alike (tree.struct base members) = alike_equal _ _ (one_same (fields_over owner built reg name) (all_fields ds reg name) (fields_over_same ds owner built owns is_built reg name))
    lists_alike (tree.exception base members) = alike_equal _ _ (one_same (fields_over owner built reg name) (all_fields ds reg name) (fields_over_same ds owner built owns is_built reg name))
    lists_alike (tree.enum items) = alike_equal _ _ (one_same (map (λ (i : tree.Item). at_id i.name) items) (map (λ (i : tree.Item). written_at i.name) items) (ids_named (λ (i : tree.Item). i.name) items))
    lists_alike (tree.constants cs) = alike_equal _ _ (one_same (map (λ (c : tree.Constant). at_id c.name) cs) (map (λ (c : tree.Constant). written_at c.name) cs) (ids_named (λ (c : tree.Constant). c.name) cs))
    lists_alike (tree.new_service base constructors) =
        let names : List Named = map (λ (c : tree.Constructor). at_id c.name) constructors in
        let rows : List (List Named) = map arguments_named constructors in
        let told_names = ap (second_names own) (ids_named (λ (c : tree.Constructor). c.name) constructors) in
        let told_rows = rows_same arguments_named (λ (c : tree.Constructor). map (λ (p : tree.ConstructorParameter). written_at p.name) c.parameters) constructors
        (λ c. ids_named (λ (p : tree.ConstructorParameter). p.name) c.parameters) in
        alike_equal _ _ (ap (λ ns. each names ++ flat_map each ns) (append-nil rows) ∙ ap₂ (λ a b. a ++ b) told_names told_rows)
    lists_alike (tree.old_service members) =
        alike_equal _ _ (one_same (flat_map property_named members) (flat_map property_name members)
        (mapped_join name_at property_named members ∙ joined_same (λ m. map name_at (property_named m)) property_name members property_same))
    lists_alike _ = alike_equal [] [] refl

-- ---- one more declaration

pub asked_more : (first last : Twins) (lists : List (List Named)) (own : placing.Place) (least : Option placing.Place) → first.own ≡ own → first.least ≡ least → Asks first last lists → FindsMore least last.least lists (place_of own)
asked_more first last lists own least same known asks ps have finds =
    subst (λ (o : placing.Place). FindsLeast (ps ++ flat_map (λ names. second_names (place_of o) (map name_at names)) lists) last.least) same
    (asks.least ps have (subst (λ f. FindsLeast ps f) (sym known) finds))

all_at : {X : Type 0} (test : X → Bool) (xs : List X) (i : ℕ) (x : X) → i < length xs → x ≡ get_or xs i x → list_all test xs ≡ true → test x ≡ true
all_at test [] i x low is all = absurd (omega (arith, low))
all_at test (y ∷ ys) zero x low is all = ap test is ∙ (and_parts (test y) (list_all test ys) all).0
all_at test (y ∷ ys) (suc i) x low is all = all_at test ys i x (omega (arith, low)) is (and_parts (test y) (list_all test ys) all).1

-- what was found over a declaration
pub found_functions : (asked : Asked) (name : List ℕ) (body : tree.Declaration) (found : Option Least) → found ≡ found_at asked.functions.found name
    → ((own : List ℕ → Option tree.Declaration) (built reg : List Entity) → lists_over own built reg name body ≡ functions_over own built reg name ∷ []) → IfSome found (IsFoundOver asked name body)
found_functions asked name body None is one = tt
found_functions asked name body (Some l) is one = λ own built reg so. (functions_over own built reg name, one own built reg, so.functions_so name l (sym is))

pub found_fields : (asked : Asked) (name : List ℕ) (body : tree.Declaration) (found : Option Least) → found ≡ found_at asked.fields.found name
    → ((own : List ℕ → Option tree.Declaration) (built reg : List Entity) → lists_over own built reg name body ≡ fields_over own built reg name ∷ []) → IfSome found (IsFoundOver asked name body)
found_fields asked name body None is one = tt
found_fields asked name body (Some l) is one = λ own built reg so. (fields_over own built reg name, one own built reg, so.fields_so name l (sym is))

module _ (paths : List Parts) (es : List Entry) (owners : Owners) (built reg : List Entity) (knows : Knows paths es owners built) where
  abbrev ds : List Declared
  ds = map (told paths) es

  pub least_begins : FindsLeast (flat_map (repeated_names ds reg) (map (told paths) (take 0 es))) None
  least_begins = refl

  pub least_more : (i : ℕ) (e : Entry) (old new : Option placing.Place) → i < length es → e ≡ get_or es i e
      → FindsMore old new (own_lists (declaration_of e.declared.body.now) ++ lists_over (owned owners) built reg e.name (declaration_of e.declared.body.now)) (place_of e.declared.name.now.place)
      → FindsLeast (flat_map (repeated_names ds reg) (map (told paths) (take i es))) old → FindsLeast (flat_map (repeated_names ds reg) (map (told paths) (take (i + 1) es))) new
  unfolding repeated_names
  least_more i e old new low is more was =
      let d : Declared = told paths e in
      let own : Place = d.name.place in
      let name : List ℕ = full_name d in
      let before : List Place = flat_map (repeated_names ds reg) (map (told paths) (take i es)) in
      let named : e.name ≡ name = at_index (IsNamed paths) es i e low is knows.named in
      let inside : list_all has_identifiers ds ≡ true = knows.identifiers in
      let spelled : has_identifiers d ≡ true = all_at (λ (k : Entry). has_identifiers (told paths k)) es i e low is (sym (list_all-map has_identifiers (told paths) es) ∙ inside) in
      let lists : List (List Named) = own_lists d.body ++ lists_over (owned owners) built reg name d.body in
      let finds : FindsMore old new lists own = subst (λ n. FindsMore old new (own_lists d.body ++ lists_over (owned owners) built reg n d.body) own) named more in
      let have : AllByRecursion HaveKeys lists = all_keys ds (owned owners) built knows.owns knows.is_built inside reg name d.body (inner_spelled d spelled) in
      let alike = lists_alike own ds (owned owners) built knows.owns knows.is_built reg name d.body in
      let here : List Place = repeated_names ds reg d in
      subst (λ ps. FindsLeast ps new)
      (sym (ap (flat_map (repeated_names ds reg)) (one_taken (told paths) es i e low is) ∙ flat_map-append (repeated_names ds reg) (map (told paths) (take i es)) (d ∷ [])
      ∙ ap (λ ps. before ++ ps) (append-nil here)))
      (same_least before (flat_map (each own) lists) here new alike.forth alike.back (finds before have was))

  pub least_of_all : (i : ℕ) (least : Option placing.Place) → length es ≤ i → FindsLeast (flat_map (repeated_names ds reg) (map (told paths) (take i es))) least → FindsLeast (flat_map (repeated_names ds reg) ds) least
  least_of_all i least past was = subst (λ ks. FindsLeast (flat_map (repeated_names ds reg) (map (told paths) ks)) least) (take_all i es past) was

-- ---- all declarations

pub all_told : (paths : List Parts) (all : List code.Declared) (es : List Entry) → AreNamed paths all es → map (told paths) es ≡ map (declared_of paths) all
all_told paths them es named = sym (twice_mapped (declared_of paths) (λ (e : Entry). e.declared) es) ∙ ap (map (declared_of paths)) named.same

none_in_forward : (ds : List Declared) (reg : List Entity) (name : List ℕ) (body : tree.Declaration) → is_forward body ≡ true → name_lists ds reg name body ≡ []
none_in_forward ds reg name tree.forward is = refl
none_in_forward ds reg name _ is = let bad : ⊥ = cc in absurd bad

-- what is declared forward has no names
pub of_entities : (ds : List Declared) (reg : List Entity) (ks : List Declared) → flat_map (repeated_names ds reg) ks ≡ flat_map (repeated_names ds reg) (entities_declared ks)
unfolding repeated_names entities_declared
of_entities them reg [] = refl
of_entities them reg (k ∷ ks) = by_kind (is_forward k.body) refl (of_entities them reg ks)
  where
    by_kind : (b : Bool) → is_forward k.body ≡ b → flat_map (repeated_names them reg) ks ≡ flat_map (repeated_names them reg) (filter (λ (d : Declared). not (is_forward d.body)) ks)
        → flat_map (second_names k.name.place) (name_lists them reg (full_name k) k.body) ++ flat_map (repeated_names them reg) ks ≡ flat_map (repeated_names them reg) (cond (not b) (k ∷ filter (λ (d : Declared). not (is_forward d.body)) ks) (filter (λ (d : Declared). not (is_forward d.body)) ks))
    by_kind true is rest = ap (λ ls. flat_map (second_names k.name.place) ls ++ flat_map (repeated_names them reg) ks) (none_in_forward them reg (full_name k) k.body is) ∙ rest
    by_kind false is rest = ap (λ ps. flat_map (second_names k.name.place) (name_lists them reg (full_name k) k.body) ++ ps) rest
