-- What a declaration means that writes an entity: that entity, where its types are known and it is complete and its numbers are in range.
use Rattle.std.proofs.Common.{◌≡◌, ℕ, ℤ, pos, Bool, true, false, not, ◌&&◌, ◌||◌, List, [], ◌∷◌, ◌++◌, map, Option, None, Some, Contains, codes, refl, sym, ap}
use Rattle.std.proofs.Common.{ap₂, ◌∙◌, subst, if◌then◌else◌, arith}
use Rattle.std.specs.List.{list_all, list_any, filter_map, flat_map}
use Rattle.std.specs.Option.{option_map, option_to_list}
use Rattle.std.specs.Prelude.{unwrap_or, is_none}
use Rattle.std.specs.Str.{bytes_eq}
use Rattle.std.proofs.lemmas.Bool.{and_parts, both_ways}
use Rattle.std.proofs.lemmas.List.{append-nil}
use Rattle.std.proofs.lemmas.List.Elements.{filter_map-append}
use Rattle.std.proofs.lemmas.List.Folds.{list_all-append, list_all-map}
use Rattle.std.proofs.lemmas.Slice.Eq.{bytes_eq-Decides}
use Rattle.uno_model.specs.BuiltIn.{x_interface, x_interface_name, HasBuiltIn}
use Rattle.uno_model.specs.Entities.{Entity, Body}
use Rattle.uno_model.specs.Entities as uno
use Rattle.uno_model.specs.Kinds.{Kind}
use Rattle.uno_model.specs.Registry.{at_most_one, mandatory_bases}
use Rattle.uno_model.specs.Sound.{is_some_list, kind_known, types_known, is_complete}
use Rattle.uno_model.specs.Uses.{value_kinds_of, result_kinds_of, property_kinds, value_kinds, result_kinds, target_kinds}
use Rattle.uno_model.proofs.CircleLaws.{all_at}
use Rattle.uno_model.proofs.PlaceLaws.{contains_head, contains_behind}
use Rattle.registry_text_model.specs.Canonical.{is_implicit, is_implicit_alone}
use Rattle.registry_text_model.specs.ConstantValues.{is_in_range, body_is_in_range}
use Rattle.registry_text_model.specs.EnumValues.{is_long, items_are_long}
use Rattle.registry_text_model.specs.Lines.{is_built_in_name, written}
use Rattle.idl_model.specs.Trees.{Path, Declaration}
use Rattle.idl_model.specs.Trees as tree
use Rattle.idl_meaning_model.specs.Declarations.{Declared, full_name, scope_of, Origin, Valued, expression, first_item, item_before, item_origin, items_valued}
use Rattle.idl_meaning_model.specs.Declarations.{constant_valued, all_valued}
use Rattle.idl_meaning_model.specs.Meaning.{name_meant, type_meant, fields_meant, base_meant, bases_written, with_root, is_readonly, is_read_only}
use Rattle.idl_meaning_model.specs.Meaning.{attribute_meant, parameter_meant, method_meant, member_meant, number_meant, item_meant, constant_meant}
use Rattle.idl_meaning_model.specs.Meaning.{parameters_before, rest_parameter, constructor_meant, create, with_create, part_meant, body_meant}
use Rattle.idl_meaning_model.specs.Uses.{accessor_raises}
use Rattle.canonical_laws.specs.Written.{Each, WritesName, WritesRaised, access_flags, WritesAttribute, WritesParameter, WritesMethod, WritesMember, WritesBase}
use Rattle.canonical_laws.specs.Written.{bases_behind_colon, bases_among_members, WritesInterface}
use Rattle.canonical_laws.specs.Written.{WritesField, WritesBaseOf, WritesItem, WritesConstant, WritesGiven, WritesRest, WritesConstructor}
use Rattle.canonical_laws.specs.Written.{constructors_written, WritesPart, WritesBody}
use Rattle.canonical_laws.proofs.DottedNames.{name_is}
use Rattle.canonical_laws.proofs.LiteralValues.{long_is_wide, ranged_is_wide, value_is}
use Rattle.canonical_laws.proofs.SortedRegistry.{own_differs}
use Rattle.canonical_laws.proofs.WrittenFlags.{flags_are}
use Rattle.canonical_laws.proofs.WrittenNames.{WritesDeclared}
use Rattle.canonical_laws.proofs.WrittenTypes.{type_is}

-- ---- lists

-- what each of the one means is that of the other at its place
pub each_is : {X Y : Type 0} (R : X → Y → Type 0) (f : X → Y) (xs : List X) (ys : List Y) → ((x : X) (y : Y) → Contains ys y → R x y → f x ≡ y) → Each R xs ys
    → map f xs ≡ ys
each_is R f [] [] is each = refl
each_is R f [] (y ∷ ys) is each = absurd each
each_is R f (x ∷ xs) [] is each = absurd each
each_is R f (x ∷ xs) (y ∷ ys) is each =
    ap₂ (λ z zs. z ∷ zs) (is x y (contains_head y ys) each.0) (each_is R f xs ys (λ v w in' r. is v w (contains_behind y ys w in') r) each.1)

pub flat_all : {X Y : Type 0} (p : Y → Bool) (f : X → List Y) (xs : List X) → list_all p (flat_map f xs) ≡ list_all (λ x. list_all p (f x)) xs
flat_all p f [] = refl
flat_all p f (x ∷ xs) = list_all-append p (f x) (flat_map f xs) ∙ ap (λ b. list_all p (f x) && b) (flat_all p f xs)

pub all_in_flat : {X Y : Type 0} (p : Y → Bool) (f : X → List Y) (xs : List X) (x : X) → list_all p (flat_map f xs) ≡ true → Contains xs x
    → list_all p (f x) ≡ true
all_in_flat p f xs x all in' = all_at (λ y. list_all p (f y)) xs x (sym (flat_all p f xs) ∙ all) in'

pub all_in_map : {X Y : Type 0} (p : Y → Bool) (f : X → Y) (xs : List X) (x : X) → list_all p (map f xs) ≡ true → Contains xs x → p (f x) ≡ true
all_in_map p f xs x all in' = all_at (λ y. p (f y)) xs x (sym (list_all-map p f xs) ∙ all) in'

-- the types of a body by what its places allow
pub known_parts : (reg : List Entity) (body : Body) → types_known reg body ≡ true
    → (list_all (kind_known reg) (value_kinds body) ≡ true) × (list_all (kind_known reg) (result_kinds body) ≡ true) ×
    (list_all (kind_known reg) (target_kinds body) ≡ true)
known_parts reg body known =
    let p = kind_known reg in
    let first =
    and_parts (list_all p (value_kinds body)) (list_all p (result_kinds body ++ target_kinds body))
    (sym (list_all-append p (value_kinds body) (result_kinds body ++ target_kinds body)) ∙ known) in
    let second =
    and_parts (list_all p (result_kinds body)) (list_all p (target_kinds body)) (sym (list_all-append p (result_kinds body) (target_kinds body)) ∙ first.1) in
    (first.0, second.0, second.1)

-- ---- names

module _ (ds : List Declared) (modules : List (List ℕ)) where
  names_are : (paths : List Path) (names : List (List ℕ)) → Each WritesName paths names → map (name_meant ds modules) paths ≡ names
  names_are paths names each = each_is WritesName (name_meant ds modules) paths names (λ path name in' writes. name_is ds modules path name writes) each

  raised_are : (o : Option (List Path)) (names : List (List ℕ)) → WritesRaised o names → map (name_meant ds modules) (accessor_raises o) ≡ names
  raised_are None names none = sym none
  raised_are (Some paths) names writes = names_are paths names writes.1

  base_is : (o : Option Path) (of : Option (List ℕ)) → WritesBaseOf o of → option_map (name_meant ds modules) o ≡ of
  base_is None None each = refl
  base_is None (Some name) each = absurd each
  base_is (Some path) None each = absurd each
  base_is (Some path) (Some name) each = ap (λ n. Some n) (name_is ds modules path name each.0)

  -- ---- bases of interfaces

  abbrev required : List ℕ → uno.Base
  required name = record { optional = false; name = name }

  colon_are : (paths : List Path) (names : List (List ℕ)) → Each WritesName paths names
      → map (λ path. required (name_meant ds modules path)) paths ≡ map required names
  colon_are [] [] each = refl
  colon_are [] (n ∷ ns) each = absurd each
  colon_are (p ∷ ps) [] each = absurd each
  colon_are (p ∷ ps) (n ∷ ns) each = ap₂ (λ b bs. b ∷ bs) (ap required (name_is ds modules p n each.0)) (colon_are ps ns each.1)

  inside_are : (ts : List tree.InterfaceMember) (bs : List uno.Base) → Each WritesBase ts bs → filter_map (base_meant ds modules) ts ≡ bs
  inside_are [] [] each = refl
  inside_are [] (b ∷ bs) each = absurd each
  inside_are (t ∷ ts) [] each = absurd each
  inside_are (tree.base_member optional path ∷ ts) (b ∷ bs) each =
      ap₂ (λ c cs. c ∷ cs) (ap₂ (λ (o : Bool) (n : List ℕ). record { optional = o; name = n }) each.0.0 (name_is ds modules path b.name each.0.1))
      (inside_are ts bs each.1)
  inside_are (tree.attribute t ∷ ts) (b ∷ bs) each = absurd each.0
  inside_are (tree.method t ∷ ts) (b ∷ bs) each = absurd each.0

  -- what is declared is no base, and a base declares nothing
  no_bases : (ts : List tree.InterfaceMember) (ms : List uno.Member) → Each WritesMember ts ms → filter_map (base_meant ds modules) ts ≡ []
  no_bases [] ms each = refl
  no_bases (t ∷ ts) [] each = absurd each
  no_bases (tree.base_member optional path ∷ ts) (m ∷ ms) each = absurd each.0
  no_bases (tree.attribute t ∷ ts) (m ∷ ms) each = no_bases ts ms each.1
  no_bases (tree.method t ∷ ts) (m ∷ ms) each = no_bases ts ms each.1

  no_members : (ts : List tree.InterfaceMember) (bs : List uno.Base) → Each WritesBase ts bs → filter_map (member_meant ds modules) ts ≡ []
  no_members [] bs each = refl
  no_members (t ∷ ts) [] each = absurd each
  no_members (tree.base_member optional path ∷ ts) (b ∷ bs) each = no_members ts bs each.1
  no_members (tree.attribute t ∷ ts) (b ∷ bs) each = absurd each.0
  no_members (tree.method t ∷ ts) (b ∷ bs) each = absurd each.0

  either_way : (bases : List uno.Base) → map required (bases_behind_colon bases) ++ bases_among_members bases ≡ bases
  either_way [] = refl
  either_way (b ∷ []) = by_test b.optional refl
    where
      by_test : (o : Bool) → b.optional ≡ o → map required (bases_behind_colon (b ∷ [])) ++ bases_among_members (b ∷ []) ≡ b ∷ []
      by_test true is = rw is refl
      by_test false is = rw is refl
  either_way (b ∷ (c ∷ bs)) = refl

  bases_are : (base : Option Path) (members : List tree.InterfaceMember) (bases : List uno.Base) (own : List uno.Member)
      → WritesInterface base members bases own → bases_written ds modules base members ≡ bases
  bases_are base members bases own writes =
      let inside : filter_map (base_meant ds modules) members ≡ bases_among_members bases =
      ap (filter_map (base_meant ds modules)) writes.split ∙ filter_map-append (base_meant ds modules) writes.front writes.behind
      ∙ ap₂ (λ xs ys. xs ++ ys) (inside_are writes.front (bases_among_members bases) writes.inside) (no_bases writes.behind own writes.declares)
      ∙ append-nil (bases_among_members bases) in
      ap₂ (λ xs ys. xs ++ ys) (colon_are (option_to_list base) (bases_behind_colon bases) writes.colon) inside ∙ either_way bases

-- ---- parts with types

read_only_is : (b : Bool) → list_any is_readonly (access_flags b) ≡ b
read_only_is true = refl
read_only_is false = refl

module _ (ds : List Declared) (reg : List Entity) (has : HasBuiltIn reg) (all : Each WritesDeclared ds (written reg)) (modules : List (List ℕ)) where
  abbrev kinds_known : List Kind → Type 0
  kinds_known ks = list_all (kind_known reg) ks ≡ true

  attribute_is : (t : tree.Attribute) (a : uno.Attribute) → WritesAttribute t a → kind_known reg a.kind ≡ true → attribute_meant ds modules t ≡ a
  attribute_is t a writes known =
      let read_only : is_read_only t ≡ a.read_only = ap (list_any is_readonly) writes.flags ∙ read_only_is a.read_only in
      let type : type_meant ds modules t.type ≡ a.kind = type_is ds reg has all modules t.type a.kind writes.type known in
      rw (writes.name, read_only, type, raised_are ds modules t.get a.get_raises writes.get, raised_are ds modules t.set a.set_raises writes.set) refl

  parameter_is : (t : tree.Parameter) (p : uno.Param) → WritesParameter t p → kind_known reg p.kind ≡ true → parameter_meant ds modules t ≡ p
  parameter_is t p writes known = rw (writes.way, writes.name, type_is ds reg has all modules t.type p.kind writes.type known) refl

  method_is : (t : tree.Method) (m : uno.Method) → WritesMethod t m → kinds_known (map (λ p. p.kind) m.params) → kind_known reg m.result_kind ≡ true
      → method_meant ds modules t ≡ m
  method_is t m writes params result =
      let given : map (parameter_meant ds modules) t.parameters ≡ m.params =
      each_is WritesParameter (parameter_meant ds modules) t.parameters m.params
      (λ u p in' w. parameter_is u p w (all_in_map (kind_known reg) (λ (q : uno.Param). q.kind) m.params p params in')) writes.parameters in
      let type : type_meant ds modules t.result_type ≡ m.result_kind = type_is ds reg has all modules t.result_type m.result_kind writes.result result in
      rw (writes.name, writes.oneway, type, given, names_are ds modules t.raises m.raises writes.raises) refl

  abbrev member_known : uno.Member → Type 0
  member_known m = kinds_known (value_kinds_of m) × kinds_known (result_kinds_of m)

  member_is : (t : tree.InterfaceMember) (m : uno.Member) → WritesMember t m → member_known m → member_meant ds modules t ≡ Some m
  member_is (tree.base_member optional path) m writes known = absurd writes
  member_is (tree.attribute t) m (a, is, writes) known =
      let kind : kinds_known (a.kind ∷ []) = subst (λ n. kinds_known (value_kinds_of n)) is known.0 in
      ap (λ x. Some (uno.attribute x)) (attribute_is t a writes (and_parts (kind_known reg a.kind) true kind).0) ∙ ap (λ x. Some x) (sym is)
  member_is (tree.method t) m (o, is, writes) known =
      let params : kinds_known (map (λ p. p.kind) o.params) = subst (λ n. kinds_known (value_kinds_of n)) is known.0 in
      let result : kinds_known (o.result_kind ∷ []) = subst (λ n. kinds_known (result_kinds_of n)) is known.1 in
      ap (λ x. Some (uno.method x)) (method_is t o writes params (and_parts (kind_known reg o.result_kind) true result).0) ∙ ap (λ x. Some x) (sym is)

  members_are : (ts : List tree.InterfaceMember) (ms : List uno.Member) → ((m : uno.Member) → Contains ms m → member_known m) → Each WritesMember ts ms
      → filter_map (member_meant ds modules) ts ≡ ms
  members_are [] [] known each = refl
  members_are [] (m ∷ ms) known each = absurd each
  members_are (t ∷ ts) [] known each = absurd each
  members_are (t ∷ ts) (m ∷ ms) known each =
      rw (member_is t m each.0 (known m (contains_head m ms))) (ap (λ xs. m ∷ xs) (members_are ts ms (λ n in'. known n (contains_behind m ms n in')) each.1))

  field_are : (ts : List tree.Fields) (fs : List uno.Field) → kinds_known (map (λ f. f.kind) fs) → Each WritesField ts fs
      → flat_map (fields_meant ds modules) ts ≡ fs
  field_are [] [] known each = refl
  field_are [] (f ∷ fs) known each = absurd each
  field_are (t ∷ ts) [] known each = absurd each
  field_are (t ∷ ts) (f ∷ fs) known each =
      let parts = and_parts (kind_known reg f.kind) (list_all (kind_known reg) (map (λ (g : uno.Field). g.kind) fs)) known in
      let type : type_meant ds modules t.type ≡ f.kind = type_is ds reg has all modules t.type f.kind each.0.type parts.0 in
      let first : fields_meant ds modules t ≡ f ∷ [] = rw (each.0.names, type, each.0.name) refl in
      ap₂ (λ xs ys. xs ++ ys) first (field_are ts fs parts.1 each.1)

  -- ---- constructors

  given_before : (front : List tree.ConstructorParameter) (fs : List uno.Field) → Each WritesGiven front fs
      → (parameters_before front ≡ front) × (rest_parameter front ≡ None)
  given_before [] [] each = (refl, refl)
  given_before [] (f ∷ fs) each = absurd each
  given_before (p ∷ ps) [] each = absurd each
  given_before (p ∷ []) (f ∷ fs) each = (rw each.0.rest refl, rw each.0.rest refl)
  given_before (p ∷ (q ∷ ps)) (f ∷ fs) each = let rest = given_before (q ∷ ps) fs each.1 in (ap (λ xs. p ∷ xs) rest.0, rest.1)

  rest_behind : (front : List tree.ConstructorParameter) (r : tree.ConstructorParameter) → r.rest ≡ true
      → (parameters_before (front ++ r ∷ []) ≡ front) × (rest_parameter (front ++ r ∷ []) ≡ Some r.name.name)
  rest_behind [] r is = (rw is refl, rw is refl)
  rest_behind (p ∷ []) r is = (rw is refl, rw is refl)
  rest_behind (p ∷ (q ∷ ps)) r is = let rest = rest_behind (q ∷ ps) r is in (ap (λ xs. p ∷ xs) rest.0, rest.1)

  parameters_are : (front behind : List tree.ConstructorParameter) (fs : List uno.Field) (rest : Option (List ℕ)) → Each WritesGiven front fs
      → Each WritesRest behind (at_most_one rest)
      → (parameters_before (front ++ behind) ≡ front) × (rest_parameter (front ++ behind) ≡ rest)
  parameters_are front [] fs None given last =
      let both = given_before front fs given in (ap parameters_before (append-nil front) ∙ both.0, ap rest_parameter (append-nil front) ∙ both.1)
  parameters_are front [] fs (Some name) given last = absurd last
  parameters_are front (r ∷ rs) fs None given last = absurd last
  parameters_are front (r ∷ []) fs (Some name) given last =
      let both = rest_behind front r last.0.rest in (both.0, both.1 ∙ ap (λ n. Some n) last.0.name)
  parameters_are front (r ∷ (s ∷ rs)) fs (Some name) given last = absurd last.1

  given_meant : tree.ConstructorParameter → uno.Field
  given_meant p = record { name = p.name.name; kind = type_meant ds modules p.type }

  constructor_is : (t : tree.Constructor) (c : uno.Constructor) → WritesConstructor t c → kinds_known (map (λ p. p.kind) c.params)
      → constructor_meant ds modules t ≡ c
  unfolding given_meant
  constructor_is t c writes known =
      let both = parameters_are writes.front writes.behind c.params c.rest writes.given writes.rest in
      let before : parameters_before t.parameters ≡ writes.front = ap parameters_before writes.split ∙ both.0 in
      let rest : rest_parameter t.parameters ≡ c.rest = ap rest_parameter writes.split ∙ both.1 in
      let given : map given_meant (parameters_before t.parameters) ≡ c.params =
      ap (map given_meant) before
      ∙ each_is WritesGiven given_meant writes.front c.params
      (λ u f in' w. ap₂ (λ (n : List ℕ) (k : Kind). record { name = n; kind = k }) w.name
      (type_is ds reg has all modules u.type f.kind w.type (all_in_map (kind_known reg) (λ (g : uno.Field). g.kind) c.params f known in'))) writes.given in
      rw (writes.name, given, rest, names_are ds modules t.raises c.raises writes.raises) refl

  -- ---- parts of services

  part_is : (t : tree.ServiceMember) (p : uno.Part) → WritesPart t p → kinds_known (property_kinds p) → part_meant ds modules t ≡ p
  part_is (tree.face optional path) p (name, is, writes) known = ap (uno.face optional) (name_is ds modules path name writes) ∙ sym is
  part_is (tree.subservice optional path) p (name, is, writes) known = ap (uno.subservice optional) (name_is ds modules path name writes) ∙ sym is
  part_is (tree.property t) p (name, flags, k, is, writes) known =
      let kind : kinds_known (k ∷ []) = subst (λ n. kinds_known (property_kinds n)) is known in
      let type : type_meant ds modules t.type ≡ k = type_is ds reg has all modules t.type k writes.type (and_parts (kind_known reg k) true kind).0 in
      rw (writes.name, writes.flags, flags_are flags, type) (sym is)

-- ---- the implicit constructor

created : (name : List ℕ) (params : List uno.Field) (rest : Option (List ℕ)) (raises : List (List ℕ)) → name ≡ codes "create" → not (is_some_list params) ≡ true
    → is_none rest ≡ true
    → not (is_some_list raises) ≡ true → ◌≡◌ {A = uno.Constructor} (record { name = name; params = params; rest = rest; raises = raises }) create
created name [] None [] is params rest raises = ap (λ (n : List ℕ). record { name = n; params = []; rest = None; raises = [] }) is
created name (p ∷ ps) rest' raises' is params rest raises = absurd (both_ways false refl params)
created name [] (Some n) raises' is params rest raises = absurd (both_ways false refl rest)
created name [] None (n ∷ ns) is params rest raises = absurd (both_ways false refl raises)

implicit_is : (c : uno.Constructor) → is_implicit c ≡ true → c ≡ create
implicit_is c is =
    let named = and_parts (bytes_eq c.name (codes "create")) (not (is_some_list c.params) && (is_none c.rest && not (is_some_list c.raises))) is in
    let params = and_parts (not (is_some_list c.params)) (is_none c.rest && not (is_some_list c.raises)) named.1 in
    let rest = and_parts (is_none c.rest) (not (is_some_list c.raises)) params.1 in
    created c.name c.params c.rest c.raises ((bytes_eq-Decides c.name (codes "create")).0 named.0) params.0 rest.0 rest.1

with_create_is : (cs : List uno.Constructor) → is_some_list cs ≡ true → with_create (constructors_written cs) ≡ cs
unfolding with_create
with_create_is [] some = absurd (both_ways false refl some)
with_create_is (c ∷ []) some = by_test (is_implicit c) refl
  where
    by_test : (b : Bool) → is_implicit c ≡ b → with_create (if b then [] else c ∷ []) ≡ c ∷ []
    by_test true is = ap (λ x. x ∷ []) (sym (implicit_is c is))
    by_test false is = refl
with_create_is (c ∷ (d ∷ cs)) some = refl

-- what holds of the types of all constructors holds of those of the written ones
written_known : (reg : List Entity) (cs : List uno.Constructor) (c : uno.Constructor)
    → list_all (kind_known reg) (flat_map (λ (d : uno.Constructor). map (λ p. p.kind) d.params) cs) ≡ true
    → Contains (constructors_written cs) c → list_all (kind_known reg) (map (λ (p : uno.Field). p.kind) c.params) ≡ true
written_known reg cs c known in' = by_test (is_implicit_alone cs) in'
  where
    by_test : (b : Bool) → Contains (if b then [] else cs) c → list_all (kind_known reg) (map (λ (p : uno.Field). p.kind) c.params) ≡ true
    by_test true there = absurd (omega (arith, there.1))
    by_test false there = all_in_flat (kind_known reg) (λ (d : uno.Constructor). map (λ (p : uno.Field). p.kind) d.params) cs c known there

-- ---- numbers

module _ (ds : List Declared) (reg : List Entity) (has : HasBuiltIn reg) (all : Each WritesDeclared ds (written reg)) (d : Declared) where
  abbrev valued_item : Origin → tree.Item → Valued
  valued_item without t = record { owner = full_name d; name = t.name; scope = scope_of d; origin = item_origin without t.value }

  item_is : (without : Origin) (t : tree.Item) (i : uno.Item) → WritesItem t i → is_long i.number ≡ true
      → item_meant (all_valued ds) (valued_item without t) ≡ i
  item_is without t i writes long =
      ap₂ (λ (n : List ℕ) (z : ℤ). record { name = n; number = z }) writes.name
      (ap (λ o. unwrap_or o (pos 0)) (value_is (all_valued ds) (valued_item without t) i.number (ap (item_origin without) writes.value)
      (long_is_wide i.number long)))

  items_are : (without : Origin) (ts : List tree.Item) (is : List uno.Item) → Each WritesItem ts is → list_all (λ i. is_long i.number) is ≡ true
      → map (item_meant (all_valued ds)) (items_valued d without ts) ≡ is
  unfolding items_valued
  items_are without [] [] each long = refl
  items_are without [] (i ∷ is) each long = absurd each
  items_are without (t ∷ ts) [] each long = absurd each
  items_are without (t ∷ ts) (i ∷ is) each long =
      let parts = and_parts (is_long i.number) (list_all (λ (j : uno.Item). is_long j.number) is) long in
      ap₂ (λ (x : uno.Item) xs. x ∷ xs) (item_is without t i each.0 parts.0) (items_are (item_before t.name.place) ts is each.1 parts.1)

  constants_are : (ts : List tree.Constant) (cs : List uno.Constant) → Each WritesConstant ts cs → list_all (λ c. is_in_range c.kind c.number) cs ≡ true
      → list_all (kind_known reg) (map (λ c. c.kind) cs) ≡ true
      → map (constant_meant ds d) ts ≡ cs
  constants_are ts cs each ranges known =
      each_is WritesConstant (constant_meant ds d) ts cs
      (λ t c in' w. constant_is t c w (all_at (λ (e : uno.Constant). is_in_range e.kind e.number) cs c ranges in')
      (all_in_map (kind_known reg) (λ (e : uno.Constant). e.kind) cs c known in')) each
    where
      constant_is : (t : tree.Constant) (c : uno.Constant) → WritesConstant t c → is_in_range c.kind c.number ≡ true → kind_known reg c.kind ≡ true
          → constant_meant ds d t ≡ c
      constant_is t c w range there =
          let type : type_meant ds d.modules t.type ≡ c.kind = type_is ds reg has all d.modules t.type c.kind w.type there in
          let number : number_meant (all_valued ds) (constant_valued d t) ≡ c.number =
          ap (λ o. unwrap_or o (pos 0))
          (value_is (all_valued ds) (constant_valued d t) c.number (ap expression w.value) (ranged_is_wide c.kind c.number range)) in
          rw (number, type, w.name) refl

  -- ---- bodies

  -- an interface that is not built in has a base that is not optional
  base_there : (name : List ℕ) (bases : List uno.Base) → is_built_in_name name ≡ false
      → (bytes_eq name x_interface_name || is_some_list (mandatory_bases bases)) ≡ true
      → is_some_list (mandatory_bases bases) ≡ true
  base_there name bases own complete =
      let other : bytes_eq name x_interface_name ≡ false = (own_differs x_interface name (4, omega arith, refl) own).1 in
      rw other at complete

  root_is : (bases : List uno.Base) → is_some_list (mandatory_bases bases) ≡ true → with_root bases ≡ bases
  unfolding with_root
  root_is bases some = rw some refl

  abbrev entity_of : List ℕ → Body → Entity
  entity_of name body = record { name = name; published = true; body = body }

  pub body_is : (name : List ℕ) (decl : Declaration) (body : Body) → is_built_in_name name ≡ false → WritesBody decl body → types_known reg body ≡ true
      → is_complete (entity_of name body) ≡ true
      → items_are_long body ≡ true → body_is_in_range body ≡ true → body_meant ds d decl ≡ body
  unfolding body_meant WritesBody
  body_is name tree.forward body own writes known complete long range = absurd writes
  body_is name (tree.interface base members) body own (bases, ms, same, writes) known complete long range =
      let parts = known_parts reg (uno.interface bases ms) (subst (λ b. types_known reg b ≡ true) same known) in
      let root = root_is bases (base_there name bases own (subst (λ b. is_complete (entity_of name b) ≡ true) same complete)) in
      let declares : filter_map (member_meant ds d.modules) members ≡ ms =
      ap (filter_map (member_meant ds d.modules)) writes.split ∙ filter_map-append (member_meant ds d.modules) writes.front writes.behind
      ∙ ap₂ (λ xs ys. xs ++ ys) (no_members ds d.modules writes.front (bases_among_members bases) writes.inside)
      (members_are ds reg has all d.modules writes.behind ms
      (λ m in'. (
        all_in_flat (kind_known reg) value_kinds_of ms m parts.0 in',
        all_in_flat (kind_known reg) result_kinds_of ms m parts.1 in',
      )) writes.declares) in
      ap₂ uno.interface (ap with_root (bases_are ds d.modules base members bases ms writes) ∙ root) declares ∙ sym same
  body_is name (tree.struct base members) body own (of, fields, same, from, writes) known complete long range =
      let parts = known_parts reg (uno.struct of fields) (subst (λ b. types_known reg b ≡ true) same known) in
      ap₂ uno.struct (base_is ds d.modules base of from) (field_are ds reg has all d.modules members fields parts.0 writes) ∙ sym same
  body_is name (tree.exception base members) body own (of, fields, same, from, writes) known complete long range =
      let parts = known_parts reg (uno.exception of fields) (subst (λ b. types_known reg b ≡ true) same known) in
      ap₂ uno.exception (base_is ds d.modules base of from) (field_are ds reg has all d.modules members fields parts.0 writes) ∙ sym same
  body_is name (tree.enum ts) body own (items, same, writes) known complete long range =
      ap uno.enum (items_are first_item ts items writes (subst (λ b. items_are_long b ≡ true) same long)) ∙ sym same
  body_is name (tree.constants ts) body own (cs, same, writes) known complete long range =
      let parts = known_parts reg (uno.constants cs) (subst (λ b. types_known reg b ≡ true) same known) in
      ap uno.constants (constants_are ts cs writes (subst (λ b. body_is_in_range b ≡ true) same range) parts.0) ∙ sym same
  body_is name (tree.typedef t) body own (k, same, writes) known complete long range =
      let parts = known_parts reg (uno.typedef k) (subst (λ b. types_known reg b ≡ true) same known) in
      ap uno.typedef (type_is ds reg has all d.modules t k writes (and_parts (kind_known reg k) true parts.2).0) ∙ sym same
  body_is name (tree.new_service path ts) body own (base, cs, same, from, writes) known complete long range =
      let parts = known_parts reg (uno.new_service base cs) (subst (λ b. types_known reg b ≡ true) same known) in
      let constructors : map (constructor_meant ds d.modules) ts ≡ constructors_written cs =
      each_is WritesConstructor (constructor_meant ds d.modules) ts (constructors_written cs)
      (λ t c in' w. constructor_is ds reg has all d.modules t c w (written_known reg cs c parts.0 in')) writes in
      ap₂ uno.new_service (name_is ds d.modules path base from)
      (ap with_create constructors ∙ with_create_is cs (subst (λ b. is_complete (entity_of name b) ≡ true) same complete)) ∙ sym same
  body_is name (tree.old_service ts) body own (ps, same, writes) known complete long range =
      let parts = known_parts reg (uno.old_service ps) (subst (λ b. types_known reg b ≡ true) same known) in
      ap uno.old_service
      (each_is WritesPart (part_meant ds d.modules) ts ps
      (λ t p in' w. part_is ds reg has all d.modules t p w (all_in_flat (kind_known reg) property_kinds ps p parts.0 in')) writes) ∙ sym same
  body_is name (tree.new_singleton path) body own (base, same, writes) known complete long range =
      ap uno.new_singleton (name_is ds d.modules path base writes) ∙ sym same
  body_is name (tree.old_singleton path) body own (service, same, writes) known complete long range =
      ap uno.old_singleton (name_is ds d.modules path service writes) ∙ sym same
