-- The names that a declaration uses that writes an entity stand for entities, and none of its types is float or double.
use Rattle.std.proofs.Common.{◌≡◌, ℕ, ℤ, Bool, true, false, List, [], ◌∷◌, ◌++◌, map, Option, None, Some, is_some, Contains, refl, sym, ap, ◌∙◌, subst}
use Rattle.std.proofs.Common.{if◌then◌else◌, arith}
use Rattle.std.specs.List.{AllByRecursion, list_all, flat_map}
use Rattle.std.specs.Option.{option_to_list}
use Rattle.std.proofs.lemmas.Bool.{and_parts, and_from}
use Rattle.std.proofs.lemmas.List.Folds.{list_all-append, list_all-map}
use Rattle.std.proofs.lemmas.Grind.{flat_map-append}
use Rattle.uno_model.specs.BuiltIn.{HasBuiltIn}
use Rattle.uno_model.specs.Entities.{Entity, Body}
use Rattle.uno_model.specs.Entities as uno
use Rattle.uno_model.specs.Kinds.{Kind}
use Rattle.uno_model.specs.Kinds as kd
use Rattle.uno_model.specs.Registry.{at_most_one}
use Rattle.uno_model.specs.Sound.{is_interface, is_struct, is_exception, is_service, is_there, kind_known, bases_known, raises_known, services_known}
use Rattle.uno_model.specs.Sound.{types_known}
use Rattle.uno_model.specs.Uses.{raised_by, interfaces_of_part, services_of_part, interfaces_used, services_used, value_kinds_of, result_kinds_of}
use Rattle.uno_model.specs.Uses.{property_kinds}
use Rattle.uno_model.proofs.CircleLaws.{all_at}
use Rattle.uno_model.proofs.PlaceLaws.{contains_head, contains_behind}
use Rattle.registry_text_model.specs.Canonical.{is_only_base, is_implicit_alone}
use Rattle.registry_text_model.specs.Lines.{written}
use Rattle.idl_model.specs.Trees.{Path, WrittenType, Declaration}
use Rattle.idl_model.specs.Trees as tree
use Rattle.idl_meaning_model.specs.Declarations.{Declared, Scope}
use Rattle.idl_meaning_model.specs.Uses.{Used, an_entity, a_value, type_paths, accessor_raises, member_paths, constructor_paths, service_paths, entity_paths}
use Rattle.idl_meaning_model.specs.Uses.{value_paths, used_in, used_meant}
use Rattle.idl_meaning_model.specs.Uses.{member_types, service_types, types_in}
use Rattle.idl_meaning_model.proofs.EachLaws.{each_append}
use Rattle.canonical_laws.specs.Written.{Each, WritesName, WritesType, WritesRaised, WritesParameter, WritesMember, WritesBase, bases_behind_colon}
use Rattle.canonical_laws.specs.Written.{bases_among_members}
use Rattle.canonical_laws.specs.Written.{WritesField, WritesBaseOf, WritesItem, WritesConstant, WritesGiven, WritesRest, WritesConstructor}
use Rattle.canonical_laws.specs.Written.{constructors_written, WritesPart, WritesBody, expression_of}
use Rattle.canonical_laws.proofs.LiteralValues.{no_paths}
use Rattle.canonical_laws.proofs.WrittenNames.{WritesDeclared, known, path_known}
use Rattle.canonical_laws.proofs.WrittenTypes.{type_known}
use Rattle.canonical_laws.proofs.WrittenBodies.{flat_all, all_in_flat, all_in_map, known_parts}

-- ---- lists

module _ {X Y : Type 0} (R : X → Y → Type 0) where
  -- each passes whose other passes
  pub each_passes : (p : X → Bool) (xs : List X) (ys : List Y) → ((x : X) (y : Y) → Contains ys y → R x y → p x ≡ true) → Each R xs ys → list_all p xs ≡ true
  each_passes p [] ys passes each = refl
  each_passes p (x ∷ xs) [] passes each = absurd each
  each_passes p (x ∷ xs) (y ∷ ys) passes each =
      and_from (p x) (list_all p xs) (passes x y (contains_head y ys) each.0)
      (each_passes p xs ys (λ v w in' r. passes v w (contains_behind y ys w in') r) each.1)

  -- and all that comes of each
  pub all_pass : {Z : Type 0} (p : Z → Bool) (f : X → List Z) (xs : List X) (ys : List Y) → ((x : X) (y : Y) → Contains ys y → R x y → list_all p (f x) ≡ true)
      → Each R xs ys → list_all p (flat_map f xs) ≡ true
  all_pass p f xs ys passes each = flat_all p f xs ∙ each_passes (λ x. list_all p (f x)) xs ys passes each

  pub each_holds : {Z : Type 0} (P : Z → Type 0) (f : X → List Z) (xs : List X) (ys : List Y) → ((x : X) (y : Y) → R x y → AllByRecursion P (f x))
      → Each R xs ys → AllByRecursion P (flat_map f xs)
  each_holds P f [] ys holds each = tt
  each_holds P f (x ∷ xs) [] holds each = absurd each
  each_holds P f (x ∷ xs) (y ∷ ys) holds each = each_append P (f x) (flat_map f xs) (holds x y each.0) (each_holds P f xs ys holds each.1)

  pub each_mapped : {Z : Type 0} (P : Z → Type 0) (f : X → Z) (xs : List X) (ys : List Y) → ((x : X) (y : Y) → R x y → P (f x)) → Each R xs ys
      → AllByRecursion P (map f xs)
  each_mapped P f [] ys holds each = tt
  each_mapped P f (x ∷ xs) [] holds each = absurd each
  each_mapped P f (x ∷ xs) (y ∷ ys) holds each = (holds x y each.0, each_mapped P f xs ys holds each.1)

pub all_joined : {X : Type 0} (p : X → Bool) (xs ys : List X) → list_all p xs ≡ true → list_all p ys ≡ true → list_all p (xs ++ ys) ≡ true
all_joined p xs ys first second = list_all-append p xs ys ∙ and_from (list_all p xs) (list_all p ys) first second

pub all_parted : {X : Type 0} (p : X → Bool) (xs ys : List X) → list_all p (xs ++ ys) ≡ true → (list_all p xs ≡ true) × (list_all p ys ≡ true)
all_parted p xs ys all = and_parts (list_all p xs) (list_all p ys) (sym (list_all-append p xs ys) ∙ all)

-- a constructor that is written is one
pub in_written : (cs : List uno.Constructor) (c : uno.Constructor) → Contains (constructors_written cs) c → Contains cs c
in_written cs c in' = by_test (is_implicit_alone cs) in'
  where
    by_test : (b : Bool) → Contains (if b then [] else cs) c → Contains cs c
    by_test true there = absurd (omega (arith, there.1))
    by_test false there = there

-- ---- types

-- a type is that of a registry
abbrev pub IsWritten : WrittenType → Type 0
IsWritten t = (k : Kind) × WritesType t k

member_written : (t : tree.InterfaceMember) (m : uno.Member) → WritesMember t m → AllByRecursion IsWritten (member_types t)
member_written (tree.base_member optional path) m writes = absurd writes
member_written (tree.attribute t) m (a, is, writes) = ((a.kind, writes.type), tt)
member_written (tree.method t) m (o, is, writes) = (
  (o.result_kind, writes.result),
  each_mapped WritesParameter IsWritten (λ (p : tree.Parameter). p.type) t.parameters o.params
      (λ u p w. (p.kind, w.type)) writes.parameters,
)

base_written : (t : tree.InterfaceMember) (b : uno.Base) → WritesBase t b → AllByRecursion IsWritten (member_types t)
base_written (tree.base_member optional path) b writes = tt
base_written (tree.attribute t) b writes = absurd writes
base_written (tree.method t) b writes = absurd writes

part_written : (t : tree.ServiceMember) (p : uno.Part) → WritesPart t p → AllByRecursion IsWritten (service_types t)
part_written (tree.face optional path) p writes = tt
part_written (tree.subservice optional path) p writes = tt
part_written (tree.property t) p (name, flags, k, is, writes) = ((k, writes.type), tt)

constructor_written : (t : tree.Constructor) (c : uno.Constructor) → WritesConstructor t c
    → AllByRecursion IsWritten (map (λ (p : tree.ConstructorParameter). p.type) t.parameters)
constructor_written t c writes =
    subst (λ ps. AllByRecursion IsWritten (map (λ (p : tree.ConstructorParameter). p.type) ps)) (sym writes.split) (both writes.front c.params writes.given)
  where
    both : (front : List tree.ConstructorParameter) (fs : List uno.Field) → Each WritesGiven front fs
        → AllByRecursion IsWritten (map (λ (p : tree.ConstructorParameter). p.type) (front ++ writes.behind))
    both [] fs each =
        each_mapped WritesRest IsWritten (λ (p : tree.ConstructorParameter). p.type) writes.behind (at_most_one c.rest) (λ u n w. (kd.any, w.type)) writes.rest
    both (p ∷ ps) [] each = absurd each
    both (p ∷ ps) (f ∷ fs) each = ((f.kind, each.0.type), both ps fs each.1)

pub types_written : (decl : Declaration) (body : Body) → WritesBody decl body → AllByRecursion IsWritten (types_in decl)
unfolding types_in WritesBody
types_written tree.forward body writes = absurd writes
types_written (tree.interface base members) body (bases, own, same, writes) =
    subst (λ ms. AllByRecursion IsWritten (flat_map member_types ms)) (sym writes.split) (both writes.front (bases_among_members bases) writes.inside)
  where
    both : (front : List tree.InterfaceMember) (bs : List uno.Base) → Each WritesBase front bs
        → AllByRecursion IsWritten (flat_map member_types (front ++ writes.behind))
    both [] bs each = each_holds WritesMember IsWritten member_types writes.behind own member_written writes.declares
    both (t ∷ ts) [] each = absurd each
    both (t ∷ ts) (b ∷ bs) each =
        each_append IsWritten (member_types t) (flat_map member_types (ts ++ writes.behind)) (base_written t b each.0) (both ts bs each.1)
types_written (tree.struct base members) body (of, fields, same, from, writes) =
    each_mapped WritesField IsWritten (λ (m : tree.Fields). m.type) members fields (λ t f w. (f.kind, w.type)) writes
types_written (tree.exception base members) body (of, fields, same, from, writes) =
    each_mapped WritesField IsWritten (λ (m : tree.Fields). m.type) members fields (λ t f w. (f.kind, w.type)) writes
types_written (tree.enum ts) body writes = tt
types_written (tree.constants ts) body (cs, same, writes) =
    each_mapped WritesConstant IsWritten (λ (c : tree.Constant). c.type) ts cs (λ t c w. (c.kind, w.type)) writes
types_written (tree.typedef t) body (k, same, writes) = ((k, writes), tt)
types_written (tree.new_service path ts) body (base, cs, same, from, writes) =
    each_holds WritesConstructor IsWritten (λ (c : tree.Constructor). map (λ p. p.type) c.parameters) ts (constructors_written cs) constructor_written writes
types_written (tree.old_service ts) body (ps, same, writes) = each_holds WritesPart IsWritten service_types ts ps part_written writes
types_written (tree.new_singleton path) body writes = tt
types_written (tree.old_singleton path) body writes = tt

-- ---- names

module _ (ds : List Declared) (reg : List Entity) (has : HasBuiltIn reg) (all : Each WritesDeclared ds (written reg)) (modules : List (List ℕ)) where
  abbrev here : Path → Bool
  here path = known ds modules path

  abbrev are_known : List Path → Type 0
  are_known paths = list_all here paths ≡ true

  paths_known : (wanted : Body → Bool) (paths : List Path) (names : List (List ℕ)) → list_all (is_there reg wanted) names ≡ true → Each WritesName paths names
      → are_known paths
  paths_known wanted paths names there each =
      each_passes WritesName here paths names
      (λ path name in' w. path_known ds reg has all modules path name wanted w (all_at (is_there reg wanted) names name there in')) each

  raised_known : (o : Option (List Path)) (names : List (List ℕ)) → list_all (is_there reg is_exception) names ≡ true → WritesRaised o names
      → are_known (accessor_raises o)
  raised_known None names there writes = refl
  raised_known (Some paths) names there writes = paths_known is_exception paths names there writes.1

  type_here : (t : WrittenType) (k : Kind) → WritesType t k → kind_known reg k ≡ true → are_known (type_paths t)
  type_here t k writes there = type_known ds reg has all modules t k writes there

  abbrev kinds_are : List Kind → Type 0
  kinds_are ks = list_all (kind_known reg) ks ≡ true

  abbrev raises_are : List (List ℕ) → Type 0
  raises_are names = list_all (is_there reg is_exception) names ≡ true

  -- ---- interfaces

  member_known : (t : tree.InterfaceMember) (m : uno.Member) → WritesMember t m → kinds_are (value_kinds_of m) → kinds_are (result_kinds_of m)
      → raises_are (raised_by m) → are_known (member_paths t)
  member_known (tree.base_member optional path) m writes values results raises = absurd writes
  member_known (tree.attribute t) m (a, is, writes) values results raises =
      let kind : kinds_are (a.kind ∷ []) = subst (λ n. kinds_are (value_kinds_of n)) is values in
      let names = all_parted (is_there reg is_exception) a.get_raises a.set_raises (subst (λ n. raises_are (raised_by n)) is raises) in
      all_joined here (type_paths t.type) (accessor_raises t.get ++ accessor_raises t.set)
      (type_here t.type a.kind writes.type (and_parts (kind_known reg a.kind) true kind).0)
      (all_joined here (accessor_raises t.get) (accessor_raises t.set) (raised_known t.get a.get_raises names.0 writes.get)
      (raised_known t.set a.set_raises names.1 writes.set))
  member_known (tree.method t) m (o, is, writes) values results raises =
      let params : kinds_are (map (λ p. p.kind) o.params) = subst (λ n. kinds_are (value_kinds_of n)) is values in
      let result : kinds_are (o.result_kind ∷ []) = subst (λ n. kinds_are (result_kinds_of n)) is results in
      let names : raises_are o.raises = subst (λ n. raises_are (raised_by n)) is raises in
      all_joined here (type_paths t.result_type) (flat_map (λ (p : tree.Parameter). type_paths p.type) t.parameters ++ t.raises)
      (type_here t.result_type o.result_kind writes.result (and_parts (kind_known reg o.result_kind) true result).0)
      (all_joined here (flat_map (λ (p : tree.Parameter). type_paths p.type) t.parameters) t.raises
      (all_pass WritesParameter here (λ (p : tree.Parameter). type_paths p.type) t.parameters o.params
      (λ u p in' w. type_here u.type p.kind w.type (all_in_map (kind_known reg) (λ (q : uno.Param). q.kind) o.params p params in')) writes.parameters)
      (paths_known is_exception t.raises o.raises names writes.raises))

  base_known : (t : tree.InterfaceMember) (b : uno.Base) → WritesBase t b → is_there reg is_interface b.name ≡ true → are_known (member_paths t)
  base_known (tree.base_member optional path) b writes there =
      and_from (here path) true (path_known ds reg has all modules path b.name is_interface writes.1 there) refl
  base_known (tree.attribute t) b writes there = absurd writes
  base_known (tree.method t) b writes there = absurd writes

  abbrev bases_are : List uno.Base → Type 0
  bases_are bases = list_all (λ (b : uno.Base). is_there reg is_interface b.name) bases ≡ true

  behind_known : (bases : List uno.Base) → bases_are bases → list_all (is_there reg is_interface) (bases_behind_colon bases) ≡ true
  behind_known bases there = by_test (is_only_base bases)
    where
      by_test : (b : Bool) → list_all (is_there reg is_interface) (if b then map (λ (x : uno.Base). x.name) bases else []) ≡ true
      by_test true = list_all-map (is_there reg is_interface) (λ (x : uno.Base). x.name) bases ∙ there
      by_test false = refl

  among_known : (bases : List uno.Base) → bases_are bases → bases_are (bases_among_members bases)
  among_known bases there = by_test (is_only_base bases)
    where
      by_test : (b : Bool) → bases_are (if b then [] else bases)
      by_test true = refl
      by_test false = there

  -- ---- structs and exceptions

  fields_known : (wanted : Body → Bool) (base : Option Path) (members : List tree.Fields) (of : Option (List ℕ)) (fields : List uno.Field)
      → list_all (is_there reg wanted) (at_most_one of) ≡ true
      → kinds_are (map (λ f. f.kind) fields) → WritesBaseOf base of → Each WritesField members fields
      → are_known (option_to_list base ++ flat_map (λ m. type_paths m.type) members)
  fields_known wanted base members of fields there kinds from writes =
      all_joined here (option_to_list base) (flat_map (λ (m : tree.Fields). type_paths m.type) members)
      (paths_known wanted (option_to_list base) (at_most_one of) there from)
      (all_pass WritesField here (λ (m : tree.Fields). type_paths m.type) members fields
      (λ t f in' w. type_here t.type f.kind w.type (all_in_map (kind_known reg) (λ (g : uno.Field). g.kind) fields f kinds in')) writes)

  -- ---- services

  constructor_known : (t : tree.Constructor) (c : uno.Constructor) → WritesConstructor t c → kinds_are (map (λ p. p.kind) c.params) → raises_are c.raises
      → are_known (constructor_paths t)
  constructor_known t c writes kinds raises =
      let given = all_pass WritesGiven here (λ (p : tree.ConstructorParameter). type_paths p.type) writes.front c.params
      (λ u f in' w. type_here u.type f.kind w.type (all_in_map (kind_known reg) (λ (g : uno.Field). g.kind) c.params f kinds in')) writes.given in
      let rest =
      all_pass WritesRest here (λ (p : tree.ConstructorParameter). type_paths p.type) writes.behind (at_most_one c.rest)
      (λ u n in' w. type_here u.type kd.any w.type refl) writes.rest in
      let both : are_known (flat_map (λ (p : tree.ConstructorParameter). type_paths p.type) t.parameters) =
      ap (λ ps. list_all here (flat_map (λ (p : tree.ConstructorParameter). type_paths p.type) ps)) writes.split
      ∙ ap (list_all here) (flat_map-append (λ (p : tree.ConstructorParameter). type_paths p.type) writes.front writes.behind)
      ∙ all_joined here (flat_map (λ (p : tree.ConstructorParameter). type_paths p.type) writes.front)
      (flat_map (λ (p : tree.ConstructorParameter). type_paths p.type) writes.behind) given rest in
      all_joined here (flat_map (λ (p : tree.ConstructorParameter). type_paths p.type) t.parameters) t.raises both
      (paths_known is_exception t.raises c.raises raises writes.raises)

  part_known : (t : tree.ServiceMember) (p : uno.Part) → WritesPart t p → list_all (is_there reg is_interface) (interfaces_of_part p) ≡ true
      → list_all (is_there reg is_service) (services_of_part p) ≡ true
      → kinds_are (property_kinds p) → are_known (service_paths t)
  part_known (tree.face optional path) p (name, is, writes) faces services kinds =
      paths_known is_interface (path ∷ []) (name ∷ []) (subst (λ n. list_all (is_there reg is_interface) (interfaces_of_part n) ≡ true) is faces) (writes, tt)
  part_known (tree.subservice optional path) p (name, is, writes) faces services kinds =
      paths_known is_service (path ∷ []) (name ∷ []) (subst (λ n. list_all (is_there reg is_service) (services_of_part n) ≡ true) is services) (writes, tt)
  part_known (tree.property t) p (name, flags, k, is, writes) faces services kinds =
      let kind : kinds_are (k ∷ []) = subst (λ n. kinds_are (property_kinds n)) is kinds in
      type_here t.type k writes.type (and_parts (kind_known reg k) true kind).0

  -- ---- what a declaration uses

  abbrev stands : Scope → Used → Bool
  stands scope u = is_some (used_meant ds scope u)

  entities_stand : (scope : Scope) (paths : List Path) → scope.modules ≡ modules → are_known paths → list_all (stands scope) (entity_paths paths) ≡ true
  entities_stand scope paths is there =
      list_all-map (stands scope) an_entity paths ∙ subst (λ ms. list_all (λ path. known ds ms path) paths ≡ true) (sym is) there

  nothing_valued : (n : ℤ) → value_paths (expression_of n) ≡ []
  nothing_valued n = ap (map a_value) (no_paths n)

  item_stands : (scope : Scope) (t : tree.Item) (i : uno.Item) → WritesItem t i → list_all (stands scope) (flat_map value_paths (option_to_list t.value)) ≡ true
  item_stands scope t i writes =
      ap (λ o. list_all (stands scope) (flat_map value_paths (option_to_list o))) writes.value
      ∙ ap (λ us. list_all (stands scope) (us ++ [])) (nothing_valued i.number)

  constant_stands : (scope : Scope) (t : tree.Constant) (c : uno.Constant) → scope.modules ≡ modules → WritesConstant t c → kind_known reg c.kind ≡ true
      → list_all (stands scope) (entity_paths (type_paths t.type) ++ value_paths t.value) ≡ true
  constant_stands scope t c is writes there =
      all_joined (stands scope) (entity_paths (type_paths t.type)) (value_paths t.value)
      (entities_stand scope (type_paths t.type) is (type_here t.type c.kind writes.type there))
      (ap (λ e. list_all (stands scope) (value_paths e)) writes.value ∙ ap (list_all (stands scope)) (nothing_valued c.number))

  pub body_stands : (scope : Scope) (decl : Declaration) (body : Body) → scope.modules ≡ modules → WritesBody decl body → bases_known reg body ≡ true
      → raises_known reg body ≡ true
      → services_known reg body ≡ true → types_known reg body ≡ true → list_all (stands scope) (used_in decl) ≡ true
  unfolding used_in WritesBody
  body_stands scope tree.forward body is writes bases raises services types = absurd writes
  body_stands scope (tree.interface base members) body is (bs, ms, same, writes) bases raises services types =
      let parts = known_parts reg (uno.interface bs ms) (subst (λ b. types_known reg b ≡ true) same types) in
      let there : bases_are bs = subst (λ b. bases_known reg b ≡ true) same bases in
      let raised = subst (λ b. raises_known reg b ≡ true) same raises in
      let inside = all_pass WritesBase here member_paths writes.front (bases_among_members bs)
      (λ t b in' w. base_known t b w (all_at (λ (c : uno.Base). is_there reg is_interface c.name) (bases_among_members bs) b
      (among_known bs there) in')) writes.inside in
      let declares = all_pass WritesMember here member_paths writes.behind ms
      (λ t m in' w. member_known t m w (all_in_flat (kind_known reg) value_kinds_of ms m parts.0 in')
      (all_in_flat (kind_known reg) result_kinds_of ms m parts.1 in')
      (all_in_flat (is_there reg is_exception) raised_by ms m raised in')) writes.declares in
      let both : are_known (flat_map member_paths members) =
      ap (λ ts. list_all here (flat_map member_paths ts)) writes.split ∙ ap (list_all here) (flat_map-append member_paths writes.front writes.behind)
      ∙ all_joined here (flat_map member_paths writes.front) (flat_map member_paths writes.behind) inside declares in
      entities_stand scope (option_to_list base ++ flat_map member_paths members) is
      (all_joined here (option_to_list base) (flat_map member_paths members)
      (paths_known is_interface (option_to_list base) (bases_behind_colon bs) (behind_known bs there) writes.colon) both)
  body_stands scope (tree.struct base members) body is (of, fields, same, from, writes) bases raises services types =
      let parts = known_parts reg (uno.struct of fields) (subst (λ b. types_known reg b ≡ true) same types) in
      entities_stand scope (option_to_list base ++ flat_map (λ (m : tree.Fields). type_paths m.type) members) is
      (fields_known is_struct base members of fields (subst (λ b. bases_known reg b ≡ true) same bases) parts.0 from writes)
  body_stands scope (tree.exception base members) body is (of, fields, same, from, writes) bases raises services types =
      let parts = known_parts reg (uno.exception of fields) (subst (λ b. types_known reg b ≡ true) same types) in
      entities_stand scope (option_to_list base ++ flat_map (λ (m : tree.Fields). type_paths m.type) members) is
      (fields_known is_exception base members of fields (subst (λ b. bases_known reg b ≡ true) same bases) parts.0 from writes)
  body_stands scope (tree.enum ts) body is (items, same, writes) bases raises services types =
      all_pass WritesItem (stands scope) (λ (i : tree.Item). flat_map value_paths (option_to_list i.value)) ts items
      (λ t i in' w. item_stands scope t i w) writes
  body_stands scope (tree.constants ts) body is (cs, same, writes) bases raises services types =
      let parts = known_parts reg (uno.constants cs) (subst (λ b. types_known reg b ≡ true) same types) in
      all_pass WritesConstant (stands scope) (λ (c : tree.Constant). entity_paths (type_paths c.type) ++ value_paths c.value) ts cs
      (λ t c in' w. constant_stands scope t c is w (all_in_map (kind_known reg) (λ (e : uno.Constant). e.kind) cs c parts.0 in')) writes
  body_stands scope (tree.typedef t) body is (k, same, writes) bases raises services types =
      let parts = known_parts reg (uno.typedef k) (subst (λ b. types_known reg b ≡ true) same types) in
      entities_stand scope (type_paths t) is (type_here t k writes (and_parts (kind_known reg k) true parts.2).0)
  body_stands scope (tree.new_service path ts) body is (base, cs, same, from, writes) bases raises services types =
      let parts = known_parts reg (uno.new_service base cs) (subst (λ b. types_known reg b ≡ true) same types) in
      let raised = subst (λ b. raises_known reg b ≡ true) same raises in
      let used =
      and_parts (list_all (is_there reg is_interface) (interfaces_used (uno.new_service base cs)))
      (list_all (is_there reg is_service) (services_used (uno.new_service base cs)))
      (subst (λ b. services_known reg b ≡ true) same services) in
      let constructors = all_pass WritesConstructor here constructor_paths ts (constructors_written cs)
      (λ t c in' w. constructor_known t c w (all_in_flat (kind_known reg) (λ (d : uno.Constructor). map (λ (p : uno.Field). p.kind) d.params) cs c parts.0
      (in_written cs c in'))
      (all_in_flat (is_there reg is_exception) (λ (d : uno.Constructor). d.raises) cs c raised (in_written cs c in'))) writes in
      entities_stand scope (path ∷ flat_map constructor_paths ts) is
      (all_joined here (path ∷ []) (flat_map constructor_paths ts) (paths_known is_interface (path ∷ []) (base ∷ []) used.0 (from, tt)) constructors)
  body_stands scope (tree.old_service ts) body is (ps, same, writes) bases raises services types =
      let parts = known_parts reg (uno.old_service ps) (subst (λ b. types_known reg b ≡ true) same types) in
      let used =
      and_parts (list_all (is_there reg is_interface) (interfaces_used (uno.old_service ps)))
      (list_all (is_there reg is_service) (services_used (uno.old_service ps)))
      (subst (λ b. services_known reg b ≡ true) same services) in
      entities_stand scope (flat_map service_paths ts) is
      (all_pass WritesPart here service_paths ts ps
      (λ t p in' w. part_known t p w (all_in_flat (is_there reg is_interface) interfaces_of_part ps p used.0 in')
      (all_in_flat (is_there reg is_service) services_of_part ps p used.1 in')
      (all_in_flat (kind_known reg) property_kinds ps p parts.0 in')) writes)
  body_stands scope (tree.new_singleton path) body is (base, same, writes) bases raises services types =
      let used =
      and_parts (list_all (is_there reg is_interface) (interfaces_used (uno.new_singleton base)))
      (list_all (is_there reg is_service) (services_used (uno.new_singleton base)))
      (subst (λ b. services_known reg b ≡ true) same services) in
      entities_stand scope (path ∷ []) is (paths_known is_interface (path ∷ []) (base ∷ []) used.0 (writes, tt))
  body_stands scope (tree.old_singleton path) body is (service, same, writes) bases raises services types =
      let used =
      and_parts (list_all (is_there reg is_interface) (interfaces_used (uno.old_singleton service)))
      (list_all (is_there reg is_service) (services_used (uno.old_singleton service)))
      (subst (λ b. services_known reg b ≡ true) same services) in
      entities_stand scope (path ∷ []) is (paths_known is_service (path ∷ []) (service ∷ []) used.1 (writes, tt))
