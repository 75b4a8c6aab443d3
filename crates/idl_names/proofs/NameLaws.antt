-- Names of identifiers are looked for by the numbers of their paths.
use Rattle.std.proofs.Common.{◌≡◌, refl, sym, ap, ◌∙◌, ℕ, ◌==◌, Bool, true, false, not, ◌&&◌, ◌||◌, is_some, List, [], ◌∷◌, ◌++◌, map, slice_get, Option, None, Some, if◌then◌else◌}
use Rattle.std.specs.List.{AllByRecursion, find, flat_map, list_all, list_any}
use Rattle.std.specs.Str.{bytes_eq}
use Rattle.std.specs.Cmp.Lexicographic.{bytes_decides, nat_list_eq_equiv}
use Rattle.std.proofs.lemmas.Bool.{and_parts, eqb-true, eq-eqb, both_ways}
use Rattle.std.proofs.lemmas.List.{map-append}
use Rattle.std.proofs.lemmas.Option.{get_or_from_slice_get, slice_get_within}
use Rattle.uno_model.proofs.Options.{same_some}
use Rattle.uno_model.specs.BuiltIn.{built_in, base_exception, disposed_exception, factory, runtime_exception, x_interface, disposed_exception_name, factory_name, exception_name, runtime_exception_name, x_interface_name}
use Rattle.uno_model.specs.Entities.{Entity}
use Rattle.uno_model.specs.Registry.{find_entity}
use Rattle.uno_model.specs.Sound.{is_there, is_interface}
use Rattle.idl_meaning_model.specs.Declarations as model
use Rattle.idl_meaning_model.specs.Declarations.{dotted, full_name, is_forward, Valued, value_name, Origin, items_valued, constant_valued, valued_in, all_valued, first_item, item_before}
use Rattle.idl_meaning_model.specs.FromFiles.{are_identifiers}
use Rattle.idl_meaning_model.specs.Scopes.{declared_as, is_built_in, valued_as}
use Rattle.idl_model.specs.Trees.{Item, Constant, Declaration, forward, interface, struct, exception, enum, constants, typedef, new_service, old_service, new_singleton, old_singleton}
use Rattle.idl_names.specs.Opened.{AreAt, behind_all, built_in_exceptions, built_in_interfaces, own_path, value_ids, value_paths}
use Rattle.idl_names.specs.Paths.{Parts}
use Rattle.idl_names.specs.Standing.{AreOnce, IsNumberOf}
use Rattle.idl_names.proofs.TextLaws.{one_text}

-- ---- lists

pub found_any : {X : Type 0} (p : X → Bool) (xs : List X) → is_some (find p xs) ≡ list_any p xs
found_any p [] = refl
found_any p (x ∷ xs) = by_test (found_any p xs) (p x)
  where
    by_test : is_some (find p xs) ≡ list_any p xs → (b : Bool) → is_some (if b then Some x else find p xs) ≡ (b || list_any p xs)
    by_test rest true = refl
    by_test rest false = rest

pub any_mapped : {X Y : Type 0} (p : Y → Bool) (f : X → Y) (xs : List X) → list_any p (map f xs) ≡ list_any (λ x. p (f x)) xs
any_mapped p f [] = refl
any_mapped p f (x ∷ xs) = ap (λ b. p (f x) || b) (any_mapped p f xs)

pub any_same : {X : Type 0} (P : X → Type 0) (p q : X → Bool) → ((x : X) → P x → p x ≡ q x) → (xs : List X) → AllByRecursion P xs → list_any p xs ≡ list_any q xs
any_same P p q each [] all = refl
any_same P p q each (x ∷ xs) all = (λ i. each x all.0 i || any_same P p q each xs all.1 i)

-- ---- one path is looked for by its number

-- whether a number is that of the path
abbrev pub is_at : Option ℕ → ℕ → Bool
is_at None k = false
is_at (Some n) k = k == n

pub one_path_of_text : (p q : Parts) → are_identifiers p ≡ true → are_identifiers q ≡ true → dotted p ≡ dotted q → p ≡ q
one_path_of_text [] q first second same = absurd (cc)
one_path_of_text (x ∷ xs) [] first second same = absurd (cc)
one_path_of_text (x ∷ xs) (y ∷ ys) first second same = one_text x y xs ys first second same

module _ (paths : List Parts) (once : AreOnce paths) where
  pub same_name : (p q : Parts) (o : Option ℕ) (k : ℕ) → are_identifiers p ≡ true → are_identifiers q ≡ true → IsNumberOf paths p o → slice_get paths k ≡ Some q
      → bytes_eq (dotted p) (dotted q) ≡ is_at o k
  same_name p q None k first second none at = by_test (bytes_eq (dotted p) (dotted q)) refl
    where
      by_test : (b : Bool) → bytes_eq (dotted p) (dotted q) ≡ b → b ≡ false
      by_test false is = refl
      by_test true is =
          let same = one_path_of_text p q first second ((bytes_decides (dotted p) (dotted q)).0 is) in
          let here : slice_get paths k ≡ Some p = at ∙ ap Some (sym same) in
          absurd (none (k, slice_get_within paths k p here, get_or_from_slice_get paths k p p here))
  same_name p q (Some n) k first second is_n at = by_test (bytes_eq (dotted p) (dotted q)) refl (k == n) refl
    where
      by_test : (b : Bool) → bytes_eq (dotted p) (dotted q) ≡ b → (c : Bool) → (k == n) ≡ c → b ≡ c
      by_test true is true also = refl
      by_test false is false also = refl
      by_test true is false also =
          let same = one_path_of_text p q first second ((bytes_decides (dotted p) (dotted q)).0 is) in
          let one : k ≡ n = once k n p (at ∙ ap Some (sym same)) is_n in
          absurd (both_ways (k == n) also (eq-eqb k n one))
      by_test false is true also =
          let one : k ≡ n = eqb-true k n also in
          let same : p ≡ q = same_some (sym is_n ∙ ap (slice_get paths) (sym one) ∙ at) in
          absurd (both_ways (bytes_eq (dotted p) (dotted q)) is (ap (λ (z : Parts). bytes_eq (dotted p) (dotted z)) (sym same) ∙ nat_list_eq_equiv.refl (dotted p)))

  -- some of these names is that of the path
  pub any_at : (p : Parts) (o : Option ℕ) (ns : List ℕ) (qs : List Parts) → are_identifiers p ≡ true → IsNumberOf paths p o → list_all are_identifiers qs ≡ true → AreAt paths ns qs
      → list_any (λ q. bytes_eq (dotted p) (dotted q)) qs ≡ list_any (is_at o) ns
  unfolding AreAt
  any_at p o [] [] first number all at = refl
  any_at p o [] (q ∷ qs) first number all at = absurd at
  any_at p o (n ∷ ns) [] first number all at = absurd at
  any_at p o (n ∷ ns) (q ∷ qs) first number all at =
      let parts = and_parts (are_identifiers q) (list_all are_identifiers qs) all in
      let here = same_name p q o n first parts.0 number at.0 in
      let rest = any_at p o ns qs first number parts.1 at.1 in
      (λ i. here i || rest i)

-- ---- constants and items

-- the name of a constant or item is that of its path
behind_group : (x : List ℕ) (xs : Parts) (name : List ℕ) → dotted (dotted (x ∷ xs) ∷ (name ∷ [])) ≡ dotted ((x ∷ xs) ++ name ∷ [])
unfolding dotted
behind_group x [] name = refl
behind_group x (y ∷ ys) name = sym (assoc_point x (dotted (y ∷ ys)) name) ∙ ap (λ k. x ++ (46 ∷ k)) (behind_group y ys name)
  where
    assoc_point : (a b c : List ℕ) → a ++ (46 ∷ (b ++ 46 ∷ c)) ≡ (a ++ (46 ∷ b)) ++ (46 ∷ c)
    assoc_point [] b c = refl
    assoc_point (z ∷ zs) b c = ap (λ k. z ∷ k) (assoc_point zs b c)

pub behind_owner : (modules : Parts) (own name : List ℕ) → dotted (dotted (modules ++ own ∷ []) ∷ (name ∷ [])) ≡ dotted ((modules ++ own ∷ []) ++ name ∷ [])
behind_owner [] own name = behind_group own [] name
behind_owner (m ∷ ms) own name = behind_group m (ms ++ own ∷ []) name

item_names : (d : model.Declared) (without : Origin) (items : List Item) → map value_name (items_valued d without items) ≡ map dotted (behind_all (own_path d) (map (λ i. i.name) items))
unfolding items_valued
item_names d without [] = refl
item_names d without (i ∷ is) =
    let here = behind_owner d.modules d.name.name i.name.name in
    let rest = item_names d (item_before i.name.place) is in
    (λ k. here k ∷ rest k)

constant_names : (d : model.Declared) (cs : List Constant) → map value_name (map (constant_valued d) cs) ≡ map dotted (behind_all (own_path d) (map (λ c. c.name) cs))
constant_names d [] = refl
constant_names d (c ∷ cs) =
    let here = behind_owner d.modules d.name.name c.name.name in
    let rest = constant_names d cs in
    (λ k. here k ∷ rest k)

names_in : (d : model.Declared) (body : Declaration) → map value_name (valued_in d body) ≡ map dotted (behind_all (own_path d) (value_ids body))
names_in d forward = refl
names_in d (interface base members) = refl
names_in d (struct base members) = refl
names_in d (exception base members) = refl
names_in d (enum items) = item_names d first_item items
names_in d (constants cs) = constant_names d cs
names_in d (typedef t) = refl
names_in d (new_service base constructors) = refl
names_in d (old_service members) = refl
names_in d (new_singleton base) = refl
names_in d (old_singleton service) = refl

pub all_value_names : (ds : List model.Declared) → map value_name (all_valued ds) ≡ map dotted (value_paths ds)
unfolding all_valued value_paths
all_value_names [] = refl
all_value_names (d ∷ ds) =
    map-append value_name (valued_in d d.body) (flat_map (λ (e : model.Declared). valued_in e e.body) ds)
    ∙ (λ i. names_in d d.body i ++ all_value_names ds i)
    ∙ sym (map-append dotted (behind_all (own_path d) (value_ids d.body)) (flat_map (λ (e : model.Declared). behind_all (own_path e) (value_ids e.body)) ds))

pub value_any : (ds : List model.Declared) (name : List ℕ) → is_some (valued_as (all_valued ds) name) ≡ list_any (λ q. bytes_eq name (dotted q)) (value_paths ds)
unfolding valued_as
value_any ds name =
    found_any (λ v. bytes_eq name (value_name v)) (all_valued ds) ∙ sym (any_mapped (bytes_eq name) value_name (all_valued ds)) ∙ ap (list_any (bytes_eq name)) (all_value_names ds)
    ∙ any_mapped (bytes_eq name) dotted (value_paths ds)

pub declared_any : (ds : List model.Declared) (name : List ℕ) → is_some (declared_as ds name) ≡ list_any (λ d. not (is_forward d.body) && bytes_eq name (full_name d)) ds
unfolding declared_as
declared_any ds name = found_any (λ d. not (is_forward d.body) && bytes_eq name (full_name d)) ds

-- ---- what is built in

or_true : (b : Bool) → true ≡ (b || true)
or_true true = refl
or_true false = refl

-- the five tests in the order of the registry, and in that of interfaces and exceptions
five_tests : (d f e r x : Bool) → (d || (f || (e || (r || (x || false))))) ≡ ((f || (x || false)) || (d || (e || (r || false))))
five_tests true f e r x = or_true (f || (x || false))
five_tests false true e r x = refl
five_tests false false true r x = or_true (x || false)
five_tests false false false true x = or_true (x || false)
five_tests false false false false true = refl
five_tests false false false false false = refl

entity_any : (name : List ℕ) (es : List Entity) → is_some (find_entity name es) ≡ list_any (λ (e : Entity). bytes_eq name e.name) es
unfolding find_entity
entity_any name [] = refl
entity_any name (e ∷ es) = by_test (entity_any name es) (bytes_eq name e.name)
  where
    by_test : is_some (find_entity name es) ≡ list_any (λ (x : Entity). bytes_eq name x.name) es → (b : Bool) → is_some (if b then Some e else find_entity name es) ≡ (b || list_any (λ (x : Entity). bytes_eq name x.name) es)
    by_test rest true = refl
    by_test rest false = rest

pub built_in_any : (name : List ℕ) → is_built_in name ≡ (list_any (λ q. bytes_eq name (dotted q)) built_in_interfaces || list_any (λ q. bytes_eq name (dotted q)) built_in_exceptions)
unfolding is_built_in dotted
built_in_any name =
    entity_any name built_in
    ∙ five_tests (bytes_eq name disposed_exception_name) (bytes_eq name factory_name) (bytes_eq name exception_name) (bytes_eq name runtime_exception_name) (bytes_eq name x_interface_name)

-- ---- the interfaces among them

abbrev is_interface_found : Option Entity → Bool
is_interface_found None = false
is_interface_found (Some e) = is_interface e.body

there_as : (name : List ℕ) (o : Option Entity) → find_entity name built_in ≡ o → is_there built_in is_interface name ≡ is_interface_found o
there_as name None found = rw found refl
there_as name (Some e) found = rw found refl

found_here : (name : List ℕ) (e : Entity) (es : List Entity) → bytes_eq name e.name ≡ true → find_entity name (e ∷ es) ≡ Some e
unfolding find_entity
found_here name e es is = ap (λ b. if b then Some e else find_entity name es) is

found_later : (name : List ℕ) (e : Entity) (es : List Entity) → bytes_eq name e.name ≡ false → find_entity name (e ∷ es) ≡ find_entity name es
unfolding find_entity
found_later name e es is = ap (λ b. if b then Some e else find_entity name es) is

found_none : (name : List ℕ) → find_entity name [] ≡ None
unfolding find_entity
found_none name = refl

abbrev after_factory : List Entity
after_factory = base_exception ∷ (runtime_exception ∷ (x_interface ∷ []))

-- another name of the five is none of the two
abbrev is_either : List ℕ → Bool
is_either name = bytes_eq name factory_name || (bytes_eq name x_interface_name || false)

not_either : (name other : List ℕ) → is_either other ≡ false → bytes_eq name other ≡ true → is_either name ≡ false
not_either name other apart is = ap is_either ((bytes_decides name other).0 is) ∙ apart

either_there : (name : List ℕ) → is_there built_in is_interface name ≡ is_either name
either_there name = by_disposed (bytes_eq name disposed_exception_name) refl
  where
    past_factory : bytes_eq name disposed_exception_name ≡ false → bytes_eq name factory_name ≡ false → find_entity name built_in ≡ find_entity name after_factory
    past_factory d f = found_later name disposed_exception (factory ∷ after_factory) d ∙ found_later name factory after_factory f

    past_exception : bytes_eq name disposed_exception_name ≡ false → bytes_eq name factory_name ≡ false → bytes_eq name exception_name ≡ false
        → find_entity name built_in ≡ find_entity name (runtime_exception ∷ (x_interface ∷ []))
    past_exception d f e = past_factory d f ∙ found_later name base_exception (runtime_exception ∷ (x_interface ∷ [])) e

    past_runtime : bytes_eq name disposed_exception_name ≡ false → bytes_eq name factory_name ≡ false → bytes_eq name exception_name ≡ false → bytes_eq name runtime_exception_name ≡ false
        → find_entity name built_in ≡ find_entity name (x_interface ∷ [])
    past_runtime d f e r = past_exception d f e ∙ found_later name runtime_exception (x_interface ∷ []) r

    none_left : find_entity name [] ≡ None
    none_left = found_none name

    by_last : bytes_eq name disposed_exception_name ≡ false → bytes_eq name factory_name ≡ false → bytes_eq name exception_name ≡ false → bytes_eq name runtime_exception_name ≡ false
        → (b : Bool) → bytes_eq name x_interface_name ≡ b → is_there built_in is_interface name ≡ is_either name
    by_last d f e r true is = there_as name (Some x_interface) (past_runtime d f e r ∙ found_here name x_interface [] is) ∙ sym (λ i. f i || (is i || false))
    by_last d f e r false is = there_as name None (past_runtime d f e r ∙ found_later name x_interface [] is ∙ none_left) ∙ sym (λ i. f i || (is i || false))

    by_runtime : bytes_eq name disposed_exception_name ≡ false → bytes_eq name factory_name ≡ false → bytes_eq name exception_name ≡ false → (b : Bool)
        → bytes_eq name runtime_exception_name ≡ b → is_there built_in is_interface name ≡ is_either name
    by_runtime d f e true is =
        there_as name (Some runtime_exception) (past_exception d f e ∙ found_here name runtime_exception (x_interface ∷ []) is) ∙ sym (not_either name runtime_exception_name refl is)
    by_runtime d f e false is = by_last d f e is (bytes_eq name x_interface_name) refl

    by_exception : bytes_eq name disposed_exception_name ≡ false → bytes_eq name factory_name ≡ false → (b : Bool) → bytes_eq name exception_name ≡ b
        → is_there built_in is_interface name ≡ is_either name
    by_exception d f true is =
        there_as name (Some base_exception) (past_factory d f ∙ found_here name base_exception (runtime_exception ∷ (x_interface ∷ [])) is) ∙ sym (not_either name exception_name refl is)
    by_exception d f false is = by_runtime d f is (bytes_eq name runtime_exception_name) refl

    by_factory : bytes_eq name disposed_exception_name ≡ false → (b : Bool) → bytes_eq name factory_name ≡ b → is_there built_in is_interface name ≡ is_either name
    by_factory d true is =
        there_as name (Some factory) (found_later name disposed_exception (factory ∷ after_factory) d ∙ found_here name factory after_factory is)
        ∙ sym (ap (λ b. b || (bytes_eq name x_interface_name || false)) is)
    by_factory d false is = by_exception d is (bytes_eq name exception_name) refl

    by_disposed : (b : Bool) → bytes_eq name disposed_exception_name ≡ b → is_there built_in is_interface name ≡ is_either name
    by_disposed true is =
        there_as name (Some disposed_exception) (found_here name disposed_exception (factory ∷ after_factory) is) ∙ sym (not_either name disposed_exception_name refl is)
    by_disposed false is = by_factory is (bytes_eq name factory_name) refl

pub interface_any : (name : List ℕ) → is_there built_in is_interface name ≡ list_any (λ q. bytes_eq name (dotted q)) built_in_interfaces
unfolding dotted
interface_any name = either_there name
