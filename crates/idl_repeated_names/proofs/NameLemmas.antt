-- The names that are met are those of the rule.
use Rattle.std.proofs.Common.{◌≡◌, refl, sym, ap, ap₂, ◌∙◌, ℕ, zero, suc, Bool, true, false, List, [], ◌∷◌, ◌++◌, map, append-nil, None, Some, codes, if◌then◌else◌}
use Rattle.std.proofs.lemmas.Bool.{and_parts}
use Rattle.std.proofs.lemmas.List.{map-append}
use Rattle.std.proofs.lemmas.List.Concat.{flat_map-append}
use Rattle.std.specs.List.{flat_map}
use Rattle.idl_meaning_model.specs.Declarations.{Declared}
use Rattle.idl_meaning_model.specs.Meaning.{is_read_only}
use Rattle.idl_meaning_model.specs.Scopes.{declared_as}
use Rattle.idl_model.specs.Trees as tree
use Rattle.idl_repeated_names.specs.Meeting.{accessors_named, at_accessor, at_id, calls_named, line_named, member_named, members_named, methods_named, own_fields_named, own_functions_named, parameters_named, property_named}
use Rattle.idl_repeated_names.specs.Over.{chain_within}
use Rattle.idl_repeated_names.specs.Twins.{name_at}
use Rattle.idl_repeated_names.proofs.KeyLemmas.{is_bare}
use Rattle.idl_rules_model.specs.NamesDiffer.{NameAt, accessor_at, accessors, calls, fields_of, fields_within, member_name, own_fields, own_functions, parameter_names, property_name, without_place, written_at}
use Rattle.rules_over_bases.specs.OwnNames.{getter_name, setter_name}
use Rattle.uno_model.specs.Entities as uno
use Rattle.uno_model.specs.Entities.{Entity}
use Rattle.uno_model.specs.Functions.{Function, accessors_of, calls_of, declared_in}
use Rattle.uno_model.specs.Registry.{find_entity, member_bases, own_members}

-- ---- lists

pub joined_same : {X Y : Type 0} (f g : X → List Y) (xs : List X) → ((x : X) → f x ≡ g x) → flat_map f xs ≡ flat_map g xs
joined_same f g [] same = refl
joined_same f g (x ∷ xs) same = ap₂ (λ a b. a ++ b) (same x) (joined_same f g xs same)

pub twice_mapped : {X Y Z : Type 0} (g : Y → Z) (f : X → Y) (xs : List X) → map g (map f xs) ≡ map (λ x. g (f x)) xs
twice_mapped g f [] = refl
twice_mapped g f (x ∷ xs) = ap (λ k. g (f x) ∷ k) (twice_mapped g f xs)

pub mapped_join : {X Y Z : Type 0} (g : Y → Z) (f : X → List Y) (xs : List X) → map g (flat_map f xs) ≡ flat_map (λ x. map g (f x)) xs
mapped_join g f [] = refl
mapped_join g f (x ∷ xs) = map-append g (f x) (flat_map f xs) ∙ ap (λ k. map g (f x) ++ k) (mapped_join g f xs)

twice_joined : {X Y Z : Type 0} (g : Y → List Z) (f : X → List Y) (xs : List X) → flat_map g (flat_map f xs) ≡ flat_map (λ x. flat_map g (f x)) xs
twice_joined g f [] = refl
twice_joined g f (x ∷ xs) = flat_map-append g (f x) (flat_map f xs) ∙ ap (λ k. flat_map g (f x) ++ k) (twice_joined g f xs)

-- ---- names of declarations

pub ids_named : {X : Type 0} (id : X → tree.Id) (xs : List X) → map name_at (map (λ x. at_id (id x)) xs) ≡ map (λ x. written_at (id x)) xs
ids_named id [] = refl
ids_named id (x ∷ xs) = ap (λ k. written_at (id x) ∷ k) (ids_named id xs)

pub member_same : (m : tree.InterfaceMember) → map name_at (member_named m) ≡ member_name m
member_same (tree.base_member optional path) = refl
member_same (tree.attribute a) = refl
member_same (tree.method m) = refl

pub parameters_same : (m : tree.InterfaceMember) → map name_at (parameters_named m) ≡ parameter_names m
parameters_same (tree.base_member optional path) = refl
parameters_same (tree.attribute a) = refl
parameters_same (tree.method m) = ids_named (λ (p : tree.Parameter). p.name) m.parameters

pub property_same : (m : tree.ServiceMember) → map name_at (property_named m) ≡ property_name m
property_same (tree.property p) = refl
property_same (tree.face optional path) = refl
property_same (tree.subservice optional path) = refl

accessors_same : (m : tree.InterfaceMember) → map name_at (accessors_named m) ≡ accessors m
unfolding getter_name setter_name
accessors_same (tree.base_member optional path) = refl
accessors_same (tree.method m) = refl
accessors_same (tree.attribute a) = by_access (is_read_only a)
  where
    by_access : (b : Bool) → map name_at (if b then at_accessor 1 a.name ∷ [] else at_accessor 1 a.name ∷ (at_accessor 2 a.name ∷ []))
        ≡ (if b then accessor_at (codes "get:") a.name ∷ [] else accessor_at (codes "get:") a.name ∷ (accessor_at (codes "set:") a.name ∷ []))
    by_access true = refl
    by_access false = refl

calls_same : (m : tree.InterfaceMember) → map name_at (calls_named m) ≡ calls m
calls_same (tree.base_member optional path) = refl
calls_same (tree.attribute a) = refl
calls_same (tree.method m) = refl

line_same : (m : tree.Fields) → map name_at (line_named m) ≡ map written_at m.names
line_same m = ids_named (λ (i : tree.Id). i) m.names

pub own_functions_same : (body : tree.Declaration) → map name_at (own_functions_named body) ≡ own_functions body
own_functions_same (tree.interface base members) =
    map-append name_at (flat_map accessors_named members) (flat_map calls_named members)
    ∙ ap₂ (λ a b. a ++ b) (mapped_join name_at accessors_named members ∙ joined_same (λ m. map name_at (accessors_named m)) accessors members accessors_same)
    (mapped_join name_at calls_named members ∙ joined_same (λ m. map name_at (calls_named m)) calls members calls_same)
own_functions_same _ = refl

pub own_fields_same : (body : tree.Declaration) → map name_at (own_fields_named body) ≡ own_fields body
own_fields_same (tree.struct base members) = mapped_join name_at line_named members ∙ joined_same (λ m. map name_at (line_named m)) (λ (m : tree.Fields). map written_at m.names) members line_same
own_fields_same (tree.exception base members) = mapped_join name_at line_named members ∙ joined_same (λ m. map name_at (line_named m)) (λ (m : tree.Fields). map written_at m.names) members line_same
own_fields_same _ = refl

-- ---- and of what is built in

no_accessors : (owner : List ℕ) (ms : List uno.Member) → is_bare (uno.interface [] ms) ≡ true → flat_map (accessors_of owner) ms ≡ []
no_accessors owner [] all = refl
no_accessors owner (uno.method m ∷ ms) all = no_accessors owner ms (and_parts _ (is_bare (uno.interface [] ms)) all).1
no_accessors owner (uno.attribute a ∷ ms) all = let bad : ⊥ = cc in absurd bad

methods_called : (owner : List ℕ) (ms : List uno.Member) → map name_at (methods_named (uno.interface [] ms)) ≡ map (λ (f : Function). without_place f.name) (flat_map (calls_of owner) ms)
methods_called owner [] = refl
methods_called owner (uno.method m ∷ ms) = ap (λ k. without_place m.name ∷ k) (methods_called owner ms)
methods_called owner (uno.attribute a ∷ ms) = methods_called owner ms

pub methods_same : (owner : List ℕ) (body : uno.Body) → is_bare body ≡ true → map name_at (methods_named body) ≡ map (λ (f : Function). without_place f.name) (declared_in owner body)
methods_same owner (uno.interface bases members) all =
    methods_called owner members ∙ sym (ap (λ fs. map (λ (f : Function). without_place f.name) (fs ++ flat_map (calls_of owner) members)) (no_accessors owner members all))
methods_same owner _ all = refl

fields_without : (fs : List uno.Field) → map name_at (members_named (uno.struct None fs)) ≡ map (λ (f : uno.Field). without_place f.name) fs
fields_without [] = refl
fields_without (f ∷ fs) = ap (λ k. without_place f.name ∷ k) (fields_without fs)

pub fields_same : (e : Entity) → map name_at (members_named e.body) ≡ map (λ (f : uno.Field). without_place f.name) (own_members (Some e))
fields_same e = by_body e.name e.published e.body
  where
    by_body : (name : List ℕ) (published : Bool) (body : uno.Body) → map name_at (members_named body) ≡ map (λ (f : uno.Field). without_place f.name) (own_members (Some (record { name = name; published = published; body = body })))
    by_body name published (uno.struct base members) = fields_without members
    by_body name published (uno.exception base members) = fields_without members
    by_body name published _ = refl

-- ---- members over bases

pub fields_chained : (levels : ℕ) (ds : List Declared) (reg : List Entity) (name : List ℕ) → fields_within levels ds reg name ≡ flat_map (λ o. fields_of o (declared_as ds o)) (chain_within levels reg name)
unfolding fields_within chain_within
fields_chained zero ds reg name = refl
fields_chained (suc levels) ds reg name =
    let at : List ℕ → List NameAt = λ o. fields_of o (declared_as ds o) in
    let bases = member_bases (find_entity name reg) in
    ap₂ (λ a b. a ++ b)
    (joined_same (fields_within levels ds reg) (λ b. flat_map at (chain_within levels reg b)) bases (λ b. fields_chained levels ds reg b) ∙ sym (twice_joined at (chain_within levels reg) bases))
    (sym (append-nil (at name)))
    ∙ sym (flat_map-append at (flat_map (chain_within levels reg) bases) (name ∷ []))
