-- The printed words of an entity are read as the definition that writes it, in its modules.
use Rattle.std.proofs.Common.{◌≡◌, ℕ, Bool, true, false, ◌&&◌, List, [], ◌∷◌, ◌++◌, Option, if◌then◌else◌, refl, sym, ap, ◌∙◌, flat_map, codes, is_some}
use Rattle.std.proofs.Common.{option_to_list}
use Rattle.std.proofs.lemmas.Bool.{and_parts}
use Rattle.std.proofs.lemmas.List.{append_assoc, append-nil}
use Rattle.std.specs.List.{list_all}
use Rattle.grammar_model.specs.Relations.{Image, Either, Optional, Many, ◌&◌, ◌&>◌, ◌<&◌}
use Rattle.idl_model.specs.Grammar.{Tokens, Keyword, Mark, IsName, listed_of, IsInterfaceMember, Braced, MayHaveBase, decl_of, Named, IsInterface, AreFields}
use Rattle.idl_model.specs.Grammar.{IsStruct, IsException}
use Rattle.idl_model.specs.Grammar.{IsItem, items_of, IsEnum, IsConstant, AreConstants, typedef_of, IsTypedef, IsConstructor, IsServiceMember, IsService}
use Rattle.idl_model.specs.Grammar.{IsSingleton, IsDecl, IsDeclared, IsDef, AreDefs}
use Rattle.idl_model.specs.Trees.{Path, Declaration, Decl, Def, Defs, in_module, declared, no_defs, def}
use Rattle.idl_model.specs.Trees as tree
use Rattle.registry_text_model.specs.Canonical.{absolute, kind_tokens, listed, only_base, base_members, member_tokens, field_tokens, base_tokens, item_tokens}
use Rattle.registry_text_model.specs.Canonical.{constant_tokens}
use Rattle.registry_text_model.specs.Canonical.{constructor_tokens, is_implicit_alone, constructors_tokens, part_tokens, declaration, published_flag}
use Rattle.registry_text_model.specs.Canonical.{in_modules, entity_tokens}
use Rattle.uno_model.specs.Entities.{Entity, Body}
use Rattle.uno_model.specs.Entities as uno
use Rattle.uno_model.specs.Kinds.{Kind}
use Rattle.uno_model.specs.Names.{is_identifier, is_entity_name, parts_of}
use Rattle.uno_model.specs.Registry.{at_most_one}
use Rattle.uno_model.specs.Sound.{is_some_list}
use Rattle.canonical_laws.proofs.ChunkWords.{some_parts}
use Rattle.canonical_laws.proofs.RuleReadings.{words_in, Reads, Anything, reads_keyword, reads_mark, reads_id}
use Rattle.canonical_laws.proofs.RuleReadings.{reads_seq, reads_image, reads_as, reads_then, reads_before, reads_left, reads_right, reads_none, reads_some}
use Rattle.canonical_laws.proofs.RuleReadings.{reads_many, reads_listed, many_joined, reads_bracketed}
use Rattle.canonical_laws.proofs.TypeReadings.{fine_kind, reads_name, reads_kind}
use Rattle.canonical_laws.proofs.MemberReadings.{fine_member, reads_member, fine_base, reads_only_base, reads_base_members, reads_base_of}
use Rattle.canonical_laws.proofs.PartReadings.{fine_field, reads_field, fine_item, reads_item, fine_constant, reads_constant, fine_constructor}
use Rattle.canonical_laws.proofs.PartReadings.{reads_constructor, fine_part, reads_part}
use Rattle.canonical_laws.specs.Written.{Each, WritesName, WritesMember, WritesBase, bases_behind_colon, bases_among_members, WritesInterface, WritesField}
use Rattle.canonical_laws.specs.Written.{WritesBaseOf}
use Rattle.canonical_laws.specs.Written.{WritesItem, WritesConstant, WritesConstructor, WritesPart, WritesBody, WritesUnder, WritesEntity}

-- ---- bodies

-- what an entity writes is such as can be read: its names are names, and its numbers small
abbrev pub fine_body : Body → Bool
fine_body (uno.interface bases own) = list_all fine_base bases && list_all fine_member own
fine_body (uno.struct base fields) = list_all is_entity_name (at_most_one base) && list_all fine_field fields
fine_body (uno.exception base fields) = list_all is_entity_name (at_most_one base) && list_all fine_field fields
fine_body (uno.enum items) = is_some_list items && list_all fine_item items
fine_body (uno.constants cs) = list_all fine_constant cs
fine_body (uno.typedef k) = fine_kind k
fine_body (uno.new_service base cs) = is_entity_name base && list_all fine_constructor cs
fine_body (uno.old_service parts) = list_all fine_part parts
fine_body (uno.new_singleton base) = is_entity_name base
fine_body (uno.old_singleton service) = is_entity_name service

abbrev semicolon : List (List ℕ)
semicolon = codes ";" ∷ []

-- what stands in braces, and the `;` behind them
reads_braced : {X : Type 0} {P : X → Tokens → Type 0} {R : X → Type 0} (ts : List (List ℕ)) → Reads P R ts
    → Reads (Braced P) R (codes "{" ∷ (ts ++ codes "}" ∷ []))
reads_braced ts inner = reads_then (reads_mark (codes "{") refl) (reads_before inner (reads_mark (codes "}") refl))

reads_end : Reads (Mark (codes ";")) Anything (codes ";" ∷ [])
reads_end = reads_mark (codes ";") refl

-- ---- declarations, with the `;` at their end

abbrev Declares : List ℕ → Body → Decl → Type 0
Declares id body d = (d.name.name ≡ id) × WritesBody d.body body

-- word ID p, where p is what is declared
named_as : (word id : List ℕ) (body : Body) (P : Declaration → Tokens → Type 0) (ts : List (List ℕ)) → Reads (Keyword word) Anything (word ∷ [])
    → is_identifier id ≡ true
    → Reads P (λ d. WritesBody d body) ts → Reads (Named word P) (Declares id body) (word ∷ (id ∷ ts))
named_as word id body P ts here is inner =
    reads_image decl_of (Declares id body) (λ z both. (both.0, both.1)) (reads_then here (reads_seq (reads_id id is) inner))

interface_written : (bases : List uno.Base) (own : List uno.Member) (base : Option Path) (ms front behind : List tree.InterfaceMember)
    → Each WritesName (option_to_list base) (bases_behind_colon bases)
    → ms ≡ front ++ behind → Each WritesBase front (bases_among_members bases) → Each WritesMember behind own → WritesInterface base ms bases own
interface_written bases own base ms front behind colon split inside declares =
    record { front = front; behind = behind; split = split; colon = colon; inside = inside; declares = declares }

-- the bases among the members, and the members
abbrev AllMembers : List uno.Base → List uno.Member → List tree.InterfaceMember → Type 0
AllMembers bases own ms =
    (front : List tree.InterfaceMember) × (behind : List tree.InterfaceMember) × (ms ≡ front ++ behind) × Each WritesBase front
    (bases_among_members bases) × Each WritesMember behind own

reads_interface : (bases : List uno.Base) (own : List uno.Member) → fine_body (uno.interface bases own) ≡ true
    → Reads IsInterface (λ d. WritesBody d (uno.interface bases own))
    (only_base bases ++ (codes "{" ∷ ((base_members bases ++ (flat_map member_tokens own ++ codes "}" ∷ [])) ++ semicolon)))
unfolding WritesBody
reads_interface bases own fine =
    let parts = and_parts (list_all fine_base bases) (list_all fine_member own) fine in
    let b = base_members bases in
    let m = flat_map member_tokens own in
    let members : Reads (Many IsInterfaceMember) (AllMembers bases own) (b ++ m) =
    many_joined IsInterfaceMember (λ xs. Each WritesBase xs (bases_among_members bases)) (λ ys. Each WritesMember ys own) (AllMembers bases own)
    (λ xs ys first second. (xs, ys, refl, first, second)) b m (reads_base_members bases parts.0)
    (reads_many IsInterfaceMember WritesMember member_tokens fine_member reads_member own parts.1) in
    reads_as (only_base bases ++ ((codes "{" ∷ ((b ++ m) ++ codes "}" ∷ [])) ++ semicolon))
    (only_base bases ++ (codes "{" ∷ ((b ++ (m ++ codes "}" ∷ [])) ++ semicolon)))
    (ap (λ x. only_base bases ++ (codes "{" ∷ (x ++ semicolon))) (append_assoc b m (codes "}" ∷ [])))
    (reads_right (Image (λ z. tree.forward) (Mark (codes ";")))
    (reads_image (λ z. tree.interface z.0 z.1) (λ d. WritesBody d (uno.interface bases own))
    (λ z is. (bases, own, refl, interface_written bases own z.0 z.1 (is.1).0 (is.1).1 is.0 (is.1).2 (is.1).3 (is.1).4))
    (reads_seq (reads_only_base bases parts.0) (reads_before (reads_braced (b ++ m) members) reads_end))))

abbrev fields_printed : Option (List ℕ) → List uno.Field → List (List ℕ)
fields_printed base fields = base_tokens base ++ ((codes "{" ∷ (flat_map field_tokens fields ++ codes "}" ∷ [])) ++ semicolon)

reads_fields : (base : Option (List ℕ)) (fields : List uno.Field) → (list_all is_entity_name (at_most_one base) && list_all fine_field fields) ≡ true
    → Reads (MayHaveBase & Braced (Many AreFields) <& Mark (codes ";")) (λ z. WritesBaseOf z.0 base × Each WritesField z.1 fields) (fields_printed base fields)
reads_fields base fields fine =
    let parts = and_parts (list_all is_entity_name (at_most_one base)) (list_all fine_field fields) fine in
    reads_seq (reads_base_of base parts.0)
    (reads_before (reads_braced (flat_map field_tokens fields) (reads_many AreFields WritesField field_tokens fine_field reads_field fields parts.1)) reads_end)

reads_struct : (base : Option (List ℕ)) (fields : List uno.Field) → fine_body (uno.struct base fields) ≡ true
    → Reads IsStruct (λ d. WritesBody d (uno.struct base fields)) (fields_printed base fields)
unfolding WritesBody
reads_struct base fields fine =
    reads_image (λ z. tree.struct z.0 z.1) (λ d. WritesBody d (uno.struct base fields)) (λ z is. (base, fields, refl, is.0, is.1))
    (reads_fields base fields fine)

reads_exception : (base : Option (List ℕ)) (fields : List uno.Field) → fine_body (uno.exception base fields) ≡ true
    → Reads IsException (λ d. WritesBody d (uno.exception base fields)) (fields_printed base fields)
unfolding WritesBody
reads_exception base fields fine =
    reads_image (λ z. tree.exception z.0 z.1) (λ d. WritesBody d (uno.exception base fields)) (λ z is. (base, fields, refl, is.0, is.1))
    (reads_fields base fields fine)

reads_enum : (items : List uno.Item) → fine_body (uno.enum items) ≡ true
    → Reads IsEnum (λ d. WritesBody d (uno.enum items)) ((codes "{" ∷ (listed item_tokens items ++ codes "}" ∷ [])) ++ semicolon)
unfolding WritesBody
reads_enum items fine =
    let parts = and_parts (is_some_list items) (list_all fine_item items) fine in
    let l = listed item_tokens items in
    reads_as ((codes "{" ∷ ((l ++ []) ++ codes "}" ∷ [])) ++ semicolon) ((codes "{" ∷ (l ++ codes "}" ∷ [])) ++ semicolon)
    (ap (λ x. (codes "{" ∷ (x ++ codes "}" ∷ [])) ++ semicolon) (append-nil l))
    (reads_image items_of (λ d. WritesBody d (uno.enum items)) (λ z is. (items, refl, is.0))
    (reads_before (reads_braced (l ++ []) (reads_seq (reads_listed IsItem WritesItem item_tokens fine_item reads_item items parts.0 parts.1)
    (reads_none (Mark (codes ",")) Anything tt))) reads_end))

reads_constants : (cs : List uno.Constant) → fine_body (uno.constants cs) ≡ true
    → Reads AreConstants (λ d. WritesBody d (uno.constants cs)) ((codes "{" ∷ (flat_map constant_tokens cs ++ codes "}" ∷ [])) ++ semicolon)
unfolding WritesBody
reads_constants cs fine =
    reads_image tree.constants (λ d. WritesBody d (uno.constants cs)) (λ ts is. (cs, refl, is))
    (reads_before (reads_braced (flat_map constant_tokens cs)
    (reads_many IsConstant WritesConstant constant_tokens fine_constant reads_constant cs fine)) reads_end)

-- the constructors in braces, where they are written
constructors_if : (implicit : Bool) (cs : List uno.Constructor) → list_all fine_constructor cs ≡ true
    → Reads (Image listed_of (Optional (Braced (Many IsConstructor)) <& Mark (codes ";"))) (λ ts. Each WritesConstructor ts (if implicit then [] else cs))
    ((if implicit then [] else codes "{" ∷ (flat_map constructor_tokens cs ++ codes "}" ∷ [])) ++ semicolon)
constructors_if true cs all =
    reads_image listed_of (λ ts. Each WritesConstructor ts []) (λ o is. is)
    (reads_before (reads_none (Braced (Many IsConstructor)) (λ o. Each WritesConstructor (listed_of o) []) tt) reads_end)
constructors_if false cs all =
    reads_image listed_of (λ ts. Each WritesConstructor ts cs) (λ o is. is)
    (reads_before (reads_some (λ o. Each WritesConstructor (listed_of o) cs) (λ ts is. is)
    (reads_braced (flat_map constructor_tokens cs)
    (reads_many IsConstructor WritesConstructor constructor_tokens fine_constructor reads_constructor cs all))) reads_end)

reads_new_service : (base : List ℕ) (cs : List uno.Constructor) → fine_body (uno.new_service base cs) ≡ true
    → Reads IsService (λ d. WritesBody d (uno.new_service base cs)) (codes ":" ∷ (absolute base ∷ (constructors_tokens cs ++ semicolon)))
unfolding WritesBody
reads_new_service base cs fine =
    let parts = and_parts (is_entity_name base) (list_all fine_constructor cs) fine in
    reads_left (Image tree.old_service (Braced (Many IsServiceMember) <& Mark (codes ";")))
    (reads_image (λ z. tree.new_service z.0 z.1) (λ d. WritesBody d (uno.new_service base cs)) (λ z is. (base, cs, refl, is.0, is.1))
    (reads_then (reads_mark (codes ":") refl) (reads_seq (reads_name base parts.0) (constructors_if (is_implicit_alone cs) cs parts.1))))

reads_old_service : (ps : List uno.Part) → fine_body (uno.old_service ps) ≡ true
    → Reads IsService (λ d. WritesBody d (uno.old_service ps)) ((codes "{" ∷ (flat_map part_tokens ps ++ codes "}" ∷ [])) ++ semicolon)
unfolding WritesBody
reads_old_service ps fine =
    reads_right (Image (λ z. tree.new_service z.0 z.1)
    (Mark (codes ":") &> IsName & Image listed_of (Optional (Braced (Many IsConstructor)) <& Mark (codes ";"))))
    (reads_image tree.old_service (λ d. WritesBody d (uno.old_service ps)) (λ ts is. (ps, refl, is))
    (reads_before (reads_braced (flat_map part_tokens ps) (reads_many IsServiceMember WritesPart part_tokens fine_part reads_part ps fine)) reads_end))

reads_new_singleton : (base : List ℕ) → is_entity_name base ≡ true
    → Reads IsSingleton (λ d. WritesBody d (uno.new_singleton base)) (codes ":" ∷ (absolute base ∷ semicolon))
unfolding WritesBody
reads_new_singleton base fine =
    reads_left (Image tree.old_singleton (Braced (Keyword (codes "service") &> IsName <& Mark (codes ";")) <& Mark (codes ";")))
    (reads_image tree.new_singleton (λ d. WritesBody d (uno.new_singleton base)) (λ path is. (base, refl, is))
    (reads_then (reads_mark (codes ":") refl) (reads_before (reads_name base fine) reads_end)))

reads_old_singleton : (service : List ℕ) → is_entity_name service ≡ true
    → Reads IsSingleton (λ d. WritesBody d (uno.old_singleton service))
    (codes "{" ∷ (codes "service" ∷ (absolute service ∷ (codes ";" ∷ (codes "}" ∷ semicolon)))))
unfolding WritesBody
reads_old_singleton service fine =
    reads_right (Image tree.new_singleton (Mark (codes ":") &> IsName <& Mark (codes ";")))
    (reads_image tree.old_singleton (λ d. WritesBody d (uno.old_singleton service)) (λ path is. (service, refl, is))
    (reads_before (reads_braced (codes "service" ∷ (absolute service ∷ (codes ";" ∷ [])))
    (reads_then (reads_keyword (codes "service") refl refl) (reads_before (reads_name service fine) reads_end))) reads_end))

reads_typedef : (id : List ℕ) (k : Kind) → is_identifier id ≡ true → fine_kind k ≡ true
    → Reads IsTypedef (Declares id (uno.typedef k)) (codes "typedef" ∷ (kind_tokens k ++ (id ∷ semicolon)))
unfolding WritesBody
reads_typedef id k is kind =
    reads_image typedef_of (Declares id (uno.typedef k)) (λ z both. (both.1, (k, refl, both.0)))
    (reads_then (reads_keyword (codes "typedef") refl refl) (reads_seq (reads_kind k kind) (reads_before (reads_id id is) reads_end)))

-- ---- a declaration by its form

-- behind the forms that stand before it
abbrev from_service : Decl → Tokens → Type 0
from_service = Either (Named (codes "service") IsService) (Named (codes "singleton") IsSingleton)

abbrev from_typedef : Decl → Tokens → Type 0
from_typedef = Either IsTypedef from_service

abbrev from_constants : Decl → Tokens → Type 0
from_constants = Either (Named (codes "constants") AreConstants) from_typedef

abbrev from_enum : Decl → Tokens → Type 0
from_enum = Either (Named (codes "enum") IsEnum) from_constants

abbrev from_exception : Decl → Tokens → Type 0
from_exception = Either (Named (codes "exception") IsException) from_enum

abbrev from_struct : Decl → Tokens → Type 0
from_struct = Either (Named (codes "struct") IsStruct) from_exception

module _ (R : Decl → Type 0) (ts : List (List ℕ)) where
  of_struct : Reads from_struct R ts → Reads IsDecl R ts
  of_struct inner = reads_right (Named (codes "interface") IsInterface) inner

  of_exception : Reads from_exception R ts → Reads IsDecl R ts
  of_exception inner = of_struct (reads_right (Named (codes "struct") IsStruct) inner)

  of_enum : Reads from_enum R ts → Reads IsDecl R ts
  of_enum inner = of_exception (reads_right (Named (codes "exception") IsException) inner)

  of_constants : Reads from_constants R ts → Reads IsDecl R ts
  of_constants inner = of_enum (reads_right (Named (codes "enum") IsEnum) inner)

  of_typedef : Reads from_typedef R ts → Reads IsDecl R ts
  of_typedef inner = of_constants (reads_right (Named (codes "constants") AreConstants) inner)

  of_service : Reads from_service R ts → Reads IsDecl R ts
  of_service inner = of_typedef (reads_right IsTypedef inner)

pub reads_declaration : (id : List ℕ) (body : Body) → is_identifier id ≡ true → fine_body body ≡ true
    → Reads IsDecl (Declares id body) (declaration id body ++ semicolon)
reads_declaration id (uno.interface bases own) is fine =
    reads_as (codes "interface" ∷ (id ∷ (only_base bases ++
    (codes "{" ∷ ((base_members bases ++ (flat_map member_tokens own ++ codes "}" ∷ [])) ++ semicolon)))))
    (declaration id (uno.interface bases own) ++ semicolon)
    (ap (λ x. codes "interface" ∷ (id ∷ x)) (sym (append_assoc (only_base bases)
    (codes "{" ∷ (base_members bases ++ (flat_map member_tokens own ++ codes "}" ∷ []))) semicolon)))
    (reads_left from_struct (named_as (codes "interface") id (uno.interface bases own) IsInterface _ (reads_keyword (codes "interface") refl refl) is
    (reads_interface bases own fine)))
reads_declaration id (uno.struct base fields) is fine =
    reads_as (codes "struct" ∷ (id ∷ fields_printed base fields)) (declaration id (uno.struct base fields) ++ semicolon)
    (ap (λ x. codes "struct" ∷ (id ∷ x)) (sym (append_assoc (base_tokens base) (codes "{" ∷ (flat_map field_tokens fields ++ codes "}" ∷ [])) semicolon)))
    (of_struct (Declares id (uno.struct base fields)) _
    (reads_left from_exception (named_as (codes "struct") id (uno.struct base fields) IsStruct _ (reads_keyword (codes "struct") refl refl) is
    (reads_struct base fields fine))))
reads_declaration id (uno.exception base fields) is fine =
    reads_as (codes "exception" ∷ (id ∷ fields_printed base fields)) (declaration id (uno.exception base fields) ++ semicolon)
    (ap (λ x. codes "exception" ∷ (id ∷ x)) (sym (append_assoc (base_tokens base) (codes "{" ∷ (flat_map field_tokens fields ++ codes "}" ∷ [])) semicolon)))
    (of_exception (Declares id (uno.exception base fields)) _
    (reads_left from_enum (named_as (codes "exception") id (uno.exception base fields) IsException _ (reads_keyword (codes "exception") refl refl) is
    (reads_exception base fields fine))))
reads_declaration id (uno.enum items) is fine =
    of_enum (Declares id (uno.enum items)) _
    (reads_left from_constants (named_as (codes "enum") id (uno.enum items) IsEnum _ (reads_keyword (codes "enum") refl refl) is (reads_enum items fine)))
reads_declaration id (uno.constants cs) is fine =
    of_constants (Declares id (uno.constants cs)) _
    (reads_left from_typedef (named_as (codes "constants") id (uno.constants cs) AreConstants _ (reads_keyword (codes "constants") refl refl) is
    (reads_constants cs fine)))
reads_declaration id (uno.typedef k) is fine =
    reads_as (codes "typedef" ∷ (kind_tokens k ++ (id ∷ semicolon))) (declaration id (uno.typedef k) ++ semicolon)
    (ap (λ x. codes "typedef" ∷ x) (sym (append_assoc (kind_tokens k) (id ∷ []) semicolon)))
    (of_typedef (Declares id (uno.typedef k)) _ (reads_left from_service (reads_typedef id k is fine)))
reads_declaration id (uno.new_service base cs) is fine =
    of_service (Declares id (uno.new_service base cs)) _ (reads_left (Named (codes "singleton") IsSingleton)
    (named_as (codes "service") id (uno.new_service base cs) IsService _ (reads_keyword (codes "service") refl refl) is (reads_new_service base cs fine)))
reads_declaration id (uno.old_service ps) is fine =
    of_service (Declares id (uno.old_service ps)) _ (reads_left (Named (codes "singleton") IsSingleton)
    (named_as (codes "service") id (uno.old_service ps) IsService _ (reads_keyword (codes "service") refl refl) is (reads_old_service ps fine)))
reads_declaration id (uno.new_singleton base) is fine =
    of_service (Declares id (uno.new_singleton base)) _ (reads_right (Named (codes "service") IsService)
    (named_as (codes "singleton") id (uno.new_singleton base) IsSingleton _ (reads_keyword (codes "singleton") refl refl) is (reads_new_singleton base fine)))
reads_declaration id (uno.old_singleton service) is fine =
    of_service (Declares id (uno.old_singleton service)) _ (reads_right (Named (codes "service") IsService)
    (named_as (codes "singleton") id (uno.old_singleton service) IsSingleton _ (reads_keyword (codes "singleton") refl refl) is
    (reads_old_singleton service fine)))

-- ---- definitions

published_if : (published : Bool) → Reads (Optional (Keyword (codes "published"))) (λ o. is_some o ≡ published) (published_flag published)
published_if true = reads_some (λ o. is_some o ≡ true) (λ x is. refl) (reads_keyword (codes "published") refl refl)
published_if false = reads_none (Keyword (codes "published")) (λ o. is_some o ≡ false) refl

reads_declared : (id : List ℕ) (e : Entity) → is_identifier id ≡ true → fine_body e.body ≡ true
    → Reads IsDef (λ d. WritesUnder (id ∷ []) d e) ((published_flag e.published ++ declaration id e.body) ++ semicolon)
unfolding IsDef WritesUnder
reads_declared id e is fine = record { words = one.words; chunks = one.chunks; spelled = spelled }
  where
    one : Reads IsDeclared (λ z. (z.0 ≡ e.published) × Declares id e.body z.1) ((published_flag e.published ++ declaration id e.body) ++ semicolon)
    one =
        reads_as (published_flag e.published ++ (declaration id e.body ++ semicolon)) ((published_flag e.published ++ declaration id e.body) ++ semicolon)
        (sym (append_assoc (published_flag e.published) (declaration id e.body) semicolon))
        (reads_image (λ z. (is_some z.0, z.1)) (λ z. (z.0 ≡ e.published) × Declares id e.body z.1) (λ z both. both)
        (reads_seq (published_if e.published) (reads_declaration id e.body is fine)))

    spelled : (u : Tokens) → words_in u ≡ one.words → (d : Def) × IsDef d u × WritesUnder (id ∷ []) d e
    spelled u same =
        let inner = one.spelled u same in
        (declared (inner.0).0 (inner.0).1, inner.1, ((inner.0).1, ap (λ p. declared p (inner.0).1) (inner.2).0, ((inner.2).1).0, ((inner.2).1).1))

-- a definition alone in its module
alone_in : (ts : List (List ℕ)) (R : Def → Type 0) → Reads IsDef R ts → Reads AreDefs (λ ds. (d : Def) × (ds ≡ def d no_defs) × R d) ts
unfolding IsDef
alone_in ts R inner = record { words = inner.words; chunks = inner.chunks; spelled = spelled }
  where
    spelled : (u : Tokens) → words_in u ≡ inner.words → (ds : Defs) × AreDefs ds u × ((d : Def) × (ds ≡ def d no_defs) × R d)
    spelled u same =
        let one = inner.spelled u same in
        (def one.0 no_defs, (u, [], sym (append-nil u), one.1, refl), (one.0, refl, one.2))

reads_module : (m n : List ℕ) (ns : List (List ℕ)) (e : Entity) (ts : List (List ℕ)) → is_identifier m ≡ true → Reads IsDef (λ d. WritesUnder (n ∷ ns) d e) ts
    → Reads IsDef (λ d. WritesUnder (m ∷ (n ∷ ns)) d e) (codes "module" ∷ (m ∷ (codes "{" ∷ (ts ++ (codes "}" ∷ semicolon)))))
unfolding IsDef WritesUnder
reads_module m n ns e ts is inner =
    reads_bracketed IsDef (λ d. WritesUnder (m ∷ (n ∷ ns)) d e) (λ name ds. in_module name ds) (λ name ds u between. between)
    (λ name ds named one. (name, one.0, ap (in_module name) one.1, named, one.2))
    (reads_then (reads_keyword (codes "module") refl refl) (reads_before (reads_id m is) (reads_mark (codes "{") refl)))
    (alone_in ts (λ d. WritesUnder (n ∷ ns) d e) inner) (reads_seq (reads_mark (codes "}") refl) reads_end)

under : (parts : List (List ℕ)) (e : Entity) → is_some_list parts ≡ true → list_all is_identifier parts ≡ true → fine_body e.body ≡ true
    → Reads IsDef (λ d. WritesUnder parts d e) (in_modules e.published e.body parts ++ semicolon)
unfolding in_modules
under [] e some all fine = let bad : ⊥ = cc in absurd bad
under (id ∷ []) e some all fine = reads_declared id e (and_parts (is_identifier id) true all).0 fine
under (m ∷ (n ∷ ns)) e some all fine =
    let parts = and_parts (is_identifier m) (list_all is_identifier (n ∷ ns)) all in
    let t = in_modules e.published e.body (n ∷ ns) in
    reads_as (codes "module" ∷ (m ∷ (codes "{" ∷ ((t ++ semicolon) ++ (codes "}" ∷ semicolon)))))
    (codes "module" ∷ (m ∷ (codes "{" ∷ ((t ++ (codes ";" ∷ (codes "}" ∷ []))) ++ semicolon))))
    (ap (λ x. codes "module" ∷ (m ∷ (codes "{" ∷ x))) (append_assoc t semicolon (codes "}" ∷ semicolon) ∙ sym
    (append_assoc t (codes ";" ∷ (codes "}" ∷ [])) semicolon)))
    (reads_module m n ns e (t ++ semicolon) parts.0 (under (n ∷ ns) e refl parts.1 fine))

abbrev pub fine_entity : Entity → Bool
fine_entity e = is_entity_name e.name && fine_body e.body

some_named : (ps : List (List ℕ)) (p : List ℕ) (qs : List (List ℕ)) → ps ≡ p ∷ qs → is_some_list ps ≡ true
some_named ps p qs same = rw same refl

pub reads_entity : (e : Entity) → fine_entity e ≡ true → Reads IsDef (λ d. WritesEntity d e) (entity_tokens e)
reads_entity e fine =
    let parts = and_parts (is_entity_name e.name) (fine_body e.body) fine in
    let some = some_parts e.name in
    under (parts_of e.name) e (some_named (parts_of e.name) some.0 some.1 some.2) parts.0 parts.1
