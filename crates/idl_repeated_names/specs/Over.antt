-- The names over an entity, those of its bases first: of functions of an interface, and of members of a struct or an exception.
use Rattle.std.specs.Prelude.{◌≡◌, ℕ, zero, suc, not, ◌&&◌, List, [], ◌∷◌, ◌++◌, length, map, Option, None, Some, IsTrue, if◌then◌else◌}
use Rattle.std.specs.Borrow.{Bor}
use Rattle.std.specs.BTreeMap.{BTreeMap, get_by}
use Rattle.std.specs.Cmp.Lexicographic.{slice_cmp}
use Rattle.std.specs.List.{AllByRecursion, flat_map, list_all}
use Rattle.std.specs.Option.{option_map, option_or}
use Rattle.std.specs.Ordering.{nat_cmp}
use Rattle.std.specs.Str.{bytes_eq}
use Rattle.idl_joint_places.specs.Circles.{FindsLeast}
use Rattle.idl_meaning_model.specs.Declarations.{Declared, full_name, is_forward}
use Rattle.idl_meaning_model.specs.FromFiles.{has_identifiers}
use Rattle.idl_meaning_model.specs.Scopes.{declared_as}
use Rattle.idl_model.specs.Places as plain
use Rattle.idl_model.specs.Trees as tree
use Rattle.idl_model.specs.Trees.{interface, struct, exception}
use Rattle.idl_names.specs.Collected.{declared_of}
use Rattle.idl_names.specs.Paths.{Parts}
use Rattle.idl_names.specs.declared.declaration.Declared as code
use Rattle.idl_repeated_names.specs.Meeting.{members_named, methods_named, own_fields_named, own_functions_named}
use Rattle.idl_repeated_names.specs.Twins.{HaveKeys, Named, name_at}
use Rattle.idl_repeated_names.specs.declared.over.Kind.{Kind}
use Rattle.idl_repeated_names.specs.declared.over.Kind.TheVariants.{Functions, Fields}
use Rattle.idl_repeated_names.specs.declared.owners.Entry.{Entry}
use Rattle.idl_rules_model.specs.NamesDiffer.{second_names}
use Rattle.idl_trees.specs.Trees.{declaration_of}
use Rattle.idl_trees.specs.declared.declaration.Declaration.{Declaration}
use Rattle.idl_trees.specs.declared.place.Place.{Place}
use Rattle.uno_model.specs.BuiltIn.{built_in}
use Rattle.uno_model.specs.Entities.{Entity}
use Rattle.uno_model.specs.Functions.{interfaces_of}
use Rattle.uno_model.specs.Registry.{find_entity, member_bases, stands_on}

-- ---- owners

-- what is declared under a name, as code has it
unfoldable pub owned : BTreeMap (Bor (List ℕ)) (Bor Declaration) → List ℕ → Option tree.Declaration
owned owners name = option_map (λ body. declaration_of body.now) (get_by (λ key. slice_cmp nat_cmp name key.now) owners)

-- the first declaration of an entity of each name
abbrev pub Owns : BTreeMap (Bor (List ℕ)) (Bor Declaration) → List Declared → Type 0
Owns owners ds = (name : List ℕ) → owned owners name ≡ option_map (λ d. d.body) (declared_as ds name)

-- of no other name so far, it is that of this one
abbrev pub NotesOwner : BTreeMap (Bor (List ℕ)) (Bor Declaration) → BTreeMap (Bor (List ℕ)) (Bor Declaration) → List ℕ → tree.Declaration → Type 0
NotesOwner old new name body = (k : List ℕ) → owned new k ≡ option_or (owned old k) (if not (is_forward body) && bytes_eq k name then Some body else None)

-- ---- declarations with their names

abbrev pub told : List Parts → Entry → Declared
told paths e = declared_of paths e.declared

abbrev pub IsNamed : List Parts → Entry → Type 0
IsNamed paths e = e.name ≡ full_name (told paths e)

pub record AreNamed (paths : List Parts) (all : List code.Declared) (entries : List Entry) : Type 0 where
  pub same : map (λ e. e.declared) entries ≡ all
  pub named : AllByRecursion (IsNamed paths) entries

-- what is known of declarations: their names, which are identifiers, and what is declared under each; and what is built in
pub record Knows (paths : List Parts) (entries : List Entry) (owners : BTreeMap (Bor (List ℕ)) (Bor Declaration)) (built : List Entity) : Type 0 where
  pub named : AllByRecursion (IsNamed paths) entries
  pub identifiers : IsTrue (list_all has_identifiers (map (told paths) entries))
  pub owns : Owns owners (map (told paths) entries)
  pub is_built : built ≡ built_in

-- ---- the names of an owner, as it is declared or else built in

abbrev pub functions_named : Option tree.Declaration → Option Entity → List Named
functions_named (Some body) built = own_functions_named body
functions_named None None = []
functions_named None (Some e) = methods_named e.body

abbrev pub fields_named : Option tree.Declaration → Option Entity → List Named
fields_named (Some body) built = own_fields_named body
fields_named None None = []
fields_named None (Some e) = members_named e.body

unfoldable pub functions_at : (List ℕ → Option tree.Declaration) → List Entity → List ℕ → List Named
functions_at own built name = functions_named (own name) (find_entity name built)

unfoldable pub fields_at : (List ℕ → Option tree.Declaration) → List Entity → List ℕ → List Named
fields_at own built name = fields_named (own name) (find_entity name built)

-- ---- over bases

-- a struct or an exception behind those on which it stands, over so many levels
unfoldable pub chain_within : ℕ → List Entity → List ℕ → List (List ℕ)
chain_within zero reg name = []
chain_within (suc levels) reg name = flat_map (chain_within levels reg) (member_bases (find_entity name reg)) ++ name ∷ []

abbrev pub chain_of : List Entity → List ℕ → List (List ℕ)
chain_of reg name = chain_within (suc (length reg)) reg name

abbrev pub functions_over : (List ℕ → Option tree.Declaration) → List Entity → List Entity → List ℕ → List Named
functions_over own built reg name = flat_map (functions_at own built) (interfaces_of reg name)

abbrev pub fields_over : (List ℕ → Option tree.Declaration) → List Entity → List Entity → List ℕ → List Named
fields_over own built reg name = flat_map (fields_at own built) (chain_of reg name)

-- the names of one kind that an entity has itself, and those that it has with its bases
abbrev pub named_at : Kind → (List ℕ → Option tree.Declaration) → List Entity → List ℕ → List Named
named_at Functions = functions_at
named_at Fields = fields_at

abbrev pub names_over : Kind → (List ℕ → Option tree.Declaration) → List Entity → List Entity → List ℕ → List Named
names_over Functions = functions_over
names_over Fields = fields_over

-- the bases from which it has them
abbrev pub bases_at : Kind → List Entity → List ℕ → List (List ℕ)
bases_at Functions reg name = stands_on reg name
bases_at Fields reg name = member_bases (find_entity name reg)

-- the list of names that a declaration has with its bases
abbrev pub lists_over : (List ℕ → Option tree.Declaration) → List Entity → List Entity → List ℕ → tree.Declaration → List (List Named)
lists_over own built reg name (interface base members) = functions_over own built reg name ∷ []
lists_over own built reg name (struct base members) = fields_over own built reg name ∷ []
lists_over own built reg name (exception base members) = fields_over own built reg name ∷ []
lists_over own built reg name _ = []

-- ---- what is answered

-- the least place of second names in these lists, and of the places of which the least was known
abbrev pub FindsMore : Option Place → Option Place → List (List Named) → plain.Place → Type 0
FindsMore old new lists own = (ps : List plain.Place) → AllByRecursion HaveKeys lists → FindsLeast ps old → FindsLeast (ps ++ flat_map (λ names. second_names own (map name_at names)) lists) new
