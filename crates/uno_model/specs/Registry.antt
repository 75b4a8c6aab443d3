-- A registry: entities with distinct names, in rising order of the names' bytes, and what they say of one another.
use Rattle.std.specs.Prelude.{◌≡◌, ℕ, zero, suc, not, ◌⊎◌, List, [], ◌∷◌, ◌++◌, length, map, filter, Option, None, Some, if◌then◌else◌}
use Rattle.std.specs.Ordering.{nat_cmp}
use Rattle.std.specs.List.{flat_map}
use Rattle.std.specs.List.Sorted.{IsStrictlySortedBy}
use Rattle.std.specs.Cmp.Lexicographic.{slice_cmp}
use Rattle.std.specs.Str.{bytes_eq}
use Rattle.uno_model.specs.Circles.{Leads}
use Rattle.uno_model.specs.Kinds.{Kind}
use Rattle.uno_model.specs.Kinds as kd
use Rattle.uno_model.specs.Entities.{Entity, Body, Base, Field, interface, struct, exception}

-- each name is below those after it
abbrev pub IsRising : List Entity → Type 0
IsRising reg = IsStrictlySortedBy (slice_cmp nat_cmp) (map (λ e. e.name) reg)

-- the entity of a name
unfoldable pub find_entity : List ℕ → List Entity → Option Entity
find_entity name [] = None
find_entity name (e ∷ es) = if bytes_eq name e.name then Some e else find_entity name es

-- new is old with one more entity
pub record Adds (old new : List Entity) (entity : Entity) : Type 0 where
  pub front : List Entity
  pub back : List Entity
  pub before : old ≡ front ++ back
  pub after : new ≡ front ++ entity ∷ back

-- the names of the bases that are not optional
abbrev pub mandatory_bases : List Base → List (List ℕ)
mandatory_bases bases = map (λ b. b.name) (filter (λ b. not b.optional) bases)

-- a base, where there is one
abbrev pub at_most_one : Option (List ℕ) → List (List ℕ)
at_most_one None = []
at_most_one (Some name) = name ∷ []

-- what an entity stands on: an interface on its bases that are not optional, a struct or exception on its base
abbrev pub stands_on_body : Option Entity → List (List ℕ)
stands_on_body None = []
stands_on_body (Some e) = bases_of e.body
  where
    bases_of : Body → List (List ℕ)
    bases_of (interface bases members) = mandatory_bases bases
    bases_of (struct base members) = at_most_one base
    bases_of (exception base members) = at_most_one base
    bases_of _ = []

abbrev pub stands_on : List Entity → List ℕ → List (List ℕ)
stands_on reg name = stands_on_body (find_entity name reg)

-- the struct that a type is; one in a sequence is not contained
abbrev pub struct_in : Kind → List (List ℕ)
struct_in (kd.struct name) = name ∷ []
struct_in _ = []

-- the structs that a struct contains: the types of its members
abbrev pub contained : List Field → List (List ℕ)
contained fields = flat_map (λ f. struct_in f.kind) fields

-- what an entity leads to on ways that may not come back: its bases, and for a struct the structs that it contains
abbrev pub led_to : Body → List (List ℕ)
led_to (interface bases members) = map (λ b. b.name) bases
led_to (struct base members) = at_most_one base ++ contained members
led_to (exception base members) = at_most_one base
led_to _ = []

abbrev pub leads_to_body : Option Entity → List (List ℕ)
leads_to_body None = []
leads_to_body (Some e) = led_to e.body

abbrev pub leads_to : List Entity → List ℕ → List (List ℕ)
leads_to reg name = leads_to_body (find_entity name reg)

-- the one is the other, or the other stands on it by any number of bases
abbrev pub IsBaseOf : List Entity → List ℕ → List ℕ → Type 0
IsBaseOf reg to from = (from ≡ to) ⊎ Leads (stands_on reg) from to

-- a value of the one type may stand where the other is asked: equal types, or entities of one kind of which one is a base of the other
abbrev pub Assignable : List Entity → Kind → Kind → Type 0
Assignable reg (kd.interface to) (kd.interface from) = IsBaseOf reg to from
Assignable reg (kd.struct to) (kd.struct from) = IsBaseOf reg to from
Assignable reg (kd.exception to) (kd.exception from) = IsBaseOf reg to from
Assignable reg to from = from ≡ to

-- the members that an entity declares, and the entity that it has others from
abbrev pub own_members : Option Entity → List Field
own_members None = []
own_members (Some e) = fields_of e.body
  where
    fields_of : Body → List Field
    fields_of (struct base members) = members
    fields_of (exception base members) = members
    fields_of _ = []

abbrev pub member_bases : Option Entity → List (List ℕ)
member_bases None = []
member_bases (Some e) = bases_of e.body
  where
    bases_of : Body → List (List ℕ)
    bases_of (struct base members) = at_most_one base
    bases_of (exception base members) = at_most_one base
    bases_of _ = []

-- the members of a struct or exception over so many levels of bases, those of the base first
unfoldable pub members_within : ℕ → List Entity → List ℕ → List Field
members_within zero reg name = []
members_within (suc levels) reg name = flat_map (members_within levels reg) (member_bases (find_entity name reg)) ++ own_members (find_entity name reg)

-- all members: a way over bases that comes to no name twice has no more levels than there are entities
abbrev pub all_members : List Entity → List ℕ → List Field
all_members reg name = members_within (suc (length reg)) reg name
