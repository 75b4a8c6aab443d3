-- What is known of the entities of a registry, place by place.
use Rattle.std.specs.Prelude.{◌≡◌, ℕ, Bool, true, List, [], length, Option, None, Some, slice_get}
use Rattle.std.specs.List.{flat_map}
use Rattle.uno_model.specs.Entities.{Entity}
use Rattle.uno_model.specs.Functions.{interfaces_of}
use Rattle.uno_model.specs.Registry.{find_entity}
use Rattle.uno_model.specs.Sound.{all_differ, has_member}
use Rattle.uno_entities.specs.Marks.{Marked}
use Rattle.rules_over_bases.specs.OwnNames.{own_names}

-- the answer is what the test says of the entity at the place
abbrev pub KeepsAt : (Entity → Bool) → List Entity → ℕ → Bool → Type 0
KeepsAt test reg place answer = (e : Entity) → slice_get reg place ≡ Some e → answer ≡ test e

-- the names that a name's entity and all on which it stands declare, each entity's once
abbrev pub names_at : Option Entity → List (List ℕ)
names_at None = []
names_at (Some e) = own_names e.body

unfoldable pub names_over : List Entity → List ℕ → List (List ℕ)
names_over reg name = flat_map (λ n. names_at (find_entity n reg)) (interfaces_of reg name)

abbrev pub differ_over : List Entity → Entity → Bool
differ_over reg e = all_differ (names_over reg e.name)

-- each that is marked passes the test
pub record KnownToPass (test : Entity → Bool) (reg : List Entity) (known : List Bool) : Type 0 where
  pub one_each : length known ≡ length reg
  pub passes : (place : ℕ) → Marked known place → KeepsAt test reg place true

abbrev pub KnownToDiffer : List Entity → List Bool → Type 0
KnownToDiffer reg known = KnownToPass (differ_over reg) reg known

abbrev pub KnownMembers : List Entity → List Bool → Type 0
KnownMembers reg known = KnownToPass (has_member reg) reg known
