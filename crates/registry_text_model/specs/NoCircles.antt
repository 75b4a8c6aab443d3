-- The second rule: no entity leads back to itself, over bases, optional ones too, over structs that structs contain, or over typedefs.
use Rattle.std.specs.Prelude.{ℕ, Bool, true, false, List, [], ◌∷◌, filter, Option, None, Some}
use Rattle.uno_model.specs.Circles.{Leads}
use Rattle.uno_model.specs.Entities.{Entity, Body, typedef}
use Rattle.uno_model.specs.Kinds.{Kind}
use Rattle.uno_model.specs.Kinds as kd
use Rattle.uno_model.specs.Registry.{find_entity, led_to}
use Rattle.uno_model.specs.Sound.{is_there}

abbrev pub is_typedef : Body → Bool
is_typedef (typedef k) = true
is_typedef _ = false

-- the name in a type, below all its sequences
abbrev pub names_in : Kind → List (List ℕ)
names_in (kd.enum name) = name ∷ []
names_in (kd.struct name) = name ∷ []
names_in (kd.exception name) = name ∷ []
names_in (kd.interface name) = name ∷ []
names_in (kd.sequence k) = names_in k
names_in _ = []

-- the typedef to which a typedef leads: no type may name one, but a text may
abbrev pub typedefs_in : List Entity → Kind → List (List ℕ)
typedefs_in reg k = filter (is_there reg is_typedef) (names_in k)

-- what an entity leads to: its bases, the structs that it contains, and for a typedef the typedef in it
abbrev pub led_on : List Entity → Body → List (List ℕ)
led_on reg (typedef k) = typedefs_in reg k
led_on reg body = led_to body

abbrev pub leads_on : List Entity → Option Entity → List (List ℕ)
leads_on reg None = []
leads_on reg (Some e) = led_on reg e.body

unfoldable pub leads_on_to : List Entity → List ℕ → List (List ℕ)
leads_on_to reg name = leads_on reg (find_entity name reg)

abbrev pub IsOnNoCircle : List Entity → Entity → Type 0
IsOnNoCircle reg e = ¬ Leads (leads_on_to reg) e.name e.name
