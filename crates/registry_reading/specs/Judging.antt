-- A registry that was read, judged by the rules.
use Rattle.std.specs.Prelude.{◌≡◌, ◌≢◌, ℕ, ◌<◌, false, List, Option, None, Some, ⊤, slice_get}
use Rattle.std.specs.List.{list_any}
use Rattle.uno_model.specs.Entities.{Entity}
use Rattle.registry_text_model.specs.Reading.{BreaksRule}
use Rattle.registry_text_model.specs.Rules.{Rule, number_of, values, AllKeep}
use Rattle.registry_reading_model.specs.Heads.{Head, head_named}
use Rattle.registry_reading_model.specs.Whole.{ReadWhole}
use Rattle.registry_reading.specs.declared.error.RegError.{RegError}
use Rattle.registry_reading.specs.declared.error.RegError.TheVariants as error

-- the line of the header of the entity at a place
abbrev pub line_of_head : Option Head → ℕ
line_of_head None = 0
line_of_head (Some h) = h.line

abbrev pub line_of_entity : List Head → Option Entity → ℕ
line_of_entity heads None = 0
line_of_entity heads (Some k) = line_of_head (head_named k.name heads)

unfoldable pub line_at : List Head → List Entity → ℕ → ℕ
line_at heads reg place = line_of_entity heads (slice_get reg place)

-- the rule of this number is broken by the entity at the place, where there is one
abbrev pub verdict : ℕ → List Head → List Entity → Option ℕ → Option RegError
verdict number heads reg None = None
verdict number heads reg (Some place) = Some (error.Rule number (line_at heads reg place))

-- the text breaks the rule of this number, and none before it
pub record IsBroken (bytes : List ℕ) (number line : ℕ) : Type 0 where
  pub rule : Rule
  pub numbered : number_of rule ≡ number
  pub breaks : BreaksRule bytes rule line

-- the refusal is right for each text that was read as this registry
abbrev pub Refuses : List Head → List Entity → RegError → Type 0
Refuses heads reg (error.Rule number line) = (bytes : List ℕ) → ReadWhole bytes heads reg → IsBroken bytes number line
Refuses heads reg error.NoMemory = ⊤
Refuses heads reg _ = ⊥

-- each lesser rule is kept, but for that on the values of items, which are not all kept as they are
abbrev pub LesserKept : List Entity → Rule → Type 0
LesserKept reg rule = (lesser : Rule) → lesser ≢ values → number_of lesser < number_of rule → AllKeep reg lesser

abbrev pub NoneBeyond : List Head → Type 0
NoneBeyond heads = list_any (λ h. h.beyond) heads ≡ false

-- each rule is kept, the values of items seen with the headers
pub record KeepsAll (heads : List Head) (reg : List Entity) : Type 0 where
  pub long : list_any (λ h. h.beyond) heads ≡ false
  pub others : (rule : Rule) → rule ≢ values → AllKeep reg rule
