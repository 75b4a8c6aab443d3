-- Whether each value, variable and behaviour that a line names fits its place.
use Rattle.std.specs.Prelude.{ℕ, Bool, true, false, ◌&&◌, List, [], Option, None, Some, is_some}
use Rattle.std.specs.List.{list_all, list_any}
use Rattle.std.specs.Str.{bytes_eq}
use Rattle.uno_model.specs.Codes.{same_kind}
use Rattle.uno_model.specs.Entities.{Entity, Field, Constructor, new_service, new_singleton}
use Rattle.uno_model.specs.Entities as plain
use Rattle.uno_model.specs.Kinds as kd
use Rattle.uno_model.specs.Registry.{find_entity}
use Rattle.plan_model.specs.Contexts.{Context, Block, in_behaviour, in_thread, behaviour_named}
use Rattle.plan_model.specs.Lines.{Line}
use Rattle.plan_model.specs.Lines as line
use Rattle.plan_model.specs.Plans.{Behaviour, supports}
use Rattle.plan_model.specs.Services.{constructors_of}
use Rattle.plan_model.specs.TypedStatements.{supports_named, statement_of, root_statement_of}

-- the interface of a service or a singleton of the new form
abbrev pub base_in : plain.Body → List ℕ
base_in (new_service base cs) = base
base_in (new_singleton base) = base
base_in b = []

abbrev pub base_of : Option Entity → List ℕ
base_of None = []
base_of (Some e) = base_in e.body

-- a behaviour has a field of this name and type
abbrev pub has_field : Behaviour → Field → Bool
has_field b p = list_any (λ f. bytes_eq p.name f.name && same_kind p.kind f.kind) b.fields

-- one for each parameter, and one of anys for the rest parameter
abbrev pub has_rest_field : Behaviour → Option (List ℕ) → Bool
has_rest_field b None = true
has_rest_field b (Some name) = has_field b (record { name = name; kind = kd.sequence kd.any })

abbrev pub serves : Behaviour → Constructor → Bool
serves b c = list_all (has_field b) c.params && has_rest_field b c.rest

abbrev pub serves_all : Option Behaviour → List Constructor → Bool
serves_all None cs = false
serves_all (Some b) cs = list_all (serves b) cs

abbrev pub service_fits : List Entity → Option Behaviour → Option Entity → Bool
service_fits reg b e = supports_named reg b (base_of e) && serves_all b (constructors_of e)

-- a method is of a behaviour that supports the interface
abbrev pub method_fits : List Entity → Block → List ℕ → Bool
method_fits reg (in_behaviour b) face = supports reg b.faces face
method_fits reg b face = false

abbrev pub statement_fits : List Entity → Context → Line → Block → Bool
statement_fits reg c l (in_thread ss) = is_some (root_statement_of reg c l)
statement_fits reg c l b = is_some (statement_of reg c l)

-- each value, variable and behaviour fits its place
unfoldable pub all_fits : List Entity → Context → Line → Bool
all_fits reg c (line.behaviour name faces) = true
all_fits reg c (line.field d) = true
all_fits reg c (line.method face function) = method_fits reg c.block face
all_fits reg c (line.service name b) = service_fits reg (behaviour_named c b) (find_entity name reg)
all_fits reg c (line.singleton name b) = supports_named reg (behaviour_named c b) (base_of (find_entity name reg))
all_fits reg c (line.export name b) = true
all_fits reg c line.thread = true
all_fits reg c line.end_line = true
all_fits reg c l = statement_fits reg c l c.block
