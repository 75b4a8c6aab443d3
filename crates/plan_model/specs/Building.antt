-- What a plan is made of, line by line: what stands before the next line, where a line is not wrong.
use Rattle.std.specs.Prelude.{ℕ, false, not, List, [], ◌∷◌, ◌++◌, Option, None, Some}
use Rattle.std.specs.List.{filter}
use Rattle.std.specs.Str.{bytes_eq}
use Rattle.uno_model.specs.Entities.{Entity, Field}
use Rattle.uno_model.specs.Functions.{Function}
use Rattle.uno_model.specs.Kinds.{Kind}
use Rattle.uno_model.specs.Kinds as kd
use Rattle.uno_model.specs.NamedTypes.{type_of_text}
use Rattle.plan_model.specs.Contexts.{Context, Block, at_top, in_behaviour, in_method, in_thread, behaviour_number, declared_function, parameters}
use Rattle.plan_model.specs.Lines.{Line}
use Rattle.plan_model.specs.Lines as line
use Rattle.plan_model.specs.Plans.{Plan, Behaviour, Method}
use Rattle.plan_model.specs.Statements.{Statement, RootStatement, let_variable, call, query, make, drop_variable, ask, ask_instance, root_call, root_query, root_make, root_drop}
use Rattle.plan_model.specs.TypedStatements.{statement_of, root_statement_of}

-- ---- variables

abbrev pub with_scoped : List ℕ → Kind → Context → Context
with_scoped name k c = record c { variables = c.variables ++ record { name = name; kind = k; comes_out = false } ∷ [] }

abbrev pub without_scoped : List ℕ → Context → Context
without_scoped name c = record c { variables = filter (λ x. not (bytes_eq name x.name)) c.variables }

abbrev pub with_result : Option Field → Context → Context
with_result None c = c
with_result (Some f) c = with_scoped f.name f.kind c

-- the variables behind a statement
abbrev pub behind_statement : Statement → Context → Context
behind_statement (let_variable f a) c = with_scoped f.name f.kind c
behind_statement (call x) c = with_result x.to c
behind_statement (query q) c = with_scoped q.to (kd.interface q.wanted) c
behind_statement (make m) c = with_scoped m.to (kd.interface m.face) c
behind_statement (drop_variable name) c = without_scoped name c
behind_statement s c = c

abbrev pub behind_root_statement : RootStatement → Context → Context
behind_root_statement (ask to wanted name) c = with_scoped to (kd.interface wanted) c
behind_root_statement (ask_instance to wanted) c = with_scoped to (kd.interface wanted) c
behind_root_statement (root_call x) c = with_result x.to c
behind_root_statement (root_query q) c = with_scoped q.to (kd.interface q.wanted) c
behind_root_statement (root_make m) c = with_scoped m.to (kd.interface m.face) c
behind_root_statement (root_drop name) c = without_scoped name c
behind_root_statement s c = c

-- ---- blocks

-- a statement more in the open block
abbrev pub with_statement : Behaviour → Method → Function → Option Statement → Context → Context
with_statement b m f None c = c
with_statement b m f (Some s) c = behind_statement s (record c { block = in_method b (record m { body = m.body ++ s ∷ [] }) f })

abbrev pub with_root_statement : List RootStatement → Option RootStatement → Context → Context
with_root_statement ss None c = c
with_root_statement ss (Some s) c = behind_root_statement s (record c { block = in_thread (ss ++ s ∷ []) })

abbrev pub with_line : List Entity → Line → Context → Context
with_line reg l c = in_block c.block
  where
    in_block : Block → Context
    in_block (in_method b m f) = with_statement b m f (statement_of reg c l) c
    in_block (in_thread ss) = with_root_statement ss (root_statement_of reg c l) c
    in_block b = c

-- blocks begin and end
abbrev pub opens_behaviour : List ℕ → List (List ℕ) → Context → Context
opens_behaviour name faces c = record c { block = in_behaviour (record { name = name; faces = faces; fields = []; methods = [] }) }

abbrev pub opens_method : Block → List ℕ → List ℕ → Option Function → Context → Context
opens_method (in_behaviour b) face function (Some f) c =
    record c { block = in_method b (record { face = face; function = function; body = [] }) f; variables = parameters f.params }
opens_method block face function found c = c

abbrev pub with_field : Block → List ℕ → Option Kind → Context → Context
with_field (in_behaviour b) name (Some k) c = record c { block = in_behaviour (record b { fields = b.fields ++ record { name = name; kind = k } ∷ [] }) }
with_field block name found c = c

abbrev pub closes : Block → Context → Context
closes (in_behaviour b) c = record c { plan = record c.plan { behaviours = c.plan.behaviours ++ b ∷ [] }; block = at_top }
closes (in_method b m f) c = record c { block = in_behaviour (record b { methods = b.methods ++ m ∷ [] }); variables = [] }
closes (in_thread ss) c = record c { plan = record c.plan { threads = c.plan.threads ++ ss ∷ [] }; block = at_top; variables = [] }
closes at_top c = c

-- a line of the top that names a behaviour
abbrev pub with_service : Option ℕ → List ℕ → Plan → Plan
with_service None name p = p
with_service (Some n) name p = record p { services = p.services ++ record { name = name; behaviour = n } ∷ [] }

abbrev pub with_singleton : Option ℕ → List ℕ → Plan → Plan
with_singleton None name p = p
with_singleton (Some n) name p = record p { singletons = p.singletons ++ record { name = name; behaviour = n } ∷ [] }

abbrev pub with_export : Option ℕ → List ℕ → Plan → Plan
with_export None name p = p
with_export (Some n) name p = record p { exports = p.exports ++ record { name = name; behaviour = n } ∷ [] }

-- ---- lines

-- what stands before the next line, where this one is not wrong
unfoldable pub behind : List Entity → Line → Context → Context
behind reg (line.behaviour name faces) c = opens_behaviour name faces c
behind reg (line.field d) c = with_field c.block d.name (type_of_text reg d.kind) c
behind reg (line.method face function) c = opens_method c.block face function (declared_function reg face function) c
behind reg (line.service name b) c = record c { plan = with_service (behaviour_number c b) name c.plan }
behind reg (line.singleton name b) c = record c { plan = with_singleton (behaviour_number c b) name c.plan }
behind reg (line.export name b) c = record c { plan = with_export (behaviour_number c b) name c.plan }
behind reg line.thread c = record c { block = in_thread []; variables = [] }
behind reg line.end_line c = closes c.block c
behind reg l c = with_line reg l c

-- what stands behind lines, one after the other
unfoldable pub behind_all : List Entity → List Line → Context → Context
behind_all reg [] c = c
behind_all reg (l ∷ ls) c = behind_all reg ls (behind reg l c)
