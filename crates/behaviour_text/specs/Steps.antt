-- What a line does, step by step.
use Rattle.std.specs.Prelude.{ℕ, Bool, true, false, not, List, [], ◌∷◌, ◌++◌, Option, None, Some, if◌then◌else◌}
use Rattle.std.specs.List.{filter}
use Rattle.std.specs.Str.{bytes_eq}
use Rattle.plan_model.specs.Building.{with_statement, with_root_statement}
use Rattle.plan_model.specs.Contexts.{Scoped, Context, Block, in_behaviour, in_method, in_thread}
use Rattle.plan_model.specs.Fitting.{all_fits}
use Rattle.plan_model.specs.KnownNames.{names_are_known}
use Rattle.plan_model.specs.Limits.{keeps_limits}
use Rattle.plan_model.specs.LinePlaces.{may_stand}
use Rattle.plan_model.specs.Lines.{Line}
use Rattle.plan_model.specs.Lines as line
use Rattle.plan_model.specs.NewNames.{names_are_new}
use Rattle.plan_model.specs.Plans.{Behaviour, Method}
use Rattle.plan_model.specs.Statements as s
use Rattle.plan_model.specs.declared.line_reason.LineReason.{LineReason}
use Rattle.plan_model.specs.declared.line_reason.LineReason.TheVariants.{Form, Unknown, Twice, Misfit, Limit}
use Rattle.uno_model.specs.Entities.{Entity, Field}
use Rattle.uno_model.specs.Functions.{Function}
use Rattle.uno_model.specs.Kinds.{Kind}
use Rattle.uno_model.specs.Kinds as kd

-- ---- variables

abbrev pub scoped_more : List ℕ → Kind → List Scoped → List Scoped
scoped_more name k xs = xs ++ record { name = name; kind = k; comes_out = false } ∷ []

abbrev pub scoped_less : List ℕ → List Scoped → List Scoped
scoped_less name xs = filter (λ x. not (bytes_eq name x.name)) xs

abbrev pub scoped_result : Option Field → List Scoped → List Scoped
scoped_result None xs = xs
scoped_result (Some f) xs = scoped_more f.name f.kind xs

-- the variables behind a statement
abbrev pub scoped_behind : s.Statement → List Scoped → List Scoped
scoped_behind (s.let_variable f a) xs = scoped_more f.name f.kind xs
scoped_behind (s.call x) xs = scoped_result x.to xs
scoped_behind (s.query q) xs = scoped_more q.to (kd.interface q.wanted) xs
scoped_behind (s.make m) xs = scoped_more m.to (kd.interface m.face) xs
scoped_behind (s.drop_variable name) xs = scoped_less name xs
scoped_behind other xs = xs

abbrev pub scoped_behind_root : s.RootStatement → List Scoped → List Scoped
scoped_behind_root (s.ask to wanted name) xs = scoped_more to (kd.interface wanted) xs
scoped_behind_root (s.ask_instance to wanted) xs = scoped_more to (kd.interface wanted) xs
scoped_behind_root (s.root_call x) xs = scoped_result x.to xs
scoped_behind_root (s.root_query q) xs = scoped_more q.to (kd.interface q.wanted) xs
scoped_behind_root (s.root_make m) xs = scoped_more m.to (kd.interface m.face) xs
scoped_behind_root (s.root_drop name) xs = scoped_less name xs
scoped_behind_root other xs = xs

-- ---- reasons

-- those that come before the fitting of values
abbrev pub early_reason : List Entity → Context → Line → Option LineReason
early_reason reg c l =
    if not (may_stand c.block l) then Some Form
    else (if not (names_are_known reg c l) then Some Unknown
    else (if not (names_are_new c l) then Some Twice
    else None))

-- and the others
abbrev pub late_reason : List Entity → Context → Line → Option LineReason
late_reason reg c l =
    if not (all_fits reg c l) then Some Misfit
    else (if not (keeps_limits c l) then Some Limit
    else None)

-- ---- blocks

-- a field more, where a behaviour is open
abbrev pub block_with_field : Field → Block → Block
block_with_field f (in_behaviour b) = in_behaviour (record b { fields = b.fields ++ f ∷ [] })
block_with_field f b = b

-- the block of a method, where a behaviour is open
abbrev pub enters : Method → Function → List Scoped → Block → Context → Context
enters m f xs (in_behaviour b) c = record c { block = in_method b m f; variables = xs }
enters m f xs block c = c

abbrev pub entered : Method → Function → List Scoped → Context → Context
entered m f xs c = enters m f xs c.block c

-- blocks that end, which were taken out
abbrev pub with_behaviour : Behaviour → Context → Context
with_behaviour b c = record c { plan = record c.plan { behaviours = c.plan.behaviours ++ b ∷ [] } }

abbrev pub with_method : Behaviour → Method → Context → Context
with_method b m c = record c { block = in_behaviour (record b { methods = b.methods ++ m ∷ [] }); variables = [] }

abbrev pub with_thread : List s.RootStatement → Context → Context
with_thread ss c = record c { plan = record c.plan { threads = c.plan.threads ++ ss ∷ [] }; variables = [] }

-- ---- statements

abbrev pub is_statement : Line → Bool
is_statement (line.behaviour name faces) = false
is_statement (line.field d) = false
is_statement (line.method face function) = false
is_statement (line.service name b) = false
is_statement (line.singleton name b) = false
is_statement (line.export name b) = false
is_statement line.thread = false
is_statement line.end_line = false
is_statement l = true

-- the later reasons of a line that is a statement, or is none
abbrev pub by_found : Bool → Context → Line → Option LineReason
by_found found c l =
    if not found then Some Misfit
    else (if not (keeps_limits c l) then Some Limit
    else None)

-- a statement more of a method, where one is open, and of a root
abbrev pub with_method_statement : Option s.Statement → Context → Context
with_method_statement found c = in_block c.block
  where
    in_block : Block → Context
    in_block (in_method b m f) = with_statement b m f found c
    in_block b = c

abbrev pub with_thread_statement : Option s.RootStatement → Context → Context
with_thread_statement found c = in_block c.block
  where
    in_block : Block → Context
    in_block (in_thread ss) = with_root_statement ss found c
    in_block b = c

-- the block is that of a root
abbrev pub is_thread : Block → Bool
is_thread (in_thread ss) = true
is_thread b = false
