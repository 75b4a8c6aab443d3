-- What a frame works out, before it is judged as an answer; and registries whose types words have.
use Rattle.std.specs.Prelude.{◌≡◌, List, true}
use Rattle.std.specs.List.{list_all}
use Rattle.message_model.specs.Calls.{out_kinds}
use Rattle.message_model.specs.Messages.{Answer, returned, raised}
use Rattle.uno_model.specs.Entities.{Entity, Param}
use Rattle.uno_model.specs.Fits.{Fits, FitEach}
use Rattle.uno_model.specs.Functions.{Function}
use Rattle.uno_model.specs.Kinds as kd
use Rattle.uno_model.specs.Types.{is_type}
use Rattle.uno_model.specs.Values.{plains}
use Rattle.uno_model.specs.Values as v
use Rattle.plan_model.specs.Contexts.{Scoped}

-- a result and values of its function's types, or an exception
abbrev pub WorkedOut : List Entity → Function → Answer → Type 0
WorkedOut reg f (returned x outs) = Fits reg x f.result_kind × FitEach reg (plains outs) (out_kinds f)
WorkedOut reg f (raised k x) = Fits reg (v.any k x) kd.any

-- all types of parameters, or of variables, are types of the registry
abbrev pub ParamsTyped : List Entity → List Param → Type 0
ParamsTyped reg ps = list_all (λ p. is_type reg p.kind) ps ≡ true

abbrev pub VariablesTyped : List Entity → List Scoped → Type 0
VariablesTyped reg ts = list_all (λ t. is_type reg t.kind) ts ≡ true
