-- Which values words stand for, where they fit their types.
use Rattle.std.specs.Prelude.{◌≡◌, ℕ, List, [], ◌∷◌}
use Rattle.uno_model.specs.Entities.{Entity, Field}
use Rattle.uno_model.specs.Fits.{Fits, FitEach}
use Rattle.uno_model.specs.Functions.{Function}
use Rattle.uno_model.specs.Kinds as kd
use Rattle.uno_model.specs.Values.{plains}
use Rattle.uno_model.specs.Values as v
use Rattle.message_model.specs.Calls.{argument_kinds, out_kinds, may_raise}
use Rattle.message_model.specs.Sayable.{AnswerFits}
use Rattle.plan_model.specs.Contexts.{Scoped}
use Rattle.plan_model.specs.Evaluation.{Scene}
use Rattle.plan_model.specs.Frames.{Variable}
use Rattle.plan_typing.specs.Types.{Types}

-- variables with their types, in the same order and under the same names
unfoldable pub VariablesFit : List Entity → List Variable → List Scoped → Type 0
VariablesFit reg [] [] = Unit
VariablesFit reg [] (t ∷ ts) = ⊥
VariablesFit reg (x ∷ xs) [] = ⊥
VariablesFit reg (x ∷ xs) (t ∷ ts) = (x.name ≡ t.name) × Fits reg x.value t.kind × VariablesFit reg xs ts

unfoldable pub FieldsFit : List Entity → List Variable → List Field → Type 0
FieldsFit reg [] [] = Unit
FieldsFit reg [] (f ∷ fs) = ⊥
FieldsFit reg (x ∷ xs) [] = ⊥
FieldsFit reg (x ∷ xs) (f ∷ fs) = (x.name ≡ f.name) × Fits reg x.value f.kind × FieldsFit reg xs fs

-- what words stand for fits the types
pub record SceneFits (reg : List Entity) (s : Scene) (ts : Types) : Type 0 where
  pub variables : VariablesFit reg s.variables ts.variables
  pub fields : FieldsFit reg s.fields ts.fields
  pub own : Fits reg (v.ref s.own) (kd.interface ts.own)
