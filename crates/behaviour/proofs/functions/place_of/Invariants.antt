use Rattle.std.specs.Prelude.{◌≡◌, ◌+◌, drop}
use Rattle.std.specs.List.{position_or_len}
use Rattle.plan_types.specs.Statements.{callee_of}
use Rattle.type_registry.specs.Functions.{functions_at}
use Rattle.behaviour.specs.Functions.{is_callee}
use Rattle.behaviour.proofs.functions.place_of.Given as goal

-- no function so far is the one
abbrev pub invariant-loop-function : goal.invariant-loop-function
invariant-loop-function l = record {
  at : l.place ≡ l.function-index;
  none : l.place + position_or_len (is_callee (callee_of l.callee)) (functions_at (drop l.function-index l.functions)) ≡ position_or_len (is_callee (callee_of l.callee)) (functions_at l.functions);
}
