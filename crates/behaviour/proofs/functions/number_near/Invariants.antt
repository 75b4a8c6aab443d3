use Rattle.std.specs.Prelude.{◌≡◌, ◌+◌, ◌-◌, ◌≤◌, drop}
use Rattle.std.specs.List.{position_or_len}
use Rattle.plan_types.specs.Statements.{callee_of}
use Rattle.uno_model.specs.Functions.{functions_of}
use Rattle.behaviour.specs.Functions.{is_callee}
use Rattle.behaviour.proofs.functions.number_near.Given as goal

-- no function so far is the one
abbrev pub invariant-loop-number : goal.invariant-loop-number
invariant-loop-number l = record {
  within : l.number ≤ 64;
  none : l.number + position_or_len (is_callee (callee_of l.callee)) (drop l.number (functions_of l.registry l.face))
      ≡ position_or_len (is_callee (callee_of l.callee)) (functions_of l.registry l.face);
}

abbrev pub decreases-loop-number : goal.decreases-loop-number
decreases-loop-number l = 64 - l.number
