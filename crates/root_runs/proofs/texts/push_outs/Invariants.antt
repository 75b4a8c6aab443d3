use Rattle.std.specs.Prelude.{◌≡◌, ◌++◌, map, drop}
use Rattle.std.specs.String.{string_bytes}
use Rattle.bridge_model.specs.RootRuns.{outs_text}
use Rattle.type_registry.specs.Functions.{lent_function}
use Rattle.uno_values.specs.Values.{plain_of}
use Rattle.root_runs.proofs.texts.push_outs.Given as goal

-- the text so far stands before that of the other parameters
abbrev pub invariant-loop-place : goal.invariant-loop-place
invariant-loop-place l =
    string_bytes l.text ++ outs_text l.registry (drop l.place (lent_function l.function).params) (map plain_of l.left)
    ≡ string_bytes l.fn.text ++ outs_text l.registry (lent_function l.function).params (map plain_of l.outs)
