-- The values that go with a call, one after the other.
use Rattle.std.proofs.Common.{◌≡◌, ℕ, ◌≤◌, List, length, map, drop, Option, Some, sym, ap, ◌∙◌}
use Rattle.std.proofs.lemmas.List.{append-nil, drop_all}
use Rattle.uno_model.specs.Values.{Plain}
use Rattle.plan_model.specs.Calling.{given_values}
use Rattle.plan_model.specs.Evaluation.{Scene}
use Rattle.plan_types.specs.Expressions.{argument_of}
use Rattle.plan_types.specs.declared.expression.Argument.{Argument}
use Rattle.behaviour.specs.Calling.{behind_all}

-- all arguments have their values
pub given_done : (s : Scene) (gs : List Argument) (i : ℕ) (xs : List Plain) (whole : Option (List Plain)) → length gs ≤ i
    → behind_all xs (given_values s (map argument_of (drop i gs))) ≡ whole → Some xs ≡ whole
unfolding given_values
given_done s gs i xs whole past all = let here = rw (drop_all i gs past) at all in ap Some (sym (append-nil xs)) ∙ here
