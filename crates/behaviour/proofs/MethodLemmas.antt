-- The method that is written for a function.
use Rattle.std.proofs.Common.{◌≡◌, ℕ, ◌+◌, ◌<◌, ◌≤◌, true, false, List, length, map, drop, get_or, Option, None, Some}
use Rattle.std.proofs.lemmas.List.{drop_all}
use Rattle.plan_model.specs.Effects.{method_for}
use Rattle.plan_model.specs.Plans as plain
use Rattle.plan_types.specs.Plans.{method_of}
use Rattle.plan_types.specs.declared.plan.Method.{Method}
use Rattle.uno_model.specs.Functions.{Function}
use Rattle.uno_values.proofs.Parts.{part_at}
use Rattle.behaviour.specs.Functions.{is_written_for}

module _ (f : Function) (ms : List Method) (i : ℕ) (m : Method) (whole : Option plain.Method) (within : i < length ms) (is : m ≡ get_or ms i m) where
  pub method_behind : is_written_for f (method_of m) ≡ false → method_for f (map method_of (drop i ms)) ≡ whole → method_for f (map method_of (drop (i + 1) ms)) ≡ whole
  method_behind other all = rw other at (rw (part_at ms i m within is) at all)

  pub method_here : is_written_for f (method_of m) ≡ true → method_for f (map method_of (drop i ms)) ≡ whole → Some (method_of m) ≡ whole
  method_here same all = rw same at (rw (part_at ms i m within is) at all)

pub method_nowhere : (f : Function) (ms : List Method) (i : ℕ) (whole : Option plain.Method) → length ms ≤ i → method_for f (map method_of (drop i ms)) ≡ whole → None ≡ whole
method_nowhere f ms i whole past all = rw (drop_all i ms past) at all
