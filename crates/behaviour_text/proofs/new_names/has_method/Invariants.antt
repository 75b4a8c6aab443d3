use Rattle.plan_types.specs.Plans.{method_of}
use Rattle.std.specs.List.{list_any}
use Rattle.std.specs.Prelude.{drop, map, ◌&&◌, ◌≡◌}
use Rattle.std.specs.Str.{bytes_eq}
use Rattle.behaviour_text.proofs.new_names.has_method.Given as goal

abbrev pub invariant-loop-method : goal.invariant-loop-method
invariant-loop-method l = list_any (λ m. bytes_eq l.face m.face && bytes_eq l.function m.function) (map method_of (drop l.method-index l.methods)) ≡ list_any (λ m. bytes_eq l.face m.face && bytes_eq l.function m.function) (map method_of l.methods)
