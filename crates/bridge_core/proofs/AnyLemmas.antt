-- Anys as plain trees.
use Rattle.std.proofs.Common.{◌≡◌}
use Rattle.uno_model.specs.Kinds.{Kind}
use Rattle.uno_model.specs.Values.{Plain}
use Rattle.uno_entities.specs.TypeNames.{kind_of}
use Rattle.uno_values.specs.Values.{any_of, any_step, plain_of, plain_step}
use Rattle.uno_values.specs.declared.value.AnyValue.{AnyValue}
use Rattle.uno_values.specs.declared.value.Value.TheFolds.{fold_out-AnyValue}

-- an any is its type and its value
pub any_parts : (x : AnyValue) → any_of x ≡ (kind_of x.kind, plain_of x.value)
any_parts x = fold_out-AnyValue Plain (Kind × Plain) plain_step any_step x
