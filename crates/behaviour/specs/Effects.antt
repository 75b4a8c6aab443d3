-- Effects as plain trees.
use Rattle.std.specs.Prelude.{map}
use Rattle.plan_model.specs.Asking as plain
use Rattle.plan_types.specs.Frames.{variable_of}
use Rattle.uno_entities.specs.TypeNames.{kind_of}
use Rattle.uno_values.specs.References.{ref_of}
use Rattle.uno_values.specs.Values.{plain_of}
use Rattle.behaviour.specs.declared.effect.Effect.{Effect}
use Rattle.behaviour.specs.declared.effect.Effect.TheVariants as effect

abbrev pub effect_of : Effect → plain.Effect
effect_of (effect.Lets x) = plain.lets (variable_of x)
effect_of (effect.Sets x) = plain.sets (variable_of x)
effect_of (effect.SetsField x) = plain.sets_field (variable_of x)
effect_of (effect.Drops name) = plain.drops name
effect_of effect.Skips = plain.skips
effect_of (effect.Calls target function args to) = plain.calls (ref_of target) function (map plain_of args.items) to
effect_of (effect.Queries target wanted to) = plain.queries (ref_of target) wanted to
effect_of (effect.Makes behaviour face to) = plain.makes behaviour face to
effect_of effect.Disposes = plain.disposes
effect_of (effect.Creates name args) = plain.creates name (map plain_of args.items)
effect_of (effect.Returns value outs) = plain.returns (plain_of value) (map plain_of outs.items)
effect_of (effect.Raises exception) = plain.raises (kind_of exception.kind) (plain_of exception.value)
