use Rattle.std.proofs.Common.{◌∙◌, List, ap, flat_map, is_some, rules, sym}
use Rattle.plan_model.specs.Roots.{next_loose}
use Rattle.bridge_core.proofs.AskLemmas.{first_loose, nothing_there}
use Rattle.uno_model.specs.Values.{refs, refs_in}
use Rattle.uno_values.specs.Values.{plain_of, plains_of}
use Rattle.uno_values.specs.declared.value.Value.{Value}
use Rattle.bridge_world.proofs.MovingRoots.{none_letting}
use Rattle.bridge_world.proofs.roots.is_loose.Goals as goal

pub returns-then-not-is_empty : goal.returns-then-not-is_empty
returns-then-not-is_empty c =
    first_loose c.args.run.now.letting.items (flat_map (λ x. refs (plain_of x)) c.args.run.now.loose.items) (search rules) (λ x next. sym (ap is_some next))

pub returns : goal.returns
returns c =
    c.some_has_reference.ensures
    ∙ (ap (λ (vs : List Value). is_some (next_loose (refs_in (plains_of vs)))) c.as_slice.ensures.value
    ∙ none_letting c.args.run.now.letting.items c.args.run.now.loose.items (nothing_there c.args.run.now.letting.items (search rules)))
