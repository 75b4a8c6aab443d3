use Rattle.std.proofs.Common.{◌≡◌, drop, map}
use Rattle.std.specs.List.{list_all}
use Rattle.registry_text_model.specs.NamesDiffer.{given_differ}
use Rattle.uno_entities.specs.Entities.{constructor_of}
use Rattle.rules_over_bases.proofs.own.all_given_differ.Given as goal

abbrev pub invariant-loop-constructor : goal.invariant-loop-constructor
invariant-loop-constructor l = list_all given_differ (map constructor_of (drop l.constructor-index l.constructors)) ≡ list_all given_differ (map constructor_of l.constructors)
