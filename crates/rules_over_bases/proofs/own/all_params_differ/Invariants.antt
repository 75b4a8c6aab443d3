use Rattle.std.proofs.Common.{◌≡◌, drop, map}
use Rattle.std.specs.List.{list_all}
use Rattle.registry_text_model.specs.NamesDiffer.{params_differ}
use Rattle.uno_entities.specs.Entities.{member_of}
use Rattle.rules_over_bases.proofs.own.all_params_differ.Given as goal

abbrev pub invariant-loop-member : goal.invariant-loop-member
invariant-loop-member l = list_all params_differ (map member_of (drop l.member-index l.members)) ≡ list_all params_differ (map member_of l.members)
