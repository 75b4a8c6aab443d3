use Rattle.std.proofs.Common.{arith, map, subst, sym}
use Rattle.std.specs.List.{flat_map}
use Rattle.idl_check.proofs.VerdictLemmas.{asked_kinds, asked_no_circle, found_among, no_twins}
use Rattle.idl_check.specs.Asked.{IsAsked}
use Rattle.idl_joint_places.specs.Circles.{FindsLeast}
use Rattle.idl_meaning_model.specs.Declarations.{entities_declared}
use Rattle.idl_meant.specs.Resolving.{all_in}
use Rattle.idl_names.specs.Collected.{declared_of}
use Rattle.idl_rules_model.specs.NamesDiffer.{repeated_names}
use Rattle.registry_text_model.specs.Rules as rule
use Rattle.uno_entities.specs.Entities.{entities_of}
use Rattle.uno_model.specs.Registry.{IsRising}
use Rattle.idl_check.proofs.judge.repeated_name.Goals as goal

pub first_with_twins-requires-clause-rising : goal.first_with_twins-requires-clause-rising
first_with_twins-requires-clause-rising c = subst IsRising (sym c.entities-entities.ensures.all) c.entities-entities.ensures.rising

pub first_with_twins-requires-clause-no_circle : goal.first_with_twins-requires-clause-no_circle
first_with_twins-requires-clause-no_circle c =
    let asked : IsAsked (all_in c.args.resolved.now) c.requires.asked.0 (entities_of c.entities-entities.result.now) =
    subst (IsAsked (all_in c.args.resolved.now) c.requires.asked.0) (sym c.entities-entities.ensures.all) c.requires.asked.1 in
    asked_no_circle 3 (all_in c.args.resolved.now) c.requires.asked.0 (entities_of c.entities-entities.result.now) asked c.requires.lesser (omega arith)

pub first_with_twins-requires-clause-kinds : goal.first_with_twins-requires-clause-kinds
first_with_twins-requires-clause-kinds c =
    let asked : IsAsked (all_in c.args.resolved.now) c.requires.asked.0 (entities_of c.entities-entities.result.now) =
    subst (IsAsked (all_in c.args.resolved.now) c.requires.asked.0) (sym c.entities-entities.ensures.all) c.requires.asked.1 in
    asked_kinds 3 (all_in c.args.resolved.now) c.requires.asked.0 c.entities-entities.result.now asked c.requires.lesser (omega arith)

pub returns : goal.returns
returns c =
    found_among rule.names (all_in c.args.resolved.now) c.requires.asked.0 c.args.registry.now c.in_ok-found.found c.requires.asked.1
    (subst
    (λ xs. FindsLeast (flat_map (repeated_names (map (declared_of c.args.resolved.now.paths) xs) c.args.registry.now) (entities_declared (map (declared_of c.args.resolved.now.paths) xs))) c.in_ok-found.found)
    c.as_slice-declared.ensures.value c.in_ok-found.ensures)

pub returns-then-is_none : goal.returns-then-is_none
returns-then-is_none c =
    let asked : IsAsked (all_in c.args.resolved.now) c.requires.asked.0 (entities_of c.entities-entities.result.now) =
    subst (IsAsked (all_in c.args.resolved.now) c.requires.asked.0) (sym c.entities-entities.ensures.all) c.requires.asked.1 in
    no_twins (all_in c.args.resolved.now) c.requires.asked.0 c.entities-entities.result.now asked c.in_ok-twins.twins c.is_none.result c.in_ok-twins.ensures c.is_none.ensures c.if-is_none.true
