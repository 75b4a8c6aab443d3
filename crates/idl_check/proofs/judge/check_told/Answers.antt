use Rattle.std.proofs.Common.{refl, sym, subst, map, ◌++◌}
use Rattle.uno_entities.specs.Entities.{entities_of}
use Rattle.uno_model.specs.BuiltIn.{built_in}
use Rattle.uno_model.specs.Registry.{IsRising}
use Rattle.idl_check.specs.Apart.{NamesDiffer}
use Rattle.idl_meant.specs.Resolving.{all_in}
use Rattle.idl_check.proofs.VerdictLemmas.{asked_all, refused_err, registry_asked, told_differ}
use Rattle.idl_entities.specs.Telling.{entity_told}
use Rattle.idl_check.proofs.judge.check_told.Goals as goal

pub registry_told-requires : goal.registry_told-requires
registry_told-requires g c = record { apart = subst (λ ts. NamesDiffer (built_in ++ map entity_told ts)) (sym c.requires.told) (told_differ (all_in c.args.resolved.now) c.requires.resolved) }

pub judge_names-requires-clause-asked : goal.judge_names-requires-clause-asked
judge_names-requires-clause-asked g c =
    registry_asked (all_in c.args.resolved.now) (map g.M.Meanings.telling c.args.all.now) c.in_ok-registry.registry c.in_ok-registry.registry c.requires.resolved c.requires.told refl
    c.entities-entities.ensures.rising c.in_ok-registry.ensures

pub judge_types-requires-clause-rising : goal.judge_types-requires-clause-rising
judge_types-requires-clause-rising g c = subst IsRising (sym c.entities-entities.ensures.all) c.entities-entities.ensures.rising

pub judge_types-requires-clause-asked : goal.judge_types-requires-clause-asked
judge_types-requires-clause-asked g c =
    registry_asked (all_in c.args.resolved.now) (map g.M.Meanings.telling c.args.all.now) (entities_of c.entities-entities.result.now) c.in_ok-registry.registry c.requires.resolved c.requires.told c.entities-entities.ensures.all
    c.entities-entities.ensures.rising c.in_ok-registry.ensures

pub judge_types-requires-clause-lesser : goal.judge_types-requires-clause-lesser
judge_types-requires-clause-lesser g c = c.in_ok-judge_names.ensures.0

pub returns-in_err-judge_names-clause-refused : goal.returns-in_err-judge_names-clause-refused
returns-in_err-judge_names-clause-refused g c =
    refused_err 5 (all_in c.args.resolved.now) c.from_residual-in_err-judge_names.result c.in_err-judge_names.field-0.0 c.from_residual-in_err-judge_names.ensures c.in_err-judge_names.ensures

pub returns-in_err-judge_types-clause-refused : goal.returns-in_err-judge_types-clause-refused
returns-in_err-judge_types-clause-refused g c =
    refused_err 11 (all_in c.args.resolved.now) c.from_residual-in_err-judge_types.result c.in_err-judge_types.field-0.0 c.from_residual-in_err-judge_types.ensures c.in_err-judge_types.ensures

pub returns-clause-kept : goal.returns-clause-kept
returns-clause-kept g c =
    asked_all (all_in c.args.resolved.now) (map g.M.Meanings.telling c.args.all.now) c.in_ok-registry.registry
    (registry_asked (all_in c.args.resolved.now) (map g.M.Meanings.telling c.args.all.now) c.in_ok-registry.registry c.in_ok-registry.registry c.requires.resolved c.requires.told refl
    c.entities-entities.ensures.rising c.in_ok-registry.ensures) c.in_ok-judge_types.ensures.0
