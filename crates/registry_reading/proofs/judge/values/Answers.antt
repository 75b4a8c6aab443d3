use Rattle.std.proofs.Common.{refl}
use Rattle.registry_reading_model.proofs.RuleLines.{none_beyond_found}
use Rattle.registry_reading.proofs.JudgeLemmas as lemma
use Rattle.registry_reading.proofs.judge.values.Goals as goal

pub returns-in-Some-clause-refused : goal.returns-in-Some-clause-refused
returns-in-Some-clause-refused c =
    lemma.values_refused c.args.heads.now c.args.entities.now _ c.in-Some.ensures.some.0 c.requires.lesser c.in-Some.ensures.some.1 c.in-Some.ensures.some.2

pub returns-in-None-clause-kept : goal.returns-in-None-clause-kept
returns-in-None-clause-kept c = none_beyond_found _ (c.in-None.ensures.none refl)

pub returns-in-None-clause-lesser : goal.returns-in-None-clause-lesser
returns-in-None-clause-lesser c = lemma.over_values c.args.heads.now c.args.entities.now c.requires.lesser
