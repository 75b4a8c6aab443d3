use Rattle.std.proofs.Common.{refl}
use Rattle.registry_text_model.specs.Rules as r
use Rattle.registry_reading.proofs.JudgeLemmas as lemma
use Rattle.registry_reading.proofs.judge.names.Goals as goal

pub returns-clause-kept : goal.returns-clause-kept
returns-clause-kept c = lemma.on_ok _ (λ none. lemma.one_more c.args.heads.now c.args.entities.now r.names r.one_way refl c.requires.lesser (lemma.names_kept _ _ _ c.in_ok-first_with_twins.ensures none)) c.refuse.ensures.kept

pub returns-clause-refused : goal.returns-clause-refused
returns-clause-refused c = lemma.on_err _ _ _ (λ e found. lemma.names_refused _ _ _ e c.requires.lesser c.in_ok-first_with_twins.ensures found) c.refuse.ensures.refused

pub first_with_twins-requires-clause-no_circle : goal.first_with_twins-requires-clause-no_circle
first_with_twins-requires-clause-no_circle c = lemma.none_on_circles c.args.heads.now c.args.entities.now c.requires.lesser
