use Rattle.std.proofs.Common.{refl}
use Rattle.registry_text_model.specs.Rules as r
use Rattle.registry_reading.proofs.JudgeLemmas as lemma
use Rattle.registry_reading.proofs.judge.constant_values.Goals as goal

pub returns-clause-kept : goal.returns-clause-kept
returns-clause-kept c = lemma.on_ok _ (λ none. lemma.one_more c.args.heads.now c.args.entities.now r.constant_values r.services refl c.requires.lesser (lemma.constant_values_kept _ _ _ c.first_out_of_range.ensures none)) c.refuse.ensures.kept

pub returns-clause-refused : goal.returns-clause-refused
returns-clause-refused c = lemma.on_err _ _ _ (λ e found. lemma.constant_values_refused _ _ _ e c.requires.lesser c.requires.long c.first_out_of_range.ensures found) c.refuse.ensures.refused
