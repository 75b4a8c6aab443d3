use Rattle.std.proofs.Common.{refl}
use Rattle.registry_text_model.specs.Rules as r
use Rattle.registry_reading.proofs.JudgeLemmas as lemma
use Rattle.registry_reading.proofs.judge.raised.Goals as goal

pub returns-clause-kept : goal.returns-clause-kept
returns-clause-kept c = lemma.on_ok _ (λ none. lemma.one_more c.args.heads.now c.args.entities.now r.raised r.values refl c.requires.lesser (lemma.raised_kept _ _ _ c.first_with_wrong_raises.ensures none)) c.refuse.ensures.kept

pub returns-clause-refused : goal.returns-clause-refused
returns-clause-refused c = lemma.on_err _ _ _ (λ e found. lemma.raised_refused _ _ _ e c.requires.lesser c.first_with_wrong_raises.ensures found) c.refuse.ensures.refused
