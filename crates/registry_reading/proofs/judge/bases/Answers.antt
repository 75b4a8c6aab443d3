use Rattle.std.proofs.Common.{refl, sym, ◌∙◌}
use Rattle.registry_text_model.specs.Rules as r
use Rattle.registry_reading.proofs.JudgeLemmas as lemma
use Rattle.registry_reading.proofs.judge.bases.Goals as goal

pub returns-clause-kept : goal.returns-clause-kept
returns-clause-kept c = lemma.on_ok _ (λ none. lemma.one_more c.args.heads.now c.args.entities.now r.bases r.circles refl (lemma.none_lesser c.args.heads.now c.args.entities.now) (lemma.bases_kept _ _ _ c.first_with_wrong_base.ensures none)) c.refuse.ensures.kept

pub returns-clause-refused : goal.returns-clause-refused
returns-clause-refused c = lemma.on_err _ _ _ (λ e found. lemma.bases_refused _ _ _ e c.first_with_wrong_base.ensures found) c.refuse.ensures.refused

pub returns-clause-kinds : goal.returns-clause-kinds
returns-clause-kinds c = lemma.on_ok _ (λ none. sym c.first_with_wrong_base.ensures ∙ lemma.none_found _ _ 1 _ none) c.refuse.ensures.kept
