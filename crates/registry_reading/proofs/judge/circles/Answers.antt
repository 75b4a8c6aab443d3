use Rattle.std.proofs.Common.{refl}
use Rattle.registry_text_model.specs.Rules as r
use Rattle.registry_reading.proofs.JudgeLemmas as lemma
use Rattle.registry_reading.proofs.judge.circles.Goals as goal

pub returns-clause-refused : goal.returns-clause-refused
returns-clause-refused c = lemma.on_err _ _ _ (λ e found. lemma.circles_refused _ _ _ e c.requires.lesser c.in_ok-first_on_a_circle.ensures found) c.refuse.ensures.refused

pub returns-clause-kept : goal.returns-clause-kept
returns-clause-kept c =
    lemma.on_ok _ (λ none. lemma.one_more c.args.heads.now c.args.entities.now r.circles r.names refl c.requires.lesser
    (lemma.circles_kept c.args.heads.now _ _ c.in_ok-first_on_a_circle.ensures none)) c.refuse.ensures.kept
