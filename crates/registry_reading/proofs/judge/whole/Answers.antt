use Rattle.registry_reading.proofs.JudgeLemmas as lemma
use Rattle.registry_reading.proofs.judge.whole.Goals as goal

pub returns-clause-kept : goal.returns-clause-kept
returns-clause-kept c = lemma.on_ok _ (λ none. lemma.all_of_them _ _ c.requires.lesser c.requires.long (lemma.whole_kept _ _ _ c.in_ok-first_not_whole.ensures none)) c.refuse.ensures.kept

pub returns-clause-refused : goal.returns-clause-refused
returns-clause-refused c = lemma.on_err _ _ _ (λ e found. lemma.whole_refused _ _ _ e c.requires.lesser c.requires.long c.in_ok-first_not_whole.ensures found) c.refuse.ensures.refused

pub first_not_whole-requires-clause-no_circle : goal.first_not_whole-requires-clause-no_circle
first_not_whole-requires-clause-no_circle c = lemma.none_on_circles_still c.args.heads.now c.args.entities.now c.requires.lesser
