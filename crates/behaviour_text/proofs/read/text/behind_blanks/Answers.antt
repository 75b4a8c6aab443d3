use Rattle.std.proofs.lemmas.List.{nil_from_length}
use Rattle.behaviour_text.proofs.TextLemmas.{blank_ends, blank_goes, blank_none}
use Rattle.behaviour_text.proofs.read.text.behind_blanks.Goals as goal

pub returns-then-not-is_blank : goal.returns-then-not-is_blank
returns-then-not-is_blank c = blank_ends _ _ _ _ c.in-Some.ensures.cases.0 c.if-not-is_blank.ensures c.loop-first.invariant

pub loop-first-preserved : goal.loop-first-preserved
loop-first-preserved c = blank_goes _ _ _ _ c.in-Some.ensures.cases.0 c.if-not-is_blank.ensures c.loop-first.invariant

pub returns : goal.returns
returns c = blank_none _ _ (nil_from_length _ c.in_default.ensures.cases) c.loop-first.invariant
