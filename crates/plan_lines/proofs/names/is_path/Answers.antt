use Rattle.std.proofs.Common.{ap, sym, ◌∙◌, arith, rules}
use Rattle.literal_model.specs.Shapes.{is_word}
use Rattle.plan_lines.proofs.NameLemmas.{path_after_point, path_without_point}
use Rattle.plan_lines.proofs.names.is_path.Goals as goal

pub returns-then-not-is_word : goal.returns-then-not-is_word
returns-then-not-is_word c =
    let cut = path_after_point c.loop-part.rest.now c.split_once.result _ _ c.split_once.ensures.cases c.in-Some.is in
    let word = c.is_word.ensures ∙ ap is_word c.as_bytes.ensures.value in
    grind (arith, cut, word, c.loop-part.invariant.same)

pub loop-part-preserved : goal.loop-part-preserved
loop-part-preserved c =
    let cut = path_after_point c.loop-part.rest.now c.split_once.result _ _ c.split_once.ensures.cases c.in-Some.is in
    let word = c.is_word.ensures ∙ ap is_word c.as_bytes.ensures.value in
    record { same = grind (arith, cut, word, c.loop-part.invariant.same); text = search rules }

pub returns : goal.returns
returns c =
    c.is_word-2.ensures ∙ ap is_word c.as_bytes-2.ensures.value ∙ sym (path_without_point c.loop-part.rest.now _ c.split_once.ensures.cases c.in_default.is) ∙ c.loop-part.invariant.same
