use Rattle.std.proofs.Common.{◌≡◌, List, ℕ, ◌∷◌, true, sym, ◌∙◌}
use Rattle.literal_model.specs.Shapes.{behind_run}
use Rattle.literal_reading.proofs.NameLemmas.{TakesWord, words_end, words_next, words_shrink, words_stop}
use Rattle.literal_reading.proofs.scan.name.behind_words.Goals as goal
use Rattle.uno_model.specs.Names.{begins_identifier, goes_on_identifier}

taken : {bytes behind letters : List ℕ} {first : ℕ} → bytes ≡ first ∷ letters → begins_identifier first ≡ true → behind ≡ behind_run goes_on_identifier bytes → TakesWord bytes behind
taken {letters = letters} {first = first} split begun is = record { first = first; letters = letters; split = split; begun = begun; is = is }

pub returns-in_default-split_first : goal.returns-in_default-split_first
returns-in_default-split_first c =
    let at = taken c.in-Some.ensures.cases.0 (sym c.begins_identifier.ensures ∙ c.if-not-begins_identifier.false) c.split_run.ensures.rest in
    words_end c.loop-first.rest.now c.split_run.result.1.now at c.in_default-split_first.ensures.cases ∙ c.loop-first.invariant

pub returns-then-point-ne46 : goal.returns-then-point-ne46
returns-then-point-ne46 c =
    let at = taken c.in-Some.ensures.cases.0 (sym c.begins_identifier.ensures ∙ c.if-not-begins_identifier.false) c.split_run.ensures.rest in
    words_stop c.loop-first.rest.now c.split_run.result.1.now _ _ at c.in-Some-split_first.ensures.cases.0 c.if-point-ne46.true ∙ c.loop-first.invariant

pub loop-first-smaller : goal.loop-first-smaller
loop-first-smaller c = words_shrink c.loop-first.rest.now c.split_run.result.1.now c.in-Some-split_first.next.now c.in-Some-split_first.point.now c.split_run.ensures.rest c.in-Some-split_first.ensures.cases.0

pub loop-first-preserved : goal.loop-first-preserved
loop-first-preserved c =
    let at = taken c.in-Some.ensures.cases.0 (sym c.begins_identifier.ensures ∙ c.if-not-begins_identifier.false) c.split_run.ensures.rest in
    words_next c.loop-first.rest.now c.split_run.result.1.now _ _ at c.in-Some-split_first.ensures.cases.0 c.if-point-ne46.false ∙ c.loop-first.invariant
