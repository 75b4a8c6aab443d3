use Rattle.std.proofs.Common.{sym, ◌∙◌, ap, Some, Err}
use Rattle.std.specs.Prelude.{string_bytes}
use Rattle.command_words.proofs.Exits.{refused_means}
use Rattle.command_words.proofs.Taking.{onto_nothing, ends_whole, refused_whole, waits_whole, taken_whole}
use Rattle.command_words.proofs.parts.parts_of.Goals as goal

pub loop-rest-init : goal.loop-rest-init
loop-rest-init c = onto_nothing _ _ c.new-parts.ensures

pub returns-then-ends_here : goal.returns-then-ends_here
returns-then-ends_here c =
    ends_whole string_bytes c.loop-rest.parts c.loop-rest.waiting c.loop-rest.rest.now _ c.loop-rest.invariant _ _ _ c.in-len1-up.len_at_least c.word-item.is c.as_str.ensures.value
    (sym c.ends_here.ensures ∙ c.if-ends_here.true)
    ∙ ap Some (sym c.in_ok-push_all.ensures.pushed)

pub returns-in_err-waiting : goal.returns-in_err-waiting
returns-in_err-waiting c = refused_means _ c.from_residual-in_err-waiting.result c.in_err-waiting.field-0.0 c.from_residual-in_err-waiting.ensures (λ words.
    refused_whole string_bytes c.loop-rest.parts c.loop-rest.waiting c.loop-rest.rest.now _ c.loop-rest.invariant _ _ _ c.in-len1-up.len_at_least c.word-item.is c.as_str-in-len1-up.ensures.value
    (c.in_err-waiting.ensures.refused (ap Err words)))

pub returns-in-Some : goal.returns-in-Some
returns-in-Some c = waits_whole string_bytes c.loop-rest.parts c.loop-rest.waiting c.loop-rest.rest.now _ c.loop-rest.invariant c.in_default.len_below c.in-Some.field-0 c.in-Some.is

pub returns : goal.returns
returns c = taken_whole string_bytes c.loop-rest.parts c.loop-rest.waiting c.loop-rest.rest.now _ c.loop-rest.invariant c.in_default.len_below c.in-None.is
