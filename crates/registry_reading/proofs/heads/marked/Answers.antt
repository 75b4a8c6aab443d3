use Rattle.std.proofs.Common.{refl, sym, ◌∙◌}
use Rattle.registry_reading.proofs.HeadLemmas.{none_marked, marked_heads, marked_names_rise}
use Rattle.registry_reading.proofs.heads.marked.Goals as goal

pub returns-in_default-clause-heads : goal.returns-in_default-clause-heads
returns-in_default-clause-heads c = none_marked _ _ c.in_default.ensures.0 (c.in_default.ensures.1 ∙ sym c.in_default.ensures.0)

pub returns-in_default-clause-rise : goal.returns-in_default-clause-rise
returns-in_default-clause-rise c =
    marked_names_rise _ _ c.requires (none_marked c.args.heads.items _ c.in_default.ensures.0 (c.in_default.ensures.1 ∙ sym c.in_default.ensures.0))

pub returns-clause-heads : goal.returns-clause-heads
returns-clause-heads c = marked_heads _ _ _ c.in-Some.last _ c.in-Some.ensures c.in_ok-push.ensures.items refl
