use Rattle.std.proofs.Common.{sym, ap, ◌∙◌, not}
use Rattle.std.specs.List.{list_any}
use Rattle.entity_rules.proofs.AllLemmas.{any_required, or_second}
use Rattle.entity_rules.proofs.complete.is_complete.Goals as goal

pub returns-else-eq : goal.returns-else-eq
returns-else-eq c =
    let mandatory_bases = c.any_required.ensures ∙ ap (list_any (λ b. not b.optional)) c.deref.ensures.value ∙ sym (any_required c.in-Interface.bases.items) in
    let no_root = rw c.as_str.ensures at (sym c.eq.ensures ∙ c.if-eq.false) in
    rw c.in-Interface.is (or_second _ _ _ no_root mandatory_bases)
