use Rattle.std.proofs.Common.{[], ◌∷◌, ◌++◌, sym, ap, ◌∙◌, append-nil}
use Rattle.entity_rules.proofs.GraphLemmas.{place_written, no_place_written}
use Rattle.registry_rules.proofs.circles.push_name.Goals as goal

pub returns-in_ok-push-in-Ok : goal.returns-in_ok-push-in-Ok
returns-in_ok-push-in-Ok c =
    c.in_ok-push-in-Ok.ensures.items
    ∙ ap (λ p. c.args.row.now.items ++ p ∷ []) c.in-Ok-try_from.ensures.1
    ∙ ap (λ ps. c.args.row.now.items ++ ps) (sym (place_written _ _ _ c.requires c.in-Ok.ensures.place))

pub returns-in-Err : goal.returns-in-Err
returns-in-Err c = sym (ap (λ ps. c.args.row.now.items ++ ps) (no_place_written _ _ _ c.in-Err.ensures.gap) ∙ append-nil c.args.row.now.items)
