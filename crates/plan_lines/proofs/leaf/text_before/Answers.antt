use Rattle.std.proofs.Common.{Some, sym, ap, ◌∙◌}
use Rattle.plan_lines.specs.Views.{as_pieces}
use Rattle.plan_lines.proofs.LeafLemmas.{no_text, some_text}
use Rattle.plan_lines.proofs.leaf.text_before.Goals as goal

pub returns-in_default : goal.returns-in_default
returns-in_default c = ap as_pieces (no_text c.args.bytes.now c.args.rest.now c.in_default.ensures.cases.0)

pub returns : goal.returns
returns c =
    ap as_pieces (some_text c.args.bytes.now c.args.rest.now c.in_ok-text.text c.in-Ok.ensures.cases.1 (c.in_ok-text.ensures ∙ c.in-Ok.ensures.cases.0))
    ∙ ap (λ t. Some (t, c.args.rest.now)) (sym c.text_piece.ensures)
