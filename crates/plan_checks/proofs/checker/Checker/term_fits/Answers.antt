use Rattle.std.proofs.Common.{ap, sym, subst, ◌∷◌, [], ◌∙◌}
use Rattle.plan_lines.specs.Pieces.{pieces_of}
use Rattle.plan_model.specs.declared.line_reason.LineReason.TheVariants.{Misfit}
use Rattle.term_pieces.specs.Parts.{all_before, asked, made_of}
use Rattle.uno_entities.specs.TypeNames.{kind_of}
use Rattle.plan_checks.proofs.CheckLemmas.{passes_on}
use Rattle.plan_checks.proofs.PartLemmas.{fails_of, fits_so, lost_so}
use Rattle.plan_checks.specs.Checks.{MisfitBy, before}
use Rattle.plan_checks.proofs.checker.Checker.term_fits.Goals as goal

pub returns-in_err-parts : goal.returns-in_err-parts
returns-in_err-parts c =
    passes_on Misfit c.from_residual-in_err-parts.result c.in_err-parts.field-0.0 _ c.from_residual-in_err-parts.ensures
    (fails_of c.in_err-parts.field-0.0 _
    (lost_so c.args.self.now.registry.now (before c.args.self.now) (pieces_of c.args.term.now.pieces.items) c.args.term.now.one (kind_of c.args.kind.now) c.in_err-parts.field-0.0
    (subst (λ ps. MisfitBy c.in_err-parts.field-0.0 (made_of (all_before c.args.self.now.registry.now (before c.args.self.now) (pieces_of ps) (asked [] (kind_of c.args.kind.now ∷ [])))))
    c.as_slice-pieces.ensures.value c.in_err-parts.ensures)))

pub returns : goal.returns
returns c =
    fits_so c.args.self.now.registry.now (before c.args.self.now) (pieces_of c.args.term.now.pieces.items) c.args.term.now.one (kind_of c.args.kind.now) _
    (ap (λ ps. all_before c.args.self.now.registry.now (before c.args.self.now) (pieces_of ps) (asked [] (kind_of c.args.kind.now ∷ []))) (sym c.as_slice-pieces.ensures.value) ∙ c.in_ok-parts.ensures)
