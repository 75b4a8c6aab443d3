use Rattle.std.proofs.Common.{ap, sym, subst, ◌∙◌, arith}
use Rattle.std.specs.Borrow.{Bor}
use Rattle.plan_lines.specs.Pieces.{pieces_of}
use Rattle.term_pieces.specs.Parts.{all_before}
use Rattle.uno_entities.specs.TypeNames.{kind_of}
use Rattle.uno_entities.specs.declared.type_name.TypeName.{TypeName}
use Rattle.plan_checks.proofs.PartLemmas.{all_there, begins, parts_on}
use Rattle.plan_checks.specs.Checks.{before}
use Rattle.plan_checks.specs.Parts.{LostBy, part_of}
use Rattle.plan_checks.proofs.checker.Checker.parts_of.Goals as goal

pub returns-in_err-go_back : goal.returns-in_err-go_back
returns-in_err-go_back c =
    parts_on _ c.from_residual-in_err-go_back.result c.in_err-go_back.field-0.0 _ c.from_residual-in_err-go_back.ensures
    (subst (λ a. LostBy c.in_err-go_back.field-0.0 (all_before c.args.self.now.registry.now (before c.args.self.now) (pieces_of c.args.pieces.now) a))
    (begins part_of (λ (k : Bor TypeName). kind_of k.now) _ _ _ _ c.new-parts.ensures.items c.new-wanted.ensures.items c.in_ok-push.ensures.items) c.in_err-go_back.ensures)

pub returns-in-None : goal.returns-in-None
returns-in-None c =
    ap (λ a. all_before c.args.self.now.registry.now (before c.args.self.now) (pieces_of c.args.pieces.now) a)
    (sym (begins part_of (λ (k : Bor TypeName). kind_of k.now) _ _ _ _ c.new-parts.ensures.items c.new-wanted.ensures.items c.in_ok-push.ensures.items))
    ∙ all_there (λ (k : Bor TypeName). kind_of k.now) c.go_back.new.wanted.items _ _ (omega (arith, c.in-None.ensures.cases.0)) c.in_ok-go_back.ensures
