use Rattle.std.proofs.Common.{refl, arith}
use Rattle.std.proofs.lemmas.List.{nil_from_length}
use Rattle.std.specs.Borrow.{Bor}
use Rattle.std.specs.Option.{option_map}
use Rattle.plan_lines.specs.Pieces.{piece_of}
use Rattle.uno_entities.specs.TypeNames.{kind_of}
use Rattle.uno_entities.specs.declared.type_name.TypeName.{TypeName}
use Rattle.plan_checks.proofs.PartLemmas.{as_many, back_begins, back_ends, back_goes, back_lacks, back_stops, laid_none, lost_on, named_at, turned}
use Rattle.plan_checks.specs.Checks.{before}
use Rattle.plan_checks.specs.Parts.{named_in}
use Rattle.plan_checks.proofs.checker.Checker.go_back.Goals as goal

pub loop-left-init : goal.loop-left-init
loop-left-init c = (back_begins c.args.self.now.registry.now (before c.args.self.now) piece_of c.args.pieces.now _ _ refl, omega arith)

pub returns-in_default : goal.returns-in_default
returns-in_default c = (
  back_lacks c.args.self.now.registry.now (before c.args.self.now) piece_of c.args.pieces.now _ _ _ _ c.loop-left-test.true c.loop-left.invariant.1
      (laid_none (λ (k : Bor TypeName). kind_of k.now) _ (nil_from_length c.loop-left.wanted.items (omega (arith, c.in_default.ensures.cases.0)))) c.loop-left.invariant.0,
  refl,
)

pub take_piece-requires : goal.take_piece-requires
take_piece-requires c =
    named_at (option_map kind_of) piece_of (named_in c.args.self.now.registry.now) c.args.named.now c.args.pieces.now _ _ _ c.requires
    (let same = as_many (option_map kind_of) piece_of (named_in c.args.self.now.registry.now) c.args.named.now c.args.pieces.now c.requires in omega (arith, same, c.loop-left.invariant.1, c.loop-left-test.true))
    (omega (arith, c.loop-left.invariant.1, c.loop-left-test.true)) c.index-named-left.is c.index-pieces-left.is

pub returns-in_err-take_piece : goal.returns-in_err-take_piece
returns-in_err-take_piece c =
    lost_on c.from_residual.result c.in_err-take_piece.field-0.0 _ _ c.from_residual.ensures
    (back_stops c.args.self.now.registry.now (before c.args.self.now) piece_of c.args.pieces.now _ _ _ _ _ _ c.in_err-take_piece.field-0.0 _ c.loop-left-test.true c.loop-left.invariant.1 c.index-pieces-left.is
    (turned (λ (k : Bor TypeName). kind_of k.now) _ _ _ c.in-Some.ensures.items) c.in_err-take_piece.ensures c.loop-left.invariant.0)

pub loop-left-preserved : goal.loop-left-preserved
loop-left-preserved c = (
  back_goes c.args.self.now.registry.now (before c.args.self.now) piece_of c.args.pieces.now _ _ _ _ _ _ _ _ c.loop-left-test.true c.loop-left.invariant.1 c.index-pieces-left.is
      (turned (λ (k : Bor TypeName). kind_of k.now) _ _ _ c.in-Some.ensures.items) c.in_ok-take_piece.ensures c.loop-left.invariant.0,
  omega arith,
)

pub returns : goal.returns
returns c = back_ends c.args.self.now.registry.now (before c.args.self.now) piece_of c.args.pieces.now _ _ _ (omega (arith, c.loop-left-test.false)) c.loop-left.invariant.0
