use Rattle.std.proofs.Common.{◌∙◌, refl, map, [], take}
use Rattle.std.proofs.lemmas.Result.{err_from_is_err_and}
use Rattle.behaviour.specs.Roots.{run_of}
use Rattle.bridge_endpoint.specs.Journals.{setting_at, told_at}
use Rattle.answering.proofs.PieceLaws.{all_is_in, holds_begin, holds_further, holds_halted, is_cut, is_over, none_came, none_kept, piece_came, piece_done, piece_halted, piece_over, up_by}
use Rattle.answering.proofs.RunningLaws.{roots_begin}
use Rattle.answering.proofs.ServingLaws.{halted_closing, holds_front}
use Rattle.answering.proofs.serving.serve.Goals as goal

pub work-requires : goal.work-requires
work-requires g c = roots_begin c.args.end.now (map run_of c.args.runs.now.items) c.requires.beginning c.requires.roots

pub returns-in_err-cause-clause-serves : goal.returns-in_err-cause-clause-serves
returns-in_err-cause-clause-serves g c =
    let p = err_from_is_err_and c.from_residual.result c.from_residual.ensures.1 in
    rw (p.1) (holds_halted _ _ _ _ _ _ c.args.end.now _ _ refl
    (holds_begin c.args.end.now (map run_of c.args.runs.now.items) (g.I.Source.left c.args.input.now) (g.O.Sink.taken c.args.output.now) c.requires.beginning c.requires.roots)
    c.in_err-cause.ensures.works)

pub returns-in-Some-clause-serves : goal.returns-in-Some-clause-serves
returns-in-Some-clause-serves g c =
    is_over _ _ _ _ _ c.work.new.end _ [] c.in-Some.cause c.in_ok-cause.ensures.works.0.setting
    (holds_further _ _ _ _ _ _ c.args.end.now c.work.new.end _ _ _ refl
    (holds_begin c.args.end.now (map run_of c.args.runs.now.items) (g.I.Source.left c.args.input.now) (g.O.Sink.taken c.args.output.now) c.requires.beginning c.requires.roots)
    c.in_ok-cause.ensures.works.0)
    c.in_ok-cause.ensures.works.1 (c.in_ok-cause.ensures.works.2 ∙ c.in-Some.is)

pub pieces-init : goal.pieces-init
pieces-init g c =
    record {
      setting = c.in_ok-cause.ensures.works.0.setting;
      holds =
          holds_further _ _ _ _ _ _ c.args.end.now c.work.new.end _ _ _ refl
          (holds_begin c.args.end.now (map run_of c.args.runs.now.items) (g.I.Source.left c.args.input.now) (g.O.Sink.taken c.args.output.now) c.requires.beginning c.requires.roots)
          c.in_ok-cause.ensures.works.0;
      roots = c.in_ok-cause.ensures.works.0.roots (roots_begin c.args.end.now (map run_of c.args.runs.now.items) c.requires.beginning c.requires.roots);
      settled = c.in_ok-cause.ensures.works.1;
      up = up_by (told_at c.work.new.end).side.cause c.in_ok-cause.field-0 c.in_ok-cause.ensures.works.2 c.in_default.is;
      room = refl;
      input_faults = refl;
      faults = c.in_ok-cause.ensures.writes;
      stays = c.in_ok-cause.ensures.stays;
    }

-- no byte came, and the end of the input was not answered whole
pub returns-in_err-close-in-Ok-eq0-clause-serves : goal.returns-in_err-close-in-Ok-eq0-clause-serves
returns-in_err-close-in-Ok-eq0-clause-serves g c =
    let p = err_from_is_err_and c.from_residual-in_err-close-in-Ok-eq0.result c.from_residual-in_err-close-in-Ok-eq0.ensures.1 in
    rw (p.1) (halted_closing
    (none_came _ _ _ (g.I.Source.left c.read.new.self) _ _ _ _ c.in-Ok-eq0.field-0 c.read.new.into c.pieces.invariant.holds c.in-Ok-eq0.ensures.bytes.0
    c.in-Ok-eq0.field-0-test)
    c.in_err-close-in-Ok-eq0.ensures.closes)

pub returns-in-Ok-eq0-clause-serves : goal.returns-in-Ok-eq0-clause-serves
returns-in-Ok-eq0-clause-serves g c =
    is_cut _ _ _ _ _ _ c.pieces.end c.close.new.end _ _ c.awaits_input-cut.result c.pieces.invariant.setting
    (none_came _ _ _ (g.I.Source.left c.read.new.self) _ _ _ _ c.in-Ok-eq0.field-0 c.read.new.into c.pieces.invariant.holds c.in-Ok-eq0.ensures.bytes.0
    c.in-Ok-eq0.field-0-test)
    c.pieces.invariant.settled c.pieces.invariant.up c.awaits_input-cut.ensures c.in_ok-close-in-Ok-eq0.ensures.closes

-- a piece came
pub returns-in_err-cause-in-Ok-clause-serves : goal.returns-in_err-cause-in-Ok-clause-serves
returns-in_err-cause-in-Ok-clause-serves g c =
    let p = err_from_is_err_and c.from_residual-in_err-cause-in-Ok.result c.from_residual-in_err-cause-in-Ok.ensures.1 in
    rw (p.1) (piece_halted _ _ _ _ _ _ c.pieces.end _ _ c.pieces.invariant.setting
    (piece_came _ _ _ (g.I.Source.left c.read.new.self) _ _ _ _ (take c.in-Ok.count c.read.new.into) c.pieces.invariant.holds c.in-Ok.ensures.bytes.0)
    c.in_err-cause-in-Ok.ensures.answers)

pub returns-in-Some-2-clause-serves : goal.returns-in-Some-2-clause-serves
returns-in-Some-2-clause-serves g c =
    piece_over _ _ _ _ _ _ c.pieces.end c.answer_piece.new.end _ _ _ c.in_ok-cause-in-Ok.field-0 c.in-Some-2.cause c.pieces.invariant.setting
    (piece_came _ _ _ (g.I.Source.left c.read.new.self) _ _ _ _ (take c.in-Ok.count c.read.new.into) c.pieces.invariant.holds c.in-Ok.ensures.bytes.0)
    c.in_ok-cause-in-Ok.ensures.answers c.in-Some-2.is

pub pieces-preserved : goal.pieces-preserved
pieces-preserved g c =
    let answered = c.in_ok-cause-in-Ok.ensures.answers in
    record {
      setting = answered.setting ∙ c.pieces.invariant.setting;
      holds =
          piece_done _ _ _ _ _ _ c.pieces.end c.answer_piece.new.end _ _ _ c.in_ok-cause-in-Ok.field-0 c.pieces.invariant.setting
          (piece_came _ _ _ (g.I.Source.left c.read.new.self) _ _ _ _ (take c.in-Ok.count c.read.new.into) c.pieces.invariant.holds c.in-Ok.ensures.bytes.0)
          answered c.in_default-2.is;
      roots = answered.roots;
      settled = answered.settled;
      up = up_by (told_at c.answer_piece.new.end).side.cause c.in_ok-cause-in-Ok.field-0 answered.ended c.in_default-2.is;
      room = c.read.auto.into ∙ c.pieces.invariant.room;
      input_faults = c.in-Ok.ensures.cause.kept ∙ c.pieces.invariant.input_faults;
      faults = c.in_ok-cause-in-Ok.ensures.writes ∙ c.pieces.invariant.faults;
      stays = c.in_ok-cause-in-Ok.ensures.stays ∙ c.pieces.invariant.stays;
    }

-- the input has failed
pub returns-in_err-close-in-Err-clause-serves : goal.returns-in_err-close-in-Err-clause-serves
returns-in_err-close-in-Err-clause-serves g c =
    let p = err_from_is_err_and c.from_residual-in_err-close-in-Err.result c.from_residual-in_err-close-in-Err.ensures.1 in
    rw (p.1) (halted_closing
    (none_kept _ _ (g.I.Source.left c.pieces.input) (g.I.Source.left c.read.new.self) _ _ _ _ c.pieces.invariant.holds c.in-Err.ensures.bytes)
    c.in_err-close-in-Err.ensures.closes)

pub returns-in-Err-clause-serves : goal.returns-in-Err-clause-serves
returns-in-Err-clause-serves g c =
    all_is_in _ _ _ _ _ _ c.pieces.end c.close-in-Err.new.end _ _ c.pieces.invariant.setting
    (none_kept _ _ (g.I.Source.left c.pieces.input) (g.I.Source.left c.read.new.self) _ _ _ _ c.pieces.invariant.holds c.in-Err.ensures.bytes)
    c.pieces.invariant.settled c.pieces.invariant.up c.in_ok-close-in-Err.ensures.closes

pub returns-clause-serves : goal.returns-clause-serves
returns-clause-serves g c = holds_front c.pieces.invariant.holds
