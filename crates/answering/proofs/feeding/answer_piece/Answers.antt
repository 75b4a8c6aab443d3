use Rattle.std.proofs.Common.{◌∙◌, map}
use Rattle.std.proofs.lemmas.Result.{err_from_is_err_and}
use Rattle.behaviour.specs.Roots.{run_of}
use Rattle.bridge_endpoint.specs.Journals.{told_at}
use Rattle.answering.proofs.PieceLaws.{answered_further, answered_on, answering_halts, no_cause, up_by}
use Rattle.answering.proofs.TurnLaws.{piece_halts}
use Rattle.answering.proofs.feeding.answer_piece.Goals as goal

pub work-requires : goal.work-requires
work-requires g c = c.in_ok-rest.ensures.roots (map run_of c.fronts.runs.items) c.fronts.invariant.roots

pub returns-in_err-rest-clause-answers : goal.returns-in_err-rest-clause-answers
returns-in_err-rest-clause-answers g c =
    let p = err_from_is_err_and c.from_residual.result c.from_residual.ensures.1 in rw (p.1) (piece_halts c.fronts.invariant.answers)

pub returns-in_err-cause-clause-answers : goal.returns-in_err-cause-clause-answers
returns-in_err-cause-clause-answers g c =
    let p = err_from_is_err_and c.from_residual-in_err-cause.result c.from_residual-in_err-cause.ensures.1 in
    rw (p.1) (answering_halts _ _ _ _ _ _ _ _ _ _ _ _ c.fronts.invariant.setting c.fronts.invariant.answers c.fronts.invariant.settled c.in_ok-rest.ensures.fed
    c.in_err-cause.ensures.works)

pub returns-in-Some-clause-answers : goal.returns-in-Some-clause-answers
returns-in-Some-clause-answers g c =
    record {
      setting = c.in_ok-cause.ensures.works.0.setting ∙ (c.in_ok-rest.ensures.fed.setting ∙ c.fronts.invariant.setting);
      left = c.in_ok-rest.ensures.fed.left;
      answers =
          answered_further _ _ _ _ _ _ _ _ _ _ _ _ _ _ c.fronts.invariant.setting c.fronts.invariant.answers c.fronts.invariant.settled c.in_ok-rest.ensures.fed
          c.in_ok-cause.ensures.works.0;
      settled = c.in_ok-cause.ensures.works.1;
      ended = c.in_ok-cause.ensures.works.2 ∙ c.in-Some.is;
      all = λ none. no_cause c.in-Some.cause none;
      roots = c.in_ok-cause.ensures.works.0.roots (c.in_ok-rest.ensures.roots (map run_of c.fronts.runs.items) c.fronts.invariant.roots);
    }

pub fronts-preserved : goal.fronts-preserved
fronts-preserved g c =
    let up = up_by (told_at c.work.new.end).side.cause c.in_ok-cause.field-0 c.in_ok-cause.ensures.works.2 c.in_default.is in
    record {
      setting = c.in_ok-cause.ensures.works.0.setting ∙ (c.in_ok-rest.ensures.fed.setting ∙ c.fronts.invariant.setting);
      answers =
          answered_on _ _ _ _ _ _ _ _ _ _ _ _ _ _ c.fronts.invariant.setting c.fronts.invariant.answers c.fronts.invariant.settled c.in_ok-rest.ensures.fed
          c.in_ok-cause.ensures.works.0 up;
      roots = c.in_ok-cause.ensures.works.0.roots (c.in_ok-rest.ensures.roots (map run_of c.fronts.runs.items) c.fronts.invariant.roots);
      settled = c.in_ok-cause.ensures.works.1;
      up = up;
      faults = c.in_ok-cause.ensures.writes ∙ c.fronts.invariant.faults;
      stays = c.in_ok-cause.ensures.stays ∙ c.fronts.invariant.stays;
    }
