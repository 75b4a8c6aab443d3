use Rattle.std.proofs.Common.{subst, sym}
use Rattle.std.specs.Prelude.{T}
use Rattle.table_model.specs.Holdings.{are_frames}
use Rattle.env_table.proofs.Joined.{if_some, if_none, either, frames_left, whole_without, all_outlast}
use Rattle.env_table.proofs.environment.Environment.let_frames_go.Goals as goal

pub invariant_of-self : goal.invariant_of-self
invariant_of-self c = (
  either {R = T (are_frames c.take_oid.new.self)} c.take_oid.result
      (λ oid gone. frames_left c.self.inside.frames c.self.inside.others c.args.self.now c.self.view_is c.self.invariant.0 c.self.invariant.1 c.take_oid.new.self oid gone)
      (λ none. subst (λ hs. T (are_frames hs)) (sym none) tt) c.take_oid.ensures.gone c.take_oid.ensures.kept,
  c.self.invariant.1,
)

pub returns-clause-gone : goal.returns-clause-gone
returns-clause-gone c =
    if_some c.take_oid.result
    (λ oid gone. whole_without c.self.inside.frames c.self.inside.others c.args.self.now c.self.view_is c.self.invariant.0 c.self.invariant.1 c.take_oid.new.self oid gone)
    c.take_oid.ensures.gone

pub returns-clause-none : goal.returns-clause-none
returns-clause-none c =
    if_none c.take_oid.result (all_outlast c.self.inside.frames c.self.inside.others c.args.self.now c.self.view_is c.self.invariant.0 c.self.invariant.1) c.take_oid.ensures.none
