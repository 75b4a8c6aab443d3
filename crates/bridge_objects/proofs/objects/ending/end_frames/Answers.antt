use Rattle.std.proofs.Common.{◌∙◌, ◌++◌, ap, refl}
use Rattle.std.specs.Fmt.{decimal}
use Rattle.std.specs.List.{filter}
use Rattle.table_model.specs.Holdings.{outlasts}
use Rattle.table_model.proofs.FrameLaws.{rest_outlasts}
use Rattle.bridge_model.specs.Objects.{is_held_object}
use Rattle.bridge_objects.proofs.Marking.{marked_early, marked_still, frames_others, apart_too}
use Rattle.bridge_objects.proofs.objects.ending.end_frames.Goals as goal

pub loop-oid-preserved : goal.loop-oid-preserved
loop-oid-preserved c = record {
  marked = c.refresh.ensures.marked
      (λ n early. marked_early c.args.prefix.now c.args.first c.loop-oid.store.rows c.loop-oid.environment c.let_frames_go.new.self c.args.stubs.now c.args.stubs.now n early (c.loop-oid.invariant.marked n))
      (λ n other. marked_still c.args.prefix.now c.args.first c.loop-oid.store.rows c.loop-oid.environment c.let_frames_go.new.self c.args.stubs.now c.args.stubs.now n
      (ap (is_held_object (c.args.prefix.now ++ decimal n)) c.in-Some.ensures.gone ∙ frames_others (c.args.prefix.now ++ decimal n) c.in-Some.oid c.loop-oid.environment (apart_too _ _ other))
      refl (c.loop-oid.invariant.marked n));
  objects = c.refresh.ensures.objects ∙ c.loop-oid.invariant.objects;
  made = c.refresh.ensures.made ∙ c.loop-oid.invariant.made;
  rest = ap (filter outlasts) c.in-Some.ensures.gone ∙ rest_outlasts c.in-Some.oid c.loop-oid.environment ∙ c.loop-oid.invariant.rest;
}
