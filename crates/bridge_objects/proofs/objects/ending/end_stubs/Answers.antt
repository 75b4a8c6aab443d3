use Rattle.std.proofs.Common.{◌∙◌, ◌++◌, ap, refl}
use Rattle.std.specs.Fmt.{decimal}
use Rattle.bridge_model.specs.Objects.{has_stub}
use Rattle.bridge_objects.proofs.Marking.{marked_early, marked_still, taken_others, apart_too}
use Rattle.bridge_objects.proofs.objects.ending.end_stubs.Goals as goal

pub loop-oid-preserved : goal.loop-oid-preserved
loop-oid-preserved c = record {
  marked = c.refresh.ensures.marked
      (λ n early. marked_early c.args.prefix.now c.args.first c.loop-oid.store.rows c.args.environment.now c.args.environment.now c.loop-oid.stubs c.take_oid.new.self n early (c.loop-oid.invariant.marked n))
      (λ n other. marked_still c.args.prefix.now c.args.first c.loop-oid.store.rows c.args.environment.now c.args.environment.now c.loop-oid.stubs c.take_oid.new.self n refl
      (ap (has_stub (c.args.prefix.now ++ decimal n)) c.in-Some.ensures.gone ∙ taken_others (c.args.prefix.now ++ decimal n) c.in-Some.oid c.loop-oid.stubs (apart_too _ _ other))
      (c.loop-oid.invariant.marked n));
  objects = c.refresh.ensures.objects ∙ c.loop-oid.invariant.objects;
  made = c.refresh.ensures.made ∙ c.loop-oid.invariant.made;
}
