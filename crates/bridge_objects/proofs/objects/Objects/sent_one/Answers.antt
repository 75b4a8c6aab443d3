use Rattle.std.proofs.Common.{◌∙◌, ap, refl, ◌++◌}
use Rattle.std.specs.Fmt.{decimal}
use Rattle.bridge_model.specs.Objects.{has_stub}
use Rattle.bridge_objects.proofs.Marking.{marked_early, marked_still, sent_others, apart_too}
use Rattle.bridge_objects.proofs.objects.Objects.sent_one.Goals as goal

pub invariant_of-self-2 : goal.invariant_of-self-2
invariant_of-self-2 c =
    c.refresh.ensures.marked
    (λ n early. marked_early c.self.inside.prefix c.self.inside.first c.self.inside.store.rows c.self.inside.environment c.self.inside.environment c.self.inside.stubs c.sent_one.new.self n early (c.self.invariant n))
    (λ n other. marked_still c.self.inside.prefix c.self.inside.first c.self.inside.store.rows c.self.inside.environment c.self.inside.environment c.self.inside.stubs c.sent_one.new.self n refl
    (ap (has_stub (c.self.inside.prefix ++ decimal n)) c.in_ok-sent_one.ensures.sent ∙ sent_others (c.self.inside.prefix ++ decimal n) _ c.self.inside.stubs (apart_too _ _ other))
    (c.self.invariant n))
