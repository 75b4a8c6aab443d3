use Rattle.std.proofs.Common.{◌∙◌, ap, refl, ◌++◌}
use Rattle.std.specs.Fmt.{decimal}
use Rattle.bridge_model.specs.Objects.{is_held_object}
use Rattle.bridge_objects.proofs.Marking.{marked_early, marked_still, gone_others, apart_too}
use Rattle.bridge_objects.proofs.objects.Objects.let_go.Goals as goal

pub invariant_of-self : goal.invariant_of-self
invariant_of-self c =
    c.refresh.ensures.marked
    (λ n early. marked_early c.self.inside.prefix c.self.inside.first c.self.inside.store.rows c.self.inside.environment c.let_go-last.new.self c.self.inside.stubs c.self.inside.stubs n early (c.self.invariant n))
    (λ n other. marked_still c.self.inside.prefix c.self.inside.first c.self.inside.store.rows c.self.inside.environment c.let_go-last.new.self c.self.inside.stubs c.self.inside.stubs n
    (ap (is_held_object (c.self.inside.prefix ++ decimal n)) c.let_go-last.ensures.gone ∙ gone_others (c.self.inside.prefix ++ decimal n) _ c.self.inside.environment (apart_too _ _ other))
    refl (c.self.invariant n))
