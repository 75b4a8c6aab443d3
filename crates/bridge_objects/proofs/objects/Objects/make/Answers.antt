use Rattle.std.proofs.Common.{◌∙◌, ◌+◌, ◌++◌, ap, sym, subst, map, false}
use Rattle.std.specs.Fmt.{decimal}
use Rattle.uno_values.specs.Values.{plain_of}
use Rattle.bridge_objects.specs.Kept.{unmade}
use Rattle.bridge_objects.specs.Marks.{free_at, IsMarked}
use Rattle.bridge_objects.proofs.Marking.{marked_new, marked_put, not_free}
use Rattle.bridge_objects.proofs.Seen.{made_seen, back_seen}
use Rattle.bridge_objects.proofs.objects.Objects.make.Goals as goal

pub invariant_of-self-2 : goal.invariant_of-self-2
invariant_of-self-2 c =
    c.refresh.ensures.marked
    (λ n early. subst (λ s. IsMarked (free_at c.self.inside.prefix c.self.inside.first c.self.inside.environment c.self.inside.stubs) s.rows n) (sym c.in_ok-make.ensures.made)
    (marked_new _ (c.self.inside.store.made + 1) c.self.inside.store.rows (record { behaviour = c.args.behaviour; fields = c.args.fields.items; may_go = false }) n
    (sym (not_free c.self.inside.first n (c.self.inside.prefix ++ decimal n) c.self.inside.environment c.self.inside.stubs early)) c.self.invariant))
    (λ n other. subst (λ s. IsMarked (free_at c.self.inside.prefix c.self.inside.first c.self.inside.environment c.self.inside.stubs) s.rows n) (sym c.in_ok-make.ensures.made)
    (marked_put _ (c.self.inside.store.made + 1) c.self.inside.store.rows _ c.self.invariant n
    (λ same. other (c.in_ok-oid.ensures ∙ ap (λ m. c.self.inside.prefix ++ decimal (m + 1)) c.made-made.ensures.made ∙ ap (λ m. c.self.inside.prefix ++ decimal m) (sym same)))))

pub returns-clause-made : goal.returns-clause-made
returns-clause-made c =
    made_seen plain_of c.self.inside.prefix c.self.inside.first c.self.inside.environment c.self.inside.stubs c.self.inside.store c.args.self.now c.self.view_is c.args.behaviour c.args.fields.items c.make.new.self c.refresh.new.store c.made-made.ensures.given c.in_ok-make.ensures.made c.refresh.ensures.objects c.refresh.ensures.made

pub returns-clause-back : goal.returns-clause-back
returns-clause-back c =
    ap unmade (made_seen plain_of c.self.inside.prefix c.self.inside.first c.self.inside.environment c.self.inside.stubs c.self.inside.store c.args.self.now c.self.view_is c.args.behaviour c.args.fields.items c.make.new.self c.refresh.new.store c.made-made.ensures.given c.in_ok-make.ensures.made c.refresh.ensures.objects c.refresh.ensures.made)
    ∙ back_seen plain_of c.self.inside.prefix c.self.inside.first c.self.inside.environment c.self.inside.stubs c.self.inside.store c.args.self.now c.self.view_is c.args.behaviour (map plain_of c.args.fields.items) c.made-made.ensures.given
