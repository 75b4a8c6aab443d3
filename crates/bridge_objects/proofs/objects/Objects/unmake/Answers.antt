use Rattle.std.proofs.Common.{◌∙◌, ap, sym, subst, ◌<◌}
use Rattle.uno_values.specs.Values.{plain_of}
use Rattle.bridge_objects.specs.Kept.{numbered, fields_of}
use Rattle.bridge_objects.specs.Marks.{free_at, AreMarked}
use Rattle.bridge_objects.proofs.Lists.{if_some, if_none, either}
use Rattle.bridge_objects.proofs.Marking.{marked_without}
use Rattle.bridge_objects.proofs.Seen.{fields_seen, none_seen, unmade_seen}
use Rattle.bridge_objects.proofs.objects.Objects.unmake.Goals as goal

pub invariant_of-self : goal.invariant_of-self
invariant_of-self c =
    either {R = AreMarked (free_at c.self.inside.prefix c.self.inside.first c.self.inside.environment c.self.inside.stubs) c.unmake.new.self.rows} c.unmake.result
    (λ fields back. subst (λ s. AreMarked (free_at c.self.inside.prefix c.self.inside.first c.self.inside.environment c.self.inside.stubs) s.rows) (sym back) (marked_without _ c.self.inside.store.made c.self.inside.store.rows c.self.invariant))
    (λ same. subst (λ s. AreMarked (free_at c.self.inside.prefix c.self.inside.first c.self.inside.environment c.self.inside.stubs) s.rows) (sym same) c.self.invariant) c.unmake.ensures.unmade c.unmake.ensures.kept

pub returns-clause-was : goal.returns-clause-was
returns-clause-was c =
    if_some c.unmake.result
    (λ fields found. ap (λ n. fields_of (numbered n c.args.self.now)) (sym (ap (λ k. k.objects_made) c.self.view_is)) ∙ fields_seen plain_of c.self.inside.prefix c.self.inside.first c.self.inside.environment c.self.inside.stubs c.self.inside.store c.args.self.now c.self.view_is c.self.inside.store.made fields.items found) c.unmake.ensures.was

pub returns-clause-unmade : goal.returns-clause-unmade
returns-clause-unmade c = if_some c.unmake.result (λ fields back. unmade_seen plain_of c.self.inside.prefix c.self.inside.first c.self.inside.environment c.self.inside.stubs c.self.inside.store c.args.self.now c.self.view_is c.unmake.new.self back) c.unmake.ensures.unmade

pub returns-clause-none : goal.returns-clause-none
returns-clause-none c =
    let number = ap (λ k. k.objects_made) c.self.view_is in
    if_none c.unmake.result
    (λ none some. ap (λ n. numbered n c.args.self.now) (sym number) ∙ none_seen plain_of c.self.inside.prefix c.self.inside.first c.self.inside.environment c.self.inside.stubs c.self.inside.store c.args.self.now c.self.view_is c.self.inside.store.made (none (subst (λ n. 0 < n) (sym number) some))) c.unmake.ensures.none
