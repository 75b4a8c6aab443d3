use Rattle.std.proofs.Common.{◌≡◌, ◌∙◌, ap, subst, slice_get}
use Rattle.std.specs.Option.{IfSome}
use Rattle.bridge_setting.specs.Naming.{Named, name_of}
use Rattle.bridge_setting.proofs.NameLemmas.{first_named}
use Rattle.bridge_setting.proofs.names.Names.first_object.Goals as goal

pub returns : goal.returns
returns c =
    subst
    (λ (v : Named). IfSome c.text_at.result (λ t. t.now ≡ name_of v.tag c.args.number))
    c.self.view_is
    (first_named c.self.inside.tag c.self.inside.objects.items c.args.number c.text_at.result c.self.invariant.known
    (c.text_at.ensures ∙ ap (λ xs. slice_get xs c.args.number) c.deref.ensures.value))
