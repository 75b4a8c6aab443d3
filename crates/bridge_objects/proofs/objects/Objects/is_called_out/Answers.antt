use Rattle.std.proofs.Common.{◌∙◌, ap, sym, string_bytes}
use Rattle.std.specs.List.{list_any}
use Rattle.bridge_model.specs.Receiving.{is_called_out}
use Rattle.uno_model.specs.Reaches.{is_base_of}
use Rattle.bridge_objects.proofs.objects.Objects.is_called_out.Goals as goal

pub returns-in_default : goal.returns-in_default
unfolding is_called_out
returns-in_default c =
    sym (c.in_default.ensures (is_base_of c.args.registry.now c.args.face.now))
    ∙ ap (λ k. is_called_out c.args.registry.now c.args.oid.now c.args.face.now k.stubs) c.self.view_is

pub returns : goal.returns
unfolding is_called_out
returns c =
    c.is_reached.ensures
    ∙ ap (λ wanted. list_any (λ row. is_base_of c.args.registry.now wanted row.0) c.in-Some.faces.now) c.as_str.ensures
    ∙ sym (c.in-Some.ensures (is_base_of c.args.registry.now c.args.face.now))
    ∙ ap (λ k. is_called_out c.args.registry.now c.args.oid.now c.args.face.now k.stubs) c.self.view_is
