use Rattle.std.proofs.Common.{◌≡◌, ◌∙◌, ap, subst, slice_get, ◌-◌, nat_lt, not, length, ◌&&◌}
use Rattle.std.specs.Option.{IfSome, is_some}
use Rattle.bridge_setting.specs.Naming.{Named, name_of}
use Rattle.bridge_setting.proofs.NameLemmas.{root_named, root_there}
use Rattle.bridge_setting.proofs.names.Names.root.Goals as goal

pub returns-clause-name : goal.returns-clause-name
returns-clause-name c =
    subst
    (λ (v : Named). IfSome c.tid_at.result (λ t. t.now ≡ name_of v.tag c.args.root))
    c.self.view_is
    (root_named c.self.inside.tag c.self.inside.roots.items c.args.root c.tid_at.result c.self.invariant.rest c.if-root-eq0.false
    (c.tid_at.ensures ∙ ap (λ xs. slice_get xs (c.args.root - 1)) c.deref.ensures.value))

pub returns-clause-there : goal.returns-clause-there
returns-clause-there c =
    subst
    (λ (v : Named). is_some c.tid_at.result ≡ (nat_lt 0 c.args.root && not (nat_lt v.roots c.args.root)))
    c.self.view_is
    (root_there c.self.inside.roots.items c.args.root (length c.self.inside.roots.items) c.tid_at.result c.if-root-eq0.false c.self.invariant.count
    (c.tid_at.ensures ∙ ap (λ xs. slice_get xs (c.args.root - 1)) c.deref.ensures.value))
