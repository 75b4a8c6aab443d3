use Rattle.std.proofs.Common.{codes, rules, ◌++◌, ap, ◌∙◌}
use Rattle.idl_print.proofs.TokenLemmas.{absolute_written}
use Rattle.registry_text_model.specs.Canonical.{absolute, colons}
use Rattle.std.specs.List.{flat_map}
use Rattle.idl_print.proofs.token.push_absolute.Goals as goal

pub returns : goal.returns
unfolding absolute
returns c =
    absolute_written c.args.text.now.items (codes "::") (flat_map colons c.args.name.now) _ _ _ (search rules)
    (c.in_ok-push_with_colons.ensures ∙ ap (λ n. c.extend_from_slice.new.self.items ++ flat_map colons n) c.as_bytes.ensures.value) c.in_ok-push.ensures.items
