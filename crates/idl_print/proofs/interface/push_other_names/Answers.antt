use Rattle.std.proofs.Common.{◌∷◌, [], sym, codes, rules}
use Rattle.registry_text_model.specs.Canonical.{absolute}
use Rattle.idl_print.proofs.TokenLemmas.{name_more, no_tokens}
use Rattle.idl_print.proofs.interface.push_other_names.Goals as goal

pub loop-name-init : goal.loop-name-init
loop-name-init c = sym (no_tokens c.args.text.now.items)

pub loop-name-preserved : goal.loop-name-preserved
loop-name-preserved c =
    name_more c.args.names.now c.loop-name.name-index c.name-item.result _ _ _ (λ n. codes "," ∷ (absolute n ∷ [])) c.loop-name-test.true c.name-item.is c.loop-name.invariant (search rules)
