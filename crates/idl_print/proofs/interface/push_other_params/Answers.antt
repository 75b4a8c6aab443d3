use Rattle.std.proofs.Common.{sym, codes, ◌∷◌}
use Rattle.uno_entities.specs.Entities.{param_of}
use Rattle.registry_text_model.specs.Canonical.{param_tokens}
use Rattle.idl_print.proofs.TokenLemmas.{each_more, no_tokens}
use Rattle.idl_print.proofs.interface.push_other_params.Goals as goal

pub loop-param-init : goal.loop-param-init
loop-param-init c = sym (no_tokens c.args.text.now.items)

pub loop-param-preserved : goal.loop-param-preserved
loop-param-preserved c = each_more c.args.params.now c.loop-param.param-index c.param-item.result _ _ _ param_of (λ p. codes "," ∷ param_tokens p) c.loop-param-test.true c.param-item.is c.loop-param.invariant c.in_ok-push_other_param.ensures
