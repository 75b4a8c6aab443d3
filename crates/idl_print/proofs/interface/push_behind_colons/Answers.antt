use Rattle.std.proofs.Common.{sym}
use Rattle.uno_entities.specs.Entities.{base_of}
use Rattle.registry_text_model.specs.Canonical.{behind_colon}
use Rattle.idl_print.proofs.TokenLemmas.{each_more, no_tokens}
use Rattle.idl_print.proofs.interface.push_behind_colons.Goals as goal

pub loop-base-init : goal.loop-base-init
loop-base-init c = sym (no_tokens c.args.text.now.items)

pub loop-base-preserved : goal.loop-base-preserved
loop-base-preserved c = each_more c.args.bases.now c.loop-base.base-index c.base-item.result _ _ _ base_of (λ b. behind_colon b.name) c.loop-base-test.true c.base-item.is c.loop-base.invariant c.in_ok-push_base_behind_colon.ensures
