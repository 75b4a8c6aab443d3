use Rattle.std.proofs.lemmas.Result.{on_ok_weaker}
use Rattle.uno_entities.specs.Entities.{param_of}
use Rattle.registry_text_model.specs.Canonical.{param_tokens}
use Rattle.idl_print.proofs.TokenLemmas.{none_listed, listed_written}
use Rattle.idl_print.proofs.interface.push_params.Goals as goal

pub returns-in_default : goal.returns-in_default
returns-in_default c = none_listed param_of param_tokens c.args.params.now c.args.text.now.items c.in_default.len_below

pub returns : goal.returns
returns c = on_ok_weaker _ (listed_written param_of param_tokens c.args.params.now c.first-item.result _ _ _ c.in-len1-up.len_at_least c.first-item.is c.in_ok-push_param.ensures) c.push_other_params.ensures
