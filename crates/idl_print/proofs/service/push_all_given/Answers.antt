use Rattle.std.proofs.lemmas.Result.{on_ok_weaker}
use Rattle.uno_entities.specs.Entities.{field_of}
use Rattle.registry_text_model.specs.Canonical.{given_tokens}
use Rattle.idl_print.proofs.TokenLemmas.{none_listed, listed_written}
use Rattle.idl_print.proofs.service.push_all_given.Goals as goal

pub returns-in_default : goal.returns-in_default
returns-in_default c = none_listed field_of given_tokens c.args.params.now c.args.text.now.items c.in_default.len_below

pub returns : goal.returns
returns c = on_ok_weaker _ (listed_written field_of given_tokens c.args.params.now c.first-item.result _ _ _ c.in-len1-up.len_at_least c.first-item.is c.in_ok-push_given.ensures) c.push_others_given.ensures
