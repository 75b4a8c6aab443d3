use Rattle.std.proofs.Common.{◌∷◌, [], rules}
use Rattle.std.proofs.lemmas.Result.{on_ok_weaker}
use Rattle.registry_text_model.specs.Canonical.{absolute}
use Rattle.idl_print.proofs.TokenLemmas.{no_names, names_written}
use Rattle.idl_print.proofs.interface.push_names.Goals as goal

pub returns-in_default : goal.returns-in_default
returns-in_default c = no_names (λ n. absolute n ∷ []) c.args.names.now c.args.text.now.items c.in_default.len_below

pub returns : goal.returns
returns c = on_ok_weaker _ (names_written (λ n. absolute n ∷ []) c.args.names.now c.first-item.result _ _ _ c.in-len1-up.len_at_least c.first-item.is (search rules)) c.push_other_names.ensures
