use Rattle.std.proofs.Common.{◌≡◌, ◌++◌, ◌∷◌, [], take, codes}
use Rattle.std.specs.List.{flat_map}
use Rattle.registry_text_model.specs.Canonical.{absolute}
use Rattle.idl_print.specs.Tokens.{followed}
use Rattle.idl_print.proofs.interface.push_other_names.Given as goal

abbrev pub invariant-loop-name : goal.invariant-loop-name
invariant-loop-name l = l.text.items ≡ l.fn.text.items ++ followed (flat_map (λ n. codes "," ∷ (absolute n ∷ [])) (take l.name-index l.names))
