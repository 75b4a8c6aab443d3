use Rattle.std.proofs.Common.{◌≡◌, ◌++◌, map, take, codes, ◌∷◌}
use Rattle.std.specs.List.{flat_map}
use Rattle.uno_entities.specs.Entities.{field_of}
use Rattle.registry_text_model.specs.Canonical.{given_tokens}
use Rattle.idl_print.specs.Tokens.{followed}
use Rattle.idl_print.proofs.service.push_others_given.Given as goal

abbrev pub invariant-loop-param : goal.invariant-loop-param
invariant-loop-param l = l.text.items ≡ l.fn.text.items ++ followed (flat_map (λ p. codes "," ∷ given_tokens p) (map field_of (take l.param-index l.params)))
