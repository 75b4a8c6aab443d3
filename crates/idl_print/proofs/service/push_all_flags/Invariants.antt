use Rattle.std.proofs.Common.{◌≡◌, ◌++◌, ◌∷◌, [], drop, codes}
use Rattle.std.specs.List.{flat_map}
use Rattle.idl_print.specs.Tokens.{followed, tokens_at}
use Rattle.idl_print.proofs.service.push_all_flags.Given as goal

abbrev pub invariant-loop-flag : goal.invariant-loop-flag
invariant-loop-flag l =
    l.text.items ++ followed (flat_map (λ w. codes "," ∷ (w ∷ [])) (tokens_at (drop l.flag-index l.flags))) ≡ l.fn.text.items ++ followed (flat_map (λ w. codes "," ∷ (w ∷ [])) (tokens_at l.flags))
