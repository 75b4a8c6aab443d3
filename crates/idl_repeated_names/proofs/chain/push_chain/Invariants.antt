use Rattle.std.proofs.Common.{◌≡◌, ◌++◌, reverse}
use Rattle.std.specs.List.{flat_map}
use denote.Shadow.{shadow}
use denote.Text.{Utf8}
use Rattle.idl_repeated_names.specs.Over.{chain_of, chain_within}
use Rattle.type_registry.specs.Met.{names_at}
use Rattle.uno_model.specs.Registry.{find_entity, member_bases}
use Rattle.idl_repeated_names.proofs.chain.push_chain.Given as goal

abbrev pub invariant-loop-levels : goal.invariant-loop-levels
invariant-loop-levels l =
    shadow (Utf8 l.last)
    × (flat_map (chain_within l.levels l.registry) (member_bases (find_entity l.last l.registry)) ++ reverse (names_at l.chain.items)
    ≡ chain_of l.registry l.name ++ reverse (names_at l.fn.chain.items))

abbrev pub decreases-loop-levels : goal.decreases-loop-levels
decreases-loop-levels l = l.levels
