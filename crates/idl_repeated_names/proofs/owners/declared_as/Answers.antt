use Rattle.std.proofs.Common.{Bor, ◌∙◌, ap}
use Rattle.std.specs.Option.{option_map}
use Rattle.idl_trees.specs.Trees.{declaration_of}
use Rattle.idl_trees.specs.declared.declaration.Declaration.{Declaration}
use Rattle.idl_repeated_names.proofs.owners.declared_as.Goals as goal

pub returns : goal.returns
unfolding Rattle.idl_repeated_names.specs.Over.owned
returns c = ap (option_map (λ (b : Bor Declaration). declaration_of b.now)) (c.copied.ensures ∙ c.get.ensures.value)
