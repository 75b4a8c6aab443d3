use Rattle.std.proofs.Common.{◌∙◌, ap}
use Rattle.idl_names.specs.Paths.{inside_of, paths_of}
use Rattle.idl_names.proofs.PathLaws.{no_more}
use Rattle.idl_names.proofs.SlotLemmas.{nothing_found}
use Rattle.idl_names.proofs.paths.Paths.new.Goals as goal

pub returns : goal.returns
returns c = ap (λ ms. paths_of (inside_of ms)) c.new-2.ensures.items ∙ no_more

pub invariant_of-result : goal.invariant_of-result
invariant_of-result c = nothing_found c.new-2.result.items c.new.result c.in_ok-slots.slots.items c.new-2.ensures.items c.new.ensures.empty
