use Rattle.std.proofs.Common.{◌≡◌, IfOk, subst}
use Rattle.registry_reading_model.specs.Kinds.{sequences}
use Rattle.uno_entities.specs.TypeNames.{kind_of}
use Rattle.idl_meant.proofs.kinds.Types.made.Goals as goal

pub returns : goal.returns
returns c = λ names built.
    subst (λ k. IfOk c.sequences.result (λ made. kind_of made ≡ sequences c.args.shape.sequences k)) (c.in_ok-leaf.ensures names built) c.sequences.ensures
