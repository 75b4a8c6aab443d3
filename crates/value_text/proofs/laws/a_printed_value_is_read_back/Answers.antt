use Rattle.std.proofs.Common.{refl}
use Rattle.literal_model.proofs.VerdictLaws.{literal_is_found}
use Rattle.literal_model.specs.Literals.{print}
use Rattle.uno_entities.specs.TypeNames.{kind_of}
use Rattle.uno_values.specs.Values.{plain_of}
use Rattle.value_text.proofs.laws.a_printed_value_is_read_back.Goals as goal

pub returns : goal.returns
returns c = λ fits closed.
    literal_is_found c.args.registry.now (kind_of c.args.kind.now) (print c.args.registry.now (plain_of c.args.value.now)) (plain_of c.args.value.now) c.requires
    (record { fits = fits; closed = closed; printed = refl }) c.every_value_is_spellable.ensures
