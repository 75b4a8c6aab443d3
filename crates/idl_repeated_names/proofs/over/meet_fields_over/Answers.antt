use Rattle.std.proofs.Common.{◌∙◌, ap, subst}
use Rattle.std.specs.List.{flat_map}
use Rattle.idl_repeated_names.specs.Meeting.{Meets}
use Rattle.idl_repeated_names.specs.Over.{fields_at, owned}
use Rattle.type_registry.specs.Met.{names_at}
use Rattle.idl_repeated_names.proofs.over.meet_fields_over.Goals as goal

pub returns : goal.returns
returns c =
    subst (λ ns. Meets c.args.twins.now c.meet_fields_of.new.twins (flat_map (fields_at (owned c.args.around.owners.now) c.args.around.built_in.now) ns))
    (ap names_at c.as_slice.ensures.value ∙ c.in_ok-chain.ensures) c.in_ok-meet_fields_of.ensures
