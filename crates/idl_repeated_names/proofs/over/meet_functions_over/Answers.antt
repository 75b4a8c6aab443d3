use Rattle.std.proofs.Common.{◌∙◌, subst}
use Rattle.std.specs.List.{flat_map}
use Rattle.idl_repeated_names.specs.Meeting.{Meets}
use Rattle.idl_repeated_names.specs.Over.{functions_at, owned}
use Rattle.idl_repeated_names.proofs.over.meet_functions_over.Goals as goal

pub returns : goal.returns
returns c =
    subst (λ ns. Meets c.args.twins.now c.meet_functions_of.new.twins (flat_map (functions_at (owned c.args.around.owners.now) c.args.around.built_in.now) ns))
    (c.names.ensures ∙ c.in_ok-met.ensures) c.in_ok-meet_functions_of.ensures
