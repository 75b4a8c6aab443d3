use Rattle.std.proofs.Common.{None, OnOk, Some, subst}
use Rattle.idl_repeated_names.specs.Meeting.{Meets}
use Rattle.idl_repeated_names.specs.Over.{owned}
use Rattle.idl_repeated_names.proofs.RepeatedLemmas.{fields_owned}
use Rattle.idl_trees.specs.Trees.{declaration_of}
use Rattle.idl_repeated_names.proofs.over.meet_fields_at.Goals as goal

pub returns-in-Some : goal.returns-in-Some
returns-in-Some c =
    subst (λ ns. OnOk c.meet_own_fields.result (Meets c.args.twins.now c.meet_own_fields.new.twins ns))
    (fields_owned (owned c.args.around.owners.now) c.args.around.built_in.now c.args.name.now (Some (declaration_of c.in-Some.body.now)) c.in-Some.ensures) c.meet_own_fields.ensures

pub returns-in-None : goal.returns-in-None
returns-in-None c =
    subst (λ ns. OnOk c.meet_built_in_fields.result (Meets c.args.twins.now c.meet_built_in_fields.new.twins ns))
    (fields_owned (owned c.args.around.owners.now) c.args.around.built_in.now c.args.name.now None c.in-None.ensures) c.meet_built_in_fields.ensures
