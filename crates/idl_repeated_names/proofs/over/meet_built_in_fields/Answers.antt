use Rattle.std.proofs.Common.{◌≡◌, None, OnOk, rules, subst, sym}
use Rattle.idl_repeated_names.specs.Meeting.{Meets}
use Rattle.idl_repeated_names.specs.Over.{fields_named}
use Rattle.idl_repeated_names.proofs.MeetingLemmas.{meets_none}
use Rattle.uno_model.specs.Registry.{find_entity}
use Rattle.idl_repeated_names.proofs.over.meet_built_in_fields.Goals as goal

pub returns-in-Some : goal.returns-in-Some
returns-in-Some c =
    subst (λ e. OnOk c.meet_members_in.result (Meets c.args.twins.now c.meet_members_in.new.twins (fields_named None e))) (sym c.in-Some.ensures.found) c.meet_members_in.ensures

pub returns-in-None : goal.returns-in-None
returns-in-None c =
    let none : find_entity c.args.name.now c.args.built_in.now ≡ None = search rules in
    subst (λ e. Meets c.args.twins.now c.args.twins.now (fields_named None e)) (sym none) (meets_none c.args.twins.now)
