use Rattle.std.proofs.Common.{◌∙◌, ap, map, sym}
use Rattle.std.specs.List.{list_any}
use Rattle.idl_meaning_model.specs.Meaning.{is_readonly}
use Rattle.idl_repeated_names.proofs.MeetingLemmas.{meets_then, read_only_named, written_named}
use Rattle.idl_trees.specs.Members.{attribute_of, flag_of}
use Rattle.idl_repeated_names.proofs.own.meet_accessors.Goals as goal

pub returns-then-is_read_only : goal.returns-then-is_read_only
returns-then-is_read_only c =
    read_only_named c.args.twins.now c.meet_accessor.new.twins (attribute_of c.args.attribute.now)
    (sym (ap (λ fs. list_any is_readonly (map flag_of fs)) c.as_slice.ensures.value) ∙ sym c.is_read_only.ensures ∙ c.if-is_read_only.true) c.in_ok-meet_accessor.ensures

pub returns : goal.returns
returns c =
    written_named c.args.twins.now c.meet_accessor-2.new.twins (attribute_of c.args.attribute.now)
    (sym (ap (λ fs. list_any is_readonly (map flag_of fs)) c.as_slice.ensures.value) ∙ sym c.is_read_only.ensures ∙ c.if-is_read_only.false)
    (meets_then c.args.twins.now c.meet_accessor.new.twins c.meet_accessor-2.new.twins _ _ c.in_ok-meet_accessor.ensures c.in_ok-meet_accessor-2.ensures)
