use Rattle.std.proofs.Common.{List, [], ◌∷◌, ◌≤◌, length, map, arith}
use Rattle.uno_model.specs.Entities as uno
use Rattle.std.proofs.lemmas.List.{map-append}
use Rattle.idl_repeated_names.proofs.MeetingLemmas.{meets_all, meets_none, meets_on}
use Rattle.idl_repeated_names.specs.Meeting.{at_nowhere}
use Rattle.uno_entities.specs.Entities.{field_of}
use Rattle.idl_repeated_names.proofs.own.meet_all.Goals as goal

pub loop-member-init : goal.loop-member-init
loop-member-init c = meets_none c.args.twins.now

pub loop-member-preserved : goal.loop-member-preserved
loop-member-preserved c =
    meets_on (λ (ys : List uno.Field). map (λ (f : uno.Field). at_nowhere f.name) ys) (λ (f : uno.Field). at_nowhere f.name ∷ []) (λ fs f. map-append (λ (z : uno.Field). at_nowhere z.name) fs (f ∷ [])) field_of c.args.members.now c.loop-member.member-index c.member-item.result c.args.twins.now c.loop-member.twins
    c.meet_name.new.twins c.loop-member-test.true c.member-item.is c.loop-member.invariant c.in_ok-meet_name.ensures

pub returns : goal.returns
returns c =
    let end : length c.args.members.now ≤ c.loop-member.member-index = omega (arith, c.loop-member-test.false) in
    meets_all (λ (ys : List uno.Field). map (λ (f : uno.Field). at_nowhere f.name) ys) field_of c.args.members.now c.loop-member.member-index c.args.twins.now c.loop-member.twins end c.loop-member.invariant
