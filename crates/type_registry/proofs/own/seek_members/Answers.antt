use Rattle.std.proofs.Common.{sym}
use Rattle.uno_entities.specs.Entities.{member_of}
use Rattle.type_registry.specs.Own.{functions_in}
use Rattle.type_registry.proofs.SeekLemmas.{found_in}
use Rattle.type_registry.proofs.own.seek_members.Goals as goal

pub returns-in-Some : goal.returns-in-Some
returns-in-Some c =
    found_in (functions_in c.args.group c.args.owner.now) member_of c.args.members.now c.loop-member.member-index c.loop-member.left c.args.number c.member-item.result _
    c.loop-member-test.true c.member-item.is c.loop-member.invariant (sym c.in-Some.ensures)
