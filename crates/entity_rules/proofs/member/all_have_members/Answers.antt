use Rattle.std.proofs.Common.{sym, ◌∙◌}
use Rattle.uno_entities.specs.Entities.{entity_of, entities_of}
use Rattle.entity_rules.specs.NearMembers.{has_near_member}
use Rattle.entity_rules.proofs.AllLemmas.{all_mapped}
use Rattle.entity_rules.proofs.NearMemberLemmas.{near_all}
use Rattle.entity_rules.proofs.member.all_have_members.Goals as goal

pub returns : goal.returns
returns c =
    let reg = entities_of c.args.entities.now in
    c.all_near.ensures ∙ sym (all_mapped (has_near_member reg) entity_of c.args.entities.now) ∙ near_all reg c.requires.no_circle c.requires.rising
