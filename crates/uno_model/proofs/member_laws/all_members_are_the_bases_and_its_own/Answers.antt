use Rattle.uno_model.proofs.MemberLaws.{all_members_are}
use Rattle.uno_model.proofs.member_laws.all_members_are_the_bases_and_its_own.Goals as goal

pub returns : goal.returns
returns c = all_members_are
