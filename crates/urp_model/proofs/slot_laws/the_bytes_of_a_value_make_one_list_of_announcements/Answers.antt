use Rattle.urp_model.proofs.SameAnnouncements.{value_same}
use Rattle.urp_model.proofs.slot_laws.the_bytes_of_a_value_make_one_list_of_announcements.Goals as goal

pub returns : goal.returns
returns c levels reg k s t u x y b c' d e sound first second same = value_same reg sound.named levels k s t u x y b c' d e first second same
