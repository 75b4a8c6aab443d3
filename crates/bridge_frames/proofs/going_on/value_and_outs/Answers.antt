use Rattle.bridge_frames.proofs.GoingLemmas.{one_list}
use Rattle.bridge_frames.proofs.going_on.value_and_outs.Goals as goal

pub returns : goal.returns
returns c = one_list c.args.value c.args.outs.items c.insert.new.self.items c.in_ok-insert.ensures.items
