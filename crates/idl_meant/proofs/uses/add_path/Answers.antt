use Rattle.idl_meant.proofs.UseLemmas.{one_added}
use Rattle.idl_meant.proofs.uses.add_path.Goals as goal

pub returns : goal.returns
returns c = one_added c.args.uses.now.items c.push.new.self.items _ c.in_ok-push.ensures.items
