use Rattle.bridge_tables.specs.Roots.{root_of}
use Rattle.bridge_tables.proofs.RootLemmas.{put_at}
use Rattle.bridge_tables.proofs.roots.put_root.Goals as goal

pub returns-clause-put : goal.returns-clause-put
returns-clause-put c = put_at root_of c.args.roots.now.items c.args.place c.replace.new.dest c.args.state c.replace.ensures.after
