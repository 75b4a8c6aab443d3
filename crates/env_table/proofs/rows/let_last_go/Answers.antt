use Rattle.env_table.proofs.RowChanges.{found_there, gone_at_last}
use Rattle.env_table.proofs.rows.let_last_go.Goals as goal

pub remove-requires : goal.remove-requires
remove-requires c = found_there c.args.holder _ c.requires.there

pub returns : goal.returns
returns c = gone_at_last c.args.holder _ c.args.pairs.now c.remove.new.self c.requires.there c.requires.last c.remove.ensures.without
