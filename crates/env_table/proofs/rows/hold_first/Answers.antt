use Rattle.env_table.proofs.RowChanges.{held_first}
use Rattle.env_table.proofs.rows.hold_first.Goals as goal

pub returns-clause-held : goal.returns-clause-held
returns-clause-held c =
    held_first c.args.holder _ c.args.pairs.now c.insert.new.self c.hold.new.self c.new-holders.result c.insert.result c.requires c.in_ok-hold.ensures.held c.new-holders.ensures
    c.insert.ensures.put
