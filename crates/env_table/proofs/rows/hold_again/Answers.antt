use Rattle.std.proofs.Common.{rules}
use Rattle.env_table.proofs.RowChanges.{some_after, found_some, held_again, kept_again}
use Rattle.env_table.proofs.rows.hold_again.Goals as goal

pub replace-holders-requires : goal.replace-holders-requires
replace-holders-requires c = found_some _ c.requires.some

pub replace-requires : goal.replace-requires
replace-requires c = some_after _ c.args.pairs.now _ c.replace-holders.new.self c.replace-holders.ensures.put

pub returns-clause-held : goal.returns-clause-held
returns-clause-held c =
    held_again c.args.holder _ c.args.pairs.now c.replace-holders.new.self c.replace.new.self c.replace-holders.result c.hold-held.new.self
    c.replace-holders.ensures.was (search rules) c.hold-held.result c.replace.ensures.put c.hold-held.ensures.held

pub returns-clause-kept : goal.returns-clause-kept
returns-clause-kept c =
    kept_again c.args.holder _ c.args.pairs.now c.replace-holders.new.self c.replace.new.self c.replace-holders.result c.hold-held.new.self
    c.replace-holders.ensures.was (search rules) c.hold-held.result c.requires.rises c.replace.ensures.put c.hold-held.ensures.kept
