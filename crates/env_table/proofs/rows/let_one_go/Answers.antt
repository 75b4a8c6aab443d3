use Rattle.std.proofs.Common.{rules, ap, ◌∙◌, ◌+◌}
use Rattle.env_table.proofs.RowChanges.{some_after, found_there, gone_with_others, left_of, there_in}
use Rattle.env_table.proofs.rows.let_one_go.Goals as goal

pub replace-holders-requires : goal.replace-holders-requires
replace-holders-requires c = found_there c.args.holder _ c.requires.there

pub replace-requires : goal.replace-requires
replace-requires c = some_after _ c.args.pairs.now _ c.replace-holders.new.self c.replace-holders.ensures.put

pub let_go-requires : goal.let_go-requires
let_go-requires c = there_in c.args.holder _ _ c.replace-holders.ensures.was c.requires.there

pub returns : goal.returns
returns c =
    let left = left_of c.args.holder c.replace-holders.result c.let_go.new.self _ c.replace-holders.ensures.was c.let_go.ensures c.requires.there in
    gone_with_others c.args.holder _ c.args.pairs.now c.replace-holders.new.self c.replace.new.self c.replace-holders.result c.let_go.new.self
    c.replace-holders.ensures.was (search rules) c.let_go.ensures (λ none. c.requires.several (left ∙ ap (λ n. n + 1) none)) c.replace.ensures.put
