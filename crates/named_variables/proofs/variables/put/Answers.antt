use Rattle.std.proofs.Common.{sym, ap, ◌∙◌}
use Rattle.std.specs.List.{position}
use Rattle.uno_values.specs.Values.{plain_of}
use Rattle.named_variables.proofs.VariableLemmas.{has_name, found_first, found_none, put_here, put_nowhere, value_here, value_nowhere}
use Rattle.named_variables.proofs.variables.put.Goals as goal

-- the name is there
pub returns-in-Some-clause-put : goal.returns-in-Some-clause-put
returns-in-Some-clause-put c =
    let name = c.args.name.now in
    let xs = c.args.variables.now.items in
    let was = c.index_mut.result.now in
    put_here name xs c.in-Some.place was (record { name = was.name; value = c.replace.new.dest }) (plain_of c.args.value)
    (found_first name xs c.in-Some.place was (sym (c.place_of.ensures ∙ ap (position (has_name c.args.name.now)) c.deref.ensures.value) ∙ c.in-Some.is)) (ap (λ v. v.name) c.index_mut.ensures.value) (ap plain_of c.replace.ensures.after)

pub returns-in-Some-clause-was : goal.returns-in-Some-clause-was
returns-in-Some-clause-was c =
    let name = c.args.name.now in
    let xs = c.args.variables.now.items in
    let was = c.index_mut.result.now in
    ap plain_of c.replace.ensures.value
    ∙ (ap (λ v. plain_of v.value) c.index_mut.ensures.value ∙ value_here name xs c.in-Some.place was (found_first name xs c.in-Some.place was (sym (c.place_of.ensures ∙ ap (position (has_name c.args.name.now)) c.deref.ensures.value) ∙ c.in-Some.is)))

-- it is not there
pub returns-in-None-clause-put : goal.returns-in-None-clause-put
returns-in-None-clause-put c =
    let name = c.args.name.now in
    let xs = c.args.variables.now.items in
    put_nowhere name xs (record { name = name; value = c.args.value }) (plain_of c.args.value)
    (found_none name xs (record { name = name; value = c.args.value }) (sym (c.place_of.ensures ∙ ap (position (has_name c.args.name.now)) c.deref.ensures.value) ∙ c.in-None.is))

pub returns-in-None-clause-was : goal.returns-in-None-clause-was
returns-in-None-clause-was c =
    let name = c.args.name.now in
    let xs = c.args.variables.now.items in
    c.no_value.ensures ∙ value_nowhere name xs (record { name = name; value = c.args.value }) (found_none name xs (record { name = name; value = c.args.value }) (sym (c.place_of.ensures ∙ ap (position (has_name c.args.name.now)) c.deref.ensures.value) ∙ c.in-None.is))
