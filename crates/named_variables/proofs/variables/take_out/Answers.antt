use Rattle.std.proofs.Common.{sym, ap, ◌∙◌}
use Rattle.plan_types.specs.Frames.{variables_of}
use Rattle.std.specs.List.{position}
use Rattle.uno_values.specs.Values.{plain_of}
use Rattle.uno_values.specs.declared.value.Value.TheVariants.{Void}
use Rattle.named_variables.proofs.VariableLemmas.{has_name, found_first, found_none, nothing_else, others_of, others_same, value_here, value_nowhere}
use Rattle.named_variables.proofs.variables.take_out.Goals as goal

-- the name is there
pub returns-in-Some-clause-without : goal.returns-in-Some-clause-without
returns-in-Some-clause-without c =
    let name = c.args.name.now in
    let xs = c.args.variables.now.items in
    let was = c.index_mut.result.now in
    let first = found_first name xs c.in-Some.place was (sym (c.place_of.ensures ∙ ap (position (has_name c.args.name.now)) c.deref.ensures.value) ∙ c.in-Some.is) in
    ap variables_of c.keep_others.ensures
    ∙ (ap variables_of (others_same name xs c.in-Some.place was (record { name = was.name; value = c.replace-value.new.dest }) first.within first.here (ap (λ v. v.name) c.index_mut.ensures.value))
    ∙ others_of name xs)

pub returns-in-Some-clause-was : goal.returns-in-Some-clause-was
returns-in-Some-clause-was c =
    let name = c.args.name.now in
    let xs = c.args.variables.now.items in
    let was = c.index_mut.result.now in
    ap plain_of c.replace-value.ensures.value
    ∙ (ap (λ v. plain_of v.value) c.index_mut.ensures.value ∙ value_here name xs c.in-Some.place was (found_first name xs c.in-Some.place was (sym (c.place_of.ensures ∙ ap (position (has_name c.args.name.now)) c.deref.ensures.value) ∙ c.in-Some.is)))

-- it is not there
pub returns-in-None-clause-without : goal.returns-in-None-clause-without
returns-in-None-clause-without c =
    let name = c.args.name.now in
    let xs = c.args.variables.now.items in
    nothing_else name xs (record { name = name; value = Void }) (found_none name xs (record { name = name; value = Void }) (sym (c.place_of.ensures ∙ ap (position (has_name c.args.name.now)) c.deref.ensures.value) ∙ c.in-None.is))

pub returns-in-None-clause-was : goal.returns-in-None-clause-was
returns-in-None-clause-was c =
    let name = c.args.name.now in
    let xs = c.args.variables.now.items in
    c.no_value.ensures ∙ value_nowhere name xs (record { name = name; value = Void }) (found_none name xs (record { name = name; value = Void }) (sym (c.place_of.ensures ∙ ap (position (has_name c.args.name.now)) c.deref.ensures.value) ∙ c.in-None.is))
