use Rattle.std.proofs.Common.{sym, ap, ◌∙◌}
use Rattle.uno_values.specs.Values.{plain_of}
use Rattle.named_variables.proofs.ThreadLemmas.{names_kept}
use Rattle.named_variables.proofs.VariableLemmas.{found_first, found_none, put_here, put_nowhere, value_here, value_nowhere}
use Rattle.named_variables.proofs.thread.ThreadVariables.put.Goals as goal

-- the name is there
pub invariant_of-self : goal.invariant_of-self
invariant_of-self c =
    let name = c.args.name.now in
    let xs = c.args.self.now.all.items in
    let was = c.index_mut.result.now in
    let first = found_first name xs c.in-Some.place was (sym c.place_of.ensures ∙ c.in-Some.is) in
    record {
      noted = λ yes. c.args.self.now.noted yes
          ∙ sym (names_kept xs c.in-Some.place was (record { name = was.name; value = c.replace.new.dest }) first.within (ap (λ v. v.name) c.index_mut.ensures.value));
    }

pub returns-in-Some-clause-put : goal.returns-in-Some-clause-put
returns-in-Some-clause-put c =
    let name = c.args.name.now in
    let xs = c.args.self.now.all.items in
    let was = c.index_mut.result.now in
    put_here name xs c.in-Some.place was (record { name = was.name; value = c.replace.new.dest }) (plain_of c.args.value)
    (found_first name xs c.in-Some.place was (sym c.place_of.ensures ∙ c.in-Some.is)) (ap (λ v. v.name) c.index_mut.ensures.value) (ap plain_of c.replace.ensures.after)

pub returns-in-Some-clause-was : goal.returns-in-Some-clause-was
returns-in-Some-clause-was c =
    let name = c.args.name.now in
    let xs = c.args.self.now.all.items in
    let was = c.index_mut.result.now in
    ap plain_of c.replace.ensures.value
    ∙ (ap (λ v. plain_of v.value) c.index_mut.ensures.value ∙ value_here name xs c.in-Some.place was (found_first name xs c.in-Some.place was (sym c.place_of.ensures ∙ c.in-Some.is)))

-- it is not there
pub returns-in-None-clause-put : goal.returns-in-None-clause-put
returns-in-None-clause-put c =
    let name = c.args.name.now in
    let xs = c.args.self.now.all.items in
    put_nowhere name xs (record { name = name; value = c.args.value }) (plain_of c.args.value)
    (found_none name xs (record { name = name; value = c.args.value }) (sym c.place_of.ensures ∙ c.in-None.is))

pub returns-in-None-clause-was : goal.returns-in-None-clause-was
returns-in-None-clause-was c =
    let name = c.args.name.now in
    let xs = c.args.self.now.all.items in
    c.no_value.ensures ∙ value_nowhere name xs (record { name = name; value = c.args.value }) (found_none name xs (record { name = name; value = c.args.value }) (sym c.place_of.ensures ∙ c.in-None.is))
