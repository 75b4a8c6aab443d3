use Rattle.std.proofs.Common.{option_map, sym, ap, ◌∙◌}
use Rattle.uno_values.specs.Values.{plain_of}
use Rattle.uno_values.specs.declared.value.Value.TheVariants.{Void}
use Rattle.plan_types.specs.Frames.{variables_of}
use Rattle.plan_types.specs.declared.frame.Variable.{Variable}
use Rattle.named_variables.specs.Names.{names_of}
use Rattle.named_variables.proofs.ThreadLemmas.{left_alone, names_left, noted_first, noted_nowhere}
use Rattle.named_variables.proofs.VariableLemmas.{nothing_else, value_here, value_nowhere}
use Rattle.named_variables.proofs.thread.ThreadVariables.take_out.Goals as goal

-- the name is there
pub invariant_of-self-in-Some : goal.invariant_of-self-in-Some
invariant_of-self-in-Some c =
    let name = c.args.name.now in
    let xs = c.args.self.now.all.items in
    let keys = c.args.self.now.names.keys in
    let was = c.remove.result in
    let noted = c.args.self.now.noted c.if-not-self.false in
    let first = noted_first name xs keys c.in-Some.place was noted (sym c.shift_remove_full.ensures.index ∙ ap (option_map (λ p. p.0)) c.in-Some.is) in
    record { noted = λ yes. names_left name xs keys c.shift_remove_full.new.self.keys c.in-Some.place was first noted c.shift_remove_full.ensures.keys ∙ ap names_of (sym c.remove.ensures.items) }

pub returns-in-Some-clause-without : goal.returns-in-Some-clause-without
returns-in-Some-clause-without c =
    let name = c.args.name.now in
    let xs = c.args.self.now.all.items in
    let keys = c.args.self.now.names.keys in
    let was = c.remove.result in
    let noted = c.args.self.now.noted c.if-not-self.false in
    let first = noted_first name xs keys c.in-Some.place was noted (sym c.shift_remove_full.ensures.index ∙ ap (option_map (λ p. p.0)) c.in-Some.is) in
    ap variables_of c.remove.ensures.items
    ∙ left_alone name xs c.shift_remove_full.new.self.keys c.in-Some.place was first
    (names_left name xs keys c.shift_remove_full.new.self.keys c.in-Some.place was first noted c.shift_remove_full.ensures.keys) c.shift_remove_full.ensures.updates.1

pub returns-in-Some-clause-was : goal.returns-in-Some-clause-was
returns-in-Some-clause-was c =
    let name = c.args.name.now in
    let xs = c.args.self.now.all.items in
    let was = c.remove.result in
    let first = noted_first name xs c.args.self.now.names.keys c.in-Some.place was (c.args.self.now.noted c.if-not-self.false)
    (sym c.shift_remove_full.ensures.index ∙ ap (option_map (λ p. p.0)) c.in-Some.is) in
    ap plain_of c.value_of.ensures ∙ (ap (λ v. plain_of v.value) c.remove.ensures.value ∙ value_here name xs c.in-Some.place was first)

-- it is not there
pub returns-in-None-clause-without : goal.returns-in-None-clause-without
returns-in-None-clause-without c =
    let name = c.args.name.now in
    let xs = c.args.self.now.all.items in
    let some : Variable = record { name = name; value = Void } in
    nothing_else name xs some (noted_nowhere name xs c.args.self.now.names.keys some (c.args.self.now.noted c.if-not-self.false)
    (sym c.shift_remove_full.ensures.index ∙ ap (option_map (λ p. p.0)) c.in-None.is))

pub returns-in-None-clause-was : goal.returns-in-None-clause-was
returns-in-None-clause-was c =
    let name = c.args.name.now in
    let xs = c.args.self.now.all.items in
    let some : Variable = record { name = name; value = Void } in
    c.no_value.ensures ∙ value_nowhere name xs some (noted_nowhere name xs c.args.self.now.names.keys some (c.args.self.now.noted c.if-not-self.false)
    (sym c.shift_remove_full.ensures.index ∙ ap (option_map (λ p. p.0)) c.in-None.is))
