use Rattle.std.proofs.Common.{◌∙◌, [], ◌∷◌, None, Some, sym, ap, option_map}
use Rattle.idl_meaning_model.specs.Scopes.{is_built_in}
use Rattle.idl_names.specs.Alone.{twice_among}
use Rattle.idl_names.specs.Collected.{declared_of}
use Rattle.idl_names.proofs.AloneLemmas.{adds_nothing, adds_one, answer_at, first_noted, twice_built_in, twice_first, twice_forward}
use Rattle.idl_names.proofs.twice.add_twice.Goals as goal
use Rattle.idl_trees.specs.Names.{place_of}

pub returns-then-not-is_entity : goal.returns-then-not-is_entity
returns-then-not-is_entity c = λ paths ds answers leasts has right.
    let d = declared_of paths c.args.declared.now in
    adds_nothing c.args.faults.now.items (twice_among ds (d ∷ [])) (twice_forward ds d (sym c.is_entity.ensures ∙ c.if-not-is_entity.true))

pub returns-then-is_marked : goal.returns-then-is_marked
returns-then-is_marked c = λ paths ds answers leasts has right.
    let d = declared_of paths c.args.declared.now in
    adds_one c.args.faults.now.items c.push.new.self.items _ (twice_among ds (d ∷ [])) c.in_ok-push.ensures.items
    (twice_built_in ds d (sym c.is_entity.ensures ∙ c.if-not-is_entity.false)
    (answer_at paths c.args.built_in.now is_built_in c.args.declared.now answers has right ∙ sym c.is_marked.ensures ∙ c.if-is_marked.true))

pub returns-in_default : goal.returns-in_default
returns-in_default c = λ paths ds answers leasts has right.
    let d = declared_of paths c.args.declared.now in
    adds_nothing c.args.faults.now.items (twice_among ds (d ∷ []))
    (twice_first ds d None (sym c.is_entity.ensures ∙ c.if-not-is_entity.false)
    (answer_at paths c.args.built_in.now is_built_in c.args.declared.now answers has right ∙ sym c.is_marked.ensures ∙ c.if-is_marked.false)
    (sym (ap (option_map place_of) c.in_default.is) ∙ c.noted_before.ensures ∙ first_noted paths c.args.leasts.now ds c.args.declared.now leasts has right))

pub returns : goal.returns
returns c = λ paths ds answers leasts has right.
    let d = declared_of paths c.args.declared.now in
    adds_one c.args.faults.now.items c.push-2.new.self.items _ (twice_among ds (d ∷ [])) c.in_ok-push-2.ensures.items
    (twice_first ds d (Some (place_of c.in-Some.first)) (sym c.is_entity.ensures ∙ c.if-not-is_entity.false)
    (answer_at paths c.args.built_in.now is_built_in c.args.declared.now answers has right ∙ sym c.is_marked.ensures ∙ c.if-is_marked.false)
    (sym (ap (option_map place_of) c.in-Some.is) ∙ c.noted_before.ensures ∙ first_noted paths c.args.leasts.now ds c.args.declared.now leasts has right))
