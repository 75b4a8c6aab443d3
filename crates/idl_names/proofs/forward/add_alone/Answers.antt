use Rattle.std.proofs.Common.{◌∙◌, [], ◌∷◌, sym}
use Rattle.idl_meaning_model.specs.NameFaults.{has_interface}
use Rattle.idl_names.specs.Alone.{alone_among}
use Rattle.idl_names.specs.Collected.{declared_of}
use Rattle.idl_names.proofs.AloneLemmas.{adds_nothing, adds_one, alone_entity, alone_known, alone_unknown, answer_at}
use Rattle.idl_names.proofs.forward.add_alone.Goals as goal

pub returns-then-is_entity : goal.returns-then-is_entity
returns-then-is_entity c = λ paths ds answers has right.
    let d = declared_of paths c.args.declared.now in
    adds_nothing c.args.faults.now.items (alone_among ds (d ∷ [])) (alone_entity ds d (sym c.is_entity.ensures ∙ c.if-is_entity.true))

pub returns-then-is_marked : goal.returns-then-is_marked
returns-then-is_marked c = λ paths ds answers has right.
    let d = declared_of paths c.args.declared.now in
    adds_nothing c.args.faults.now.items (alone_among ds (d ∷ []))
    (alone_known ds d (answer_at paths c.args.interfaces.now (has_interface ds) c.args.declared.now answers has right ∙ sym c.is_marked.ensures ∙ c.if-is_marked.true))

pub returns : goal.returns
returns c = λ paths ds answers has right.
    let d = declared_of paths c.args.declared.now in
    adds_one c.args.faults.now.items c.push.new.self.items _ (alone_among ds (d ∷ [])) c.in_ok-push.ensures.items
    (alone_unknown ds d (sym c.is_entity.ensures ∙ c.if-is_entity.false)
    (answer_at paths c.args.interfaces.now (has_interface ds) c.args.declared.now answers has right ∙ sym c.is_marked.ensures ∙ c.if-is_marked.false))
