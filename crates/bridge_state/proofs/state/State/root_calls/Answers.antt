use Rattle.std.proofs.Common.{ap, sym, ◌∙◌, map}
use Rattle.bridge_model.specs.Roots.{is_answered, root_calls}
use Rattle.bridge_model.specs.Settings.{is_own}
use Rattle.bridge_model.specs.Sides.{waits_call}
use Rattle.bridge_setting.specs.Settings.{setting_of}
use Rattle.plan_model.specs.Leaving.{caused}
use Rattle.uno_values.specs.Values.{plain_of}
use Rattle.bridge_state.proofs.BeginningLemmas.{before_told, by_side, call_answered, call_own, call_peer}
use Rattle.bridge_state.specs.Roots.{begins_own, begins_peer}
use Rattle.bridge_state.proofs.state.State.root_calls.Goals as goal

pub returns-in-Some-why_too_much-clause-called : goal.returns-in-Some-why_too_much-clause-called
returns-in-Some-why_too_much-clause-called c =
    let g = setting_of c.args.setting.now in
    let oid = c.args.oid.now in
    let face = c.args.face.now in
    let args = map plain_of c.args.args.items in
    by_side c.answer_root.result c.answer_root.new.self c.args.self.now (is_answered c.args.root (caused c.in-Some-why_too_much.cause)) (root_calls g c.args.root oid face c.args.function args)
    (call_answered g c.args.root oid face c.args.function args c.args.self.now.side c.in-Some-why_too_much.cause
    (sym c.in-Some-why_too_much.is
    ∙ before_told c.why_too_much.result _ _ _ _ _ _ c.args.function _ _ (c.why_too_much.ensures c.args.function) c.in-Some.ensures.name c.as_str.ensures c.as_str-2.ensures (ap (map plain_of) c.deref.ensures.value)))
    c.answer_root.ensures.answered

pub returns-then-is_own-clause-called : goal.returns-then-is_own-clause-called
returns-then-is_own-clause-called c =
    let g = setting_of c.args.setting.now in
    let args = map plain_of c.args.args.items in
    let before =
    sym c.in_default-why_too_much.is
    ∙ before_told c.why_too_much.result _ _ _ _ _ _ c.args.function _ _ (c.why_too_much.ensures c.args.function) c.in-Some.ensures.name c.as_str.ensures c.as_str-2.ensures (ap (map plain_of) c.deref.ensures.value) in
    let ours = sym (c.is_own.ensures ∙ ap (is_own g) (c.as_bytes.ensures.value ∙ c.as_str-3.ensures)) ∙ c.if-is_own.true in
    by_side c.begin_own.result c.begin_own.new.self c.args.self.now (begins_own g c.args.root c.in-Ok.object c.in-Ok-copy.under c.args.function args) (root_calls g c.args.root c.args.oid.now c.args.face.now c.args.function args)
    ((λ i. begins_own g c.args.root (c.in-Ok.ensures i) (c.in-Ok-copy.ensures i) c.args.function args c.args.self.now.side)
    ∙ call_own g c.args.root c.args.oid.now c.args.face.now c.args.function args c.args.self.now.side before ours)
    c.begin_own.ensures.begun

pub returns-else-is_own-clause-called : goal.returns-else-is_own-clause-called
returns-else-is_own-clause-called c =
    let g = setting_of c.args.setting.now in
    let args = map plain_of c.args.args.items in
    let before =
    sym c.in_default-why_too_much.is
    ∙ before_told c.why_too_much.result _ _ _ _ _ _ c.args.function _ _ (c.why_too_much.ensures c.args.function) c.in-Some.ensures.name c.as_str.ensures c.as_str-2.ensures (ap (map plain_of) c.deref.ensures.value) in
    let theirs = sym (c.is_own.ensures ∙ ap (is_own g) (c.as_bytes.ensures.value ∙ c.as_str-3.ensures)) ∙ c.if-is_own.false in
    by_side c.begin_peer.result c.begin_peer.new.self c.args.self.now (begins_peer g c.args.root waits_call c.in-Ok.object c.in-Ok-copy.under c.args.function args)
    (root_calls g c.args.root c.args.oid.now c.args.face.now c.args.function args)
    ((λ i. begins_peer g c.args.root waits_call (c.in-Ok.ensures i) (c.in-Ok-copy.ensures i) c.args.function args c.args.self.now.side)
    ∙ call_peer g c.args.root c.args.oid.now c.args.face.now c.args.function args c.args.self.now.side before theirs)
    c.begin_peer.ensures.begun
