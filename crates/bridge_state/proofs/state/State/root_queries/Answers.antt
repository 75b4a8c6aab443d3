use Rattle.std.proofs.Common.{ap, sym, ◌∙◌, map}
use Rattle.bridge_model.specs.Calls.{query_args}
use Rattle.bridge_model.specs.Roots.{asks_peer, is_answered, root_queries}
use Rattle.bridge_model.specs.Settings.{is_own}
use Rattle.bridge_setting.specs.Settings.{setting_of}
use Rattle.plan_model.specs.Leaving.{caused}
use Rattle.uno_values.specs.Values.{plain_of}
use Rattle.bridge_state.proofs.BeginningLemmas.{before_told, by_side, query_answered, query_own, query_peer}
use Rattle.bridge_state.specs.Roots.{answers_own}
use Rattle.bridge_state.proofs.state.State.root_queries.Goals as goal

pub returns-in-Some-why_too_much-clause-queried : goal.returns-in-Some-why_too_much-clause-queried
returns-in-Some-why_too_much-clause-queried c =
    let g = setting_of c.args.setting.now in
    by_side c.answer_root.result c.answer_root.new.self c.args.self.now (is_answered c.args.root (caused c.in-Some-why_too_much.cause)) (root_queries g c.args.root c.args.oid.now c.args.face.now c.args.wanted.now)
    (query_answered g c.args.root c.args.oid.now c.args.face.now c.args.wanted.now c.args.self.now.side c.in-Some-why_too_much.cause
    (sym c.in-Some-why_too_much.is
    ∙ before_told c.why_too_much.result _ _ _ _ _ _ 0 _ _ (c.why_too_much.ensures 0) c.in-Some.ensures.name c.as_str.ensures c.as_str-2.ensures
    (ap (map plain_of) c.deref.ensures.value ∙ c.in_ok-args.ensures ∙ ap query_args c.in_ok-copy.ensures)))
    c.answer_root.ensures.answered

pub returns-then-is_own-clause-queried : goal.returns-then-is_own-clause-queried
returns-then-is_own-clause-queried c =
    let g = setting_of c.args.setting.now in
    let before =
    sym c.in_default-why_too_much.is
    ∙ before_told c.why_too_much.result _ _ _ _ _ _ 0 _ _ (c.why_too_much.ensures 0) c.in-Some.ensures.name c.as_str.ensures c.as_str-2.ensures
    (ap (map plain_of) c.deref.ensures.value ∙ c.in_ok-args.ensures ∙ ap query_args c.in_ok-copy.ensures) in
    let ours = sym (c.is_own.ensures ∙ ap (is_own g) (c.as_bytes.ensures.value ∙ c.as_str-3.ensures)) ∙ c.if-is_own.true in
    by_side c.query_own.result c.query_own.new.self c.args.self.now (answers_own g c.args.root c.args.oid.now c.args.wanted.now) (root_queries g c.args.root c.args.oid.now c.args.face.now c.args.wanted.now)
    (query_own g c.args.root c.args.oid.now c.args.face.now c.args.wanted.now c.args.self.now.side before ours) c.query_own.ensures.answered

pub returns-clause-queried : goal.returns-clause-queried
returns-clause-queried c =
    let g = setting_of c.args.setting.now in
    let before =
    sym c.in_default-why_too_much.is
    ∙ before_told c.why_too_much.result _ _ _ _ _ _ 0 _ _ (c.why_too_much.ensures 0) c.in-Some.ensures.name c.as_str.ensures c.as_str-2.ensures
    (ap (map plain_of) c.deref.ensures.value ∙ c.in_ok-args.ensures ∙ ap query_args c.in_ok-copy.ensures) in
    let theirs = sym (c.is_own.ensures ∙ ap (is_own g) (c.as_bytes.ensures.value ∙ c.as_str-3.ensures)) ∙ c.if-is_own.false in
    by_side c.ask_peer.result c.ask_peer.new.self c.args.self.now (asks_peer g c.args.root c.args.oid.now c.in-Ok.under c.args.wanted.now) (root_queries g c.args.root c.args.oid.now c.args.face.now c.args.wanted.now)
    (ap (λ face. asks_peer g c.args.root c.args.oid.now face c.args.wanted.now c.args.self.now.side) c.in-Ok.ensures
    ∙ query_peer g c.args.root c.args.oid.now c.args.face.now c.args.wanted.now c.args.self.now.side before theirs) c.ask_peer.ensures.asked
