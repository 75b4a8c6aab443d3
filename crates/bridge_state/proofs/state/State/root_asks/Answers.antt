use Rattle.std.proofs.Common.{ap, refl, sym, ◌∙◌, map}
use Rattle.bridge_model.specs.Calls.{query_args}
use Rattle.uno_model.specs.BuiltIn.{x_interface_name}
use Rattle.bridge_model.specs.Roots.{asks_peer, is_answered, root_asks}
use Rattle.bridge_setting.specs.Settings.{setting_of}
use Rattle.plan_model.specs.Leaving.{caused}
use Rattle.uno_values.specs.Values.{plain_of}
use Rattle.bridge_state.proofs.BeginningLemmas.{before_told, by_side, ask_answered, ask_peer}
use Rattle.bridge_state.proofs.state.State.root_asks.Goals as goal

pub returns-in-Some-why_too_much-clause-asked : goal.returns-in-Some-why_too_much-clause-asked
returns-in-Some-why_too_much-clause-asked c =
    let g = setting_of c.args.setting.now in
    by_side c.answer_root.result c.answer_root.new.self c.args.self.now (is_answered c.args.root (caused c.in-Some-why_too_much.cause)) (root_asks g c.args.root c.args.name.now c.args.wanted.now)
    (ask_answered g c.args.root c.args.name.now c.args.wanted.now c.args.self.now.side c.in-Some-why_too_much.cause
    (sym c.in-Some-why_too_much.is
    ∙ before_told c.why_too_much.result _ _ _ _ x_interface_name x_interface_name 0 _ _ (c.why_too_much.ensures 0) c.in-Some.ensures.name c.as_str.ensures refl
    (ap (map plain_of) c.deref.ensures.value ∙ c.in_ok-args.ensures ∙ ap query_args c.in_ok-copy.ensures)))
    c.answer_root.ensures.answered

pub returns-clause-asked : goal.returns-clause-asked
returns-clause-asked c =
    let g = setting_of c.args.setting.now in
    by_side c.ask_peer.result c.ask_peer.new.self c.args.self.now (asks_peer g c.args.root c.args.name.now c.in-Ok.face c.args.wanted.now) (root_asks g c.args.root c.args.name.now c.args.wanted.now)
    (ap (λ face. asks_peer g c.args.root c.args.name.now face c.args.wanted.now c.args.self.now.side) c.in-Ok.ensures
    ∙ ask_peer g c.args.root c.args.name.now c.args.wanted.now c.args.self.now.side
    (sym c.in_default-why_too_much.is
    ∙ before_told c.why_too_much.result _ _ _ _ x_interface_name x_interface_name 0 _ _ (c.why_too_much.ensures 0) c.in-Some.ensures.name c.as_str.ensures refl
    (ap (map plain_of) c.deref.ensures.value ∙ c.in_ok-args.ensures ∙ ap query_args c.in_ok-copy.ensures)))
    c.ask_peer.ensures.asked
