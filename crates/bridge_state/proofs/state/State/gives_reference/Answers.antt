use Rattle.std.proofs.Common.{sym, ap, ◌∙◌, ◌&&◌, not}
use Rattle.uno_values.specs.References.{ref_of}
use Rattle.bridge_model.specs.Roots.{holds_pair}
use Rattle.bridge_model.specs.Settings.{is_own}
use Rattle.bridge_setting.specs.Settings.{setting_of}
use Rattle.bridge_state.proofs.ValueRefsLemmas.{own_given, peer_given}
use Rattle.bridge_state.proofs.state.State.gives_reference.Goals as goal

pub returns-then-is_own : goal.returns-then-is_own
returns-then-is_own c =
    c.root_holds.ensures
    ∙ sym
    (own_given (setting_of c.args.setting.now) c.args.root c.args.self.now.side.tables c.in-Local.oid c.in-Local.face c.is_own.result (ref_of c.args.reference.now) (c.is_own.ensures ∙ ap (is_own (setting_of c.args.setting.now)) (c.as_bytes.ensures.value ∙ c.as_str.ensures)) (ap ref_of c.in-Local.is)
    ∙ ap (λ b. b && holds_pair c.args.root c.in-Local.oid c.in-Local.face c.args.self.now.side.tables) c.if-is_own.true)

pub returns-else-is_own : goal.returns-else-is_own
returns-else-is_own c =
    c.if-is_own.false
    ∙ sym
    (own_given (setting_of c.args.setting.now) c.args.root c.args.self.now.side.tables c.in-Local.oid c.in-Local.face c.is_own.result (ref_of c.args.reference.now) (c.is_own.ensures ∙ ap (is_own (setting_of c.args.setting.now)) (c.as_bytes.ensures.value ∙ c.as_str.ensures)) (ap ref_of c.in-Local.is)
    ∙ ap (λ b. b && holds_pair c.args.root c.in-Local.oid c.in-Local.face c.args.self.now.side.tables) c.if-is_own.false)

pub returns-then-not-is_own : goal.returns-then-not-is_own
returns-then-not-is_own c =
    c.root_holds-then-not-is_own.ensures
    ∙ sym
    (peer_given (setting_of c.args.setting.now) c.args.root c.args.self.now.side.tables c.in-Remote.oid c.in-Remote.face c.is_own-in-Remote.result (ref_of c.args.reference.now) (c.is_own-in-Remote.ensures ∙ ap (is_own (setting_of c.args.setting.now)) (c.as_bytes-in-Remote.ensures.value ∙ c.as_str-in-Remote.ensures)) (ap ref_of c.in-Remote.is)
    ∙ ap (λ b. not b && holds_pair c.args.root c.in-Remote.oid c.in-Remote.face c.args.self.now.side.tables) c.if-not-is_own.true)

pub returns-else-not-is_own : goal.returns-else-not-is_own
returns-else-not-is_own c =
    ap not c.if-not-is_own.false
    ∙ sym
    (peer_given (setting_of c.args.setting.now) c.args.root c.args.self.now.side.tables c.in-Remote.oid c.in-Remote.face c.is_own-in-Remote.result (ref_of c.args.reference.now) (c.is_own-in-Remote.ensures ∙ ap (is_own (setting_of c.args.setting.now)) (c.as_bytes-in-Remote.ensures.value ∙ c.as_str-in-Remote.ensures)) (ap ref_of c.in-Remote.is)
    ∙ ap (λ b. not b && holds_pair c.args.root c.in-Remote.oid c.in-Remote.face c.args.self.now.side.tables) c.if-not-is_own.false)
