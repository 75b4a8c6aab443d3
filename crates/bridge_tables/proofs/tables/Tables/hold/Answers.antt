use Rattle.std.proofs.Common.{◌≡◌, true, false, ap, sym, ◌∙◌}
use Rattle.table_model.specs.Pair.{pair}
use Rattle.bridge_setting.specs.Settings.{setting_of}
use Rattle.bridge_tables.proofs.CoverSteps.{own_covers}
use Rattle.bridge_tables.proofs.LettingLemmas.{told_by_front}
use Rattle.bridge_tables.proofs.tables.Tables.hold.Goals.{then-not-self-via-then-not-self, then-not-self-via-else-not-self+then-is_own}
use Rattle.bridge_tables.proofs.tables.Tables.hold.Goals as goal

pub invariant_of-self-then-not-self : goal.invariant_of-self-then-not-self
invariant_of-self-then-not-self c = λ stands.
    elim c.then-not-self.branch [
      | then-not-self-via-then-not-self w ↦ let bad : false ≡ true = sym w.if-not-self.true ∙ stands in absurd (cc)
      | then-not-self-via-else-not-self+then-is_own w ↦
          own_covers c.args.holder (pair c.args.oid.now c.args.face.now) c.self.inside.objects c.hold.new.self c.self.inside.proxies c.self.inside.unsaid.kept (c.self.invariant stands) c.in_ok-hold.ensures.held
          (told_by_front (setting_of c.args.setting.now) c.self.inside.objects.prefix c.args.oid.now w.as_bytes.result.now w.is_own.result (ap (λ e. e.prefix) c.self.view_is ∙ c.requires.prefix)
          (w.as_bytes.ensures.value ∙ w.as_str.ensures) w.is_own.ensures ∙ w.if-is_own.true)
    ]

pub hold-requires-2-clause-theirs : goal.hold-requires-2-clause-theirs
hold-requires-2-clause-theirs c =
    told_by_front (setting_of c.args.setting.now) c.self.inside.objects.prefix c.args.oid.now c.as_bytes.result.now c.is_own.result (ap (λ e. e.prefix) c.self.view_is ∙ c.requires.prefix)
    (c.as_bytes.ensures.value ∙ c.as_str.ensures) c.is_own.ensures ∙ c.if-is_own.false
