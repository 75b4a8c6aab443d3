use Rattle.std.proofs.Common.{sym, ◌∙◌}
use Rattle.bridge_setting.specs.Settings.{setting_of}
use Rattle.uno_entities.specs.TypeNames.{kind_of}
use Rattle.bridge_tables.proofs.AnsweringLemmas.{ok_as, answer_no_face, answer_unsupported, answer_supported}
use Rattle.bridge_tables.proofs.tables.Tables.object_answer.Goals as goal

pub returns-in_default : goal.returns-in_default
returns-in_default c =
    ok_as c.void_any.result (sym (answer_no_face (setting_of c.args.setting.now) c.args.oid.now (kind_of c.args.wanted.now) c.args.self.now.tables.objects (sym c.in_default.ensures))) c.void_any.ensures

pub returns-then-not-object_supports : goal.returns-then-not-object_supports
returns-then-not-object_supports c =
    ok_as c.void_any-then-not-object_supports.result
    (sym
    (answer_unsupported (setting_of c.args.setting.now) c.args.oid.now c.in-Some.face.now (kind_of c.args.wanted.now) c.args.self.now.tables.objects (sym c.in-Some.ensures)
    (sym c.object_supports.ensures ∙ c.if-not-object_supports.true)))
    c.void_any-then-not-object_supports.ensures

pub returns : goal.returns
returns c =
    ok_as c.any_of_local.result
    (sym
    (answer_supported (setting_of c.args.setting.now) c.args.oid.now c.in-Some.face.now (kind_of c.args.wanted.now) c.args.self.now.tables.objects (sym c.in-Some.ensures)
    (sym c.object_supports.ensures ∙ c.if-not-object_supports.false)))
    c.any_of_local.ensures
