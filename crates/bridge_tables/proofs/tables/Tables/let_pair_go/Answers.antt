use Rattle.std.proofs.Common.{ap, sym, ◌∙◌, map, is_some}
use Rattle.uno_model.specs.Values.{peer}
use Rattle.bridge_model.specs.References.{lets_go}
use Rattle.bridge_setting.specs.Settings.{setting_of}
use Rattle.bridge_tables.specs.EndTables.{on_tables}
use Rattle.bridge_tables.specs.Roots.{root_of}
use Rattle.bridge_tables.proofs.LettingLemmas.{seen_quietly, seen_released}
use Rattle.bridge_tables.proofs.tables.Tables.let_pair_go.Goals as goal

pub returns-in-Some : goal.returns-in-Some
returns-in-Some c =
    seen_released (setting_of c.args.setting.now) c.args.holder c.args.oid.now c.args.face.now c.self.inside.objects c.self.inside.unsaid c.self.inside.stands (map root_of c.self.inside.roots.items) c.self.inside.frames_made
    (ap (λ e. e.prefix) c.self.view_is ∙ c.requires.of.prefix) (ap (λ e. e.release_tid) c.self.view_is ∙ c.requires.of.release) c.take_out.new.objects c.release.new.self c.in-Some.release.oid c.in-Some.release.face
    c.in-Some.ensures.lost c.release.ensures c.in-Some.ensures.pair (sym (ap is_some c.in-Some.is) ∙ c.take_out.ensures.last)
    ∙ ap (on_tables (lets_go (setting_of c.args.setting.now) c.args.holder (peer c.args.oid.now c.args.face.now))) c.self.view_is

pub returns-in_default : goal.returns-in_default
returns-in_default c =
    seen_quietly (setting_of c.args.setting.now) c.args.holder c.args.oid.now c.args.face.now c.self.inside.objects c.self.inside.unsaid c.self.inside.stands (map root_of c.self.inside.roots.items) c.self.inside.frames_made
    (ap (λ e. e.prefix) c.self.view_is ∙ c.requires.of.prefix) (ap (λ e. e.release_tid) c.self.view_is ∙ c.requires.of.release) c.take_out.new.objects
    c.in_default.ensures.lost (sym (ap is_some c.in_default.is) ∙ c.take_out.ensures.last)
    ∙ ap (on_tables (lets_go (setting_of c.args.setting.now) c.args.holder (peer c.args.oid.now c.args.face.now))) c.self.view_is
