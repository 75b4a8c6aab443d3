use Rattle.std.proofs.Common.{sym, ap, ◌∙◌, rules}
use Rattle.std.specs.List.{list_all}
use Rattle.std.proofs.lemmas.Result.{IfOk-weaker}
use Rattle.uno_entities.specs.Entities.{entity_of, entities_of}
use Rattle.entity_rules.specs.Rules.{keeps_rules}
use Rattle.entity_rules.proofs.AllLemmas.{all_mapped}
use Rattle.entity_rules.proofs.SoundLemmas.{sound_keeps, last_rule}
use Rattle.entity_rules.proofs.sound.is_sound.Goals as goal

pub returns-then-not-all_keep_rules : goal.returns-then-not-all_keep_rules
returns-then-not-all_keep_rules c =
    let reg = entities_of c.args.entities.now in
    let kept = all_mapped (keeps_rules reg) entity_of c.args.entities.now ∙ sym c.all_keep_rules.ensures ∙ c.if-not-all_keep_rules.true in
    (search rules, λ sound. sym kept ∙ sound_keeps reg sound)

pub returns : goal.returns
returns c =
    let reg = entities_of c.args.entities.now in
    let kept = all_mapped (keeps_rules reg) entity_of c.args.entities.now ∙ sym c.all_keep_rules.ensures ∙ c.if-not-all_keep_rules.false in
    IfOk-weaker c.all_have_few_functions.result _ _
    (λ few. last_rule reg few kept (sym c.in_ok-all_items_differ.ensures ∙ c.if-not-branch.false)
    (sym c.all_have_members.ensures ∙ c.if-not-all_have_members.false) (c.in_ok-has_no_circles.ensures.0 c.if-not-branch-2.false))
    c.all_have_few_functions.ensures
