use Rattle.std.proofs.Common.{◌∙◌, true, string_bytes}
use Rattle.std.specs.BTreeSet.{contains_text}
use Rattle.std.proofs.lemmas.Map.Text.{btree_set_updates_text}
use Rattle.service_manager.proofs.NameLaws.{one_offered}
use Rattle.service_manager.proofs.names.names_of.Goals as goal

pub loop-service-preserved : goal.loop-service-preserved
loop-service-preserved c = λ q.
    btree_set_updates_text (string_bytes c.in_ok-from_str.field-0) c.loop-service.names c.insert.new.self true c.in_ok-insert.ensures.updates q
    ∙ one_offered q (string_bytes c.in_ok-from_str.field-0) (contains_text c.loop-service.names q) c.args.services.now c.loop-service.service-index c.service-item.result c.loop-service-test.true c.service-item.is
    (c.in_ok-from_str.ensures.ok ∙ c.as_str.ensures) (c.loop-service.invariant q)
