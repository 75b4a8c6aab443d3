use Rattle.registry_reading.proofs.KindLemmas.{simple_read, name_read}
use Rattle.registry_reading.proofs.kind.word_kind.Goals as goal

pub returns-in-Some : goal.returns-in-Some
returns-in-Some c = simple_read _ _ _ c.in-Some.ensures

pub returns : goal.returns
returns c =
    name_read _ _ _ _ _ _ _ c.in_default.ensures c.is_name.ensures c.if-not-is_name.false c.named-head.ensures.head c.of_class.ensures c.in_ok-name.ensures c.class_named.ensures
