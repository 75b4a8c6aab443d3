use Rattle.std.proofs.Common.{sym, ◌∙◌}
use Rattle.std.proofs.lemmas.Result.{on_ok_weaker}
use Rattle.urp_wire.proofs.Names.{simple_is_written, kind_is_written, front_is_name}
use Rattle.urp_wire.proofs.kind.write_kind.Goals as goal

pub returns-then-is_simple-clause-bytes : goal.returns-then-is_simple-clause-bytes
returns-then-is_simple-clause-bytes c =
    on_ok_weaker _ (simple_is_written _ _ _ _ _ (sym c.is_simple.ensures ∙ c.if-is_simple.true) c.class_byte-class.ensures.same) c.put_byte.ensures

pub returns-then-not-is_sequence-clause-bytes : goal.returns-then-not-is_sequence-clause-bytes
returns-then-not-is_sequence-clause-bytes c =
    let name = c.as_bytes.ensures.value ∙ c.front.ensures ∙ front_is_name _ (sym c.is_sequence.ensures ∙ c.if-not-is_sequence.true) in
    on_ok_weaker _ (kind_is_written _ _ _ _ _ _ (sym c.is_simple.ensures ∙ c.if-is_simple.false) c.class_byte-class.ensures.same name) c.put_named.ensures.bytes

pub returns-clause-bytes : goal.returns-clause-bytes
returns-clause-bytes c =
    let named = rw c.new-name.ensures.items at c.in_ok-push_name.ensures in
    on_ok_weaker _ (kind_is_written _ _ _ _ _ _ (sym c.is_simple.ensures ∙ c.if-is_simple.false) c.class_byte-class.ensures.same (c.deref.ensures.value ∙ named))
    c.put_named-written.ensures.bytes
