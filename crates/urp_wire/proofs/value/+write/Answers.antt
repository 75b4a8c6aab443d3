use Rattle.std.proofs.Common.{refl, append_assoc}
use Rattle.uno_values.proofs.Parts.{count_of}
use Rattle.urp_wire.proofs.value.+write.Goals as goal

pub put_list-returns-clause-bytes : goal.put_list-returns-clause-bytes
put_list-returns-clause-bytes t c = rw (c.in_ok-put_all.ensures.bytes, c.in_ok-put_length.ensures, append_assoc, count_of c.args.elements.now) refl
