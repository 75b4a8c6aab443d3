use Rattle.std.proofs.Common.{Some, sym, ap, ◌∙◌}
use Rattle.std.specs.Str.{bytes_eq}
use Rattle.uno_io.proofs.Finding.{has_it, passes, none_has_it}
use Rattle.uno_io.proofs.mem_files.bytes_of.Goals as goal

pub returns-then-eq : goal.returns-then-eq
returns-then-eq c =
    ap Some c.as_slice.ensures.value
    ∙ has_it _ _ _ _ c.loop-file.invariant c.file-item.result c.loop-file-test.true c.file-item.is
    (ap (bytes_eq c.args.name.now) (sym c.as_str.ensures.value) ∙ sym c.eq.ensures ∙ c.if-eq.true)

pub loop-file-preserved : goal.loop-file-preserved
loop-file-preserved c =
    passes _ _ _ _ c.loop-file.invariant c.file-item.result c.loop-file-test.true c.file-item.is
    (ap (bytes_eq c.args.name.now) (sym c.as_str.ensures.value) ∙ sym c.eq.ensures ∙ c.if-eq.false)

pub returns : goal.returns
returns c = none_has_it _ _ _ _ c.loop-file.invariant c.loop-file-test.false
