use Rattle.std.proofs.Common.{◌≡◌, subst, vec_len, length, arith}
use Rattle.std.proofs.lemmas.Result.{err_from_is_err_and}
use Rattle.std.specs.Io.KnownBytes.{Appends}
use Rattle.uno_io.specs.Fronts.{AppendsFront}
use Rattle.answering.proofs.FirstLaws.{drains_and_fails, drains_and_takes, some_bytes}
use Rattle.answering.proofs.doing.drain_first.Goals as goal

pub returns-in_err-write_all-clause-drains : goal.returns-in_err-write_all-clause-drains
returns-in_err-write_all-clause-drains g c =
    let p = err_from_is_err_and c.from_residual-in_err-write_all.result c.from_residual-in_err-write_all.ensures.1 in
    let long = c.in_ok-bytes.bytes.ok.0 in
    let same : vec_len c.in_ok-bytes.bytes ≡ length c.in_ok-bytes.bytes.items = omega (arith, long) in
    let front = subst (AppendsFront (g.O.Sink.taken c.args.output.now) (g.O.Sink.taken c.write_all.new.sink)) c.as_slice.ensures.value c.in_err-write_all.ensures.stopped in
    rw (p.1, p.2) (drains_and_fails c.args.end.now c.drain.new.self c.in_ok-bytes.bytes.items _ _ c.in_ok-bytes.ensures.bytes c.in_ok-bytes.ensures.entered
    (some_bytes c.in_ok-bytes.bytes.items (vec_len c.in_ok-bytes.bytes) c.is_empty.result same c.is_empty.ensures c.if-is_empty.false) front)

pub returns-clause-drains : goal.returns-clause-drains
returns-clause-drains g c =
    let long = c.in_ok-bytes.bytes.ok.0 in
    let same : vec_len c.in_ok-bytes.bytes ≡ length c.in_ok-bytes.bytes.items = omega (arith, long) in
    let taken = subst (Appends (g.O.Sink.taken c.args.output.now) (g.O.Sink.taken c.write_all.new.sink)) c.as_slice.ensures.value c.in_ok-write_all.ensures.written in
    drains_and_takes c.args.end.now c.drain.new.self c.in_ok-bytes.bytes.items _ _ c.in_ok-bytes.ensures.bytes c.in_ok-bytes.ensures.entered
    (some_bytes c.in_ok-bytes.bytes.items (vec_len c.in_ok-bytes.bytes) c.is_empty.result same c.is_empty.ensures c.if-is_empty.false) taken
