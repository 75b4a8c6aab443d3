use Rattle.std.proofs.Common.{◌≡◌, ◌∙◌, sym, ap, take, drop, length, arith}
use Rattle.std.specs.List.{list_all}
use Rattle.idl_lex.proofs.RunLemmas.{no_run, run_on, run_ends, run_is_all}
use Rattle.idl_lex.specs.Runs.{test_of}
use Rattle.idl_lex.proofs.run.split_run.Goals as goal

pub loop-length-init : goal.loop-length-init
loop-length-init c = no_run (test_of c.args.run) c.args.bytes.now

pub loop-length-preserved : goal.loop-length-preserved
loop-length-preserved c = run_on (test_of c.args.run) c.args.bytes.now c.loop-length.length c.loop-length.invariant (omega arith) (sym c.goes_on.ensures ∙ c.if-not-goes_on.false)

pub returns-then-not-goes_on : goal.returns-then-not-goes_on
returns-then-not-goes_on c =
    let run = run_ends (test_of c.args.run) c.args.bytes.now c.loop-length.length c.loop-length.invariant (omega arith) (sym c.goes_on.ensures ∙ c.if-not-goes_on.true) in
    record { front = c.split_at.ensures.front ∙ run.front; rest = c.split_at.ensures.back ∙ run.rest; all = ap (list_all (test_of c.args.run)) c.split_at.ensures.front ∙ run.all }

pub returns : goal.returns
returns c =
    let run = run_is_all (test_of c.args.run) c.args.bytes.now c.loop-length.length c.loop-length.invariant (omega arith) in
    let whole : length c.args.bytes.now ≡ c.loop-length.length = omega arith in
    record {
      front = c.split_at-2.ensures.front ∙ ap (λ n. take n c.args.bytes.now) whole ∙ run.front;
      rest = c.split_at-2.ensures.back ∙ ap (λ n. drop n c.args.bytes.now) whole ∙ run.rest;
      all = ap (list_all (test_of c.args.run)) (c.split_at-2.ensures.front ∙ ap (λ n. take n c.args.bytes.now) whole) ∙ run.all;
    }
