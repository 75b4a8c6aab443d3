use Rattle.std.proofs.Common.{◌≡◌, ◌∙◌, sym, ap, take, drop, length, arith}
use Rattle.std.specs.List.{list_all}
use Rattle.literal_reading.proofs.ScanLemmas.{no_run, run_on, run_ends, run_is_all}
use Rattle.plan_lines.specs.Classes.{test_of}
use Rattle.plan_lines.proofs.ClassLemmas.{run_is_ascii}
use Rattle.plan_lines.proofs.class.split.Goals as goal

pub loop-length-init : goal.loop-length-init
loop-length-init c = no_run (test_of c.args.class) c.args.bytes.now

pub loop-length-preserved : goal.loop-length-preserved
loop-length-preserved c = run_on (test_of c.args.class) c.args.bytes.now c.loop-length.length c.loop-length.invariant (omega arith) (sym c.is_in.ensures ∙ c.if-not-is_in.false)

pub returns-then-not-is_in : goal.returns-then-not-is_in
returns-then-not-is_in c =
    let run = run_ends (test_of c.args.class) c.args.bytes.now c.loop-length.length c.loop-length.invariant (omega arith) (sym c.is_in.ensures ∙ c.if-not-is_in.true) in
    record {
      front = c.split_at.ensures.front ∙ run.front;
      rest = c.split_at.ensures.back ∙ run.rest;
      ascii = run_is_ascii c.args.class _ (ap (list_all (test_of c.args.class)) c.split_at.ensures.front ∙ run.all);
    }

pub returns : goal.returns
returns c =
    let run = run_is_all (test_of c.args.class) c.args.bytes.now c.loop-length.length c.loop-length.invariant (omega arith) in
    let whole : length c.args.bytes.now ≡ c.loop-length.length = omega arith in
    let front = c.split_at-2.ensures.front ∙ ap (λ n. take n c.args.bytes.now) whole in
    record {
      front = front ∙ run.front;
      rest = c.split_at-2.ensures.back ∙ ap (λ n. drop n c.args.bytes.now) whole ∙ run.rest;
      ascii = run_is_ascii c.args.class _ (ap (list_all (test_of c.args.class)) front ∙ run.all);
    }
