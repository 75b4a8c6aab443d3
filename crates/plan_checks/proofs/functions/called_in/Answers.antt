use Rattle.std.proofs.Common.{ℕ, List, Bor}
use Rattle.std.specs.Str.{bytes_eq}
use Rattle.uno_model.specs.Functions.{Function}
use Rattle.plan_checks.proofs.FindLemmas.{found_at, passed_at}
use Rattle.plan_checks.specs.Called.{called_of}
use Rattle.plan_checks.proofs.functions.called_in.Goals as goal

pub returns-in-Some : goal.returns-in-Some
returns-in-Some c =
    found_at (λ (f : Function). bytes_eq c.args.name.now f.name) (called_of c.args.registry.now) (λ (n : Bor (List ℕ)). n.now) c.args.faces.now c.loop-face.face-index _ _ _
    c.loop-face-test.true c.in-Some.ensures c.loop-face.invariant

pub loop-face-preserved : goal.loop-face-preserved
loop-face-preserved c =
    passed_at (λ (f : Function). bytes_eq c.args.name.now f.name) (called_of c.args.registry.now) (λ (n : Bor (List ℕ)). n.now) c.args.faces.now c.loop-face.face-index _ _
    c.loop-face-test.true c.in_default.ensures c.loop-face.invariant
