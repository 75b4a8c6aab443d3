use Rattle.std.proofs.Common.{[], length, ◌≤◌, map, subst, arith}
use Rattle.std.proofs.lemmas.List.{take_all}
use Rattle.idl_meaning_model.specs.FromFiles.{has_identifiers}
use Rattle.idl_names.specs.Alone.{twice_among}
use Rattle.idl_names.specs.Collected.{HasNumbers, declared_of}
use Rattle.idl_names.specs.Faults.{AddsFaults}
use Rattle.idl_names.proofs.AloneLemmas.{adds_nothing, twice_both, twice_none, next_faults, one_true}
use Rattle.idl_names.proofs.MarkLemmas.{at_index}
use Rattle.idl_names.proofs.twice.add_declared_twice.Goals as goal

pub loop-declared-init : goal.loop-declared-init
loop-declared-init c = λ paths ds answers leasts numbers right. adds_nothing c.args.faults.now.items (twice_among ds []) (twice_none ds)

pub loop-declared-preserved : goal.loop-declared-preserved
loop-declared-preserved c = λ paths ds answers leasts numbers right.
    let i = c.loop-declared.declared-index in
    let d = c.declared-item.result in
    next_faults (twice_among ds) (twice_both ds) paths c.args.all.now i d c.args.faults.now.items c.loop-declared.faults.items c.add_twice.new.faults.items c.loop-declared-test.true c.declared-item.is
    (c.loop-declared.invariant paths ds answers leasts numbers right)
    (c.in_ok-add_twice.ensures paths ds answers leasts (at_index (HasNumbers paths) c.args.all.now i d c.loop-declared-test.true c.declared-item.is numbers)
    (one_true has_identifiers (declared_of paths) c.args.all.now i d c.loop-declared-test.true c.declared-item.is right))

pub returns : goal.returns
returns c = λ paths ds answers leasts numbers right.
    let end : length c.args.all.now ≤ c.loop-declared.declared-index = omega (arith, c.loop-declared-test.false) in
    subst (λ xs. AddsFaults c.args.faults.now.items (twice_among ds (map (declared_of paths) xs)) c.loop-declared.faults.items) (take_all c.loop-declared.declared-index c.args.all.now end)
    (c.loop-declared.invariant paths ds answers leasts numbers right)
