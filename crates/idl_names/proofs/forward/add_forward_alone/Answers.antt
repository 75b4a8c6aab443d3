use Rattle.std.proofs.Common.{[], length, ◌≤◌, map, subst, arith}
use Rattle.std.proofs.lemmas.List.{take_all}
use Rattle.idl_meaning_model.specs.FromFiles.{has_identifiers}
use Rattle.idl_names.specs.Alone.{alone_among}
use Rattle.idl_names.specs.Collected.{HasNumbers, declared_of}
use Rattle.idl_names.specs.Faults.{AddsFaults}
use Rattle.idl_names.proofs.AloneLemmas.{adds_nothing, alone_both, alone_none, next_faults, one_true}
use Rattle.idl_names.proofs.MarkLemmas.{at_index}
use Rattle.idl_names.proofs.forward.add_forward_alone.Goals as goal

pub loop-declared-init : goal.loop-declared-init
loop-declared-init c = λ paths ds answers numbers right. adds_nothing c.args.faults.now.items (alone_among ds []) (alone_none ds)

pub loop-declared-preserved : goal.loop-declared-preserved
loop-declared-preserved c = λ paths ds answers numbers right.
    let i = c.loop-declared.declared-index in
    let d = c.declared-item.result in
    next_faults (alone_among ds) (alone_both ds) paths c.args.all.now i d c.args.faults.now.items c.loop-declared.faults.items c.add_alone.new.faults.items c.loop-declared-test.true c.declared-item.is
    (c.loop-declared.invariant paths ds answers numbers right)
    (c.in_ok-add_alone.ensures paths ds answers (at_index (HasNumbers paths) c.args.all.now i d c.loop-declared-test.true c.declared-item.is numbers)
    (one_true has_identifiers (declared_of paths) c.args.all.now i d c.loop-declared-test.true c.declared-item.is right))

pub returns : goal.returns
returns c = λ paths ds answers numbers right.
    let end : length c.args.all.now ≤ c.loop-declared.declared-index = omega (arith, c.loop-declared-test.false) in
    subst (λ xs. AddsFaults c.args.faults.now.items (alone_among ds (map (declared_of paths) xs)) c.loop-declared.faults.items) (take_all c.loop-declared.declared-index c.args.all.now end)
    (c.loop-declared.invariant paths ds answers numbers right)
