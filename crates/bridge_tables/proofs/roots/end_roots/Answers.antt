use Rattle.std.proofs.Common.{◌<◌, ◌≤◌, length, map, arith, ◌∙◌}
use Rattle.bridge_model.specs.Ends.{state_at_end}
use Rattle.bridge_tables.specs.Roots.{root_of}
use Rattle.bridge_tables.proofs.RootLemmas.{ends_next, ends_all, set_length, map_length}
use Rattle.bridge_tables.proofs.roots.end_roots.Goals as goal

pub loop-place-preserved : goal.loop-place-preserved
loop-place-preserved c =
    let less = c.loop-place-test.true in
    let end = c.len-place-end.ensures in
    let same = c.loop-place.invariant.1 in
    let long = c.args.roots.now.ok.0 in
    let within : c.loop-place.place < length c.loop-place.roots.items = omega (arith, less, end, same, long) in (
      ends_next root_of (state_at_end c.args.cause) c.loop-place.place c.loop-place.roots.items (map root_of c.args.roots.now.items) c.index_mut.result.now c.end_root.new.root within c.index_mut.ensures.value c.end_root.ensures
          c.loop-place.invariant.0,
      set_length c.loop-place.roots.items c.loop-place.place c.end_root.new.root ∙ c.loop-place.invariant.1,
    )

pub returns : goal.returns
returns c =
    let most = c.loop-place-test.false in
    let end = c.len-place-end.ensures in
    let long = c.args.roots.now.ok.0 in
    let mapped = map_length root_of c.args.roots.now.items in
    let past : length (map root_of c.args.roots.now.items) ≤ c.loop-place.place = omega (arith, most, end, long, mapped) in
    ends_all root_of (state_at_end c.args.cause) c.loop-place.place c.loop-place.roots.items (map root_of c.args.roots.now.items) past c.loop-place.invariant.0
