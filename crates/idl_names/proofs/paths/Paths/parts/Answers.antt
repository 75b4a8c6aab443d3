use Rattle.std.proofs.Common.{◌≡◌, [], get_or, slice_get, subst, Some, arith}
use Rattle.idl_names.specs.Paths.{inside_of}
use Rattle.idl_names.proofs.PathLaws.{path_first}
use Rattle.idl_names.proofs.WayLaws.{one_pushed, all_pushed}
use Rattle.idl_names.proofs.paths.Paths.parts.Goals as goal

pub loop-outer-preserved : goal.loop-outer-preserved
loop-outer-preserved c =
    let before = c.in-Some.ensures.some.before in
    let low = c.loop-outer.invariant.low in
    record {
      low = omega (arith, before, low);
      so_far =
          one_pushed c.args.self.now c.loop-outer.rest c.in-Some.outer c.in-Some.name c.loop-outer.parts.items c.push.new.self.items (get_or c.args.self.now c.args.number [])
          c.in-Some.ensures.some c.in_ok-push.ensures.items c.loop-outer.invariant.so_far;
    }

pub returns : goal.returns
returns c =
    all_pushed c.args.self.now c.loop-outer.rest c.loop-outer.parts.items c.reverse.new.self.items (get_or c.args.self.now c.args.number []) c.in_default.ensures.none
    (subst (λ ps. slice_get ps 0 ≡ Some []) c.self.view_is (path_first (inside_of c.self.inside.inside.items))) c.reverse.ensures.items c.loop-outer.invariant.so_far
