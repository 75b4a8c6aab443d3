use Rattle.std.proofs.Common.{◌≡◌, ◌≤◌, ◌∙◌, Some, ap, length, map, slice_get, subst, sym, arith}
use Rattle.idl_check.specs.Meant.{telling_of}
use Rattle.idl_check.proofs.ToldLemmas.{all_told, none_told, one_more_told}
use Rattle.idl_meant.specs.Resolving.{all_in}
use Rattle.idl_names.specs.declared.resolving.Resolved.{Resolved}
use Rattle.idl_check.proofs.files.declarations_meant.Goals as goal

pub loop-number-init : goal.loop-number-init
loop-number-init c = none_told (all_in c.args.resolved.now) c.new-all.result.items c.new-all.ensures.items

pub new-requires : goal.new-requires
new-requires c =
    let long = ap length c.as_slice-declared.ensures.value in
    let same = ap (λ (r : Resolved). length r.declared.items) c.requires in
    omega (arith, c.loop-number-test.true, long, same)

pub loop-number-preserved : goal.loop-number-preserved
loop-number-preserved c =
    one_more_told c.args.resolved.now c.new.result.meaning.now.resolved.now c.loop-number.number c.new.result.declared (map telling_of c.loop-number.all.items) (map telling_of c.add_entity.new.all.items)
    (c.new.ensures.meaning ∙ c.requires)
    (subst (λ (r : Resolved). slice_get r.declared.items c.loop-number.number ≡ Some c.new.result.declared) (sym c.new.ensures.meaning) c.new.ensures.declared) c.loop-number.invariant
    c.in_ok-add_entity.ensures

pub returns : goal.returns
returns c =
    let long = ap length c.as_slice-declared.ensures.value in
    let end : length c.args.resolved.now.declared.items ≤ c.loop-number.number = omega (arith, c.loop-number-test.false, long) in
    all_told c.args.resolved.now c.loop-number.number (map telling_of c.loop-number.all.items) end c.loop-number.invariant
