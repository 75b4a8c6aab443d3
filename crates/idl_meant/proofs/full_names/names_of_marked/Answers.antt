use Rattle.std.proofs.Common.{◌∙◌, ◌+◌, ap, arith, length}
use Rattle.idl_meant.proofs.FullNameLemmas.{full_name_more, no_full_name, one_longer}
use Rattle.idl_meant.proofs.full_names.names_of_marked.Goals as goal

pub loop-number-init : goal.loop-number-init
loop-number-init c = (no_full_name c.args.paths.now _ c.new-names.ensures.items, ap length c.new-names.ensures.items)

pub name_if-requires : goal.name_if-requires
name_if-requires c =
    let many = c.in-Ok.ensures.1 ∙ c.len.ensures.count in
    omega (arith, many, c.loop-number-test.true)

pub loop-number-preserved : goal.loop-number-preserved
loop-number-preserved c = (
  full_name_more c.args.paths.now c.loop-number.names.items _ c.in_ok-name.name c.loop-number.number c.loop-number.invariant.1 c.in_ok-push.ensures.items c.in_ok-name.ensures c.loop-number.invariant.0,
  one_longer c.loop-number.names.items _ c.in_ok-name.name c.in_ok-push.ensures.items ∙ ap (λ n. n + 1) c.loop-number.invariant.1,
)

pub returns : goal.returns
returns c = c.loop-number.invariant.0
