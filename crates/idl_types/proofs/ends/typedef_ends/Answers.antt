use Rattle.std.proofs.Common.{◌∙◌, ap, arith, get_or, length, None, subst, sym}
use Rattle.typedef_chains.specs.Chains.{IsEnd, LeadWithin}
use Rattle.idl_types.specs.Bodies.{bodies_of, told_at}
use Rattle.idl_types.specs.Steps.{most}
use Rattle.idl_types.proofs.StepLemmas.{lead_within, long_steps}
use Rattle.idl_types.proofs.ends.typedef_ends.Goals as goal

pub chain_ends-requires-clause-count : goal.chain_ends-requires-clause-count
chain_ends-requires-clause-count c =
    let long = ap length (c.as_slice.ensures.value ∙ c.in_ok-steps.ensures) ∙ long_steps (told_at c.args.told.now) (bodies_of c.args.all.now) c.args.table.now c.args.count in
    let fits = c.ranges.count.fits in
    omega (arith, long, fits)

pub chain_ends-requires-clause-within : goal.chain_ends-requires-clause-within
chain_ends-requires-clause-within c =
    subst LeadWithin (sym (c.as_slice.ensures.value ∙ c.in_ok-steps.ensures))
    (lead_within (told_at c.args.told.now) (bodies_of c.args.all.now) c.args.table.now c.args.count (λ path n at. c.requires path.place n at))

pub returns-clause-count : goal.returns-clause-count
returns-clause-count c =
    c.in_ok-ends.ensures.count ∙ ap length (c.as_slice.ensures.value ∙ c.in_ok-steps.ensures) ∙ long_steps (told_at c.args.told.now) (bodies_of c.args.all.now) c.args.table.now c.args.count

pub returns-clause-each : goal.returns-clause-each
returns-clause-each c = λ n low.
    let seen = c.as_slice.ensures.value ∙ c.in_ok-steps.ensures in
    let long = ap length seen ∙ long_steps (told_at c.args.told.now) (bodies_of c.args.all.now) c.args.table.now c.args.count in
    subst (λ xs. IsEnd xs most n (get_or c.in_ok-ends.ends.items n None)) seen (c.in_ok-ends.ensures.each n (omega (arith, low, long)))
