use Rattle.std.proofs.Common.{◌-◌, length, refl, rules, arith}
use Rattle.idl_repeated_names.proofs.ChainLemmas.{chain_begins, chain_ends, chain_goes_on, chain_is_whole, many_levels}
use Rattle.idl_repeated_names.proofs.chain.push_chain.Goals as goal

pub loop-levels-init : goal.loop-levels-init
loop-levels-init c = (
  search rules,
  chain_begins c.args.registry.now (length c.entities-levels.result.now) c.args.name c.args.chain.now.items c.push.new.self.items
      (many_levels c.args.registry.now c.entities-levels.result.now c.entities-levels.ensures.all) c.in_ok-push.ensures.items,
)

pub returns-in_default : goal.returns-in_default
returns-in_default c =
    chain_ends c.args.registry.now c.loop-levels.levels c.loop-levels.last.now c.loop-levels.chain.items _ c.in_default.ensures c.loop-levels.invariant.1

pub loop-levels-preserved : goal.loop-levels-preserved
loop-levels-preserved c = (
  search rules,
  chain_goes_on c.args.registry.now c.loop-levels.levels (c.loop-levels.levels - 1) c.loop-levels.last c.in-Some.base c.loop-levels.chain.items c.push-in-loop-levels.new.self.items _
      (omega (arith, c.loop-levels-test.true)) refl c.in-Some.ensures c.in_ok-push-2.ensures.items c.loop-levels.invariant.1,
)

pub returns : goal.returns
returns c =
    chain_is_whole c.args.registry.now c.loop-levels.levels c.loop-levels.last.now c.loop-levels.chain.items _ (omega (arith, c.loop-levels-test.false)) c.loop-levels.invariant.1
