use Rattle.idl_repeated_names.proofs.ChainLemmas.{chain_turned}
use Rattle.idl_repeated_names.proofs.chain.chain_of.Goals as goal

pub returns : goal.returns
returns c =
    chain_turned c.args.registry.now c.args.name.now c.new-chain.result.items c.push_chain.new.chain.items c.reverse.new.self.items c.new-chain.ensures.items c.in_ok-push_chain.ensures c.reverse.ensures.items
