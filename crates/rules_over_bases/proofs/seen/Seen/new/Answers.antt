use Rattle.rules_over_bases.proofs.SeenLemmas.{none_seen}
use Rattle.rules_over_bases.proofs.seen.Seen.new.Goals as goal

pub returns : goal.returns
returns c =
    none_seen (record { getters = c.new.result; setters = c.new-2.result; others = c.new-3.result; entries = c.new-4.result }) c.new.ensures.empty c.new-2.ensures.empty
    c.new-3.ensures.empty c.new-4.ensures.items
