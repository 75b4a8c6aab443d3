use Rattle.std.proofs.Common.{◌∷◌}
use Rattle.plan_lines.specs.Opened.{open_of, opened}
use Rattle.plan_lines.specs.Pieces.{pieces_of}
use Rattle.plan_lines.proofs.LoopLemmas.{last_popped, none_popped, ready_popped, from_popped}
use Rattle.plan_lines.proofs.terms.Terms.behind.Goals as goal

pub end-requires : goal.end-requires
end-requires c =
    ready_popped (opened c.args.stack.now.items) (open_of c.in-Some.last ∷ opened c.pop.new.self.items) (pieces_of c.args.pieces.now.items)
    (last_popped c.pop.new.self.items c.args.stack.now.items c.in-Some.last c.in-Some.ensures.items) c.requires.ready

pub unreachable-requires : goal.unreachable-requires
unreachable-requires c = none_popped c.args.stack.now.items c.args.stack.now.len c.args.stack.now.ok.0 c.in-None.ensures.variant.1 c.requires.some

pub returns : goal.returns
returns c =
    from_popped c.args.self.now.words.now c.args.stack.now.items c.args.pieces.now.items c.end.result c.end.new.stack.items c.end.new.pieces.items
    (open_of c.in-Some.last ∷ opened c.pop.new.self.items) c.args.rest.now
    (last_popped c.pop.new.self.items c.args.stack.now.items c.in-Some.last c.in-Some.ensures.items) c.end.ensures
