use Rattle.std.proofs.Common.{ap}
use Rattle.term_pieces.specs.Opened.{elements, members, typed, left, right}
use Rattle.plan_lines.specs.Opened.{open_of}
use Rattle.plan_lines.proofs.EndLemmas.{ends_as, typed_end, left_end, right_end}
use Rattle.plan_lines.proofs.terms.Terms.end.Goals as goal

pub returns-in-Elements : goal.returns-in-Elements
returns-in-Elements c =
    ends_as c.args.self.now.words.now c.args.stack.now.items c.args.pieces.now.items c.args.bytes.now c.in_elements.result c.in_elements.new.stack.items c.in_elements.new.pieces.items
    (open_of c.args.last) (elements c.in-Elements.read) (ap open_of c.in-Elements.is) (λ _. c.in_elements.ensures) c.requires

pub returns-in-Members : goal.returns-in-Members
returns-in-Members c =
    ends_as c.args.self.now.words.now c.args.stack.now.items c.args.pieces.now.items c.args.bytes.now c.in_members.result c.in_members.new.stack.items c.in_members.new.pieces.items
    (open_of c.args.last) (members c.in-Members.read) (ap open_of c.in-Members.is) (λ _. c.in_members.ensures) c.requires

pub returns-in-Typed : goal.returns-in-Typed
returns-in-Typed c =
    ends_as c.args.self.now.words.now c.args.stack.now.items c.args.pieces.now.items c.args.bytes.now c.end_typed.result c.args.stack.now.items c.end_typed.new.pieces.items
    (open_of c.args.last) (typed c.in-Typed.kind.now) (ap open_of c.in-Typed.is)
    (λ ready.
    typed_end c.args.self.now.words.now c.args.stack.now.items c.args.pieces.now.items c.in-Typed.kind.now c.args.bytes.now c.end_typed.result c.end_typed.new.pieces.items
    ready c.end_typed.ensures.place c.end_typed.ensures.pieces)
    c.requires

pub returns-in-Left : goal.returns-in-Left
returns-in-Left c =
    ends_as c.args.self.now.words.now c.args.stack.now.items c.args.pieces.now.items c.args.bytes.now c.begin_right.result c.begin_right.new.stack.items c.args.pieces.now.items
    (open_of c.args.last) (left c.in-Left.operation) (ap open_of c.in-Left.is)
    (λ ready.
    left_end c.args.self.now.words.now c.args.stack.now.items c.args.pieces.now.items c.in-Left.operation c.args.bytes.now c.begin_right.result c.begin_right.new.stack.items
    ready c.begin_right.ensures.place c.begin_right.ensures.stack)
    c.requires

pub returns-in-Right : goal.returns-in-Right
returns-in-Right c =
    ends_as c.args.self.now.words.now c.args.stack.now.items c.args.pieces.now.items c.args.bytes.now c.end_operation.result c.args.stack.now.items c.end_operation.new.pieces.items
    (open_of c.args.last) (right c.in-Right.operation) (ap open_of c.in-Right.is)
    (λ ready.
    right_end c.args.self.now.words.now c.args.stack.now.items c.args.pieces.now.items c.in-Right.operation c.args.bytes.now c.end_operation.result c.end_operation.new.pieces.items
    ready c.end_operation.ensures.place c.end_operation.ensures.pieces)
    c.requires
