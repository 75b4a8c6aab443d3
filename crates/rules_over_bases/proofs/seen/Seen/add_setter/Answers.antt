use Rattle.std.proofs.Common.{refl}
use Rattle.rules_over_bases.proofs.SeenLemmas.{sees_setter, repeats_setter}
use Rattle.rules_over_bases.proofs.seen.Seen.add_setter.Goals as goal

pub returns-then-not-branch : goal.returns-then-not-branch
returns-then-not-branch c = repeats_setter c.args.self.now _ c.args.attribute _ c.in_ok-insert.ensures.added c.in_ok-insert.ensures.unchanged refl refl refl c.if-not-branch.true

pub returns : goal.returns
returns c =
    sees_setter c.args.self.now _ c.args.attribute _ c.in_ok-insert.ensures.added c.in_ok-insert.ensures.updates refl refl c.in_ok-push.ensures.items c.if-not-branch.false
