use Rattle.std.proofs.Common.{sym, ap, ◌∙◌, option_map}
use Rattle.plan_lines.specs.Reads.{one, both}
use Rattle.plan_lines.proofs.BeginLemmas.{no_type, not_closed, cast_by}
use Rattle.plan_lines.proofs.terms.Terms.begin_cast.Goals as goal

pub returns-in_default : goal.returns-in_default
returns-in_default c =
    no_type c.args.self.now.words.now c.args.stack.now.items c.args.pieces.now.items c.requires c.args.bytes.now (sym c.type_at.ensures ∙ ap (option_map both) c.in_default.is)

pub returns-in_default-behind : goal.returns-in_default-behind
returns-in_default-behind c =
    not_closed c.args.self.now.words.now c.args.stack.now.items c.args.pieces.now.items c.requires c.args.bytes.now c.in-Some.kind.now c.in-Some.rest.now
    (sym c.in-Some.ensures) (sym c.behind.ensures ∙ ap (option_map one) c.in_default-behind.is)

pub returns : goal.returns
returns c =
    cast_by c.args.self.now.words.now c.args.stack.now.items c.args.pieces.now.items c.requires c.args.bytes.now c.in-Some.kind.now c.in-Some.rest.now c.in-Some-behind.rest.now _ _ _
    (sym c.in-Some.ensures) (sym c.in-Some-behind.ensures) c.begin_value.ensures
