use Rattle.std.proofs.Common.{◌≡◌, ◌∙◌, sym, subst, true, flat_map}
use Rattle.uno_model.specs.Values.{refs}
use Rattle.uno_values.specs.References.{ref_of}
use Rattle.uno_values.specs.Values.{plain_of}
use Rattle.behaviour.specs.Roots.{run_of}
use Rattle.bridge_endpoint.specs.Journals.{side_at}
use Rattle.bridge_core.specs.Letting.{is_held}
use Rattle.bridge_core.proofs.AskLemmas.{none_loose}
use Rattle.bridge_core.proofs.RunAtLemmas.{gone_with}
use Rattle.bridge_core.proofs.stepping.let_go.Goals as goal

pub unreachable-requires : goal.unreachable-requires
unreachable-requires c =
    none_loose c.args.run.now.letting.items (flat_map (λ x. refs (plain_of x)) c.args.run.now.loose.items) c.requires.some c.in_default.ensures.next

pub drop_held-requires : goal.drop_held-requires
drop_held-requires c =
    subst (λ root. is_held root (side_at c.args.end.now).tables (ref_of c.in-Some.reference) ≡ true) (sym c.take_loose.ensures.root)
    (c.requires.held (ref_of c.in-Some.reference) (sym c.in-Some.ensures.next))

pub returns : goal.returns
returns c = λ y first.
    gone_with c.args.end.now c.drop_held.new.end (run_of c.args.run.now) (run_of c.take_loose.new.run) c.take_loose.new.run.root (ref_of c.in-Some.reference) y (c.in-Some.ensures.next ∙ first)
    c.take_loose.ensures.root c.take_loose.ensures.rest c.drop_held.ensures
