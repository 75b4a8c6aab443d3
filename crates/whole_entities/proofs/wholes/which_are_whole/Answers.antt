use Rattle.std.proofs.Common.{◌∙◌, ap, arith, get_or, subst, sym, true}
use Rattle.uno_model.specs.Sound.{has_member}
use Rattle.uno_entities.specs.Counts.{KnownFew}
use Rattle.uno_entities.specs.Entities.{entities_of}
use Rattle.registry_text_model.specs.WholeWithinLimits.{is_whole_within_limits}
use Rattle.rules_over_bases.proofs.TrailLemmas.{written_back}
use Rattle.whole_entities.proofs.MarkLemmas.{all_marked, mark_keeps, marked_more}
use Rattle.whole_entities.proofs.wholes.which_are_whole.Goals as goal

pub is_whole_with-requires-clause-member : goal.is_whole_with-requires-clause-member
is_whole_with-requires-clause-member c =
    mark_keeps (has_member (entities_of c.args.entities.now)) c.args.entities.now c.loop-place.place c.is_marked-member.result true c.in_ok-members.members.items c.loop-place-test.true c.in_ok-members.ensures
    (c.is_marked-member.ensures ∙ ap (λ ms. get_or ms c.loop-place.place true) c.as_slice.ensures.value)

pub loop-place-preserved : goal.loop-place-preserved
loop-place-preserved c =
    let reg = entities_of c.args.entities.now in
    let long = c.loop-place.few.ok.0 in
    record {
      whole = marked_more (is_whole_within_limits reg) c.args.entities.now c.loop-place.place c.in_ok-right.right c.loop-place.whole.items c.push.new.self.items
          c.loop-place-test.true c.loop-place.invariant.whole c.in_ok-right.ensures.whole c.in_ok-push.ensures.items;
      few = subst (KnownFew reg)
          (sym (written_back c.loop-place.few.len c.is_whole_with.new.few c.loop-place.few.items
          (omega (arith, long, c.in_ok-right.ensures.few.one_each, c.loop-place.invariant.few.one_each)))) c.in_ok-right.ensures.few;
      clear = c.in_ok-right.ensures.clear;
    }

pub returns : goal.returns
returns c =
    all_marked (is_whole_within_limits (entities_of c.args.entities.now)) c.args.entities.now c.loop-place.place c.loop-place.whole.items (omega (arith, c.loop-place-test.false))
    c.loop-place.invariant.whole
