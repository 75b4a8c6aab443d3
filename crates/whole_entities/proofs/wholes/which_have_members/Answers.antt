use Rattle.std.proofs.Common.{arith, subst, sym}
use Rattle.uno_model.specs.Sound.{has_member}
use Rattle.uno_entities.specs.Entities.{entities_of}
use Rattle.rules_over_bases.specs.Known.{KnownMembers}
use Rattle.rules_over_bases.proofs.TrailLemmas.{written_back}
use Rattle.whole_entities.specs.Bare.{KnownBare}
use Rattle.whole_entities.proofs.MarkLemmas.{all_marked, marked_more}
use Rattle.whole_entities.proofs.wholes.which_have_members.Goals as goal

pub loop-place-preserved : goal.loop-place-preserved
loop-place-preserved c =
    let reg = entities_of c.args.entities.now in
    let known_long = c.loop-place.known.ok.0 in
    let bare_long = c.loop-place.bare.ok.0 in
    record {
      marks = marked_more (has_member reg) c.args.entities.now c.loop-place.place c.has_member_or_none-member.result c.loop-place.marks.items c.push.new.self.items
          c.loop-place-test.true c.loop-place.invariant.marks c.has_member_or_none-member.ensures.member c.in_ok-push.ensures.items;
      known = subst (KnownMembers reg)
          (sym (written_back c.loop-place.known.len c.has_member_or_none-member.new.known c.loop-place.known.items
          (omega (arith, known_long, c.has_member_or_none-member.ensures.known.one_each, c.loop-place.invariant.known.one_each)))) c.has_member_or_none-member.ensures.known;
      bare = subst (KnownBare reg)
          (sym (written_back c.loop-place.bare.len c.has_member_or_none-member.new.bare c.loop-place.bare.items
          (omega (arith, bare_long, c.has_member_or_none-member.ensures.bare.one_each, c.loop-place.invariant.bare.one_each)))) c.has_member_or_none-member.ensures.bare;
    }

pub returns : goal.returns
returns c =
    all_marked (has_member (entities_of c.args.entities.now)) c.args.entities.now c.loop-place.place c.loop-place.marks.items (omega (arith, c.loop-place-test.false)) c.loop-place.invariant.marks
