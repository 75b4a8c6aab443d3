use Rattle.std.proofs.Common.{refl, sym, subst, ◌∙◌, ◌+◌, ◌≤◌, length, arith}
use Rattle.bridge_laws.specs.Counting.{total}
use Rattle.bridge_model.specs.Feeding.{hears, heard_nothing}
use Rattle.bridge_laws.specs.Room.{message_brings}
use Rattle.bridge_setting.specs.Settings.{setting_of}
use Rattle.urp_model.specs.declared.reason.Reason.TheVariants.{LeftOver}
use Rattle.bridge_state.proofs.HearingLemmas.{HeardSoFar, becomes, broken_before, broken_off, end_stays, heard_break, heard_more, heard_none, heard_over, heard_rooted, heard_whole, names_more}
use Rattle.bridge_state.specs.Hearing.{HeardBreak, HeardMessage, HeardOne, used_by}
use Rattle.bridge_state.proofs.state.State.hear.Goals as goal

pub loop-turn-init : goal.loop-turn-init
loop-turn-init c =
    let g = setting_of c.args.setting.now in
    let b = c.args.block.now in
    let all = heard_none g b.count b.place (b.place + 8) b.body.items c.args.self.now.side c.args.trace.now.references in
    record {
      so_far = subst (λ rest. HeardSoFar g b.count b.place (b.place + 8) b.body.items c.args.self.now.side 0 (b.place + 8) rest c.args.self.now.side c.args.trace.now.references) (sym c.as_slice-rest.ensures.value) all;
      of = c.requires.of;
      stands = c.requires.stands;
      began = refl;
      rooted = λ rooted. rooted;
      back = λ rooted. refl;
      names = refl;
    }

pub returns-in-Broken-clause-heard : goal.returns-in-Broken-clause-heard
returns-in-Broken-clause-heard c =
    let g = setting_of c.args.setting.now in
    let b = c.args.block.now in
    let l = c.loop-turn in
    let one : HeardBreak g l.rest.now l.self.side l.trace.references c.in-Broken.why c.hear_one.new.self.side c.hear_one.new.trace.references =
    subst (λ h. HeardOne g l.rest.now l.self.side l.trace.references h c.hear_one.new.self.side c.hear_one.new.trace.references) c.in-Broken.is c.in_ok-used.ensures.heard in
    let ends = heard_break g b.count b.place (b.place + 8) b.body.items c.args.self.now.side l._turn l.place l.rest.now l.self.side l.trace.references c.in-Broken.why c.loop-turn-test.true l.invariant.so_far one.breaks in
    broken_off c.in-Broken.why l.place _ c.args.self.now c.hear_one.new.self (names_more c.args.self.now l.self c.hear_one.new.self l.invariant.names c.hear_one.ensures.names)
    (broken_before c.in-Broken.why l.place _ l.self.side c.hear_one.new.self.side one.kept ends.0)

pub returns-in-Broken-clause-references : goal.returns-in-Broken-clause-references
returns-in-Broken-clause-references c =
    let g = setting_of c.args.setting.now in
    let b = c.args.block.now in
    let l = c.loop-turn in
    let one : HeardBreak g l.rest.now l.self.side l.trace.references c.in-Broken.why c.hear_one.new.self.side c.hear_one.new.trace.references =
    subst (λ h. HeardOne g l.rest.now l.self.side l.trace.references h c.hear_one.new.self.side c.hear_one.new.trace.references) c.in-Broken.is c.in_ok-used.ensures.heard in
    let ends = heard_break g b.count b.place (b.place + 8) b.body.items c.args.self.now.side l._turn l.place l.rest.now l.self.side l.trace.references c.in-Broken.why c.loop-turn-test.true l.invariant.so_far one.breaks in
    subst (λ n. total message_brings (hears g b.count b.place (b.place + 8) b.body.items (heard_nothing c.args.self.now.side)).got ≤ n) (sym one.counted) ends.1

pub loop-turn-preserved : goal.loop-turn-preserved
loop-turn-preserved c =
    let g = setting_of c.args.setting.now in
    let b = c.args.block.now in
    let l = c.loop-turn in
    let after = c.hear_one.new.self in
    let one : HeardMessage g l.rest.now l.self.side l.trace.references c.in-Message.used after.side c.hear_one.new.trace.references =
    subst (λ h. HeardOne g l.rest.now l.self.side l.trace.references h after.side c.hear_one.new.trace.references) c.in-Message.is c.in_ok-used.ensures.heard in
    let within : c.in-Message.used ≤ length l.rest.now = subst (λ h. used_by h ≤ length l.rest.now) c.in-Message.is c.in_ok-used.ensures.within in
    let names = names_more c.args.self.now l.self after l.invariant.names c.hear_one.ensures.names in
    record {
      so_far =
          subst (λ rest. HeardSoFar g b.count b.place (b.place + 8) b.body.items c.args.self.now.side (l._turn + 1) (l.place + c.in-Message.used) rest after.side c.hear_one.new.trace.references) (sym c.split_at.ensures.back)
          (heard_more g b.count b.place (b.place + 8) b.body.items c.args.self.now.side l._turn l.place c.in-Message.used l.rest.now l.self.side after.side l.trace.references c.hear_one.new.trace.references one.message one.remembered
          c.loop-turn-test.true within l.invariant.so_far one.read one.fine (sym one.received) one.counted);
      of = end_stays g c.args.self.now after names c.requires.of;
      stands = c.in_ok-used.ensures.stands;
      began = c.hear_one.ensures.began ∙ l.invariant.began;
      rooted = λ rooted. heard_rooted g l.rest.now l.self.side after.side l.trace.references c.in-Message.used c.hear_one.new.trace.references c.requires.few one (l.invariant.rooted rooted);
      back = λ rooted. c.hear_one.ensures.back (l.invariant.rooted rooted) ∙ l.invariant.back rooted;
      names = names;
    }

pub returns-then-is_empty-clause-heard : goal.returns-then-is_empty-clause-heard
returns-then-is_empty-clause-heard c =
    let g = setting_of c.args.setting.now in
    let b = c.args.block.now in
    let l = c.loop-turn in
    let no = c.loop-turn-test.false in
    let ends = heard_whole g b.count b.place (b.place + 8) b.body.items c.args.self.now.side l._turn l.place l.rest.now l.self.side l.trace.references (omega (arith, no)) (sym c.is_empty.ensures ∙ c.if-is_empty.true) l.invariant.so_far in
    becomes _ c.args.self.now l.self l.invariant.names ends.0

pub returns-then-is_empty-clause-references : goal.returns-then-is_empty-clause-references
returns-then-is_empty-clause-references c =
    let g = setting_of c.args.setting.now in
    let b = c.args.block.now in
    let l = c.loop-turn in
    let no = c.loop-turn-test.false in
    (heard_whole g b.count b.place (b.place + 8) b.body.items c.args.self.now.side l._turn l.place l.rest.now l.self.side l.trace.references (omega (arith, no)) (sym c.is_empty.ensures ∙ c.if-is_empty.true) l.invariant.so_far).1

pub returns-clause-heard : goal.returns-clause-heard
returns-clause-heard c =
    let g = setting_of c.args.setting.now in
    let b = c.args.block.now in
    let l = c.loop-turn in
    let no = c.loop-turn-test.false in
    let ends = heard_over g b.count b.place (b.place + 8) b.body.items c.args.self.now.side l._turn l.place l.rest.now l.self.side l.trace.references (omega (arith, no)) (sym c.is_empty.ensures ∙ c.if-is_empty.false) l.invariant.so_far in
    broken_off LeftOver b.place _ c.args.self.now l.self l.invariant.names ends.0

pub returns-clause-references : goal.returns-clause-references
returns-clause-references c =
    let g = setting_of c.args.setting.now in
    let b = c.args.block.now in
    let l = c.loop-turn in
    let no = c.loop-turn-test.false in
    (heard_over g b.count b.place (b.place + 8) b.body.items c.args.self.now.side l._turn l.place l.rest.now l.self.side l.trace.references (omega (arith, no)) (sym c.is_empty.ensures ∙ c.if-is_empty.false) l.invariant.so_far).1
