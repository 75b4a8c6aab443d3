use Rattle.std.proofs.Common.{◌∙◌, ◌/◌, ap, sym, arith}
use Rattle.birth_index.specs.Bits.{has}
use Rattle.birth_index.proofs.BitLaws.{has-bits_of, length-bits_of}
use Rattle.birth_index.proofs.LevelLaws.{over_room, over_more}
use Rattle.birth_index.proofs.birth_index.BirthIndex.make_room.Goals as goal

pub invariant_of-self-in_err-make_room-2 : goal.invariant_of-self-in_err-make_room-2
invariant_of-self-in_err-make_room-2 c =
    let s = c.self.inside in
    let word = c.args.birth / 64 in
    let words = c.make_room-2 in
    let groups = c.make_room in
    record {
      over_births = over_room word (omega (arith, c.ranges.birth.fits)) s.births.items s.words.items words.new.words.items c.self.invariant.over_births words.ensures.same words.ensures.more words.ensures.most;
      over_words =
          over_more (word / 64) (omega (arith, c.ranges.birth.fits)) s.words.items s.groups.items groups.new.words.items c.self.invariant.over_words groups.ensures.same groups.ensures.more groups.ensures.most
          words.new.words.items words.ensures.same words.ensures.most c.in_ok-make_room.ensures.room;
    }

pub invariant_of-self-in_err-make_room-3 : goal.invariant_of-self-in_err-make_room-3
invariant_of-self-in_err-make_room-3 c =
    let s = c.self.inside in
    let word = c.args.birth / 64 in
    let births = c.make_room-3 in
    let words = c.make_room-2 in
    let groups = c.make_room in
    record {
      over_births =
          over_more word (omega (arith, c.ranges.birth.fits)) s.births.items s.words.items words.new.words.items c.self.invariant.over_births words.ensures.same words.ensures.more words.ensures.most
          births.new.words.items births.ensures.same births.ensures.most c.in_ok-make_room-2.ensures.room;
      over_words =
          over_more (word / 64) (omega (arith, c.ranges.birth.fits)) s.words.items s.groups.items groups.new.words.items c.self.invariant.over_words groups.ensures.same groups.ensures.more groups.ensures.most
          words.new.words.items words.ensures.same words.ensures.most c.in_ok-make_room.ensures.room;
    }

pub invariant_of-self-2 : goal.invariant_of-self-2
invariant_of-self-2 c =
    let s = c.self.inside in
    let word = c.args.birth / 64 in
    let births = c.make_room-3 in
    let words = c.make_room-2 in
    let groups = c.make_room in
    record {
      over_births =
          over_more word (omega (arith, c.ranges.birth.fits)) s.births.items s.words.items words.new.words.items c.self.invariant.over_births words.ensures.same words.ensures.more words.ensures.most
          births.new.words.items births.ensures.same births.ensures.most c.in_ok-make_room-2.ensures.room;
      over_words =
          over_more (word / 64) (omega (arith, c.ranges.birth.fits)) s.words.items s.groups.items groups.new.words.items c.self.invariant.over_words groups.ensures.same groups.ensures.more groups.ensures.most
          words.new.words.items words.ensures.same words.ensures.most c.in_ok-make_room.ensures.room;
    }

pub returns-clause-room : goal.returns-clause-room
returns-clause-room c =
    let long = length-bits_of c.make_room-3.new.words.items in
    let within = c.in_ok-make_room-3.ensures.room in
    omega (arith, long, within)

pub returns-clause-same : goal.returns-clause-same
returns-clause-same c n =
    has-bits_of c.make_room-3.new.words.items n ∙ c.make_room-3.ensures.same n ∙ sym (has-bits_of c.self.inside.births.items n) ∙ ap (λ m. has m n) c.self.view_is
