use Rattle.std.proofs.Common.{◌/◌, true}
use Rattle.birth_index.proofs.LevelLaws.{over_set, members_turned, room_births, room_words, room_groups}
use Rattle.birth_index.proofs.birth_index.BirthIndex.set.Goals as goal

pub set_bit-requires : goal.set_bit-requires
set_bit-requires c =
    let s = c.self.inside in
    room_births s.births.items s.words.items s.groups.items c.self.invariant c.args.self.now c.args.birth c.self.view_is c.requires

pub set_bit-requires-2 : goal.set_bit-requires-2
set_bit-requires-2 c =
    let s = c.self.inside in
    room_words s.births.items s.words.items s.groups.items c.self.invariant c.args.self.now c.args.birth c.self.view_is c.requires

pub set_bit-requires-3 : goal.set_bit-requires-3
set_bit-requires-3 c =
    let s = c.self.inside in
    room_groups s.births.items s.words.items s.groups.items c.self.invariant c.args.self.now c.args.birth c.self.view_is c.requires

pub invariant_of-self : goal.invariant_of-self
invariant_of-self c =
    let s = c.self.inside in
    let births = c.set_bit.new.words.items in
    let words = c.set_bit-2.new.words.items in
    let groups = c.set_bit-3.new.words.items in
    record {
      over_births = over_set s.births.items s.words.items c.self.invariant.over_births c.args.birth births c.set_bit.ensures.len words c.set_bit-2.ensures.len c.set_bit.ensures.bits c.set_bit-2.ensures.bits;
      over_words = over_set s.words.items s.groups.items c.self.invariant.over_words (c.args.birth / 64) words c.set_bit-2.ensures.len groups c.set_bit-3.ensures.len c.set_bit-2.ensures.bits c.set_bit-3.ensures.bits;
    }

pub returns : goal.returns
returns c =
    members_turned c.self.inside.births.items c.set_bit.new.words.items c.args.self.now c.args.birth true c.self.view_is c.requires c.set_bit.ensures.len c.set_bit.ensures.bits
