use Rattle.std.proofs.Common.{◌/◌, false}
use Rattle.birth_index.proofs.LevelLaws.{over_kept, over_cleared, members_turned, room_births, room_words, room_groups}
use Rattle.birth_index.proofs.birth_index.BirthIndex.clear.Goals as goal

pub clear_bit-requires : goal.clear_bit-requires
clear_bit-requires c =
    let s = c.self.inside in
    room_births s.births.items s.words.items s.groups.items c.self.invariant c.args.self.now c.args.birth c.self.view_is c.requires

pub clear_bit-requires-2 : goal.clear_bit-requires-2
clear_bit-requires-2 c =
    let s = c.self.inside in
    room_words s.births.items s.words.items s.groups.items c.self.invariant c.args.self.now c.args.birth c.self.view_is c.requires

pub clear_bit-requires-3 : goal.clear_bit-requires-3
clear_bit-requires-3 c =
    let s = c.self.inside in
    room_groups s.births.items s.words.items s.groups.items c.self.invariant c.args.self.now c.args.birth c.self.view_is c.requires

-- the word has still a birth
pub invariant_of-self : goal.invariant_of-self
invariant_of-self c =
    let s = c.self.inside in
    record {
      over_births = over_kept s.births.items s.words.items c.self.invariant.over_births c.args.birth c.clear_bit.new.words.items c.clear_bit.ensures.len c.clear_bit.ensures.bits c.if-not-clear_bit.ensures.empty;
      over_words = c.self.invariant.over_words;
    }

-- the word has none, and its group has still a word
pub invariant_of-self-then-not-clear_bit-2 : goal.invariant_of-self-then-not-clear_bit-2
invariant_of-self-then-not-clear_bit-2 c =
    let s = c.self.inside in
    let births = c.clear_bit.new.words.items in
    let words = c.clear_bit-2.new.words.items in
    record {
      over_births = over_cleared s.births.items s.words.items c.self.invariant.over_births c.args.birth births c.clear_bit.ensures.len words c.clear_bit-2.ensures.len c.clear_bit.ensures.bits c.if-not-clear_bit.ensures.empty c.clear_bit-2.ensures.bits;
      over_words = over_kept s.words.items s.groups.items c.self.invariant.over_words (c.args.birth / 64) words c.clear_bit-2.ensures.len c.clear_bit-2.ensures.bits c.if-not-clear_bit-2.ensures.empty;
    }

-- neither has one
pub invariant_of-self-2 : goal.invariant_of-self-2
invariant_of-self-2 c =
    let s = c.self.inside in
    let births = c.clear_bit.new.words.items in
    let words = c.clear_bit-2.new.words.items in
    let groups = c.clear_bit-3.new.words.items in
    record {
      over_births = over_cleared s.births.items s.words.items c.self.invariant.over_births c.args.birth births c.clear_bit.ensures.len words c.clear_bit-2.ensures.len c.clear_bit.ensures.bits c.if-not-clear_bit.ensures.empty c.clear_bit-2.ensures.bits;
      over_words = over_cleared s.words.items s.groups.items c.self.invariant.over_words (c.args.birth / 64) words c.clear_bit-2.ensures.len groups c.clear_bit-3.ensures.len c.clear_bit-2.ensures.bits c.if-not-clear_bit-2.ensures.empty c.clear_bit-3.ensures.bits;
    }

pub returns-then-not-clear_bit : goal.returns-then-not-clear_bit
returns-then-not-clear_bit c =
    members_turned c.self.inside.births.items c.clear_bit.new.words.items c.args.self.now c.args.birth false c.self.view_is c.requires c.clear_bit.ensures.len c.clear_bit.ensures.bits

pub returns-then-not-clear_bit-2 : goal.returns-then-not-clear_bit-2
returns-then-not-clear_bit-2 c =
    members_turned c.self.inside.births.items c.clear_bit.new.words.items c.args.self.now c.args.birth false c.self.view_is c.requires c.clear_bit.ensures.len c.clear_bit.ensures.bits

pub returns : goal.returns
returns c =
    members_turned c.self.inside.births.items c.clear_bit.new.words.items c.args.self.now c.args.birth false c.self.view_is c.requires c.clear_bit.ensures.len c.clear_bit.ensures.bits
