use Rattle.birth_index.proofs.LevelLaws.{first_over}
use Rattle.birth_index.proofs.birth_index.first_word_from.Goals as goal

pub returns : goal.returns
returns c = first_over c.args.words.now.items c.args.groups.now.items c.requires c.args.place c.in_default.ensures c.in_ok-group.group c.in_ok-group.ensures c.lowest_from-2.result c.lowest_from-2.ensures
