use Rattle.std.proofs.Common.{◌∙◌}
use Rattle.command_words.proofs.ClapLaw.{shown, only_memory}
use Rattle.command_words.proofs.by_clap.matches_of.Goals as goal

pub returns-in-Ok-clause-shows : goal.returns-in-Ok-clause-shows
returns-in-Ok-clause-shows c = λ whole is. shown _ _ _ whole c.requires c.in_ok-command.ensures c.in-Ok.ensures.matches is

pub wanted-requires : goal.wanted-requires
wanted-requires c = c.kind.ensures ∙ only_memory _ _ _ c.requires c.in_ok-command.ensures c.in-Err.ensures.kinds
