use Rattle.std.proofs.Common.{refl, rules}
use Rattle.uno_model.specs.Names.{reserved_words}
use Rattle.uno_entities.proofs.WordLemmas.{known_letter, none_with}
use Rattle.uno_entities.specs.Words.{words_with}
use Rattle.uno_entities.proofs.identifier.reserved_with.Goals as goal

pub returns-in-70 : goal.returns-in-70
unfolding words_with
returns-in-70 c = known_letter c.args.first 70 _ reserved_words c.in-70.is refl

pub returns-in-84 : goal.returns-in-84
unfolding words_with
returns-in-84 c = known_letter c.args.first 84 _ reserved_words c.in-84.is refl

pub returns-in-97 : goal.returns-in-97
unfolding words_with
returns-in-97 c = known_letter c.args.first 97 _ reserved_words c.in-97.is refl

pub returns-in-98 : goal.returns-in-98
unfolding words_with
returns-in-98 c = known_letter c.args.first 98 _ reserved_words c.in-98.is refl

pub returns-in-99 : goal.returns-in-99
unfolding words_with
returns-in-99 c = known_letter c.args.first 99 _ reserved_words c.in-99.is refl

pub returns-in-100 : goal.returns-in-100
unfolding words_with
returns-in-100 c = known_letter c.args.first 100 _ reserved_words c.in-100.is refl

pub returns-in-101 : goal.returns-in-101
unfolding words_with
returns-in-101 c = known_letter c.args.first 101 _ reserved_words c.in-101.is refl

pub returns-in-102 : goal.returns-in-102
unfolding words_with
returns-in-102 c = known_letter c.args.first 102 _ reserved_words c.in-102.is refl

pub returns-in-103 : goal.returns-in-103
unfolding words_with
returns-in-103 c = known_letter c.args.first 103 _ reserved_words c.in-103.is refl

pub returns-in-104 : goal.returns-in-104
unfolding words_with
returns-in-104 c = known_letter c.args.first 104 _ reserved_words c.in-104.is refl

pub returns-in-105 : goal.returns-in-105
unfolding words_with
returns-in-105 c = known_letter c.args.first 105 _ reserved_words c.in-105.is refl

pub returns-in-108 : goal.returns-in-108
unfolding words_with
returns-in-108 c = known_letter c.args.first 108 _ reserved_words c.in-108.is refl

pub returns-in-109 : goal.returns-in-109
unfolding words_with
returns-in-109 c = known_letter c.args.first 109 _ reserved_words c.in-109.is refl

pub returns-in-111 : goal.returns-in-111
unfolding words_with
returns-in-111 c = known_letter c.args.first 111 _ reserved_words c.in-111.is refl

pub returns-in-112 : goal.returns-in-112
unfolding words_with
returns-in-112 c = known_letter c.args.first 112 _ reserved_words c.in-112.is refl

pub returns-in-114 : goal.returns-in-114
unfolding words_with
returns-in-114 c = known_letter c.args.first 114 _ reserved_words c.in-114.is refl

pub returns-in-115 : goal.returns-in-115
unfolding words_with
returns-in-115 c = known_letter c.args.first 115 _ reserved_words c.in-115.is refl

pub returns-in-116 : goal.returns-in-116
unfolding words_with
returns-in-116 c = known_letter c.args.first 116 _ reserved_words c.in-116.is refl

pub returns-in-117 : goal.returns-in-117
unfolding words_with
returns-in-117 c = known_letter c.args.first 117 _ reserved_words c.in-117.is refl

pub returns-in-118 : goal.returns-in-118
unfolding words_with
returns-in-118 c = known_letter c.args.first 118 _ reserved_words c.in-118.is refl

pub returns-in_default : goal.returns-in_default
returns-in_default c = none_with c.args.first reserved_words (search rules)
