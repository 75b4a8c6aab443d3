-- Entities of which no two have one name.
use Rattle.std.specs.Prelude.{List, map, IsTrue}
use Rattle.uno_model.specs.Entities.{Entity}
use Rattle.uno_model.specs.Sound.{all_differ}

abbrev pub NamesDiffer : List Entity → Type 0
NamesDiffer es = IsTrue (all_differ (map (λ e. e.name) es))
