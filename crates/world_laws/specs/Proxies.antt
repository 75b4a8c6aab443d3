-- The proxies of an end: the pairs of the peer's that are held, each once.
use Rattle.std.specs.Prelude.{List, [], ◌∷◌, ◌||◌, if◌then◌else◌}
use Rattle.table_model.specs.Holdings.{Holdings}
use Rattle.table_model.specs.Pair.{Pair}
use Rattle.bridge_model.specs.Answers.{is_among}
use Rattle.bridge_model.specs.Settings.{Setting, is_own}

unfoldable pub proxy_pairs : Setting → Holdings → List Pair
proxy_pairs g [] = []
proxy_pairs g (h ∷ hs) = if is_own g h.pair.oid || is_among h hs then proxy_pairs g hs else h.pair ∷ proxy_pairs g hs
