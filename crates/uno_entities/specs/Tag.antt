-- Which texts are tags.
use Rattle.std.specs.Prelude.{ℕ, ◌<◌, ◌≤◌, List, length, All, IsTrue}
use Rattle.std.specs.Char.{is_ascii_alphanumeric}

-- 1 to 32 of 0-9A-Za-z
pub record IsTag (text : List ℕ) : Type 0 where
  pub some : 0 < length text
  pub short : length text ≤ 32
  pub letters : All (λ c. IsTrue (is_ascii_alphanumeric c)) text
