-- The names that an end gives: its tag, `;`, and a number.
use Rattle.std.specs.Prelude.{◌≡◌, ℕ, suc, List, [], ◌∷◌, ◌++◌, length, codes}
use Rattle.std.specs.Fmt.{decimal}

-- what a contract sees of them: the tag, and how many roots have names
pub record Named : Type 0 where
  pub tag : List ℕ
  pub roots : ℕ

abbrev pub name_of : List ℕ → ℕ → List ℕ
name_of tag n = (tag ++ codes ";") ++ decimal n

-- names of the numbers from this one on, in order
unfoldable pub AreNames : (tag : List ℕ) → ℕ → List (List ℕ) → Type 0
AreNames tag n [] = Unit
AreNames tag n (x ∷ xs) = (x ≡ name_of tag n) × AreNames tag (suc n) xs

-- the name of releases is that of the number 0, and those of roots are numbered from 1; those of objects stand behind that of the number 0
pub record AreOf (named : Named) (prefix release : List ℕ) (roots objects : List (List ℕ)) : Type 0 where
  pub front : prefix ≡ named.tag ++ codes ";"
  pub first : release ≡ name_of named.tag 0
  pub rest : AreNames named.tag 1 roots
  pub count : named.roots ≡ length roots
  pub known : AreNames named.tag 0 objects
