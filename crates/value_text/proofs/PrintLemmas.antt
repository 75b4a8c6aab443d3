-- Tokens that are spelled one after the other, and characters that are escaped.
use Rattle.std.proofs.Common.{◌≡◌, ◌≢◌, ◌<◌, ◌≤◌, ◌+◌, ℕ, suc, length, drop, get_or, Bool, false, List, [], ◌∷◌, ◌++◌, refl, sym, ap, ◌∙◌, arith}
use Rattle.std.proofs.lemmas.Bool.{ne_eqb}
use Rattle.std.proofs.lemmas.List.{append-nil, append_assoc, drop_more, drop_all}
use Rattle.std.proofs.lemmas.Str.{inside_one}
use Rattle.std.specs.Char.{encode_utf8}
use Rattle.std.specs.List.{flat_map}
use Rattle.literal_model.specs.Literals.{Token, comma_tokens, escaped, spell, spells}

pub spells_append : (xs ys : List Token) → spells (xs ++ ys) ≡ spells xs ++ spells ys
spells_append [] ys = refl
spells_append (x ∷ xs) ys = ap (λ t. spell x ++ t) (spells_append xs ys) ∙ sym (append_assoc (spell x) (spells xs) (spells ys))

-- the tokens of a list, from an element on: f gives those of elements, and g those of one
module _ {X : Type 0} (f : Bool → List X → List Token) (g : X → List Token) (xs : List X) (i : ℕ) (is_first : Bool) where
  -- one more is written
  pub one_written : (x : X) (a b c d : List ℕ) → ((b : Bool) (y : X) (ys : List X) → f b (y ∷ ys) ≡ comma_tokens b ++ (g y ++ f false ys)) → i < length xs → x ≡ get_or xs i x
      → a ++ spells (f is_first (drop i xs)) ≡ d → b ≡ a ++ spells (comma_tokens is_first) → c ≡ b ++ spells (g x) → c ++ spells (f false (drop (i + 1) xs)) ≡ d
  one_written x a b c d more within read all comma text =
      let left : drop i xs ≡ x ∷ drop (i + 1) xs = drop_more xs i x within ∙ ap (λ y. y ∷ drop (i + 1) xs) (sym read) in
      let tokens : f is_first (drop i xs) ≡ comma_tokens is_first ++ (g x ++ f false (drop (i + 1) xs)) = ap (f is_first) left ∙ more is_first x (drop (i + 1) xs) in
      let spelled : spells (f is_first (drop i xs)) ≡ spells (comma_tokens is_first) ++ (spells (g x) ++ spells (f false (drop (i + 1) xs))) =
      ap spells tokens ∙ spells_append (comma_tokens is_first) (g x ++ f false (drop (i + 1) xs)) ∙ ap (λ t. spells (comma_tokens is_first) ++ t) (spells_append (g x) (f false (drop (i + 1) xs))) in
      rw (text, comma, append_assoc (a ++ spells (comma_tokens is_first)) (spells (g x)) (spells (f false (drop (i + 1) xs))))
      (append_assoc a (spells (comma_tokens is_first)) _ ∙ ap (λ t. a ++ t) (sym spelled) ∙ all)

  pub all_written : (a d : List ℕ) → f is_first [] ≡ [] → length xs ≤ i → a ++ spells (f is_first (drop i xs)) ≡ d → a ≡ d
  all_written a d none past all = sym (append-nil a) ∙ ap (λ ts. a ++ spells ts) (sym none ∙ ap (f is_first) (sym (drop_all i xs past))) ∙ all

-- bytes of which none is escaped
unescaped : (bs : List ℕ) → ((k : ℕ) → k < length bs → (get_or bs k 0 ≢ 34) × (get_or bs k 0 ≢ 92) × (get_or bs k 0 ≢ 10)) → flat_map escaped bs ≡ bs
unescaped [] none = refl
unescaped (b ∷ bs) none =
    let at = none 0 (omega arith) in
    rw (ne_eqb b 34 at.0, ne_eqb b 92 at.1, ne_eqb b 10 at.2) (ap (λ xs. b ∷ xs) (unescaped bs (λ k within. none (suc k) (omega (arith, within)))))

-- a character that is none of the three is written as it is
pub plain_character : (c : ℕ) → c ≢ 34 → c ≢ 92 → c ≢ 10 → flat_map escaped (encode_utf8 c) ≡ encode_utf8 c
plain_character c quote slash line = unescaped (encode_utf8 c) (λ k within. (other k within 34 (omega arith) quote, other k within 92 (omega arith) slash, other k within 10 (omega arith) line))
  where
    other : (k : ℕ) → k < length (encode_utf8 c) → (d : ℕ) → d < 128 → c ≢ d → get_or (encode_utf8 c) k 0 ≢ d
    other k within d small differs is = differs (inside_one c [] (encode_utf8 c) k (sym (append-nil (encode_utf8 c))) within (omega (arith, is, small)) ∙ is)
