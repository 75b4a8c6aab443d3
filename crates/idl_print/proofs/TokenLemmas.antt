-- Tokens that are written one after the other.
use Rattle.std.proofs.Common.{◌≡◌, ℕ, ◌+◌, ◌-◌, ◌<◌, List, [], ◌∷◌, ◌++◌, map, length, take, get_or, refl, sym, ap, ◌∙◌, append_assoc, append-nil, codes, arith}
use Rattle.std.proofs.lemmas.List.{take_more, drop_more, drop_all, map-append, take_rest}
use Rattle.std.specs.Borrow.{Bor}
use Rattle.std.specs.List.{flat_map}
use Rattle.uno_model.specs.Kinds.{Kind}
use Rattle.uno_model.specs.Kinds as kd
use Rattle.uno_entities.specs.TypeNames.{innermost}
use Rattle.registry_text_model.specs.Canonical.{kind_tokens, number_tokens, listed}
use Rattle.idl_print.specs.Tokens.{followed, tokens_at, element_of, opening, closing, word_tokens, sign_tokens}
use Rattle.std.specs.Fmt.{decimal}
use Rattle.std.specs.Prelude.{ℤ, pos, negsuc, unsigned_abs, int_lt, false, None, Some, drop, ◌≤◌}

-- a token and a blank are written
pub token_written : (a w u v : List ℕ) → u ≡ a ++ w → v ≡ u ++ 32 ∷ [] → v ≡ a ++ followed (w ∷ [])
unfolding followed
token_written a w u v first second = second ∙ ap (λ t. t ++ 32 ∷ []) first ∙ append_assoc a w (32 ∷ []) ∙ ap (λ t. a ++ t) (sym (append-nil (w ++ 32 ∷ [])))

pub absolute_written : (a w n u v x : List ℕ) → u ≡ a ++ w → v ≡ u ++ n → x ≡ v ++ 32 ∷ [] → x ≡ a ++ followed ((w ++ n) ∷ [])
absolute_written a w n u v x first second third = token_written a (w ++ n) v x (second ∙ ap (λ t. t ++ n) first ∙ append_assoc a w n) third

followed_append : (xs ys : List (List ℕ)) → followed (xs ++ ys) ≡ followed xs ++ followed ys
unfolding followed
followed_append [] ys = refl
followed_append (x ∷ xs) ys = ap (λ t. (x ++ 32 ∷ []) ++ t) (followed_append xs ys) ∙ sym (append_assoc (x ++ 32 ∷ []) (followed xs) (followed ys))

-- tokens behind tokens
pub tokens_more : (a : List ℕ) (xs ys : List (List ℕ)) → (a ++ followed xs) ++ followed ys ≡ a ++ followed (xs ++ ys)
tokens_more a xs ys = append_assoc a (followed xs) (followed ys) ∙ ap (λ t. a ++ t) (sym (followed_append xs ys))

pub three_tokens : (a b c d : List ℕ) (x y z : List (List ℕ)) → b ≡ a ++ followed x → c ≡ b ++ followed y → d ≡ c ++ followed z → d ≡ a ++ followed (x ++ (y ++ z))
three_tokens a b c d x y z first second third =
    third ∙ ap (λ t. t ++ followed z) second ∙ tokens_more b y z ∙ ap (λ t. t ++ followed (y ++ z)) first ∙ tokens_more a x (y ++ z)

-- none
pub no_tokens : (a : List ℕ) → a ++ followed [] ≡ a
unfolding followed
no_tokens a = append-nil a

flat_map_append : {X A : Type 0} (f : X → List A) (xs ys : List X) → flat_map f (xs ++ ys) ≡ flat_map f xs ++ flat_map f ys
flat_map_append f [] ys = refl
flat_map_append f (x ∷ xs) ys = ap (λ t. f x ++ t) (flat_map_append f xs ys) ∙ sym (append_assoc (f x) (flat_map f xs) (flat_map f ys))

-- the tokens of the first elements of a list, and one element more
module _ {X Y : Type 0} (xs : List X) (i : ℕ) (x : X) (a b c : List ℕ) (of : X → Y) (tokens : Y → List (List ℕ)) where
  pub each_more : i < length xs → x ≡ get_or xs i x
      → b ≡ a ++ followed (flat_map tokens (map of (take i xs))) → c ≡ b ++ followed (tokens (of x)) → c ≡ a ++ followed (flat_map tokens (map of (take (i + 1) xs)))
  each_more within read before now =
      now ∙ ap (λ t. t ++ followed (tokens (of x))) before ∙ tokens_more a (flat_map tokens (map of (take i xs))) (tokens (of x))
      ∙ ap (λ ts. a ++ followed ts)
      (ap (λ t. flat_map tokens (map of (take i xs)) ++ t) (sym (append-nil (tokens (of x)))) ∙ sym (flat_map_append tokens (map of (take i xs)) (of x ∷ []))
      ∙ ap (flat_map tokens) (sym (map-append of (take i xs) (x ∷ []))) ∙ ap (λ ys. flat_map tokens (map of ys)) (sym (take_more xs i x within ∙ ap (λ y. take i xs ++ y ∷ []) (sym read))))

-- the same of names
pub name_more : (xs : List (List ℕ)) (i : ℕ) (x a b c : List ℕ) (tokens : List ℕ → List (List ℕ)) → i < length xs → x ≡ get_or xs i x
    → b ≡ a ++ followed (flat_map tokens (take i xs)) → c ≡ b ++ followed (tokens x) → c ≡ a ++ followed (flat_map tokens (take (i + 1) xs))
name_more xs i x a b c tokens within read before now =
    now ∙ ap (λ t. t ++ followed (tokens x)) before ∙ tokens_more a (flat_map tokens (take i xs)) (tokens x)
    ∙ ap (λ ts. a ++ followed ts)
    (ap (λ t. flat_map tokens (take i xs) ++ t) (sym (append-nil (tokens x))) ∙ sym (flat_map_append tokens (take i xs) (x ∷ []))
    ∙ ap (flat_map tokens) (sym (take_more xs i x within ∙ ap (λ y. take i xs ++ y ∷ []) (sym read))))

-- a list with commas: none, or the first and the others
module _ {X Y : Type 0} (of : X → Y) (tokens : Y → List (List ℕ)) where
  pub none_listed : (xs : List X) (a : List ℕ) → length xs < 1 → a ≡ a ++ followed (listed tokens (map of xs))
  unfolding listed
  none_listed [] a short = sym (no_tokens a)
  none_listed (x ∷ xs) a short = let bad : ⊥ = omega arith in absurd bad

  pub listed_written : (xs : List X) (x : X) (a b c : List ℕ) → 1 ≤ length xs → x ≡ get_or xs 0 x → b ≡ a ++ followed (tokens (of x))
      → c ≡ b ++ followed (flat_map (λ y. codes "," ∷ tokens y) (map of (take (length xs - 1) (drop 1 xs)))) → c ≡ a ++ followed (listed tokens (map of xs))
  unfolding listed
  listed_written [] x a b c some read first others = let bad : ⊥ = omega arith in absurd bad
  listed_written (y ∷ ys) x a b c some read first others =
      others ∙ ap (λ zs. b ++ followed (flat_map (λ z. codes "," ∷ tokens z) (map of zs))) (take_rest (y ∷ ys) 1) ∙ ap (λ t. t ++ followed (flat_map (λ z. codes "," ∷ tokens z) (map of ys))) first ∙ tokens_more a (tokens (of x)) (flat_map (λ z. codes "," ∷ tokens z) (map of ys))
      ∙ ap (λ z. a ++ followed (tokens (of z) ++ flat_map (λ z. codes "," ∷ tokens z) (map of ys))) read

-- the same of names
module _ (tokens : List ℕ → List (List ℕ)) where
  pub no_names : (xs : List (List ℕ)) (a : List ℕ) → length xs < 1 → a ≡ a ++ followed (listed tokens xs)
  unfolding listed
  no_names [] a short = sym (no_tokens a)
  no_names (x ∷ xs) a short = let bad : ⊥ = omega arith in absurd bad

  pub names_written : (xs : List (List ℕ)) (x a b c : List ℕ) → 1 ≤ length xs → x ≡ get_or xs 0 x → b ≡ a ++ followed (tokens x)
      → c ≡ b ++ followed (flat_map (λ y. codes "," ∷ tokens y) (take (length xs - 1) (drop 1 xs))) → c ≡ a ++ followed (listed tokens xs)
  unfolding listed
  names_written [] x a b c some read first others = let bad : ⊥ = omega arith in absurd bad
  names_written (y ∷ ys) x a b c some read first others =
      others ∙ ap (λ zs. b ++ followed (flat_map (λ z. codes "," ∷ tokens z) zs)) (take_rest (y ∷ ys) 1) ∙ ap (λ t. t ++ followed (flat_map (λ z. codes "," ∷ tokens z) ys)) first ∙ tokens_more a (tokens x) (flat_map (λ z. codes "," ∷ tokens z) ys)
      ∙ ap (λ z. a ++ followed (tokens z ++ flat_map (λ z. codes "," ∷ tokens z) ys)) read

closing_last : (k : Kind) → closing k ++ (62 ∷ []) ∷ [] ≡ (62 ∷ []) ∷ closing k
unfolding closing
closing_last (kd.sequence k) = ap (λ ts. (62 ∷ []) ∷ ts) (closing_last k)
closing_last _ = refl

-- a type is what stands before the type below all sequences, that type, and what stands behind it
pub kind_parts : (k : Kind) → (opening k ++ word_tokens (innermost k)) ++ closing k ≡ kind_tokens k
unfolding opening closing word_tokens kind_tokens
kind_parts (kd.sequence k) =
    ap (λ ts. codes "sequence" ∷ (codes "<" ∷ ts))
    (ap (λ ts. (opening k ++ word_tokens (innermost k)) ++ ts) (sym (closing_last k)) ∙ sym (append_assoc (opening k ++ word_tokens (innermost k)) (closing k) ((62 ∷ []) ∷ []))
    ∙ ap (λ ts. ts ++ (62 ∷ []) ∷ []) (kind_parts k))
kind_parts _ = refl

not_negative : (n : ℕ) → int_lt (pos n) (pos 0) ≡ false
not_negative n = grind arith

-- a number is its sign and its digits
pub number_parts : (n : ℤ) → sign_tokens n ++ decimal (unsigned_abs n) ∷ [] ≡ number_tokens n
unfolding sign_tokens number_tokens
number_parts (pos n) = rw (not_negative n) refl
number_parts (negsuc n) = refl

-- one sequence more round a type
pub opening_more : (a : List ℕ) (k : Kind) → (a ++ followed (codes "sequence" ∷ (codes "<" ∷ []))) ++ followed (opening k) ≡ a ++ followed (opening (kd.sequence k))
unfolding opening
opening_more a k = tokens_more a (codes "sequence" ∷ (codes "<" ∷ [])) (opening k)

pub closing_more : (a : List ℕ) (k : Kind) → (a ++ followed (codes ">" ∷ [])) ++ followed (closing k) ≡ a ++ followed (closing (kd.sequence k))
unfolding closing
closing_more a k = tokens_more a (codes ">" ∷ []) (closing k)

-- tokens that are left, one more of which is written
pub left_more : (xs : List (Bor (List ℕ))) (i : ℕ) (d : Bor (List ℕ)) (a b c : List ℕ) → i < length xs → a ++ followed (tokens_at (drop i xs)) ≡ c
    → b ≡ a ++ followed ((get_or xs i d).now ∷ []) → b ++ followed (tokens_at (drop (i + 1) xs)) ≡ c
left_more xs i d a b c within before now =
    ap (λ t. t ++ followed (tokens_at (drop (i + 1) xs))) now ∙ tokens_more a ((get_or xs i d).now ∷ []) (tokens_at (drop (i + 1) xs))
    ∙ ap (λ ys. a ++ followed (tokens_at ys)) (sym (drop_more xs i d within)) ∙ before

pub words_left : (tokens : List ℕ → List (List ℕ)) (xs : List (Bor (List ℕ))) (i : ℕ) (d : Bor (List ℕ)) (a b c : List ℕ) → i < length xs
    → a ++ followed (flat_map tokens (tokens_at (drop i xs))) ≡ c → b ≡ a ++ followed (tokens (get_or xs i d).now) → b ++ followed (flat_map tokens (tokens_at (drop (i + 1) xs))) ≡ c
words_left tokens xs i d a b c within before now =
    ap (λ t. t ++ followed (flat_map tokens (tokens_at (drop (i + 1) xs)))) now ∙ tokens_more a (tokens (get_or xs i d).now) (flat_map tokens (tokens_at (drop (i + 1) xs)))
    ∙ ap (λ ys. a ++ followed (flat_map tokens (tokens_at ys))) (sym (drop_more xs i d within)) ∙ before

pub no_words_left : (tokens : List ℕ → List (List ℕ)) (xs : List (Bor (List ℕ))) (i : ℕ) (a c : List ℕ) → length xs ≤ i
    → a ++ followed (flat_map tokens (tokens_at (drop i xs))) ≡ c → a ≡ c
no_words_left tokens xs i a c past before = sym (no_tokens a) ∙ ap (λ ys. a ++ followed (flat_map tokens (tokens_at ys))) (sym (drop_all i xs past)) ∙ before

pub none_left : (xs : List (Bor (List ℕ))) (i : ℕ) (a c : List ℕ) → length xs ≤ i → a ++ followed (tokens_at (drop i xs)) ≡ c → a ≡ c
none_left xs i a c past before = sym (no_tokens a) ∙ ap (λ ys. a ++ followed (tokens_at ys)) (sym (drop_all i xs past)) ∙ before

-- the elements of a sequence, and a type that is none
pub is_sequence : (k inner : Kind) → element_of k ≡ Some inner → k ≡ kd.sequence inner
is_sequence kd.void inner is = cc
is_sequence kd.char inner is = cc
is_sequence kd.boolean inner is = cc
is_sequence kd.byte inner is = cc
is_sequence kd.short inner is = cc
is_sequence kd.unsigned_short inner is = cc
is_sequence kd.long inner is = cc
is_sequence kd.unsigned_long inner is = cc
is_sequence kd.hyper inner is = cc
is_sequence kd.unsigned_hyper inner is = cc
is_sequence kd.str inner is = cc
is_sequence kd.kind inner is = cc
is_sequence kd.any inner is = cc
is_sequence (kd.enum name) inner is = cc
is_sequence (kd.struct name) inner is = cc
is_sequence (kd.exception name) inner is = cc
is_sequence (kd.interface name) inner is = cc
is_sequence (kd.sequence k) inner is = cc

pub no_opening : (k : Kind) → element_of k ≡ None → opening k ≡ []
unfolding opening
no_opening kd.void none = refl
no_opening kd.char none = refl
no_opening kd.boolean none = refl
no_opening kd.byte none = refl
no_opening kd.short none = refl
no_opening kd.unsigned_short none = refl
no_opening kd.long none = refl
no_opening kd.unsigned_long none = refl
no_opening kd.hyper none = refl
no_opening kd.unsigned_hyper none = refl
no_opening kd.str none = refl
no_opening kd.kind none = refl
no_opening kd.any none = refl
no_opening (kd.enum name) none = refl
no_opening (kd.struct name) none = refl
no_opening (kd.exception name) none = refl
no_opening (kd.interface name) none = refl
no_opening (kd.sequence k) none = cc

pub no_closing : (k : Kind) → element_of k ≡ None → closing k ≡ []
unfolding closing
no_closing kd.void none = refl
no_closing kd.char none = refl
no_closing kd.boolean none = refl
no_closing kd.byte none = refl
no_closing kd.short none = refl
no_closing kd.unsigned_short none = refl
no_closing kd.long none = refl
no_closing kd.unsigned_long none = refl
no_closing kd.hyper none = refl
no_closing kd.unsigned_hyper none = refl
no_closing kd.str none = refl
no_closing kd.kind none = refl
no_closing kd.any none = refl
no_closing (kd.enum name) none = refl
no_closing (kd.struct name) none = refl
no_closing (kd.exception name) none = refl
no_closing (kd.interface name) none = refl
no_closing (kd.sequence k) none = cc

-- one sequence more is opened, or closed
pub opening_step : (k inner : Kind) (a b c : List ℕ) → k ≡ kd.sequence inner → a ++ followed (opening k) ≡ c → b ≡ a ++ followed (codes "sequence" ∷ (codes "<" ∷ []))
    → b ++ followed (opening inner) ≡ c
opening_step k inner a b c is before now = ap (λ t. t ++ followed (opening inner)) now ∙ opening_more a inner ∙ ap (λ j. a ++ followed (opening j)) (sym is) ∙ before

pub closing_step : (k inner : Kind) (a b c : List ℕ) → k ≡ kd.sequence inner → a ++ followed (closing k) ≡ c → b ≡ a ++ followed (codes ">" ∷ [])
    → b ++ followed (closing inner) ≡ c
closing_step k inner a b c is before now = ap (λ t. t ++ followed (closing inner)) now ∙ closing_more a inner ∙ ap (λ j. a ++ followed (closing j)) (sym is) ∙ before
