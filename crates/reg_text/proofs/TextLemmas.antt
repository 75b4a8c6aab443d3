-- Words that make a line, and lines that make a text.
use Rattle.std.proofs.Common.{◌≡◌, ℕ, ◌+◌, ◌<◌, Bool, true, false, not, if◌then◌else◌, List, [], ◌∷◌, ◌++◌, map, length, take, get_or, refl, sym, ap, ◌∙◌, append_assoc, append-nil}
use Rattle.std.proofs.lemmas.List.{take_more, map-append}
use Rattle.std.specs.List.{flat_map}
use Rattle.registry_text_model.specs.Lines.{spaced, text_of, entity_lines, written, is_built_in_name}
use Rattle.uno_model.specs.Entities.{Entity}

-- a word and a blank, or a word and a line feed, are written
pub word_written : (a w u v : List ℕ) → u ≡ a ++ w → v ≡ u ++ 32 ∷ [] → v ≡ a ++ spaced w []
unfolding spaced
word_written a w u v first second = second ∙ ap (λ t. t ++ 32 ∷ []) first ∙ append_assoc a w (32 ∷ [])

pub last_written : (a w u v : List ℕ) → u ≡ a ++ w → v ≡ u ++ 10 ∷ [] → v ≡ a ++ text_of (w ∷ [])
unfolding text_of
last_written a w u v first second = second ∙ ap (λ t. t ++ 10 ∷ []) first ∙ append_assoc a w (10 ∷ []) ∙ ap (λ t. a ++ t) (sym (append-nil (w ++ 10 ∷ [])))

-- a word before the last line
pub spaced_line : (a word line : List ℕ) → (a ++ spaced word []) ++ text_of (line ∷ []) ≡ a ++ text_of (spaced word line ∷ [])
unfolding spaced text_of
spaced_line a word line =
    append_assoc a (word ++ 32 ∷ []) ((line ++ 10 ∷ []) ++ []) ∙ ap (λ t. a ++ t) (append_assoc word (32 ∷ []) ((line ++ 10 ∷ []) ++ [])
    ∙ ap (λ t. word ++ 32 ∷ t) (append-nil (line ++ 10 ∷ [])) ∙ sym (append_assoc word (32 ∷ line) (10 ∷ [])) ∙ sym (append-nil ((word ++ 32 ∷ line) ++ 10 ∷ [])))

text_of_append : (xs ys : List (List ℕ)) → text_of (xs ++ ys) ≡ text_of xs ++ text_of ys
unfolding text_of
text_of_append [] ys = refl
text_of_append (x ∷ xs) ys = ap (λ t. (x ++ 10 ∷ []) ++ t) (text_of_append xs ys) ∙ sym (append_assoc (x ++ 10 ∷ []) (text_of xs) (text_of ys))

-- lines behind lines
pub lines_more : (a : List ℕ) (xs ys : List (List ℕ)) → (a ++ text_of xs) ++ text_of ys ≡ a ++ text_of (xs ++ ys)
lines_more a xs ys = append_assoc a (text_of xs) (text_of ys) ∙ ap (λ t. a ++ t) (sym (text_of_append xs ys))

-- none
pub no_lines : (a : List ℕ) → a ++ text_of [] ≡ a
unfolding text_of
no_lines a = append-nil a

-- an entity is written unless it is built in
pub one_written : (e : Entity) → is_built_in_name e.name ≡ false → flat_map entity_lines (written (e ∷ [])) ≡ entity_lines e
one_written e other = rw other (append-nil (entity_lines e))

pub one_left_out : (e : Entity) → is_built_in_name e.name ≡ true → flat_map entity_lines (written (e ∷ [])) ≡ []
one_left_out e built_in = rw built_in refl

flat_map_append : {X A : Type 0} (f : X → List A) (xs ys : List X) → flat_map f (xs ++ ys) ≡ flat_map f xs ++ flat_map f ys
flat_map_append f [] ys = refl
flat_map_append f (x ∷ xs) ys = ap (λ t. f x ++ t) (flat_map_append f xs ys) ∙ sym (append_assoc (f x) (flat_map f xs) (flat_map f ys))

written_append : (es ds : List Entity) → written (es ++ ds) ≡ written es ++ written ds
written_append [] ds = refl
written_append (e ∷ es) ds = by_test (is_built_in_name e.name) e es ds (written_append es ds)
  where
    by_test : (t : Bool) (e : Entity) (es ds : List Entity) → written (es ++ ds) ≡ written es ++ written ds
        → (if not t then e ∷ written (es ++ ds) else written (es ++ ds)) ≡ (if not t then e ∷ written es else written es) ++ written ds
    by_test true e es ds others = others
    by_test false e es ds others = ap (λ rest. e ∷ rest) others

-- the lines of the first elements of a list, and one element more
module _ {X : Type 0} (xs : List X) (i : ℕ) (x : X) (a b c : List ℕ) where
  more_lines : (F : List X → List (List ℕ)) (lines : List (List ℕ)) → i < length xs → x ≡ get_or xs i x → F (take i xs ++ x ∷ []) ≡ F (take i xs) ++ lines
      → b ≡ a ++ text_of (F (take i xs)) → c ≡ b ++ text_of lines → c ≡ a ++ text_of (F (take (i + 1) xs))
  more_lines F lines within read more before now =
      now ∙ ap (λ t. t ++ text_of lines) before ∙ lines_more a (F (take i xs)) lines
      ∙ ap (λ ls. a ++ text_of ls) (sym (ap F (take_more xs i x within ∙ ap (λ y. take i xs ++ y ∷ []) (sym read)) ∙ more))

  pub line_more : {Y : Type 0} (of : X → Y) (line : Y → List ℕ) → i < length xs → x ≡ get_or xs i x
      → b ≡ a ++ text_of (map line (map of (take i xs))) → c ≡ b ++ text_of (line (of x) ∷ []) → c ≡ a ++ text_of (map line (map of (take (i + 1) xs)))
  line_more of line within read =
      more_lines (λ ys. map line (map of ys)) (line (of x) ∷ []) within read
      (ap (map line) (map-append of (take i xs) (x ∷ [])) ∙ map-append line (map of (take i xs)) (of x ∷ []))

  pub name_more : (line : X → List ℕ) → i < length xs → x ≡ get_or xs i x
      → b ≡ a ++ text_of (map line (take i xs)) → c ≡ b ++ text_of (line x ∷ []) → c ≡ a ++ text_of (map line (take (i + 1) xs))
  name_more line within read = more_lines (map line) (line x ∷ []) within read (map-append line (take i xs) (x ∷ []))

  pub each_more : {Y : Type 0} (of : X → Y) (lines : Y → List (List ℕ)) → i < length xs → x ≡ get_or xs i x
      → b ≡ a ++ text_of (flat_map lines (map of (take i xs))) → c ≡ b ++ text_of (lines (of x)) → c ≡ a ++ text_of (flat_map lines (map of (take (i + 1) xs)))
  each_more of lines within read =
      more_lines (λ ys. flat_map lines (map of ys)) (lines (of x)) within read
      (ap (flat_map lines) (map-append of (take i xs) (x ∷ [])) ∙ flat_map_append lines (map of (take i xs)) (of x ∷ []) ∙ ap (λ ls. flat_map lines (map of (take i xs)) ++ ls) (append-nil (lines (of x))))

  -- those of what is written
  pub written_more : (of : X → Entity) → i < length xs → x ≡ get_or xs i x
      → b ≡ a ++ text_of (flat_map entity_lines (written (map of (take i xs)))) → c ≡ b ++ text_of (flat_map entity_lines (written (of x ∷ [])))
      → c ≡ a ++ text_of (flat_map entity_lines (written (map of (take (i + 1) xs))))
  written_more of within read =
      more_lines (λ ys. flat_map entity_lines (written (map of ys))) (flat_map entity_lines (written (of x ∷ []))) within read
      (ap (λ es. flat_map entity_lines (written es)) (map-append of (take i xs) (x ∷ []))
      ∙ ap (flat_map entity_lines) (written_append (map of (take i xs)) (of x ∷ [])) ∙ flat_map_append entity_lines (written (map of (take i xs))) (written (of x ∷ [])))

-- a row of writes
pub five_more : {A : Type 0} {v w x y z : List A} (u a b c d e : List A) → v ≡ u ++ a → w ≡ v ++ b → x ≡ w ++ c → y ≡ x ++ d → z ≡ y ++ e → z ≡ u ++ (a ++ (b ++ (c ++ (d ++ e))))
five_more u a b c d e p q r s t = rw (t, s, r, q, p) (simp append_assoc)

-- a word between two writes
pub word_between : (a w u v x : List ℕ) (rest : List ℕ) → u ≡ a ++ w → v ≡ u ++ rest → x ≡ v ++ 32 ∷ [] → x ≡ a ++ spaced (w ++ rest) []
unfolding spaced
word_between a w u v x rest first second third =
    third ∙ ap (λ t. t ++ 32 ∷ []) (second ∙ ap (λ t. t ++ rest) first ∙ append_assoc a w rest) ∙ append_assoc a (w ++ rest) (32 ∷ [])
