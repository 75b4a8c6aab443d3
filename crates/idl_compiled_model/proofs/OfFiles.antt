-- Trees that were read of the texts of files: their places are apart, since those of tokens rise in each file and files have numbers; and their words are words.
use Rattle.std.proofs.Common.{◌≡◌, ℕ, suc, ◌+◌, ◌≤◌, ◌<◌, ◌==◌, ◌^◌, Bool, true, false, not, ◌&&◌, ◌||◌, nat_lt, List, [], ◌∷◌, length, map, take, drop, codes, Option, None, Some, Result, Ok, refl, sym, ap, subst, arith, if◌then◌else◌}
use Rattle.std.proofs.lemmas.Bool.{both_ways, and_from, eqb-true, lt-ltb, le-ltb, ltb-false, not_from_false}
use Rattle.std.specs.List.{AllByRecursion, list_any}
use Rattle.std.specs.Option.{option_map}
use Rattle.std.specs.Str.{bytes_eq}
use Rattle.std.specs.Str.Parse.{digits_value}
use Rattle.idl_text_model.proofs.TokenLaws.{tokens_stand, tokens_are_slices}
use Rattle.idl_text_model.specs.LexVerdicts.{IsLexed}
use Rattle.idl_text_model.specs.Numbers.{are_digits, number_in, number_of_word}
use Rattle.idl_text_model.specs.Pieces.{is_mark}
use Rattle.idl_text_model.specs.Slices.{StandBetween, slice_of, IsSlice}
use Rattle.idl_text_model.specs.Tokens.{Word, Token, word_named, word_of_text, IsTokens}
use Rattle.idl_text_model.specs.Tokens as token
use Rattle.literal_model.specs.Shapes.{is_word}
use Rattle.idl_model.specs.ParseVerdicts.{IsParsed}
use Rattle.idl_model.specs.Places.{Place, is_at}
use Rattle.idl_model.specs.PlacedTokens.{PlacedToken, in_file}
use Rattle.idl_model.specs.Trees.{Tree}
use Rattle.idl_meaning_model.specs.Declarations.{declarations, Valued, all_valued}
use Rattle.idl_meaning_model.specs.FromFiles.{leaf_places, are_apart, AreOfFiles}
use Rattle.idl_meaning_model.proofs.FaultLaws.{at_itself}
use Rattle.uno_model.proofs.Options.{same_some}
use Rattle.uno_model.specs.Names.{is_identifier}
use Rattle.idl_compiled_model.specs.Compiling.{IsRead, AreRead}
use Rattle.idl_compiled_model.proofs.ApartCounts.{at_place, place_weights, place_weighs, leaves_less, valued_less}
use Rattle.idl_compiled_model.proofs.Leaves.{def_weight, tree_bound}
use Rattle.idl_compiled_model.proofs.SpelledCounts.{is_wrong, wrong_weights, wrong_weigh, all_have_identifiers, all_uses_spelled}
use Rattle.idl_compiled_model.proofs.Weighing.{total, one_if}

-- ---- places that occur once at most are apart

once_apart : (ps : List Place) → ((p : Place) → total (at_place p) ps ≤ 1) → are_apart ps ≡ true
unfolding are_apart total
once_apart [] once = refl
once_apart (p ∷ ps) once =
    and_from (not (list_any (is_at p) ps)) (are_apart ps)
    (not_from_false (list_any (is_at p) ps) (none_of ps (let all = once p in let here : one_if (is_at p p) ≡ 1 = ap one_if (at_itself p) in omega (arith, all, here))))
    (once_apart ps (λ q. let all = once q in omega (arith, all)))
  where
    none_of : (qs : List Place) → total (at_place p) qs ≤ 0 → list_any (is_at p) qs ≡ false
    none_of [] low = refl
    none_of (q ∷ qs) low = by_test (is_at p q) refl (none_of qs (omega (arith, low)))
      where
        by_test : (b : Bool) → is_at p q ≡ b → list_any (is_at p) qs ≡ false → (b || list_any (is_at p) qs) ≡ false
        by_test true is rest = let here : one_if (is_at p q) ≡ 1 = ap one_if is in let bad : ⊥ = omega (arith, low, here) in absurd bad
        by_test false is rest = rest

-- ---- tokens of a file

-- a place in this file, from this byte on
abbrev is_from : ℕ → ℕ → Place → Bool
is_from file byte p = (p.file == file) && not (nat_lt p.byte byte)

no_both : true ≡ false → ⊥
no_both is = both_ways true is refl

-- what is at a number, and what is from the next one on, is from there on
later_only : (at next from : Bool) (n : ℕ) → (at ≡ true → (next ≡ true) × (from ≡ false)) → (next ≡ false → from ≡ false) → n ≤ one_if (not next) → one_if at + n ≤ one_if (not from)
later_only true true true n here later low = absurd (no_both (here refl).1)
later_only true true false n here later low = omega (arith, low)
later_only true false from n here later low = absurd (no_both (sym (here refl).0))
later_only false true true n here later low = omega (arith, low)
later_only false true false n here later low = omega (arith, low)
later_only false false true n here later low = absurd (no_both (later refl))
later_only false false false n here later low = omega (arith, low)

once_or_later : (k at from next n : ℕ) → from ≤ at → at < next → n ≤ one_if (not (nat_lt k next)) → one_if (k == at) + n ≤ one_if (not (nat_lt k from))
once_or_later k at from next n low high rest =
    later_only (k == at) (nat_lt k next) (nat_lt k from) n
    (λ is. let same = eqb-true k at is in (lt-ltb k next (omega (arith, same, high)), le-ltb k from (omega (arith, same, low))))
    (λ is. let above = ltb-false k next is in le-ltb k from (omega (arith, above, low, high))) rest

place_in : (p : Place) (file from byte size n : ℕ) → from ≤ byte → 0 < size → n ≤ one_if (is_from file (byte + size) p)
    → at_place p (record { file = file; byte = byte }) + n ≤ one_if (is_from file from p)
place_in p file from byte size n low long rest = by_file (p.file == file) rest
  where
    by_file : (f : Bool) → n ≤ one_if (f && not (nat_lt p.byte (byte + size))) → one_if (f && (p.byte == byte)) + n ≤ one_if (f && not (nat_lt p.byte from))
    by_file true none = once_or_later p.byte byte from (byte + size) n low (omega (arith, long)) none
    by_file false none = omega (arith, none)

tokens_once : (p : Place) (file from to : ℕ) (tokens : List Token) → StandBetween from to tokens → total (λ (t : PlacedToken). at_place p t.place) (in_file file tokens) ≤ one_if (is_from file from p)
unfolding StandBetween total
tokens_once p file from to [] stand = omega arith
tokens_once p file from to (t ∷ ts) stand =
    place_in p file from t.byte t.length (total (λ (s : PlacedToken). at_place p s.place) (in_file file ts)) stand.0 stand.1 (tokens_once p file (t.byte + t.length) to ts stand.2)

-- ---- words of a file

number_right : (base : ℕ) (ds : List ℕ) (n : ℕ) → number_in base ds ≡ Some n → nat_lt n (2 ^ 64) ≡ true
unfolding number_in
number_right base ds n is = by_test (are_digits base ds) (nat_lt (digits_value base ds) (2 ^ 64)) refl is
  where
    by_test : (b c : Bool) → nat_lt (digits_value base ds) (2 ^ 64) ≡ c → (if b && c then Some (digits_value base ds) else None) ≡ Some n → nat_lt n (2 ^ 64) ≡ true
    by_test true true low is = subst (λ k. nat_lt k (2 ^ 64) ≡ true) (same_some is) low
    by_test true false low is = let bad : ⊥ = cc in absurd bad
    by_test false c low is = let bad : ⊥ = cc in absurd bad

number_below : (x : List ℕ) (n : ℕ) → number_of_word x ≡ Some n → nat_lt n (2 ^ 64) ≡ true
unfolding number_of_word
number_below x n is = by_base (bytes_eq (take 2 x) (codes "0x")) (bytes_eq (take 1 x) (codes "0")) is
  where
    by_base : (b c : Bool) → (if b then number_in 16 (drop 2 x) else (if c then number_in 8 x else number_in 10 x)) ≡ Some n → nat_lt n (2 ^ 64) ≡ true
    by_base true c is = number_right 16 (drop 2 x) n is
    by_base false true is = number_right 8 x n is
    by_base false false is = number_right 10 x n is

named_right : (x : List ℕ) → is_wrong (word_named x) ≡ false
named_right x = by_test (is_identifier x) refl
  where
    by_test : (b : Bool) → is_identifier x ≡ b → is_wrong (if b then token.identifier x else token.quoted x) ≡ false
    by_test true is = ap not is
    by_test false is = refl

word_right : (x : List ℕ) (y : Word) → word_of_text x ≡ Some y → is_wrong y ≡ false
unfolding word_of_text
word_right x y is = by_tests (is_mark x) (is_word x) is
  where
    of_number : (o : Option ℕ) → number_of_word x ≡ o → option_map token.number o ≡ Some y → is_wrong y ≡ false
    of_number None missing is = let bad : ⊥ = cc in absurd bad
    of_number (Some n) number is = subst (λ z. is_wrong z ≡ false) (same_some is) (ap not (number_below x n number))

    by_tests : (b c : Bool) → (if b then Some (token.mark x) else (if c then Some (word_named x) else option_map token.number (number_of_word x))) ≡ Some y → is_wrong y ≡ false
    by_tests true c is = subst (λ z. is_wrong z ≡ false) (same_some is) refl
    by_tests false true is = subst (λ z. is_wrong z ≡ false) (same_some is) (named_right x)
    by_tests false false is = of_number (number_of_word x) refl is

tokens_right : (text : List ℕ) (file : ℕ) (tokens : List Token) → AllByRecursion (IsSlice text) tokens → total (λ (t : PlacedToken). one_if (is_wrong t.word)) (in_file file tokens) ≤ 0
unfolding total
tokens_right text file [] all = omega arith
tokens_right text file (t ∷ ts) all =
    let rest = tokens_right text file ts all.1 in
    let here : one_if (is_wrong t.word) ≡ 0 = ap one_if (word_right (slice_of text t) t.word all.0) in
    omega (arith, rest, here)

-- ---- files

abbrev file_weight : Place → Tree → ℕ
file_weight p tree = total (def_weight (place_weights p)) tree

abbrev wrong_weight : Tree → ℕ
wrong_weight tree = total (def_weight wrong_weights) tree

file_once : (p : Place) (file : ℕ) (text : List ℕ) (tree : Tree) → IsRead file text tree → file_weight p tree ≤ one_if (p.file == file)
file_once p file text tree read =
    let spelled = tree_bound (place_weights p) (place_weighs p) tree (in_file file read.tokens) read.parsed.0 in
    let once = tokens_once p file 0 (length text) read.tokens (tokens_stand text read.tokens read.lexed.2) in
    let less = in_this (p.file == file) (not (nat_lt p.byte 0)) in
    omega (arith, spelled, once, less)
  where
    in_this : (b c : Bool) → one_if (b && c) ≤ one_if b
    in_this true true = omega arith
    in_this true false = omega arith
    in_this false c = omega arith

file_right : (file : ℕ) (text : List ℕ) (tree : Tree) → IsRead file text tree → wrong_weight tree ≤ 0
file_right file text tree read =
    let spelled = tree_bound wrong_weights wrong_weigh tree (in_file file read.tokens) read.parsed.0 in
    let right = tokens_right text file read.tokens (tokens_are_slices text read.tokens read.lexed.2) in
    omega (arith, spelled, right)

files_once : (p : Place) (file : ℕ) (texts : List (List ℕ)) (trees : List Tree) → AreRead file texts trees → total (file_weight p) trees ≤ one_if (not (nat_lt p.file file))
unfolding total
files_once p file [] [] read = omega arith
files_once p file [] (tree ∷ trees) read = absurd read
files_once p file (text ∷ texts) [] read = absurd read
files_once p file (text ∷ texts) (tree ∷ trees) read =
    let here = file_once p file text tree read.0 in
    let rest = once_or_later p.file file file (suc file) (total (file_weight p) trees) (omega arith) (omega arith) (files_once p (suc file) texts trees read.1) in
    omega (arith, here, rest)

files_right : (file : ℕ) (texts : List (List ℕ)) (trees : List Tree) → AreRead file texts trees → total wrong_weight trees ≤ 0
unfolding total
files_right file [] [] read = omega arith
files_right file [] (tree ∷ trees) read = absurd read
files_right file (text ∷ texts) [] read = absurd read
files_right file (text ∷ texts) (tree ∷ trees) read =
    let here = file_right file text tree read.0 in
    let rest = files_right (suc file) texts trees read.1 in
    omega (arith, here, rest)

at_most_one_if : (b : Bool) → one_if b ≤ 1
at_most_one_if true = omega arith
at_most_one_if false = omega arith

module _ (file : ℕ) (texts : List (List ℕ)) (trees : List Tree) (read : AreRead file texts trees) where
  pub places_apart : are_apart (leaf_places (declarations trees)) ≡ true
  places_apart =
      once_apart (leaf_places (declarations trees)) (λ p.
      let less = leaves_less p trees in
      let once = files_once p file texts trees read in
      let one = at_most_one_if (not (nat_lt p.file file)) in
      omega (arith, less, once, one))

  pub values_apart : are_apart (map (λ (v : Valued). v.name.place) (all_valued (declarations trees))) ≡ true
  values_apart =
      once_apart (map (λ (v : Valued). v.name.place) (all_valued (declarations trees))) (λ p.
      let less = valued_less p trees in
      let once = files_once p file texts trees read in
      let one = at_most_one_if (not (nat_lt p.file file)) in
      omega (arith, less, once, one))

  pub nothing_wrong : total wrong_weight trees ≤ 0
  nothing_wrong = files_right file texts trees read

  pub are_of_files : AreOfFiles trees
  are_of_files = record { identifiers = all_have_identifiers trees nothing_wrong; used = all_uses_spelled trees nothing_wrong; apart = places_apart }

-- the tree of a text that is the only file
pub alone_of_files : (text : List ℕ) (plain : List Token) (placed : List PlacedToken) (tree : Tree) → IsLexed text (Ok plain) → placed ≡ in_file 0 plain → IsParsed placed (Ok tree) → AreOfFiles (tree ∷ [])
alone_of_files text plain placed tree lexed is parsed =
    are_of_files 0 (text ∷ []) (tree ∷ []) (record { tokens = plain; lexed = lexed; parsed = subst (λ ts. IsParsed ts (Ok tree)) is parsed }, tt)
