-- The verdict on tokens, from what is read of them; and the places at which they go wrong.
use Rattle.std.proofs.Common.{◌≡◌, ◌+◌, List, [], ◌∷◌, ◌++◌, Result, Ok, Err, refl, sym, ap, subst, ◌∙◌}
use Rattle.std.proofs.lemmas.List.{map-append}
use Rattle.std.specs.List.{AllByRecursion}
use Rattle.grammar_model.specs.Readings.{◌>>=◌, whole}
use Rattle.grammar_model.specs.declared.fault.Fault.{Fault}
use Rattle.idl_model.proofs.ParseLaws.{parsed_is}
use Rattle.idl_model.specs.Grammar.{Tokens}
use Rattle.idl_model.specs.GrammarReading.{tree}
use Rattle.idl_model.specs.ParseVerdicts.{ParseFault, IsParsed, end_of, fault_of, parsed, with_place}
use Rattle.idl_model.specs.PlacedTokens.{PlacedToken}
use Rattle.idl_model.specs.Places.{Place}
use Rattle.idl_model.specs.Trees as plain
use Rattle.idl_parse.specs.Parsing.{Judges, RefusesFor}
use Rattle.idl_parse.specs.Reading.{Fails}
use Rattle.idl_parse.specs.declared.error.ParseError.{ParseError}
use Rattle.idl_parse.specs.declared.error.ParseError.TheVariants as error
use Rattle.idl_parse.specs.declared.stop.Stop.{Stop}
use Rattle.idl_parse.specs.declared.stop.Stop.TheVariants.{At}
use Rattle.idl_trees.specs.Tokens.{token_of, tokens_of}
use Rattle.idl_trees.specs.Trees.{tree_of}
use Rattle.idl_trees.specs.declared.declaration.Tree.{Tree}
use Rattle.idl_trees.specs.declared.token.Token.{Token}

-- ---- the verdict

all_read : (toks rest : Tokens) (x : plain.Tree) → tree 64 64 64 toks ≡ Ok (x, rest) → rest ≡ [] → parsed toks ≡ Ok x
all_read toks rest x is none = ap (λ (k : Result (plain.Tree × Tokens) Fault). with_place toks (k >>= whole)) (is ∙ ap (λ k. Ok (x, k)) none)

wrongly_read : (toks : Tokens) (f : Fault) → tree 64 64 64 toks ≡ Err f → parsed toks ≡ Err (fault_of toks f.why f.left)
wrongly_read toks f is = ap (λ (k : Result (plain.Tree × Tokens) Fault). with_place toks (k >>= whole)) is

-- the parser of all tokens stops where their reading goes wrong
pub stops : (left toks : Tokens) (stop : Stop) (f : Fault) → left ≡ toks → stop ≡ At f → Fails stop (tree 64 64 64 left) → tree 64 64 64 toks ≡ Err f
stops left toks stop f all is fails = ap (tree 64 64 64) (sym all) ∙ subst (λ (k : Stop). Fails k (tree 64 64 64 left)) is fails

by_reading : (toks : Tokens) (out : Result plain.Tree ParseFault) → parsed toks ≡ out → IsParsed toks out
by_reading toks out is = subst (IsParsed toks) is (parsed_is toks)

pub tree_read : (toks rest : Tokens) (t : Tree) → tree 64 64 64 toks ≡ Ok (tree_of t, rest) → rest ≡ [] → parsed toks ≡ Ok (tree_of t)
tree_read toks rest t is none = all_read toks rest (tree_of t) is none

pub tree_parsed : (toks rest : Tokens) (t : Tree) → tree 64 64 64 toks ≡ Ok (tree_of t, rest) → rest ≡ [] → IsParsed toks (Ok (tree_of t))
tree_parsed toks rest t is none = by_reading toks (Ok (tree_of t)) (all_read toks rest (tree_of t) is none)

pub fault_read : (toks : Tokens) (f : Fault) (e : ParseError) → tree 64 64 64 toks ≡ Err f → RefusesFor e (fault_of toks f.why f.left)
    → Judges (Err e) (λ verdict. parsed toks ≡ verdict)
fault_read toks f error.NoMemory is refuses = tt
fault_read toks f (error.Unexpected place) is refuses = wrongly_read toks f is ∙ ap (λ k. Err k) refuses
fault_read toks f (error.Nested place) is refuses = wrongly_read toks f is ∙ ap (λ k. Err k) refuses

pub fault_parsed : (toks : Tokens) (f : Fault) (e : ParseError) → tree 64 64 64 toks ≡ Err f → RefusesFor e (fault_of toks f.why f.left)
    → Judges (Err e) (IsParsed toks)
fault_parsed toks f error.NoMemory is refuses = tt
fault_parsed toks f (error.Unexpected place) is refuses = by_reading toks _ (fault_read toks f (error.Unexpected place) is refuses)
fault_parsed toks f (error.Nested place) is refuses = by_reading toks _ (fault_read toks f (error.Nested place) is refuses)

-- ---- places

abbrev behind_of : PlacedToken → Place
behind_of t = record { file = t.place.file; byte = t.place.byte + t.length }

ends_at : (ts : Tokens) (t : PlacedToken) → end_of (ts ++ (t ∷ [])) ≡ behind_of t
unfolding end_of
ends_at [] t = refl
ends_at (s ∷ []) t = refl
ends_at (s ∷ (u ∷ us)) t = ends_at (u ∷ us) t

pub last_ends : (xs before : List Token) (t : Token) → xs ≡ before ++ (t ∷ [])
    → ◌≡◌ {A = Place} (record { file = t.place.file; byte = t.place.byte + t.length }) (end_of (tokens_of xs))
last_ends xs before t is = sym (ap end_of (ap tokens_of is ∙ map-append token_of before (t ∷ [])) ∙ ends_at (tokens_of before) (token_of t))

pub none_ends : (xs : List Token) → xs ≡ [] → ◌≡◌ {A = Place} (record { file = 0; byte = 0 }) (end_of (tokens_of xs))
unfolding end_of
none_ends xs none = sym (ap (λ k. end_of (tokens_of k)) none)

last_of : {A : Type 0} (P : A → Type 0) (xs : List A) (x : A) → AllByRecursion P (xs ++ (x ∷ [])) → P x
last_of P [] x all = all.0
last_of P (y ∷ ys) x all = last_of P ys x all.1

pub last_within : (P : PlacedToken → Type 0) (xs before : List Token) (t : Token) → xs ≡ before ++ (t ∷ []) → AllByRecursion P (tokens_of xs) → P (token_of t)
last_within P xs before t is all =
    last_of P (tokens_of before) (token_of t) (subst (AllByRecursion P) (ap tokens_of is ∙ map-append token_of before (t ∷ [])) all)
