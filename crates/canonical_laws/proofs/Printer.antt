-- The canonical UNOIDL of a registry that keeps the rules is the text of a tree that writes it.
use Rattle.std.proofs.Common.{◌≡◌, ℕ, ◌≤◌, true, List, [], ◌∷◌, ◌++◌, length, refl, flat_map, codes}
use Rattle.std.proofs.lemmas.Bool.{and_parts}
use Rattle.std.specs.List.{list_all}
use Rattle.grammar_model.specs.Relations.{Many}
use Rattle.idl_compiled_model.specs.Compiling.{IsRead}
use Rattle.idl_model.specs.Grammar.{Tokens, IsDef, IsTree}
use Rattle.idl_model.specs.PlacedTokens.{in_file}
use Rattle.idl_model.specs.Trees.{Tree}
use Rattle.idl_text_model.specs.Tokens.{Word}
use Rattle.registry_text_model.specs.Canonical.{parted, entity_tokens, canonical_line, canonical_unoidl, in_modules}
use Rattle.registry_text_model.specs.Lines.{written}
use Rattle.registry_text_model.specs.Rules.{KeepsTheRules}
use Rattle.uno_model.specs.Entities.{Entity}
use Rattle.uno_model.specs.Names.{parts_of}
use Rattle.uno_model.specs.Sound.{few_modules, is_some_list}
use Rattle.canonical_laws.proofs.Chunks.{IsChunk, AreChunks, parted_chunk}
use Rattle.canonical_laws.proofs.EntityReadings.{fine_entity, reads_entity}
use Rattle.canonical_laws.proofs.Fits.{trees_fit}
use Rattle.canonical_laws.proofs.RuleFacts.{is_printable, all_printable}
use Rattle.canonical_laws.proofs.RuleReadings.{words_in, Reads, split_words}
use Rattle.canonical_laws.proofs.TextLaws.{AreLines, no_lines, line_in_front, lines_are_lexed}
use Rattle.canonical_laws.specs.Written.{Each, WritesEntity, WritesRegistry}

-- the lines of a text are words, and tokens with these words are the text of a tree that writes the entities
record ReadsLines (text : List ℕ) (es : List Entity) : Type 0 where
  words : List Word
  lines : AreLines text words
  spelled : (u : Tokens) → words_in u ≡ words → (ds : Tree) × IsTree ds u × Each WritesEntity ds es

none_spelled : (u : Tokens) → words_in u ≡ [] → (ds : Tree) × IsTree ds u × Each WritesEntity ds []
unfolding Many
none_spelled [] same = ([], refl, tt)
none_spelled (t ∷ u) same = let bad : ⊥ = cc in absurd bad

nothing_read : ReadsLines [] []
nothing_read = record { words = []; lines = no_lines; spelled = none_spelled }

-- there is a first word
line_chunk : (ts : List (List ℕ)) (words : List Word) → is_some_list ts ≡ true → AreChunks ts words → IsChunk (parted ts) words
line_chunk [] words some are = let bad : ⊥ = cc in absurd bad
line_chunk (t ∷ ts) words some are = parted_chunk t ts words are

some_behind : (ts : List (List ℕ)) (t : List ℕ) → is_some_list (ts ++ t ∷ []) ≡ true
some_behind [] t = refl
some_behind (x ∷ xs) t = refl

line_read : (e : Entity) (es : List Entity) (text : List ℕ) → is_printable e ≡ true → ReadsLines text es
    → ReadsLines ((canonical_line e ++ 10 ∷ []) ++ text) (e ∷ es)
unfolding Many
line_read e es text printable others = record { words = one.words ++ others.words; lines = lines; spelled = spelled }
  where
    one : Reads IsDef (λ d. WritesEntity d e) (entity_tokens e)
    one = reads_entity e (and_parts (fine_entity e) (few_modules e.name) printable).0

    lines : AreLines ((canonical_line e ++ 10 ∷ []) ++ text) (one.words ++ others.words)
    lines =
        line_in_front (canonical_line e) text one.words others.words
        (line_chunk (entity_tokens e) one.words (some_behind (in_modules e.published e.body (parts_of e.name)) (codes ";")) one.chunks) others.lines

    spelled : (u : Tokens) → words_in u ≡ one.words ++ others.words → (ds : Tree) × IsTree ds u × Each WritesEntity ds (e ∷ es)
    spelled u same =
        let parts = split_words one.words others.words u same in
        let first = one.spelled parts.0 parts.3 in
        let second = others.spelled parts.1 parts.4 in
        (first.0 ∷ second.0, (parts.0, parts.1, parts.2, first.1, second.1), (first.2, second.2))

lines_read : (es : List Entity) → list_all is_printable es ≡ true → ReadsLines (flat_map (λ e. canonical_line e ++ 10 ∷ []) es) es
lines_read [] all = nothing_read
lines_read (e ∷ es) all =
    let parts = and_parts (is_printable e) (list_all is_printable es) all in
    line_read e es (flat_map (λ x. canonical_line x ++ 10 ∷ []) es) parts.0 (lines_read es parts.1)

-- the text of a registry, where it fits
pub text_is_read : (reg : List Entity) → KeepsTheRules reg → length (canonical_unoidl reg) ≤ 4194304
    → (ds : Tree) × IsRead 0 (canonical_unoidl reg) ds × WritesRegistry ds reg
unfolding WritesRegistry
text_is_read reg keeps fits =
    let printable = all_printable reg keeps in
    let read = lines_read (written reg) printable in
    let lexed = lines_are_lexed (canonical_unoidl reg) read.words read.lines fits in
    let parsed = read.spelled (in_file 0 lexed.0) lexed.2 in
    (parsed.0, record { tokens = lexed.0; lexed = lexed.1; parsed = (parsed.1, trees_fit parsed.0 (written reg) parsed.2 printable) }, parsed.2)
