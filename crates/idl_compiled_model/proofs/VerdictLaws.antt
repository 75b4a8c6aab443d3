-- Files have one verdict: each list of files has one, and no list has two.
use Rattle.std.proofs.Common.{◌≡◌, ℕ, suc, ◌+◌, List, [], ◌∷◌, ◌++◌, length, Result, Ok, Err, ◌⊎◌, inl, inr, refl, sym, ap, ap₂, subst, ◌∙◌, arith}
use Rattle.idl_text_model.specs.LexVerdicts.{LexFault, IsLexed}
use Rattle.idl_text_model.specs.Readings.{lexed}
use Rattle.idl_text_model.specs.Tokens.{Token}
use Rattle.idl_text_model.proofs.VerdictLaws.{verdicts_have_one, verdict_said}
use Rattle.idl_model.specs.ParseVerdicts.{ParseFault, IsParsed, parsed}
use Rattle.idl_model.specs.PlacedTokens.{in_file}
use Rattle.idl_model.specs.Places.{Place}
use Rattle.idl_model.specs.Trees.{Tree}
use Rattle.idl_model.proofs.ParseLaws.{parsed_is, parsed_only}
use Rattle.idl_meaning_model.specs.NameFaults.{NameFault, faults, names_told, IsResolved}
use Rattle.idl_meaning_model.proofs.FaultLaws.{none_in_nothing}
use Rattle.idl_meaning_model.proofs.FaultLaws as names
use Rattle.idl_rules_model.specs.CheckVerdicts.{IsChecked}
use Rattle.idl_rules_model.proofs.LeastLaws.{HasFirst, has_first}
use Rattle.idl_rules_model.proofs.VerdictLaws as rules
use Rattle.registry_text_model.specs.Rules.{Rule}
use Rattle.uno_model.specs.Entities.{Entity}
use Rattle.idl_compiled_model.specs.Compiling.{Refusal, IsRead, AreRead, IsUnread, StopsAtFile, StopsAtName, ComesToRules, IsCompiled}
use Rattle.idl_compiled_model.specs.Compiling as refused
use Rattle.idl_compiled_model.proofs.OfFiles.{are_of_files}

-- ---- one file

same_ok : {X E : Type 0} {x y : X} → ◌≡◌ {A = Result X E} (Ok x) (Ok y) → x ≡ y
same_ok is = cc

same_err : {X E : Type 0} {x y : E} → ◌≡◌ {A = Result X E} (Err x) (Err y) → x ≡ y
same_err is = cc

no_both : {X E : Type 0} {x : X} {e : E} → ◌≡◌ {A = Result X E} (Ok x) (Err e) → ⊥
no_both is = cc

one_parsed : (file : ℕ) (tokens : List Token) (out other : Result Tree ParseFault) → IsParsed (in_file file tokens) out → IsParsed (in_file file tokens) other → out ≡ other
one_parsed file tokens out other is that = sym (parsed_only (in_file file tokens) out is) ∙ parsed_only (in_file file tokens) other that

-- the tokens of a text are those of another verdict on it
abbrev Parsed : ℕ → List Token → Result Tree ParseFault → Type 0
Parsed file tokens out = IsParsed (in_file file tokens) out

same_tokens : (text : List ℕ) (tokens others : List Token) → IsLexed text (Ok tokens) → IsLexed text (Ok others) → tokens ≡ others
same_tokens text tokens others is that = same_ok (verdicts_have_one text (Ok tokens) (Ok others) is that)

one_tree : (file : ℕ) (text : List ℕ) (x y : Tree) → IsRead file text x → IsRead file text y → x ≡ y
one_tree file text x y first second =
    let tokens = same_tokens text first.tokens second.tokens first.lexed second.lexed in
    same_ok (one_parsed file second.tokens (Ok x) (Ok y) (subst (λ ts. Parsed file ts (Ok x)) tokens first.parsed) second.parsed)

not_read_and_unread : (file : ℕ) (text : List ℕ) (tree : Tree) (r : Refusal) → IsRead file text tree → IsUnread file text r → ⊥
not_read_and_unread file text tree (refused.lexed number fault) read un = no_both (verdicts_have_one text (Ok read.tokens) (Err fault) read.lexed un.1)
not_read_and_unread file text tree (refused.parsed fault) read un =
    let tokens = same_tokens text read.tokens un.0 read.lexed un.1 in
    no_both (one_parsed file un.0 (Ok tree) (Err fault) (subst (λ ts. Parsed file ts (Ok tree)) tokens read.parsed) un.2)
not_read_and_unread file text tree (refused.named place fault) read un = un
not_read_and_unread file text tree (refused.broken rule place) read un = un

one_refusal : (file : ℕ) (text : List ℕ) (r s : Refusal) → IsUnread file text r → IsUnread file text s → r ≡ s
one_refusal file text (refused.lexed number fault) (refused.lexed other_number other) first second =
    let faults_same = same_err (verdicts_have_one text (Err fault) (Err other) first.1 second.1) in
    ap₂ (λ (n : ℕ) (f : LexFault). refused.lexed n f) (first.0 ∙ sym second.0) faults_same
one_refusal file text (refused.lexed number fault) (refused.parsed other) first second = absurd (no_both (verdicts_have_one text (Ok second.0) (Err fault) second.1 first.1))
one_refusal file text (refused.lexed number fault) (refused.named place other) first second = absurd second
one_refusal file text (refused.lexed number fault) (refused.broken rule place) first second = absurd second
one_refusal file text (refused.parsed fault) (refused.lexed number other) first second = absurd (no_both (verdicts_have_one text (Ok first.0) (Err other) first.1 second.1))
one_refusal file text (refused.parsed fault) (refused.parsed other) first second =
    let tokens = same_tokens text first.0 second.0 first.1 second.1 in
    ap (λ (f : ParseFault). refused.parsed f) (same_err (one_parsed file second.0 (Err fault) (Err other) (subst (λ ts. Parsed file ts (Err fault)) tokens first.2) second.2))
one_refusal file text (refused.parsed fault) (refused.named place other) first second = absurd second
one_refusal file text (refused.parsed fault) (refused.broken rule place) first second = absurd second
one_refusal file text (refused.named place fault) s first second = absurd first
one_refusal file text (refused.broken rule place) s first second = absurd first

-- ---- files one after the other

-- from a number on, files are read up to one that is not
abbrev Stops : ℕ → List (List ℕ) → List Tree → List ℕ → Refusal → Type 0
Stops n before trees text r = AreRead n before trees × (k : ℕ) × (k ≡ n + length before) × IsUnread k text r

at_number : (n k : ℕ) (text : List ℕ) (r : Refusal) → k ≡ n → IsUnread k text r → IsUnread n text r
at_number n k text r same un = subst (λ m. IsUnread m text r) same un

head_same : {X : Type 0} {x y : X} {xs ys : List X} → x ∷ xs ≡ y ∷ ys → x ≡ y
head_same is = cc

tail_same : {X : Type 0} {x y : X} {xs ys : List X} → x ∷ xs ≡ y ∷ ys → xs ≡ ys
tail_same is = cc

stops_once : (n : ℕ) (before1 before2 : List (List ℕ)) (trees1 trees2 : List Tree) (text1 text2 : List ℕ) (behind1 behind2 : List (List ℕ)) (r s : Refusal)
    → before1 ++ text1 ∷ behind1 ≡ before2 ++ text2 ∷ behind2 → Stops n before1 trees1 text1 r → Stops n before2 trees2 text2 s → r ≡ s
stops_once n [] [] trees1 trees2 text1 text2 behind1 behind2 r s split first second =
    one_refusal n text2 r s (subst (λ t. IsUnread n t r) (head_same split) (at_number n first.1 text1 r (omega (arith, first.2)) first.3)) (at_number n second.1 text2 s (omega (arith, second.2)) second.3)
stops_once n [] (t ∷ ts) trees1 [] text1 text2 behind1 behind2 r s split first second = absurd second.0
stops_once n [] (t ∷ ts) trees1 (y ∷ ys) text1 text2 behind1 behind2 r s split first second =
    absurd (not_read_and_unread n t y r second.0.0 (subst (λ x. IsUnread n x r) (head_same split) (at_number n first.1 text1 r (omega (arith, first.2)) first.3)))
stops_once n (t ∷ ts) [] [] trees2 text1 text2 behind1 behind2 r s split first second = absurd first.0
stops_once n (t ∷ ts) [] (x ∷ xs) trees2 text1 text2 behind1 behind2 r s split first second =
    absurd (not_read_and_unread n t x s first.0.0 (subst (λ y. IsUnread n y s) (sym (head_same split)) (at_number n second.1 text2 s (omega (arith, second.2)) second.3)))
stops_once n (t ∷ ts) (u ∷ us) [] trees2 text1 text2 behind1 behind2 r s split first second = absurd first.0
stops_once n (t ∷ ts) (u ∷ us) (x ∷ xs) [] text1 text2 behind1 behind2 r s split first second = absurd second.0
stops_once n (t ∷ ts) (u ∷ us) (x ∷ xs) (y ∷ ys) text1 text2 behind1 behind2 r s split first second =
    stops_once (suc n) ts us xs ys text1 text2 behind1 behind2 r s (tail_same split) (first.0.1, first.1, omega (arith, first.2), first.3) (second.0.1, second.1, omega (arith, second.2), second.3)

-- what is read wholly stops nowhere
not_all_read : (n : ℕ) (before : List (List ℕ)) (trees all : List Tree) (text : List ℕ) (behind : List (List ℕ)) (r : Refusal)
    → AreRead n (before ++ text ∷ behind) all → Stops n before trees text r → ⊥
not_all_read n [] trees [] text behind r read stops = read
not_all_read n [] trees (y ∷ ys) text behind r read stops = not_read_and_unread n text y r read.0 (at_number n stops.1 text r (omega (arith, stops.2)) stops.3)
not_all_read n (t ∷ ts) trees [] text behind r read stops = read
not_all_read n (t ∷ ts) [] (y ∷ ys) text behind r read stops = stops.0
not_all_read n (t ∷ ts) (x ∷ xs) (y ∷ ys) text behind r read stops = not_all_read (suc n) ts xs ys text behind r read.1 (stops.0.1, stops.1, omega (arith, stops.2), stops.3)

one_list : (n : ℕ) (texts : List (List ℕ)) (xs ys : List Tree) → AreRead n texts xs → AreRead n texts ys → xs ≡ ys
one_list n [] [] [] first second = refl
one_list n [] [] (y ∷ ys) first second = absurd second
one_list n [] (x ∷ xs) ys first second = absurd first
one_list n (t ∷ ts) [] ys first second = absurd first
one_list n (t ∷ ts) (x ∷ xs) [] first second = absurd second
one_list n (t ∷ ts) (x ∷ xs) (y ∷ ys) first second = ap₂ (λ z zs. z ∷ zs) (one_tree n t x y first.0 second.0) (one_list (suc n) ts xs ys first.1 second.1)

-- ---- verdicts by where files stop

-- what comes of the rules comes of the files
abbrev compiled_as : Result (List Entity) (Rule × Place) → Result (List Entity) Refusal
compiled_as (Ok reg) = Ok reg
compiled_as (Err (rule, place)) = Err (refused.broken rule place)

-- they stop at a file, at a name, or at the rules
data Stop (texts : List (List ℕ)) (out : Result (List Entity) Refusal) : Type 0 where
  at_file : (r : Refusal) → out ≡ Err r → StopsAtFile texts r → Stop texts out
  at_name : (place : Place) (fault : NameFault) → out ≡ Err (refused.named place fault) → StopsAtName texts place fault → Stop texts out
  at_rules : (checked : Result (List Entity) (Rule × Place)) → out ≡ compiled_as checked → ComesToRules texts checked → Stop texts out

stop_of : (texts : List (List ℕ)) (out : Result (List Entity) Refusal) → IsCompiled texts out → Stop texts out
stop_of texts (Ok reg) is = at_rules (Ok reg) refl is
stop_of texts (Err (refused.lexed file fault)) is = at_file (refused.lexed file fault) refl is
stop_of texts (Err (refused.parsed fault)) is = at_file (refused.parsed fault) refl is
stop_of texts (Err (refused.named place fault)) is = at_name place fault refl is
stop_of texts (Err (refused.broken rule place)) is = at_rules (Err (rule, place)) refl is

stops_from : (texts : List (List ℕ)) (r : Refusal) (stop : StopsAtFile texts r) → Stops 0 stop.before stop.trees stop.text r
stops_from texts r stop = (stop.read, length stop.before, omega arith, stop.unread)

read_and_stopped : (texts : List (List ℕ)) (r : Refusal) (trees : List Tree) → AreRead 0 texts trees → StopsAtFile texts r → ⊥
read_and_stopped texts r trees read stop =
    not_all_read 0 stop.before stop.trees trees stop.text stop.behind r (subst (λ ts. AreRead 0 ts trees) stop.split read) (stops_from texts r stop)

named_or_resolved : (trees : List Tree) (told : List (Place × List ℕ)) (place : Place) (fault : NameFault) → IsResolved trees (Ok told) → IsResolved trees (Err (place, fault)) → ⊥
named_or_resolved trees told place fault first second = none_in_nothing (faults trees) (place, fault) first.0 second.one

one_name : (texts : List (List ℕ)) (place other : Place) (fault that : NameFault) → StopsAtName texts place fault → StopsAtName texts other that
    → ◌≡◌ {A = Result (List Entity) Refusal} (Err (refused.named place fault)) (Err (refused.named other that))
one_name texts place other fault that first second =
    let trees = one_list 0 texts first.trees second.trees first.read second.read in
    let both = names.one_verdict second.trees (Err (place, fault)) (Err (other, that)) (are_of_files 0 texts second.trees second.read) (subst (λ (ts : List Tree). IsResolved ts (Err (place, fault))) trees first.resolved) second.resolved in
    ap (λ (z : Place × NameFault). Err (refused.named z.0 z.1)) (same_err both)

one_check : (texts : List (List ℕ)) (c d : Result (List Entity) (Rule × Place)) → ComesToRules texts c → ComesToRules texts d → compiled_as c ≡ compiled_as d
one_check texts c d first second =
    let trees = one_list 0 texts first.trees second.trees first.read second.read in
    ap compiled_as (rules.one_verdict second.trees c d (subst (λ (ts : List Tree). IsChecked ts c) trees first.verdict) second.verdict)

name_and_rules : (texts : List (List ℕ)) (place : Place) (fault : NameFault) (c : Result (List Entity) (Rule × Place)) → StopsAtName texts place fault → ComesToRules texts c → ⊥
name_and_rules texts place fault c first second =
    let trees = one_list 0 texts first.trees second.trees first.read second.read in
    named_or_resolved second.trees second.names place fault second.resolved (subst (λ (ts : List Tree). IsResolved ts (Err (place, fault))) trees first.resolved)

one_stop : (texts : List (List ℕ)) (out other : Result (List Entity) Refusal) → Stop texts out → Stop texts other → out ≡ other
one_stop texts out other (at_file r is stop) (at_file s that stop2) =
    is ∙ ap (λ x. Err x) (stops_once 0 stop.before stop2.before stop.trees stop2.trees stop.text stop2.text stop.behind stop2.behind r s (sym stop.split ∙ stop2.split) (stops_from texts r stop) (stops_from texts s stop2)) ∙ sym that
one_stop texts out other (at_file r is stop) (at_name place fault that stop2) = absurd (read_and_stopped texts r stop2.trees stop2.read stop)
one_stop texts out other (at_file r is stop) (at_rules c that stop2) = absurd (read_and_stopped texts r stop2.trees stop2.read stop)
one_stop texts out other (at_name place fault is stop) (at_file s that stop2) = absurd (read_and_stopped texts s stop.trees stop.read stop2)
one_stop texts out other (at_name place fault is stop) (at_name q g that stop2) = is ∙ one_name texts place q fault g stop stop2 ∙ sym that
one_stop texts out other (at_name place fault is stop) (at_rules c that stop2) = absurd (name_and_rules texts place fault c stop stop2)
one_stop texts out other (at_rules c is stop) (at_file s that stop2) = absurd (read_and_stopped texts s stop.trees stop.read stop2)
one_stop texts out other (at_rules c is stop) (at_name q g that stop2) = absurd (name_and_rules texts q g c stop2 stop)
one_stop texts out other (at_rules c is stop) (at_rules d that stop2) = is ∙ one_check texts c d stop stop2 ∙ sym that

pub one_verdict : (texts : List (List ℕ)) (out other : Result (List Entity) Refusal) → IsCompiled texts out → IsCompiled texts other → out ≡ other
one_verdict texts out other is that = one_stop texts out other (stop_of texts out is) (stop_of texts other that)

-- ---- there is a verdict

-- a file is read, or it is not
read_or_not : (file : ℕ) (text : List ℕ) → ((tree : Tree) × IsRead file text tree) ⊎ ((r : Refusal) × IsUnread file text r)
read_or_not file text = by_lexed (lexed text) (verdict_said text)
  where
    by_parsed : (tokens : List Token) → IsLexed text (Ok tokens) → (out : Result Tree ParseFault) → IsParsed (in_file file tokens) out → ((tree : Tree) × IsRead file text tree) ⊎ ((r : Refusal) × IsUnread file text r)
    by_parsed tokens is (Ok tree) that = inl (tree, record { tokens = tokens; lexed = is; parsed = that })
    by_parsed tokens is (Err fault) that = inr (refused.parsed fault, (tokens, is, that))

    by_lexed : (out : Result (List Token) LexFault) → IsLexed text out → ((tree : Tree) × IsRead file text tree) ⊎ ((r : Refusal) × IsUnread file text r)
    by_lexed (Ok tokens) is = by_parsed tokens is (parsed (in_file file tokens)) (parsed_is (in_file file tokens))
    by_lexed (Err fault) is = inr (refused.lexed file fault, (refl, is))

-- files, numbered from here on, are read, or one of them is not
abbrev StopsFrom : ℕ → List (List ℕ) → Type 0
StopsFrom n texts =
    (before : List (List ℕ)) × (text : List ℕ) × (behind : List (List ℕ)) × (trees : List Tree) × (r : Refusal) × (texts ≡ before ++ text ∷ behind) × Stops n before trees text r

stops_here : (n : ℕ) (t : List ℕ) (ts : List (List ℕ)) (r : Refusal) → IsUnread n t r → StopsFrom n (t ∷ ts)
stops_here n t ts r un = ([], t, ts, [], r, refl, (tt, n, omega arith, un))

stops_later : (n : ℕ) (t : List ℕ) (ts : List (List ℕ)) (tree : Tree) → IsRead n t tree → StopsFrom (suc n) ts → StopsFrom n (t ∷ ts)
stops_later n t ts tree here (before, text, behind, trees, r, split, (others, k, same, un)) =
    (t ∷ before, text, behind, tree ∷ trees, r, ap (λ us. t ∷ us) split, ((here, others), k, omega (arith, same), un))

read_or_stopped : (n : ℕ) (texts : List (List ℕ)) → ((trees : List Tree) × AreRead n texts trees) ⊎ StopsFrom n texts
read_or_stopped n [] = inl ([], tt)
read_or_stopped n (t ∷ ts) = elim (read_or_not n t) [
  | inr un ↦ inr (stops_here n t ts un.0 un.1)
  | inl read ↦ elim (read_or_stopped (suc n) ts) [ inl rest ↦ inl (read.0 ∷ rest.0, (read.1, rest.1)) | inr stop ↦ inr (stops_later n t ts read.0 read.1 stop) ]
]

abbrev HasVerdict : List (List ℕ) → Type 0
HasVerdict texts = (out : Result (List Entity) Refusal) × IsCompiled texts out

stopped : (texts : List (List ℕ)) (r : Refusal) → StopsAtFile texts r → IsCompiled texts (Err r)
stopped texts (refused.lexed file fault) stop = stop
stopped texts (refused.parsed fault) stop = stop
stopped texts (refused.named place fault) stop = absurd stop.unread
stopped texts (refused.broken rule place) stop = absurd stop.unread

checked : (texts : List (List ℕ)) (trees : List Tree) → AreRead 0 texts trees → faults trees ≡ [] → (c : Result (List Entity) (Rule × Place)) → IsChecked trees c → HasVerdict texts
checked texts trees read none (Ok reg) is = (Ok reg, record { trees = trees; read = read; names = names_told trees; resolved = (none, refl); verdict = is })
checked texts trees read none (Err (rule, place)) is =
    (Err (refused.broken rule place), record { trees = trees; read = read; names = names_told trees; resolved = (none, refl); verdict = is })

of_trees : (texts : List (List ℕ)) (trees : List Tree) → AreRead 0 texts trees → HasVerdict texts
of_trees texts trees read = by_faults (faults trees) refl
  where
    by_faults : (fs : List (Place × NameFault)) → faults trees ≡ fs → HasVerdict texts
    by_faults [] none = let verdict = rules.a_verdict trees in checked texts trees read none verdict.0 verdict.1
    by_faults (f ∷ fs) some =
        let first : HasFirst (λ (z : Place × NameFault). z.0) (faults trees) = subst (HasFirst (λ (z : Place × NameFault). z.0)) (sym some) (has_first (λ (z : Place × NameFault). z.0) f fs) in
        let fault : Place × NameFault = first.0 in
        (Err (refused.named fault.0 fault.1), record { trees = trees; read = read; resolved = record { one = first.1; first = first.2 } })

of_stop : (texts : List (List ℕ)) → StopsFrom 0 texts → HasVerdict texts
of_stop texts (before, text, behind, trees, r, split, (others, k, same, un)) = (
  Err r,
  stopped texts r (record {
    before = before;
    text = text;
    behind = behind;
    split = split;
    trees = trees;
    read = others;
    unread = at_number (length before) k text r (omega (arith, same)) un;
  }),
)

pub a_verdict : (texts : List (List ℕ)) → HasVerdict texts
a_verdict texts = elim (read_or_stopped 0 texts) [ inl read ↦ of_trees texts read.0 read.1 | inr stop ↦ of_stop texts stop ]
