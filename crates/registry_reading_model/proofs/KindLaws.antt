-- Types, both ways: each name in a type is read as a struct's.
use Rattle.std.proofs.Common.{◌≡◌, ℕ, suc, Bool, true, false, ◌&&◌, ◌==◌, List, [], ◌∷◌, Option, None, Some, refl, sym, ap, subst, ◌∙◌, codes}
use Rattle.std.specs.Str.{bytes_eq}
use Rattle.std.proofs.lemmas.Bool.{and_parts, both_ways, eqb-true, false_from_ne_true}
use Rattle.uno_model.proofs.NameLaws.{no_bracket, no_simple}
use Rattle.uno_model.proofs.Options.{same_some, none_some}
use Rattle.uno_model.specs.Kinds.{Kind, name_of}
use Rattle.uno_model.specs.Kinds as kd
use Rattle.uno_model.specs.NamedTypes.{simple_of}
use Rattle.uno_model.specs.Names.{is_entity_name}
use Rattle.registry_text_model.specs.Reading.{is_spelled}
use Rattle.registry_reading_model.specs.Kept.{resolved}
use Rattle.registry_reading_model.specs.Kinds.{brackets, behind_brackets, sequences, or_named, word_kind_of, kind_of_text}
use Rattle.registry_reading_model.specs.Words.{on_some}
use Rattle.registry_reading_model.proofs.WordLaws.{same_word, given, allowed, chosen}

-- ---- what is written is read

no_front : (name : List ℕ) → is_entity_name name ≡ true → (brackets name ≡ 0) × (behind_brackets name ≡ name)
unfolding brackets behind_brackets
no_front [] named = (refl, refl)
no_front (c ∷ []) named = (refl, refl)
no_front (c ∷ (d ∷ cs)) named =
    let other : (c == 91) ≡ false = false_from_ne_true (c == 91)
    (λ e. both_ways (is_entity_name (91 ∷ (d ∷ cs))) (no_bracket (d ∷ cs))
    (subst (λ b. is_entity_name (b ∷ (d ∷ cs)) ≡ true) (eqb-true c 91 e) named)) in
    (rw other refl, rw other refl)

named_forth : (name : List ℕ) → is_entity_name name ≡ true → kind_of_text name ≡ Some (kd.struct name)
unfolding kind_of_text word_kind_of sequences
named_forth name named =
    let front = no_front name named in
    rw (front.0, front.1, no_simple name named, named) refl

sequence_forth : (o : Option Kind) (n : ℕ) (k : Kind) → on_some o (λ j. Some (sequences n j)) ≡ Some k
    → on_some o (λ j. Some (sequences (suc n) j)) ≡ Some (kd.sequence k)
unfolding sequences
sequence_forth None n k is = absurd (none_some is)
sequence_forth (Some j) n k is = ap (λ i. Some (kd.sequence i)) (same_some is)

behind_forth : (t : List ℕ) (k : Kind) → kind_of_text t ≡ Some k → kind_of_text (91 ∷ (93 ∷ t)) ≡ Some (kd.sequence k)
unfolding kind_of_text brackets behind_brackets
behind_forth t k is = sequence_forth (word_kind_of (behind_brackets t)) (brackets t) k is

pub kind_forth : (k : Kind) → is_spelled k ≡ true → kind_of_text (name_of k) ≡ Some (resolved kd.struct k)
unfolding kind_of_text word_kind_of simple_of brackets behind_brackets sequences resolved
kind_forth (kd.enum name) spelled = named_forth name spelled
kind_forth (kd.struct name) spelled = named_forth name spelled
kind_forth (kd.exception name) spelled = named_forth name spelled
kind_forth (kd.interface name) spelled = named_forth name spelled
kind_forth (kd.sequence k) spelled = behind_forth (name_of k) (resolved kd.struct k) (kind_forth k spelled)
kind_forth kd.void spelled = refl
kind_forth kd.char spelled = refl
kind_forth kd.boolean spelled = refl
kind_forth kd.byte spelled = refl
kind_forth kd.short spelled = refl
kind_forth kd.unsigned_short spelled = refl
kind_forth kd.long spelled = refl
kind_forth kd.unsigned_long spelled = refl
kind_forth kd.hyper spelled = refl
kind_forth kd.unsigned_hyper spelled = refl
kind_forth kd.str spelled = refl
kind_forth kd.kind spelled = refl
kind_forth kd.any spelled = refl

-- ---- what is read is written

simple_is : (text : List ℕ) (j k : Kind) → is_spelled j ≡ true → bytes_eq text (name_of j) ≡ true → Some j ≡ Some k
    → (name_of k ≡ text) × (is_spelled k ≡ true)
simple_is text j k spelled same is = subst (λ i. (name_of i ≡ text) × (is_spelled i ≡ true)) (same_some is)
    (sym (same_word text (name_of j) same), spelled)

simple_back : (text : List ℕ) (k : Kind) → simple_of text ≡ Some k → (name_of k ≡ text) × (is_spelled k ≡ true)
unfolding simple_of
simple_back text k read =
    chosen (bytes_eq text (codes "void")) _ _ k read (simple_is text kd.void k refl) (λ read.
    chosen (bytes_eq text (codes "char")) _ _ k read (simple_is text kd.char k refl) (λ read.
    chosen (bytes_eq text (codes "boolean")) _ _ k read (simple_is text kd.boolean k refl) (λ read.
    chosen (bytes_eq text (codes "byte")) _ _ k read (simple_is text kd.byte k refl) (λ read.
    chosen (bytes_eq text (codes "short")) _ _ k read (simple_is text kd.short k refl) (λ read.
    chosen (bytes_eq text (codes "unsigned short")) _ _ k read (simple_is text kd.unsigned_short k refl) (λ read.
    chosen (bytes_eq text (codes "long")) _ _ k read (simple_is text kd.long k refl) (λ read.
    chosen (bytes_eq text (codes "unsigned long")) _ _ k read (simple_is text kd.unsigned_long k refl) (λ read.
    chosen (bytes_eq text (codes "hyper")) _ _ k read (simple_is text kd.hyper k refl) (λ read.
    chosen (bytes_eq text (codes "unsigned hyper")) _ _ k read (simple_is text kd.unsigned_hyper k refl) (λ read.
    chosen (bytes_eq text (codes "string")) _ _ k read (simple_is text kd.str k refl) (λ read.
    chosen (bytes_eq text (codes "type")) _ _ k read (simple_is text kd.kind k refl) (λ read.
    chosen (bytes_eq text (codes "any")) _ _ k read (simple_is text kd.any k refl) (λ read. absurd (none_some read))))))))))))))

word_kind_back : (text : List ℕ) (k : Kind) → word_kind_of text ≡ Some k → (name_of k ≡ text) × (is_spelled k ≡ true)
unfolding word_kind_of
word_kind_back text k read = by_simple (simple_of text) refl read
  where
    by_simple : (o : Option Kind) → simple_of text ≡ o → or_named text o ≡ Some k → (name_of k ≡ text) × (is_spelled k ≡ true)
    by_simple (Some j) simple is = simple_back text k (simple ∙ is)
    by_simple None simple is =
        let named = allowed (is_entity_name text) (Some (kd.struct text)) k is in
        subst (λ i. (name_of i ≡ text) × (is_spelled i ≡ true)) (same_some named.1) (refl, named.0)

-- so many `[]`, and what is behind them
brackets_back : (t : List ℕ) (j : Kind) → (name_of j ≡ behind_brackets t) × (is_spelled j ≡ true)
    → (name_of (sequences (brackets t) j) ≡ t) × (is_spelled (sequences (brackets t) j) ≡ true)
unfolding brackets behind_brackets sequences
brackets_back [] j is = is
brackets_back (c ∷ []) j is = is
brackets_back (c ∷ (d ∷ cs)) j is = by_test ((c == 91) && (d == 93)) refl (brackets_back cs j) is
  where
    Whole : List ℕ → Type 0
    Whole t = (name_of (sequences (brackets t) j) ≡ t) × (is_spelled (sequences (brackets t) j) ≡ true)

    by_test : (b : Bool) → ((c == 91) && (d == 93)) ≡ b → ((name_of j ≡ behind_brackets cs) × (is_spelled j ≡ true) → Whole cs)
        → (name_of j ≡ behind_brackets (c ∷ (d ∷ cs))) × (is_spelled j ≡ true) → Whole (c ∷ (d ∷ cs))
    by_test false other inner is =
        let itself : (name_of j ≡ c ∷ (d ∷ cs)) × (is_spelled j ≡ true) = rw other at is in
        rw other itself
    by_test true here inner is =
        let behind : (name_of j ≡ behind_brackets cs) × (is_spelled j ≡ true) = rw here at is in
        let rest = inner behind in
        let marks = and_parts (c == 91) (d == 93) here in
        let front : 91 ∷ (93 ∷ cs) ≡ c ∷ (d ∷ cs) = ap (λ b. b ∷ (93 ∷ cs)) (sym (eqb-true c 91 marks.0))
        ∙ ap (λ b. c ∷ (b ∷ cs)) (sym (eqb-true d 93 marks.1)) in
        rw here (ap (λ t. 91 ∷ (93 ∷ t)) rest.0 ∙ front, rest.1)

pub kind_back : (t : List ℕ) (k : Kind) → kind_of_text t ≡ Some k → (name_of k ≡ t) × (is_spelled k ≡ true)
unfolding kind_of_text
kind_back t k read =
    let word = given (word_kind_of (behind_brackets t)) (λ j. Some (sequences (brackets t) j)) k read in
    subst (λ i. (name_of i ≡ t) × (is_spelled i ≡ true)) (same_some word.2)
    (brackets_back t word.0 (word_kind_back (behind_brackets t) word.0 word.1))
