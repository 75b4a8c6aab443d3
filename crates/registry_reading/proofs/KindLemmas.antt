-- Types with sequences round them.
use Rattle.std.proofs.Common.{◌≡◌, ℕ, zero, suc, ◌+◌, ◌<◌, ◌≤◌, min, length, Bool, true, false, ◌==◌, ◌&&◌, List, [], ◌∷◌, ◌++◌, Option, None, Some, refl, sym, ap, ◌∙◌, arith, codes, if◌then◌else◌, ◌||◌}
use Rattle.std.proofs.lemmas.Bool.{and_parts, eqb-true, false_from_ne_true}
use Rattle.std.proofs.lemmas.Slice.Eq.{bytes_eq-Decides}
use Rattle.std.specs.Str.{bytes_eq}
use Rattle.uno_model.specs.BuiltIn.{x_interface_name, exception_name, runtime_exception_name, disposed_exception_name, factory_name}
use Rattle.uno_model.specs.Kinds.{Kind, nesting}
use Rattle.uno_model.specs.Kinds as kd
use Rattle.uno_model.specs.Names.{is_entity_name}
use Rattle.uno_model.specs.NamedTypes.{simple_of}
use Rattle.uno_model.specs.declared.type_class.TypeClass.{TypeClass}
use Rattle.uno_model.specs.declared.type_class.TypeClass.TheVariants as class
use Rattle.registry_reading_model.specs.Bodies.{changed_kind}
use Rattle.registry_reading_model.specs.Heads.{Head, named_in, head_named, kind_of_class, kind_of_head}
use Rattle.registry_reading_model.specs.Kept.{kept, resolved, cut, innermost}
use Rattle.registry_reading_model.specs.Kinds.{brackets, behind_brackets, sequences, word_kind_of, kind_of_text, or_named}
use Rattle.registry_reading_model.specs.Words.{on_some, where_}
use Rattle.registry_reading.specs.Heads.{named_by}

of_some : {X : Type 0} (x y : X) → Some x ≡ Some y → x ≡ y
of_some {X} x y e = ap out e
  where
    out : Option X → X
    out None = x
    out (Some z) = z

-- a type that is no sequence
abbrev pub IsWord : Kind → Type 0
IsWord k = (nesting k ≡ 0) × (innermost k ≡ k)

class_word : (name : List ℕ) (c : Option TypeClass) → IsWord (kind_of_class name c)
unfolding innermost
class_word name None = (refl, refl)
class_word name (Some class.Void) = (refl, refl)
class_word name (Some _) = (refl, refl)

head_word : (name : List ℕ) (h : Option Head) → IsWord (kind_of_head name h)
unfolding innermost
head_word name None = (refl, refl)
head_word name (Some h) = class_word name h.class

-- what a name stands for is no sequence
pub named_word : (heads : List Head) (name : List ℕ) → IsWord (named_in heads name)
unfolding named_in innermost
named_word heads name =
    by_first (bytes_eq name x_interface_name || bytes_eq name factory_name) (bytes_eq name exception_name || (bytes_eq name runtime_exception_name || bytes_eq name disposed_exception_name))
  where
    by_first : (b d : Bool) → IsWord (if b then kd.interface name else (if d then kd.exception name else kind_of_head name (head_named name heads)))
    by_first true d = (refl, refl)
    by_first false true = (refl, refl)
    by_first false false = head_word name (head_named name heads)

-- a word is no sequence
either : (b : Bool) (k : Kind) (o : Option Kind) → nesting k ≡ 0 → ((j : Kind) → o ≡ Some j → nesting j ≡ 0) → (j : Kind) → (if b then Some k else o) ≡ Some j → nesting j ≡ 0
either true k o plain others j e = ap nesting (sym (of_some k j e)) ∙ plain
either false k o plain others j e = others j e

simple_plain : (text : List ℕ) (j : Kind) → simple_of text ≡ Some j → nesting j ≡ 0
unfolding simple_of
simple_plain text =
    either _ kd.void _ refl (either _ kd.char _ refl (either _ kd.boolean _ refl (either _ kd.byte _ refl (either _ kd.short _ refl
    (either _ kd.unsigned_short _ refl (either _ kd.long _ refl (either _ kd.unsigned_long _ refl (either _ kd.hyper _ refl
    (either _ kd.unsigned_hyper _ refl (either _ kd.str _ refl (either _ kd.kind _ refl (either _ kd.any None refl (λ j e. absurd cc)))))))))))))

word_plain : (text : List ℕ) (w : Kind) → word_kind_of text ≡ Some w → nesting w ≡ 0
unfolding word_kind_of
word_plain text w is = by_simple (simple_of text) refl
  where
    named : (b : Bool) → where_ b (Some (kd.struct text)) ≡ Some w → nesting w ≡ 0
    named true e = ap nesting (sym (of_some (kd.struct text) w e))
    named false e = absurd cc

    by_simple : (o : Option Kind) → simple_of text ≡ o → nesting w ≡ 0
    by_simple (Some k) reads = simple_plain text w (reads ∙ ap (or_named text) (sym reads) ∙ is)
    by_simple None reads = named (is_entity_name text) (ap (or_named text) (sym reads) ∙ is)

-- and stays none where its name is resolved
resolved_word : (heads : List Head) (w : Kind) → nesting w ≡ 0 → IsWord (resolved (named_in heads) w)
unfolding resolved innermost
resolved_word heads (kd.enum name) plain = named_word heads name
resolved_word heads (kd.struct name) plain = named_word heads name
resolved_word heads (kd.exception name) plain = named_word heads name
resolved_word heads (kd.interface name) plain = named_word heads name
resolved_word heads (kd.sequence k) plain = absurd (omega (arith, plain))
resolved_word heads kd.void plain = (refl, refl)
resolved_word heads kd.char plain = (refl, refl)
resolved_word heads kd.boolean plain = (refl, refl)
resolved_word heads kd.byte plain = (refl, refl)
resolved_word heads kd.short plain = (refl, refl)
resolved_word heads kd.unsigned_short plain = (refl, refl)
resolved_word heads kd.long plain = (refl, refl)
resolved_word heads kd.unsigned_long plain = (refl, refl)
resolved_word heads kd.hyper plain = (refl, refl)
resolved_word heads kd.unsigned_hyper plain = (refl, refl)
resolved_word heads kd.str plain = (refl, refl)
resolved_word heads kd.kind plain = (refl, refl)
resolved_word heads kd.any plain = (refl, refl)

-- ---- sequences

pub no_sequence : (k : Kind) → k ≡ sequences 0 k
unfolding sequences
no_sequence k = refl

pub one_sequence_more : (n : ℕ) (k j : Kind) → j ≡ kd.sequence (sequences n k) → j ≡ sequences (n + 1) k
unfolding sequences
one_sequence_more n k j is = let on : n + 1 ≡ suc n = omega arith in is ∙ ap (λ m. sequences m k) (sym on)

resolved_inside : (named : List ℕ → Kind) (n : ℕ) (w : Kind) → resolved named (sequences n w) ≡ sequences n (resolved named w)
unfolding resolved sequences
resolved_inside named zero w = refl
resolved_inside named (suc n) w = ap kd.sequence (resolved_inside named n w)

nested : (n : ℕ) (v : Kind) → nesting v ≡ 0 → nesting (sequences n v) ≡ n
unfolding sequences
nested zero v plain = plain
nested (suc n) v plain = ap suc (nested n v plain)

inner : (n : ℕ) (v : Kind) → innermost v ≡ v → innermost (sequences n v) ≡ v
unfolding sequences innermost
inner zero v plain = plain
inner (suc n) v plain = inner n v plain

cut_word : (n : ℕ) (v : Kind) → IsWord v → cut (sequences n v) ≡ sequences (min 65 n) v
unfolding cut
cut_word n v word = λ i. sequences (min 65 (nested n v word.0 i)) (inner n v word.1 i)

-- of the sequences in front at most 65 are kept, round what the word stands for
pub changed_is : (heads : List Head) (text rest : List ℕ) (levels : ℕ) (o p : Option Kind) → rest ≡ behind_brackets text → levels ≡ min 65 (brackets text)
    → o ≡ on_some (word_kind_of rest) (λ w. Some (resolved (named_in heads) w)) → p ≡ on_some o (λ k. Some (sequences levels k))
    → p ≡ changed_kind (kept (named_in heads)) text
unfolding kind_of_text
changed_is heads text rest levels o p at many is made =
    made ∙
    ap (λ x. on_some x (λ k. Some (sequences levels k))) (is ∙ ap (λ r. on_some (word_kind_of r) (λ w. Some (resolved (named_in heads) w))) at) ∙ by_word (word_kind_of (behind_brackets text)) refl
  where
    by_word : (w : Option Kind) → word_kind_of (behind_brackets text) ≡ w
        → on_some (on_some w (λ k. Some (resolved (named_in heads) k))) (λ k. Some (sequences levels k))
        ≡ on_some (on_some w (λ k. Some (sequences (brackets text) k))) (λ k. Some (cut (resolved (named_in heads) k)))
    by_word None reads = refl
    by_word (Some w) reads =
        let word = resolved_word heads w (word_plain (behind_brackets text) w reads) in
        ap Some (ap (λ n. sequences n (resolved (named_in heads) w)) many
        ∙ sym (ap cut (resolved_inside (named_in heads) (brackets text) w) ∙ cut_word (brackets text) (resolved (named_in heads) w) word))

-- ---- brackets

pub bracket_step : (text b : List ℕ) → text ≡ codes "[]" ++ b → (brackets text ≡ suc (brackets b)) × (behind_brackets text ≡ behind_brackets b)
unfolding brackets behind_brackets
bracket_step text b is = (ap brackets is, ap behind_brackets is)

pub no_bracket : (text : List ℕ) → ((b : List ℕ) → text ≡ codes "[]" ++ b → ⊥) → (brackets text ≡ 0) × (behind_brackets text ≡ text)
unfolding brackets behind_brackets
no_bracket [] none = (refl, refl)
no_bracket (c ∷ []) none = (refl, refl)
no_bracket (c ∷ (d ∷ cs)) none = by_test ((c == 91) && (d == 93)) refl
  where
    by_test : (b : Bool) → ((c == 91) && (d == 93)) ≡ b → (brackets (c ∷ (d ∷ cs)) ≡ 0) × (behind_brackets (c ∷ (d ∷ cs)) ≡ c ∷ (d ∷ cs))
    by_test true both =
        let parts = and_parts (c == 91) (d == 93) both in
        absurd (none cs (λ i. eqb-true c 91 parts.0 i ∷ (eqb-true d 93 parts.1 i ∷ cs)))
    by_test false other = (ap (λ b. if b then suc (brackets cs) else 0) other, ap (λ b. if b then behind_brackets cs else c ∷ (d ∷ cs)) other)

-- ---- the loop over them

pub on_rest : (text rest b : List ℕ) → rest ≡ codes "[]" ++ b → behind_brackets rest ≡ behind_brackets text → behind_brackets b ≡ behind_brackets text
on_rest text rest b is at = sym (bracket_step rest b is).1 ∙ at

pub on_levels : (text rest b : List ℕ) (levels next : ℕ) → rest ≡ codes "[]" ++ b → next ≡ min 65 (levels + 1) → min 65 (levels + brackets rest) ≡ min 65 (brackets text)
    → min 65 (next + brackets b) ≡ min 65 (brackets text)
on_levels text rest b levels next is more at = omega (arith, more, at, (bracket_step rest b is).0)

-- ---- simple types are no names

either_stays : (named : List ℕ → Kind) (b : Bool) (k : Kind) (o : Option Kind) → resolved named k ≡ k → ((j : Kind) → o ≡ Some j → resolved named j ≡ j) → (j : Kind)
    → (if b then Some k else o) ≡ Some j → resolved named j ≡ j
either_stays named true k o stays others j e = let same = of_some k j e in ap (resolved named) (sym same) ∙ stays ∙ same
either_stays named false k o stays others j e = others j e

simple_stays : (named : List ℕ → Kind) (text : List ℕ) (j : Kind) → simple_of text ≡ Some j → resolved named j ≡ j
unfolding simple_of resolved
simple_stays named text =
    either_stays named _ kd.void _ refl (either_stays named _ kd.char _ refl (either_stays named _ kd.boolean _ refl (either_stays named _ kd.byte _ refl
    (either_stays named _ kd.short _ refl (either_stays named _ kd.unsigned_short _ refl (either_stays named _ kd.long _ refl (either_stays named _ kd.unsigned_long _ refl
    (either_stays named _ kd.hyper _ refl (either_stays named _ kd.unsigned_hyper _ refl (either_stays named _ kd.str _ refl (either_stays named _ kd.kind _ refl
    (either_stays named _ kd.any None refl (λ j e. absurd cc)))))))))))))

pub simple_read : (heads : List Head) (text : List ℕ) (k : Kind) → Some k ≡ simple_of text → Some k ≡ on_some (word_kind_of text) (λ w. Some (resolved (named_in heads) w))
unfolding word_kind_of
simple_read heads text k reads =
    ap Some (sym (simple_stays (named_in heads) text k (sym reads))) ∙ ap (λ o. on_some (or_named text o) (λ w. Some (resolved (named_in heads) w))) reads

pub at_most : (n next : ℕ) → next ≡ min 65 n → next ≤ 65
at_most n next is = omega (arith, is)

pub kept_levels : (text rest : List ℕ) (levels : ℕ) → min 65 (levels + brackets rest) ≡ min 65 (brackets text) → levels ≤ 65 → brackets rest ≡ 0 → levels ≡ min 65 (brackets text)
kept_levels text rest levels at few none = omega (arith, at, few, none)

-- ---- what is no simple type

none_of_test : (b : Bool) (k : Kind) (o : Option Kind) → b ≡ false → o ≡ None → (if b then Some k else o) ≡ None
none_of_test false k o other none = none
none_of_test true k o other none = let bad : true ≡ false = other in cc

shorter_word : (text word : List ℕ) → length word < length text → bytes_eq text word ≡ false
shorter_word text word less = false_from_ne_true (bytes_eq text word) (λ same. omega (arith, less, ap length ((bytes_eq-Decides text word).0 same)))

pub no_simple : (text : List ℕ) → 14 < length text → None ≡ simple_of text
unfolding simple_of
no_simple text long =
    let other : (word : List ℕ) → length word ≤ 14 → bytes_eq text word ≡ false = λ word few. shorter_word text word (omega (arith, long, few)) in
    sym (none_of_test _ kd.void _ (other (codes "void") (omega arith)) (none_of_test _ kd.char _ (other (codes "char") (omega arith))
    (none_of_test _ kd.boolean _ (other (codes "boolean") (omega arith)) (none_of_test _ kd.byte _ (other (codes "byte") (omega arith))
    (none_of_test _ kd.short _ (other (codes "short") (omega arith)) (none_of_test _ kd.unsigned_short _ (other (codes "unsigned short") (omega arith))
    (none_of_test _ kd.long _ (other (codes "long") (omega arith)) (none_of_test _ kd.unsigned_long _ (other (codes "unsigned long") (omega arith))
    (none_of_test _ kd.hyper _ (other (codes "hyper") (omega arith)) (none_of_test _ kd.unsigned_hyper _ (other (codes "unsigned hyper") (omega arith))
    (none_of_test _ kd.str _ (other (codes "string") (omega arith)) (none_of_test _ kd.kind _ (other (codes "type") (omega arith))
    (none_of_test _ kd.any None (other (codes "any") (omega arith)) refl)))))))))))))

-- the name of an entity stands for what its header says
pub name_read : (heads : List Head) (text name : List ℕ) (found : Option Head) (named_class : Option TypeClass) (b : Bool) (k : Kind) → None ≡ simple_of text → b ≡ is_entity_name text
    → b ≡ true → found ≡ head_named text heads → k ≡ kind_of_class name named_class → name ≡ text → kind_of_class text named_class ≡ named_by found text
    → Some k ≡ on_some (word_kind_of text) (λ w. Some (resolved (named_in heads) w))
unfolding word_kind_of resolved named_in named_by
name_read heads text name found named_class b k none is entity at made same by =
    ap Some (made ∙ ap (λ n. kind_of_class n named_class) same ∙ by ∙ ap (λ h. named_by h text) at)
    ∙ ap (λ t. on_some (where_ t (Some (kd.struct text))) (λ w. Some (resolved (named_in heads) w))) (sym entity ∙ is)
    ∙ ap (λ o. on_some (or_named text o) (λ w. Some (resolved (named_in heads) w))) none
