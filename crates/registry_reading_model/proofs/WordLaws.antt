-- The words of a line, both ways.
use Rattle.std.proofs.Common.{◌≡◌, ℕ, Bool, true, false, not, ◌&&◌, ◌||◌, ◌==◌, List, [], ◌∷◌, ◌++◌, length, take, drop, Option, None, Some}
use Rattle.std.proofs.Common.{if◌then◌else◌, refl, sym, ap, subst, ◌∙◌, codes, arith}
use Rattle.std.specs.List.{list_all, list_any}
use Rattle.std.specs.Str.{bytes_eq}
use Rattle.std.proofs.lemmas.Bool.{and_parts, and_from, both_ways, eqb-true, eq-eqb, not-true, not_from_false}
use Rattle.std.proofs.lemmas.List.{take-append-drop}
use Rattle.std.proofs.Math.Seq.{take-append_seam, drop-append_seam}
use Rattle.std.proofs.lemmas.Slice.Eq.{bytes_eq-Decides}
use Rattle.uno_model.proofs.Options.{same_some, none_some}
use Rattle.uno_model.specs.Names.{begins_identifier, goes_on_identifier, is_identifier, is_entity_name, parts_of, reserved_words}
use Rattle.uno_model.specs.declared.way.Way.{Way}
use Rattle.uno_model.specs.declared.way.Way.TheVariants as way
use Rattle.registry_text_model.specs.Lines.{spaced, way_word, access_word}
use Rattle.registry_reading_model.specs.Words.{on_some, where_, split_at, word_of, identifier_of, behind, entity_name_of, identifier_alone, way_of}
use Rattle.registry_reading_model.specs.Words.{access_of}

-- ---- options and tests that gave something

pub given : {X Y : Type 0} (o : Option X) (f : X → Option Y) (y : Y) → on_some o f ≡ Some y → (x : X) × (o ≡ Some x) × (f x ≡ Some y)
given None f y e = absurd (none_some e)
given (Some x) f y e = (x, refl, e)

pub allowed : {X : Type 0} (b : Bool) (o : Option X) (x : X) → where_ b o ≡ Some x → (b ≡ true) × (o ≡ Some x)
allowed true o x e = (refl, e)
allowed false o x e = absurd (none_some e)

pub same_word : (w v : List ℕ) → bytes_eq w v ≡ true → w ≡ v
same_word w v same = (bytes_eq-Decides w v).0 same

-- ---- what stands before and behind a mark

-- the byte stands nowhere
abbrev pub lacks : ℕ → List ℕ → Bool
lacks mark text = list_all (λ c. not (c == mark)) text

pub split_forth : (mark : ℕ) (w b : List ℕ) → lacks mark w ≡ true → split_at mark (w ++ mark ∷ b) ≡ Some (w, b)
unfolding split_at
split_forth mark [] b none = rw (eq-eqb mark mark refl) refl
split_forth mark (c ∷ cs) b none =
    let parts = and_parts (not (c == mark)) (lacks mark cs) none in
    rw (not-true (c == mark) parts.0, split_forth mark cs b parts.1) refl

pub split_none : (mark : ℕ) (w : List ℕ) → lacks mark w ≡ true → split_at mark w ≡ None
unfolding split_at
split_none mark [] none = refl
split_none mark (c ∷ cs) none =
    let parts = and_parts (not (c == mark)) (lacks mark cs) none in
    rw (not-true (c == mark) parts.0, split_none mark cs parts.1) refl

pub split_back : (mark : ℕ) (text : List ℕ) (x : List ℕ × List ℕ) → split_at mark text ≡ Some x → (text ≡ x.0 ++ mark ∷ x.1) × (lacks mark x.0 ≡ true)
unfolding split_at
split_back mark [] x read = absurd (none_some read)
split_back mark (c ∷ cs) x read = by_test (c == mark) refl (split_at mark cs) refl (split_back mark cs) read
  where
    Is : List ℕ × List ℕ → List ℕ → Type 0
    Is y text = (text ≡ y.0 ++ mark ∷ y.1) × (lacks mark y.0 ≡ true)

    by_test : (t : Bool) → (c == mark) ≡ t → (o : Option (List ℕ × List ℕ)) → split_at mark cs ≡ o
        → ((y : List ℕ × List ℕ) → split_at mark cs ≡ Some y → Is y cs)
        → split_at mark (c ∷ cs) ≡ Some x → Is x (c ∷ cs)
    by_test true here o is inner read =
        let e : ([], cs) ≡ x = same_some (rw here at read) in
        let text : c ∷ cs ≡ mark ∷ cs = ap (λ d. d ∷ cs) (eqb-true c mark here) in
        subst (λ y. Is y (c ∷ cs)) e (text, refl)
    by_test false other None is inner read = absurd (none_some (rw (other, is) at read))
    by_test false other (Some y) is inner read =
        let e : (c ∷ y.0, y.1) ≡ x = same_some (rw (other, is) at read) in
        let behind = inner y is in
        subst (λ z. Is z (c ∷ cs)) e (
          ap (λ t. c ∷ t) behind.0,
          and_from (not (c == mark)) (lacks mark y.0)
              (not_from_false (c == mark) other) behind.1,
        )

pub none_split : (mark : ℕ) (text : List ℕ) → split_at mark text ≡ None → lacks mark text ≡ true
unfolding split_at
none_split mark [] read = refl
none_split mark (c ∷ cs) read = by_test (c == mark) refl (split_at mark cs) refl (none_split mark cs) read
  where
    by_test : (t : Bool) → (c == mark) ≡ t → (o : Option (List ℕ × List ℕ)) → split_at mark cs ≡ o → (split_at mark cs ≡ None → lacks mark cs ≡ true)
        → split_at mark (c ∷ cs) ≡ None → lacks mark (c ∷ cs) ≡ true
    by_test true here o is inner read = absurd (none_some (sym (rw here at read)))
    by_test false other None is inner read = and_from (not (c == mark)) (lacks mark cs) (not_from_false (c == mark) other) (inner is)
    by_test false other (Some y) is inner read = absurd (none_some (sym (rw (other, is) at read)))

-- ---- words with a blank behind them

pub word_forth : (w b : List ℕ) → lacks 32 w ≡ true → word_of (spaced w b) ≡ Some (w, b)
unfolding spaced
word_forth w b none = split_forth 32 w b none

pub word_back : (text : List ℕ) (x : List ℕ × List ℕ) → word_of text ≡ Some x → text ≡ spaced x.0 x.1
unfolding spaced
word_back text x read = (split_back 32 text x read).0

pub behind_forth : (word b : List ℕ) → behind word (word ++ b) ≡ Some b
unfolding behind
behind_forth word b =
    let front : take (length word) (word ++ b) ≡ word = take-append_seam word b in
    let rest : drop (length word) (word ++ b) ≡ b = drop-append_seam word b in
    rw (front, rest, (bytes_eq-Decides word word).1 refl) refl

pub behind_back : (word text b : List ℕ) → behind word text ≡ Some b → text ≡ word ++ b
unfolding behind
behind_back word text b read = by_test (bytes_eq (take (length word) text) word) refl read
  where
    by_test : (t : Bool) → bytes_eq (take (length word) text) word ≡ t → behind word text ≡ Some b → text ≡ word ++ b
    by_test false other read = absurd (none_some (rw other at read))
    by_test true front read =
        let e : drop (length word) text ≡ b = same_some (rw front at read) in
        sym (take-append-drop (length word) text) ∙ ap (λ t. t ++ drop (length word) text) (same_word (take (length word) text) word front)
        ∙ ap (λ t. word ++ t) e

-- ---- names

begun_goes_on : (c : ℕ) → begins_identifier c ≡ true → goes_on_identifier c ≡ true
begun_goes_on c begun = grind arith

goes_on : (w : List ℕ) → is_identifier w ≡ true → list_all goes_on_identifier w ≡ true
goes_on [] is = absurd (both_ways false refl is)
goes_on (c ∷ cs) is =
    let front = and_parts (begins_identifier c && list_all goes_on_identifier cs) (not (list_any (bytes_eq (c ∷ cs)) reserved_words)) is in
    let parts = and_parts (begins_identifier c) (list_all goes_on_identifier cs) front.0 in
    and_from (goes_on_identifier c) (list_all goes_on_identifier cs) (begun_goes_on c parts.0) parts.1

parts_go_on : (parts : List (List ℕ)) → list_all is_identifier parts ≡ true → list_all (list_all goes_on_identifier) parts ≡ true
parts_go_on [] are = refl
parts_go_on (part ∷ parts) are =
    let both = and_parts (is_identifier part) (list_all is_identifier parts) are in
    and_from (list_all goes_on_identifier part) (list_all (list_all goes_on_identifier) parts) (goes_on part both.0) (parts_go_on parts both.1)

-- a test that each byte of a name passes
module _ (P : ℕ → Bool) (each : (c : ℕ) → goes_on_identifier c ≡ true → P c ≡ true) where
  all_go_on : (w : List ℕ) → list_all goes_on_identifier w ≡ true → list_all P w ≡ true
  all_go_on [] all = refl
  all_go_on (c ∷ cs) all =
      let parts = and_parts (goes_on_identifier c) (list_all goes_on_identifier cs) all in
      and_from (P c) (list_all P cs) (each c parts.0) (all_go_on cs parts.1)

  pub identifier_all : (w : List ℕ) → is_identifier w ≡ true → list_all P w ≡ true
  identifier_all w is = all_go_on w (goes_on w is)

  all_in_parts : (w : List ℕ) → P 46 ≡ true → list_all (list_all goes_on_identifier) (parts_of w) ≡ true → list_all P w ≡ true
  unfolding parts_of
  all_in_parts [] point all = refl
  all_in_parts (c ∷ cs) point all = by_test (c == 46) refl (parts_of cs) refl (all_in_parts cs point) all
    where
      by_test : (t : Bool) → (c == 46) ≡ t → (parts : List (List ℕ)) → parts_of cs ≡ parts
          → (list_all (list_all goes_on_identifier) (parts_of cs) ≡ true → list_all P cs ≡ true)
          → list_all (list_all goes_on_identifier) (parts_of (c ∷ cs)) ≡ true → list_all P (c ∷ cs) ≡ true
      by_test true here parts is inner all =
          let first : P c ≡ true = ap P (eqb-true c 46 here) ∙ point in
          and_from (P c) (list_all P cs) first (inner (rw here at all))
      by_test false other [] is inner all =
          let front : ((goes_on_identifier c && true) && true) ≡ true = rw (other, is) at all in
          let here = and_parts (goes_on_identifier c) true (and_parts (goes_on_identifier c && true) true front).0 in
          and_from (P c) (list_all P cs) (each c here.0) (inner (rw is refl))
      by_test false other (part ∷ parts) is inner all =
          let front : ((goes_on_identifier c && list_all goes_on_identifier part) && list_all (list_all goes_on_identifier) parts) ≡ true = rw
          (other, is) at all in
          let both = and_parts (goes_on_identifier c && list_all goes_on_identifier part) (list_all (list_all goes_on_identifier) parts) front in
          let here = and_parts (goes_on_identifier c) (list_all goes_on_identifier part) both.0 in
          and_from (P c) (list_all P cs) (each c here.0) (inner
          (rw is (and_from (list_all goes_on_identifier part) (list_all (list_all goes_on_identifier) parts) here.1 both.1)))

  pub entity_name_all : (w : List ℕ) → P 46 ≡ true → is_entity_name w ≡ true → list_all P w ≡ true
  entity_name_all w point is = all_in_parts w point (parts_go_on (parts_of w) is)

identifier_byte : (mark : ℕ) → ((mark == 32) || (mark == 44)) ≡ true → (c : ℕ) → goes_on_identifier c ≡ true → not (c == mark) ≡ true
identifier_byte mark is c on = grind arith

pub identifier_no_blank : (w : List ℕ) → is_identifier w ≡ true → lacks 32 w ≡ true
identifier_no_blank w is = identifier_all (λ c. not (c == 32)) (identifier_byte 32 refl) w is

pub entity_name_no_blank : (w : List ℕ) → is_entity_name w ≡ true → lacks 32 w ≡ true
entity_name_no_blank w is = entity_name_all (λ c. not (c == 32)) (identifier_byte 32 refl) w refl is

pub identifier_no_comma : (w : List ℕ) → is_identifier w ≡ true → lacks 44 w ≡ true
identifier_no_comma w is = identifier_all (λ c. not (c == 44)) (identifier_byte 44 refl) w is

pub entity_name_no_comma : (w : List ℕ) → is_entity_name w ≡ true → lacks 44 w ≡ true
entity_name_no_comma w is = entity_name_all (λ c. not (c == 44)) (identifier_byte 44 refl) w refl is

pub identifier_forth : (w b : List ℕ) → is_identifier w ≡ true → identifier_of (spaced w b) ≡ Some (w, b)
identifier_forth w b is = rw (word_forth w b (identifier_no_blank w is), is) refl

pub identifier_back : (text : List ℕ) (x : List ℕ × List ℕ) → identifier_of text ≡ Some x → (text ≡ spaced x.0 x.1) × (is_identifier x.0 ≡ true)
identifier_back text x read =
    let word = given (word_of text) _ x read in
    let is = allowed (is_identifier word.0.0) (Some word.0) x word.2 in
    let e : word.0 ≡ x = same_some is.1 in
    subst (λ y. (text ≡ spaced y.0 y.1) × (is_identifier y.0 ≡ true)) e (word_back text word.0 word.1, is.0)

pub entity_name_back : (text name : List ℕ) → entity_name_of text ≡ Some name → (text ≡ name) × (is_entity_name name ≡ true)
entity_name_back text name read =
    let is = allowed (is_entity_name text) (Some text) name read in
    let e : text ≡ name = same_some is.1 in
    (e, ap is_entity_name (sym e) ∙ is.0)

pub identifier_alone_back : (text name : List ℕ) → identifier_alone text ≡ Some name → (text ≡ name) × (is_identifier name ≡ true)
identifier_alone_back text name read =
    let is = allowed (is_identifier text) (Some text) name read in
    let e : text ≡ name = same_some is.1 in
    (e, ap is_identifier (sym e) ∙ is.0)

-- ---- ways and accesses

pub way_forth : (w : Way) → way_of (way_word w) ≡ Some w
unfolding way_of way_word
way_forth way.Into = refl
way_forth way.Out = refl
way_forth way.Both = refl

pub access_forth : (read_only : Bool) → access_of (access_word read_only) ≡ Some read_only
unfolding access_of access_word
access_forth true = refl
access_forth false = refl

-- the first of two that was taken
pub chosen : {Y : Type 0} (b : Bool) (x y : Option Y) (z : Y) {P : Type 0} → (if b then x else y) ≡ Some z → (b ≡ true → x ≡ Some z → P)
    → (y ≡ Some z → P) → P
chosen true x y z read here behind = here refl read
chosen false x y z read here behind = behind read

pub way_back : (word : List ℕ) (w : Way) → way_of word ≡ Some w → word ≡ way_word w
unfolding way_of way_word
way_back word w read =
    chosen (bytes_eq word (codes "in")) _ _ w read (λ e r. same_word word (codes "in") e ∙ ap way_word (same_some r)) (λ read.
    chosen (bytes_eq word (codes "out")) _ _ w read (λ e r. same_word word (codes "out") e ∙ ap way_word (same_some r)) (λ read.
    chosen (bytes_eq word (codes "inout")) _ _ w read (λ e r. same_word word (codes "inout") e ∙ ap way_word (same_some r))
    (λ read. absurd (none_some read))))

pub access_back : (word : List ℕ) (read_only : Bool) → access_of word ≡ Some read_only → word ≡ access_word read_only
unfolding access_of access_word
access_back word read_only read =
    chosen (bytes_eq word (codes "ro")) _ _ read_only read (λ e r. same_word word (codes "ro") e ∙ ap access_word (same_some r)) (λ read.
    chosen (bytes_eq word (codes "rw")) _ _ read_only read (λ e r. same_word word (codes "rw") e ∙ ap access_word (same_some r))
    (λ read. absurd (none_some read)))
