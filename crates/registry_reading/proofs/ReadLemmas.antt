-- From line to line, and from the last of them to the whole.
use Rattle.std.proofs.Common.{◌≡◌, ℕ, ◌+◌, ◌<◌, Bool, true, false, List, [], ◌∷◌, ◌++◌, length, length-append, Ok, Err, refl, sym, ap, subst, ◌∙◌, arith, codes, ◌⊎◌, inl, inr, if◌then◌else◌}
use Rattle.std.specs.Str.{bytes_eq}
use Rattle.std.proofs.lemmas.Slice.Eq.{bytes_eq-Decides}
use Rattle.std.specs.Prelude.{Result, IfOk, IfErr}
use Rattle.std.specs.Result.{IsErrAnd}
use Rattle.uno_model.specs.BuiltIn.{HasBuiltIn}
use Rattle.uno_model.specs.Entities as plain
use Rattle.uno_model.specs.Registry.{IsRising}
use Rattle.uno_model.specs.Sound.{IsSound}
use Rattle.registry_text_model.specs.Lines.{written, registry_text}
use Rattle.registry_text_model.specs.Reading.{IsBadLine, IsOutOfOrder, is_one_line}
use Rattle.registry_text_model.specs.Rules.{KeepsTheRules}
use Rattle.registry_reading_model.specs.Heads.{Head, named_in, heads_in}
use Rattle.registry_reading_model.specs.Kept.{kept}
use Rattle.registry_reading_model.specs.States.{unread, between, bad, step}
use Rattle.registry_reading_model.specs.TextLines.{lines_in, all_plain}
use Rattle.registry_reading_model.specs.Whole.{ReadWhole}
use Rattle.registry_reading_model.proofs.ReadingLaws.{ReadSoFar, nothing_read, one_read, bad_read, order_read, no_text_read, cut_read, unfinished_read, whole_read, lines_read, heads_read}
use Rattle.registry_reading_model.proofs.FinalLaws.{said}
use Rattle.registry_reading_model.proofs.NoneOfRegistry.{no_bad_line, not_out_of_order, breaks_none, one_registry}
use Rattle.registry_text_model.proofs.SoundLaws.{rules_make_sound}
use Rattle.registry_reading.specs.declared.error.RegError.{RegError}
use Rattle.registry_reading.specs.declared.error.RegError.TheVariants as error
use Rattle.registry_reading.specs.declared.reader.Reader.{Reader}
use Rattle.registry_reading.specs.Readers.{state_of, IsRead}
use Rattle.registry_reading.specs.Verdicts.{IsAtLine, IsOfLines, IsRefusal, IsAccepted}
use Rattle.registry_reading.specs.Judging.{KeepsAll}

-- these lines were read, and the next has this number
pub record InLines (bytes rest : List ℕ) (number : ℕ) (heads : List Head) (r : Reader) : Type 0 where
  pub far : ReadSoFar bytes rest number (kept (named_in heads)) (state_of r)
  pub read : IsRead r

-- ---- the first line

first_step : (heads : List Head) (here : List ℕ) (b : Bool) → bytes_eq here (codes "unoreg 1") ≡ b → step true (kept (named_in heads)) unread here ≡ (if b then Ok (between []) else Err bad)
unfolding step
first_step heads here b is = ap (λ c. if c then Ok (between []) else Err bad) is

-- without a line there is none
pub no_first : (bytes : List ℕ) → is_one_line bytes ≡ true → (heads : List Head) → IsBadLine bytes 1
no_first bytes one heads = by_bytes bytes one
  where
    by_bytes : (bs : List ℕ) → is_one_line bs ≡ true → IsBadLine bs 1
    by_bytes [] none = unfinished_read [] [] 1 (kept (named_in heads)) unread (nothing_read [] (kept (named_in heads))) refl (λ es. λ is. differs es is)
      where
        differs : (es : List plain.Entity) → unread ≡ between es → ⊥
        differs es is = cc
    by_bytes (b ∷ bs) some = cut_read (b ∷ bs) (b ∷ bs) 1 (kept (named_in heads)) unread (nothing_read (b ∷ bs) (kept (named_in heads))) some (λ e. cc)

pub wrong_first : (bytes here behind : List ℕ) (heads : List Head) → bytes ≡ here ++ 10 ∷ behind → is_one_line here ≡ true → bytes_eq here (codes "unoreg 1") ≡ false → IsBadLine bytes 1
wrong_first bytes here behind heads cut one other =
    bad_read bytes bytes 1 (kept (named_in heads)) unread (nothing_read bytes (kept (named_in heads))) here behind cut one (first_step heads here false other)

pub right_first : (bytes here behind : List ℕ) → bytes ≡ here ++ 10 ∷ behind → bytes_eq here (codes "unoreg 1") ≡ true → bytes ≡ codes "unoreg 1" ++ 10 ∷ behind
right_first bytes here behind cut same = cut ∙ ap (λ l. l ++ 10 ∷ behind) ((bytes_eq-Decides here (codes "unoreg 1")).0 same)

-- behind it
pub begun : (bytes behind : List ℕ) (heads : List Head) (r : Reader) → bytes ≡ codes "unoreg 1" ++ 10 ∷ behind → state_of r ≡ between [] → IsRead r → InLines bytes behind 2 heads r
begun bytes behind heads r cut at read =
    record {
      far =
          one_read bytes bytes 1 (kept (named_in heads)) unread (nothing_read bytes (kept (named_in heads))) (codes "unoreg 1") behind (state_of r) cut
          (first_step heads (codes "unoreg 1") true refl ∙ ap Ok (sym at));
      read = read;
    }

-- ---- one line more

pub one_line_on : (bytes rest here behind : List ℕ) (number : ℕ) (heads : List Head) (r next : Reader) → InLines bytes rest number heads r → rest ≡ here ++ 10 ∷ behind
    → step true (kept (named_in heads)) (state_of r) here ≡ Ok (state_of next) → IsRead next → InLines bytes behind (number + 1) heads next
one_line_on bytes rest here behind number heads r next lines cut stepped read =
    record { far = one_read bytes rest number (kept (named_in heads)) (state_of r) lines.far here behind (state_of next) cut stepped; read = read }

pub shorter : (rest here behind : List ℕ) → rest ≡ here ++ 10 ∷ behind → length behind < length rest
shorter rest here behind cut = omega (arith, ap length cut, length-append here (10 ∷ behind))

pub line_refused : (bytes rest here behind : List ℕ) (number : ℕ) (heads : List Head) (r : Reader) → InLines bytes rest number heads r → rest ≡ here ++ 10 ∷ behind
    → is_one_line here ≡ true → (e : RegError) → IsAtLine (kept (named_in heads)) (state_of r) here number e → IsOfLines bytes e
line_refused bytes rest here behind number heads r lines cut one error.NoMemory is = tt
line_refused bytes rest here behind number heads r lines cut one (error.BadLine n) (at, why) =
    subst (IsBadLine bytes) (sym at)
    (elim why [
      | inl no_text ↦ no_text_read bytes rest number (kept (named_in heads)) (state_of r) lines.far here behind cut one no_text
      | inr wrong ↦ bad_read bytes rest number (kept (named_in heads)) (state_of r) lines.far here behind cut one wrong
    ])
line_refused bytes rest here behind number heads r lines cut one (error.Order n) (at, wrong) =
    subst (IsOutOfOrder bytes) (sym at) (order_read bytes rest number (kept (named_in heads)) (state_of r) lines.far here behind cut one wrong)
line_refused bytes rest here behind number heads r lines cut one (error.Rule n line) is = absurd is
line_refused bytes rest here behind number heads r lines cut one error.TooLong is = absurd is

-- ---- the end

pub end_refused : (bytes rest : List ℕ) (number : ℕ) (heads : List Head) (r : Reader) → InLines bytes rest number heads r → is_one_line rest ≡ true → (e : RegError)
    → (e ≡ error.BadLine number) × (rest ≡ [] → (es : List plain.Entity) → state_of r ≡ between es → ⊥) → IsOfLines bytes e
end_refused bytes rest number heads r lines one e (at, owed) = subst (IsOfLines bytes) (sym at) (by_rest rest refl)
  where
    by_rest : (cs : List ℕ) → rest ≡ cs → IsBadLine bytes number
    by_rest [] none = unfinished_read bytes rest number (kept (named_in heads)) (state_of r) lines.far none (owed none)
    by_rest (c ∷ cs) some = cut_read bytes rest number (kept (named_in heads)) (state_of r) lines.far one (λ none. let bad_list : [] ≡ c ∷ cs = sym none ∙ some in cc)

pub whole : (bytes rest : List ℕ) (number : ℕ) (heads : List Head) (r : Reader) (reg : List plain.Entity) → InLines bytes rest number heads r
    → (all_plain (lines_in bytes) ≡ true → heads ≡ heads_in (lines_in bytes)) → rest ≡ [] → state_of r ≡ between (written reg) → IsRising reg → HasBuiltIn reg → ReadWhole bytes heads reg
whole bytes rest number heads r reg lines looked none at rising has =
    let all = whole_read bytes rest number (kept (named_in heads)) (state_of r) lines.far (written reg) none at in
    let plain_lines = (lines_read bytes rest number (kept (named_in heads)) (state_of r) lines.far (written reg) none at).1 in
    record {
      entities = all.0;
      text = all.2;
      writable = all.3;
      order = all.4;
      heads_are = looked plain_lines ∙ heads_read bytes all.0 all.2 all.3;
      keeps = all.1;
      rising = rising;
      built_in = has;
    }

-- ---- what is said of a call's result, from what it says itself

pub on_done : {X E : Type 0} (P Q : X → Type 0) (r : Result X E) → ((x : X) → P x → Q x) → IfOk r P → IfOk r Q
on_done P Q (Ok x) f is = f x is
on_done P Q (Err e) f is = tt

pub on_refused : {X E : Type 0} (P Q : E → Type 0) (r : Result X E) → ((e : E) → P e → Q e) → IfErr r P → IfErr r Q
on_refused P Q (Ok x) f is = tt
on_refused P Q (Err e) f is = f e is

-- an error that is handed on
pub handed_on : {X : Type 0} (r : Result X RegError) (P : RegError → Type 0) (e : RegError) → IsErrAnd r (λ x. x ≡ e) → P e → IfErr r P
handed_on (Ok x) P e is holds = tt
handed_on (Err x) P e is holds = subst P (sym is) holds

-- ---- the verdict

pub accepted : (bytes : List ℕ) (heads : List Head) (reg : List plain.Entity) → ReadWhole bytes heads reg → KeepsAll heads reg → IsAccepted bytes reg
accepted bytes heads reg read keeps =
    let both = said bytes heads reg read keeps.long keeps.others in
    record { text = both.0; keeps = both.1; rising = read.rising; built_in = read.built_in }

pub sound : (bytes : List ℕ) (reg : List plain.Entity) → IsAccepted bytes reg → IsSound reg
sound bytes reg is = rules_make_sound reg is.keeps

pub accepts : (bytes : List ℕ) (r : Result (List plain.Entity) RegError) → IfOk r (IsAccepted bytes) → IfErr r (IsRefusal bytes) → (reg : List plain.Entity) → KeepsTheRules reg
    → HasBuiltIn reg → IsRising reg → registry_text reg ≡ bytes → (r ≡ Ok reg) ⊎ (r ≡ Err error.NoMemory)
accepts bytes (Ok x) is refused reg keeps has rising text = inl (ap Ok (one_registry x reg is.keeps keeps is.built_in has is.rising rising (is.text ∙ sym text)))
accepts bytes (Err error.NoMemory) is refused reg keeps has rising text = inr refl
accepts bytes (Err (error.BadLine line)) is refused reg keeps has rising text = absurd (no_bad_line bytes reg keeps rising text line refused)
accepts bytes (Err (error.Order line)) is refused reg keeps has rising text = absurd (not_out_of_order bytes reg keeps rising text line refused)
accepts bytes (Err (error.Rule number line)) is refused reg keeps has rising text = absurd (breaks_none bytes reg keeps rising text has refused.rule line refused.breaks)
accepts bytes (Err error.TooLong) is refused reg keeps has rising text = absurd refused
