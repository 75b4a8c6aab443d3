-- A line that is read is one line of ASCII.
use Rattle.std.proofs.Common.{◌≡◌, ℕ, Bool, true, false, not, ◌&&◌, ◌==◌, List, [], ◌∷◌, Option, None, Some, Ok, Err, refl, sym, subst, codes}
use Rattle.std.specs.Prelude.{nat_lt}
use Rattle.std.specs.List.{list_all}
use Rattle.std.specs.Str.{bytes_eq, IsAscii, IsUtf8, is_utf8}
use Rattle.std.proofs.lemmas.Bool.{and_parts, ltb-true}
use Rattle.std.proofs.lemmas.Str.{IsUtf8-from_ascii, is_utf8-from_IsUtf8}
use Rattle.std.proofs.lemmas.Str.Ascii.{IsAscii-nil, IsAscii-cons}
use Rattle.uno_model.specs.Entities.{Body, Entity}
use Rattle.registry_reading_model.specs.Bodies.{body_line}
use Rattle.registry_reading_model.specs.Changes.{same}
use Rattle.registry_reading_model.specs.Headers.{header_of}
use Rattle.registry_reading_model.specs.States.{State, unread, between, within, Wrong, step, begun, gone_on}
use Rattle.registry_reading_model.proofs.HeaderBack.{header_is}
use Rattle.registry_reading_model.proofs.LineBack.{body_back}
use Rattle.registry_reading_model.proofs.PrintedLaws.{is_text, is_text_byte}
use Rattle.registry_reading_model.proofs.WordLaws.{same_word}

wrong_right : {w : Wrong} {st : State} → Err w ≡ Ok st → ⊥
wrong_right is = cc

pub line_is_text : (o : Bool) (st st' : State) (line : List ℕ) → step o same st line ≡ Ok st'
    → list_all (λ c. nat_lt c 128 && not (c == 10)) line ≡ true
unfolding step
line_is_text o unread st' line read = by_test (bytes_eq line (codes "unoreg 1")) refl read
  where
    by_test : (t : Bool) → bytes_eq line (codes "unoreg 1") ≡ t → step o same unread line ≡ Ok st' → is_text line ≡ true
    by_test true first read = subst (λ l. is_text l ≡ true) (sym (same_word line (codes "unoreg 1") first)) refl
    by_test false other read = absurd (wrong_right (rw other at read))
line_is_text o (between done) st' line read = by_header (header_of same line) refl read
  where
    by_header : (h : Option Entity) → header_of same line ≡ h → begun o done h ≡ Ok st' → is_text line ≡ true
    by_header None is read = absurd (wrong_right read)
    by_header (Some e) is read = (header_is line e is).text
line_is_text o (within done e) st' line read = by_end (bytes_eq line (codes "end")) refl read
  where
    by_line : (b : Option Body) → body_line same e.body line ≡ b → gone_on done e b ≡ Ok st' → is_text line ≡ true
    by_line None is read = absurd (wrong_right read)
    by_line (Some b) is read = (body_back e.body b line is).text

    by_end : (t : Bool) → bytes_eq line (codes "end") ≡ t → step o same (within done e) line ≡ Ok st' → is_text line ≡ true
    by_end true last read = subst (λ l. is_text l ≡ true) (sym (same_word line (codes "end") last)) refl
    by_end false other read = by_line (body_line same e.body line) refl (rw other at read)

-- such a line is UTF-8
pub text_is_ascii : (line : List ℕ) → is_text line ≡ true → IsAscii line
text_is_ascii [] text = IsAscii-nil
text_is_ascii (c ∷ cs) text =
    let parts = and_parts (is_text_byte c) (is_text cs) text in
    let low = ltb-true c 128 (and_parts (nat_lt c 128) (not (c == 10)) parts.0).0 in
    IsAscii-cons c cs low (text_is_ascii cs parts.1)

pub line_is_utf8 : (o : Bool) (st st' : State) (line : List ℕ) → step o same st line ≡ Ok st' → IsUtf8 line
line_is_utf8 o st st' line read = IsUtf8-from_ascii line (text_is_ascii line (line_is_text o st st' line read))

pub line_passes_utf8 : (o : Bool) (st st' : State) (line : List ℕ) → step o same st line ≡ Ok st' → is_utf8 line ≡ true
line_passes_utf8 o st st' line read = is_utf8-from_IsUtf8 line (line_is_utf8 o st st' line read)
