-- What was read of a text is the front of the text of the entities that were read.
use Rattle.std.proofs.Common.{◌≡◌, ℕ, Bool, true, false, not, ◌&&◌, ◌||◌, List, [], ◌∷◌, ◌++◌, Option, None, Some, Result, Ok, Err, if◌then◌else◌}
use Rattle.std.proofs.Common.{refl, sym, ap, ap₂, subst, ◌∙◌, codes}
use Rattle.std.proofs.lemmas.Bool.{and_parts, and_from, not_from_false}
use Rattle.std.proofs.lemmas.List.{append-nil, append_assoc, map_push}
use Rattle.std.proofs.lemmas.List.Concat.{flat_map-append}
use Rattle.std.proofs.lemmas.Slice.Eq.{bytes_eq-Decides}
use Rattle.std.specs.List.{flat_map}
use Rattle.std.specs.Str.{bytes_eq}
use Rattle.uno_model.proofs.AllLaws.{all_append, of_append}
use Rattle.uno_model.specs.Entities.{Body, Entity}
use Rattle.uno_model.specs.Registry.{IsRising}
use Rattle.registry_text_model.specs.Lines.{entity_lines, header_line, body_lines, is_built_in_name}
use Rattle.registry_text_model.specs.Reading.{is_writable, are_writable, text_lines}
use Rattle.registry_reading_model.proofs.LineBack.{line_back, header_back}
use Rattle.registry_reading_model.proofs.RisingLaws.{rising_more, rising_by_names}
use Rattle.registry_reading_model.specs.Bodies.{body_line}
use Rattle.registry_reading_model.specs.Changes.{same}
use Rattle.registry_reading_model.specs.Headers.{header_of}
use Rattle.registry_reading_model.specs.States.{State, unread, between, within, Wrong, bad, out_of_order, step, run, begun, gone_on, on_read}
use Rattle.registry_reading_model.specs.States.{is_above, with_body}

-- the lines that were read
abbrev pub lines_of : State → List (List ℕ)
lines_of unread = []
lines_of (between es) = text_lines es
lines_of (within es e) = text_lines es ++ header_line e ∷ body_lines e.body

-- the entities, the last of which may be one that has not ended
abbrev pub entities_of : State → List Entity
entities_of unread = []
entities_of (between es) = es
entities_of (within es e) = es ++ e ∷ []

pub record Good (o : Bool) (st : State) : Type 0 where
  pub writable : are_writable (entities_of st) ≡ true
  pub rising : o ≡ true → IsRising (entities_of st)

-- what stands behind them in the text of the entities
abbrev pub left_of : State → List (List ℕ)
left_of unread = codes "unoreg 1" ∷ []
left_of (between es) = []
left_of (within es e) = codes "end" ∷ []

one_more_text : (es : List Entity) (e : Entity) → text_lines (es ++ e ∷ []) ≡ (text_lines es ++ header_line e ∷ body_lines e.body) ++ codes "end" ∷ []
one_more_text es e =
    ap (λ ls. codes "unoreg 1" ∷ ls)
    (flat_map-append entity_lines es (e ∷ []) ∙ ap (λ ls. flat_map entity_lines es ++ ls) (append-nil (entity_lines e))
    ∙ sym (append_assoc (flat_map entity_lines es) (header_line e ∷ body_lines e.body) (codes "end" ∷ [])))

pub text_of_entities : (st : State) → text_lines (entities_of st) ≡ lines_of st ++ left_of st
text_of_entities unread = refl
text_of_entities (between es) = sym (append-nil (text_lines es))
text_of_entities (within es e) = one_more_text es e

-- ---- one line

begun_good : (o : Bool) (es : List Entity) (line : List ℕ) (e : Entity) → Good o (between es) → header_of same line ≡ Some e
    → (o ≡ true → is_above es e.name ≡ true)
    → (lines_of (within es e) ≡ text_lines es ++ line ∷ []) × Good o (within es e)
begun_good o es line e good read above =
    let back = header_back line e read in
    let own : (is_writable e && not (is_built_in_name e.name)) ≡ true = and_from _ _ back.2 (not_from_false _ back.3) in (
      ap (λ ls. text_lines es ++ ls) (ap₂ (λ l ls. l ∷ ls) back.0 back.1),
      record {
        writable = all_append (λ d. is_writable d && not (is_built_in_name d.name)) es (e ∷ []) good.writable (and_from _ _ own refl);
        rising = λ ordered. rising_more es e (good.rising ordered) (above ordered);
      },
    )

gone_on_good : (o : Bool) (es : List Entity) (e : Entity) (line : List ℕ) (b : Body) → Good o (within es e) → body_line same e.body line ≡ Some b
    → (lines_of (within es (with_body e b)) ≡ (text_lines es ++ header_line e ∷ body_lines e.body) ++ line ∷ []) × Good o (within es (with_body e b))
gone_on_good o es e line b good read =
    let back = line_back e.body b line read in
    let both = of_append (λ d. is_writable d && not (is_built_in_name d.name)) es (e ∷ []) good.writable in
    let own = and_parts (is_writable e) (not (is_built_in_name e.name)) (and_parts _ true both.1).0 in
    let written : is_writable (with_body e b) ≡ true = back.2 e own.0 in (
      rw (back.1 e.name, back.0) (sym (append_assoc (text_lines es) (header_line e ∷ body_lines e.body) (line ∷ []))),
      record {
        writable = all_append (λ d. is_writable d && not (is_built_in_name d.name)) es (with_body e b ∷ []) both.0 (and_from _ _ (and_from _ _ written own.1) refl);
        rising = λ ordered.
            rising_by_names (es ++ e ∷ []) (es ++ with_body e b ∷ []) (map_push (λ d. d.name) es e ∙ sym (map_push (λ d. d.name) es (with_body e b))) (good.rising ordered);
      },
    )

pub step_back : (o : Bool) (st st' : State) (line : List ℕ) → Good o st → step o same st line ≡ Ok st'
    → (lines_of st' ≡ lines_of st ++ line ∷ []) × Good o st'
unfolding step
step_back o unread st' line good read = by_test (bytes_eq line (codes "unoreg 1")) refl read
  where
    by_test : (b : Bool) → bytes_eq line (codes "unoreg 1") ≡ b → (if b then Ok (between []) else Err bad) ≡ Ok st'
        → (lines_of st' ≡ line ∷ []) × Good o st'
    by_test true is has =
        let same_line : line ≡ codes "unoreg 1" = (bytes_eq-Decides line (codes "unoreg 1")).0 is in
        let now : between [] ≡ st' = cc in
        subst (λ s. (lines_of s ≡ line ∷ []) × Good o s) now (ap (λ l. l ∷ []) (sym same_line), record { writable = refl; rising = good.rising })
    by_test false is has = let worse : ⊥ = cc in absurd worse
step_back o (between es) st' line good read = by_header (header_of same line) refl read
  where
    by_test : (e : Entity) (b c : Bool) → header_of same line ≡ Some e → b ≡ is_above es e.name → o ≡ c
        → (if not c || b then Ok (within es e) else Err out_of_order) ≡ Ok st'
        → (lines_of st' ≡ text_lines es ++ line ∷ []) × Good o st'
    by_test e true c is above same_order has =
        let now : within es e ≡ st' = by_order c has in
        subst (λ s. (lines_of s ≡ text_lines es ++ line ∷ []) × Good o s) now (begun_good o es line e good is (λ ordered. sym above))
      where
        by_order : (d : Bool) → (if not d || true then Ok (within es e) else Err out_of_order) ≡ Ok st' → within es e ≡ st'
        by_order true has = cc
        by_order false has = cc
    by_test e false true is above same_order has = let worse : ⊥ = cc in absurd worse
    by_test e false false is above same_order has =
        let now : within es e ≡ st' = cc in
        subst (λ s. (lines_of s ≡ text_lines es ++ line ∷ []) × Good o s) now (begun_good o es line e good is (λ ordered. let worse : ⊥ = cc in absurd worse))

    by_header : (h : Option Entity) → header_of same line ≡ h → begun o es h ≡ Ok st' → (lines_of st' ≡ text_lines es ++ line ∷ []) × Good o st'
    by_header None is has = let worse : ⊥ = cc in absurd worse
    by_header (Some e) is has = by_test e (is_above es e.name) o is refl refl has
step_back o (within es e) st' line good read = by_test (bytes_eq line (codes "end")) refl read
  where
    by_line : (b : Option Body) → body_line same e.body line ≡ b → gone_on es e b ≡ Ok st'
        → (lines_of st' ≡ (text_lines es ++ header_line e ∷ body_lines e.body) ++ line ∷ []) × Good o st'
    by_line None is has = let worse : ⊥ = cc in absurd worse
    by_line (Some b) is has =
        let now : within es (with_body e b) ≡ st' = cc in
        subst (λ s. (lines_of s ≡ (text_lines es ++ header_line e ∷ body_lines e.body) ++ line ∷ []) × Good o s) now (gone_on_good o es e line b good is)

    by_test : (b : Bool) → bytes_eq line (codes "end") ≡ b
        → (if b then Ok (between (es ++ e ∷ [])) else gone_on es e (body_line same e.body line)) ≡ Ok st'
        → (lines_of st' ≡ (text_lines es ++ header_line e ∷ body_lines e.body) ++ line ∷ []) × Good o st'
    by_test true is has =
        let same_line : line ≡ codes "end" = (bytes_eq-Decides line (codes "end")).0 is in
        let now : between (es ++ e ∷ []) ≡ st' = cc in
        subst (λ s. (lines_of s ≡ (text_lines es ++ header_line e ∷ body_lines e.body) ++ line ∷ []) × Good o s) now (
          one_more_text es e ∙ ap (λ l. (text_lines es ++ header_line e ∷ body_lines e.body) ++ l ∷ []) (sym same_line),
          record { writable = good.writable; rising = good.rising },
        )
    by_test false is has = by_line (body_line same e.body line) refl has

-- ---- lines

pub run_back : (o : Bool) (lines : List (List ℕ)) (st st' : State) → Good o st → run o same st lines ≡ Ok st'
    → (lines_of st' ≡ lines_of st ++ lines) × Good o st'
unfolding run
run_back o [] st st' good read =
    let now : st ≡ st' = cc in
    subst (λ s. (lines_of s ≡ lines_of st ++ []) × Good o s) now (sym (append-nil (lines_of st)), good)
run_back o (line ∷ lines) st st' good read = by_step (step o same st line) refl read (λ next. run_back o lines next st')
  where
    by_step : (r : Result State Wrong) → step o same st line ≡ r → on_read r (λ next. run o same next lines) ≡ Ok st'
        → ((next : State) → Good o next → run o same next lines ≡ Ok st' → (lines_of st' ≡ lines_of next ++ lines) × Good o st')
        → (lines_of st' ≡ lines_of st ++ line ∷ lines) × Good o st'
    by_step (Err w) is has rest = let worse : ⊥ = cc in absurd worse
    by_step (Ok next) is has rest =
        let one = step_back o st next line good is in
        let more = rest next one.1 has in
        (more.0 ∙ ap (λ ls. ls ++ lines) one.0 ∙ append_assoc (lines_of st) (line ∷ []) lines, more.1)

pub nothing_good : (o : Bool) → Good o unread
unfolding Rattle.std.specs.List.Sorted.IsStrictlySortedBy
nothing_good o = record { writable = refl; rising = λ ordered. tt }

pub begins : (o : Bool) (st : State) (lines : List (List ℕ)) → run o same unread lines ≡ Ok st → (lines_of st ≡ lines) × Good o st
begins o st lines read = run_back o lines unread st (nothing_good o) read
