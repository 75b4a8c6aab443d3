-- The text of entities that can be written is read, as those entities with each name in a type as a struct's.
use Rattle.std.proofs.Common.{◌≡◌, ℕ, Bool, true, false, not, ◌&&◌, ◌||◌, List, [], ◌∷◌, ◌++◌, map, Option, None, Some, Ok, Err, if◌then◌else◌, refl}
use Rattle.std.proofs.Common.{sym, ap, subst, ◌∙◌, codes}
use Rattle.std.proofs.lemmas.Bool.{and_parts, not-true}
use Rattle.std.proofs.lemmas.List.{append-nil, append_assoc, map_push}
use Rattle.std.proofs.lemmas.Slice.Eq.{bytes_eq-Decides}
use Rattle.std.specs.List.{flat_map}
use Rattle.std.specs.Str.{bytes_eq}
use Rattle.uno_model.specs.Entities.{Body, Entity}
use Rattle.uno_model.specs.Registry.{IsRising}
use Rattle.registry_text_model.specs.Lines.{entity_lines, header_line, body_lines, is_built_in_name}
use Rattle.registry_text_model.specs.Reading.{is_writable, are_writable, text_lines}
use Rattle.registry_reading_model.proofs.ChangeLaws.{above_changed}
use Rattle.registry_reading_model.proofs.LineForth.{emptied, run_body, header_forth, body_forth, no_end}
use Rattle.registry_reading_model.proofs.RisingLaws.{above_of_rising}
use Rattle.registry_reading_model.proofs.StateRunLaws.{run_append}
use Rattle.registry_reading_model.specs.Bodies.{body_line}
use Rattle.registry_reading_model.specs.Changes.{Change, same, body_changed, entity_changed}
use Rattle.registry_reading_model.specs.Headers.{header_of}
use Rattle.registry_reading_model.specs.Kept.{unresolved}
use Rattle.registry_reading_model.specs.States.{unread, between, within, out_of_order, step, run, gone_on, on_read, is_above, with_body}
use Rattle.registry_reading_model.specs.Words.{on_some}

-- a line under a header is no `end`
lines_go_on : (o : Bool) (c : Change) (es : List Entity) (e : Entity) (line : List ℕ) (next : Body) → body_line c e.body line ≡ Some next
    → step o c (within es e) line ≡ Ok (within es (with_body e next))
unfolding step
lines_go_on o c es e line next read = by_test (bytes_eq line (codes "end")) refl
  where
    by_test : (b : Bool) → bytes_eq line (codes "end") ≡ b
        → (if b then Ok (between (es ++ e ∷ [])) else gone_on es e (body_line c e.body line)) ≡ Ok (within es (with_body e next))
    by_test true is =
        let none : body_line c e.body line ≡ None = subst (λ l. body_line c e.body l ≡ None) (sym ((bytes_eq-Decides line (codes "end")).0 is)) (no_end c e.body) in
        let both : None ≡ Some next = sym none ∙ read in
        let worse : ⊥ = cc in
        absurd worse
    by_test false is = rw read refl

run_lines : (o : Bool) (c : Change) (es : List Entity) (e : Entity) (b last : Body) (lines : List (List ℕ)) → run_body c b lines ≡ Some last
    → run o c (within es (with_body e b)) lines ≡ Ok (within es (with_body e last))
unfolding run run_body
run_lines o c es e b last [] read = let now : b ≡ last = cc in ap (λ x. Ok (within es (with_body e x))) now
run_lines o c es e b last (line ∷ lines) read = by_line (body_line c b line) refl read (λ next. run_lines o c es e next last lines)
  where
    by_line : (r : Option Body) → body_line c b line ≡ r → on_some r (λ next. run_body c next lines) ≡ Some last
        → ((next : Body) → run_body c next lines ≡ Some last → run o c (within es (with_body e next)) lines ≡ Ok (within es (with_body e last)))
        → on_read (step o c (within es (with_body e b)) line) (λ next. run o c next lines) ≡ Ok (within es (with_body e last))
    by_line None is has rest = let worse : ⊥ = cc in absurd worse
    by_line (Some next) is has rest = rw (lines_go_on o c es (with_body e b) line next is) (rest next has)

ends : (o : Bool) (c : Change) (es : List Entity) (e : Entity) → run o c (within es e) (codes "end" ∷ []) ≡ Ok (between (es ++ e ∷ []))
unfolding run step
ends o c es e = refl

begins_entity : (o : Bool) (es : List Entity) (line : List ℕ) (e : Entity) → header_of same line ≡ Some e → (o ≡ true → is_above es e.name ≡ true)
    → step o same (between es) line ≡ Ok (within es e)
unfolding step
begins_entity o es line e read above = rw read (by_order o above)
  where
    by_order : (b : Bool) → (b ≡ true → is_above es e.name ≡ true)
        → (if not b || is_above es e.name then Ok (within es e) else Err out_of_order) ≡ Ok (within es e)
    by_order true is = rw (is refl) refl
    by_order false is = refl

run_entity : (o : Bool) (es : List Entity) (e : Entity) → is_writable e ≡ true → is_built_in_name e.name ≡ false
    → (o ≡ true → is_above es e.name ≡ true)
    → run o same (between es) (entity_lines e) ≡ Ok (between (es ++ entity_changed unresolved e ∷ []))
unfolding run
run_entity o es e writable written above =
    let opened = with_body (entity_changed unresolved e) (body_changed unresolved (emptied e.body)) in
    rw (begins_entity o es (header_line e) opened (header_forth e writable written) above)
    (run_append o same (within es opened) (body_lines e.body) (codes "end" ∷ [])
    ∙ ap (λ r. on_read r (λ next. run o same next (codes "end" ∷ [])))
    (run_lines o same es (entity_changed unresolved e) (body_changed unresolved (emptied e.body)) (body_changed unresolved e.body) (body_lines e.body) (body_forth e writable))
    ∙ ends o same es (entity_changed unresolved e))

runs_from : (o : Bool) (done es : List Entity) → are_writable es ≡ true → (o ≡ true → IsRising (done ++ es))
    → run o same (between (map (entity_changed unresolved) done)) (flat_map entity_lines es) ≡ Ok (between (map (entity_changed unresolved) (done ++ es)))
unfolding run
runs_from o done [] writable rising = ap (λ ds. Ok (between (map (entity_changed unresolved) ds))) (sym (append-nil done))
runs_from o done (e ∷ es) writable rising =
    let parts = and_parts (is_writable e && not (is_built_in_name e.name)) (are_writable es) writable in
    let own = and_parts (is_writable e) (not (is_built_in_name e.name)) parts.0 in
    let above : o ≡ true → is_above (map (entity_changed unresolved) done) e.name ≡ true =
    λ ordered. above_changed unresolved done e.name ∙ above_of_rising done e es (rising ordered) in
    let one = run_entity o (map (entity_changed unresolved) done) e own.0 (not-true _ own.1) above in
    let pushed : map (entity_changed unresolved) done ++ entity_changed unresolved e ∷ [] ≡ map (entity_changed unresolved) (done ++ e ∷ []) =
    sym (map_push (entity_changed unresolved) done e) in
    run_append o same (between (map (entity_changed unresolved) done)) (entity_lines e) (flat_map entity_lines es)
    ∙ ap (λ r. on_read r (λ next. run o same next (flat_map entity_lines es))) (one ∙ ap (λ ds. Ok (between ds)) pushed)
    ∙ runs_from o (done ++ e ∷ []) es parts.1 (λ ordered. subst IsRising (sym (append_assoc done (e ∷ []) es)) (rising ordered))
    ∙ ap (λ ds. Ok (between (map (entity_changed unresolved) ds))) (append_assoc done (e ∷ []) es)

pub runs : (o : Bool) (es : List Entity) → are_writable es ≡ true → (o ≡ true → IsRising es)
    → run o same unread (text_lines es) ≡ Ok (between (map (entity_changed unresolved) es))
unfolding run step
runs o es writable rising = runs_from o [] es writable rising
