-- The headers that are found in the text of entities are those of the entities; in any text their names rise.
use Rattle.std.proofs.Common.{◌≡◌, ℕ, suc, ◌+◌, ◌<◌, Bool, true, false, not, ◌&&◌, ◌||◌, ◌==◌, List, [], ◌∷◌, ◌++◌, length, map, if◌then◌else◌, refl}
use Rattle.std.proofs.Common.{sym, ap, ap₂, subst, ◌∙◌, codes, arith}
use Rattle.std.proofs.lemmas.Bool.{and_parts, not-true, ne_eqb, or_right}
use Rattle.std.proofs.lemmas.Cmp.{nat_list_cmp_total}
use Rattle.std.proofs.lemmas.List.{append-nil, append_assoc, map_push, length-append}
use Rattle.std.proofs.lemmas.List.Concat.{flat_map-append}
use Rattle.std.specs.Cmp.Lexicographic.{slice_cmp}
use Rattle.std.specs.List.{flat_map, list_all, list_any}
use Rattle.std.specs.List.Sorted.{IsStrictlySortedBy}
use Rattle.std.specs.Ordering.{nat_cmp}
use Rattle.std.specs.Str.{bytes_eq}
use Rattle.uno_model.specs.Entities.{Entity}
use Rattle.uno_model.specs.Registry.{IsRising}
use Rattle.registry_text_model.specs.EnumValues.{values_are_long}
use Rattle.registry_text_model.specs.Lines.{entity_lines, header_line, body_lines, is_built_in_name}
use Rattle.registry_text_model.specs.Reading.{is_writable, are_writable, text_lines}
use Rattle.registry_reading_model.proofs.HeadLineLaws.{class_of_body, header_head, header_no_end, is_no_end, lines_seen}
use Rattle.registry_reading_model.proofs.RisingLaws.{AllBelow, less_from_below, sorted_more, above_of_rising}
use Rattle.registry_reading_model.specs.Heads.{Head, head_of, beyond_long, is_above_last, head_added, last_marked, one_line_on, heads_on, heads_in}
use Rattle.registry_reading_model.specs.States.{is_above}
use Rattle.registry_reading_model.specs.Words.{behind}

abbrev pub head_names : List Head → List (List ℕ)
head_names heads = map (λ h. h.name) heads

-- ---- names rise

below_head : (hs : List Head) (name : List ℕ) → IsStrictlySortedBy (slice_cmp nat_cmp) (head_names hs) → is_above_last hs name ≡ true
    → AllBelow (head_names hs) name
unfolding is_above_last IsStrictlySortedBy
below_head [] name sorted above = tt
below_head (h ∷ []) name sorted above = (less_from_below h.name name above, tt)
below_head (h ∷ (g ∷ gs)) name sorted above =
    let rest = below_head (g ∷ gs) name sorted.1 above in
    (nat_list_cmp_total.trans h.name g.name name sorted.0.0 rest.0, rest)

pub head_added_rises : (hs : List Head) (h : Head) → IsStrictlySortedBy (slice_cmp nat_cmp) (head_names hs) → is_above_last hs h.name ≡ true
    → IsStrictlySortedBy (slice_cmp nat_cmp) (head_names (hs ++ h ∷ []))
head_added_rises hs h sorted above =
    subst (λ names. IsStrictlySortedBy (slice_cmp nat_cmp) names) (sym (map_push (λ (g : Head). g.name) hs h))
    (sorted_more (head_names hs) h.name sorted (below_head hs h.name sorted above))

pub added_rise : (hs : List Head) (h : Head) → IsStrictlySortedBy (slice_cmp nat_cmp) (head_names hs)
    → IsStrictlySortedBy (slice_cmp nat_cmp) (head_names (head_added hs h))
added_rise hs h sorted = by_test (is_above_last hs h.name) refl
  where
    by_test : (b : Bool) → is_above_last hs h.name ≡ b → IsStrictlySortedBy (slice_cmp nat_cmp) (head_names (if b then hs ++ h ∷ [] else hs))
    by_test true above = head_added_rises hs h sorted above
    by_test false other = sorted

pub marked_names : (hs : List Head) → head_names (last_marked hs) ≡ head_names hs
unfolding last_marked
marked_names [] = refl
marked_names (h ∷ []) = refl
marked_names (h ∷ (g ∷ gs)) = ap (λ names. h.name ∷ names) (marked_names (g ∷ gs))

pub marked_rise : (hs : List Head) → IsStrictlySortedBy (slice_cmp nat_cmp) (head_names hs)
    → IsStrictlySortedBy (slice_cmp nat_cmp) (head_names (last_marked hs))
marked_rise hs sorted = subst (λ names. IsStrictlySortedBy (slice_cmp nat_cmp) names) (sym (marked_names hs)) sorted

line_rises : (number : ℕ) (is_header : Bool) (hs : List Head) (line : List ℕ) → IsStrictlySortedBy (slice_cmp nat_cmp) (head_names hs)
    → IsStrictlySortedBy (slice_cmp nat_cmp) (head_names (one_line_on number is_header hs line))
line_rises number true hs line sorted = added_rise hs (head_of number line) sorted
line_rises number false hs line sorted = by_test (beyond_long line)
  where
    by_test : (b : Bool) → IsStrictlySortedBy (slice_cmp nat_cmp) (head_names (if b then last_marked hs else hs))
    by_test true = marked_rise hs sorted
    by_test false = sorted

heads_rise_from : (number : ℕ) (is_header : Bool) (hs : List Head) (lines : List (List ℕ)) → IsStrictlySortedBy (slice_cmp nat_cmp) (head_names hs)
    → IsStrictlySortedBy (slice_cmp nat_cmp) (head_names (heads_on number is_header hs lines))
unfolding heads_on
heads_rise_from number is_header hs [] sorted = sorted
heads_rise_from number is_header hs (line ∷ lines) sorted =
    heads_rise_from (suc number) ((number == 1) || bytes_eq line (codes "end")) (one_line_on number is_header hs line) lines (line_rises number is_header hs line sorted)

pub heads_rise : (lines : List (List ℕ)) → IsStrictlySortedBy (slice_cmp nat_cmp) (head_names (heads_in lines))
unfolding IsStrictlySortedBy
heads_rise lines = heads_rise_from 1 false [] lines tt

-- ---- the headers of entities

abbrev pub head_of_entity : List Entity → Entity → Head
head_of_entity before e = record { name = e.name; class = class_of_body e.body; line = suc (length (text_lines before)); beyond = not (values_are_long e) }

-- those of entities behind others
abbrev pub heads_of : List Entity → List Entity → List Head
heads_of before [] = []
heads_of before (e ∷ es) = head_of_entity before e ∷ heads_of (before ++ e ∷ []) es

abbrev marked : Head → Bool → Head
marked h b = record { name = h.name; class = h.class; line = h.line; beyond = h.beyond || b }

no_or : (b : Bool) → (b || false) ≡ b
no_or true = refl
no_or false = refl

true_or : (b : Bool) → true ≡ (b || true)
true_or true = refl
true_or false = refl

unmarked : (h : Head) → h ≡ marked h false
unmarked h = ap (λ b. record { name = h.name; class = h.class; line = h.line; beyond = b }) (sym (no_or h.beyond))

marked_twice : (h : Head) (a b : Bool) → marked (marked h a) b ≡ marked h (a || b)
marked_twice h true b = ap (λ c. record { name = h.name; class = h.class; line = h.line; beyond = c }) (once h.beyond)
  where
    once : (c : Bool) → ((c || true) || b) ≡ (c || true)
    once true = refl
    once false = refl
marked_twice h false b = ap (λ c. record { name = h.name; class = h.class; line = h.line; beyond = c || b }) (no_or h.beyond)

pub last_is_marked : (hs : List Head) (h : Head)
    → last_marked (hs ++ h ∷ []) ≡ hs ++ record { name = h.name; class = h.class; line = h.line; beyond = true } ∷ []
unfolding last_marked
last_is_marked [] h = refl
last_is_marked (g ∷ []) h = refl
last_is_marked (g ∷ (f ∷ fs)) h = ap (λ hs. g ∷ hs) (last_is_marked (f ∷ fs) h)

mark_last : (hs : List Head) (h : Head) (b : Bool) → (if b then last_marked (hs ++ h ∷ []) else hs ++ h ∷ []) ≡ hs ++ marked h b ∷ []
mark_last hs h true =
    last_is_marked hs h ∙ ap (λ b. hs ++ record { name = h.name; class = h.class; line = h.line; beyond = b } ∷ []) (true_or h.beyond)
mark_last hs h false = ap (λ g. hs ++ g ∷ []) (unmarked h)

-- a line behind the first of a text
later : (n : ℕ) → 1 < n → (n == 1) ≡ false
later n high = ne_eqb n 1 (λ e. omega (arith, high, e))

-- one line more: under a header, an `end`, and a header
one_line : (n : ℕ) (is_header : Bool) (hs : List Head) (line : List ℕ) (lines : List (List ℕ)) (end : Bool)
    → ((n == 1) || bytes_eq line (codes "end")) ≡ end
    → heads_on n is_header hs (line ∷ lines) ≡ heads_on (suc n) end (one_line_on n is_header hs line) lines
unfolding heads_on
one_line n is_header hs line lines end is = ap (λ b. heads_on (suc n) b (one_line_on n is_header hs line) lines) is

no_end : (n : ℕ) (line : List ℕ) → 1 < n → bytes_eq line (codes "end") ≡ false → ((n == 1) || bytes_eq line (codes "end")) ≡ false
no_end n line high other = rw (later n high, other) refl

under_header : (n : ℕ) (hs : List Head) (h : Head) (line : List ℕ) (lines : List (List ℕ)) → 1 < n → bytes_eq line (codes "end") ≡ false
    → heads_on n false (hs ++ h ∷ []) (line ∷ lines) ≡ heads_on (suc n) false (hs ++ marked h (beyond_long line) ∷ []) lines
under_header n hs h line lines high other =
    one_line n false (hs ++ h ∷ []) line lines false (no_end n line high other)
    ∙ ap (λ gs. heads_on (suc n) false gs lines) (mark_last hs h (beyond_long line))

at_end : (n : ℕ) (hs : List Head) (lines : List (List ℕ)) → heads_on n false hs (codes "end" ∷ lines) ≡ heads_on (suc n) true hs lines
unfolding beyond_long behind
at_end n hs lines = one_line n false hs (codes "end") lines true (or_right (n == 1) true refl)

at_header : (n : ℕ) (hs : List Head) (line : List ℕ) (lines : List (List ℕ)) → 1 < n → bytes_eq line (codes "end") ≡ false
    → heads_on n true hs (line ∷ lines) ≡ heads_on (suc n) false (head_added hs (head_of n line)) lines
at_header n hs line lines high other = one_line n true hs line lines false (no_end n line high other)

-- the lines under a header
over_lines : (n : ℕ) (hs : List Head) (h : Head) (lines rest : List (List ℕ)) → 1 < n → list_all is_no_end lines ≡ true
    → heads_on n false (hs ++ h ∷ []) (lines ++ rest) ≡ heads_on (n + length lines) false (hs ++ marked h (list_any beyond_long lines) ∷ []) rest
over_lines n hs h [] rest high go_on =
    let none : n ≡ n + 0 = omega arith in
    ap₂ (λ m g. heads_on m false (hs ++ g ∷ []) rest) none (unmarked h)
over_lines n hs h (line ∷ lines) rest high go_on =
    let parts = and_parts (is_no_end line) (list_all is_no_end lines) go_on in
    let place : suc n + length lines ≡ n + suc (length lines) = omega arith in
    under_header n hs h line (lines ++ rest) high (not-true _ parts.0)
    ∙ over_lines (suc n) hs (marked h (beyond_long line)) lines rest (omega (arith, high)) parts.1
    ∙ ap₂ (λ m g. heads_on m false (hs ++ g ∷ []) rest) place (marked_twice h (beyond_long line) (list_any beyond_long lines))

-- heads and entities of the same names
above_heads : (hs : List Head) (es : List Entity) (name : List ℕ) → head_names hs ≡ map (λ e. e.name) es → is_above_last hs name ≡ is_above es name
unfolding is_above_last is_above
above_heads [] [] name same = refl
above_heads [] (e ∷ es) name same = let worse : ⊥ = cc in absurd worse
above_heads (h ∷ hs) [] name same = let worse : ⊥ = cc in absurd worse
above_heads (h ∷ []) (e ∷ []) name same = let is : h.name ≡ e.name = cc in rw is refl
above_heads (h ∷ []) (e ∷ (d ∷ ds)) name same = let worse : ⊥ = cc in absurd worse
above_heads (h ∷ (g ∷ gs)) (e ∷ []) name same = let worse : ⊥ = cc in absurd worse
above_heads (h ∷ (g ∷ gs)) (e ∷ (d ∷ ds)) name same =
    let rest : head_names (g ∷ gs) ≡ map (λ c. c.name) (d ∷ ds) = cc in
    above_heads (g ∷ gs) (d ∷ ds) name rest

length_more : (before : List Entity) (e : Entity) → length (text_lines (before ++ e ∷ [])) ≡ length (text_lines before) + length (entity_lines e)
length_more before e =
    let all = ap length (flat_map-append entity_lines before (e ∷ [])) in
    let parts = length-append (flat_map entity_lines before) (flat_map entity_lines (e ∷ [])) in
    let own = ap length (append-nil (entity_lines e)) in
    omega (arith, all, parts, own)

over_entity : (before : List Entity) (e : Entity) (hs : List Head) (rest : List (List ℕ)) → is_writable e ≡ true
    → head_names hs ≡ map (λ d. d.name) before
    → is_above before e.name ≡ true
    → heads_on (suc (length (text_lines before))) true hs (entity_lines e ++ rest)
    ≡ heads_on (suc (length (text_lines (before ++ e ∷ [])))) true (hs ++ head_of_entity before e ∷ []) rest
over_entity before e hs rest writable same above =
    let n = suc (length (text_lines before)) in
    let seen = lines_seen e writable in
    let high : 1 < n = omega arith in
    let long : length (body_lines e.body ++ codes "end" ∷ []) ≡ length (body_lines e.body) + 1 = length-append (body_lines e.body) (codes "end" ∷ []) in
    let place : suc (suc n + length (body_lines e.body)) ≡ suc (length (text_lines (before ++ e ∷ []))) = omega (arith, length_more before e, long) in
    let tail : (body_lines e.body ++ codes "end" ∷ []) ++ rest ≡ body_lines e.body ++ (codes "end" ∷ rest) = append_assoc (body_lines e.body) (codes "end" ∷ []) rest in
    at_header n hs (header_line e) ((body_lines e.body ++ codes "end" ∷ []) ++ rest) high (header_no_end e)
    ∙ ap₂ (λ gs ls. heads_on (suc n) false gs ls) (opened n) tail
    ∙ over_lines (suc n) hs (record { name = e.name; class = class_of_body e.body; line = n; beyond = false }) (body_lines e.body) (codes "end" ∷ rest) (omega (arith, high)) seen.0
    ∙ at_end (suc n + length (body_lines e.body)) (hs ++ record { name = e.name; class = class_of_body e.body; line = n; beyond = list_any beyond_long (body_lines e.body) } ∷ []) rest
    ∙ ap₂ (λ m b. heads_on m true (hs ++ record { name = e.name; class = class_of_body e.body; line = n; beyond = b } ∷ []) rest) place seen.1
  where
    opened : (n : ℕ) → head_added hs (head_of n (header_line e)) ≡ hs ++ record { name = e.name; class = class_of_body e.body; line = n; beyond = false } ∷ []
    opened n =
        let is : is_above_last hs e.name ≡ true = above_heads hs before e.name same ∙ above in
        rw (header_head n e writable, is) refl

heads_from : (before es : List Entity) (hs : List Head) → are_writable es ≡ true → IsRising (before ++ es) → head_names hs ≡ map (λ d. d.name) before
    → heads_on (suc (length (text_lines before))) true hs (flat_map entity_lines es) ≡ hs ++ heads_of before es
unfolding heads_on
heads_from before [] hs writable rising same = sym (append-nil hs)
heads_from before (e ∷ es) hs writable rising same =
    let parts = and_parts (is_writable e && not (is_built_in_name e.name)) (are_writable es) writable in
    let own = (and_parts (is_writable e) (not (is_built_in_name e.name)) parts.0).0 in
    let names : head_names (hs ++ head_of_entity before e ∷ []) ≡ map (λ d. d.name) (before ++ e ∷ []) =
    map_push (λ (h : Head). h.name) hs (head_of_entity before e) ∙ ap (λ ns. ns ++ e.name ∷ []) same
    ∙ sym (map_push (λ (d : Entity). d.name) before e) in
    over_entity before e hs (flat_map entity_lines es) own same (above_of_rising before e es rising)
    ∙ heads_from (before ++ e ∷ []) es (hs ++ head_of_entity before e ∷ []) parts.1 (subst IsRising (sym (append_assoc before (e ∷ []) es)) rising) names
    ∙ append_assoc hs (head_of_entity before e ∷ []) (heads_of (before ++ e ∷ []) es)

first_line_on : (lines : List (List ℕ)) → heads_in (codes "unoreg 1" ∷ lines) ≡ heads_on 2 true [] lines
unfolding heads_on beyond_long behind
first_line_on lines = refl

-- one for each entity: its name, its class, the line of its header, and whether a value of it is beyond
pub heads_of_text : (es : List Entity) → are_writable es ≡ true → IsRising es → heads_in (text_lines es) ≡ heads_of [] es
heads_of_text es writable rising = first_line_on (flat_map entity_lines es) ∙ heads_from [] es [] writable rising refl

-- the header of an entity among the others
pub heads_split : (before xs : List Entity) (e : Entity) (ys : List Entity)
    → heads_of before (xs ++ e ∷ ys) ≡ heads_of before xs ++ head_of_entity (before ++ xs) e ∷ heads_of ((before ++ xs) ++ e ∷ []) ys
heads_split before [] e ys = ap (λ bs. head_of_entity bs e ∷ heads_of (bs ++ e ∷ []) ys) (sym (append-nil before))
heads_split before (x ∷ xs) e ys =
    ap (λ hs. head_of_entity before x ∷ hs)
    (heads_split (before ++ x ∷ []) xs e ys
    ∙ ap (λ bs. heads_of (before ++ x ∷ []) xs ++ head_of_entity bs e ∷ heads_of (bs ++ e ∷ []) ys) (append_assoc before (x ∷ []) xs))
