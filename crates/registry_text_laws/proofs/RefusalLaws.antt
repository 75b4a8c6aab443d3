-- A text is refused in one way. Of its lines, those that begin the text of entities in order are known: a line that is wrong or out of order stands right behind them, and
-- where there is none the text says one registry, of which the least rule that is broken and the first entity that breaks it are one.
use Rattle.std.proofs.Common.{◌≡◌, refl, sym, ap, ap₂, subst, ◌∙◌, ℕ, suc, ◌<◌, ◌≤◌, ◌⊎◌, inl, inr, Bool, true, false, nat_lt, List, [], ◌∷◌, ◌++◌, length, take, get_or, map, Contains, IsTrue, arith}
use Rattle.std.specs.List.{list_all, AllByRecursion}
use Rattle.std.specs.List.Sorted.{IsStrictlySortedBy}
use Rattle.std.specs.Cmp.Lexicographic.{slice_cmp}
use Rattle.std.specs.Ordering.{nat_cmp}
use Rattle.std.specs.declared.cmp.Ordering.TheVariants.{Less}
use Rattle.std.proofs.lemmas.Bool.{and_parts, ltb-true, ltb-false, true≢false}
use Rattle.std.proofs.lemmas.List.{append-nil, append_assoc, append_cancel_left, get_or-take, get_or_default, length-take}
use Rattle.uno_model.specs.Entities.{Entity}
use Rattle.uno_model.specs.Registry.{IsRising}
use Rattle.uno_model.proofs.AllLaws.{of_append, all_append}
use Rattle.uno_model.proofs.FindLaws.{same_equal}
use Rattle.registry_text_model.specs.Lines.{text_of}
use Rattle.registry_text_model.specs.Reading.{are_writable, text_lines, Begin, BeginInOrder, is_one_line, IsBadLine, IsOutOfOrder, Says, BreaksRule}
use Rattle.registry_text_model.specs.Rules.{Rule, number_of, Keeps, BreaksFirst}
use Rattle.registry_reading_model.proofs.HeadFound.{below_differs}
use Rattle.registry_reading_model.proofs.RuleOrder.{same_number}
use Rattle.registry_reading_model.proofs.SaysOne.{lines_written, rising_written, one_said}
use Rattle.registry_reading_model.proofs.TextLinesLaws.{text_of_append, lines_and_rest, text_split}
use Rattle.registry_reading_model.specs.TextLines.{lines_in}

-- ---- two fronts of one list

same_cell : {A : Type 0} (a b : A) (k l : List A) → a ∷ k ≡ b ∷ l → (a ≡ b) × (k ≡ l)
same_cell a b k l is = (cc, cc)

longer : {A : Type 0} (a b : A) → a ≡ b → {k l : List A} → k ≡ l → a ∷ k ≡ b ∷ l
longer a b p q = cc

-- they are the same, or the one goes on with what stands behind the other
data Fronts {A : Type 0} (b t c u : List A) : Type 0 where
  same : b ≡ c → Fronts b t c u
  first_goes_on : (x : A) → (v w : List A) → b ≡ c ++ x ∷ v → u ≡ x ∷ w → Fronts b t c u
  second_goes_on : (x : A) → (v w : List A) → c ≡ b ++ x ∷ v → t ≡ x ∷ w → Fronts b t c u

fronts : {A : Type 0} (b t c u : List A) → b ++ t ≡ c ++ u → Fronts b t c u
fronts [] t [] u is = same refl
fronts [] t (x ∷ c) u is = second_goes_on x c (c ++ u) refl is
fronts (x ∷ b) t [] u is = first_goes_on x b (b ++ t) refl (sym is)
fronts (x ∷ b) t (y ∷ c) u is = let cells = same_cell x y (b ++ t) (c ++ u) is in on cells.0 (fronts b t c u cells.1)
  where
    on : x ≡ y → Fronts b t c u → Fronts (x ∷ b) t (y ∷ c) u
    on head (same p) = same (longer x y head p)
    on head (first_goes_on z v w p q) = first_goes_on z v w (longer x y head p) q
    on head (second_goes_on z v w p q) = second_goes_on z v w (longer y x (sym head) p) q

-- ---- lines that begin a text

-- a front of lines that begin a text begins one
shorter : (lines : List (List ℕ)) (here : List ℕ) (more : List (List ℕ)) → Begin (lines ++ here ∷ more) → Begin (lines ++ here ∷ [])
shorter lines here more begun =
    record {
      entities = begun.entities;
      behind = more ++ begun.behind;
      writable = begun.writable;
      split =
          begun.split ∙ append_assoc lines (here ∷ more) begun.behind ∙ sym (append_assoc lines (here ∷ []) (more ++ begun.behind));
    }

shorter_in_order : (lines : List (List ℕ)) (here : List ℕ) (more : List (List ℕ)) → BeginInOrder (lines ++ here ∷ more) → BeginInOrder (lines ++ here ∷ [])
shorter_in_order lines here more begun =
    record {
      entities = begun.entities;
      behind = more ++ begun.behind;
      writable = begun.writable;
      rising = begun.rising;
      split =
          begun.split ∙ append_assoc lines (here ∷ more) begun.behind ∙ sym (append_assoc lines (here ∷ []) (more ++ begun.behind));
    }

unordered : (lines : List (List ℕ)) → BeginInOrder lines → Begin lines
unordered lines begun = record { entities = begun.entities; behind = begun.behind; writable = begun.writable; split = begun.split }

-- they have no line feed
begun_lines : (lines : List (List ℕ)) → Begin lines → list_all is_one_line lines ≡ true
begun_lines lines begun =
    (of_append is_one_line lines begun.behind (subst (λ ls. list_all is_one_line ls ≡ true) begun.split (lines_written begun.entities begun.writable))).0

-- the lines of a text that begins with lines
lines_behind : (front : List (List ℕ)) (rest : List ℕ) → list_all is_one_line front ≡ true → lines_in (text_of front ++ rest) ≡ front ++ lines_in rest
lines_behind front rest one =
    let parts = text_split rest in
    let left = parts.0 in
    ap lines_in (ap (λ t. text_of front ++ t) parts.1 ∙ sym (append_assoc (text_of front) (text_of (lines_in rest)) left) ∙ ap (λ t. t ++ left) (sym (text_of_append front (lines_in rest))))
    ∙ lines_and_rest (front ++ lines_in rest) left (all_append is_one_line front (lines_in rest) one parts.3) parts.2

one_text : (line : List ℕ) (lines : List (List ℕ)) → text_of (line ∷ lines) ≡ line ++ 10 ∷ text_of lines
unfolding text_of
one_text line lines = append_assoc line (10 ∷ []) (text_of lines)

-- what stands behind the first line
line_and_rest : (rest : List ℕ) (here : List ℕ) (more : List (List ℕ)) → lines_in rest ≡ here ∷ more → (behind : List ℕ) × (rest ≡ here ++ 10 ∷ behind) × (is_one_line here ≡ true)
line_and_rest rest here more is =
    let parts = text_split rest in
    let ones = subst (λ ls. list_all is_one_line ls ≡ true) is parts.3 in (
      text_of more ++ parts.0,
      parts.1 ∙ ap (λ ls. text_of ls ++ parts.0) is ∙ ap (λ t. t ++ parts.0) (one_text here more) ∙ append_assoc here (10 ∷ text_of more) parts.0,
      (and_parts (is_one_line here) (list_all is_one_line more) ones).0,
    )

-- ---- where the lines in order end

-- these lines begin a text in order, and with the next one they begin none in order
record Stops (bytes : List ℕ) (before : List (List ℕ)) : Type 0 where
  behind : List (List ℕ)
  lines : lines_in bytes ≡ before ++ behind
  begun : BeginInOrder before
  falls : (here : List ℕ) (more : List (List ℕ)) → behind ≡ here ∷ more → BeginInOrder (before ++ here ∷ []) → ⊥

bad_lines : (bytes : List ℕ) (line : ℕ) (bad : IsBadLine bytes line) → lines_in bytes ≡ bad.before ++ lines_in bad.rest
bad_lines bytes line bad = ap lines_in bad.split ∙ lines_behind bad.before bad.rest (begun_lines bad.before (unordered bad.before bad.begun))

-- the next line begins no text at all
bad_here : (bytes : List ℕ) (line : ℕ) (bad : IsBadLine bytes line) (here : List ℕ) (more : List (List ℕ)) → lines_in bad.rest ≡ here ∷ more → Begin (bad.before ++ here ∷ []) → ⊥
bad_here bytes line bad here more is begun = let parts = line_and_rest bad.rest here more is in bad.wrong here parts.0 parts.1 parts.2 begun

bad_stops : (bytes : List ℕ) (line : ℕ) (bad : IsBadLine bytes line) → Stops bytes bad.before
bad_stops bytes line bad =
    record {
      behind = lines_in bad.rest;
      lines = bad_lines bytes line bad;
      begun = bad.begun;
      falls = λ here more is begun. bad_here bytes line bad here more is (unordered (bad.before ++ here ∷ []) begun);
    }

order_lines : (bytes : List ℕ) (line : ℕ) (o : IsOutOfOrder bytes line) → lines_in bytes ≡ o.before ++ o.here ∷ lines_in o.behind
order_lines bytes line o =
    ap lines_in o.split ∙ lines_behind (o.before ++ o.here ∷ []) o.behind (begun_lines (o.before ++ o.here ∷ []) o.fits) ∙ append_assoc o.before (o.here ∷ []) (lines_in o.behind)

order_stops : (bytes : List ℕ) (line : ℕ) (o : IsOutOfOrder bytes line) → Stops bytes o.before
order_stops bytes line o =
    record {
      behind = o.here ∷ lines_in o.behind;
      lines = order_lines bytes line o;
      begun = o.begun;
      falls = λ here more is begun. o.falls (subst (λ x. BeginInOrder (o.before ++ x ∷ [])) (sym (same_cell o.here here (lines_in o.behind) more is).0) begun);
    }

-- there is one such place
one_stop : (bytes : List ℕ) (b c : List (List ℕ)) → Stops bytes b → Stops bytes c → b ≡ c
one_stop bytes b c one two = by_fronts (fronts b one.behind c two.behind (sym one.lines ∙ two.lines))
  where
    by_fronts : Fronts b one.behind c two.behind → b ≡ c
    by_fronts (same is) = is
    by_fronts (first_goes_on x v w is next) = absurd (two.falls x w next (shorter_in_order c x v (subst BeginInOrder is one.begun)))
    by_fronts (second_goes_on x v w is next) = absurd (one.falls x w next (shorter_in_order b x v (subst BeginInOrder is two.begun)))

pub one_bad_line : (bytes : List ℕ) (line other : ℕ) → IsBadLine bytes line → IsBadLine bytes other → line ≡ other
one_bad_line bytes line other one two =
    one.place ∙ ap (λ ls. suc (length ls)) (one_stop bytes one.before two.before (bad_stops bytes line one) (bad_stops bytes other two)) ∙ sym two.place

pub one_out_of_order : (bytes : List ℕ) (line other : ℕ) → IsOutOfOrder bytes line → IsOutOfOrder bytes other → line ≡ other
one_out_of_order bytes line other one two =
    one.place ∙ ap (λ ls. suc (length ls)) (one_stop bytes one.before two.before (order_stops bytes line one) (order_stops bytes other two)) ∙ sym two.place

-- at it a line is wrong, or out of order
pub bad_or_order : (bytes : List ℕ) (line other : ℕ) → IsBadLine bytes line → IsOutOfOrder bytes other → ⊥
bad_or_order bytes line other bad o =
    let at = one_stop bytes bad.before o.before (bad_stops bytes line bad) (order_stops bytes other o) in
    let rest : lines_in bad.rest ≡ o.here ∷ lines_in o.behind =
    append_cancel_left o.before (lines_in bad.rest) (o.here ∷ lines_in o.behind)
    (ap (λ ls. ls ++ lines_in bad.rest) (sym at) ∙ sym (bad_lines bytes line bad) ∙ order_lines bytes other o) in
    bad_here bytes line bad o.here (lines_in o.behind) rest (subst (λ ls. Begin (ls ++ o.here ∷ [])) (sym at) o.fits)

-- ---- a text that says a registry

no_feed : is_one_line [] ≡ true
unfolding is_one_line
no_feed = refl

said_lines : (bytes : List ℕ) (es reg : List Entity) → Says bytes es reg → lines_in bytes ≡ text_lines es
said_lines bytes es reg says =
    ap lines_in (says.text ∙ sym (append-nil (text_of (text_lines es)))) ∙ lines_and_rest (text_lines es) [] (lines_written es says.writable) no_feed

said_rising : (bytes : List ℕ) (es reg : List Entity) → Says bytes es reg → IsRising es
said_rising bytes es reg says = subst IsRising says.written (rising_written reg says.rising)

said_in_order : (bytes : List ℕ) (es reg : List Entity) → Says bytes es reg → BeginInOrder (text_lines es)
said_in_order bytes es reg says =
    record {
      entities = es;
      behind = [];
      writable = says.writable;
      rising = said_rising bytes es reg says;
      split = sym (append-nil (text_lines es));
    }

-- its lines go on in order to the end
said_to_end : (bytes : List ℕ) (es reg : List Entity) → Says bytes es reg → (before : List (List ℕ)) (stop : Stops bytes before) → (here : List ℕ) (more : List (List ℕ)) → stop.behind ≡ here ∷ more → ⊥
said_to_end bytes es reg says before stop here more is =
    stop.falls here more is
    (shorter_in_order before here more
    (subst BeginInOrder (sym (said_lines bytes es reg says) ∙ stop.lines ∙ ap (λ ls. before ++ ls) is) (said_in_order bytes es reg says)))

pub order_or_said : (bytes : List ℕ) (rule : Rule) (line other : ℕ) → IsOutOfOrder bytes line → BreaksRule bytes rule other → ⊥
unfolding order_stops
order_or_said bytes rule line other o broken =
    said_to_end bytes (broken.before ++ broken.entity ∷ broken.behind) broken.reg broken.says o.before (order_stops bytes line o) o.here (lines_in o.behind) refl

bad_or_whole : (bytes : List ℕ) (line : ℕ) (es reg : List Entity) → IsBadLine bytes line → Says bytes es reg → ⊥
unfolding bad_stops
bad_or_whole bytes line es reg bad says = by_rest (lines_in bad.rest) refl
  where
    by_rest : (ls : List (List ℕ)) → lines_in bad.rest ≡ ls → ⊥
    by_rest (here ∷ more) is = said_to_end bytes es reg says bad.before (bad_stops bytes line bad) here more is
    by_rest [] is =
        let whole : bad.before ≡ text_lines es = sym (append-nil bad.before) ∙ ap (λ ls. bad.before ++ ls) (sym is) ∙ sym (bad_lines bytes line bad) ∙ said_lines bytes es reg says in
        let texts : text_of bad.before ++ bad.rest ≡ text_of bad.before ++ [] = sym bad.split ∙ says.text ∙ ap text_of (sym whole) ∙ sym (append-nil (text_of bad.before)) in
        bad.unfinished (append_cancel_left (text_of bad.before) bad.rest [] texts) es says.writable whole

pub bad_or_said : (bytes : List ℕ) (rule : Rule) (line other : ℕ) → IsBadLine bytes line → BreaksRule bytes rule other → ⊥
bad_or_said bytes rule line other bad broken = bad_or_whole bytes line (broken.before ++ broken.entity ∷ broken.behind) broken.reg bad broken.says

-- ---- the rule that is broken

-- no rule is broken before the least one
least_first : (reg : List Entity) (rule another : Rule) (e d : Entity) → BreaksFirst reg rule e → BreaksFirst reg another d → number_of rule < number_of another → ⊥
least_first reg rule another e d one two less = one.broken (two.least rule less e (one.place, one.within, one.there))

same_least : (reg : List Entity) (rule another : Rule) (e d : Entity) → BreaksFirst reg rule e → BreaksFirst reg another d → rule ≡ another
same_least reg rule another e d one two = by_order (nat_lt (number_of rule) (number_of another)) refl (nat_lt (number_of another) (number_of rule)) refl
  where
    by_order : (b : Bool) → nat_lt (number_of rule) (number_of another) ≡ b → (c : Bool) → nat_lt (number_of another) (number_of rule) ≡ c → rule ≡ another
    by_order true is c more = absurd (least_first reg rule another e d one two (ltb-true (number_of rule) (number_of another) is))
    by_order false is true more = absurd (least_first reg another rule d e two one (ltb-true (number_of another) (number_of rule) more))
    by_order false is false more =
        let low = ltb-false (number_of rule) (number_of another) is in
        let high = ltb-false (number_of another) (number_of rule) more in same_number rule another (omega arith)

-- nor is it broken before the first entity
first_breaks : (reg : List Entity) (rule : Rule) (e d : Entity) (one : BreaksFirst reg rule e) (two : BreaksFirst reg rule d) → one.place < two.place → ⊥
first_breaks reg rule e d one two less =
    let within = two.within in
    let count = length-take two.place reg in
    let there : one.place < length (take two.place reg) = omega (arith, within, count, less) in
    one.broken (two.first e (one.place, there, get_or-take two.place reg one.place e less ∙ one.there))

same_breaker : (reg : List Entity) (rule : Rule) (e d : Entity) → BreaksFirst reg rule e → BreaksFirst reg rule d → e ≡ d
same_breaker reg rule e d one two = by_order (nat_lt one.place two.place) refl (nat_lt two.place one.place) refl
  where
    by_order : (b : Bool) → nat_lt one.place two.place ≡ b → (c : Bool) → nat_lt two.place one.place ≡ c → e ≡ d
    by_order true is c more = absurd (first_breaks reg rule e d one two (ltb-true one.place two.place is))
    by_order false is true more = absurd (first_breaks reg rule d e two one (ltb-true two.place one.place more))
    by_order false is false more =
        let low = ltb-false one.place two.place is in
        let high = ltb-false two.place one.place more in
        let at : one.place ≡ two.place = omega (arith, low, high) in
        sym one.there ∙ get_or_default reg one.place e d one.within ∙ ap (λ k. get_or reg k d) at ∙ two.there

-- ---- its line

-- in rising order no entity comes twice
not_below : (e : Entity) (v w : List Entity) → AllByRecursion (λ n. slice_cmp nat_cmp e.name n ≡ Less) (map (λ x. x.name) (v ++ e ∷ w)) → ⊥
not_below e [] w all = true≢false (sym (same_equal e.name) ∙ (below_differs e.name e.name all.0).0)
not_below e (x ∷ v) w all = not_below e v w all.1

no_second : (b v w : List Entity) (e : Entity) → IsRising (b ++ e ∷ (v ++ e ∷ w)) → ⊥
unfolding IsStrictlySortedBy
no_second [] v w e rising = not_below e v w rising.0
no_second (x ∷ b) v w e rising = no_second b v w e rising.1

same_front : (b t c u : List Entity) (e : Entity) → IsRising (b ++ e ∷ t) → b ++ e ∷ t ≡ c ++ e ∷ u → b ≡ c
same_front b t c u e rising is = by_fronts (fronts b (e ∷ t) c (e ∷ u) is)
  where
    by_fronts : Fronts b (e ∷ t) c (e ∷ u) → b ≡ c
    by_fronts (same p) = p
    by_fronts (first_goes_on x v w p next) =
        let cell = (same_cell e x u w next).0 in
        let twice : b ++ e ∷ t ≡ c ++ e ∷ (v ++ e ∷ t) =
        ap (λ ls. ls ++ e ∷ t) p ∙ append_assoc c (x ∷ v) (e ∷ t) ∙ ap (λ y. c ++ y ∷ (v ++ e ∷ t)) (sym cell) in
        absurd (no_second c v t e (subst IsRising twice rising))
    by_fronts (second_goes_on x v w p next) =
        let cell = (same_cell e x t w next).0 in
        let twice : b ++ e ∷ t ≡ b ++ e ∷ (v ++ e ∷ u) =
        is ∙ ap (λ ls. ls ++ e ∷ u) p ∙ append_assoc b (x ∷ v) (e ∷ u) ∙ ap (λ y. b ++ y ∷ (v ++ e ∷ u)) (sym cell) in
        absurd (no_second b v u e (subst IsRising twice rising))

pub one_broken : (bytes : List ℕ) (rule another : Rule) (line other : ℕ) → BreaksRule bytes rule line → BreaksRule bytes another other → (rule ≡ another) × (line ≡ other)
one_broken bytes rule another line other one two =
    let both = one_said bytes (one.before ++ one.entity ∷ one.behind) one.reg (two.before ++ two.entity ∷ two.behind) two.reg one.says two.says in
    let first : BreaksFirst one.reg another two.entity = subst (λ reg. BreaksFirst reg another two.entity) (sym both.1) two.first in
    let least = same_least one.reg rule another one.entity two.entity one.first first in
    let breaker = same_breaker one.reg rule one.entity two.entity one.first (subst (λ r. BreaksFirst one.reg r two.entity) (sym least) first) in
    let entities : one.before ++ one.entity ∷ one.behind ≡ two.before ++ one.entity ∷ two.behind = both.0 ∙ ap (λ e. two.before ++ e ∷ two.behind) (sym breaker) in
    let rising = said_rising bytes (one.before ++ one.entity ∷ one.behind) one.reg one.says in
    let front = same_front one.before one.behind two.before two.behind one.entity rising entities in
    (least, one.place ∙ ap (λ es. suc (length (text_lines es))) front ∙ sym two.place)
