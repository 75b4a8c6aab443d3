-- What a binary search over headers says of a name.
use Rattle.std.proofs.Common.{◌≡◌, ℕ, zero, suc, ◌+◌, ◌-◌, ◌<◌, if◌then◌else◌, ◌≤◌, Bool, true, false, ◌==◌, ◌||◌, List, [], ◌∷◌, ◌++◌, codes, length, length-append, map, take, get_or, None, Some, Option, option_map, IfSome, IfOk, Result, Bor, Ok, Err, refl, sym, ap, subst, ◌∙◌, inl, inr, arith, slice_get}
use Rattle.std.proofs.lemmas.Bool.{cases_lt}
use Rattle.std.specs.List.{AllByRecursion}
use Rattle.std.specs.List.Sorted.{IsBinarySearchResult, IsSearchInRange, IsSortedBy, IsStrictlySortedBy}
use Rattle.std.specs.Ordering.{is_lt, ordering_reverse}
use Rattle.std.specs.declared.cmp.Ordering.{Ordering}
use Rattle.std.specs.declared.cmp.Ordering.TheVariants.{Less, Equal, Greater}
use Rattle.std.proofs.lemmas.Cmp.{nat_list_cmp_total}
use Rattle.std.proofs.lemmas.List.{map-append}
use Rattle.std.proofs.lemmas.List.Sorted.{searchable_from_sorted}
use Rattle.std.specs.Str.{bytes_eq}
use Rattle.std.proofs.lemmas.Slice.Eq.{bytes_eq-Decides}
use Rattle.uno_model.proofs.FindLaws.{name_cmp, equal_names, same_equal}
use Rattle.registry_reading_model.specs.Heads as plain
use Rattle.registry_reading_model.specs.Heads.{head_named, head_of, heads_on, heads_in, one_line_on, head_added, is_above_last, last_marked, beyond_long}
use Rattle.registry_reading_model.specs.Words.{behind}
use Rattle.registry_reading_model.proofs.HeadLaws.{head_added_rises, marked_rise, last_is_marked}
use Rattle.registry_reading_model.specs.TextLines.{lines_in, all_plain, is_plain}
use Rattle.registry_reading_model.proofs.TextLinesLaws.{one_more_line, no_line}
use Rattle.registry_text_model.specs.Reading.{is_one_line}
use Rattle.std.proofs.lemmas.Bool.{and_parts}
use Rattle.registry_reading.specs.declared.head.Head.{Head}
use Rattle.registry_reading.specs.Heads.{plain_head, plain_heads, NamesRise}

abbrev pub order_of : List ℕ → Head → Ordering
order_of name h = name_cmp h.name.now name

-- a name compares with itself as equal
itself : (x : List ℕ) (o : Ordering) → name_cmp x x ≡ o → o ≡ Equal
itself x Less e = let bad : Less ≡ Greater = sym e ∙ nat_list_cmp_total.antisymm x x ∙ ap ordering_reverse e in absurd cc
itself x Equal e = refl
itself x Greater e = let bad : Greater ≡ Less = sym e ∙ nat_list_cmp_total.antisymm x x ∙ ap ordering_reverse e in absurd cc

-- what compares otherwise is another
other_name : (x y : List ℕ) (o : Ordering) → (o ≡ Equal → ⊥) → name_cmp x y ≡ o → bytes_eq y x ≡ false
other_name x y o not_equal is = by_test (bytes_eq y x) refl
  where
    by_test : (b : Bool) → bytes_eq y x ≡ b → bytes_eq y x ≡ false
    by_test false other = other
    by_test true same = absurd (not_equal (itself x o (ap (name_cmp x) (sym ((bytes_eq-Decides y x).0 same)) ∙ is)))

below_differs : (x y : List ℕ) → name_cmp x y ≡ Less → bytes_eq y x ≡ false
below_differs x y is = other_name x y Less (λ e. absurd cc) is

above_differs : (x y : List ℕ) → name_cmp x y ≡ Greater → bytes_eq y x ≡ false
above_differs x y is = other_name x y Greater (λ e. absurd cc) is

-- the name is found at its place
found_at : (name : List ℕ) (hs : List Head) (i : ℕ) (d : Head) → NamesRise (plain_heads hs) → i < length hs → (get_or hs i d).name.now ≡ name
    → head_named name (plain_heads hs) ≡ Some (plain_head (get_or hs i d))
unfolding head_named IsStrictlySortedBy
found_at name [] i d rising within is = absurd (omega arith)
found_at name (h ∷ hs) zero d rising within is = let same : bytes_eq name h.name.now ≡ true = ap (λ n. bytes_eq name n) is ∙ same_equal name in rw same refl
found_at name (h ∷ hs) (suc i) d rising within is =
    let below : name_cmp h.name.now (get_or hs i d).name.now ≡ Less = at_place hs i (omega arith) rising.0 in
    let other : bytes_eq name h.name.now ≡ false = below_differs h.name.now name (subst (λ n. name_cmp h.name.now n ≡ Less) is below) in
    rw other (found_at name hs i d rising.1 (omega arith) is)
  where
    at_place : (xs : List Head) (k : ℕ) → k < length xs → AllByRecursion (λ y. name_cmp h.name.now y ≡ Less) (map (λ x. x.name) (plain_heads xs))
        → name_cmp h.name.now (get_or xs k d).name.now ≡ Less
    at_place [] k within all = absurd (omega arith)
    at_place (x ∷ xs) zero within all = all.0
    at_place (x ∷ xs) (suc k) within all = at_place xs k (omega arith) all.1

-- a name that is none of theirs is not found
absent : (name : List ℕ) (hs : List Head) → ((k : ℕ) (d : Head) → k < length hs → bytes_eq name (get_or hs k d).name.now ≡ false) → head_named name (plain_heads hs) ≡ None
unfolding head_named
absent name [] others = refl
absent name (h ∷ hs) others = rw (others 0 h (omega arith)) (absent name hs (λ k d within. others (suc k) d (omega arith)))

-- no name is below the one before it
names_sorted : (hs : List Head) → NamesRise (plain_heads hs) → IsSortedBy (λ a b. is_lt (name_cmp a.name.now b.name.now)) hs
unfolding IsStrictlySortedBy
names_sorted hs rising k d low within = ap is_lt (nat_list_cmp_total.antisymm (get_or hs (k + 1) d).name.now (get_or hs k d).name.now ∙ ap ordering_reverse (step hs k rising within))
  where
    next : (x : Head) (xs : List Head) → AllByRecursion (λ y. name_cmp x.name.now y ≡ Less) (map (λ z. z.name) (plain_heads xs)) → 0 < length xs
        → name_cmp x.name.now (get_or xs 0 d).name.now ≡ Less
    next x [] all some = absurd (omega arith)
    next x (y ∷ ys) all some = all.0

    step : (xs : List Head) (j : ℕ) → NamesRise (plain_heads xs) → j + 1 < length xs → name_cmp (get_or xs j d).name.now (get_or xs (j + 1) d).name.now ≡ Less
    step [] j rise inside = absurd (omega arith)
    step (x ∷ xs) zero rise inside = next x xs rise.0 (omega arith)
    step (x ∷ xs) (suc j) rise inside = let on : suc j + 1 ≡ suc (j + 1) = omega arith in rw on (step xs j rise.1 (omega arith))

-- what a search answers where the name is there
pub placed : (hs : List Head) (name : List ℕ) (i : ℕ) (r : Option plain.Head) → NamesRise (plain_heads hs) → IsSearchInRange (Ok i) (length hs)
    → IsBinarySearchResult (order_of name) hs (Ok i) → r ≡ slice_get (plain_heads hs) i → r ≡ head_named name (plain_heads hs)
placed [] name i r rising within holds got = absurd (omega arith)
placed (h ∷ hs) name i r rising within holds got = got ∙ at (h ∷ hs) i within ∙ sym (found_at name (h ∷ hs) i h rising within is)
  where
    is : (get_or (h ∷ hs) i h).name.now ≡ name
    is = equal_names (get_or (h ∷ hs) i h).name.now name (holds h)

    at : (xs : List Head) (k : ℕ) → k < length xs → slice_get (plain_heads xs) k ≡ Some (plain_head (get_or xs k h))
    at [] k inside = absurd (omega arith)
    at (x ∷ xs) zero inside = refl
    at (x ∷ xs) (suc k) inside = at xs k (omega arith)

-- and where it is not
pub parted : (hs : List Head) (name : List ℕ) (i : ℕ) → NamesRise (plain_heads hs) → IsBinarySearchResult (order_of name) hs (Err i) → head_named name (plain_heads hs) ≡ None
parted hs name i rising holds =
    let parts = holds (searchable_from_sorted nat_list_cmp_total (λ (h : Head). h.name.now) hs name (names_sorted hs rising)) in
    absent name hs (λ k d within. elim (cases_lt k i)
    [ inl low ↦ below_differs (get_or hs k d).name.now name (parts.0 k d (omega arith) low) | inr high ↦ above_differs (get_or hs k d).name.now name (parts.1 k d high within) ])

-- ---- what is tried

name_or : List ℕ → Option plain.Head → List ℕ
name_or name None = name
name_or name (Some h) = h.name

-- what stands at a place is found by its name
at_its_name : (hs : List plain.Head) (i : ℕ) (h : plain.Head) → NamesRise hs → Some h ≡ slice_get hs i → head_named h.name hs ≡ Some h
unfolding head_named IsStrictlySortedBy name_or
at_its_name [] i h rising is = absurd cc
at_its_name (g ∷ gs) zero h rising is =
    let same : bytes_eq h.name g.name ≡ true = ap (λ n. bytes_eq n g.name) (ap (name_or []) is) ∙ same_equal g.name in rw same (sym is)
at_its_name (g ∷ gs) (suc i) h rising is = rw (below_differs g.name h.name (above gs i rising.0 is)) (at_its_name gs i h rising.1 is)
  where
    above : (xs : List plain.Head) (k : ℕ) → AllByRecursion (λ y. name_cmp g.name y ≡ Less) (map (λ x. x.name) xs) → Some h ≡ slice_get xs k → name_cmp g.name h.name ≡ Less
    above [] k all at = absurd cc
    above (x ∷ xs) zero all at = ap (name_cmp g.name) (ap (name_or []) at) ∙ all.0
    above (x ∷ xs) (suc k) all at = above xs k all.1 at

pub tried_is : (hs : List Head) (name : List ℕ) (place : ℕ) (r : Option (Bor Head)) (h : Bor Head) → NamesRise (plain_heads hs)
    → option_map (λ x. plain_head x.now) r ≡ slice_get (plain_heads hs) place → r ≡ Some h → h.now.name.now ≡ name → Some (plain_head h.now) ≡ head_named name (plain_heads hs)
tried_is hs name place r h rising at is same =
    sym (ap (λ n. head_named n (plain_heads hs)) (sym same)
    ∙ at_its_name (plain_heads hs) place (plain_head h.now) rising (ap (option_map (λ x. plain_head x.now)) (sym is) ∙ at))

-- what is found has the name
found_has : (name : List ℕ) (hs : List plain.Head) (h : plain.Head) → Some h ≡ head_named name hs → h.name ≡ name
unfolding head_named name_or
found_has name [] h is = absurd cc
found_has name (g ∷ gs) h is = by_test (bytes_eq name g.name) refl (λ behind. found_has name gs h behind)
  where
    by_test : (b : Bool) → bytes_eq name g.name ≡ b → (Some h ≡ head_named name gs → h.name ≡ name) → h.name ≡ name
    by_test true same behind =
        ap (name_or name) (is ∙ ap (λ t. if t then Some g else head_named name gs) same) ∙ sym ((bytes_eq-Decides name g.name).0 same)
    by_test false other behind = behind (is ∙ ap (λ t. if t then Some g else head_named name gs) other)

pub found_named : (name : List ℕ) (hs : List plain.Head) (r : Option (Bor Head)) → option_map (λ h. plain_head h.now) r ≡ head_named name hs
    → IfSome r (λ h. h.now.name.now ≡ name)
found_named name hs None is = tt
found_named name hs (Some h) is = found_has name hs (plain_head h.now) is

pub none_rise : NamesRise []
unfolding IsStrictlySortedBy
none_rise = tt

-- ---- the loop over all lines

-- the lines so far were looked at: what is left goes on to all heads, if all lines are plain
pub record LookedAt (bytes rest : List ℕ) (number : ℕ) (is_header : Bool) (heads : List plain.Head) : Type 0 where
  pub plain : all_plain (lines_in bytes) ≡ true → (all_plain (lines_in rest) ≡ true) × (heads_on number is_header heads (lines_in rest) ≡ heads_in (lines_in bytes))
  pub room : number + length rest ≤ suc (length bytes)

pub begins : (bytes : List ℕ) → LookedAt bytes bytes 1 false []
begins bytes = record { plain = λ all. (all, refl); room = omega arith }

pub goes_on : (bytes rest here behind : List ℕ) (number : ℕ) (is_header next : Bool) (heads more : List plain.Head) → LookedAt bytes rest number is_header heads
    → rest ≡ here ++ 10 ∷ behind → is_one_line here ≡ true → (is_plain here ≡ true → more ≡ one_line_on number is_header heads here)
    → next ≡ ((number == 1) || bytes_eq here (codes "end")) → LookedAt bytes behind (number + 1) next more
unfolding heads_on
goes_on bytes rest here behind number is_header next heads more at split one made now =
    record {
      plain = λ all. on (at.plain all);
      room = omega (arith, at.room, ap length split, length-append here (10 ∷ behind));
    }
  where
    lines : lines_in rest ≡ here ∷ lines_in behind
    lines = ap lines_in split ∙ one_more_line here behind one

    on : (all_plain (lines_in rest) ≡ true) × (heads_on number is_header heads (lines_in rest) ≡ heads_in (lines_in bytes))
        → (all_plain (lines_in behind) ≡ true) × (heads_on (number + 1) next more (lines_in behind) ≡ heads_in (lines_in bytes))
    on both =
        let parts = and_parts (is_plain here) (all_plain (lines_in behind)) (sym (ap all_plain lines) ∙ both.0) in
        let up : number + 1 ≡ suc number = omega arith in
        let step : heads_on (number + 1) next more (lines_in behind) ≡ heads_on number is_header heads (here ∷ lines_in behind) =
        λ i. heads_on (up i) (now i) (made parts.0 i) (lines_in behind) in
        (parts.1, step ∙ sym (ap (heads_on number is_header heads) lines) ∙ both.1)

pub ends : (bytes rest : List ℕ) (number : ℕ) (is_header : Bool) (heads : List plain.Head) → LookedAt bytes rest number is_header heads → is_one_line rest ≡ true
    → all_plain (lines_in bytes) ≡ true → heads ≡ heads_in (lines_in bytes)
unfolding heads_on
ends bytes rest number is_header heads at one all = ap (heads_on number is_header heads) (sym (no_line rest one)) ∙ (at.plain all).1

-- they are told by what tells the same
pub all_looked : {E : Type 0} (bytes rest : List ℕ) (number : ℕ) (is_header : Bool) (heads : List plain.Head) (r : Result (List plain.Head) E) → LookedAt bytes rest number is_header heads
    → is_one_line rest ≡ true → IfOk r (λ hs. hs ≡ heads) → IfOk r (λ hs. all_plain (lines_in bytes) ≡ true → hs ≡ heads_in (lines_in bytes))
all_looked bytes rest number is_header heads (Ok hs) at one same = λ all. same ∙ ends bytes rest number is_header heads at one all
all_looked bytes rest number is_header heads (Err e) at one same = tt

-- ---- the last of them

pub above_some : (hs : List Head) (x : Head) (name : List ℕ) → Some x ≡ slice_get hs (length hs - 1) → is_above_last (plain_heads hs) name ≡ is_lt (name_cmp x.name.now name)
unfolding is_above_last
above_some [] x name is = absurd cc
above_some (h ∷ []) x name is = ap (λ o. is_lt (name_cmp (name_or x o) name)) (sym is)
  where
    name_or : Head → Option Head → List ℕ
    name_or y None = y.name.now
    name_or y (Some z) = z.name.now
above_some (h ∷ (g ∷ gs)) x name is = above_some (g ∷ gs) x name (is ∙ ap (slice_get (h ∷ (g ∷ gs))) (long g gs))
  where
    long : (y : Head) (ys : List Head) → length (h ∷ (y ∷ ys)) - 1 ≡ suc (length (y ∷ ys) - 1)
    long y ys = omega arith

pub above_none : (hs : List Head) (name : List ℕ) → None ≡ slice_get hs (length hs - 1) → true ≡ is_above_last (plain_heads hs) name
unfolding is_above_last
above_none [] name is = refl
above_none (h ∷ hs) name is = absurd (some h hs is)
  where
    some : (y : Head) (ys : List Head) → None ≡ slice_get (y ∷ ys) (length (y ∷ ys) - 1) → ⊥
    some y [] e = absurd cc
    some y (z ∷ zs) e = let long : length (y ∷ (z ∷ zs)) - 1 ≡ suc (length (z ∷ zs) - 1) = omega arith in some z zs (e ∙ ap (slice_get (y ∷ (z ∷ zs))) long)

-- one more
pub added_rise : (hs more : List Head) (h : Head) → NamesRise (plain_heads hs) → is_above_last (plain_heads hs) h.name.now ≡ true → more ≡ hs ++ h ∷ [] → NamesRise (plain_heads more)
added_rise hs more h rise above is = subst NamesRise (sym (ap plain_heads is ∙ map-append plain_head hs (h ∷ []))) (head_added_rises (plain_heads hs) (plain_head h) rise above)

pub added_heads : (hs more : List Head) (h : Head) → is_above_last (plain_heads hs) h.name.now ≡ true → more ≡ hs ++ h ∷ [] → plain_heads more ≡ head_added (plain_heads hs) (plain_head h)
added_heads hs more h above is = ap plain_heads is ∙ map-append plain_head hs (h ∷ []) ∙ sym (ap (λ b. if b then plain_heads hs ++ plain_head h ∷ [] else plain_heads hs) above)

-- ---- one line more

pub header_on : (hs before more : List plain.Head) (h : plain.Head) (number : ℕ) (text line : List ℕ) → before ≡ hs → more ≡ head_added before h → h ≡ head_of number text
    → (is_plain line ≡ true → text ≡ line) → is_plain line ≡ true → more ≡ one_line_on number true hs line
header_on hs before more h number text line was made is read plain_line =
    made ∙ ap (λ xs. head_added xs h) was ∙ ap (head_added hs) (is ∙ ap (head_of number) (read plain_line))

pub stays_on : (hs : List plain.Head) (line : List ℕ) (b : Bool) → (is_plain line ≡ true → b ≡ beyond_long line) → b ≡ false → is_plain line ≡ true
    → hs ≡ one_line_on 0 false hs line
stays_on hs line b tells is plain_line = ap (λ t. if t then last_marked hs else hs) (sym is ∙ tells plain_line)

pub marked_on : (hs before more : List plain.Head) (line : List ℕ) (b : Bool) → before ≡ hs → (is_plain line ≡ true → b ≡ beyond_long line) → b ≡ true
    → more ≡ last_marked before → is_plain line ≡ true → more ≡ one_line_on 0 false hs line
marked_on hs before more line b was tells is made plain_line =
    made ∙ ap last_marked was ∙ ap (λ t. if t then last_marked hs else hs) (sym is ∙ tells plain_line)

-- what does not begin as an item is none
pub no_item : (line : List ℕ) → bytes_eq (take 6 line) (codes "value ") ≡ false → false ≡ beyond_long line
unfolding beyond_long behind
no_item line other = rw other refl

-- the last one marked
pub marked_heads : (hs front more : List Head) (h g : Head) → hs ≡ front ++ h ∷ [] → more ≡ front ++ g ∷ []
    → plain_head g ≡ record { name = h.name.now; class = h.class; line = h.line; beyond = true } → plain_heads more ≡ last_marked (plain_heads hs)
marked_heads hs front more h g was is marks =
    ap plain_heads is ∙ map-append plain_head front (g ∷ []) ∙ ap (λ x. plain_heads front ++ x ∷ []) marks
    ∙ sym (ap (λ xs. last_marked (plain_heads xs)) was ∙ ap last_marked (map-append plain_head front (h ∷ [])) ∙ last_is_marked (plain_heads front) (plain_head h))

pub marked_names_rise : (hs more : List Head) → NamesRise (plain_heads hs) → plain_heads more ≡ last_marked (plain_heads hs) → NamesRise (plain_heads more)
marked_names_rise hs more rise is = subst NamesRise (sym is) (marked_rise (plain_heads hs) rise)

pub none_marked : (hs more : List Head) → hs ≡ [] → more ≡ hs → plain_heads more ≡ last_marked (plain_heads hs)
unfolding last_marked
none_marked hs more empty is = ap plain_heads (is ∙ empty) ∙ sym (ap (λ xs. last_marked (plain_heads xs)) empty)
