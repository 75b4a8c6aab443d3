-- Counts of functions, as far as a `u64` counts, along lists of members, of entities and of marks.
use Rattle.std.proofs.Common.{◌≡◌, ℕ, zero, suc, ◌+◌, ◌-◌, ◌^◌, ◌<◌, ◌≤◌, min, length, map, drop, get_or, set, replicate, Bool, true, false, if◌then◌else◌, List, [], ◌∷◌, refl, sym, ap, ◌∙◌, arith}
use Rattle.std.proofs.lemmas.List.{at_drop_more, drop_all}
use Rattle.uno_model.specs.Entities as plain
use Rattle.uno_entities.specs.Counts.{functions_of_member, functions_in, own_functions, total_functions, marked_functions, IsShare}
use Rattle.uno_entities.specs.Entities.{member_of, entities_of, entity_of, body_of}
use Rattle.uno_entities.specs.declared.entity.Member.{Member}
use Rattle.uno_entities.specs.declared.entity.Entity.{Entity}

-- a count goes on with the next one, and stops at the most
goes_on : (total one rest left all most next : ℕ) → left ≡ one + rest → min (total + left) most ≡ all → next ≡ min (total + min one most) most → min (next + rest) most ≡ all
goes_on total one rest left all most next parts held is = omega (arith, parts, held, is)

-- at its end it has all
ends : (total left all most : ℕ) → left ≡ 0 → total ≤ most → min (total + left) most ≡ all → total ≡ all
ends total left all most none low held = omega (arith, none, low, held)

-- the members that are left, one further
members_left : (ms : List Member) (i : ℕ) (m : Member) → i < length ms → m ≡ get_or ms i m
    → functions_in (map member_of (drop i ms)) ≡ functions_of_member (member_of m) + functions_in (map member_of (drop (i + 1) ms))
unfolding functions_in
members_left ms i m within is =
    at_drop_more (λ xs. functions_in (map member_of xs)) ms i m within ∙ ap (λ x. functions_of_member (member_of x) + functions_in (map member_of (drop (i + 1) ms))) (sym is)

pub member_step : (ms : List Member) (i : ℕ) (m : Member) (total next one most all : ℕ) → i < length ms → m ≡ get_or ms i m
    → min (total + functions_in (map member_of (drop i ms))) most ≡ all
    → one ≡ functions_of_member (member_of m) → one ≤ most → next ≡ min (total + one) most → min (next + functions_in (map member_of (drop (i + 1) ms))) most ≡ all
member_step ms i m total next one most all within is held counts low added =
    goes_on total one (functions_in (map member_of (drop (i + 1) ms))) (functions_in (map member_of (drop i ms))) all most next
    (members_left ms i m within is ∙ ap (λ k. k + functions_in (map member_of (drop (i + 1) ms))) (sym counts)) held (omega (arith, added, low))

pub members_end : (ms : List Member) (i total most all : ℕ) → length ms ≤ i → total ≤ most → min (total + functions_in (map member_of (drop i ms))) most ≡ all → total ≡ all
unfolding functions_in
members_end ms i total most all over low held = ends total _ all most (ap (λ xs. functions_in (map member_of xs)) (drop_all i ms over)) low held

-- the entities that are left, one further
entities_left : (es : List Entity) (i : ℕ) (e : Entity) → i < length es → e ≡ get_or es i e
    → total_functions (entities_of (drop i es)) ≡ own_functions (body_of e.body) + total_functions (entities_of (drop (i + 1) es))
unfolding total_functions
entities_left es i e within is =
    at_drop_more (λ xs. total_functions (entities_of xs)) es i e within ∙ ap (λ x. own_functions (body_of x.body) + total_functions (entities_of (drop (i + 1) es))) (sym is)

pub entity_step : (es : List Entity) (i : ℕ) (e : Entity) (total next one most all : ℕ) → i < length es → e ≡ get_or es i e
    → min (total + total_functions (entities_of (drop i es))) most ≡ all
    → one ≡ min (own_functions (body_of e.body)) most → next ≡ min (total + one) most → min (next + total_functions (entities_of (drop (i + 1) es))) most ≡ all
entity_step es i e total next one most all within is held counts added =
    goes_on total (own_functions (body_of e.body)) (total_functions (entities_of (drop (i + 1) es))) (total_functions (entities_of (drop i es))) all most next
    (entities_left es i e within is) held (added ∙ ap (λ k. min (total + k) most) counts)

pub entities_end : (es : List Entity) (i total most all : ℕ) → length es ≤ i → total ≤ most → min (total + total_functions (entities_of (drop i es))) most ≡ all → total ≡ all
unfolding total_functions
entities_end es i total most all over low held = ends total _ all most (ap (λ xs. total_functions (entities_of xs)) (drop_all i es over)) low held

-- ---- marks that are taken back

-- what the entity at a place counts for with its mark is what its mark adds
mark_share : (marks : List Bool) (es : List Entity) (p : ℕ) (d : Bool) (e : Entity) → p < length marks → length marks ≡ length es
    → marked_functions marks (entities_of es)
    ≡ (if get_or marks p d then own_functions (body_of (get_or es p e).body) else 0) + marked_functions (set marks p false) (entities_of es)
unfolding marked_functions
mark_share [] es p d e within long = absurd (omega (arith, within))
mark_share (m ∷ marks) [] p d e within long = absurd (omega (arith, long))
mark_share (true ∷ marks) (x ∷ es) zero d e within long = refl
mark_share (false ∷ marks) (x ∷ es) zero d e within long = omega arith
mark_share (true ∷ marks) (x ∷ es) (suc p) d e within long = omega (arith, mark_share marks es p d e (omega (arith, within)) (omega (arith, long)))
mark_share (false ∷ marks) (x ∷ es) (suc p) d e within long = mark_share marks es p d e (omega (arith, within)) (omega (arith, long))

-- the same of what was read there
pub share_of : (marks : List Bool) (es : List Entity) (p : ℕ) (mark : Bool) (e : Entity) (count : ℕ) → p < length es → length marks ≡ length es
    → mark ≡ get_or marks p mark → count ≡ min (if mark then own_functions (body_of (get_or es p e).body) else 0) (2 ^ 64 - 1)
    → IsShare count (marked_functions marks (entities_of es)) (marked_functions (set marks p false) (entities_of es))
share_of marks es p mark e count within long read counts =
    let own = own_functions (body_of (get_or es p e).body) in
    record {
      share = if mark then own else 0;
      parts = mark_share marks es p mark e (omega (arith, within, long)) long
          ∙ ap (λ m. (if m then own else 0) + marked_functions (set marks p false) (entities_of es)) (sym read);
      counted = counts;
    }

-- the marks that are left, one fewer
pub share_step : (total count next whole rest most all : ℕ) → most ≡ 2 ^ 64 - 1 → IsShare count whole rest → min (total + whole) most ≡ all → next ≡ min (total + count) most
    → min (next + rest) most ≡ all
share_step total count next whole rest most all is share held added =
    goes_on total share.share rest whole all most next share.parts held (added ∙ ap (λ k. min (total + k) most) (share.counted ∙ ap (min share.share) (sym is)))

-- without a mark nothing counts
none_counts : (count : ℕ) (reg : List plain.Entity) → marked_functions (replicate count false) reg ≡ 0
unfolding marked_functions
none_counts zero reg = refl
none_counts (suc count) [] = refl
none_counts (suc count) (e ∷ es) = none_counts count es

pub shares_end : (count : ℕ) (marks : List Bool) (reg : List plain.Entity) (total most all : ℕ) → marks ≡ replicate count false → total ≤ most
    → min (total + marked_functions marks reg) most ≡ all → total ≡ all
shares_end count marks reg total most all none low held = ends total _ all most (ap (λ ms. marked_functions ms reg) none ∙ none_counts count reg) low held
