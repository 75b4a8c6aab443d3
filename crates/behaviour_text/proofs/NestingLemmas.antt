-- The levels of a term are those of its pieces, as far as they are counted.
use Rattle.std.proofs.Common.{◌≡◌, ℕ, zero, suc, max, ◌<◌, ◌≤◌, ◌+◌, ◌-◌, nat_le, Bool, ◌&&◌, List, [], ◌∷◌, ◌++◌, length, map, take, drop, get_or, reverse, IsTrue, refl, sym, ap, subst, ◌∙◌, arith}
use Rattle.std.proofs.lemmas.List.{drop-map, drop_more, length-map, length-reverse, map-append, reverse-append, take-append-drop, take_all, take_more}
use Rattle.plan_model.specs.Limits.{is_flat, term_depth, parentheses}
use Rattle.plan_model.specs.Lines.{Term}
use Rattle.term_pieces.specs.Depths.{largest, depths_behind, parentheses_behind}
use Rattle.term_pieces.specs.Pieces.{Piece, leaf, type_named, void_any, typed, elements, members, word, operation, held, put, put_all, AreBuilt, is_term, term_in}
use Rattle.term_pieces.proofs.DepthLaws.{depths_are, parentheses_are}
use Rattle.term_pieces.proofs.PieceLaws.{is_one, put_more}
use Rattle.behaviour_text.specs.Nesting.{counted, depths_of, parentheses_of, depth_round, parentheses_round}
use Rattle.behaviour_text.specs.declared.limits.nesting.Levels.{Levels}

-- ---- what is counted

none_counted : 0 ≡ counted 0
unfolding counted
none_counted = omega arith

one_counted : 1 ≡ counted 1
unfolding counted
one_counted = omega arith

two_counted : 2 ≡ counted 2
unfolding counted
two_counted = omega arith

most_alone : (d : ℕ) → max d 0 ≡ d
most_alone d = omega arith

max_counted : (n m : ℕ) → max (counted n) (counted m) ≡ counted (max n m)
unfolding counted
max_counted n m = omega arith

more_counted : (n : ℕ) → counted (suc (counted n)) ≡ counted (suc n)
unfolding counted
more_counted n = omega arith

larger_counted : (n m : ℕ) → counted (suc (max (counted n) (counted m))) ≡ counted (suc (max n m))
larger_counted n m = ap (λ k. counted (suc k)) (max_counted n m) ∙ more_counted (max n m)

largest_counted : (k : ℕ) (ns : List ℕ) (m : ℕ) → largest k (map counted ns) (counted m) ≡ counted (largest k ns m)
unfolding largest
largest_counted zero ns m = refl
largest_counted (suc k) [] m = refl
largest_counted (suc k) (n ∷ ns) m = ap (largest k (map counted ns)) (max_counted n m) ∙ largest_counted k ns (max n m)

all_counted : (k : ℕ) (ns : List ℕ) → largest k (map counted ns) 0 ≡ counted (largest k ns 0)
all_counted k ns = ap (largest k (map counted ns)) none_counted ∙ largest_counted k ns 0

within : (n : ℕ) → nat_le (counted n) 64 ≡ nat_le n 64
unfolding counted
within n = grind (arith)

pub flat_so : (t : Term) (d p : ℕ) (flat : Bool) → flat ≡ (nat_le d 64 && nat_le p 64) → d ≡ counted (term_depth t) → p ≡ counted (parentheses t) → flat ≡ is_flat t
unfolding is_flat
flat_so t d p flat is deep many = is ∙ (λ j. nat_le (deep j) 64 && nat_le (many j) 64) ∙ (λ j. within (term_depth t) j && within (parentheses t) j)

-- ---- one piece

depth_step : (p : Piece) (ns : List ℕ) → held p ≤ length ns → depth_round p (largest (held p) (map counted ns) 0) ∷ drop (held p) (map counted ns) ≡ map counted (depths_behind ns p)
unfolding held largest depths_behind
depth_step (leaf t) ns enough = ap (λ n. n ∷ map counted ns) one_counted
depth_step (type_named k) ns enough = ap (λ n. n ∷ map counted ns) one_counted
depth_step void_any ns enough = ap (λ n. n ∷ map counted ns) two_counted
depth_step (typed k) [] enough = let bad : ⊥ = omega (arith, enough) in absurd bad
depth_step (typed k) (d ∷ ns) enough = ap (λ n. counted (suc n) ∷ map counted ns) (most_alone (counted d)) ∙ ap (λ n. n ∷ map counted ns) (more_counted d)
depth_step (elements n) ns enough = (λ j. counted (suc (all_counted n ns j)) ∷ drop-map counted n ns j) ∙ ap (λ m. m ∷ map counted (drop n ns)) (more_counted (largest n ns 0))
depth_step (members n) ns enough = (λ j. counted (suc (all_counted n ns j)) ∷ drop-map counted n ns j) ∙ ap (λ m. m ∷ map counted (drop n ns)) (more_counted (largest n ns 0))
depth_step (word w) ns enough = ap (λ n. n ∷ map counted ns) one_counted
depth_step (operation op) [] enough = let bad : ⊥ = omega (arith, enough) in absurd bad
depth_step (operation op) (d ∷ []) enough = let bad : ⊥ = omega (arith, enough) in absurd bad
depth_step (operation op) (d ∷ e ∷ ns) enough = ap (λ n. n ∷ map counted ns) one_counted

parenthesis_step : (p : Piece) (ns : List ℕ) → held p ≤ length ns → parentheses_round p (largest (held p) (map counted ns) 0) ∷ drop (held p) (map counted ns) ≡ map counted (parentheses_behind ns p)
unfolding held largest parentheses_behind
parenthesis_step (leaf t) ns enough = ap (λ n. n ∷ map counted ns) none_counted
parenthesis_step (type_named k) ns enough = ap (λ n. n ∷ map counted ns) none_counted
parenthesis_step void_any ns enough = ap (λ n. n ∷ map counted ns) none_counted
parenthesis_step (typed k) [] enough = let bad : ⊥ = omega (arith, enough) in absurd bad
parenthesis_step (typed k) (d ∷ ns) enough = ap (λ n. n ∷ map counted ns) (most_alone (counted d))
parenthesis_step (elements n) ns enough = λ j. all_counted n ns j ∷ drop-map counted n ns j
parenthesis_step (members n) ns enough = λ j. all_counted n ns j ∷ drop-map counted n ns j
parenthesis_step (word w) ns enough = ap (λ n. n ∷ map counted ns) none_counted
parenthesis_step (operation op) [] enough = let bad : ⊥ = omega (arith, enough) in absurd bad
parenthesis_step (operation op) (d ∷ []) enough = let bad : ⊥ = omega (arith, enough) in absurd bad
parenthesis_step (operation op) (d ∷ e ∷ ns) enough = ap (λ n. counted (suc (max (counted e) n)) ∷ map counted ns) (most_alone (counted d)) ∙ ap (λ n. n ∷ map counted ns) (larger_counted e d)

-- the last one on top
top : {X Y : Type 0} (f : X → Y) (all front : List X) (x : X) → all ≡ front ++ x ∷ [] → map f (reverse all) ≡ f x ∷ map f (reverse front)
top f all front x cut = ap (λ xs. map f (reverse xs)) cut ∙ ap (map f) (reverse-append front (x ∷ []))

round_pushed : (of : Levels → ℕ) (level : Piece → ℕ → ℕ) (p : Piece) (olds rest news : List Levels) (n most : ℕ) (x : Levels) → n ≡ held p → reverse rest ≡ drop n (reverse olds)
    → most ≡ largest n (map of (reverse olds)) 0 → of x ≡ level p most → news ≡ rest ++ x ∷ []
    → map of (reverse news) ≡ level p (largest (held p) (map of (reverse olds)) 0) ∷ drop (held p) (map of (reverse olds))
round_pushed of level p olds rest news n most x count left found here pushed =
    top of news rest x pushed
    ∙ ap (λ m. m ∷ map of (reverse rest)) (here ∙ ap (level p) (found ∙ ap (λ k. largest k (map of (reverse olds)) 0) count))
    ∙ ap (λ ns. level p (largest (held p) (map of (reverse olds)) 0) ∷ ns) (ap (map of) (left ∙ ap (λ k. drop k (reverse olds)) count) ∙ sym (drop-map of (held p) (reverse olds)))

-- as many levels as terms
as_many : (of : Levels → ℕ) (f : Term → ℕ) (ls : List Levels) (done : List Term) → map of (reverse ls) ≡ map counted (map f done) → length ls ≡ length done
as_many of f ls done same =
    sym (length-map (reverse ls) of ∙ length-reverse ls) ∙ ap length same ∙ length-map (map f done) counted ∙ length-map done f

module _ (p : Piece) (olds rest news : List Levels) (n most : ℕ) (x : Levels) (enough : held p ≤ length olds) (count : n ≡ held p) (left : reverse rest ≡ drop n (reverse olds))
    (pushed : news ≡ rest ++ x ∷ []) (done : List Term) where
  pub depth_put : most ≡ largest n (depths_of olds) 0 → x.depth ≡ depth_round p most → depths_of olds ≡ map counted (map term_depth done)
      → depths_of news ≡ map counted (map term_depth (put done p))
  depth_put found here same =
      let long = as_many (λ l. l.depth) term_depth olds done same in
      let longer = length-map done term_depth in
      round_pushed (λ l. l.depth) depth_round p olds rest news n most x count left found here pushed
      ∙ ap (λ ns. depth_round p (largest (held p) ns 0) ∷ drop (held p) ns) same
      ∙ depth_step p (map term_depth done) (omega (arith, enough, long, longer))
      ∙ ap (map counted) (sym (depths_are p done (omega (arith, enough, long))))

  pub parentheses_put : most ≡ largest n (parentheses_of olds) 0 → x.parentheses ≡ parentheses_round p most → parentheses_of olds ≡ map counted (map parentheses done)
      → parentheses_of news ≡ map counted (map parentheses (put done p))
  parentheses_put found here same =
      let long = as_many (λ l. l.parentheses) parentheses olds done same in
      let longer = length-map done parentheses in
      round_pushed (λ l. l.parentheses) parentheses_round p olds rest news n most x count left found here pushed
      ∙ ap (λ ns. parentheses_round p (largest (held p) ns 0) ∷ drop (held p) ns) same
      ∙ parenthesis_step p (map parentheses done) (omega (arith, enough, long, longer))
      ∙ ap (map counted) (sym (parentheses_are p done (omega (arith, enough, long))))

-- ---- all pieces

built_there : (done : List Term) (front behind : List Piece) (p : Piece) → AreBuilt done (front ++ p ∷ behind) → held p ≤ length (put_all done front)
unfolding AreBuilt put_all
built_there done [] behind p built = built.0
built_there done (q ∷ front) behind p built = built_there (put done q) front behind p built.1

module _ {X : Type 0} (view : X → Piece) (all : List X) where
  abbrev pub done_at : ℕ → List Term
  done_at i = put_all [] (map view (take i all))

  pub none_done : (of : Levels → ℕ) (f : Term → ℕ) (olds : List Levels) → olds ≡ [] → map of (reverse olds) ≡ map counted (map f (done_at 0))
  unfolding put_all
  none_done of f olds nothing = ap (λ ls. map of (reverse ls)) nothing

  module _ (i : ℕ) (p : X) (within_all : i < length all) (is : p ≡ get_or all i p) where
    pub more_done : put (done_at i) (view p) ≡ done_at (i + 1)
    more_done =
        sym (put_more [] (map view (take i all)) (view p))
        ∙ ap (put_all []) (sym (ap (map view) (take_more all i p within_all ∙ ap (λ q. take i all ++ q ∷ []) (sym is)) ∙ map-append view (take i all) (p ∷ [])))

    pub finds : (of : Levels → ℕ) (f : Term → ℕ) (ls : List Levels) → IsTrue (is_term (map view all)) → map of (reverse ls) ≡ map counted (map f (done_at i)) → held (view p) ≤ length ls
    finds of f ls one same =
        let cut : all ≡ take i all ++ p ∷ drop (i + 1) all =
        sym (take-append-drop i all) ∙ ap (λ xs. take i all ++ xs) (drop_more all i p within_all ∙ ap (λ q. q ∷ drop (i + 1) all) (sym is)) in
        let pieces : map view all ≡ map view (take i all) ++ view p ∷ map view (drop (i + 1) all) = ap (map view) cut ∙ map-append view (take i all) (p ∷ drop (i + 1) all) in
        let there = built_there [] (map view (take i all)) (map view (drop (i + 1) all)) (view p) (subst (AreBuilt []) pieces (is_one (map view all) one).0) in
        let long = as_many of f ls (done_at i) same in
        omega (arith, there, long)

  pub all_done : (of : Levels → ℕ) (f : Term → ℕ) (ls : List Levels) (i : ℕ) → length all ≤ i → IsTrue (is_term (map view all)) → map of (reverse ls) ≡ map counted (map f (done_at i))
      → map of (reverse ls) ≡ counted (f (term_in (map view all))) ∷ []
  all_done of f ls i past one same =
      same ∙ ap (λ xs. map counted (map f (put_all [] (map view xs)))) (take_all i all past) ∙ ap (λ ts. map counted (map f ts)) (is_one (map view all) one).1

-- ---- the one that is left

first_is : (n m : ℕ) (ns ms : List ℕ) → n ∷ ns ≡ m ∷ ms → n ≡ m
first_is n m ns ms same = cc

pub level_found : {X : Type 0} (view : X → Piece) (ps pieces : List X) (of : Levels → ℕ) (f : Term → ℕ) (all front : List Levels) (x : Levels) → pieces ≡ ps
    → map of (reverse all) ≡ counted (f (term_in (map view pieces))) ∷ [] → all ≡ front ++ x ∷ [] → of x ≡ counted (f (term_in (map view ps)))
level_found view ps pieces of f all front x same so cut =
    first_is (of x) (counted (f (term_in (map view pieces)))) (map of (reverse front)) [] (sym (top of all front x cut) ∙ so) ∙ ap (λ qs. counted (f (term_in (map view qs)))) same

-- ---- the largest of some

pub largest_more : (k : ℕ) (ns : List ℕ) (n m : ℕ) → 0 < k → largest k (n ∷ ns) m ≡ largest (k - 1) ns (max n m)
unfolding largest
largest_more zero ns n m low = let bad : ⊥ = omega (arith, low) in absurd bad
largest_more (suc k) ns n m low = let less : suc k - 1 ≡ k = omega arith in ap (λ j. largest j ns (max n m)) (sym less)

pub drop_one : {X : Type 0} (k : ℕ) (x : X) (xs : List X) → 0 < k → drop k (x ∷ xs) ≡ drop (k - 1) xs
drop_one zero x xs low = let bad : ⊥ = omega (arith, low) in absurd bad
drop_one (suc k) x xs low = let less : suc k - 1 ≡ k = omega arith in ap (λ j. drop j xs) (sym less)

pub largest_end : (k : ℕ) (ns : List ℕ) (m : ℕ) → k ≤ 0 → largest k ns m ≡ m
unfolding largest
largest_end zero ns m past = refl
largest_end (suc k) ns m past = let bad : ⊥ = omega (arith, past) in absurd bad

pub drop_end : {X : Type 0} (k : ℕ) (xs : List X) → k ≤ 0 → drop k xs ≡ xs
drop_end zero xs past = refl
drop_end (suc k) xs past = let bad : ⊥ = omega (arith, past) in absurd bad

-- ---- one taken more

pub taken_on : (of : Levels → ℕ) (olds news : List Levels) (x : Levels) (left m most target : ℕ) → 0 < left → olds ≡ news ++ x ∷ [] → most ≡ max (of x) m
    → largest left (map of (reverse olds)) m ≡ target → largest (left - 1) (map of (reverse news)) most ≡ target
taken_on of olds news x left m most target low cut larger so_far =
    ap (largest (left - 1) (map of (reverse news))) larger ∙ sym (largest_more left (map of (reverse news)) (of x) m low)
    ∙ sym (ap (λ ns. largest left ns m) (top of olds news x cut)) ∙ so_far

pub taken_rest : {X : Type 0} (olds news : List X) (x : X) (left : ℕ) (target : List X) → 0 < left → olds ≡ news ++ x ∷ [] → drop left (reverse olds) ≡ target → drop (left - 1) (reverse news) ≡ target
taken_rest olds news x left target low cut so_far =
    sym (drop_one left x (reverse news) low) ∙ sym (ap (drop left) (ap reverse cut ∙ reverse-append news (x ∷ []))) ∙ so_far
