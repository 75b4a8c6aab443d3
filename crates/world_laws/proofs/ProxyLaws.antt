-- Each pair of the peer's that is held has one proxy, and no other has.
use Rattle.std.proofs.Common.{◌≡◌, refl, sym, ap, ◌∙◌, ℕ, suc, ◌+◌, Bool, true, false, not, ◌&&◌, ◌||◌, ◌==◌, eqb-true, List, [], ◌∷◌, length, if◌then◌else◌, arith}
use Rattle.std.specs.Cmp.{Equal-is}
use Rattle.std.specs.List.{list_any}
use Rattle.table_model.specs.Bags.{how_many}
use Rattle.table_model.specs.Holdings.{Hold, Holdings}
use Rattle.table_model.specs.Pair.{Pair, is_pair}
use Rattle.table_model.proofs.PairLaws.{same_pair}
use Rattle.bridge_laws.specs.Counting.{one_if}
use Rattle.bridge_model.specs.Answers.{is_among, proxies}
use Rattle.bridge_model.specs.References.{is_held}
use Rattle.bridge_model.specs.Settings.{Setting, is_own}
use Rattle.bridge_model.specs.Sides.{Tables}
use Rattle.world_laws.specs.Proxies.{proxy_pairs}

-- a pair is among those that are held
abbrev is_there : Pair → Holdings → Bool
is_there p hs = list_any (λ h. is_pair p h.pair) hs

zero_more : (n : ℕ) → 0 + n ≡ n
zero_more n = omega arith

one_and : (n : ℕ) → 1 + n ≡ suc n
one_and n = omega arith

many_if : {X : Type 0} (test : X → Bool) (c : Bool) (x : X) (xs : List X) → how_many test (if c then xs else x ∷ xs) ≡ (if c then how_many test xs else one_if (test x) + how_many test xs)
many_if test true x xs = refl
many_if test false x xs = refl

-- one item more of a list, by whether it is the pair and whether that is there behind it
one_more : (mine is any c : Bool) (n : ℕ) → n ≡ one_if (not mine && any) → (is ≡ true → c ≡ (mine || any)) → (if c then n else one_if is + n) ≡ one_if (not mine && (is || any))
one_more mine false any true n e f = e
one_more mine false any false n e f = zero_more n ∙ e
one_more true true any true n e f = e
one_more true true any false n e f = let bad : false ≡ true = f refl in absurd (cc)
one_more false true true true n e f = e
one_more false true true false n e f = let bad : false ≡ true = f refl in absurd (cc)
one_more false true false true n e f = let bad : true ≡ false = f refl in absurd (cc)
one_more false true false false n e f = ap (λ k. 1 + k) e

none_counted : (mine : Bool) → 0 ≡ one_if (not mine && false)
none_counted true = refl
none_counted false = refl

one_each : (g : Setting) (hs : Holdings) (p : Pair) → how_many (is_pair p) (proxy_pairs g hs) ≡ one_if (not (is_own g p.oid) && is_there p hs)
unfolding proxy_pairs
one_each g [] p = none_counted (is_own g p.oid)
one_each g (h ∷ hs) p =
    many_if (is_pair p) (is_own g h.pair.oid || is_among h hs) h.pair (proxy_pairs g hs)
    ∙ one_more (is_own g p.oid) (is_pair p h.pair) (is_there p hs) (is_own g h.pair.oid || is_among h hs) (how_many (is_pair p) (proxy_pairs g hs)) (one_each g hs p)
    (λ is. ap (λ (q : Pair). is_own g q.oid || is_there q hs) (sym (same_pair p h.pair ((Equal-is _).0 is))))

-- ---- what is held

not_none_by : (n : ℕ) (b : Bool) → (suc n == 0) ≡ b → not (suc n == 0) ≡ true
not_none_by n true is = let same = eqb-true (suc n) 0 is in absurd (omega arith)
not_none_by n false is = ap not is

any_by : (b any : Bool) (n : ℕ) → any ≡ not (n == 0) → (b || any) ≡ not (one_if b + n == 0)
any_by true any n is = sym (not_none_by n (suc n == 0) refl) ∙ ap (λ k. not (k == 0)) (sym (one_and n))
any_by false any n is = is ∙ ap (λ k. not (k == 0)) (sym (zero_more n))

any_many : {X : Type 0} (test : X → Bool) (xs : List X) → list_any test xs ≡ not (how_many test xs == 0)
any_many test [] = refl
any_many test (x ∷ xs) = any_by (test x) (list_any test xs) (how_many test xs) (any_many test xs)

pub one_proxy : (g : Setting) (t : Tables) (p : Pair) → how_many (is_pair p) (proxy_pairs g t.holdings) ≡ one_if (not (is_own g p.oid) && is_held p.oid p.face t)
one_proxy g t p = one_each g t.holdings p ∙ ap (λ b. one_if (not (is_own g p.oid) && b)) (any_many (λ (h : Hold). is_pair p h.pair) t.holdings)

-- ---- how many there are

length_if : {X : Type 0} (c : Bool) (x : X) (xs : List X) → length (if c then xs else x ∷ xs) ≡ (if c then length xs else 1 + length xs)
length_if true x xs = refl
length_if false x xs = sym (one_and (length xs))

pub all_counted : (g : Setting) (hs : Holdings) → length (proxy_pairs g hs) ≡ proxies g hs
unfolding proxy_pairs proxies
all_counted g [] = refl
all_counted g (h ∷ hs) =
    length_if (is_own g h.pair.oid || is_among h hs) h.pair (proxy_pairs g hs)
    ∙ ap (λ n. if is_own g h.pair.oid || is_among h hs then n else 1 + n) (all_counted g hs)
