-- As many proxies as pairs of the peer's that are held.
use Rattle.std.proofs.Common.{◌≡◌, ℕ, ◌+◌, Bool, true, false, not, ◌&&◌, ◌||◌, cond, nat_eq, if◌then◌else◌, List, [], ◌∷◌, length, None, Some, T, refl, sym, ap, ◌∙◌, arith, is_some}
use Rattle.std.proofs.lemmas.Bool.Decides.{nat_tests}
use Rattle.std.specs.Cmp.{Equal-is, tied_itself}
use Rattle.std.specs.FinMap.{find, is_sorted}
use Rattle.std.specs.FinMap.Entries.{is_sorted-where_key, length_without}
use Rattle.std.specs.List.{list_any}
use Rattle.std.specs.Ordering.{is_eq}
use Rattle.table_model.specs.Bags.{how_many}
use Rattle.table_model.specs.Holdings.{Hold, Holdings, holders, held}
use Rattle.table_model.specs.Pair.{Pair, pair_cmp, is_pair}
use Rattle.table_model.specs.Rows.{without}
use Rattle.table_model.proofs.PairLaws.{pair_order, same_pair}
use Rattle.table_model.proofs.RowLaws.{found_without}
use Rattle.bridge_model.specs.Answers.{is_among, proxies}
use Rattle.bridge_model.specs.Settings.{Setting, is_own, prefix}
use Rattle.bridge_model.specs.Sides.{RootState}
use Rattle.bridge_objects.specs.Kept.{Kept}
use Rattle.bridge_streams.specs.Queues.{Queue}
use Rattle.table_model.specs.Proxies.{Proxies}
use Rattle.bridge_tables.specs.Covered.{AreCovered, gave, needs_proxy}
use Rattle.bridge_tables.specs.EndTables.{EndTables, IsOf}
use Rattle.bridge_tables.proofs.Counts.{held_more, own_more, again_more, first_more}
use Rattle.bridge_tables.proofs.LettingLemmas.{seen}

any_count : {X : Type 0} (test : X → Bool) (xs : List X) → list_any test xs ≡ not (nat_eq (how_many test xs) 0)
any_count test [] = refl
any_count test (x ∷ xs) =
    elim (test x) as (λ b. (b || list_any test xs) ≡ not (nat_eq (cond b 1 0 + how_many test xs) 0)) [
      | true ↦ some_more (how_many test xs)
      | false ↦ any_count test xs ∙ ap (λ n. not (nat_eq n 0)) (plus_zero (how_many test xs))
    ]
  where
    some_more : (n : ℕ) → true ≡ not (nat_eq (1 + n) 0)
    some_more n = sym (let some : not (nat_eq (1 + n) 0) ≡ true = grind (arith, nat_tests) in some)

    plus_zero : (n : ℕ) → n ≡ 0 + n
    plus_zero n = omega arith

and_false : (b : Bool) → (b && false) ≡ false
and_false true = refl
and_false false = refl

either : (a b : Bool) → (a || b) ≡ false → (a ≡ false) × (b ≡ false)
either false false is = (refl, refl)
either false true is = absurd (cc)
either true b is = absurd (cc)

first_found : (p : Pair) (n : ℕ) (rows : List (Pair × ℕ)) → is_some (find pair_cmp p ((p, n) ∷ rows)) ≡ true
first_found p n rows = ap (λ o. is_some (cond (is_eq o) (Some n) (find pair_cmp p rows))) (tied_itself pair_order p)

module _ (g : Setting) where
  -- these rows have the pairs of the peer's that are held
  abbrev pub AllHave : Holdings → List (Pair × ℕ) → Type 0
  AllHave hs rows = (p : Pair) → is_some (find pair_cmp p rows) ≡ needs_proxy (prefix g) hs p

  as_held : (h : Hold) (hs : Holdings) (p : Pair) → needs_proxy (prefix g) (h ∷ hs) p ≡ needs_proxy (prefix g) (held h hs) p
  as_held h hs p = ap (λ n. not (gave (prefix g) p.oid) && not (nat_eq n 0)) (sym (held_more p h.holder h.pair hs))

  -- a pair that is held already, or of this end, adds none
  known_again : (h : Hold) (hs : Holdings) (own among : Bool) → is_own g h.pair.oid ≡ own → is_among h hs ≡ among → (own || among) ≡ true → (p : Pair) → needs_proxy (prefix g) (h ∷ hs) p ≡ needs_proxy (prefix g) hs p
  unfolding is_own
  known_again h hs true among is there known p = as_held h hs p ∙ own_more (prefix g) h.holder h.pair hs is p
  known_again h hs false true is there known p =
      as_held h hs p ∙ again_more (prefix g) h.holder h.pair hs (turned (nat_eq (holders h.pair hs) 0) (sym (any_count (λ other. is_pair h.pair other.pair) hs) ∙ there)) p
    where
      turned : (b : Bool) → not b ≡ true → b ≡ false
      turned true is = sym is
      turned false is = refl
  known_again h hs false false is there known p = absurd (cc)

  -- another one adds itself
  known_first : (h : Hold) (hs : Holdings) → is_own g h.pair.oid ≡ false → (p : Pair) → needs_proxy (prefix g) (h ∷ hs) p ≡ cond (is_pair p h.pair) true (needs_proxy (prefix g) hs p)
  unfolding is_own
  known_first h hs theirs p = as_held h hs p ∙ first_more (prefix g) h.holder h.pair hs theirs p (is_pair p h.pair) refl

  unneeded : (h : Hold) (hs : Holdings) → is_among h hs ≡ false → needs_proxy (prefix g) hs h.pair ≡ false
  unneeded h hs none = ap (λ b. not (gave (prefix g) h.pair.oid) && b) (sym (any_count (λ other. is_pair h.pair other.pair) hs) ∙ none) ∙ and_false (not (gave (prefix g) h.pair.oid))

  rest_have : (h : Hold) (hs : Holdings) (rows : List (Pair × ℕ)) → is_own g h.pair.oid ≡ false → is_among h hs ≡ false → AllHave (h ∷ hs) rows → AllHave hs (without pair_cmp h.pair rows)
  rest_have h hs rows theirs none have p =
      ap is_some (found_without pair_order p h.pair rows)
      ∙ elim (is_pair p h.pair) as (λ b. is_pair p h.pair ≡ b → is_some (cond b None (find pair_cmp p rows)) ≡ needs_proxy (prefix g) hs p) [
        | true ↦ λ is. sym (ap (needs_proxy (prefix g) hs) (same_pair p h.pair ((Equal-is _).0 is)) ∙ unneeded h hs none)
        | false ↦ λ other. have p ∙ known_first h hs theirs p ∙ ap (λ b. cond b true (needs_proxy (prefix g) hs p)) other
      ] refl

  one_more : (h : Hold) (hs : Holdings) (rows : List (Pair × ℕ)) → T (is_sorted pair_cmp rows) → AllHave (h ∷ hs) rows
      → ((left : List (Pair × ℕ)) → T (is_sorted pair_cmp left) → AllHave hs left → length left ≡ proxies g hs) → (b : Bool) → (is_own g h.pair.oid || is_among h hs) ≡ b
      → length rows ≡ (if b then proxies g hs else 1 + proxies g hs)
  one_more h hs rows rises have fewer true known = fewer rows rises (λ p. have p ∙ known_again h hs (is_own g h.pair.oid) (is_among h hs) refl refl known p)
  one_more h hs rows rises have fewer false first =
      let parts = either (is_own g h.pair.oid) (is_among h hs) first in
      let there : is_some (find pair_cmp h.pair rows) ≡ true = have h.pair ∙ known_first h hs parts.0 h.pair ∙ ap (λ o. cond (is_eq o) true (needs_proxy (prefix g) hs h.pair)) (tied_itself pair_order h.pair) in
      sym (length_without pair_cmp pair_order h.pair rows rises) ∙ ap (λ b. cond b 1 0 + length (without pair_cmp h.pair rows)) there
      ∙ ap (λ n. 1 + n) (fewer (without pair_cmp h.pair rows) (is_sorted-where_key pair_cmp _ rows rises) (rest_have h hs rows parts.0 parts.1 have))

  pub counted : (hs : Holdings) (rows : List (Pair × ℕ)) → T (is_sorted pair_cmp rows) → AllHave hs rows → length rows ≡ proxies g hs
  unfolding proxies
  counted [] [] rises have = refl
  counted [] (r ∷ rows) rises have = let bad : true ≡ false = sym (first_found r.0 r.1 rows) ∙ have r.0 ∙ and_false (not (gave (prefix g) r.0.oid)) in absurd (cc)
  counted (h ∷ hs) rows rises have = one_more h hs rows rises have (λ left sorted all. counted hs left sorted all) (is_own g h.pair.oid || is_among h hs) refl

-- ---- as code counts them

module _ (g : Setting) (k : Kept) (q : Queue) (standing : Bool) (roots : List RootState) (frames : ℕ) (e : EndTables) (view : seen k q standing roots frames ≡ e) where
  pub counted_standing : (rows : Proxies) (room n : ℕ) → IsOf g e → (standing ≡ true → AreCovered k.prefix k.holdings rows room) → n ≡ room → standing ≡ true → n ≡ (if e.stands then proxies g e.tables.holdings else 0)
  counted_standing rows room n of covers is stands =
      let covered = covers stands in
      is ∙ covered.count
      ∙ counted g k.holdings rows.rows covered.rises (λ p. covered.each p ∙ ap (λ pre. needs_proxy pre k.holdings p) (ap (λ x. x.prefix) view ∙ of.prefix))
      ∙ ap (λ b. if b then proxies g k.holdings else 0) (sym stands) ∙ ap (λ x. if x.stands then proxies g x.tables.holdings else 0) view

  pub counted_ended : (n : ℕ) → n ≡ 0 → standing ≡ false → n ≡ (if e.stands then proxies g e.tables.holdings else 0)
  counted_ended n is ended = is ∙ ap (λ b. if b then proxies g k.holdings else 0) (sym ended) ∙ ap (λ x. if x.stands then proxies g x.tables.holdings else 0) view
