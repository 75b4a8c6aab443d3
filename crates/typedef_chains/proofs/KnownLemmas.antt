-- What is known of nodes, when one is met and when the end of one is told.
use Rattle.std.proofs.Common.{◌≡◌, ◌≢◌, refl, sym, ap, subst, ◌∙◌, ℕ, zero, suc, ◌<◌, ◌≤◌, Bool, true, false, List, [], ◌∷◌, ◌++◌, length, Option, None, Some, ◌⊎◌, inl, inr, Contains, get_or, slice_get, set, replicate, arith}
use Rattle.std.proofs.lemmas.List.{get_or-set_same, get_or-set_other, get_or-replicate, get_or_past, length-replicate, length-set}
use Rattle.std.proofs.lemmas.List.Elements.{Contains-append_left, Contains-append_right, Contains-append_cases}
use Rattle.std.proofs.lemmas.Option.{slice_get_within}
use Rattle.typedef_chains.proofs.ChainLemmas.{linked_before, circle_has_none}
use Rattle.typedef_chains.specs.Chains.{IsEnd}
use Rattle.typedef_chains.specs.Known.{Linked, Follows, Returns, StayMet, met, end_of, fresh_nodes}
use Rattle.typedef_chains.specs.declared.step.Step.{Step}
use Rattle.typedef_chains.specs.declared.step.End.{End}

-- ---- one place of a list

same_or : (m n : ℕ) → (m ≡ n) ⊎ (m ≢ n)
same_or zero zero = inl refl
same_or zero (suc n) = inr (λ is. omega (arith, is))
same_or (suc m) zero = inr (λ is. omega (arith, is))
same_or (suc m) (suc n) = elim (same_or m n) [ inl is ↦ inl (ap suc is) | inr not-is ↦ inr (λ is. not-is (omega (arith, is))) ]

replicated : {X : Type 0} (n i : ℕ) (x : X) → get_or (replicate n x) i x ≡ x
replicated n i x = by_place (low_or n i)
  where
    low_or : (n i : ℕ) → (i < n) ⊎ (n ≤ i)
    low_or zero i = inr (omega arith)
    low_or (suc n) zero = inl (omega arith)
    low_or (suc n) (suc i) = elim (low_or n i) [ inl low ↦ inl (omega (arith, low)) | inr high ↦ inr (omega (arith, high)) ]

    by_place : (i < n) ⊎ (n ≤ i) → get_or (replicate n x) i x ≡ x
    by_place (inl low) = get_or-replicate n i x x low
    by_place (inr high) =
        let long = length-replicate n x in
        get_or_past (replicate n x) i x (omega (arith, high, long))

-- the only element
one_there : (x node : ℕ) → Contains (x ∷ []) node → node ≡ x
one_there x node (zero, low, is) = sym is
one_there x node (suc k, low, is) = absurd (omega (arith, low))

none_there : {X : Type 0} (x : X) → Contains [] x → ⊥
none_there x (k, low, is) = omega (arith, low)

not_both : (b : Bool) → b ≡ true → b ≡ false → ⊥
not_both b on off = cc

apart : (seen : List Bool) (node at : ℕ) → met seen node ≡ true → met seen at ≡ false → node ≢ at
apart seen node at on off is = not_both (met seen at) (sym (ap (met seen) is) ∙ on) off

-- ---- what stays

pub stay_met : (seen : List Bool) (at : ℕ) → at < length seen → StayMet seen (set seen at true)
stay_met seen at low node on = elim (same_or node at) [
  | inl is ↦ ap (met (set seen at true)) is ∙ get_or-set_same seen at true false low
  | inr other ↦ get_or-set_other seen at node true false other ∙ on
]

pub one_less : (seen : List Bool) (at : ℕ) → at < length seen → met seen at ≡ false → fresh_nodes (set seen at true) < fresh_nodes seen
unfolding fresh_nodes
one_less [] at low off = absurd (omega (arith, low))
one_less (true ∷ seen) zero low off = let bad : ⊥ = cc in absurd bad
one_less (false ∷ seen) zero low off = omega arith
one_less (true ∷ seen) (suc at) low off = one_less seen at (omega (arith, low)) off
one_less (false ∷ seen) (suc at) low off = let rest = one_less seen at (omega (arith, low)) off in omega (arith, rest)

module _ (steps : List Step) (most : ℕ) where
  -- ---- the beginning

  pub none_met : Follows steps most (replicate (length steps) false) (replicate (length steps) None) []
  none_met = record {
    long_seen = length-replicate (length steps) false;
    long_ends = length-replicate (length steps) None;
    told = λ node on. absurd (not_both (met (replicate (length steps) false) node) on (replicated (length steps) node false));
    fresh = λ node off. replicated (length steps) node None;
    waiting = λ node there. absurd (none_there node there);
  }

  -- ---- a node is met

  module _ (seen : List Bool) (ends : List (Option End)) (way : List ℕ) (at : ℕ) (low : at < length steps) (off : met seen at ≡ false)
      (follows : Follows steps most seen ends way) where
    low_seen : at < length seen
    low_seen = let long = follows.long_seen in omega (arith, long, low)

    low_ends : at < length ends
    low_ends = let long = follows.long_ends in omega (arith, long, low)

    met_now : met (set seen at true) at ≡ true
    met_now = get_or-set_same seen at true false low_seen

    old_met : (node : ℕ) (b : Bool) → node ≢ at → met (set seen at true) node ≡ b → met seen node ≡ b
    old_met node b other is = sym (get_or-set_other seen at node true false other) ∙ is

    -- one that leads on stands on the way
    pub met_on : Follows steps most (set seen at true) ends (way ++ at ∷ [])
    met_on = record {
      long_seen = length-set seen at true ∙ follows.long_seen;
      long_ends = follows.long_ends;
      told = λ node on. elim (same_or node at) [
        | inl is ↦ inl (Contains-append_right way (at ∷ []) node (0, omega arith, sym is))
        | inr other ↦ elim (follows.told node (old_met node true other on)) [
          | inl there ↦ inl (Contains-append_left way (at ∷ []) node there)
          | inr right ↦ inr right
        ]
      ];
      fresh = λ node is. elim (same_or node at) [
        | inl same ↦ absurd (not_both (met (set seen at true) node) (ap (met (set seen at true)) same ∙ met_now) is)
        | inr other ↦ follows.fresh node (old_met node false other is)
      ];
      waiting = λ node there. elim (Contains-append_cases way (at ∷ []) node there) [
        | inl before ↦ (stay_met seen at low_seen node (follows.waiting node before).0, (follows.waiting node before).1)
        | inr last ↦
            let is = one_there at node last in
            (ap (met (set seen at true)) is ∙ met_now, ap (end_of ends) is ∙ follows.fresh at off)
      ];
    }

    -- the last of a chain is told at once
    pub met_last : (e : End) → IsEnd steps most at (Some e) → Follows steps most (set seen at true) (set ends at (Some e)) way
    met_last e right = record {
      long_seen = length-set seen at true ∙ follows.long_seen;
      long_ends = length-set ends at (Some e) ∙ follows.long_ends;
      told = λ node on. elim (same_or node at) [
        | inl is ↦ inr (subst (λ k. IsEnd steps most k (end_of (set ends at (Some e)) k)) (sym is)
            (subst (λ k. IsEnd steps most at k) (sym (get_or-set_same ends at (Some e) None low_ends)) right))
        | inr other ↦ elim (follows.told node (old_met node true other on)) [
          | inl there ↦ inl there
          | inr told ↦ inr (subst (λ k. IsEnd steps most node k) (sym (get_or-set_other ends at node (Some e) None other)) told)
        ]
      ];
      fresh = λ node is. elim (same_or node at) [
        | inl same ↦ absurd (not_both (met (set seen at true) node) (ap (met (set seen at true)) same ∙ met_now) is)
        | inr other ↦ get_or-set_other ends at node (Some e) None other ∙ follows.fresh node (old_met node false other is)
      ];
      waiting = λ node there.
          let before = follows.waiting node there in (
            stay_met seen at low_seen node before.0,
            get_or-set_other ends at node (Some e) None (apart seen node at before.0 off) ∙ before.1,
          );
    }

  -- ---- places that are there

  pub seen_low : (seen : List Bool) (ends : List (Option End)) (way : List ℕ) (at : ℕ) → at < length steps → Follows steps most seen ends way → at < length seen
  seen_low seen ends way at low follows = let long = follows.long_seen in omega (arith, long, low)

  pub ends_low : (seen : List Bool) (ends : List (Option End)) (way : List ℕ) (at : ℕ) → at < length steps → Follows steps most seen ends way → at < length ends
  ends_low seen ends way at low follows = let long = follows.long_ends in omega (arith, long, low)

  pub back_low : (seen : List Bool) (ends : List (Option End)) (xs : List ℕ) (x : ℕ) (end : Option End) → Returns steps most seen ends (xs ++ x ∷ []) end → x < length steps
  back_low seen ends xs x end returns =
      let step = (linked_before steps xs x returns.at returns.linked).1 in
      slice_get_within steps x step.0 step.1

  pub none_linked : (at : ℕ) → Linked steps [] at
  unfolding Linked
  none_linked at = tt

  -- ---- the way back

  pub turns : (seen : List Bool) (ends : List (Option End)) (way : List ℕ) (at : ℕ) → Follows steps most seen ends way → Linked steps way at → met seen at ≡ true
      → Returns steps most seen ends way (end_of ends at)
  turns seen ends way at follows linked on = record {
    long_seen = follows.long_seen;
    long_ends = follows.long_ends;
    told = follows.told;
    fresh = follows.fresh;
    on_way = λ node there. (follows.waiting node there).0;
    at = at;
    linked = linked;
    right = elim (follows.told at on) [
      | inl there ↦ subst (λ k. IsEnd steps most at k) (sym (follows.waiting at there).1) (circle_has_none steps way at linked there)
      | inr right ↦ right
    ];
  }

  pub is_back : (seen : List Bool) (ends : List (Option End)) (end : Option End) → Returns steps most seen ends [] end → Follows steps most seen ends []
  is_back seen ends end returns = record {
    long_seen = returns.long_seen;
    long_ends = returns.long_ends;
    told = returns.told;
    fresh = returns.fresh;
    waiting = λ node there. absurd (none_there node there);
  }

  -- what is told of a node by the one to which it leads
  abbrev pub TellsBehind : Option End → ℕ → Option End → Type 0
  TellsBehind end adds told = (node next : ℕ) (s : Step) → slice_get steps node ≡ Some s → s.next ≡ Some next → s.adds ≡ adds → IsEnd steps most next end → IsEnd steps most node told

  pub one_back : (seen : List Bool) (ends : List (Option End)) (xs : List ℕ) (x : ℕ) (end told : Option End) → Returns steps most seen ends (xs ++ x ∷ []) end
      → ((s : Step) → slice_get steps x ≡ Some s → TellsBehind end s.adds told) → Returns steps most seen (set ends x told) xs told
  one_back seen ends xs x end told returns tells =
      let before = linked_before steps xs x returns.at returns.linked in
      let step = before.1 in
      let low : x < length ends = let long = returns.long_ends in let within = slice_get_within steps x step.0 step.1 in omega (arith, long, within) in
      let right : IsEnd steps most x told = tells step.0 step.1 x returns.at step.0 step.1 step.2 refl returns.right in
      let on = returns.on_way x (Contains-append_right xs (x ∷ []) x (0, omega arith, refl)) in
      record {
        long_seen = returns.long_seen;
        long_ends = length-set ends x told ∙ returns.long_ends;
        told = λ node met-it. elim (same_or node x) [
          | inl is ↦ inr (subst (λ k. IsEnd steps most k (end_of (set ends x told) k)) (sym is)
              (subst (λ k. IsEnd steps most x k) (sym (get_or-set_same ends x told None low)) right))
          | inr other ↦ elim (returns.told node met-it) [
            | inl there ↦ elim (Contains-append_cases xs (x ∷ []) node there) [
              | inl rest ↦ inl rest
              | inr last ↦ absurd (other (one_there x node last))
            ]
            | inr is-right ↦ inr (subst (λ k. IsEnd steps most node k) (sym (get_or-set_other ends x node told None other)) is-right)
          ]
        ];
        fresh = λ node off. get_or-set_other ends x node told None (λ is. apart seen x node on off (sym is)) ∙ returns.fresh node off;
        on_way = λ node there. returns.on_way node (Contains-append_left xs (x ∷ []) node there);
        at = x;
        linked = before.0;
        right = right;
      }
