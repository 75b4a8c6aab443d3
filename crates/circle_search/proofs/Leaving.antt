-- The last group is left, of whose targets none waits: what marks and trail say stays so.
use Rattle.std.proofs.Common.{true, false, ◌≡◌, ℕ, ◌+◌, ◌-◌, ◌<◌, ◌≤◌, ◌⊎◌, inl, inr, Bool, List, length, get_or, take, drop, All, refl, sym, ◌∙◌, ap, arith, Contains}
use Rattle.std.specs.Prelude.{nat_lt, nat_eq, cond, ◌||◌}
use Rattle.std.proofs.lemmas.List.Folds.{Any-from_list_any, list_any_at}
use Rattle.std.proofs.lemmas.Bool.{cases_lt, or_parts, le-ltb, ltb-false, eqb-true, eq-eqb}
use Rattle.std.proofs.lemmas.List.{places, get_or_default, get_or-take, length-drop, length-take}
use Rattle.std.proofs.lemmas.List.Elements.{All-contains}
use Rattle.uno_model.specs.Circles.{Leads, step, on}
use Rattle.circle_search.specs.declared.mark.Mark.{Mark}
use Rattle.circle_search.specs.declared.mark.Mark.TheVariants.{New, Open, OffCircle, OnCircle}
use Rattle.circle_search.specs.declared.trail.Edge.{Edge}
use Rattle.circle_search.specs.Graph.{targets}
use Rattle.circle_search.specs.Search.{is_left, leads_to_itself, mark_of_group, IsAt, IsNotBefore, IsSeen, IsMarked, StayReached, MarksHold, GroupsHold, Fine, new_work}
use Rattle.circle_search.proofs.Work.{kept_work}
use Rattle.circle_search.proofs.Looking.{leads_through, last_start}

-- a node leads to itself exactly where the test says so
on_itself : (g : List (List ℕ)) (n : ℕ) → leads_to_itself g n ≡ true → Contains (targets g n) n
on_itself g n is =
    let some = Any-from_list_any (λ t. nat_eq t n) (targets g n) is in
    (some.0, some.2, let here = eqb-true some.1 n some.4 in let at = get_or_default (targets g n) some.0 some.1 n some.2 in grind arith)

not_on_itself : (g : List (List ℕ)) (n : ℕ) → leads_to_itself g n ≡ false → ¬ Contains (targets g n) n
not_on_itself g n is (k, low, at) = let here = list_any_at (λ t. nat_eq t n) (targets g n) k n low (eq-eqb _ n at) in grind arith

-- from what was left, a way leads to what was left alone
leads_left : (g : List (List ℕ)) (marks : List Mark) (nodes : List ℕ) (a c : ℕ) → MarksHold g marks nodes → is_left (get_or marks a OffCircle) ≡ true
    → Leads (targets g) a c → is_left (get_or marks c OffCircle) ≡ true
leads_left g marks nodes a c f left (step a' c' to) = f.closed a c left to
leads_left g marks nodes a c f left (on a' b c' to rest) = leads_left g marks nodes b c f (f.closed a b left to) rest

-- which mark a group has by its test
by_test : (x : Bool) → (is_left (cond x OnCircle OffCircle) ≡ true) × (cond x OnCircle OffCircle ≡ OnCircle → x ≡ true) × (cond x OnCircle OffCircle ≡ OffCircle → x ≡ false)
by_test true = (refl, λ e. refl, λ e. grind arith)
by_test false = (refl, λ e. grind arith, λ e. refl)

module _ (g : List (List ℕ)) (marks : List Mark) (nodes starts : List ℕ) (waiting : List Edge) (b : ℕ) (f : Fine g marks nodes starts waiting)
    (some : 0 < length starts) (last : get_or starts (length starts - 1) 0 ≡ b) (none : All (λ e. e.place < b) waiting) where
  -- the targets of the last group were left, or stand in it
  group_to : (p t : ℕ) → b ≤ p → p < length nodes → Contains (targets g (get_or nodes p 0)) t
      → (is_left (get_or marks t OffCircle) ≡ true) ⊎ ((q : ℕ) × IsAt nodes q t × (b ≤ q))
  group_to p t high low to = elim (f.seen p t low to) [
    | inl left ↦ inl left
    | inr (inl waits) ↦ let early = All-contains (λ e. e.place < b) waiting (record { place = p; target = t }) none waits in let bad : ⊥ = omega arith in absurd bad
    | inr (inr (q, at, behind)) ↦ let own = behind (length starts - 1) in inr (q, at, omega (arith, own))
  ]

  -- nodes of a group of two or more lead back to themselves
  in_group : (i j : ℕ) → b ≤ i → i < j → j < length nodes → Leads (targets g) (get_or nodes j 0) (get_or nodes i 0)
  in_group i j high low within = f.of_groups.back i j low within (λ k k-low le. omega (arith, last_start g nodes starts k f.of_groups k-low))

  many_lead : (p : ℕ) → b ≤ p → p < length nodes → b + 1 < length nodes → Leads (targets g) (get_or nodes p 0) (get_or nodes p 0)
  many_lead p high low more =
      let back = in_group b p (omega arith) in
      let on_way = f.of_groups.on b p in
      let next_back = in_group p (p + 1) high in
      let next_on = f.of_groups.on p (p + 1) in
      grind (arith, leads_through)

  alone : length (drop b nodes) ≤ 1 → (p : ℕ) → b ≤ p → p < length nodes → get_or (drop b nodes) 0 0 ≡ get_or nodes p 0
  alone short p high low = grind (arith, places)

  told_on : (nat_lt 1 (length (drop b nodes)) || leads_to_itself g (get_or (drop b nodes) 0 0)) ≡ true → (p : ℕ) → b ≤ p → p < length nodes
      → Leads (targets g) (get_or nodes p 0) (get_or nodes p 0)
  told_on back p high low = elim (cases_lt 1 (length (drop b nodes))) [
    | inl more ↦ many_lead p high low (omega (arith, length-drop b nodes))
    | inr short ↦
        let test : leads_to_itself g (get_or (drop b nodes) 0 0) ≡ true = rw (le-ltb 1 (length (drop b nodes)) short) at back in
        step (get_or nodes p 0) (get_or nodes p 0) (on_itself g (get_or nodes p 0) (rw (alone short p high low) at test))
  ]

  told_off : (nat_lt 1 (length (drop b nodes)) || leads_to_itself g (get_or (drop b nodes) 0 0)) ≡ false → (p : ℕ) → b ≤ p → p < length nodes
      → ¬ Leads (targets g) (get_or nodes p 0) (get_or nodes p 0)
  told_off not_back p high low way =
      let parts = or_parts (nat_lt 1 (length (drop b nodes))) (leads_to_itself g (get_or (drop b nodes) 0 0)) not_back in
      let short : length (drop b nodes) ≤ 1 = ltb-false 1 (length (drop b nodes)) parts.0 in
      let none_own = not_on_itself g (get_or nodes p 0) (rw (alone short p high low) at parts.1) in
      let here = f.of_marks.marked (get_or nodes p 0) p (low, refl) in
      let left = comes_back short none_own way in
      grind arith
    where
      to_left : length (drop b nodes) ≤ 1 → ¬ Contains (targets g (get_or nodes p 0)) (get_or nodes p 0) → (t : ℕ) → Contains (targets g (get_or nodes p 0)) t
          → is_left (get_or marks t OffCircle) ≡ true
      to_left short none_own t to = elim (group_to p t high low to) [
        | inl left ↦ left
        | inr (q, at, behind) ↦
            let same : q ≡ p = omega (arith, length-drop b nodes, at.0) in
            absurd (none_own (rw (sym at.1 ∙ ap (λ k. get_or nodes k 0) same) at to))
      ]

      comes_back : length (drop b nodes) ≤ 1 → ¬ Contains (targets g (get_or nodes p 0)) (get_or nodes p 0) → Leads (targets g) (get_or nodes p 0) (get_or nodes p 0)
          → is_left (get_or marks (get_or nodes p 0) OffCircle) ≡ true
      comes_back short none_own (step a c to) = to_left short none_own (get_or nodes p 0) to
      comes_back short none_own (on a t c to rest) = leads_left g marks nodes t (get_or nodes p 0) f.of_marks (to_left short none_own t to) rest

  module _ (after : List Mark) (w : IsMarked (drop b nodes) (mark_of_group g (drop b nodes)) marks after) where
    -- a node is of the group and has its mark, or neither
    abbrev WasLeft : ℕ → Type 0
    WasLeft i = ((p : ℕ) × IsAt nodes p i × (b ≤ p) × (get_or after i OffCircle ≡ mark_of_group g (drop b nodes)))
        ⊎ (((p : ℕ) → IsAt nodes p i → p < b) × (get_or after i OffCircle ≡ get_or marks i OffCircle))

    was_left : (i : ℕ) → WasLeft i
    was_left i = by_mark (get_or marks i OffCircle) refl
      where
        other : ((p : ℕ) → IsAt nodes p i → p < b) → WasLeft i
        other out = inr (out, w.others i (λ k low is. let early = out (b + k) in grind (arith, places)))

        by_mark : (m : Mark) → get_or marks i OffCircle ≡ m → WasLeft i
        by_mark (Open p) is = elim (cases_lt p b) [
          | inl before ↦ other (λ q at. let same = f.of_marks.marked i q at in grind arith)
          | inr behind ↦
              let at = f.of_marks.opened i p is in
              let has = w.these (p - b) in
              inl (p, at, behind, grind (arith, places))
        ]
        by_mark New is = other (λ q at. let same = f.of_marks.marked i q at in grind arith)
        by_mark OffCircle is = other (λ q at. let same = f.of_marks.marked i q at in grind arith)
        by_mark OnCircle is = other (λ q at. let same = f.of_marks.marked i q at in grind arith)

    -- what was left stays so, and what stood in the group is left
    test : (is_left (mark_of_group g (drop b nodes)) ≡ true) × (mark_of_group g (drop b nodes) ≡ OnCircle → (nat_lt 1 (length (drop b nodes)) || leads_to_itself g (get_or (drop b nodes) 0 0)) ≡ true)
        × (mark_of_group g (drop b nodes) ≡ OffCircle → (nat_lt 1 (length (drop b nodes)) || leads_to_itself g (get_or (drop b nodes) 0 0)) ≡ false)
    test = by_test (nat_lt 1 (length (drop b nodes)) || leads_to_itself g (get_or (drop b nodes) 0 0))

    still : (t : ℕ) → is_left (get_or marks t OffCircle) ≡ true → is_left (get_or after t OffCircle) ≡ true
    still t left = elim (was_left t) [ inl (p, is, high, has) ↦ ap is_left has ∙ test.0 | inr (out, has) ↦ ap is_left has ∙ left ]

    still_in : (q t : ℕ) → IsAt nodes q t → b ≤ q → is_left (get_or after t OffCircle) ≡ true
    still_in q t at high = elim (was_left t) [ inl (p, is, behind, has) ↦ ap is_left has ∙ test.0 | inr (out, has) ↦ let early = out q at in let bad : ⊥ = omega arith in absurd bad ]

    left_marks : MarksHold g after (take b nodes)
    left_marks = record {
      long = w.long ∙ f.of_marks.long;
      on = λ i at. elim (was_left i) [
        | inl (p, is, high, has) ↦ rw is.1 at (told_on (test.1 (sym has ∙ at)) p high is.0)
        | inr (out, has) ↦ f.of_marks.on i (sym has ∙ at)
      ];
      off = λ i at. elim (was_left i) [
        | inl (p, is, high, has) ↦ rw is.1 at (told_off (test.2 (sym has ∙ at)) p high is.0)
        | inr (out, has) ↦ f.of_marks.off i (sym has ∙ at)
      ];
      closed = λ i t left to. elim (was_left i) [
        | inl (p, is, high, has) ↦ elim (group_to p t high is.0 (rw (sym is.1) at to)) [
          | inl before ↦ still t before
          | inr (q, there, behind) ↦ still_in q t there behind
        ]
        | inr (out, has) ↦ still t (f.of_marks.closed i t (sym (ap is_left has) ∙ left) to)
      ];
      opened = λ i p at. let old = f.of_marks.opened i p in let has = was_left i in let left = test.0 in grind (arith, places);
      marked = λ i p at. let old = f.of_marks.marked i p in let has = was_left i in grind (arith, places, f.of_marks.marked i);
    }

    left_groups : GroupsHold g (take b nodes) (take (length starts - 1) starts)
    left_groups = record {
      on = λ i j low high. grind (arith, places, f.of_groups.on);
      back = λ i j low high same. let old = f.of_groups.back i j low in let within = same_start i j same in grind (arith, places);
      first = λ at-all. let old = f.of_groups.first in grind (arith, places);
      rising = λ i j d low high. let old = f.of_groups.rising i j d in grind (arith, places);
      within = λ k low. let old = f.of_groups.rising k (length starts - 1) 0 in grind (arith, places);
    }
      where
        same_start : (i j : ℕ) → IsNotBefore (take (length starts - 1) starts) i j → j < b → IsNotBefore starts i j
        same_start i j same low k k-low le = let old = same k in grind (arith, places)

    pub leave_fine : Fine g after (take b nodes) (take (length starts - 1) starts) waiting
    leave_fine = record {
      of_marks = left_marks;
      of_groups = left_groups;
      of_edges = record {
        within = λ k d low. let early = none k d low in let old = f.of_edges.within k d low in grind (arith, places);
        source = λ k d low. rw (get_or-take b nodes (get_or waiting k d).place 0 (none k d low)) (f.of_edges.source k d low);
        order = f.of_edges.order;
      };
      seen = λ p t low to. seen_now p t (omega (arith, length-take b nodes)) (omega (arith, length-take b nodes)) to;
    }
      where
        seen_now : (p t : ℕ) → p < b → p < length nodes → Contains (targets g (get_or (take b nodes) p 0)) t → IsSeen after (take b nodes) (take (length starts - 1) starts) waiting p t
        seen_now p t low within to = elim (f.seen p t within (rw (get_or-take b nodes p 0 low) at to)) [
          | inl left ↦ inl (still t left)
          | inr (inl waits) ↦ inr (inl waits)
          | inr (inr (q, at, behind)) ↦ elim (cases_lt q b) [
            | inl before ↦ inr (inr (q, grind (arith, places), λ k k-low le. let old = behind k in grind (arith, places)))
            | inr high ↦ inl (still_in q t at high)
          ]
        ]

    leave_kept : StayReached marks after
    leave_kept i new = elim (was_left i) [ inl (p, is, high, has) ↦ let left = test.0 in grind arith | inr (out, has) ↦ sym has ∙ new ]

    pub leave_less : length waiting + length (take b nodes) + new_work g after < length waiting + length nodes + new_work g marks
    leave_less =
        let within = f.of_groups.within (length starts - 1) (omega arith) in
        omega (arith, length-take b nodes, within, last, kept_work g marks after w.long leave_kept)
