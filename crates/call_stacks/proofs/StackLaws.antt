-- What always holds of stacks holds after one of them changes.
use Rattle.std.proofs.Common.{◌≡◌, ℕ, suc, ◌+◌, ◌≤◌, true, false, cond, List, [], ◌∷◌, ◌++◌, None, Some, refl, sym, ap, ◌∙◌, inl, inr, arith}
use Rattle.std.specs.Prelude.{nat_eq}
use Rattle.std.specs.BTreeMap.{BTreeMap}
use Rattle.std.specs.Cmp.Lexicographic.{bytes_decides, nat_list_eq_equiv}
use Rattle.std.specs.Global.{Vec}
use Rattle.std.specs.Str.{bytes_eq}
use Rattle.plan_model.specs.Frames as plain
use Rattle.plan_model.specs.Frames.{is_of}
use Rattle.call_stacks.specs.Births.{birth_at}
use Rattle.call_stacks.specs.Rows.{Rise, Rows, AreAlone, IsKept, birth_in, changed_at, without_at, begun}
use Rattle.call_stacks.proofs.PlaceLaws.{IsPlace, place}

-- ---- after a stack that stays has changed

module _ (n : ℕ) (change : plain.Stack → plain.Stack) (same : (s : plain.Stack) → (change s).tid ≡ s.tid) where
  pub rise_changed : (least next : ℕ) (rows : Rows) → Rise least rows next → Rise least (changed_at n change rows) next
  rise_changed least next [] rise = rise
  rise_changed least next (r ∷ rs) rise =
      elim (nat_eq n r.0) as (λ b. Rise least (cond b ((r.0, change r.1) ∷ rs) (r ∷ changed_at n change rs)) next) [
        | true ↦ rise
        | false ↦ (rise.0, rise_changed (suc r.0) next rs rise.1)
      ]

  birth_changed : (q : List ℕ) (rows : Rows) → birth_in q (changed_at n change rows) ≡ birth_in q rows
  birth_changed q [] = refl
  birth_changed q (r ∷ rs) =
      elim (nat_eq n r.0) as (λ b. birth_in q (cond b ((r.0, change r.1) ∷ rs) (r ∷ changed_at n change rs)) ≡ birth_in q (r ∷ rs)) [
        | true ↦ ap (λ tid. cond (bytes_eq q tid) (Some r.0) (birth_in q rs)) (same r.1)
        | false ↦ ap (cond (is_of q r.1) (Some r.0)) (birth_changed q rs)
      ]

  alone_changed : (rows : Rows) → AreAlone rows → AreAlone (changed_at n change rows)
  alone_changed [] alone = alone
  alone_changed (r ∷ rs) alone =
      elim (nat_eq n r.0) as (λ b. AreAlone (cond b ((r.0, change r.1) ∷ rs) (r ∷ changed_at n change rs))) [
        | true ↦ (ap (λ tid. birth_in tid rs) (same r.1) ∙ alone.0, alone.1)
        | false ↦ (birth_changed r.1.tid rs ∙ alone.0, alone_changed rs alone.1)
      ]

  pub kept_changed : (rows : Rows) (births : BTreeMap (Vec ℕ) ℕ) (next : ℕ) → IsKept rows births next → IsKept (changed_at n change rows) births next
  kept_changed rows births next kept =
      record {
        rise = rise_changed 0 next rows kept.rise;
        alone = alone_changed rows kept.alone;
        born = λ q. kept.born q ∙ sym (birth_changed q rows);
      }

-- ---- after a stack is gone

lower : (least more next : ℕ) (rows : Rows) → least ≤ more → Rise more rows next → Rise least rows next
lower least more next [] below rise = omega (arith, below, rise)
lower least more next (r ∷ rs) below rise = let first = rise.0 in (omega (arith, below, first), rise.1)

pub rise_without : (n least next : ℕ) (rows : Rows) → Rise least rows next → Rise least (without_at n rows) next
rise_without n least next [] rise = rise
rise_without n least next (r ∷ rs) rise =
    elim (nat_eq n r.0) as (λ b. Rise least (cond b rs (r ∷ without_at n rs)) next) [
      | true ↦ let first = rise.0 in lower least (suc r.0) next rs (omega (arith, first)) rise.1
      | false ↦ (rise.0, rise_without n (suc r.0) next rs rise.1)
    ]

-- a TID without a birth has none among fewer
none_without : (n : ℕ) (q : List ℕ) (rows : Rows) → birth_in q rows ≡ None → birth_in q (without_at n rows) ≡ None
none_without n q [] none = none
none_without n q (r ∷ rs) none =
    elim (is_of q r.1) as (λ b. is_of q r.1 ≡ b → cond b (Some r.0) (birth_in q rs) ≡ None → birth_in q (cond (nat_eq n r.0) rs (r ∷ without_at n rs)) ≡ None) [
      | true ↦ λ is none. let bad : ⊥ = cc in absurd bad
      | false ↦ λ other none. elim (nat_eq n r.0) as (λ b. birth_in q (cond b rs (r ∷ without_at n rs)) ≡ None) [ true ↦ none | false ↦ rw other (none_without n q rs none) ]
    ] refl none

alone_without : (n : ℕ) (rows : Rows) → AreAlone rows → AreAlone (without_at n rows)
alone_without n [] alone = alone
alone_without n (r ∷ rs) alone =
    elim (nat_eq n r.0) as (λ b. AreAlone (cond b rs (r ∷ without_at n rs))) [ true ↦ alone.1 | false ↦ (none_without n r.1.tid rs alone.0, alone_without n rs alone.1) ]

-- another TID than that of a stack is not its
other_of : (tid q : List ℕ) (s : plain.Stack) → is_of tid s ≡ true → bytes_eq tid q ≡ false → is_of q s ≡ false
other_of tid q s here other = nat_list_eq_equiv.symm q s.tid ∙ sym (nat_list_eq_equiv.congr tid s.tid q here) ∙ other

birth_without : (tid : List ℕ) (n : ℕ) (rows : Rows) → IsPlace tid n rows → AreAlone rows → (q : List ℕ) → birth_in q (without_at n rows) ≡ cond (bytes_eq tid q) None (birth_in q rows)
birth_without tid n [] at alone q = absurd at
birth_without tid n (r ∷ rs) (inl here) alone q =
    elim (bytes_eq tid q) as (λ b. bytes_eq tid q ≡ b → birth_in q (without_at n (r ∷ rs)) ≡ cond b None (birth_in q (r ∷ rs))) [
      | true ↦ λ same. rw here.1 (ap (λ tid. birth_in tid rs) (sym ((bytes_decides tid q).0 same) ∙ (bytes_decides tid r.1.tid).0 here.0) ∙ alone.0)
      | false ↦ λ other. rw (here.1, other_of tid q r.1 here.0 other) refl
    ] refl
birth_without tid n (r ∷ rs) (inr there) alone q =
    elim (bytes_eq tid q) as (λ b. bytes_eq tid q ≡ b → birth_in q (without_at n (r ∷ rs)) ≡ cond b None (birth_in q (r ∷ rs))) [
      | true ↦ λ same. rw there.1 (rw (ap (λ q. is_of q r.1) (sym ((bytes_decides tid q).0 same)) ∙ there.0) (birth_without tid n rs there.2 alone.1 q ∙ ap (λ b. cond b None (birth_in q rs)) same))
      | false ↦ λ other. rw there.1 (ap (cond (is_of q r.1) (Some r.0)) (birth_without tid n rs there.2 alone.1 q ∙ ap (λ b. cond b None (birth_in q rs)) other))
    ] refl

pub kept_without : (tid : List ℕ) (n : ℕ) (rows : Rows) (births after : BTreeMap (Vec ℕ) ℕ) (next : ℕ) → IsPlace tid n rows → IsKept rows births next → ((q : List ℕ) → birth_at q after ≡ cond (bytes_eq tid q) None (birth_at q births)) → IsKept (without_at n rows) after next
kept_without tid n rows births after next at kept forgotten =
    record {
      rise = rise_without n 0 next rows kept.rise;
      alone = alone_without n rows kept.alone;
      born = λ q. forgotten q ∙ ap (cond (bytes_eq tid q) None) (kept.born q) ∙ sym (birth_without tid n rows at kept.alone q);
    }

-- ---- after a stack has begun

pub rise_added : (least next : ℕ) (s : plain.Stack) (rows : Rows) → Rise least rows next → Rise least (rows ++ ((next, s) ∷ [])) (next + 1)
rise_added least next s [] rise = (rise, omega arith)
rise_added least next s (r ∷ rs) rise = (rise.0, rise_added (suc r.0) next s rs rise.1)

module _ (tid : List ℕ) (n : ℕ) (f : plain.Frame) where
  birth_added : (rows : Rows) → birth_in tid rows ≡ None → (q : List ℕ) → birth_in q (rows ++ ((n, begun tid f) ∷ [])) ≡ cond (bytes_eq tid q) (Some n) (birth_in q rows)
  birth_added [] none q = ap (λ b. cond b (Some n) None) (nat_list_eq_equiv.symm q tid)
  birth_added (r ∷ rs) none q =
      elim (is_of tid r.1) as (λ b. is_of tid r.1 ≡ b → cond b (Some r.0) (birth_in tid rs) ≡ None → cond (is_of q r.1) (Some r.0) (birth_in q (rs ++ ((n, begun tid f) ∷ []))) ≡ cond (bytes_eq tid q) (Some n) (birth_in q (r ∷ rs))) [
        | true ↦ λ is none. let bad : ⊥ = cc in absurd bad
        | false ↦ λ other none. ap (cond (is_of q r.1) (Some r.0)) (birth_added rs none q)
            ∙ elim (bytes_eq tid q) as (λ b. bytes_eq tid q ≡ b → cond (is_of q r.1) (Some r.0) (cond b (Some n) (birth_in q rs)) ≡ cond b (Some n) (cond (is_of q r.1) (Some r.0) (birth_in q rs))) [
              | true ↦ λ same. ap (λ b. cond b (Some r.0) (Some n)) (ap (λ q. is_of q r.1) (sym ((bytes_decides tid q).0 same)) ∙ other)
              | false ↦ λ _. refl
            ] refl
      ] refl none

  alone_added : (rows : Rows) → birth_in tid rows ≡ None → AreAlone rows → AreAlone (rows ++ ((n, begun tid f) ∷ []))
  alone_added [] none alone = (refl, tt)
  alone_added (r ∷ rs) none alone =
      elim (is_of tid r.1) as (λ b. is_of tid r.1 ≡ b → cond b (Some r.0) (birth_in tid rs) ≡ None → AreAlone (r ∷ (rs ++ ((n, begun tid f) ∷ [])))) [
        | true ↦ λ is none. let bad : ⊥ = cc in absurd bad
        | false ↦ λ other none. (birth_added rs none r.1.tid ∙ ap (λ b. cond b (Some n) (birth_in r.1.tid rs)) other ∙ alone.0, alone_added rs none alone.1)
      ] refl none

pub kept_added : (tid : List ℕ) (f : plain.Frame) (rows : Rows) (births after : BTreeMap (Vec ℕ) ℕ) (next : ℕ) → birth_in tid rows ≡ None → IsKept rows births next → ((q : List ℕ) → birth_at q after ≡ cond (bytes_eq tid q) (Some next) (birth_at q births)) → IsKept (rows ++ ((next, begun tid f) ∷ [])) after (next + 1)
kept_added tid f rows births after next none kept noted =
    record {
      rise = rise_added 0 next (begun tid f) rows kept.rise;
      alone = alone_added tid next f rows none kept.alone;
      born = λ q. noted q ∙ ap (cond (bytes_eq tid q) (Some next)) (kept.born q) ∙ sym (birth_added tid next f rows none q);
    }

-- births below the next are below another one that is behind them
pub kept_below : (rows : Rows) (births : BTreeMap (Vec ℕ) ℕ) (next birth : ℕ) → Rise 0 rows birth → IsKept rows births next → IsKept rows births birth
kept_below rows births next birth rise kept = record { rise = rise; alone = kept.alone; born = kept.born }

-- ---- after a stack could not begin

-- a birth that was noted and forgotten was never there
pub kept_same : (tid : List ℕ) (rows : Rows) (births noted after : BTreeMap (Vec ℕ) ℕ) (birth next : ℕ) → birth_in tid rows ≡ None → IsKept rows births next → ((q : List ℕ) → birth_at q noted ≡ cond (bytes_eq tid q) (Some birth) (birth_at q births)) → ((q : List ℕ) → birth_at q after ≡ cond (bytes_eq tid q) None (birth_at q noted)) → IsKept rows after next
kept_same tid rows births noted after birth next none kept was is =
    record {
      rise = kept.rise;
      alone = kept.alone;
      born = λ q. is q ∙ ap (cond (bytes_eq tid q) None) (was q)
          ∙ elim (bytes_eq tid q) as (λ b. bytes_eq tid q ≡ b → cond b None (cond b (Some birth) (birth_at q births)) ≡ birth_in q rows) [ true ↦ λ same. sym (ap (λ tid. birth_in tid rows) (sym ((bytes_decides tid q).0 same)) ∙ none) | false ↦ λ _. kept.born q ] refl;
    }

-- ---- where a TID stands

module _ (tid : List ℕ) (n : ℕ) (rows : Rows) (births : BTreeMap (Vec ℕ) ℕ) (next : ℕ) (kept : IsKept rows births next) where
  pub at_place : Some n ≡ birth_at tid births → IsPlace tid n rows
  at_place is = place tid n next 0 rows kept.rise (sym (kept.born tid) ∙ sym is)

  pub nowhere : None ≡ birth_at tid births → birth_in tid rows ≡ None
  nowhere none = sym (kept.born tid) ∙ sym none
