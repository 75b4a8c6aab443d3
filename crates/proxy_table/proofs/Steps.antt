-- Proxies and their releases agree, after one comes and after one goes.
use Rattle.std.proofs.Common.{◌≡◌, ℕ, ◌+◌, Bool, true, false, cond, List, Option, None, Some, IsSome, nat_eq, refl, sym, ap, ◌∙◌, subst, option_map, Result, Ok, Err, IsOk, OnOk, IfNone}
use Rattle.std.specs.HashMap.{HashMap, get, UpdatesBy}
use Rattle.std.specs.Map.{lookup}
use Rattle.std.specs.FinMap.{find, put}
use Rattle.std.specs.FinMap.Entries.{find-put}
use Rattle.table_model.specs.Pair.{Pair, pair_cmp}
use Rattle.table_model.specs.Rows.{without}
use Rattle.table_model.specs.Proxies.{Proxies, proxy, freed, HasNumber}
use Rattle.table_model.proofs.PairLaws.{pair_order}
use Rattle.table_model.proofs.RowLaws.{found_without}
use Rattle.proxy_table.specs.Releases.{Agrees, pair_at, pair_of}
use Rattle.proxy_table.specs.declared.release.Release.{Release}
use Rattle.proxy_table.proofs.Agreeing.{one_arrived, one_freed, within, apart}

mapped : (b : Bool) (o other : Option Release) → option_map pair_of (cond b o other) ≡ cond b (option_map pair_of o) (option_map pair_of other)
mapped true o other = refl
mapped false o other = refl

module _ {S : Type 0} (m : HashMap ℕ Release S) (made : ℕ) (rows : List (Pair × ℕ)) (agrees : Agrees m (record { made = made; rows = rows })) where
  at_after : (n : HashMap ℕ Release S) (k : ℕ) (w : Option Release) → UpdatesBy nat_eq (nat_eq k) m n w → (q : ℕ) → pair_at n q ≡ cond (nat_eq k q) (option_map pair_of w) (pair_at m q)
  at_after n k w up q = ap (option_map pair_of) (up.0 q) ∙ mapped (nat_eq k q) w (get nat_eq m q)

  -- after a new pair has its number and its release
  pub agrees_arrived : (between n : HashMap ℕ Release S) (p : Pair) (release : Release) (rows_after : List (Pair × ℕ)) → between.entries ≡ m.entries → None ≡ find pair_cmp p rows → UpdatesBy nat_eq (nat_eq made) between n (Some release)
      → pair_of release ≡ p → rows_after ≡ put pair_cmp p made rows → Agrees n (record { made = made + 1; rows = rows_after })
  agrees_arrived between n p release rows_after same none up of is =
      one_arrived (λ q. find pair_cmp q rows) (λ q. find pair_cmp q rows_after) (pair_at m) (pair_at n) made agrees p (sym none)
      (λ q. ap (find pair_cmp q) is ∙ find-put pair_cmp pair_order q p made rows)
      (λ q. ap (option_map pair_of) (up.0 q) ∙ mapped (nat_eq made q) (Some release) (get nat_eq between q) ∙ (λ i. cond (nat_eq made q) (Some (of i)) (option_map pair_of (lookup (nat_eq q) (same i)))))

  module _ (k : ℕ) where
    -- a number that a pair has is that of a release
    pub has_release : (p : Pair) → HasNumber p k (record { made = made; rows = rows }) → ¬ (get nat_eq m k ≡ None)
    has_release p has none = apart p (sym (ap (option_map pair_of) none) ∙ agrees.ready p k has)

    module _ (release : Release) (is : Some release ≡ get nat_eq m k) where
      released : pair_at m k ≡ Some (pair_of release)
      released = ap (option_map pair_of) (sym is)

      pub has_number : HasNumber (pair_of release) k (record { made = made; rows = rows })
      has_number = agrees.owed (pair_of release) k released

      pub is_there : IsSome (find pair_cmp (pair_of release) rows)
      is_there = subst IsSome (sym has_number) refl

      pub of_pair : (p : Pair) → HasNumber p k (record { made = made; rows = rows }) → pair_of release ≡ p
      of_pair p has = within (pair_of release) p (sym released ∙ agrees.ready p k has)

      -- after a pair's number and its release are gone
      pub agrees_freed : (n : HashMap ℕ Release S) (rows_after : List (Pair × ℕ)) → UpdatesBy nat_eq (nat_eq k) m n None → rows_after ≡ without pair_cmp (pair_of release) rows → Agrees n (record { made = made; rows = rows_after })
      agrees_freed n rows_after up gone =
          one_freed (λ q. find pair_cmp q rows) (λ q. find pair_cmp q rows_after) (pair_at m) (pair_at n) made agrees (pair_of release) k released
          (λ q. ap (find pair_cmp q) gone ∙ found_without pair_order q (pair_of release) rows)
          (at_after n k None up)

-- what is said of the fields of a table is said of the table
module _ (p : Pair) (n k : ℕ) (made : ℕ) (rows : List (Pair × ℕ)) (proxies : Proxies) (is : record { made = made; rows = rows } ≡ proxies) (same : n ≡ k) where
  pub inside : HasNumber p k proxies → HasNumber p n (record { made = made; rows = rows })
  inside has = ap (proxy p) is ∙ has ∙ ap Some (sym same)

  pub outside : HasNumber p n (record { made = made; rows = rows }) → HasNumber p k proxies
  outside has = sym (ap (proxy p) is) ∙ has ∙ ap Some same

pub freed_outside : (p q : Pair) (made : ℕ) (rows rows_after : List (Pair × ℕ)) (proxies : Proxies) → record { made = made; rows = rows } ≡ proxies → rows_after ≡ without pair_cmp q rows → q ≡ p → ◌≡◌ {A = Proxies} (record { made = made; rows = rows_after }) (freed p proxies)
freed_outside p q made rows rows_after proxies is gone same = (λ i. record { made = made; rows = gone i }) ∙ (λ i. freed (same i) (is i))

-- a call that succeeds has done what it does where it succeeds
pub sure : {A E P : Type 0} (r : Result A E) → IsOk r → OnOk r P → P
sure (Ok x) is p = p
sure (Err e) is p = let bad : false ≡ true = is in cc

-- whatever was answered, what holds holds where nothing is answered
pub at_none : {A P : Type 0} (o : Option A) → P → IfNone o P
at_none None p = p
at_none (Some x) p = tt
