-- The roots of a plan at their beginnings, one after the other.
use Rattle.std.proofs.Common.{◌≡◌, ℕ, zero, suc, ◌+◌, ◌<◌, ◌≤◌, List, [], ◌∷◌, ◌++◌, length, take, refl, sym, ap, ◌∙◌, arith}
use Rattle.std.proofs.Math.Seq.{take-length}
use Rattle.std.proofs.lemmas.List.{length-map}
use Rattle.bridge_model.specs.Orders.{first_runs}
use Rattle.plan_model.specs.Plans.{manager_name}
use Rattle.plan_model.specs.Roots.{Run, opening_run}
use Rattle.plan_model.specs.Statements.{RootStatement}
use Rattle.plan_types.specs.Plans.{plan_of}
use Rattle.plan_types.specs.declared.plan.Plan.{Plan}

-- one root more
more : (n i root : ℕ) (threads : List (List RootStatement)) → i < length threads → root ≡ n + i
    → first_runs n (take (suc i) threads) ≡ first_runs n (take i threads) ++ opening_run root manager_name ∷ []
unfolding first_runs
more n zero root [] below e = let bad : ⊥ = omega arith in absurd bad
more n zero root (t ∷ ts) below e = let same : root ≡ n = omega arith in rw same refl
more n (suc i) root [] below e = let bad : ⊥ = omega arith in absurd bad
more n (suc i) root (t ∷ ts) below e = ap (λ rs. opening_run n manager_name ∷ rs) (more (suc n) i root ts (omega arith) (omega arith))

pub first_runs_more : (i : ℕ) (threads : List (List RootStatement)) → i < length threads
    → first_runs 1 (take (i + 1) threads) ≡ first_runs 1 (take i threads) ++ opening_run (suc i) manager_name ∷ []
first_runs_more i threads below = let next : i + 1 ≡ suc i = omega arith in rw next (more 1 i (suc i) threads below (omega arith))

-- the root of one thread more was added
pub openings_more : (i : ℕ) (threads : List (List RootStatement)) (before now : List Run) → i + 1 ≤ length threads → before ≡ first_runs 1 (take i threads)
    → now ≡ before ++ opening_run (suc i) manager_name ∷ [] → now ≡ first_runs 1 (take (i + 1) threads)
openings_more i threads before now within so added =
    added ∙ ap (λ rs. rs ++ opening_run (suc i) manager_name ∷ []) so ∙ sym (first_runs_more i threads (omega (arith, within)))

-- those of all threads
pub all_openings : (count : ℕ) (threads : List (List RootStatement)) (runs : List Run) → length threads ≡ count → runs ≡ first_runs 1 (take count threads) → runs ≡ first_runs 1 threads
all_openings count threads runs long so = so ∙ ap (first_runs 1) (ap (λ n. take n threads) (sym long) ∙ take-length threads)

-- a plan has as many threads as code counts
pub thread_count : (p : Plan) → length (plan_of p).threads ≡ length p.threads.items
thread_count p = length-map p.threads.items _
