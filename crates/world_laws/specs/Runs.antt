-- Which runs a pair has: one of each thread of its plans.
use Rattle.std.specs.Prelude.{◌≡◌, ℕ, suc, List, [], ◌∷◌}
use Rattle.plan_model.specs.Plans.{manager_name}
use Rattle.plan_model.specs.Roots.{Run}
use Rattle.plan_model.specs.Statements.{RootStatement}
use Rattle.world_model.specs.Pairs.{Pairing}
use Rattle.world_model.specs.Worlds.{Settings}

-- one run of each thread, in order: that of the root of its number, from this one on, whose instance is the service manager
unfoldable pub AreOfThreads : (first : ℕ) → List (List RootStatement) → List Run → Type 0
AreOfThreads n [] [] = Unit
AreOfThreads n [] (r ∷ rs) = ⊥
AreOfThreads n (t ∷ ts) [] = ⊥
AreOfThreads n (t ∷ ts) (r ∷ rs) = (r.root ≡ n) × (r.instance ≡ manager_name) × AreOfThreads (suc n) ts rs

-- so it is at both ends
pub record BothOfThreads (g : Settings) (p : Pairing) : Type 0 where
  pub a : AreOfThreads 1 g.a.plan.threads p.runs.a
  pub b : AreOfThreads 1 g.b.plan.threads p.runs.b
