-- The roots of an endpoint's plan, one after the other.
use Rattle.std.specs.Prelude.{◌≡◌, ℕ, suc, List, [], ◌∷◌}
use Rattle.plan_model.specs.Roots.{Run}
use Rattle.bridge_endpoint.specs.Journals.{Endpoint}
use Rattle.bridge_core.specs.Standing.{IsRunAt}

-- numbered from here on, each with a run that stands for the journal
abbrev pub AreRootsFrom : Endpoint → ℕ → List Run → Type 0
AreRootsFrom e n [] = Unit
AreRootsFrom e n (r ∷ rs) = (r.root ≡ n) × IsRunAt e r × AreRootsFrom e (suc n) rs

abbrev pub AreRoots : Endpoint → List Run → Type 0
AreRoots e runs = AreRootsFrom e 1 runs
