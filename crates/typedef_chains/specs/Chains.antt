-- Chains of steps, from node to node, and where they end.
use Rattle.std.specs.Prelude.{◌≡◌, ℕ, ◌+◌, ◌<◌, min, List, length, Option, None, Some, slice_get}
use Rattle.typedef_chains.specs.declared.step.Step.{Step}
use Rattle.typedef_chains.specs.declared.step.End.{End}

-- the chain of a node ends at another one, and its steps add so much
pub data Ends (steps : List Step) : ℕ → ℕ → ℕ → Type 0 where
  here : (node : ℕ) (s : Step) → slice_get steps node ≡ Some s → s.next ≡ None → Ends steps node node s.adds
  on : (node last sum next : ℕ) (s : Step) → slice_get steps node ≡ Some s → s.next ≡ Some next → Ends steps next last sum → Ends steps node last (s.adds + sum)

-- each leads to a node
abbrev pub LeadWithin : List Step → Type 0
LeadWithin steps = (node next : ℕ) (s : Step) → slice_get steps node ≡ Some s → s.next ≡ Some next → next < length steps

-- where the chain of a node ends, or that it does not, where sums above the greatest are told as that
abbrev pub IsEnd : List Step → ℕ → ℕ → Option End → Type 0
IsEnd steps most node None = (last sum : ℕ) → ¬ Ends steps node last sum
IsEnd steps most node (Some e) = (sum : ℕ) × (e.sum ≡ min sum most) × Ends steps node e.last sum
