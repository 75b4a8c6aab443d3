-- What is known of nodes while the chain of one is followed.
use Rattle.std.specs.Prelude.{◌≡◌, ◌⊎◌, ℕ, suc, Bool, true, false, List, [], ◌∷◌, length, Option, None, Some, Contains, get_or, slice_get}
use Rattle.typedef_chains.specs.Chains.{IsEnd}
use Rattle.typedef_chains.specs.declared.step.Step.{Step}
use Rattle.typedef_chains.specs.declared.step.End.{End}

-- a node leads to another
abbrev pub LeadsTo : List Step → ℕ → ℕ → Type 0
LeadsTo steps node next = (s : Step) × (slice_get steps node ≡ Some s) × (s.next ≡ Some next)

abbrev pub first_or : ℕ → List ℕ → ℕ
first_or at [] = at
first_or at (x ∷ xs) = x

-- each node of a way leads to the one behind it, and the last one to this
unfoldable pub Linked : List Step → List ℕ → ℕ → Type 0
Linked steps [] at = Unit
Linked steps (x ∷ xs) at = LeadsTo steps x (first_or at xs) × Linked steps xs at

-- a node was met, and where its chain ends, as far as it is known
abbrev pub met : List Bool → ℕ → Bool
met seen node = get_or seen node false

abbrev pub end_of : List (Option End) → ℕ → Option End
end_of ends node = get_or ends node None

-- what was met is told rightly, or stands on the way; what was not met has no end yet
pub record Follows (steps : List Step) (most : ℕ) (seen : List Bool) (ends : List (Option End)) (way : List ℕ) : Type 0 where
  pub long_seen : length seen ≡ length steps
  pub long_ends : length ends ≡ length steps
  pub told : (node : ℕ) → met seen node ≡ true → Contains way node ⊎ IsEnd steps most node (end_of ends node)
  pub fresh : (node : ℕ) → met seen node ≡ false → end_of ends node ≡ None
  pub waiting : (node : ℕ) → Contains way node → (met seen node ≡ true) × (end_of ends node ≡ None)

-- the nodes of a way lead to one whose end is known, and all others that were met are told rightly
pub record Returns (steps : List Step) (most : ℕ) (seen : List Bool) (ends : List (Option End)) (way : List ℕ) (end : Option End) : Type 0 where
  pub long_seen : length seen ≡ length steps
  pub long_ends : length ends ≡ length steps
  pub told : (node : ℕ) → met seen node ≡ true → Contains way node ⊎ IsEnd steps most node (end_of ends node)
  pub fresh : (node : ℕ) → met seen node ≡ false → end_of ends node ≡ None
  pub on_way : (node : ℕ) → Contains way node → met seen node ≡ true
  pub at : ℕ
  pub linked : Linked steps way at
  pub right : IsEnd steps most at end

-- what was met stays so
abbrev pub StayMet : List Bool → List Bool → Type 0
StayMet old new = (node : ℕ) → met old node ≡ true → met new node ≡ true

-- how many were not met
unfoldable pub fresh_nodes : List Bool → ℕ
fresh_nodes [] = 0
fresh_nodes (true ∷ seen) = fresh_nodes seen
fresh_nodes (false ∷ seen) = suc (fresh_nodes seen)
