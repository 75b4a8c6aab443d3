-- A status is kept, unless memory was wanted for its line.
use Rattle.std.proofs.Common.{◌≡◌, ◌⊎◌, true, false, sym, subst, ◌∙◌, inl, inr}
use Rattle.uno_run.specs.Lines.{has_own_line}
use Rattle.uno_run.specs.declared.status.Status.{Status}
use Rattle.uno_run.specs.declared.status.Status.TheVariants.{Words, NoMemory}

abbrev pub Kept : Status → Status → Type 0
Kept result status = (result ≡ status) ⊎ ((result ≡ NoMemory) × (has_own_line status ≡ true))

-- what holds of the status holds of the one that is kept, if it holds of want of memory where the line is made
pub kept_so : (P : Status → Type 0) (result status : Status) → Kept result status → P status → (has_own_line status ≡ true → P NoMemory) → P result
kept_so P result status (inl same) is lost = subst P (sym same) is
kept_so P result status (inr gone) is lost = subst P (sym gone.0) (lost gone.1)

pub own_differs : (status s : Status) → has_own_line status ≡ true → has_own_line s ≡ false → status ≡ s → ⊥
own_differs status s own none e = let line : has_own_line s ≡ true = subst (λ t. has_own_line t ≡ true) e own in cc

pub kept_words : (result status : Status) → Kept result status → (status ≡ Words → ⊥) → result ≡ Words → ⊥
kept_words result status (inl same) none e = none (sym same ∙ e)
kept_words result status (inr gone) none e = let lost = gone.0 in cc

pub for_memory : (result : Status) → Kept result NoMemory → result ≡ NoMemory
for_memory result (inl same) = same
for_memory result (inr gone) = gone.0
