-- Laws over histories: what holds at the opening and stays at each step holds of all that a history told.
use Rattle.std.proofs.Common.{◌≡◌, refl, Bool, true, false, List, [], ◌∷◌, Option, None, Some, if◌then◌else◌}
use mathlib.Core.Path.{subst}
use Rattle.bridge_model.specs.Entries.{Entry}
use Rattle.bridge_model.specs.Histories.{Told, nothing_told, told_more, told_by, tells, tells_all, replay}
use Rattle.bridge_model.specs.Settings.{Setting}
use Rattle.bridge_model.specs.Sides.{Side}
use Rattle.bridge_model.specs.Steps.{Turn, turn, step, may, does}

-- what is there under a test was tested
pub of_some : {X : Type 0} (b : Bool) (x y : X) (P : X → Type 0) → (b ≡ true → P x) → (if b then Some x else None) ≡ Some y → P y
of_some true x y P f e = subst P (cc) (f refl)
of_some false x y P f e = absurd (cc)

-- a step is there where the entry may stand, and does what the entry does
pub of_step : (g : Setting) (s : Side) (e : Entry) (u : Turn) (P : Turn → Type 0) → (may g s e ≡ true → P (turn e s (does g e s))) → step g s e ≡ Some u → P u
unfolding step
of_step g s e u P f is = of_some (may g s e) (turn e s (does g e s)) u P f is

-- what is kept at each step
abbrev pub IsKept : Setting → (Told → Type 0) → Type 0
IsKept g P = (x : Told) (e : Entry) → P x → may g x.side e ≡ true → P (told_more x e (turn e x.side (does g e x.side)))

-- so it is kept along entries
tells_fine : (g : Setting) (P : Told → Type 0) → IsKept g P → (x : Told) (e : Entry) (o : Option Turn) → P x → o ≡ step g x.side e → (y : Told) → told_by x e o ≡ Some y → P y
tells_fine g P keeps x e None fine is y to = absurd (cc)
tells_fine g P keeps x e (Some u) fine is y to =
    subst P (cc) (of_step g x.side e u (λ v. P (told_more x e v)) (λ may_it. keeps x e fine may_it) (cc))

along : (g : Setting) (P : Told → Type 0) → IsKept g P → (o : Option Told) → ((x : Told) → o ≡ Some x → P x) → (es : List Entry) (y : Told) → tells_all g o es ≡ Some y → P y
unfolding tells_all
along g P keeps None fine es y to = absurd (cc)
along g P keeps (Some x) fine [] y to = fine y to
along g P keeps (Some x) fine (e ∷ es) y to =
    along g P keeps (tells g x e) (λ z is. tells_fine g P keeps x e (step g x.side e) (fine x refl) refl z is) es y to

-- of all that a history told
pub along_replay : (g : Setting) (P : Told → Type 0) → P (nothing_told g) → IsKept g P → (es : List Entry) (y : Told) → replay g es ≡ Some y → P y
unfolding replay
along_replay g P first keeps es y to = along g P keeps (Some (nothing_told g)) (λ x is. subst P (cc) first) es y to
