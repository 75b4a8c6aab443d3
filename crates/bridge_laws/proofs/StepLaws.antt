-- The laws of each step of a history.
use Rattle.std.proofs.Common.{◌≡◌, refl, ◌∙◌, ap, suc, Bool, true, false, List, [], Some}
use Rattle.bridge_model.specs.Entries.{Entry, counts}
use Rattle.bridge_model.specs.Histories.{Told, Leads}
use Rattle.bridge_model.specs.Settings.{Setting}
use Rattle.bridge_model.specs.Sides.{Side, stands}
use Rattle.bridge_model.specs.Steps.{Turn, counted, step, opening, does}
use Rattle.bridge_laws.specs.Ended.{IsQuiet, StaysEnded}
use Rattle.bridge_laws.proofs.CountedLaws.{does_counts}
use Rattle.bridge_laws.proofs.EndedLaws.{does_quiet}
use Rattle.bridge_laws.proofs.KeepingLaws.{brings_by_bytes}
use Rattle.bridge_laws.proofs.Replays.{of_step, IsKept, along_replay}
use Rattle.bridge_laws.proofs.SilentLaws.{stays_ended}

-- ---- entries

counted_one : (e : Entry) (s : Side) → counts e ≡ true → (counted e s).entries ≡ suc s.entries
counted_one e s is = rw is refl

counted_none : (e : Entry) (s : Side) → counts e ≡ false → (counted e s).entries ≡ s.entries
counted_none e s is = rw is refl

pub one_counted : (g : Setting) (s : Side) (e : Entry) (u : Turn) → counts e ≡ true → step g s e ≡ Some u → u.side.entries ≡ suc s.entries
one_counted g s e u is to =
    of_step g s e u (λ v. v.side.entries ≡ suc s.entries) (λ may_it. counted_one e (does g e s).side is ∙ ap suc (does_counts g e s)) to

pub none_counted : (g : Setting) (s : Side) (e : Entry) (u : Turn) → counts e ≡ false → step g s e ≡ Some u → u.side.entries ≡ s.entries
none_counted g s e u is to =
    of_step g s e u (λ v. v.side.entries ≡ s.entries) (λ may_it. counted_none e (does g e s).side is ∙ does_counts g e s) to

pub nothing_got : (g : Setting) (s : Side) (e : Entry) (u : Turn) → counts e ≡ true → step g s e ≡ Some u → u.got ≡ []
nothing_got g s e u is to = of_step g s e u (λ v. v.got ≡ []) (λ may_it. brings_by_bytes g e s is) to

-- ---- ends

counted_quiet : (e : Entry) (s : Side) (b : Bool) → counts e ≡ b → IsQuiet s → IsQuiet (counted e s)
counted_quiet e s true is quiet = rw is quiet
counted_quiet e s false is quiet = rw is quiet

opening_quiet : (g : Setting) → IsQuiet (opening g)
unfolding opening
opening_quiet g is = refl

quiet_kept : (g : Setting) → IsKept g (λ x. IsQuiet x.side)
quiet_kept g x e quiet is = counted_quiet e (does g e x.side).side (counts e) refl (does_quiet g e x.side quiet is)

pub quiet_along : (g : Setting) (es : List Entry) (x : Told) → Leads g es x → IsQuiet x.side
quiet_along g es x to = along_replay g (λ y. IsQuiet y.side) (opening_quiet g) (quiet_kept g) es x to

pub ended_along : (g : Setting) (es : List Entry) (x : Told) (e : Entry) (u : Turn) → Leads g es x → stands x.side ≡ false → step g x.side e ≡ Some u → StaysEnded u
ended_along g es x e u leads is to =
    of_step g x.side e u StaysEnded (λ may_it. stays_ended g e x.side (quiet_along g es x leads) is may_it) to
