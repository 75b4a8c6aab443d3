-- What lasts of frames that begin and end.
use Rattle.std.proofs.Common.{◌≡◌, ℕ, true, false, List, [], ◌∷◌, ◌++◌, refl, sym, ap, ◌∙◌, subst}
use Rattle.message_model.specs.Messages.{Answer, reply}
use Rattle.uno_model.specs.Values.{Ref}
use Rattle.plan_model.specs.Frames.{Body, Frame, base, body, outgoing}
use Rattle.plan_model.specs.Holdings.{let_go_at_end}
use Rattle.bridge_model.specs.Handing.{answers_peer, gains_below, hands_over, lets_go_frame, takes_below}
use Rattle.bridge_model.specs.References.{refs_of_answer, says}
use Rattle.bridge_model.specs.Settings.{Setting, own_oid}
use Rattle.bridge_model.specs.Sides.{Tables}
use Rattle.bridge_tables.specs.EndTables.{EndTables, IsOf, lasts, with_tables}
use Rattle.bridge_tables.proofs.LastingLemmas.{frame_gains_all, frame_lets_go_all, frame_takes_all, lasts_said}
use Rattle.bridge_frames.specs.Unwinding.{is_root}

-- the tables of an end stay those of its setting, and the bridge stands
pub of_after : (g : Setting) (t : Tables) (e after : EndTables) → after ≡ with_tables t e → IsOf g e → IsOf g after
of_after g t e after is of = subst (IsOf g) (sym is) (record { prefix = of.prefix; first = of.first; release = of.release })

pub stands_after : (t : Tables) (e after : EndTables) → after ≡ with_tables t e → e.stands ≡ true → after.stands ≡ true
stands_after t e after is stands = ap (λ x. x.stands) is ∙ stands

-- what a frame lets go does not last
pub frame_ends : (g : Setting) (b : Body) (extra : List Ref) (t : Tables) → lasts (lets_go_frame g b extra t) ≡ lasts t
frame_ends g b extra t = frame_lets_go_all b.number g (extra ++ let_go_at_end (own_oid g b.object) b) t

pub peer_answered : (g : Setting) (tid : List ℕ) (b : Body) (extra : List Ref) (a : Answer) (t : Tables) → lasts (answers_peer g tid b extra a t) ≡ lasts t
peer_answered g tid b extra a t = frame_ends g b extra (says g (reply tid b.face b.function a) t) ∙ lasts_said g (reply tid b.face b.function a) t

-- what a frame gains that is no root does not last
pub gained_below : (fs : List Frame) (a : Answer) (t : Tables) → is_root fs ≡ false → lasts (gains_below fs a t) ≡ lasts t
gained_below [] a t other = refl
gained_below (base root ∷ fs) a t other = absurd (cc)
gained_below (body b ∷ fs) a t other = frame_gains_all b.number (refs_of_answer a) t
gained_below (outgoing o ∷ fs) a t other = refl

pub taken_below : (g : Setting) (fs : List Frame) (a : Answer) (t : Tables) → is_root fs ≡ false → lasts (takes_below g fs a t) ≡ lasts t
taken_below g [] a t other = refl
taken_below g (base root ∷ fs) a t other = absurd (cc)
taken_below g (body b ∷ fs) a t other = frame_takes_all b.number g (refs_of_answer a) t
taken_below g (outgoing o ∷ fs) a t other = refl

pub handed_over : (g : Setting) (b : Body) (extra : List Ref) (a : Answer) (fs : List Frame) (t : Tables) → is_root fs ≡ false → lasts (hands_over g b extra a fs t) ≡ lasts t
handed_over g b extra a fs t other = frame_ends g b extra (gains_below fs a t) ∙ gained_below fs a t other
