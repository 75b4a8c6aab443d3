-- What says no reply and leaves all roots: taking, holding and letting go.
use Rattle.std.proofs.Common.{◌≡◌, refl, sym, ap, ◌∙◌, ℕ, Bool, true, false, List, [], ◌∷◌, ◌++◌, if◌then◌else◌}
use Rattle.std.proofs.lemmas.List.{append_assoc, append-nil}
use Rattle.message_model.specs.Messages.{Message, Answer}
use Rattle.uno_model.specs.Values.{Ref, null, own, peer, Plain}
use Rattle.table_model.specs.declared.holder.Holder.{Holder}
use Rattle.bridge_model.specs.Handing.{gains_below, takes_below}
use Rattle.bridge_model.specs.Objects.{makes_object}
use Rattle.bridge_model.specs.References.{says, releases, gains, gains_all, is_held, takes, takes_all, loses, loses_all, stays, gives_back, holds_ref, lets_go, lets_go_all}
use Rattle.bridge_model.specs.Settings.{Setting}
use Rattle.bridge_model.specs.Sides.{Tables}
use Rattle.plan_model.specs.Frames.{Frame, base, body, outgoing}
use Rattle.bridge_laws.proofs.RootStateLaws.{stay_gains_all, stay_takes_all, stay_lets_go_all, stay_makes_object}
use Rattle.bridge_laws.specs.Outcomes.{reply_in, replies}

pub replies_append : (ms ns : List Message) → replies (ms ++ ns) ≡ replies ms ++ replies ns
unfolding replies
replies_append [] ns = refl
replies_append (m ∷ ms) ns = ap (λ ss. reply_in m ++ ss) (replies_append ms ns) ∙ sym (append_assoc (reply_in m) (replies ms) (replies ns))

one_reply : (m : Message) → replies (m ∷ []) ≡ reply_in m
unfolding replies
one_reply m = append-nil (reply_in m)

-- these replies more are said
abbrev pub Replies : Tables → Tables → List Message → Type 0
Replies t u new = replies u.unsaid ≡ replies t.unsaid ++ new

abbrev pub Mute : Tables → Tables → Type 0
Mute t u = replies u.unsaid ≡ replies t.unsaid

pub says_replies : (g : Setting) (m : Message) (t : Tables) → Replies t (says g m t) (reply_in m)
unfolding says
says_replies g m t = replies_append t.unsaid (m ∷ []) ∙ ap (λ ss. replies t.unsaid ++ ss) (one_reply m)

pub mute_if : (b : Bool) (t u v : Tables) → Mute t u → Mute t v → Mute t (if b then u else v)
mute_if true t u v p q = p
mute_if false t u v p q = q

releases_mute : (g : Setting) (oid face : List ℕ) (t : Tables) → Mute t (releases g oid face t)
releases_mute g oid face t = says_replies g _ t ∙ append-nil (replies t.unsaid)

pub gains_mute : (h : Holder) (r : Ref) (t : Tables) → Mute t (gains h r t)
gains_mute h null t = refl
gains_mute h (own oid face) t = refl
gains_mute h (peer oid face) t = refl

pub gains_all_mute : (h : Holder) (rs : List Ref) (t : Tables) → Mute t (gains_all h rs t)
unfolding gains_all
gains_all_mute h [] t = refl
gains_all_mute h (r ∷ rs) t = gains_all_mute h rs (gains h r t) ∙ gains_mute h r t

takes_mute : (g : Setting) (h : Holder) (r : Ref) (t : Tables) → Mute t (takes g h r t)
takes_mute g h null t = refl
takes_mute g h (own oid face) t = refl
takes_mute g h (peer oid face) t = mute_if (is_held oid face t) t (releases g oid face t) t (releases_mute g oid face t) refl

pub takes_all_mute : (g : Setting) (h : Holder) (rs : List Ref) (t : Tables) → Mute t (takes_all g h rs t)
unfolding takes_all
takes_all_mute g h [] t = refl
takes_all_mute g h (r ∷ rs) t = takes_all_mute g h rs (takes g h r t) ∙ takes_mute g h r t

pub loses_mute : (h : Holder) (r : Ref) (t : Tables) → Mute t (loses h r t)
loses_mute h null t = refl
loses_mute h (own oid face) t = refl
loses_mute h (peer oid face) t = refl

pub loses_all_mute : (h : Holder) (rs : List Ref) (t : Tables) → Mute t (loses_all h rs t)
unfolding loses_all
loses_all_mute h [] t = refl
loses_all_mute h (r ∷ rs) t = loses_all_mute h rs (loses h r t) ∙ loses_mute h r t

gives_back_mute : (g : Setting) (r : Ref) (t : Tables) → Mute t (gives_back g r t)
gives_back_mute g null t = refl
gives_back_mute g (own oid face) t = refl
gives_back_mute g (peer oid face) t = mute_if (stays g oid face t) t t (releases g oid face t) refl (releases_mute g oid face t)

pub lets_go_mute : (g : Setting) (h : Holder) (r : Ref) (t : Tables) → Mute t (lets_go g h r t)
lets_go_mute g h r t = mute_if (holds_ref h r t) t (gives_back g r (loses h r t)) t (gives_back_mute g r (loses h r t) ∙ loses_mute h r t) refl

pub lets_go_all_mute : (g : Setting) (h : Holder) (rs : List Ref) (t : Tables) → Mute t (lets_go_all g h rs t)
unfolding lets_go_all
lets_go_all_mute g h [] t = refl
lets_go_all_mute g h (r ∷ rs) t = lets_go_all_mute g h rs (lets_go g h r t) ∙ lets_go_mute g h r t

pub makes_object_mute : (behaviour : ℕ) (fields : List Plain) (t : Tables) → Mute t (makes_object behaviour fields t)
unfolding makes_object
makes_object_mute behaviour fields t = gains_all_mute _ _ _

-- ---- with the roots

pub record IsStill (t u : Tables) : Type 0 where
  pub mute : replies u.unsaid ≡ replies t.unsaid
  pub stay : u.roots ≡ t.roots

pub still : (t : Tables) → IsStill t t
still t = record { mute = refl; stay = refl }

pub then_still : (t u v : Tables) → IsStill t u → IsStill u v → IsStill t v
then_still t u v p q = record { mute = q.mute ∙ p.mute; stay = q.stay ∙ p.stay }

pub still_gains_all : (h : Holder) (rs : List Ref) (t : Tables) → IsStill t (gains_all h rs t)
still_gains_all h rs t = record { mute = gains_all_mute h rs t; stay = stay_gains_all h rs t }

pub still_takes_all : (g : Setting) (h : Holder) (rs : List Ref) (t : Tables) → IsStill t (takes_all g h rs t)
still_takes_all g h rs t = record { mute = takes_all_mute g h rs t; stay = stay_takes_all g h rs t }

pub still_lets_go_all : (g : Setting) (h : Holder) (rs : List Ref) (t : Tables) → IsStill t (lets_go_all g h rs t)
still_lets_go_all g h rs t = record { mute = lets_go_all_mute g h rs t; stay = stay_lets_go_all g h rs t }

pub still_makes_object : (behaviour : ℕ) (fields : List Plain) (t : Tables) → IsStill t (makes_object behaviour fields t)
still_makes_object behaviour fields t = record { mute = makes_object_mute behaviour fields t; stay = stay_makes_object behaviour fields t }

pub still_gains_below : (fs : List Frame) (a : Answer) (t : Tables) → IsStill t (gains_below fs a t)
still_gains_below [] a t = still t
still_gains_below (base n ∷ fs) a t = still_gains_all _ _ t
still_gains_below (body b ∷ fs) a t = still_gains_all _ _ t
still_gains_below (outgoing o ∷ fs) a t = still t

pub still_takes_below : (g : Setting) (fs : List Frame) (a : Answer) (t : Tables) → IsStill t (takes_below g fs a t)
still_takes_below g [] a t = still t
still_takes_below g (base n ∷ fs) a t = still_takes_all g _ _ t
still_takes_below g (body b ∷ fs) a t = still_takes_all g _ _ t
still_takes_below g (outgoing o ∷ fs) a t = still t
