-- States of roots: one that is changed, the others, and what leaves all of them as they are.
use Rattle.std.proofs.Common.{◌≡◌, refl, sym, ap, ◌∙◌, ℕ, zero, suc, ◌≤◌, Bool, true, false, List, [], ◌∷◌, ◌++◌, length, map, unwrap_or, slice_get, slice_set, arith, if◌then◌else◌}
use Rattle.std.proofs.lemmas.List.{get_or-set_same, get_or-set_other, length-set}
use Rattle.std.proofs.lemmas.Option.{unwrap_or-slice_get}
use Rattle.uno_model.specs.Values.{Ref, null, own, peer, Plain}
use Rattle.table_model.specs.declared.holder.Holder.{Holder}
use Rattle.table_model.specs.declared.holder.Holder.TheVariants as holder
use Rattle.bridge_model.specs.Ends.{state_at_end}
use Rattle.bridge_model.specs.Objects.{makes_object, defaults_of, makes_default, makes_all}
use Rattle.bridge_model.specs.References.{says, releases, gains, gains_all, is_held, takes, takes_all, loses, loses_all, stays, gives_back, holds_ref, lets_go, lets_go_all, refs_of_values}
use Rattle.bridge_model.specs.Settings.{Setting}
use Rattle.bridge_model.specs.Sides.{RootState, idle, waits_call, waits_query, answered, Tables, state_of, states_with}
use Rattle.bridge_model.specs.declared.cause.Cause.{Cause}
use Rattle.bridge_laws.specs.Rooted.{waits}

-- ---- one root

pub state_same : (root : ℕ) (x : RootState) (states : List RootState) → 1 ≤ root → root ≤ length states → state_of root (states_with root x states) ≡ x
unfolding state_of states_with
state_same zero x states least most = absurd (omega arith)
state_same (suc n) x states least most = unwrap_or-slice_get (slice_set states n x) n idle ∙ get_or-set_same states n x idle (omega arith)

pub state_other : (root other : ℕ) (x : RootState) (states : List RootState) → (other ≡ root → ⊥) → state_of other (states_with root x states) ≡ state_of other states
unfolding state_of states_with
state_other root zero x states apart = refl
state_other zero (suc m) x states apart = refl
state_other (suc n) (suc m) x states apart =
    unwrap_or-slice_get (slice_set states n x) m idle ∙ (get_or-set_other states n m x idle (λ e. apart (ap (λ k. suc k) e)) ∙ sym (unwrap_or-slice_get states m idle))

pub length_states : (root : ℕ) (x : RootState) (states : List RootState) → length (states_with root x states) ≡ length states
unfolding states_with
length_states zero x states = refl
length_states (suc n) x states = length-set states n x

-- ---- the end

none_waits : (why : Cause) (x : RootState) → waits (state_at_end why x) ≡ false
none_waits why idle = refl
none_waits why waits_call = refl
none_waits why (waits_query wanted) = refl
none_waits why (answered o) = refl

none_waits_at : (why : Cause) (n : ℕ) (states : List RootState) → waits (unwrap_or (slice_get (map (state_at_end why) states) n) idle) ≡ false
none_waits_at why n [] = refl
none_waits_at why zero (x ∷ states) = none_waits why x
none_waits_at why (suc n) (x ∷ states) = none_waits_at why n states

pub none_waits_after : (why : Cause) (root : ℕ) (states : List RootState) → waits (state_of root (map (state_at_end why) states)) ≡ false
unfolding state_of
none_waits_after why zero states = refl
none_waits_after why (suc n) states = none_waits_at why n states

-- ---- what leaves all roots as they are

abbrev pub Stay : Tables → Tables → Type 0
Stay t u = u.roots ≡ t.roots

pub stay_if : (b : Bool) (t u v : Tables) → Stay t u → Stay t v → Stay t (if b then u else v)
stay_if true t u v p q = p
stay_if false t u v p q = q

pub stay_says : (g : Setting) (oid face : List ℕ) (t : Tables) → Stay t (releases g oid face t)
unfolding says
stay_says g oid face t = refl

pub stay_gains : (h : Holder) (r : Ref) (t : Tables) → Stay t (gains h r t)
stay_gains h null t = refl
stay_gains h (own oid face) t = refl
stay_gains h (peer oid face) t = refl

pub stay_gains_all : (h : Holder) (rs : List Ref) (t : Tables) → Stay t (gains_all h rs t)
unfolding gains_all
stay_gains_all h [] t = refl
stay_gains_all h (r ∷ rs) t = stay_gains_all h rs (gains h r t) ∙ stay_gains h r t

stay_takes : (g : Setting) (h : Holder) (r : Ref) (t : Tables) → Stay t (takes g h r t)
stay_takes g h null t = refl
stay_takes g h (own oid face) t = refl
stay_takes g h (peer oid face) t = stay_if (is_held oid face t) t (releases g oid face t) t (stay_says g oid face t) refl

pub stay_takes_all : (g : Setting) (h : Holder) (rs : List Ref) (t : Tables) → Stay t (takes_all g h rs t)
unfolding takes_all
stay_takes_all g h [] t = refl
stay_takes_all g h (r ∷ rs) t = stay_takes_all g h rs (takes g h r t) ∙ stay_takes g h r t

pub stay_loses : (h : Holder) (r : Ref) (t : Tables) → Stay t (loses h r t)
stay_loses h null t = refl
stay_loses h (own oid face) t = refl
stay_loses h (peer oid face) t = refl

pub stay_loses_all : (h : Holder) (rs : List Ref) (t : Tables) → Stay t (loses_all h rs t)
unfolding loses_all
stay_loses_all h [] t = refl
stay_loses_all h (r ∷ rs) t = stay_loses_all h rs (loses h r t) ∙ stay_loses h r t

stay_gives_back : (g : Setting) (r : Ref) (t : Tables) → Stay t (gives_back g r t)
stay_gives_back g null t = refl
stay_gives_back g (own oid face) t = refl
stay_gives_back g (peer oid face) t = stay_if (stays g oid face t) t t (releases g oid face t) refl (stay_says g oid face t)

pub stay_lets_go : (g : Setting) (h : Holder) (r : Ref) (t : Tables) → Stay t (lets_go g h r t)
stay_lets_go g h r t = stay_if (holds_ref h r t) t (gives_back g r (loses h r t)) t (stay_gives_back g r (loses h r t) ∙ stay_loses h r t) refl

pub stay_lets_go_all : (g : Setting) (h : Holder) (rs : List Ref) (t : Tables) → Stay t (lets_go_all g h rs t)
unfolding lets_go_all
stay_lets_go_all g h [] t = refl
stay_lets_go_all g h (r ∷ rs) t = stay_lets_go_all g h rs (lets_go g h r t) ∙ stay_lets_go g h r t

pub stay_makes_object : (behaviour : ℕ) (fields : List Plain) (t : Tables) → Stay t (makes_object behaviour fields t)
unfolding makes_object
stay_makes_object behaviour fields t =
    stay_gains_all
    (holder.Object (suc t.objects_made))
    (refs_of_values fields)
    (record t { objects = t.objects ++ record { number = suc t.objects_made; behaviour = behaviour; fields = fields } ∷ []; objects_made = suc t.objects_made })

pub stay_makes_default : (g : Setting) (behaviour : ℕ) (t : Tables) → Stay t (makes_default g behaviour t)
stay_makes_default g behaviour t = stay_makes_object behaviour (defaults_of g behaviour) t

pub stay_makes_all : (g : Setting) (behaviours : List ℕ) (t : Tables) → Stay t (makes_all g behaviours t)
unfolding makes_all
stay_makes_all g [] t = refl
stay_makes_all g (behaviour ∷ rest) t = stay_makes_all g rest (makes_default g behaviour t) ∙ stay_makes_default g behaviour t
