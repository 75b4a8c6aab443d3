-- What is said stands behind what was said before, and stubs count what is sent with it: messages and references do nothing else to either.
use Rattle.std.proofs.Common.{◌≡◌, refl, sym, ap, ◌∙◌, ℕ, suc, Bool, true, false, List, [], ◌∷◌, ◌++◌, if◌then◌else◌}
use Rattle.std.proofs.lemmas.List.{append_assoc, append-nil}
use Rattle.message_model.specs.MessageNamings.{message_namings}
use Rattle.message_model.specs.Messages.{Message, release}
use Rattle.uno_model.specs.Entities.{Entity}
use Rattle.uno_model.specs.Values.{Ref, null, own, peer, Plain}
use Rattle.table_model.specs.Stubs.{Stubs}
use Rattle.table_model.specs.declared.holder.Holder.{Holder}
use Rattle.table_model.specs.declared.holder.Holder.TheVariants as holder
use Rattle.bridge_model.specs.Objects.{defaults_of, makes_object, makes_default, makes_all}
use Rattle.bridge_model.specs.References.{counts_sent, says, releases, gains, gains_all, is_held, takes, takes_all, loses, loses_all, stays, gives_back, holds_ref, lets_go, lets_go_all, refs_of_values}
use Rattle.bridge_model.specs.Settings.{Setting, release_tid}
use Rattle.bridge_model.specs.Sides.{Tables}

-- ---- the relation

-- the stubs after these messages were sent
unfoldable pub stubs_after : List Entity → List Message → Stubs → Stubs
stubs_after reg [] stubs = stubs
stubs_after reg (m ∷ ms) stubs = stubs_after reg ms (counts_sent (message_namings reg m) stubs)

-- new messages stand behind the ones before, and the stubs count them
pub record Grown (reg : List Entity) (before after : List Message) (stubs stubs_now : Stubs) : Type 0 where
  pub new : List Message
  pub said : after ≡ before ++ new
  pub counted : stubs_now ≡ stubs_after reg new stubs

-- what tables become that say messages: objects, frames, holdings and roots are free
abbrev pub Grows : Setting → Tables → Tables → Type 0
Grows g t u = Grown g.registry t.unsaid u.unsaid t.stubs u.stubs

stubs_append : (reg : List Entity) (ms ns : List Message) (stubs : Stubs) → stubs_after reg (ms ++ ns) stubs ≡ stubs_after reg ns (stubs_after reg ms stubs)
unfolding stubs_after
stubs_append reg [] ns stubs = refl
stubs_append reg (m ∷ ms) ns stubs = stubs_append reg ms ns (counts_sent (message_namings reg m) stubs)

pub grown_same : (reg : List Entity) (ms : List Message) (stubs : Stubs) → Grown reg ms ms stubs stubs
unfolding stubs_after
grown_same reg ms stubs = record { new = []; said = sym (append-nil ms); counted = refl }

-- nothing is said
pub grows_same : (g : Setting) (t : Tables) → Grows g t t
grows_same g t = grown_same g.registry t.unsaid t.stubs

-- one after the other
pub two_more : (a b c new newer : List Message) → b ≡ a ++ new → c ≡ b ++ newer → c ≡ a ++ (new ++ newer)
two_more a b c new newer p q = rw (q, p, append_assoc) refl

two_counts : (reg : List Entity) (a b c : Stubs) (new newer : List Message) → b ≡ stubs_after reg new a → c ≡ stubs_after reg newer b → c ≡ stubs_after reg (new ++ newer) a
two_counts reg a b c new newer p q = q ∙ (ap (stubs_after reg newer) p ∙ sym (stubs_append reg new newer a))

pub grows_on : {reg : List Entity} {a b c : List Message} {x y z : Stubs} → Grown reg a b x y → Grown reg b c y z → Grown reg a c x z
grows_on {reg} {a} {b} {c} {x} {y} {z} first later =
    record {
      new = first.new ++ later.new;
      said = two_more a b c first.new later.new first.said later.said;
      counted = two_counts reg x y z first.new later.new first.counted later.counted;
    }

-- either way
pub grows_if : (g : Setting) (b : Bool) (t u v : Tables) → Grows g t u → Grows g t v → Grows g t (if b then u else v)
grows_if g true t u v p q = p
grows_if g false t u v p q = q

-- ---- sending

pub grows_says : (g : Setting) (m : Message) (t : Tables) → Grows g t (says g m t)
unfolding says stubs_after
grows_says g m t = record { new = m ∷ []; said = refl; counted = refl }

pub grows_releases : (g : Setting) (oid face : List ℕ) (t : Tables) → Grows g t (releases g oid face t)
grows_releases g oid face t = grows_says g (release (release_tid g) oid face) t

-- ---- holding

pub grows_gains : (g : Setting) (h : Holder) (r : Ref) (t : Tables) → Grows g t (gains h r t)
grows_gains g h null t = grows_same g t
grows_gains g h (own oid face) t = grows_same g t
grows_gains g h (peer oid face) t = grows_same g t

pub grows_gains_all : (g : Setting) (h : Holder) (rs : List Ref) (t : Tables) → Grows g t (gains_all h rs t)
unfolding gains_all
grows_gains_all g h [] t = grows_same g t
grows_gains_all g h (r ∷ rs) t = grows_on (grows_gains g h r t) (grows_gains_all g h rs (gains h r t))

-- ---- receiving

pub grows_takes : (g : Setting) (h : Holder) (r : Ref) (t : Tables) → Grows g t (takes g h r t)
grows_takes g h null t = grows_same g t
grows_takes g h (own oid face) t = grows_same g t
grows_takes g h (peer oid face) t =
    grows_if g (is_held oid face t) t (releases g oid face t) t (grows_releases g oid face t) (grows_same g t)

pub grows_takes_all : (g : Setting) (h : Holder) (rs : List Ref) (t : Tables) → Grows g t (takes_all g h rs t)
unfolding takes_all
grows_takes_all g h [] t = grows_same g t
grows_takes_all g h (r ∷ rs) t = grows_on (grows_takes g h r t) (grows_takes_all g h rs (takes g h r t))

-- ---- letting go

pub grows_loses : (g : Setting) (h : Holder) (r : Ref) (t : Tables) → Grows g t (loses h r t)
grows_loses g h null t = grows_same g t
grows_loses g h (own oid face) t = grows_same g t
grows_loses g h (peer oid face) t = grows_same g t

pub grows_loses_all : (g : Setting) (h : Holder) (rs : List Ref) (t : Tables) → Grows g t (loses_all h rs t)
unfolding loses_all
grows_loses_all g h [] t = grows_same g t
grows_loses_all g h (r ∷ rs) t = grows_on (grows_loses g h r t) (grows_loses_all g h rs (loses h r t))

pub grows_gives_back : (g : Setting) (r : Ref) (t : Tables) → Grows g t (gives_back g r t)
grows_gives_back g null t = grows_same g t
grows_gives_back g (own oid face) t = grows_same g t
grows_gives_back g (peer oid face) t =
    grows_if g (stays g oid face t) t t (releases g oid face t) (grows_same g t) (grows_releases g oid face t)

pub grows_lets_go : (g : Setting) (h : Holder) (r : Ref) (t : Tables) → Grows g t (lets_go g h r t)
grows_lets_go g h r t =
    grows_if g (holds_ref h r t) t (gives_back g r (loses h r t)) t
    (grows_on (grows_loses g h r t) (grows_gives_back g r (loses h r t)))
    (grows_same g t)

pub grows_lets_go_all : (g : Setting) (h : Holder) (rs : List Ref) (t : Tables) → Grows g t (lets_go_all g h rs t)
unfolding lets_go_all
grows_lets_go_all g h [] t = grows_same g t
grows_lets_go_all g h (r ∷ rs) t = grows_on (grows_lets_go g h r t) (grows_lets_go_all g h rs (lets_go g h r t))

-- ---- objects

pub grows_makes_object : (g : Setting) (behaviour : ℕ) (fields : List Plain) (t : Tables) → Grows g t (makes_object behaviour fields t)
unfolding makes_object
grows_makes_object g behaviour fields t =
    grows_gains_all
    g
    (holder.Object (suc t.objects_made))
    (refs_of_values fields)
    (record t { objects = t.objects ++ record { number = suc t.objects_made; behaviour = behaviour; fields = fields } ∷ []; objects_made = suc t.objects_made })

pub grows_makes_default : (g : Setting) (behaviour : ℕ) (t : Tables) → Grows g t (makes_default g behaviour t)
grows_makes_default g behaviour t = grows_makes_object g behaviour (defaults_of g behaviour) t

pub grows_makes_all : (g : Setting) (behaviours : List ℕ) (t : Tables) → Grows g t (makes_all g behaviours t)
unfolding makes_all
grows_makes_all g [] t = grows_same g t
grows_makes_all g (behaviour ∷ rest) t =
    grows_on (grows_makes_default g behaviour t) (grows_makes_all g rest (makes_default g behaviour t))

-- ---- quiet: where nothing is said

-- messages and stubs are as they were
pub record IsQuiet (before after : List Message) (stubs stubs_now : Stubs) : Type 0 where
  pub said : after ≡ before
  pub counted : stubs_now ≡ stubs

abbrev pub Keeps : Tables → Tables → Type 0
Keeps t u = IsQuiet t.unsaid u.unsaid t.stubs u.stubs

pub keeps_same : (t : Tables) → Keeps t t
keeps_same t = record { said = refl; counted = refl }

pub keeps_on : {a b c : List Message} {x y z : Stubs} → IsQuiet a b x y → IsQuiet b c y z → IsQuiet a c x z
keeps_on first later = record { said = later.said ∙ first.said; counted = later.counted ∙ first.counted }

pub keeps_gains : (h : Holder) (r : Ref) (t : Tables) → Keeps t (gains h r t)
keeps_gains h null t = keeps_same t
keeps_gains h (own oid face) t = keeps_same t
keeps_gains h (peer oid face) t = keeps_same t

pub keeps_gains_all : (h : Holder) (rs : List Ref) (t : Tables) → Keeps t (gains_all h rs t)
unfolding gains_all
keeps_gains_all h [] t = keeps_same t
keeps_gains_all h (r ∷ rs) t = keeps_on (keeps_gains h r t) (keeps_gains_all h rs (gains h r t))

pub keeps_makes_object : (behaviour : ℕ) (fields : List Plain) (t : Tables) → Keeps t (makes_object behaviour fields t)
unfolding makes_object
keeps_makes_object behaviour fields t =
    keeps_gains_all
    (holder.Object (suc t.objects_made))
    (refs_of_values fields)
    (record t { objects = t.objects ++ record { number = suc t.objects_made; behaviour = behaviour; fields = fields } ∷ []; objects_made = suc t.objects_made })

pub keeps_makes_all : (g : Setting) (behaviours : List ℕ) (t : Tables) → Keeps t (makes_all g behaviours t)
unfolding makes_all
keeps_makes_all g [] t = keeps_same t
keeps_makes_all g (behaviour ∷ rest) t =
    keeps_on (keeps_makes_object behaviour (defaults_of g behaviour) t) (keeps_makes_all g rest (makes_default g behaviour t))
