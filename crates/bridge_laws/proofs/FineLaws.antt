-- References that are fine, by what they are; and supporting an interface is supporting its bases.
use Rattle.std.proofs.Common.{◌≡◌, ℕ, Bool, true, false, not, ◌&&◌, ◌||◌, nat_lt, List, [], ◌∷◌, length, refl, ap, arith}
use Rattle.std.specs.List.{list_any}
use Rattle.std.proofs.lemmas.Bool.{and_parts, and_from, ltb-true, lt-ltb}
use Rattle.uno_model.specs.Entities.{Entity}
use Rattle.uno_model.specs.Fits.{IsIdentity, IsInterface, is_identity}
use Rattle.uno_model.specs.Kinds as kd
use Rattle.uno_model.specs.Reaches.{is_base_of}
use Rattle.uno_model.specs.Registry.{IsBaseOf}
use Rattle.uno_model.specs.Sound.{IsSound}
use Rattle.uno_model.specs.Types.{is_type}
use Rattle.uno_model.specs.Values.{own, peer}
use Rattle.uno_model.proofs.AssignableLaws.{base_told, base_over_base}
use Rattle.plan_model.specs.Plans.{supports}
use Rattle.bridge_model.specs.Objects.{object_supports, object_named, faces_at}
use Rattle.bridge_model.specs.Settings.{Setting, is_own}
use Rattle.bridge_model.specs.Sides.{Object}
use Rattle.bridge_laws.specs.Counting.{one_if}
use Rattle.bridge_laws.proofs.Fine.{is_well, is_fine_own, is_fine_peer, wrong}

identity_is : (oid : List ℕ) → is_identity oid ≡ true → IsIdentity oid
identity_is oid is = let parts = and_parts (nat_lt 0 (length oid)) (nat_lt (length oid) 4097) is in
    let some = ltb-true 0 (length oid) parts.0 in let most = ltb-true (length oid) 4097 parts.1 in record { some = omega arith; bounded = omega arith }

is_identity_of : (oid : List ℕ) → IsIdentity oid → is_identity oid ≡ true
is_identity_of oid is = let some = is.some in let most = is.bounded in
    and_from (nat_lt 0 (length oid)) (nat_lt (length oid) 4097) (lt-ltb 0 (length oid) (omega arith)) (lt-ltb (length oid) 4097 (omega arith))

pub well_is : (reg : List Entity) (oid face : List ℕ) → is_well reg oid face ≡ true → IsIdentity oid × IsInterface reg face
unfolding is_well
well_is reg oid face is = let parts = and_parts (is_identity oid) (is_type reg (kd.interface face)) is in (identity_is oid parts.0, parts.1)

pub is_well_of : (reg : List Entity) (oid face : List ℕ) → IsIdentity oid → IsInterface reg face → is_well reg oid face ≡ true
unfolding is_well
is_well_of reg oid face identity there = and_from (is_identity oid) (is_type reg (kd.interface face)) (is_identity_of oid identity) there

-- ---- what fine references are

none_not : (b : Bool) → one_if (not b) ≡ 0 → b ≡ true
none_not true is = refl
none_not false is = absurd (omega arith)

not_none : (b : Bool) → b ≡ true → one_if (not b) ≡ 0
not_none true is = refl
not_none false is = absurd (cc)

not_true : (b : Bool) → not b ≡ true → b ≡ false
not_true true is = absurd (cc)
not_true false is = refl

pub record OwnFine (g : Setting) (os : List Object) (oid face : List ℕ) : Type 0 where
  pub told : is_own g oid ≡ true
  pub identity : IsIdentity oid
  pub interface : IsInterface g.registry face
  pub supported : object_supports g oid face os ≡ true

pub record PeerFine (g : Setting) (oid face : List ℕ) : Type 0 where
  pub told : is_own g oid ≡ false
  pub identity : IsIdentity oid
  pub interface : IsInterface g.registry face

pub own_tested : (g : Setting) (os : List Object) (oid face : List ℕ) → is_fine_own g os oid face ≡ true → OwnFine g os oid face
unfolding is_fine_own
own_tested g os oid face is =
    let parts = and_parts (is_own g oid) (is_well g.registry oid face && object_supports g oid face os) is in
    let more = and_parts (is_well g.registry oid face) (object_supports g oid face os) parts.1 in
    let well = well_is g.registry oid face more.0 in
    record { told = parts.0; identity = well.0; interface = well.1; supported = more.1 }

pub own_fine : (g : Setting) (os : List Object) (oid face : List ℕ) → wrong g os (own oid face) ≡ 0 → OwnFine g os oid face
unfolding wrong
own_fine g os oid face none = own_tested g os oid face (none_not (is_fine_own g os oid face) none)

pub tested_own : (g : Setting) (os : List Object) (oid face : List ℕ) → OwnFine g os oid face → is_fine_own g os oid face ≡ true
unfolding is_fine_own
tested_own g os oid face fine =
    and_from (is_own g oid) (is_well g.registry oid face && object_supports g oid face os) fine.told
    (and_from (is_well g.registry oid face) (object_supports g oid face os) (is_well_of g.registry oid face fine.identity fine.interface) fine.supported)

pub fine_own : (g : Setting) (os : List Object) (oid face : List ℕ) → OwnFine g os oid face → wrong g os (own oid face) ≡ 0
unfolding wrong
fine_own g os oid face fine = not_none (is_fine_own g os oid face) (tested_own g os oid face fine)

pub peer_tested : (g : Setting) (oid face : List ℕ) → is_fine_peer g oid face ≡ true → PeerFine g oid face
unfolding is_fine_peer
peer_tested g oid face is =
    let parts = and_parts (not (is_own g oid)) (is_well g.registry oid face) is in
    let well = well_is g.registry oid face parts.1 in
    record { told = not_true (is_own g oid) parts.0; identity = well.0; interface = well.1 }

pub peer_fine : (g : Setting) (os : List Object) (oid face : List ℕ) → wrong g os (peer oid face) ≡ 0 → PeerFine g oid face
unfolding wrong
peer_fine g os oid face none = peer_tested g oid face (none_not (is_fine_peer g oid face) none)

pub tested_peer : (g : Setting) (oid face : List ℕ) → PeerFine g oid face → is_fine_peer g oid face ≡ true
unfolding is_fine_peer
tested_peer g oid face fine =
    and_from (not (is_own g oid)) (is_well g.registry oid face) (ap not fine.told) (is_well_of g.registry oid face fine.identity fine.interface)

pub fine_peer : (g : Setting) (os : List Object) (oid face : List ℕ) → PeerFine g oid face → wrong g os (peer oid face) ≡ 0
unfolding wrong
fine_peer g os oid face fine = not_none (is_fine_peer g oid face) (tested_peer g oid face fine)

-- ---- interfaces that are supported

-- a base of what one of the faces has
any_wider : (p q : List ℕ → Bool) → ((face : List ℕ) → p face ≡ true → q face ≡ true) → (faces : List (List ℕ)) → list_any p faces ≡ true → list_any q faces ≡ true
any_wider p q wider [] is = is
any_wider p q wider (face ∷ faces) is = step (p face) (list_any p faces) (q face) (list_any q faces) (wider face) (any_wider p q wider faces) is
  where
    step : (a rest b more : Bool) → (a ≡ true → b ≡ true) → (rest ≡ true → more ≡ true) → (a || rest) ≡ true → (b || more) ≡ true
    step true rest b more here behind is = let one = here refl in rw one refl
    step false rest true more here behind is = refl
    step false rest false more here behind is = behind is

pub supports_base : (reg : List Entity) → IsSound reg → (faces : List (List ℕ)) (wanted face : List ℕ) → IsBaseOf reg wanted face → supports reg faces face ≡ true
    → supports reg faces wanted ≡ true
unfolding supports
supports_base reg sound faces wanted face base is =
    any_wider (is_base_of reg face) (is_base_of reg wanted)
    (λ own way. (base_told reg wanted own sound.no_circle).1 (base_over_base reg wanted face own base ((base_told reg face own sound.no_circle).0 way)))
    faces is

pub object_supports_base : (g : Setting) → IsSound g.registry → (os : List Object) (oid wanted face : List ℕ) → IsBaseOf g.registry wanted face
    → object_supports g oid face os ≡ true → object_supports g oid wanted os ≡ true
unfolding object_supports
object_supports_base g sound os oid wanted face base is = supports_base g.registry sound (faces_at g (object_named g oid os)) wanted face base is
