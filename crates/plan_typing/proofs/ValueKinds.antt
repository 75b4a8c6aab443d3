-- A value that fits the type of a variable fits each type that the variable fits.
use Rattle.std.proofs.Common.{◌≡◌, refl, sym, ℕ, Bool, true, false, List, [], ◌∷◌}
use Rattle.std.specs.Prelude.{IsTrue}
use mathlib.Core.Logic.{inl, inr, ◌⊎◌}
use mathlib.Core.Path.{subst}
use Rattle.uno_model.specs.Codes.{same_kind}
use Rattle.uno_model.specs.Entities.{Entity}
use Rattle.uno_model.specs.Fits.{Fits, FitEach, FitAll, InterfaceFits, HeldFits, IsInterface}
use Rattle.uno_model.specs.Kinds.{Kind}
use Rattle.uno_model.specs.Kinds as kd
use Rattle.uno_model.specs.Reaches.{is_base_of}
use Rattle.uno_model.specs.Registry.{IsBaseOf}
use Rattle.uno_model.specs.Sound.{IsSound}
use Rattle.uno_model.specs.Types.{is_type}
use Rattle.uno_model.specs.Values.{Ref, null, own, peer, Plain}
use Rattle.uno_model.specs.Values as v
use Rattle.uno_model.proofs.AssignableLaws.{base_told, base_over_base}
use Rattle.uno_model.proofs.CodeLaws.{same_kind_told}
use Rattle.plan_model.specs.Contexts.{kind_fits}

-- what fits an interface is a reference
pub record IsRefOf (reg : List Entity) (face : List ℕ) (x : Plain) : Type 0 where
  pub ref : Ref
  pub is : x ≡ v.ref ref
  pub fits : InterfaceFits reg face ref

pub interface_value : (reg : List Entity) (face : List ℕ) (x : Plain) → Fits reg x (kd.interface face) → IsRefOf reg face x
unfolding Fits
interface_value reg face v.void is = absurd (cc)
interface_value reg face (v.char n) is = absurd (cc)
interface_value reg face (v.boolean b) is = absurd (cc)
interface_value reg face (v.byte n) is = absurd (cc)
interface_value reg face (v.short n) is = absurd (cc)
interface_value reg face (v.unsigned_short n) is = absurd (cc)
interface_value reg face (v.long n) is = absurd (cc)
interface_value reg face (v.unsigned_long n) is = absurd (cc)
interface_value reg face (v.hyper n) is = absurd (cc)
interface_value reg face (v.unsigned_hyper n) is = absurd (cc)
interface_value reg face (v.str s) is = absurd (cc)
interface_value reg face (v.kind t) is = let e = is.0 in absurd (cc)
interface_value reg face (v.any t x) is = let e = is.0 in absurd (cc)
interface_value reg face (v.enum name n) is = let e = is.0 in absurd (cc)
interface_value reg face (v.tuple name xs) is = no_tuple is.0
  where
    no_tuple : ((kd.interface face ≡ kd.struct name) ⊎ (kd.interface face ≡ kd.exception name)) → IsRefOf reg face (v.tuple name xs)
    no_tuple (inl e) = absurd (cc)
    no_tuple (inr e) = absurd (cc)
interface_value reg face (v.list t xs) is = let e = is.0 in absurd (cc)
interface_value reg face (v.bytes b) is = absurd (cc)
interface_value reg face (v.ref r) is = record { ref = r; is = refl; fits = is }

-- an object that is held under one interface fits each base of it
held_wider : (reg : List Entity) (oid face from wanted : List ℕ) → IsBaseOf reg wanted from → HeldFits reg oid face from → HeldFits reg oid face wanted
held_wider reg oid face from wanted base is = record { identity = is.identity; held = is.held; reached = base_over_base reg wanted from face base is.reached }

ref_wider : (reg : List Entity) (from wanted : List ℕ) (r : Ref) → IsInterface reg wanted → IsBaseOf reg wanted from → InterfaceFits reg from r → InterfaceFits reg wanted r
ref_wider reg from wanted null there base is = there
ref_wider reg from wanted (own oid face) there base is = held_wider reg oid face from wanted base is
ref_wider reg from wanted (peer oid face) there base is = held_wider reg oid face from wanted base is

interface_wider : (reg : List Entity) → IsSound reg → (x : Plain) (from wanted : List ℕ) → IsInterface reg wanted → IsTrue (is_base_of reg wanted from)
    → Fits reg x (kd.interface from) → Fits reg x (kd.interface wanted)
unfolding Fits
interface_wider reg sound x from wanted there base is =
    let value = interface_value reg from x is in
    let wider : Fits reg (v.ref value.ref) (kd.interface wanted) =
    ref_wider reg from wanted value.ref there ((base_told reg wanted from sound.no_circle).0 base) value.fits
    in
    subst (λ y. Fits reg y (kd.interface wanted)) (sym value.is) wider

same_fits : (reg : List Entity) (x : Plain) (from k : Kind) → IsTrue (same_kind k from) → Fits reg x from → Fits reg x k
same_fits reg x from k same is = subst (λ j. Fits reg x j) (sym ((same_kind_told k from).0 same)) is

-- what fits the type of a variable fits the type that the variable fits
pub fits_wider : (reg : List Entity) → IsSound reg → (x : Plain) (k from : Kind) → IsTrue (is_type reg k) → IsTrue (kind_fits reg k from) → Fits reg x from → Fits reg x k
fits_wider reg sound x (kd.interface wanted) (kd.interface from) there fits is = interface_wider reg sound x from wanted there fits is
fits_wider reg sound x k from there fits is = same_fits reg x from k fits is
