-- Whether a value fits a type, by its test.
use Rattle.std.proofs.Common.{◌≡◌, ◌≢◌, ℕ, Bool, true, false, not, ◌&&◌, List, [], ◌∷◌, length, refl, arith}
use Rattle.std.specs.Bool.{Decides}
use Rattle.std.specs.Prelude.{IsTrue, nat_lt}
use Rattle.std.proofs.lemmas.Bool.Decides.{Decides-and, Decides-or, Decides-not, Decides-like, Decides-ltb}
use Rattle.uno_model.specs.Circles.{HasNoCircle}
use Rattle.uno_model.specs.Codes.{same_kind}
use Rattle.uno_model.specs.Entities.{Entity}
use Rattle.uno_model.specs.Fits.{IsIdentity, HeldFits, InterfaceFits, RefFits, IsTupleKind, Fits, FitEach, FitAll, member_kinds}
use Rattle.uno_model.specs.Fits.{is_identity, object_fits, interface_fits, ref_fits, is_tuple_kind, does_fit, do_fit_each, do_fit_all}
use Rattle.uno_model.specs.Kinds.{Kind}
use Rattle.uno_model.specs.Kinds as kd
use Rattle.uno_model.specs.Reaches.{is_base_of}
use Rattle.uno_model.specs.Registry.{IsBaseOf, leads_to}
use Rattle.uno_model.specs.Types.{is_type}
use Rattle.uno_model.specs.Values.{Ref, null, own, peer, Plain, Plains, void, char, boolean, byte, short, unsigned_short, long, unsigned_long}
use Rattle.uno_model.specs.Values.{hyper, unsigned_hyper, str, kind, any, enum, tuple, list, bytes, ref, none, more}
use Rattle.uno_model.proofs.AssignableLaws.{base_told}
use Rattle.uno_model.proofs.CodeLaws.{same_kind_told}

identity_told : (oid : List ℕ) → Decides (is_identity oid) (IsIdentity oid)
identity_told oid =
    Decides-like (is_identity oid) (λ x. record { some = x.0; bounded = omega (arith, x.1) }) (λ is. (is.some, omega (arith, is.bounded)))
    (Decides-and (nat_lt 0 (length oid)) (nat_lt (length oid) 4097) (Decides-ltb 0 (length oid)) (Decides-ltb (length oid) 4097))

itself : (t : Bool) → Decides t (IsTrue t)
itself t = (λ x. x, λ x. x)

-- two tests, and three or four of them
module _ {P Q : Type 0} where
  both : (p q : Bool) → Decides p P → Decides q Q → Decides (p && q) (P × Q)
  both p q first second = Decides-and p q first second

module _ {P Q R : Type 0} where
  all_three : (p q r : Bool) → Decides p P → Decides q Q → Decides r R → Decides (p && (q && r)) (P × Q × R)
  all_three p q r first second third =
      Decides-like (p && (q && r)) (λ x. (x.0, x.1.0, x.1.1)) (λ x. (x.0, (x.1, x.2))) (both p (q && r) first (both q r second third))

module _ {P Q R S : Type 0} where
  all_four : (p q r s : Bool) → Decides p P → Decides q Q → Decides r R → Decides s S → Decides (p && (q && (r && s))) (P × Q × R × S)
  all_four p q r s first second third fourth =
      Decides-like (p && (q && (r && s))) (λ x. (x.0, x.1.0, x.1.1, x.1.2)) (λ x. (x.0, (x.1, x.2, x.3))) (both p (q && (r && s)) first (all_three q r s second third fourth))

module _ (reg : List Entity) (no_circle : HasNoCircle (leads_to reg)) where
  object_told : (oid face wanted : List ℕ) → Decides (object_fits reg oid face wanted) (HeldFits reg oid face wanted)
  object_told oid face wanted =
      Decides-like (object_fits reg oid face wanted) (λ x. record { identity = x.0; held = x.1; reached = x.2 }) (λ is. (is.identity, is.held, is.reached))
      (all_three (is_identity oid) (is_type reg (kd.interface face)) (is_base_of reg wanted face) (identity_told oid) (itself (is_type reg (kd.interface face)))
      (base_told reg wanted face no_circle))

  interface_told : (wanted : List ℕ) (r : Ref) → Decides (interface_fits reg wanted r) (InterfaceFits reg wanted r)
  interface_told wanted null = itself (is_type reg (kd.interface wanted))
  interface_told wanted (own oid face) = object_told oid face wanted
  interface_told wanted (peer oid face) = object_told oid face wanted

  never : Decides false ⊥
  never = ((λ bad. absurd cc), (λ bad. absurd bad))

  ref_told : (k : Kind) (r : Ref) → Decides (ref_fits reg k r) (RefFits reg k r)
  ref_told (kd.interface wanted) r = interface_told wanted r
  ref_told k r = never

  tuple_told : (name : List ℕ) (k : Kind) → Decides (is_tuple_kind name k) (IsTupleKind name k)
  tuple_told name k = Decides-or (same_kind k (kd.struct name)) (same_kind k (kd.exception name)) (same_kind_told k (kd.struct name)) (same_kind_told k (kd.exception name))

  other_told : (k j : Kind) → Decides (not (same_kind k j)) (k ≢ j)
  other_told k j = Decides-not (same_kind k j) (same_kind_told k j)

  mutual
    unfolding Fits FitEach FitAll does_fit do_fit_each do_fit_all

    pub fit_told : (v : Plain) (k : Kind) → Decides (does_fit reg v k) (Fits reg v k)
    fit_told void k = same_kind_told k kd.void
    fit_told (char n) k = same_kind_told k kd.char
    fit_told (boolean b) k = same_kind_told k kd.boolean
    fit_told (byte n) k = same_kind_told k kd.byte
    fit_told (short n) k = same_kind_told k kd.short
    fit_told (unsigned_short n) k = same_kind_told k kd.unsigned_short
    fit_told (long n) k = same_kind_told k kd.long
    fit_told (unsigned_long n) k = same_kind_told k kd.unsigned_long
    fit_told (hyper n) k = same_kind_told k kd.hyper
    fit_told (unsigned_hyper n) k = same_kind_told k kd.unsigned_hyper
    fit_told (str s) k = same_kind_told k kd.str
    fit_told (kind t) k = both (same_kind k kd.kind) (is_type reg t) (same_kind_told k kd.kind) (itself (is_type reg t))
    fit_told (any t v) k =
        all_four (same_kind k kd.any) (not (same_kind t kd.any)) (is_type reg t) (does_fit reg v t) (same_kind_told k kd.any) (other_told t kd.any) (itself (is_type reg t)) (fit_told v t)
    fit_told (enum name n) k = both (same_kind k (kd.enum name)) (is_type reg k) (same_kind_told k (kd.enum name)) (itself (is_type reg k))
    fit_told (tuple name vs) k =
        all_three (is_tuple_kind name k) (is_type reg k) (do_fit_each reg vs (member_kinds reg name)) (tuple_told name k) (itself (is_type reg k)) (each_told vs (member_kinds reg name))
    fit_told (list t vs) k =
        all_four (same_kind k (kd.sequence t)) (not (same_kind t kd.byte)) (is_type reg k) (do_fit_all reg vs t) (same_kind_told k (kd.sequence t)) (other_told t kd.byte)
        (itself (is_type reg k)) (all_told vs t)
    fit_told (bytes b) k = same_kind_told k (kd.sequence kd.byte)
    fit_told (ref r) k = ref_told k r

    each_told : (vs : Plains) (ks : List Kind) → Decides (do_fit_each reg vs ks) (FitEach reg vs ks)
    each_told none [] = ((λ x. tt), (λ x. refl))
    each_told none (k ∷ ks) = never
    each_told (more v vs) [] = never
    each_told (more v vs) (k ∷ ks) = both (does_fit reg v k) (do_fit_each reg vs ks) (fit_told v k) (each_told vs ks)

    all_told : (vs : Plains) (k : Kind) → Decides (do_fit_all reg vs k) (FitAll reg vs k)
    all_told none k = ((λ x. tt), (λ x. refl))
    all_told (more v vs) k = both (does_fit reg v k) (do_fit_all reg vs k) (fit_told v k) (all_told vs k)
