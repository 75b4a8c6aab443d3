-- What is assignable: by its test, from itself, and over two steps.
use Rattle.std.proofs.Common.{◌≡◌, ℕ, List, refl, sym, subst, ◌∙◌, inl, inr}
use Rattle.std.specs.Bool.{Decides}
use Rattle.std.specs.Prelude.{Contains}
use Rattle.uno_model.specs.Circles.{Leads, step, on, HasNoCircle}
use Rattle.uno_model.specs.Entities.{Entity}
use Rattle.uno_model.specs.Kinds.{Kind}
use Rattle.uno_model.specs.Kinds as kd
use Rattle.uno_model.specs.Reaches.{is_base_of, is_assignable}
use Rattle.uno_model.specs.Registry.{IsBaseOf, Assignable, leads_to, stands_on}
use Rattle.uno_model.proofs.CodeLaws.{same_kind_told}
use Rattle.uno_model.proofs.ReachesLaws.{reaches_bases}

pub base_told : (reg : List Entity) (to from : List ℕ) → HasNoCircle (leads_to reg) → Decides (is_base_of reg to from) (IsBaseOf reg to from)
unfolding is_base_of
base_told reg to from none = reaches_bases _ reg to from none refl

pub leads_on : {X : Type 0} (next : X → List X) (a b c : X) → Leads next a b → Leads next b c → Leads next a c
leads_on next a b c (step from to has) more = on from to c has more
leads_on next a b c (on from via to has rest) more = on from via c has (leads_on next via to c rest more)

-- a base of a base is a base
pub base_over_base : (reg : List Entity) (a b c : List ℕ) → IsBaseOf reg a b → IsBaseOf reg b c → IsBaseOf reg a c
base_over_base reg a b c (inl same) second = subst (λ n. IsBaseOf reg n c) same second
base_over_base reg a b c (inr way) (inl same) = subst (IsBaseOf reg a) (sym same) (inr way)
base_over_base reg a b c (inr way) (inr before) = inr (leads_on (stands_on reg) c b a before way)

pub assignable_told : (reg : List Entity) (to from : Kind) → HasNoCircle (leads_to reg) → Decides (is_assignable reg to from) (Assignable reg to from)
assignable_told reg (kd.interface to) (kd.interface from) none = base_told reg to from none
assignable_told reg (kd.interface to) from none = same_kind_told from (kd.interface to)
assignable_told reg (kd.struct to) (kd.struct from) none = base_told reg to from none
assignable_told reg (kd.struct to) from none = same_kind_told from (kd.struct to)
assignable_told reg (kd.exception to) (kd.exception from) none = base_told reg to from none
assignable_told reg (kd.exception to) from none = same_kind_told from (kd.exception to)
assignable_told reg to from none = same_kind_told from to

pub assignable_to_itself : (reg : List Entity) (k : Kind) → Assignable reg k k
assignable_to_itself reg (kd.interface name) = inl refl
assignable_to_itself reg (kd.struct name) = inl refl
assignable_to_itself reg (kd.exception name) = inl refl
assignable_to_itself reg k = refl

pub assignable_over : (reg : List Entity) (a b c : Kind) → Assignable reg a b → Assignable reg b c → Assignable reg a c
assignable_over reg (kd.interface a) (kd.interface b) (kd.interface c) first second = base_over_base reg a b c first second
assignable_over reg (kd.interface a) (kd.interface b) c first second = subst (Assignable reg (kd.interface a)) (sym second) first
assignable_over reg (kd.interface a) b c first second = subst (λ k. Assignable reg k c) first second
assignable_over reg (kd.struct a) (kd.struct b) (kd.struct c) first second = base_over_base reg a b c first second
assignable_over reg (kd.struct a) (kd.struct b) c first second = subst (Assignable reg (kd.struct a)) (sym second) first
assignable_over reg (kd.struct a) b c first second = subst (λ k. Assignable reg k c) first second
assignable_over reg (kd.exception a) (kd.exception b) (kd.exception c) first second = base_over_base reg a b c first second
assignable_over reg (kd.exception a) (kd.exception b) c first second = subst (Assignable reg (kd.exception a)) (sym second) first
assignable_over reg (kd.exception a) b c first second = subst (λ k. Assignable reg k c) first second
assignable_over reg a b c first second = subst (λ k. Assignable reg k c) first second
