-- What the rules ask of a type, asked of the class of what is kept in its place.
use Rattle.std.proofs.Common.{◌≡◌, refl, ap, ◌∙◌, ℤ, Option, None, Some}
use Rattle.idl_places.specs.Classes.{KeepsClasses, is_void_class, is_any_class, class_may_stand, is_in_class, has_value_in}
use Rattle.idl_rules_model.specs.ItemValues.{passes}
use Rattle.idl_rules_model.specs.TypePlaces.{Standing, is_any, kind_may_stand}
use Rattle.registry_reading_model.specs.Changes.{Change}
use Rattle.registry_text_model.specs.ConstantValues.{is_in_range}
use Rattle.registry_text_model.specs.OneWayMethods.{is_void}
use Rattle.uno_model.specs.Kinds.{Kind}
use Rattle.uno_model.specs.Kinds as kd
use Rattle.uno_model.specs.TypeClasses.{class_of}
use Rattle.uno_model.specs.declared.type_class.TypeClass.{TypeClass}

void_by_class : (k : Kind) → is_void_class (class_of k) ≡ is_void k
void_by_class kd.void = refl
void_by_class kd.char = refl
void_by_class kd.boolean = refl
void_by_class kd.byte = refl
void_by_class kd.short = refl
void_by_class kd.unsigned_short = refl
void_by_class kd.long = refl
void_by_class kd.unsigned_long = refl
void_by_class kd.hyper = refl
void_by_class kd.unsigned_hyper = refl
void_by_class kd.str = refl
void_by_class kd.kind = refl
void_by_class kd.any = refl
void_by_class (kd.enum name) = refl
void_by_class (kd.struct name) = refl
void_by_class (kd.exception name) = refl
void_by_class (kd.interface name) = refl
void_by_class (kd.sequence k) = refl

any_by_class : (k : Kind) → is_any_class (class_of k) ≡ is_any k
any_by_class kd.void = refl
any_by_class kd.char = refl
any_by_class kd.boolean = refl
any_by_class kd.byte = refl
any_by_class kd.short = refl
any_by_class kd.unsigned_short = refl
any_by_class kd.long = refl
any_by_class kd.unsigned_long = refl
any_by_class kd.hyper = refl
any_by_class kd.unsigned_hyper = refl
any_by_class kd.str = refl
any_by_class kd.kind = refl
any_by_class kd.any = refl
any_by_class (kd.enum name) = refl
any_by_class (kd.struct name) = refl
any_by_class (kd.exception name) = refl
any_by_class (kd.interface name) = refl
any_by_class (kd.sequence k) = refl

stand_by_class : (s : Standing) (k : Kind) → class_may_stand s (class_of k) ≡ kind_may_stand s k
stand_by_class s kd.void = refl
stand_by_class s kd.char = refl
stand_by_class s kd.boolean = refl
stand_by_class s kd.byte = refl
stand_by_class s kd.short = refl
stand_by_class s kd.unsigned_short = refl
stand_by_class s kd.long = refl
stand_by_class s kd.unsigned_long = refl
stand_by_class s kd.hyper = refl
stand_by_class s kd.unsigned_hyper = refl
stand_by_class s kd.str = refl
stand_by_class s kd.kind = refl
stand_by_class s kd.any = refl
stand_by_class s (kd.enum name) = refl
stand_by_class s (kd.struct name) = refl
stand_by_class s (kd.exception name) = refl
stand_by_class s (kd.interface name) = refl
stand_by_class s (kd.sequence k) = refl

range_by_class : (k : Kind) (n : ℤ) → is_in_class (class_of k) n ≡ is_in_range k n
range_by_class kd.void n = refl
range_by_class kd.char n = refl
range_by_class kd.boolean n = refl
range_by_class kd.byte n = refl
range_by_class kd.short n = refl
range_by_class kd.unsigned_short n = refl
range_by_class kd.long n = refl
range_by_class kd.unsigned_long n = refl
range_by_class kd.hyper n = refl
range_by_class kd.unsigned_hyper n = refl
range_by_class kd.str n = refl
range_by_class kd.kind n = refl
range_by_class kd.any n = refl
range_by_class (kd.enum name) n = refl
range_by_class (kd.struct name) n = refl
range_by_class (kd.exception name) n = refl
range_by_class (kd.interface name) n = refl
range_by_class (kd.sequence k) n = refl

-- ---- of a type that is kept as another of its class

pub void_kept : (c : Change) (k : Kind) → KeepsClasses c → is_void_class (class_of (c.kind k)) ≡ is_void k
void_kept c k keeps = ap is_void_class (keeps k) ∙ void_by_class k

pub any_kept : (c : Change) (k : Kind) → KeepsClasses c → is_any_class (class_of (c.kind k)) ≡ is_any k
any_kept c k keeps = ap is_any_class (keeps k) ∙ any_by_class k

pub stand_kept : (c : Change) (s : Standing) (k : Kind) → KeepsClasses c → class_may_stand s (class_of (c.kind k)) ≡ kind_may_stand s k
stand_kept c s k keeps = ap (class_may_stand s) (keeps k) ∙ stand_by_class s k

pub value_kept : (c : Change) (k : Kind) (v : Option ℤ) → KeepsClasses c → has_value_in (class_of (c.kind k)) v ≡ passes (is_in_range k) v
value_kept c k None keeps = refl
value_kept c k (Some n) keeps = ap (λ (x : TypeClass). is_in_class x n) (keeps k) ∙ range_by_class k n
