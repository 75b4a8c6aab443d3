-- The names of the simple types, one by one.
use Rattle.std.proofs.Common.{◌≡◌, ℕ, List, Some, refl, sym, ap, ◌∙◌, codes}
use Rattle.uno_entities.specs.TypeNames.{kind_of, kind_step}
use Rattle.uno_entities.specs.declared.type_name.TypeName.{TypeName}
use Rattle.uno_entities.specs.declared.type_name.TypeName.TheFolds.{fold-roll-TypeName}
use Rattle.uno_entities.specs.declared.type_name.TypeName.TheVariants as type
use Rattle.uno_model.specs.Kinds.{Kind}
use Rattle.uno_model.specs.Kinds as kd
use Rattle.uno_model.specs.NamedTypes.{simple_of}

told : (t : TypeName) (k : Kind) (text word : List ℕ) → kind_of t ≡ k → text ≡ word → simple_of word ≡ Some k → Some (kind_of t) ≡ simple_of text
told t k text word is at named = ap Some is ∙ sym (ap simple_of at ∙ named)

pub void_named : (text : List ℕ) → text ≡ codes "void" → Some (kind_of type.Void) ≡ simple_of text
unfolding simple_of
void_named text is = told type.Void kd.void text (codes "void") (ap kind_of (sym type.rolls-Void) ∙ fold-roll-TypeName Kind kind_step _) is refl

pub char_named : (text : List ℕ) → text ≡ codes "char" → Some (kind_of type.Char) ≡ simple_of text
unfolding simple_of
char_named text is = told type.Char kd.char text (codes "char") (ap kind_of (sym type.rolls-Char) ∙ fold-roll-TypeName Kind kind_step _) is refl

pub boolean_named : (text : List ℕ) → text ≡ codes "boolean" → Some (kind_of type.Boolean) ≡ simple_of text
unfolding simple_of
boolean_named text is = told type.Boolean kd.boolean text (codes "boolean") (ap kind_of (sym type.rolls-Boolean) ∙ fold-roll-TypeName Kind kind_step _) is refl

pub byte_named : (text : List ℕ) → text ≡ codes "byte" → Some (kind_of type.Byte) ≡ simple_of text
unfolding simple_of
byte_named text is = told type.Byte kd.byte text (codes "byte") (ap kind_of (sym type.rolls-Byte) ∙ fold-roll-TypeName Kind kind_step _) is refl

pub short_named : (text : List ℕ) → text ≡ codes "short" → Some (kind_of type.Short) ≡ simple_of text
unfolding simple_of
short_named text is = told type.Short kd.short text (codes "short") (ap kind_of (sym type.rolls-Short) ∙ fold-roll-TypeName Kind kind_step _) is refl

pub unsigned_short_named : (text : List ℕ) → text ≡ codes "unsigned short" → Some (kind_of type.UnsignedShort) ≡ simple_of text
unfolding simple_of
unsigned_short_named text is = told type.UnsignedShort kd.unsigned_short text (codes "unsigned short") (ap kind_of (sym type.rolls-UnsignedShort) ∙ fold-roll-TypeName Kind kind_step _) is refl

pub long_named : (text : List ℕ) → text ≡ codes "long" → Some (kind_of type.Long) ≡ simple_of text
unfolding simple_of
long_named text is = told type.Long kd.long text (codes "long") (ap kind_of (sym type.rolls-Long) ∙ fold-roll-TypeName Kind kind_step _) is refl

pub unsigned_long_named : (text : List ℕ) → text ≡ codes "unsigned long" → Some (kind_of type.UnsignedLong) ≡ simple_of text
unfolding simple_of
unsigned_long_named text is = told type.UnsignedLong kd.unsigned_long text (codes "unsigned long") (ap kind_of (sym type.rolls-UnsignedLong) ∙ fold-roll-TypeName Kind kind_step _) is refl

pub hyper_named : (text : List ℕ) → text ≡ codes "hyper" → Some (kind_of type.Hyper) ≡ simple_of text
unfolding simple_of
hyper_named text is = told type.Hyper kd.hyper text (codes "hyper") (ap kind_of (sym type.rolls-Hyper) ∙ fold-roll-TypeName Kind kind_step _) is refl

pub unsigned_hyper_named : (text : List ℕ) → text ≡ codes "unsigned hyper" → Some (kind_of type.UnsignedHyper) ≡ simple_of text
unfolding simple_of
unsigned_hyper_named text is = told type.UnsignedHyper kd.unsigned_hyper text (codes "unsigned hyper") (ap kind_of (sym type.rolls-UnsignedHyper) ∙ fold-roll-TypeName Kind kind_step _) is refl

pub str_named : (text : List ℕ) → text ≡ codes "string" → Some (kind_of type.Str) ≡ simple_of text
unfolding simple_of
str_named text is = told type.Str kd.str text (codes "string") (ap kind_of (sym type.rolls-Str) ∙ fold-roll-TypeName Kind kind_step _) is refl

pub type_named : (text : List ℕ) → text ≡ codes "type" → Some (kind_of type.Kind) ≡ simple_of text
unfolding simple_of
type_named text is = told type.Kind kd.kind text (codes "type") (ap kind_of (sym type.rolls-Kind) ∙ fold-roll-TypeName Kind kind_step _) is refl

pub any_named : (text : List ℕ) → text ≡ codes "any" → Some (kind_of type.Any) ≡ simple_of text
unfolding simple_of
any_named text is = told type.Any kd.any text (codes "any") (ap kind_of (sym type.rolls-Any) ∙ fold-roll-TypeName Kind kind_step _) is refl
