-- The type of a class and a name is the only one.
use Rattle.std.proofs.Common.{◌≡◌, ℕ, Bool, true, false, ◌==◌, List, Option, None, Some, if◌then◌else◌, refl, ap, subst}
use Rattle.std.specs.Prelude.{MatchOption}
use Rattle.std.specs.List.{list_all}
use Rattle.std.proofs.lemmas.Bool.{eqb-true, eq-eqb}
use Rattle.uno_model.specs.Entities.{Entity}
use Rattle.uno_model.specs.Kinds.{Kind, name_of}
use Rattle.uno_model.specs.NamedTypes.{IsNamed, type_of_text}
use Rattle.uno_model.specs.Sound.{is_named}
use Rattle.uno_model.specs.TypeClasses.{class_code, class_of}
use Rattle.uno_model.specs.Types.{is_type}
use Rattle.uno_model.specs.declared.type_class.TypeClass.{TypeClass}
use Rattle.uno_model.proofs.Options.{same_some, none_some}
use Rattle.uno_model.proofs.TypeTextLaws.{Finds, text_finds, same_found, read_name}
use Rattle.urp_model.specs.NamedKinds.{of_class, kind_named}
use Rattle.urp_model.proofs.ClassLaws.{same_class}

-- what is named is a type of the registry, of that class and name
pub record IsOfClass (reg : List Entity) (c : TypeClass) (name : List ℕ) (k : Kind) : Type 0 where
  pub is : is_type reg k ≡ true
  pub class_is : class_of k ≡ c
  pub name_is : name_of k ≡ name

pub kind_named_gives : (reg : List Entity) (c : TypeClass) (name : List ℕ) (k : Kind) → list_all is_named reg ≡ true → kind_named reg c name ≡ Some k → IsOfClass reg c name k
unfolding kind_named
kind_named_gives reg c name k named = by_text (type_of_text reg name) (text_finds reg name named)
  where
    by_class : (j : Kind) → IsNamed reg name j → (t : Bool) → (class_code (class_of j) == class_code c) ≡ t → (if t then Some j else None) ≡ Some k → IsOfClass reg c name k
    by_class j found true same is = subst (IsOfClass reg c name) (same_some is) (record { is = found.is; class_is = same_class (class_of j) c (eqb-true _ _ same); name_is = found.named })
    by_class j found false other is = absurd (none_some is)

    by_text : (o : Option Kind) → Finds (IsNamed reg name) o → of_class c o ≡ Some k → IsOfClass reg c name k
    by_text None none is = absurd (none_some is)
    by_text (Some j) found is = by_class j found (class_code (class_of j) == class_code c) refl is

pub kind_named_back : (reg : List Entity) (k : Kind) → list_all is_named reg ≡ true → is_type reg k ≡ true → kind_named reg (class_of k) (name_of k) ≡ Some k
unfolding kind_named
kind_named_back reg k named is = rw (read_name reg k named is, eq-eqb (class_code (class_of k)) (class_code (class_of k)) refl) refl

-- what tells the type of a name tells, by its class, the one that is found
pub kind_told : (reg : List Entity) (c : TypeClass) (name : List ℕ) → list_all is_named reg ≡ true
    → (o : Option Kind) → MatchOption o ((k : Kind) → IsNamed reg name k → ⊥) (IsNamed reg name) → of_class c o ≡ kind_named reg c name
unfolding kind_named
kind_told reg c name named o tells = ap (of_class c) (same_found reg name o named tells)
