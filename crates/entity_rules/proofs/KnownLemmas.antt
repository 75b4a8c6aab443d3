-- The name in a type is that of the one below all its sequences.
use Rattle.std.proofs.Common.{◌≡◌, Bool, true, List, Option, None, Some, refl, sym, ◌∙◌, arith}
use Rattle.uno_model.specs.Entities.{Entity}
use Rattle.uno_model.specs.Kinds.{Kind}
use Rattle.uno_model.specs.Kinds as kd
use Rattle.uno_model.specs.Sound.{kind_known, is_there}
use Rattle.uno_entities.specs.TypeNames.{innermost, front_of}
use Rattle.entity_rules.specs.Wanted.{is_wanted, kind_wanted}
use Rattle.entity_rules.specs.declared.there.Wanted.{Wanted}

-- a type is known by its own name
known_here : Option Wanted → List Entity → Kind → Bool
known_here None reg k = true
known_here (Some wanted) reg k = is_there reg (is_wanted wanted) (front_of k)

known_innermost : (reg : List Entity) (k : Kind) → known_here (kind_wanted (innermost k)) reg (innermost k) ≡ kind_known reg k
unfolding known_here
known_innermost reg (kd.sequence k) = known_innermost reg k
known_innermost reg kd.void = refl
known_innermost reg kd.char = refl
known_innermost reg kd.boolean = refl
known_innermost reg kd.byte = refl
known_innermost reg kd.short = refl
known_innermost reg kd.unsigned_short = refl
known_innermost reg kd.long = refl
known_innermost reg kd.unsigned_long = refl
known_innermost reg kd.hyper = refl
known_innermost reg kd.unsigned_hyper = refl
known_innermost reg kd.str = refl
known_innermost reg kd.kind = refl
known_innermost reg kd.any = refl
known_innermost reg (kd.enum name) = refl
known_innermost reg (kd.struct name) = refl
known_innermost reg (kd.exception name) = refl
known_innermost reg (kd.interface name) = refl

-- where the innermost type names nothing, and where it names an entity of a kind
pub none_named : (reg : List Entity) (k inner : Kind) → inner ≡ innermost k → kind_wanted inner ≡ None → true ≡ kind_known reg k
unfolding known_here
none_named reg k inner is none = rw (← is, none) at (known_innermost reg k)

pub one_named : (reg : List Entity) (k inner : Kind) (wanted : Wanted) → inner ≡ innermost k → kind_wanted inner ≡ Some wanted
    → is_there reg (is_wanted wanted) (front_of inner) ≡ kind_known reg k
unfolding known_here
one_named reg k inner wanted is one = rw (← is, one) at (known_innermost reg k)
