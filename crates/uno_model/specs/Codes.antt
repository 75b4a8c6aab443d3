-- A number tree for each type, from which the type can be read back: by it types are told apart.
use Rattle.std.specs.Prelude.{◌≡◌, refl, ℕ, zero, suc, Bool, true, false, ◌==◌, ◌&&◌, List, [], ◌∷◌, get_or}
use Rattle.uno_model.specs.Kinds.{Kind}
use Rattle.uno_model.specs.Kinds as kd
use base.Stored.{Gv, gnil, gnum, gcons, num, Coded}
use mathlib.Core.Path.{sym, ◌∙◌, ap}

-- the simple types, each at its number
abbrev simple_kinds : List Kind
simple_kinds =
    kd.void ∷ (kd.char ∷ (kd.boolean ∷ (kd.byte ∷ (kd.short ∷ (kd.unsigned_short ∷ (kd.long ∷ (kd.unsigned_long ∷ (kd.hyper ∷ (kd.unsigned_hyper
    ∷ (kd.str ∷ (kd.kind ∷ (kd.any ∷ []))))))))))))

-- a name, and what is read back of it
abbrev pub store_name : List ℕ → Gv
store_name [] = gnil
store_name (c ∷ cs) = gcons (gnum c) (store_name cs)

abbrev pub name_in : Gv → List ℕ
name_in gnil = []
name_in (gnum _) = []
name_in (gcons c cs) = num c ∷ name_in cs

pub name_back : (name : List ℕ) → name_in (store_name name) ≡ name
name_back [] = refl
name_back (c ∷ cs) = ap (λ rest. c ∷ rest) (name_back cs)

-- a number for a simple type, a tag and the part for the others
abbrev pub store_kind : Kind → Gv
store_kind kd.void = gnum 0
store_kind kd.char = gnum 1
store_kind kd.boolean = gnum 2
store_kind kd.byte = gnum 3
store_kind kd.short = gnum 4
store_kind kd.unsigned_short = gnum 5
store_kind kd.long = gnum 6
store_kind kd.unsigned_long = gnum 7
store_kind kd.hyper = gnum 8
store_kind kd.unsigned_hyper = gnum 9
store_kind kd.str = gnum 10
store_kind kd.kind = gnum 11
store_kind kd.any = gnum 12
store_kind (kd.enum name) = gcons (gnum 0) (store_name name)
store_kind (kd.struct name) = gcons (gnum 1) (store_name name)
store_kind (kd.exception name) = gcons (gnum 2) (store_name name)
store_kind (kd.interface name) = gcons (gnum 3) (store_name name)
store_kind (kd.sequence inner) = gcons (gnum 4) (store_kind inner)

-- the type with this tag, whose part is a name or a type
abbrev pub tagged_kind : ℕ → List ℕ → Kind → Kind
tagged_kind zero name inner = kd.enum name
tagged_kind (suc zero) name inner = kd.struct name
tagged_kind (suc (suc zero)) name inner = kd.exception name
tagged_kind (suc (suc (suc zero))) name inner = kd.interface name
tagged_kind (suc (suc (suc (suc n)))) name inner = kd.sequence inner

-- what is read back of a type
abbrev pub kind_in : Gv → Kind
kind_in gnil = kd.void
kind_in (gnum n) = get_or simple_kinds n kd.void
kind_in (gcons tag part) = tagged_kind (num tag) (name_in part) (kind_in part)

pub kind_back : (k : Kind) → kind_in (store_kind k) ≡ k
kind_back kd.void = refl
kind_back kd.char = refl
kind_back kd.boolean = refl
kind_back kd.byte = refl
kind_back kd.short = refl
kind_back kd.unsigned_short = refl
kind_back kd.long = refl
kind_back kd.unsigned_long = refl
kind_back kd.hyper = refl
kind_back kd.unsigned_hyper = refl
kind_back kd.str = refl
kind_back kd.kind = refl
kind_back kd.any = refl
kind_back (kd.enum name) = ap kd.enum (name_back name)
kind_back (kd.struct name) = ap kd.struct (name_back name)
kind_back (kd.exception name) = ap kd.exception (name_back name)
kind_back (kd.interface name) = ap kd.interface (name_back name)
kind_back (kd.sequence inner) = ap kd.sequence (kind_back inner)

-- the code of types, for a `Model` that keeps them
abbrev pub kind_code : Coded Kind
kind_code = record { code = store_kind; inj = λ x y p. sym (kind_back x) ∙ ap kind_in p ∙ kind_back y }

-- two types are one
abbrev pub same_tree : Gv → Gv → Bool
same_tree gnil gnil = true
same_tree (gnum n) (gnum m) = n == m
same_tree (gcons a b) (gcons c d) = same_tree a c && same_tree b d
same_tree _ _ = false

unfoldable pub same_kind : Kind → Kind → Bool
same_kind k j = same_tree (store_kind k) (store_kind j)
