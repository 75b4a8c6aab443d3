-- The interface on which all others stand, before the other bases.
use Rattle.std.proofs.Common.{◌≡◌, refl, sym, ap, ◌∙◌, ℕ, Bool, true, false, not, ◌||◌, List, [], ◌∷◌, map, insert, cond, if◌then◌else◌}
use Rattle.std.specs.List.{list_any, filter}
use Rattle.idl_entities.proofs.FlagLemmas.{any_seen}
use Rattle.idl_meaning_model.specs.Meaning.{with_root}
use Rattle.uno_entities.specs.Entities.{base_of}
use Rattle.uno_entities.specs.declared.entity.Base.{Base}
use Rattle.uno_model.specs.BuiltIn.{x_interface_name}
use Rattle.uno_model.specs.Entities as uno
use Rattle.uno_model.specs.Registry.{mandatory_bases}
use Rattle.uno_model.specs.Sound.{is_some_list}

first_kept : {X Y : Type 0} (f : X → Y) (b : Bool) (x : X) (xs : List X) (rest : Bool) → is_some_list (map f xs) ≡ rest
    → is_some_list (map f (cond b (x ∷ xs) xs)) ≡ (b || rest)
first_kept f true x xs rest is = refl
first_kept f false x xs rest is = is

some_kept : {X Y : Type 0} (test : X → Bool) (f : X → Y) (xs : List X) → is_some_list (map f (filter test xs)) ≡ list_any test xs
some_kept test f [] = refl
some_kept test f (x ∷ xs) = first_kept f (test x) x (filter test xs) (list_any test xs) (some_kept test f xs)

abbrev is_needed : uno.Base → Bool
is_needed b = not b.optional

-- whether a base is not optional
some_needed : (bs : List Base) → is_some_list (mandatory_bases (map base_of bs)) ≡ list_any (λ b. not b.optional) bs
some_needed bs = some_kept is_needed (λ (b : uno.Base). b.name) (map base_of bs) ∙ sym (any_seen is_needed base_of bs)

-- a base of this name that is not optional
abbrev pub named_root : List ℕ → uno.Base
named_root name = record { optional = false; name = name }

abbrev pub root : uno.Base
root = named_root x_interface_name

is_needed_there : (bs seen : List Base) (some : Bool) → seen ≡ bs → some ≡ list_any (λ b. not b.optional) seen → is_some_list (mandatory_bases (map base_of bs)) ≡ some
is_needed_there bs seen some all is = some_needed bs ∙ ap (list_any (λ b. not b.optional)) (sym all) ∙ sym is

pub root_is_there : (bs seen : List Base) (some : Bool) → seen ≡ bs → some ≡ list_any (λ b. not b.optional) seen → some ≡ true → map base_of bs ≡ with_root (map base_of bs)
unfolding with_root
root_is_there bs seen some all is on =
    sym (ap (λ (b : Bool). if b then map base_of bs else root ∷ map base_of bs) (is_needed_there bs seen some all is ∙ on))

pub root_is_put : (bs seen new : List Base) (b : Base) (some : Bool) → seen ≡ bs → some ≡ list_any (λ b. not b.optional) seen → some ≡ false
    → base_of b ≡ root → new ≡ insert bs 0 b → map base_of new ≡ with_root (map base_of bs)
unfolding with_root
root_is_put bs seen new b some all is off first put =
    ap (map base_of) put ∙ ap (λ k. k ∷ map base_of bs) first
    ∙ sym (ap (λ (b : Bool). if b then map base_of bs else root ∷ map base_of bs) (is_needed_there bs seen some all is ∙ off))
