-- The functions of an interface: those of its bases are among them, the root's three come first, and what is no interface has none.
use Rattle.std.proofs.Common.{◌≡◌, ℕ, zero, suc, Bool, true, false, List, [], ◌∷◌, ◌++◌, length, map, Option, None, Some, refl, sym, ap, subst, ◌∙◌, ◌||◌, ◌⊎◌, inl, inr, arith, append_assoc, append-nil}
use Rattle.std.specs.Prelude.{Contains}
use Rattle.std.specs.List.{flat_map, list_all}
use Rattle.std.proofs.lemmas.Bool.{and_parts}
use Rattle.std.proofs.lemmas.List.Folds.{list_all-map}
use Rattle.std.proofs.lemmas.List.Concat.{flat_map-append}
use Rattle.std.proofs.lemmas.List.Elements.{Contains-append_left, Contains-append_right, Contains-append_cases}
use Rattle.std.proofs.lemmas.Slice.Eq.{bytes_eq-Decides}
use Rattle.std.specs.Str.{bytes_eq}
use Rattle.uno_model.specs.BuiltIn.{x_interface, x_interface_name}
use Rattle.uno_model.specs.Circles.{Leads, step, on, HasNoCircle, ends_within}
use Rattle.uno_model.specs.Entities.{Entity, Body, Base, Member, interface, struct, exception}
use Rattle.uno_model.specs.Functions.{Function, declared_by, declared_in, is_met, visit_all, met_within, visit, interfaces_of, functions_of, root_functions}
use Rattle.uno_model.specs.Registry.{find_entity, mandatory_bases, at_most_one, stands_on, stands_on_body, leads_to, IsBaseOf}
use Rattle.uno_model.specs.Sound.{IsSound, is_there, is_interface, is_struct, is_exception, bases_known, is_complete, is_some_list}
use Rattle.uno_model.proofs.CircleLaws.{none_ends_at_once, next_ends, all_at}
use Rattle.uno_model.proofs.UsedKindLaws.{found_entity}
use Rattle.uno_model.proofs.PlaceLaws.{contains_cases, contains_head, contains_behind}
use Rattle.uno_model.proofs.ReachesLaws.{required_named, base_of_base, bases_end}
use Rattle.uno_model.proofs.VisitLaws.{Extends, extends_on, visit_is, all_extend, met_extends, interfaces_are_bases, bases_are_interfaces}

-- ---- what lists of lists contain

in_one_of : {X Y : Type 0} (f : X → List Y) (xs : List X) (y : Y) → Contains (flat_map f xs) y → (x : X) × Contains xs x × Contains (f x) y
in_one_of f [] y has = absurd (omega (arith, has.1))
in_one_of f (x ∷ xs) y has = elim (Contains-append_cases (f x) (flat_map f xs) y has) [
  | inl here ↦ (x, contains_head x xs, here)
  | inr behind ↦ let one = in_one_of f xs y behind in (one.0, contains_behind x xs one.0 one.1, one.2)
]

in_all : {X Y : Type 0} (f : X → List Y) (xs : List X) (x : X) (y : Y) → Contains xs x → Contains (f x) y → Contains (flat_map f xs) y
in_all f [] x y has in' = absurd (omega (arith, has.1))
in_all f (z ∷ zs) x y has in' = elim (contains_cases z zs x has) [
  | inl here ↦ Contains-append_left (f z) (flat_map f zs) y (subst (λ w. Contains (f w) y) (sym here) in')
  | inr behind ↦ Contains-append_right (f z) (flat_map f zs) y (in_all f zs x y behind in')
]

nothing_of_each : {X Y : Type 0} (f : X → List Y) (xs : List X) → ((x : X) → Contains xs x → f x ≡ []) → flat_map f xs ≡ []
nothing_of_each f [] each = refl
nothing_of_each f (x ∷ xs) each = rw (each x (contains_head x xs)) (nothing_of_each f xs (λ y has. each y (contains_behind x xs y has)))

-- ---- the functions of a base

-- what the interface of a name declares itself
abbrev declared_at : List Entity → List ℕ → List Function
declared_at reg owner = declared_by owner (find_entity owner reg)

-- over any number of bases
pub functions_of_base : (reg : List Entity) (name base : List ℕ) (f : Function) → HasNoCircle (leads_to reg) → IsBaseOf reg base name
    → Contains (functions_of reg base) f → Contains (functions_of reg name) f
functions_of_base reg name base f none is has =
    let one = in_one_of (declared_at reg) (interfaces_of reg base) f has in
    let below = from_base one.0 is (interfaces_are_bases reg base one.0 one.1) in
    in_all (declared_at reg) (interfaces_of reg name) one.0 f (bases_are_interfaces reg name one.0 none below) one.2
  where
    led_on : (a b c : List ℕ) → Leads (stands_on reg) a b → Leads (stands_on reg) b c → Leads (stands_on reg) a c
    led_on a b c (step from to way) more = on from to c way more
    led_on a b c (on from next to way further) more = on from next c way (led_on next to c further more)

    from_base : (n : List ℕ) → IsBaseOf reg base name → IsBaseOf reg n base → IsBaseOf reg n name
    from_base n (inl same) more = subst (IsBaseOf reg n) (sym same) more
    from_base n (inr way) (inl same) = inr (subst (Leads (stands_on reg) name) same way)
    from_base n (inr way) (inr more) = inr (led_on name base n way more)

-- the interfaces of the first base come first
first_interfaces : (reg : List Entity) (name first : List ℕ) (others : List (List ℕ)) → HasNoCircle (leads_to reg) → stands_on reg name ≡ first ∷ others
    → Extends (interfaces_of reg first) (interfaces_of reg name)
unfolding is_met visit_all
first_interfaces reg name first others none are =
    let all = all_extend (visit reg) others (λ m n. met_extends (suc (length reg)) reg m n) (interfaces_of reg first) in
    let whole : interfaces_of reg name ≡ visit_all (visit reg) [] (stands_on reg name) ++ name ∷ [] = visit_is reg [] name none in
    let bases : visit_all (visit reg) [] (stands_on reg name) ≡ interfaces_of reg first ++ all.0 = ap (visit_all (visit reg) []) are ∙ all.1 in
    (all.0 ++ name ∷ [], whole ∙ ap (λ l. l ++ name ∷ []) bases ∙ append_assoc (interfaces_of reg first) all.0 (name ∷ []))

-- and so do its functions
pub first_base_first : (reg : List Entity) (name first : List ℕ) (others : List (List ℕ)) → HasNoCircle (leads_to reg) → stands_on reg name ≡ first ∷ others
    → Extends (functions_of reg first) (functions_of reg name)
first_base_first reg name first others none are =
    let more = first_interfaces reg name first others none are in
    (flat_map (declared_at reg) more.0, ap (flat_map (declared_at reg)) more.1 ∙ flat_map-append (declared_at reg) (interfaces_of reg first) more.0)

-- ---- the root

-- the name is the root's, or its first base is an interface too
abbrev RootOrBase : List Entity → List ℕ → Type 0
RootOrBase reg name = (name ≡ x_interface_name) ⊎ ((first : List ℕ) × (others : List (List ℕ)) × (stands_on reg name ≡ first ∷ others) × (is_there reg is_interface first ≡ true))

-- a fact of all bases holds of the first that is required
required_there : (test : List ℕ → Bool) (bases : List Base) (first : List ℕ) (others : List (List ℕ)) → list_all (λ b. test b.name) bases ≡ true
    → mandatory_bases bases ≡ first ∷ others → test first ≡ true
required_there test bases first others all are =
    let named = required_named bases first (subst (λ ns. Contains ns first) (sym are) (contains_head first others)) in
    all_at test (map (λ b. b.name) bases) first (list_all-map test (λ b. b.name) bases ∙ all) named

of_root : (name : List ℕ) (names : List (List ℕ)) → (bytes_eq name x_interface_name || is_some_list names) ≡ true
    → (name ≡ x_interface_name) ⊎ ((first : List ℕ) × (others : List (List ℕ)) × (names ≡ first ∷ others))
of_root name [] has = inl ((bytes_eq-Decides name x_interface_name).0 (one_of (bytes_eq name x_interface_name) has))
  where
    one_of : (b : Bool) → (b || false) ≡ true → b ≡ true
    one_of true e = refl
    one_of false e = e
of_root name (first ∷ others) has = inr (first, others, refl)

-- an interface keeps the rule that it has a base, or is the root
has_root : (e : Entity) (bases : List Base) (members : List Member) → e.body ≡ interface bases members → is_complete e ≡ true
    → (bytes_eq e.name x_interface_name || is_some_list (mandatory_bases bases)) ≡ true
has_root e bases members is complete = sym (ap (λ b. is_complete (record { name = e.name; published = e.published; body = b })) is) ∙ complete

interface_of : (body : Body) → is_interface body ≡ true → (bases : List Base) × (members : List Member) × (body ≡ interface bases members)
interface_of (interface bases members) is = (bases, members, refl)
interface_of body is = let bad : false ≡ true = is in cc

found_interface : (reg : List Entity) (name : List ℕ) (o : Option Entity) → find_entity name reg ≡ o → is_there reg is_interface name ≡ true
    → (e : Entity) × (find_entity name reg ≡ Some e) × (is_interface e.body ≡ true)
found_interface reg name None is there = let bad : false ≡ true = sym (told is) ∙ there in cc
  where
    told : find_entity name reg ≡ None → is_there reg is_interface name ≡ false
    told e = rw e refl
found_interface reg name (Some e) is there = (e, is, sym (told is) ∙ there)
  where
    told : find_entity name reg ≡ Some e → is_there reg is_interface name ≡ is_interface e.body
    told found = rw found refl

-- what is there with an interface's body
interface_there : (reg : List Entity) (name : List ℕ) (e : Entity) → IsSound reg → find_entity name reg ≡ Some e → is_interface e.body ≡ true → RootOrBase reg name
interface_there reg name e sound found is =
    let body = interface_of e.body is in
    let bases = body.0 in
    let complete = found_entity is_complete name reg e sound.complete found in
    let known = found_entity (λ d. bases_known reg d.body) name reg e sound.bases found in
    let stands : stands_on reg name ≡ mandatory_bases bases = ap stands_on_body found ∙ ap (λ b. stands_on_body (Some (record { name = e.name; published = e.published; body = b }))) body.2 in
    let each : list_all (λ b. is_there reg is_interface b.name) bases ≡ true = sym (ap (bases_known reg) body.2) ∙ known.0 in
    elim (of_root e.name (mandatory_bases bases) (has_root e bases body.1 body.2 complete.0)) [
      | inl root ↦ inl (sym complete.1 ∙ root)
      | inr base ↦ inr (base.0, base.1, stands ∙ base.2, required_there (is_there reg is_interface) bases base.0 base.1 each base.2)
    ]

root_or_base : (reg : List Entity) (name : List ℕ) → IsSound reg → is_there reg is_interface name ≡ true → RootOrBase reg name
root_or_base reg name sound is =
    let there = found_interface reg name (find_entity name reg) refl is in interface_there reg name there.0 sound there.1 there.2

-- the root alone has just its three
functions_of_root : (reg : List Entity) → find_entity x_interface_name reg ≡ Some x_interface → functions_of reg x_interface_name ≡ root_functions
unfolding met_within visit_all is_met
functions_of_root reg root =
    let alone : interfaces_of reg x_interface_name ≡ x_interface_name ∷ [] =
    ap (λ o. visit_all (met_within (length reg) reg) [] (stands_on_body o) ++ x_interface_name ∷ []) root in
    ap (flat_map (declared_at reg)) alone ∙ ap (λ o. declared_by x_interface_name o ++ []) root

-- ---- every interface has the root's functions first, and the root as a base

abbrev Rooted : List Entity → List ℕ → Type 0
Rooted reg name = Extends root_functions (functions_of reg name) × IsBaseOf reg x_interface_name name

rooted_within : (levels : ℕ) (reg : List Entity) (name : List ℕ) → IsSound reg → find_entity x_interface_name reg ≡ Some x_interface
    → ends_within (stands_on reg) levels name ≡ true → is_there reg is_interface name ≡ true → Rooted reg name
rooted_within zero reg name sound root ends is = absurd (none_ends_at_once (stands_on reg) name ends)
rooted_within (suc levels) reg name sound root ends is = elim (root_or_base reg name sound is) [
  | inl same ↦ subst (Rooted reg) (sym same) (([], functions_of_root reg root ∙ sym (append-nil root_functions)), inl refl)
  | inr base ↦
      let has = subst (λ ns. Contains ns base.0) (sym base.2) (contains_head base.0 base.1) in
      let below = rooted_within levels reg base.0 sound root (next_ends (stands_on reg) levels name base.0 ends has) base.3 in
      (extends_on root_functions (functions_of reg base.0) (functions_of reg name) below.0 (first_base_first reg name base.0 base.1 sound.no_circle base.2), base_of_base reg x_interface_name name base.0 has below.1)
]

pub rooted : (reg : List Entity) (name : List ℕ) → IsSound reg → find_entity x_interface_name reg ≡ Some x_interface → is_there reg is_interface name ≡ true → Rooted reg name
rooted reg name sound root is = rooted_within (suc (length reg)) reg name sound root (bases_end reg name sound.no_circle) is

-- ---- what is no interface

-- one name, with what a test says of it
only_one : (base : Option (List ℕ)) (test : List ℕ → Bool) (b : List ℕ) → list_all test (at_most_one base) ≡ true → Contains (at_most_one base) b → test b ≡ true
only_one base test b all has = all_at test (at_most_one base) b all has

-- a struct and an exception are no interfaces
other_kind : (reg : List Entity) (wanted : Body → Bool) (name : List ℕ) → ((body : Body) → wanted body ≡ true → is_interface body ≡ false)
    → is_there reg wanted name ≡ true → is_there reg is_interface name ≡ false
other_kind reg wanted name apart is = by_found (find_entity name reg) refl
  where
    by_found : (o : Option Entity) → find_entity name reg ≡ o → is_there reg is_interface name ≡ false
    by_found None none = rw none refl
    by_found (Some e) found = let told : is_there reg wanted name ≡ wanted e.body = rw found refl in rw found (apart e.body (sym told ∙ is))

struct_apart : (body : Body) → is_struct body ≡ true → is_interface body ≡ false
struct_apart (interface bases members) is = let bad : false ≡ true = is in cc
struct_apart body is = refl

exception_apart : (body : Body) → is_exception body ≡ true → is_interface body ≡ false
exception_apart (interface bases members) is = let bad : false ≡ true = is in cc
exception_apart body is = refl

-- where no interface has the name, none has that of a base
none_below : (reg : List Entity) (name b : List ℕ) → IsSound reg → is_there reg is_interface name ≡ false → Contains (stands_on reg name) b → is_there reg is_interface b ≡ false
none_below reg name b sound no_one has = of_found (find_entity name reg) refl has
  where
    of_body : (e : Entity) (body : Body) → e.body ≡ body → find_entity name reg ≡ Some e → bases_known reg body ≡ true
        → Contains (stands_on_body (Some (record { name = e.name; published = e.published; body = body }))) b → is_there reg is_interface b ≡ false
    of_body e (interface bases members) is found known in' =
        let told : is_there reg is_interface name ≡ true = rw (found, is) refl in
        let bad : true ≡ false = sym told ∙ no_one in cc
    of_body e (struct base members) is found known in' =
        other_kind reg is_struct b struct_apart (only_one base (is_there reg is_struct) b known in')
    of_body e (exception base members) is found known in' =
        other_kind reg is_exception b exception_apart (only_one base (is_there reg is_exception) b known in')
    of_body e body is found known in' = absurd (omega (arith, in'.1))

    of_found : (o : Option Entity) → find_entity name reg ≡ o → Contains (stands_on_body o) b → is_there reg is_interface b ≡ false
    of_found None found in' = absurd (omega (arith, in'.1))
    of_found (Some e) found in' = of_body e e.body refl found (found_entity (λ d. bases_known reg d.body) name reg e sound.bases found).0 in'

none_led_to : (reg : List Entity) (name b : List ℕ) → IsSound reg → is_there reg is_interface name ≡ false → Leads (stands_on reg) name b → is_there reg is_interface b ≡ false
none_led_to reg name b sound no_one (step from to has) = none_below reg from to sound no_one has
none_led_to reg name b sound no_one (on from next to has more) = none_led_to reg next to sound (none_below reg from next sound no_one has) more

-- what is no interface declares no function
none_declared : (reg : List Entity) (name : List ℕ) → is_there reg is_interface name ≡ false → declared_at reg name ≡ []
none_declared reg name no_one = by_found (find_entity name reg) refl
  where
    of_body : (body : Body) → is_interface body ≡ false → declared_in name body ≡ []
    of_body (interface bases members) is = let bad : true ≡ false = is in cc
    of_body body is = refl

    by_found : (o : Option Entity) → find_entity name reg ≡ o → declared_by name o ≡ []
    by_found None found = refl
    by_found (Some e) found = let told : is_there reg is_interface name ≡ is_interface e.body = rw found refl in of_body e.body (sym told ∙ no_one)

pub no_functions : (reg : List Entity) (name : List ℕ) → IsSound reg → is_there reg is_interface name ≡ false → functions_of reg name ≡ []
no_functions reg name sound no_one =
    nothing_of_each (declared_at reg) (interfaces_of reg name) (λ n has. none_declared reg n (of_base n (interfaces_are_bases reg name n has)))
  where
    of_base : (n : List ℕ) → IsBaseOf reg n name → is_there reg is_interface n ≡ false
    of_base n (inl same) = subst (λ m. is_there reg is_interface m ≡ false) same no_one
    of_base n (inr leads) = none_led_to reg name n sound no_one leads
