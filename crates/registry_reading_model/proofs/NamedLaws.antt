-- By the headers of its text a name stands as the type that the registry of the text has of that name.
use Rattle.std.proofs.Common.{◌≡◌, ℕ, Bool, true, false, not, ◌||◌, List, [], ◌∷◌, ◌++◌, Option, None, Some, if◌then◌else◌, refl, sym, ap, ◌∙◌, arith}
use Rattle.std.proofs.lemmas.Slice.Eq.{bytes_eq-Decides}
use Rattle.std.specs.Str.{bytes_eq}
use Rattle.uno_model.specs.BuiltIn.{HasBuiltIn, x_interface, base_exception, runtime_exception, disposed_exception, factory}
use Rattle.uno_model.specs.BuiltIn.{x_interface_name, exception_name, runtime_exception_name, disposed_exception_name, factory_name}
use Rattle.uno_model.specs.Entities.{Body, interface, struct, exception, enum, constants, typedef, new_service, old_service, new_singleton}
use Rattle.uno_model.specs.Entities.{old_singleton, Entity}
use Rattle.uno_model.specs.Kinds.{Kind}
use Rattle.uno_model.specs.Kinds as kd
use Rattle.uno_model.specs.Registry.{IsRising, find_entity}
use Rattle.uno_model.specs.Sound.{is_there, is_interface, is_exception}
use Rattle.registry_text_model.specs.Lines.{is_built_in_name, written}
use Rattle.registry_text_model.specs.Reading.{are_writable, text_lines, is_resolved}
use Rattle.registry_reading_model.proofs.HeadLaws.{heads_of, head_of_entity, heads_of_text}
use Rattle.registry_reading_model.proofs.HeadLineLaws.{class_of_body}
use Rattle.registry_reading_model.specs.Heads.{head_named, kind_of_class, kind_of_head, named_in, heads_in}
use Rattle.registry_reading_model.specs.Kept.{resolved}

-- ---- what is found of a name

abbrev kind_of_found : List ℕ → Option Entity → Kind
kind_of_found name None = kd.struct name
kind_of_found name (Some e) = kind_of_class name (class_of_body e.body)

head_kind : (before es : List Entity) (name : List ℕ)
    → kind_of_head name (head_named name (heads_of before es)) ≡ kind_of_found name (find_entity name es)
unfolding head_named find_entity
head_kind before [] name = refl
head_kind before (e ∷ es) name = by_test (bytes_eq name e.name) (head_kind (before ++ e ∷ []) es name)
  where
    by_test : (b : Bool) → kind_of_head name (head_named name (heads_of (before ++ e ∷ []) es)) ≡ kind_of_found name (find_entity name es)
        → kind_of_head name (if b then Some (head_of_entity before e) else head_named name (heads_of (before ++ e ∷ []) es))
        ≡ kind_of_found name (if b then Some e else find_entity name es)
    by_test true rest = refl
    by_test false rest = rest

-- a name that is not built in is found among what is written
pub found_written : (reg : List Entity) (name : List ℕ) → is_built_in_name name ≡ false → find_entity name (written reg) ≡ find_entity name reg
unfolding find_entity
found_written [] name own = refl
found_written (e ∷ es) name own = by_tests (is_built_in_name e.name) refl (bytes_eq name e.name) refl (found_written es name own)
  where
    by_tests : (b : Bool) → is_built_in_name e.name ≡ b → (t : Bool) → bytes_eq name e.name ≡ t → find_entity name (written es) ≡ find_entity name es
        → find_entity name (if not b then e ∷ written es else written es) ≡ (if t then Some e else find_entity name es)
    by_tests false kept true same rest = rw same refl
    by_tests false kept false other rest = rw other rest
    by_tests true left false other rest = rest
    by_tests true left true same rest =
        let is : name ≡ e.name = (bytes_eq-Decides name e.name).0 same in
        let both : false ≡ true = sym own ∙ ap is_built_in_name is ∙ left in
        let worse : ⊥ = cc in
        absurd worse

-- ---- the type of a name in a registry

found_resolved : (reg : List Entity) (name : List ℕ) → is_resolved reg (kind_of_found name (find_entity name reg)) ≡ true
found_resolved reg name = by_find (find_entity name reg) refl
  where
    by_body : (own : List ℕ) (published : Bool) (b : Body) → find_entity name reg ≡ Some (record { name = own; published = published; body = b })
        → is_resolved reg (kind_of_class name (class_of_body b)) ≡ true
    by_body own published (interface bases members) found = rw found refl
    by_body own published (struct base members) found = rw found refl
    by_body own published (exception base members) found = rw found refl
    by_body own published (enum items) found = rw found refl
    by_body own published (constants cs) found = rw found refl
    by_body own published (typedef k) found = rw found refl
    by_body own published (new_service base constructors) found = rw found refl
    by_body own published (old_service parts) found = rw found refl
    by_body own published (new_singleton base) found = rw found refl
    by_body own published (old_singleton service) found = rw found refl

    by_find : (o : Option Entity) → find_entity name reg ≡ o → is_resolved reg (kind_of_found name o) ≡ true
    by_find None found = rw found refl
    by_find (Some e) found = by_body e.name e.published e.body found

own_resolved : (es reg : List Entity) (name : List ℕ) → written reg ≡ es → is_built_in_name name ≡ false
    → is_resolved reg (kind_of_head name (head_named name (heads_of [] es))) ≡ true
own_resolved es reg name all own =
    let found : find_entity name es ≡ find_entity name reg = ap (find_entity name) (sym all) ∙ found_written reg name own in
    let kind = head_kind [] es name ∙ ap (kind_of_found name) found in
    ap (is_resolved reg) kind ∙ found_resolved reg name

interface_there : (reg : List Entity) (e : Entity) (name : List ℕ) → HasBuiltIn reg → find_entity e.name reg ≡ Some e → is_interface e.body ≡ true
    → bytes_eq name e.name ≡ true
    → is_there reg is_interface name ≡ true
interface_there reg e name has found is same = rw ((bytes_eq-Decides name e.name).0 same, found) is

exception_there : (reg : List Entity) (e : Entity) (name : List ℕ) → HasBuiltIn reg → find_entity e.name reg ≡ Some e → is_exception e.body ≡ true
    → bytes_eq name e.name ≡ true
    → is_there reg is_exception name ≡ true
exception_there reg e name has found is same = rw ((bytes_eq-Decides name e.name).0 same, found) is

-- a name that is none of the built-in ones
not_built_in : (name : List ℕ) → bytes_eq name x_interface_name ≡ false → bytes_eq name factory_name ≡ false → bytes_eq name exception_name ≡ false
    → bytes_eq name runtime_exception_name ≡ false → bytes_eq name disposed_exception_name ≡ false → is_built_in_name name ≡ false
unfolding is_built_in_name
not_built_in name a b c d e = rw (a, b, c, d, e) refl

name_resolved_in : (es reg : List Entity) (name : List ℕ) → written reg ≡ es → HasBuiltIn reg
    → is_resolved reg (named_in (heads_of [] es) name) ≡ true
unfolding named_in
name_resolved_in es reg name all has =
    by_tests (bytes_eq name x_interface_name) refl (bytes_eq name factory_name) refl (bytes_eq name exception_name) refl (bytes_eq name runtime_exception_name) refl
    (bytes_eq name disposed_exception_name) refl
  where
    by_tests : (a : Bool) → bytes_eq name x_interface_name ≡ a → (b : Bool) → bytes_eq name factory_name ≡ b → (c : Bool)
        → bytes_eq name exception_name ≡ c
        → (d : Bool) → bytes_eq name runtime_exception_name ≡ d → (e : Bool) → bytes_eq name disposed_exception_name ≡ e
        → is_resolved reg (if a || b then kd.interface name else (if c || (d || e) then kd.exception name else kind_of_head name (head_named name (heads_of [] es)))) ≡ true
    by_tests true is b _ c _ d _ e _ = interface_there reg x_interface name has (has.found x_interface (4, omega arith, refl)) refl is
    by_tests false _ true is c _ d _ e _ = interface_there reg factory name has (has.found factory (1, omega arith, refl)) refl is
    by_tests false _ false _ true is d _ e _ = exception_there reg base_exception name has (has.found base_exception (2, omega arith, refl)) refl is
    by_tests false _ false _ false _ true is e _ = exception_there reg runtime_exception name has (has.found runtime_exception (3, omega arith, refl)) refl is
    by_tests false _ false _ false _ false _ true is = exception_there reg disposed_exception name has (has.found disposed_exception (0, omega arith, refl)) refl is
    by_tests false f false g false h false i false j = own_resolved es reg name all (not_built_in name f g h i j)

kind_resolved_in : (es reg : List Entity) → written reg ≡ es → HasBuiltIn reg → (k : Kind)
    → is_resolved reg (resolved (named_in (heads_of [] es)) k) ≡ true
unfolding resolved
kind_resolved_in es reg all has (kd.enum name) = name_resolved_in es reg name all has
kind_resolved_in es reg all has (kd.struct name) = name_resolved_in es reg name all has
kind_resolved_in es reg all has (kd.exception name) = name_resolved_in es reg name all has
kind_resolved_in es reg all has (kd.interface name) = name_resolved_in es reg name all has
kind_resolved_in es reg all has (kd.sequence k) = kind_resolved_in es reg all has k
kind_resolved_in es reg all has kd.void = refl
kind_resolved_in es reg all has kd.char = refl
kind_resolved_in es reg all has kd.boolean = refl
kind_resolved_in es reg all has kd.byte = refl
kind_resolved_in es reg all has kd.short = refl
kind_resolved_in es reg all has kd.unsigned_short = refl
kind_resolved_in es reg all has kd.long = refl
kind_resolved_in es reg all has kd.unsigned_long = refl
kind_resolved_in es reg all has kd.hyper = refl
kind_resolved_in es reg all has kd.unsigned_hyper = refl
kind_resolved_in es reg all has kd.str = refl
kind_resolved_in es reg all has kd.kind = refl
kind_resolved_in es reg all has kd.any = refl

pub resolved_in_registry : (es reg : List Entity) → are_writable es ≡ true → IsRising es → written reg ≡ es → HasBuiltIn reg → (k : Kind)
    → is_resolved reg (resolved (named_in (heads_in (text_lines es))) k) ≡ true
resolved_in_registry es reg writable rising all has k =
    ap (λ heads. is_resolved reg (resolved (named_in heads) k)) (heads_of_text es writable rising) ∙ kind_resolved_in es reg all has k
