-- A registry that keeps the rules can be written, and its text says it.
use Rattle.std.proofs.Common.{◌≡◌, ℕ, Bool, true, false, not, ◌&&◌, ◌||◌, List, [], ◌∷◌, Contains, if◌then◌else◌, refl}
use Rattle.std.proofs.lemmas.Bool.{and_parts, and_from, both_ways, false_from_ne_true, not_from_false}
use Rattle.std.specs.List.{list_all}
use Rattle.uno_model.specs.BuiltIn.{HasBuiltIn}
use Rattle.uno_model.specs.Entities.{Member, attribute, method, Body, interface, struct, exception, Entity}
use Rattle.uno_model.specs.Kinds.{Kind}
use Rattle.uno_model.specs.Kinds as kd
use Rattle.uno_model.specs.Names.{is_identifier, is_entity_name}
use Rattle.uno_model.specs.Registry.{IsRising, at_most_one}
use Rattle.uno_model.specs.Sound.{IsSound, is_named, is_there, is_interface, is_struct, is_exception, is_enum, is_service, is_some_list, kind_known}
use Rattle.uno_model.specs.Sound.{bases_known, raises_known}
use Rattle.uno_model.specs.Sound.{services_known, types_known}
use Rattle.uno_model.specs.Uses.{inner_names, interfaces_used, services_used, value_kinds, result_kinds, target_kinds, kinds_in, raised_names}
use Rattle.uno_model.proofs.AllLaws.{of_append}
use Rattle.uno_model.proofs.CircleLaws.{all_at}
use Rattle.uno_model.proofs.NameLaws.{there_named}
use Rattle.uno_model.proofs.PlaceLaws.{contains_head, contains_behind}
use Rattle.registry_text_model.specs.Lines.{is_built_in_name, written, registry_text}
use Rattle.registry_text_model.specs.OneWayMethods.{is_void, goes_in_alone, member_goes_one_way, body_goes_one_way, one_way_gives_nothing}
use Rattle.registry_text_model.specs.Reading.{base_names, is_spelled, oneway_is_void, results_written, is_writable, are_writable, is_resolved, Says}
use Rattle.registry_text_model.specs.Rules as r
use Rattle.registry_text_model.specs.Rules.{KeepsTheRules}
use Rattle.registry_text_model.proofs.SoundLaws.{rules_make_sound}
use Rattle.registry_reading_model.proofs.PartTests.{all_more, map_of_all, of_tests}
use Rattle.registry_reading_model.proofs.SaysOne.{never_both}

-- ---- names and types that are known

module _ (reg : List Entity) (named : list_all is_named reg ≡ true) where
  -- names of entities are entities' names
  known_names : (wanted : Body → Bool) (names : List (List ℕ)) → list_all (is_there reg wanted) names ≡ true → list_all is_entity_name names ≡ true
  known_names wanted names known = all_more (is_there reg wanted) is_entity_name (λ name there. there_named reg wanted name named there) names known

  known_bases : (body : Body) → bases_known reg body ≡ true → list_all is_entity_name (base_names body) ≡ true
  known_bases (interface bases members) known =
      map_of_all is_entity_name (λ b. b.name) bases
      (all_more (λ b. is_there reg is_interface b.name) (λ b. is_entity_name b.name) (λ b there. there_named reg is_interface b.name named there)
      bases known)
  known_bases (struct base members) known = known_names is_struct (at_most_one base) known
  known_bases (exception base members) known = known_names is_exception (at_most_one base) known
  known_bases _ known = refl

  known_spelled : (k : Kind) → kind_known reg k ≡ true → is_spelled k ≡ true
  known_spelled (kd.enum name) known = there_named reg is_enum name named known
  known_spelled (kd.struct name) known = there_named reg is_struct name named known
  known_spelled (kd.exception name) known = there_named reg is_exception name named known
  known_spelled (kd.interface name) known = there_named reg is_interface name named known
  known_spelled (kd.sequence k) known = known_spelled k known
  known_spelled _ known = refl

-- ---- types that stand as those of their names

struct_or_enum : (b : Body) → is_struct b ≡ true → is_enum b ≡ true → ⊥
struct_or_enum (struct base members) one other = both_ways false refl other
struct_or_enum _ one other = both_ways false refl one

struct_or_exception : (b : Body) → is_struct b ≡ true → is_exception b ≡ true → ⊥
struct_or_exception (struct base members) one other = both_ways false refl other
struct_or_exception _ one other = both_ways false refl one

struct_or_interface : (b : Body) → is_struct b ≡ true → is_interface b ≡ true → ⊥
struct_or_interface (struct base members) one other = both_ways false refl other
struct_or_interface _ one other = both_ways false refl one

none_of_three : (a b c : Bool) → (a ≡ true → ⊥) → (b ≡ true → ⊥) → (c ≡ true → ⊥) → not (a || (b || c)) ≡ true
none_of_three a b c no_a no_b no_c = rw (false_from_ne_true a no_a, false_from_ne_true b no_b, false_from_ne_true c no_c) refl

known_resolved : (reg : List Entity) (k : Kind) → kind_known reg k ≡ true → is_resolved reg k ≡ true
known_resolved reg (kd.enum name) known = known
known_resolved reg (kd.struct name) known =
    none_of_three (is_there reg is_enum name) (is_there reg is_exception name) (is_there reg is_interface name)
    (never_both reg is_struct is_enum name struct_or_enum known) (never_both reg is_struct is_exception name struct_or_exception known)
    (never_both reg is_struct is_interface name struct_or_interface known)
known_resolved reg (kd.exception name) known = known
known_resolved reg (kd.interface name) known = known
known_resolved reg (kd.sequence k) known = known_resolved reg k known
known_resolved reg _ known = refl

-- ---- results of one-way methods

void_first : (a b c : Bool) → (a || (b && c)) ≡ true → (a || b) ≡ true
void_first true b c is = refl
void_first false b c is = (and_parts b c is).0

one_way_void : (m : Member) → member_goes_one_way m ≡ true → oneway_is_void m ≡ true
one_way_void (attribute a) is = refl
one_way_void (method m) is =
    void_first (not m.oneway) (is_void m.result_kind) (list_all (λ p. goes_in_alone p.way) m.params && not (is_some_list m.raises)) is

void_written : (body : Body) → body_goes_one_way body ≡ true → results_written body ≡ true
void_written (interface bases members) is = all_more member_goes_one_way oneway_is_void one_way_void members is
void_written _ is = refl

goes_one_way : (e : Entity) → one_way_gives_nothing e ≡ true → body_goes_one_way e.body ≡ true
unfolding one_way_gives_nothing
goes_one_way e is = is

-- ---- entities

kept_writable : (reg : List Entity) (e : Entity) → KeepsTheRules reg → Contains reg e → is_writable e ≡ true
kept_writable reg e keeps there =
    let sound : IsSound reg = rules_make_sound reg keeps in
    let named : list_all is_named reg ≡ true = keeps.named in
    let own = and_parts (is_entity_name e.name) (list_all is_identifier (inner_names e.body)) (all_at is_named reg e named there) in
    let services =
    and_parts (list_all (is_there reg is_interface) (interfaces_used e.body)) (list_all (is_there reg is_service) (services_used e.body))
    (all_at (λ d. services_known reg d.body) reg e sound.services there) in
    let spelled : list_all is_spelled (kinds_in e.body) ≡ true =
    all_more (kind_known reg) is_spelled (known_spelled reg named) (kinds_in e.body) (all_at (λ d. types_known reg d.body) reg e sound.types there) in
    let values = of_append is_spelled (value_kinds e.body) _ spelled in
    let others = of_append is_spelled (result_kinds e.body) (target_kinds e.body) values.1 in
    of_tests e own.0 (record {
      inner = own.1;
      bases = known_bases reg named e.body (all_at (λ d. bases_known reg d.body) reg e sound.bases there);
      raised = known_names reg named is_exception (raised_names e.body) (all_at (λ d. raises_known reg d.body) reg e sound.raises there);
      interfaces = known_names reg named is_interface (interfaces_used e.body) services.0;
      services = known_names reg named is_service (services_used e.body) services.1;
      values = values.0;
      results = others.0;
      targets = others.1;
      void = void_written e.body (goes_one_way e (keeps.each r.one_way e there));
    })

-- ---- what is written

all_written : (P : Entity → Bool) (reg : List Entity) → ((e : Entity) → Contains reg e → is_built_in_name e.name ≡ false → P e ≡ true)
    → list_all P (written reg) ≡ true
all_written P [] each = refl
all_written P (e ∷ es) each =
    by_test (is_built_in_name e.name) refl (all_written P es (λ d there own. each d (contains_behind e es d there) own))
  where
    by_test : (b : Bool) → is_built_in_name e.name ≡ b → list_all P (written es) ≡ true
        → list_all P (if not b then e ∷ written es else written es) ≡ true
    by_test true is rest = rest
    by_test false is rest = and_from (P e) (list_all P (written es)) (each e (contains_head e es) is) rest

pub keeps_writable : (reg : List Entity) → KeepsTheRules reg → are_writable (written reg) ≡ true
keeps_writable reg keeps =
    all_written (λ e. is_writable e && not (is_built_in_name e.name)) reg
    (λ e there own. and_from (is_writable e) (not (is_built_in_name e.name)) (kept_writable reg e keeps there)
    (not_from_false (is_built_in_name e.name) own))

pub keeps_says : (reg : List Entity) → KeepsTheRules reg → HasBuiltIn reg → IsRising reg → Says (registry_text reg) (written reg) reg
keeps_says reg keeps has rising =
    let sound : IsSound reg = rules_make_sound reg keeps in
    record {
      text = refl;
      writable = keeps_writable reg keeps;
      resolved =
          all_written (λ e. list_all (is_resolved reg) (kinds_in e.body)) reg
          (λ e there own. all_more (kind_known reg) (is_resolved reg) (known_resolved reg) (kinds_in e.body)
          (all_at (λ d. types_known reg d.body) reg e sound.types there));
      written = refl;
      rising = rising;
      built_in = has;
    }
