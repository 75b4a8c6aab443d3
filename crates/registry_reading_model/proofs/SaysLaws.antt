-- What a text that is read says: its entities, each name in a type as the type that the headers of the text have of it.
use Rattle.std.proofs.Common.{◌≡◌, ℕ, Bool, true, false, not, ◌&&◌, ◌||◌, List, [], ◌∷◌, map, Option, None, Some, Ok, if◌then◌else◌, refl, sym, ap}
use Rattle.std.proofs.Common.{◌∙◌, codes}
use Rattle.std.proofs.lemmas.Bool.{and_from}
use Rattle.std.specs.List.{list_all}
use Rattle.std.specs.Str.{bytes_eq}
use Rattle.uno_model.specs.BuiltIn.{HasBuiltIn}
use Rattle.uno_model.specs.BuiltIn.{x_interface_name, exception_name, runtime_exception_name, disposed_exception_name, factory_name}
use Rattle.uno_model.specs.Entities.{Entity}
use Rattle.uno_model.specs.Kinds.{Kind, name_of}
use Rattle.uno_model.specs.Kinds as kd
use Rattle.uno_model.specs.Names.{is_entity_name}
use Rattle.uno_model.specs.Registry.{IsRising}
use Rattle.uno_model.specs.Uses.{kinds_in}
use Rattle.uno_model.specs.declared.type_class.TypeClass.{TypeClass}
use Rattle.uno_model.specs.declared.type_class.TypeClass.TheVariants as class
use Rattle.registry_text_model.specs.Lines.{entity_lines, is_built_in_name, written, text_of}
use Rattle.registry_text_model.specs.OneWayMethods.{is_void}
use Rattle.registry_text_model.specs.Reading.{is_writable, are_writable, text_lines, is_resolved, is_spelled, Says}
use Rattle.registry_reading_model.proofs.BeginLaws.{begins}
use Rattle.registry_reading_model.proofs.ChangedUses.{kinds_changed}
use Rattle.registry_reading_model.proofs.ListMaps.{maps_agree, flat_maps_agree, all_agree}
use Rattle.registry_reading_model.proofs.NamedLaws.{resolved_in_registry}
use Rattle.registry_reading_model.proofs.ResolvedLaws.{entity_lines_resolved, writable_resolved}
use Rattle.registry_reading_model.proofs.RisingLaws.{rising_by_names}
use Rattle.registry_reading_model.proofs.RunsLaws.{runs}
use Rattle.registry_reading_model.specs.Changes.{Change, same, body_changed, entity_changed}
use Rattle.registry_reading_model.specs.Heads.{Head, head_named, kind_of_class, kind_of_head, named_in, heads_in}
use Rattle.registry_reading_model.specs.Kept.{resolved, resolving, unresolved}
use Rattle.registry_reading_model.specs.States.{unread, between, run}

-- ---- types of names

pub named_kinds : (P : Kind → Type 0) (heads : List Head) (name : List ℕ) → P (kd.interface name) → P (kd.exception name) → P (kd.enum name)
    → P (kd.struct name)
    → P (named_in heads name)
unfolding named_in
named_kinds P heads name i x e s =
    by_tests (bytes_eq name x_interface_name || bytes_eq name factory_name)
    (bytes_eq name exception_name || (bytes_eq name runtime_exception_name || bytes_eq name disposed_exception_name)) (head_named name heads)
  where
    by_class : (c : Option TypeClass) → P (kind_of_class name c)
    by_class (Some class.Interface) = i
    by_class (Some class.Exception) = x
    by_class (Some class.Enum) = e
    by_class _ = s

    by_head : (o : Option Head) → P (kind_of_head name o)
    by_head None = s
    by_head (Some h) = by_class h.class

    by_tests : (a b : Bool) (o : Option Head) → P (if a then kd.interface name else (if b then kd.exception name else kind_of_head name o))
    by_tests true b o = i
    by_tests false true o = x
    by_tests false false o = by_head o

pub name_of_named : (heads : List Head) (name : List ℕ) → name_of (named_in heads name) ≡ name
name_of_named heads name = named_kinds (λ k. name_of k ≡ name) heads name refl refl refl refl

pub named_is_spelled : (heads : List Head) (name : List ℕ) → is_spelled (named_in heads name) ≡ is_entity_name name
named_is_spelled heads name = named_kinds (λ k. is_spelled k ≡ is_entity_name name) heads name refl refl refl refl

pub named_is_not_void : (heads : List Head) (name : List ℕ) → is_void (named_in heads name) ≡ false
named_is_not_void heads name = named_kinds (λ k. is_void k ≡ false) heads name refl refl refl refl

-- ---- entities with their names resolved

pub resolved_lines : (heads : List Head) (es : List Entity) → text_lines (map (entity_changed (resolving (named_in heads))) es) ≡ text_lines es
resolved_lines heads es =
    ap (λ ls. codes "unoreg 1" ∷ ls)
    (flat_maps_agree (entity_changed (resolving (named_in heads))) entity_lines entity_lines (entity_lines_resolved (named_in heads) (name_of_named heads)) es)

pub resolved_writable : (heads : List Head) (es : List Entity) → are_writable (map (entity_changed (resolving (named_in heads))) es) ≡ are_writable es
resolved_writable heads es =
    all_agree (entity_changed (resolving (named_in heads))) (λ e. is_writable e && not (is_built_in_name e.name)) (λ e. is_writable e && not (is_built_in_name e.name))
    (λ e. ap (λ b. b && not (is_built_in_name e.name)) (writable_resolved (named_in heads) (named_is_spelled heads) (named_is_not_void heads) e)) es

pub resolved_rising : (c : Change) (es : List Entity) → IsRising es → IsRising (map (entity_changed c) es)
resolved_rising c es rising = rising_by_names es (map (entity_changed c) es) (sym (maps_agree (entity_changed c) (λ e. e.name) (λ e. e.name) (λ e. refl) es)) rising

-- ---- what the text says

all_resolved : (reg : List Entity) (named : List ℕ → Kind) → ((k : Kind) → is_resolved reg (resolved named k) ≡ true) → (es : List Entity)
    → list_all (λ e. list_all (is_resolved reg) (kinds_in e.body)) (map (entity_changed (resolving named)) es) ≡ true
all_resolved reg named each [] = refl
all_resolved reg named each (e ∷ es) =
    and_from (list_all (is_resolved reg) (kinds_in (body_changed (resolving named) e.body))) _
    (ap (list_all (is_resolved reg)) (kinds_changed (resolving named) e.body) ∙ all_kinds (kinds_in e.body)) (all_resolved reg named each es)
  where
    all_kinds : (ks : List Kind) → list_all (is_resolved reg) (map (resolved named) ks) ≡ true
    all_kinds [] = refl
    all_kinds (k ∷ ks) = and_from (is_resolved reg (resolved named k)) (list_all (is_resolved reg) (map (resolved named) ks)) (each k) (all_kinds ks)

pub says_resolved : (bytes : List ℕ) (es reg : List Entity) → bytes ≡ text_of (text_lines es) → are_writable es ≡ true → IsRising es
    → written reg ≡ map (entity_changed (resolving (named_in (heads_in (text_lines es))))) es → IsRising reg → HasBuiltIn reg
    → Says bytes (map (entity_changed (resolving (named_in (heads_in (text_lines es))))) es) reg
says_resolved bytes es reg text writable rising all order has =
    let heads = heads_in (text_lines es) in
    let change = resolving (named_in heads) in
    let lines : text_lines (map (entity_changed change) es) ≡ text_lines es = resolved_lines heads es in
    let fits : are_writable (map (entity_changed change) es) ≡ true = resolved_writable heads es ∙ writable in
    let each : (k : Kind) → is_resolved reg (resolved (named_in heads) k) ≡ true =
    λ k. ap (λ ls. is_resolved reg (resolved (named_in (heads_in ls)) k)) (sym lines)
    ∙ resolved_in_registry (map (entity_changed change) es) reg fits (resolved_rising change es rising) all has k in
    record {
      text = text ∙ ap text_of (sym lines);
      writable = fits;
      resolved = all_resolved reg (named_in heads) each es;
      written = all;
      rising = order;
      built_in = has;
    }

-- ---- entities that were read

-- each name in a type of them stands as a struct's
pub read_unresolved : (lines : List (List ℕ)) (es : List Entity) → run true same unread lines ≡ Ok (between es)
    → map (entity_changed unresolved) es ≡ es
read_unresolved lines es read =
    let back = begins true (between es) lines read in
    let again = runs true es back.1.writable (λ ordered. back.1.rising refl) in
    let both : Ok (between (map (entity_changed unresolved) es)) ≡ Ok (between es) = sym again ∙ ap (run true same unread) back.0 ∙ read in
    cc
