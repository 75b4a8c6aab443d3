-- Worked files: what is wrong with their names, and where they break a rule; each is one file, and stands over its tree.
use Rattle.std.proofs.Common.{◌≡◌, ℕ, Bool, true, false, List, [], ◌∷◌, None, Some, refl, codes}
use Rattle.std.specs.List.{AllByRecursion}
use Rattle.registry_text_model.specs.Rules.{Rule, bases, circles, names, one_way, raised, values, constant_values, services, singletons, types, whole}
use Rattle.idl_meaning_model.specs.ConstantsMeant as constants_meant
use Rattle.idl_meaning_model.specs.Declarations as declarations
use Rattle.idl_meaning_model.specs.Meaning as meaning
use Rattle.idl_meaning_model.specs.NameFaults as name_faults
use Rattle.idl_meaning_model.specs.Scopes as scopes
use Rattle.idl_meaning_model.specs.Uses as uses
use Rattle.idl_model.specs.Values as tree_values
use Rattle.idl_rules_model.specs.Bases as where_bases
use Rattle.idl_rules_model.specs.CheckVerdicts as where_check_verdicts
use Rattle.idl_rules_model.specs.Circles as where_circles
use Rattle.idl_rules_model.specs.ConstantRanges as where_constant_ranges
use Rattle.idl_rules_model.specs.ItemValues as where_item_values
use Rattle.idl_rules_model.specs.NamesDiffer as where_names_differ
use Rattle.idl_rules_model.specs.OneWay as where_one_way
use Rattle.idl_rules_model.specs.Raised as where_raised
use Rattle.idl_rules_model.specs.Services as where_services
use Rattle.idl_rules_model.specs.Singletons as where_singletons
use Rattle.idl_rules_model.specs.TypePlaces as where_type_places
use Rattle.idl_rules_model.specs.Whole as where_whole
use Rattle.registry_text_model.specs.BasesAreOfTheirKind as kept_bases_are_of_their_kind
use Rattle.registry_text_model.specs.ConstantValues as kept_constant_values
use Rattle.registry_text_model.specs.EnumValues as kept_enum_values
use Rattle.registry_text_model.specs.NamesDiffer as kept_names_differ
use Rattle.registry_text_model.specs.NoCircles as kept_no_circles
use Rattle.registry_text_model.specs.OneWayMethods as kept_one_way_methods
use Rattle.registry_text_model.specs.RaisedExceptions as kept_raised_exceptions
use Rattle.registry_text_model.specs.ServiceParts as kept_service_parts
use Rattle.registry_text_model.specs.SingletonTargets as kept_singleton_targets
use Rattle.registry_text_model.specs.TypesAtTheirPlaces as kept_types_at_their_places
use Rattle.registry_text_model.specs.WholeWithinLimits as kept_whole_within_limits
use Rattle.uno_model.specs.Circles as uno_circles
use Rattle.uno_model.specs.Functions as uno_functions
use Rattle.uno_model.specs.Names as uno_names
use Rattle.uno_model.specs.Registry as uno_registry
use Rattle.uno_model.specs.Sound as uno_sound
use Rattle.idl_model.specs.Places.{Place}
use Rattle.idl_model.specs.Trees.{Id, Path, Tree}
use Rattle.idl_model.specs.Trees as t
use Rattle.idl_meaning_model.specs.NameFaults.{NameFault, unknown, twice, float_refused, faults}
use Rattle.idl_rules_model.specs.CheckVerdicts.{broken}

-- a place in the file, a name that is declared there, and one that is used
abbrev at : ℕ → Place
at byte = record { file = 0; byte = byte }

abbrev id : List ℕ → ℕ → Id
id name byte = record { name = name; place = at byte }

abbrev path : ℕ → Bool → List (List ℕ) → Path
path byte absolute parts = record { place = at byte; absolute = absolute; parts = parts }

record NameRow : Type 0 where
  tree : Tree
  wrong : List (Place × NameFault)

record RuleRow : Type 0 where
  tree : Tree
  rule : Rule
  wrong : List Place

abbrev name_rows : List NameRow
name_rows =
    -- struct S { double x; };
    record { tree = ((t.declared false (record { name = (id (codes "S") 7); body = (t.struct None ((record { type = (t.simple (at 11) t.double); names = ((id (codes "x") 18) ∷ []) }) ∷ [])) })) ∷ []); wrong = ((at 11, float_refused) ∷ []) } ∷ (
    -- struct S { T a; };
    record { tree = ((t.declared false (record { name = (id (codes "S") 7); body = (t.struct None ((record { type = (t.named (path 11 false ((codes "T") ∷ [])) t.no_arguments); names = ((id (codes "a") 13) ∷ []) }) ∷ [])) })) ∷ []); wrong = ((at 11, unknown) ∷ []) } ∷ (
    -- struct S { long a; }; struct S { long b; };
    record { tree = (((t.declared false (record { name = (id (codes "S") 7); body = (t.struct None ((record { type = (t.simple (at 11) t.long); names = ((id (codes "a") 16) ∷ []) }) ∷ [])) })) ∷ ((t.declared false (record { name = (id (codes "S") 29); body = (t.struct None ((record { type = (t.simple (at 33) t.long); names = ((id (codes "b") 38) ∷ []) }) ∷ [])) })) ∷ []))); wrong = ((at 29, twice (Some (at 7))) ∷ []) } ∷ (
    -- interface I;
    record { tree = ((t.declared false (record { name = (id (codes "I") 10); body = t.forward })) ∷ []); wrong = ((at 10, unknown) ∷ []) } ∷ (
    -- interface S; struct S { long a; };
    record { tree = (((t.declared false (record { name = (id (codes "S") 10); body = t.forward })) ∷ ((t.declared false (record { name = (id (codes "S") 20); body = (t.struct None ((record { type = (t.simple (at 24) t.long); names = ((id (codes "a") 29) ∷ []) }) ∷ [])) })) ∷ []))); wrong = ((at 10, unknown) ∷ []) } ∷ (
    -- enum E { V, W = V };
    record { tree = ((t.declared false (record { name = (id (codes "E") 5); body = (t.enum (((record { name = (id (codes "V") 9); value = None }) ∷ ((record { name = (id (codes "W") 12); value = (Some (t.constant (path 16 false ((codes "V") ∷ [])))) }) ∷ [])))) })) ∷ []); wrong = ((at 16, unknown) ∷ []) } ∷ (
    -- constants K { const long X = 1; }; constants L { const long Y = X; };
    record { tree = (((t.declared false (record { name = (id (codes "K") 10); body = (t.constants ((record { type = (t.simple (at 20) t.long); name = (id (codes "X") 25); value = (t.number 1) }) ∷ [])) })) ∷ ((t.declared false (record { name = (id (codes "L") 45); body = (t.constants ((record { type = (t.simple (at 55) t.long); name = (id (codes "Y") 60); value = (t.constant (path 64 false ((codes "X") ∷ []))) }) ∷ [])) })) ∷ []))); wrong = ((at 64, unknown) ∷ []) } ∷ (
    -- constants K { const long X = 1; const long Y = K::X; };
    record { tree = ((t.declared false (record { name = (id (codes "K") 10); body = (t.constants (((record { type = (t.simple (at 20) t.long); name = (id (codes "X") 25); value = (t.number 1) }) ∷ ((record { type = (t.simple (at 38) t.long); name = (id (codes "Y") 43); value = (t.constant (path 47 false (((codes "K") ∷ ((codes "X") ∷ []))))) }) ∷ [])))) })) ∷ []); wrong = ([]) } ∷ (
    -- module m { struct S { long b; }; struct U { S inner; ::S outer; }; };
    record { tree = ((t.in_module (id (codes "m") 7) (t.def (t.declared false (record { name = (id (codes "S") 18); body = (t.struct None ((record { type = (t.simple (at 22) t.long); names = ((id (codes "b") 27) ∷ []) }) ∷ [])) })) (t.def (t.declared false (record { name = (id (codes "U") 40); body = (t.struct None (((record { type = (t.named (path 44 false ((codes "S") ∷ [])) t.no_arguments); names = ((id (codes "inner") 46) ∷ []) }) ∷ ((record { type = (t.named (path 53 true ((codes "S") ∷ [])) t.no_arguments); names = ((id (codes "outer") 57) ∷ []) }) ∷ [])))) })) t.no_defs))) ∷ []); wrong = ((at 53, unknown) ∷ []) } ∷ (
    -- enum E { V }; typedef E M; constants K { const long X = M::V; };
    record { tree = (((t.declared false (record { name = (id (codes "E") 5); body = (t.enum ((record { name = (id (codes "V") 9); value = None }) ∷ [])) })) ∷ ((t.declared false (record { name = (id (codes "M") 24); body = (t.typedef (t.named (path 22 false ((codes "E") ∷ [])) t.no_arguments)) })) ∷ ((t.declared false (record { name = (id (codes "K") 37); body = (t.constants ((record { type = (t.simple (at 47) t.long); name = (id (codes "X") 52); value = (t.constant (path 56 false (((codes "M") ∷ ((codes "V") ∷ []))))) }) ∷ [])) })) ∷ [])))); wrong = ((at 56, unknown) ∷ []) } ∷ (
    []))))))))))

abbrev rule_rows : List RuleRow
rule_rows =
    -- struct S { long a; }; interface I : S { };
    record { tree = (((t.declared false (record { name = (id (codes "S") 7); body = (t.struct None ((record { type = (t.simple (at 11) t.long); names = ((id (codes "a") 16) ∷ []) }) ∷ [])) })) ∷ ((t.declared false (record { name = (id (codes "I") 32); body = (t.interface (Some (path 36 false ((codes "S") ∷ []))) ([])) })) ∷ []))); rule = bases; wrong = ((at 36) ∷ []) } ∷ (
    -- interface A { }; interface B { }; interface I : A { interface B; };
    record { tree = (((t.declared false (record { name = (id (codes "A") 10); body = (t.interface None ([])) })) ∷ ((t.declared false (record { name = (id (codes "B") 27); body = (t.interface None ([])) })) ∷ ((t.declared false (record { name = (id (codes "I") 44); body = (t.interface (Some (path 48 false ((codes "A") ∷ []))) ((t.base_member false (path 62 false ((codes "B") ∷ []))) ∷ [])) })) ∷ [])))); rule = bases; wrong = ((at 48) ∷ []) } ∷ (
    -- interface A : B { }; interface B : A { };
    record { tree = (((t.declared false (record { name = (id (codes "A") 10); body = (t.interface (Some (path 14 false ((codes "B") ∷ []))) ([])) })) ∷ ((t.declared false (record { name = (id (codes "B") 31); body = (t.interface (Some (path 35 false ((codes "A") ∷ []))) ([])) })) ∷ []))); rule = circles; wrong = (((at 10) ∷ ((at 31) ∷ []))) } ∷ (
    -- constants K { const long X = X; };
    record { tree = ((t.declared false (record { name = (id (codes "K") 10); body = (t.constants ((record { type = (t.simple (at 20) t.long); name = (id (codes "X") 25); value = (t.constant (path 29 false ((codes "X") ∷ []))) }) ∷ [])) })) ∷ []); rule = circles; wrong = ((at 25) ∷ []) } ∷ (
    -- enum E { A = E::B, B };
    record { tree = ((t.declared false (record { name = (id (codes "E") 5); body = (t.enum (((record { name = (id (codes "A") 9); value = (Some (t.constant (path 13 false (((codes "E") ∷ ((codes "B") ∷ [])))))) }) ∷ ((record { name = (id (codes "B") 19); value = None }) ∷ [])))) })) ∷ []); rule = circles; wrong = (((at 9) ∷ ((at 19) ∷ []))) } ∷ (
    -- struct S { long a; long a; };
    record { tree = ((t.declared false (record { name = (id (codes "S") 7); body = (t.struct None (((record { type = (t.simple (at 11) t.long); names = ((id (codes "a") 16) ∷ []) }) ∷ ((record { type = (t.simple (at 19) t.long); names = ((id (codes "a") 24) ∷ []) }) ∷ [])))) })) ∷ []); rule = names; wrong = ((at 24) ∷ []) } ∷ (
    -- interface I { void f(); }; interface J { void f(); interface I; };
    record { tree = (((t.declared false (record { name = (id (codes "I") 10); body = (t.interface None ((t.method (record { oneway = false; result_type = (t.simple (at 14) t.void); name = (id (codes "f") 19); parameters = ([]); raises = ([]) })) ∷ [])) })) ∷ ((t.declared false (record { name = (id (codes "J") 37); body = (t.interface None (((t.method (record { oneway = false; result_type = (t.simple (at 41) t.void); name = (id (codes "f") 46); parameters = ([]); raises = ([]) })) ∷ ((t.base_member false (path 61 false ((codes "I") ∷ []))) ∷ [])))) })) ∷ []))); rule = names; wrong = ((at 46) ∷ []) } ∷ (
    -- interface I { [oneway] long f(); };
    record { tree = ((t.declared false (record { name = (id (codes "I") 10); body = (t.interface None ((t.method (record { oneway = true; result_type = (t.simple (at 23) t.long); name = (id (codes "f") 28); parameters = ([]); raises = ([]) })) ∷ [])) })) ∷ []); rule = one_way; wrong = ((at 28) ∷ []) } ∷ (
    -- interface I { [attribute, readonly] long a { set raises (com::sun::star::uno::Exception); }; };
    record { tree = ((t.declared false (record { name = (id (codes "I") 10); body = (t.interface None ((t.attribute (record { flags = (t.readonly_flag ∷ []); type = (t.simple (at 36) t.long); name = (id (codes "a") 41); get = None; set = (Some ((path 57 false (((codes "com") ∷ ((codes "sun") ∷ ((codes "star") ∷ ((codes "uno") ∷ ((codes "Exception") ∷ []))))))) ∷ [])) })) ∷ [])) })) ∷ []); rule = raised; wrong = ((at 41) ∷ []) } ∷ (
    -- enum E { A = 2147483647, B };
    record { tree = ((t.declared false (record { name = (id (codes "E") 5); body = (t.enum (((record { name = (id (codes "A") 9); value = (Some (t.number 2147483647)) }) ∷ ((record { name = (id (codes "B") 25); value = None }) ∷ [])))) })) ∷ []); rule = values; wrong = ((at 25) ∷ []) } ∷ (
    -- constants K { const byte X = 1 / 0; };
    record { tree = ((t.declared false (record { name = (id (codes "K") 10); body = (t.constants ((record { type = (t.simple (at 20) t.byte); name = (id (codes "X") 25); value = (t.chain (t.number 1) (t.operand t.divided_by (t.number 0) t.no_operands)) }) ∷ [])) })) ∷ []); rule = constant_values; wrong = ((at 25) ∷ []) } ∷ (
    -- constants K { const byte X = 200; const long Y = X; };
    record { tree = ((t.declared false (record { name = (id (codes "K") 10); body = (t.constants (((record { type = (t.simple (at 20) t.byte); name = (id (codes "X") 25); value = (t.number 200) }) ∷ ((record { type = (t.simple (at 40) t.long); name = (id (codes "Y") 45); value = (t.constant (path 49 false ((codes "X") ∷ []))) }) ∷ [])))) })) ∷ []); rule = constant_values; wrong = ((at 25) ∷ []) } ∷ (
    -- interface I { }; service S { interface T; }; service T : I;
    record { tree = (((t.declared false (record { name = (id (codes "I") 10); body = (t.interface None ([])) })) ∷ ((t.declared false (record { name = (id (codes "S") 25); body = (t.old_service ((t.face false (path 39 false ((codes "T") ∷ []))) ∷ [])) })) ∷ ((t.declared false (record { name = (id (codes "T") 53); body = (t.new_service (path 57 false ((codes "I") ∷ [])) ([])) })) ∷ [])))); rule = services; wrong = ((at 39) ∷ []) } ∷ (
    -- service S { }; singleton G : S;
    record { tree = (((t.declared false (record { name = (id (codes "S") 8); body = (t.old_service ([])) })) ∷ ((t.declared false (record { name = (id (codes "G") 25); body = (t.new_singleton (path 29 false ((codes "S") ∷ []))) })) ∷ []))); rule = singletons; wrong = ((at 29) ∷ []) } ∷ (
    -- struct Z { Nothings a; }; typedef sequence<void> Nothings;
    record { tree = (((t.declared false (record { name = (id (codes "Z") 7); body = (t.struct None ((record { type = (t.named (path 11 false ((codes "Nothings") ∷ [])) t.no_arguments); names = ((id (codes "a") 20) ∷ []) }) ∷ [])) })) ∷ ((t.declared false (record { name = (id (codes "Nothings") 49); body = (t.typedef (t.sequence_of (at 34) (t.simple (at 43) t.void))) })) ∷ []))); rule = types; wrong = ((at 43) ∷ []) } ∷ (
    -- interface I { }; service S : I { c([in] any ... a, [in] long b); };
    record { tree = (((t.declared false (record { name = (id (codes "I") 10); body = (t.interface None ([])) })) ∷ ((t.declared false (record { name = (id (codes "S") 25); body = (t.new_service (path 29 false ((codes "I") ∷ [])) ((record { name = (id (codes "c") 33); parameters = (((record { type = (t.simple (at 40) t.any); rest = true; name = (id (codes "a") 48) }) ∷ ((record { type = (t.simple (at 56) t.long); rest = false; name = (id (codes "b") 61) }) ∷ []))); raises = ([]) }) ∷ [])) })) ∷ []))); rule = types; wrong = ((at 40) ∷ []) } ∷ (
    -- struct S { };
    record { tree = ((t.declared false (record { name = (id (codes "S") 7); body = (t.struct None ([])) })) ∷ []); rule = whole; wrong = ((at 7) ∷ []) } ∷ (
    [])))))))))))))))))

name_rows_hold : AllByRecursion (λ (r : NameRow). faults (r.tree ∷ []) ≡ r.wrong) name_rows
unfolding constants_meant.valued_at constants_meant.leads_to_valued constants_meant.value_within constants_meant.value_meant declarations.dotted
    declarations.declarations declarations.entities_declared declarations.scope_of declarations.items_valued declarations.all_valued
    declarations.declared_in declarations.all_declared_in meaning.name_meant meaning.type_over meaning.type_if meaning.type_named
    meaning.name_type meaning.type_meant meaning.with_root meaning.with_create meaning.has_flag meaning.flags_meant meaning.body_meant
    meaning.placed meaning.sorted meaning.registry_of meaning.meant name_faults.unknown_uses name_faults.forward_alone name_faults.first_before
    name_faults.declared_twice name_faults.refused_types name_faults.faults name_faults.names_told scopes.outwards scopes.full_names
    scopes.declared_as scopes.is_built_in scopes.entity_named scopes.value_names scopes.valued_as scopes.constant_named uses.used_in
    uses.uses_of uses.uses uses.stands_for uses.types_in uses.type_paths uses.argument_paths uses.expr_paths uses.operand_paths uses.floats
    uses.argument_floats tree_values.apply tree_values.sign_applied tree_values.signs_applied tree_values.value tree_values.values
    where_bases.two_ways where_bases.wrong_bases where_check_verdicts.broken where_circles.comes_to where_circles.entity_comes_back
    where_circles.value_comes_back where_circles.on_circles where_constant_ranges.wrong_constants where_item_values.wrong_items
    where_names_differ.second_names where_names_differ.fields_within where_names_differ.all_fields where_names_differ.all_functions
    where_names_differ.repeated_names where_one_way.giving_one_way where_raised.wrong_raises where_services.wrong_parts
    where_singletons.wrong_targets where_type_places.wrong_in_type where_type_places.wrong_rest where_type_places.types_standing
    where_type_places.wrong_types where_whole.past_limits kept_bases_are_of_their_kind.bases_are_of_their_kind
    kept_constant_values.constants_are_in_range kept_enum_values.values_are_long kept_names_differ.names_differ kept_no_circles.leads_on_to
    kept_one_way_methods.one_way_gives_nothing kept_raised_exceptions.raises_exceptions kept_service_parts.services_have_parts
    kept_singleton_targets.singletons_have_targets kept_types_at_their_places.types_stand_at_their_places
    kept_whole_within_limits.is_whole_within_limits uno_circles.ends_within uno_functions.is_met uno_functions.visit_all
    uno_functions.met_within uno_names.parts_of uno_registry.find_entity uno_registry.members_within uno_sound.all_differ
name_rows_hold = (refl, (refl, (refl, (refl, (refl, (refl, (refl, (refl, (refl, (refl, tt))))))))))

rule_rows_hold : AllByRecursion (λ (r : RuleRow). broken r.rule (r.tree ∷ []) ≡ r.wrong) rule_rows
unfolding constants_meant.valued_at constants_meant.leads_to_valued constants_meant.value_within constants_meant.value_meant declarations.dotted
    declarations.declarations declarations.entities_declared declarations.scope_of declarations.items_valued declarations.all_valued
    declarations.declared_in declarations.all_declared_in meaning.name_meant meaning.type_over meaning.type_if meaning.type_named
    meaning.name_type meaning.type_meant meaning.with_root meaning.with_create meaning.has_flag meaning.flags_meant meaning.body_meant
    meaning.placed meaning.sorted meaning.registry_of meaning.meant name_faults.unknown_uses name_faults.forward_alone name_faults.first_before
    name_faults.declared_twice name_faults.refused_types name_faults.faults name_faults.names_told scopes.outwards scopes.full_names
    scopes.declared_as scopes.is_built_in scopes.entity_named scopes.value_names scopes.valued_as scopes.constant_named uses.used_in
    uses.uses_of uses.uses uses.stands_for uses.types_in uses.type_paths uses.argument_paths uses.expr_paths uses.operand_paths uses.floats
    uses.argument_floats tree_values.apply tree_values.sign_applied tree_values.signs_applied tree_values.value tree_values.values
    where_bases.two_ways where_bases.wrong_bases where_check_verdicts.broken where_circles.comes_to where_circles.entity_comes_back
    where_circles.value_comes_back where_circles.on_circles where_constant_ranges.wrong_constants where_item_values.wrong_items
    where_names_differ.second_names where_names_differ.fields_within where_names_differ.all_fields where_names_differ.all_functions
    where_names_differ.repeated_names where_one_way.giving_one_way where_raised.wrong_raises where_services.wrong_parts
    where_singletons.wrong_targets where_type_places.wrong_in_type where_type_places.wrong_rest where_type_places.types_standing
    where_type_places.wrong_types where_whole.past_limits kept_bases_are_of_their_kind.bases_are_of_their_kind
    kept_constant_values.constants_are_in_range kept_enum_values.values_are_long kept_names_differ.names_differ kept_no_circles.leads_on_to
    kept_one_way_methods.one_way_gives_nothing kept_raised_exceptions.raises_exceptions kept_service_parts.services_have_parts
    kept_singleton_targets.singletons_have_targets kept_types_at_their_places.types_stand_at_their_places
    kept_whole_within_limits.is_whole_within_limits uno_circles.ends_within uno_functions.is_met uno_functions.visit_all
    uno_functions.met_within uno_names.parts_of uno_registry.find_entity uno_registry.members_within uno_sound.all_differ
rule_rows_hold = (refl, (refl, (refl, (refl, (refl, (refl, (refl, (refl, (refl, (refl, (refl, (refl, (refl, (refl, (refl, (refl, (refl, tt)))))))))))))))))
