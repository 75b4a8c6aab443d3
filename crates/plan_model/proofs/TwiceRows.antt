-- Lines that declare a name that is there, each with its place among the lines, from 0, and the reason that counts.
use Rattle.std.proofs.Common.{◌≡◌, refl, [], ◌∷◌, Some, codes}
use Rattle.literal_model.specs.Readings.{number_named}
use Rattle.literal_model.specs.Literals.{first_item}
use Rattle.uno_model.specs.Codes.{same_kind}
use Rattle.uno_model.specs.Functions.{is_met, visit_all, met_within}
use Rattle.uno_model.specs.Names.{parts_of}
use Rattle.uno_model.specs.NamedTypes.{simple_of, kind_within, type_of_text}
use Rattle.uno_model.specs.Reaches.{reaches_within, is_base_of}
use Rattle.uno_model.specs.Registry.{find_entity, members_within}
use Rattle.uno_model.specs.Sound.{all_differ}
use Rattle.plan_model.specs.Building.{behind, behind_all}
use Rattle.plan_model.specs.Contexts.{opening, kind_of_variable, kind_of_field, kind_of_word, declared_function, called_function, parameters}
use Rattle.plan_model.specs.Fitting.{all_fits}
use Rattle.plan_model.specs.Forms.{is_type_text, is_behind_bracket, is_function_text, is_export_name, is_term, are_terms, is_line, is_root_term, are_root_terms}
use Rattle.plan_model.specs.Keeps.{has_form, reason_of, first_wrong}
use Rattle.plan_model.specs.KnownNames.{is_term_known, are_terms_known, names_are_known}
use Rattle.plan_model.specs.Limits.{term_depth, terms_depth, parentheses, parentheses_in, is_flat, terms_are_flat, has_room, block_has_room, plan_has_room, keeps_limits}
use Rattle.plan_model.specs.LinePlaces.{last_ends, may_stand}
use Rattle.plan_model.specs.Lines.{behaviour, method, singleton, export, end_line}
use Rattle.plan_model.specs.NewNames.{names_are_new}
use Rattle.plan_model.specs.Plans.{supports}
use Rattle.plan_model.specs.TypedStatements.{call_of, query_of, making_of, statement_of, root_statement_of}
use Rattle.plan_model.specs.Typing.{expression_of, all_at, each_at, argument_of, arguments_of}
use Rattle.plan_model.specs.declared.line_reason.LineReason.TheVariants.{Twice}
use Rattle.plan_model.proofs.DemoLines.{num, in_twice, let_long, returns_a}
use Rattle.plan_model.proofs.DemoPlans.{demo, x_echo, x_node, parts_registry}

-- a behaviour's name twice
behaviour_twice_row : first_wrong demo opening (behaviour (codes "A") (x_echo ∷ []) ∷ (end_line ∷ (behaviour (codes "A") (x_node ∷ []) ∷ [])))
    ≡ Some (2, Twice)
unfolding first_wrong reason_of has_form is_line is_type_text is_behind_bracket is_function_text is_export_name is_term are_terms is_root_term are_root_terms
    parts_of all_differ may_stand last_ends names_are_known is_term_known are_terms_known names_are_new all_fits keeps_limits terms_are_flat plan_has_room
    block_has_room has_room is_flat term_depth terms_depth parentheses parentheses_in behind_all behind declared_function find_entity parameters
    type_of_text kind_within simple_of statement_of root_statement_of expression_of all_at each_at kind_of_word kind_of_variable kind_of_field call_of query_of
    making_of called_function arguments_of argument_of met_within is_met visit_all members_within supports is_base_of reaches_within same_kind first_item number_named
behaviour_twice_row = refl

-- an interface twice
face_twice_row : first_wrong demo opening (behaviour (codes "A") (x_echo ∷ (x_echo ∷ [])) ∷ []) ≡ Some (0, Twice)
unfolding first_wrong reason_of has_form is_line is_type_text is_behind_bracket is_function_text is_export_name is_term are_terms is_root_term are_root_terms
    parts_of all_differ may_stand last_ends names_are_known is_term_known are_terms_known names_are_new all_fits keeps_limits terms_are_flat plan_has_room
    block_has_room has_room is_flat term_depth terms_depth parentheses parentheses_in behind_all behind declared_function find_entity parameters
    type_of_text kind_within simple_of statement_of root_statement_of expression_of all_at each_at kind_of_word kind_of_variable kind_of_field call_of query_of
    making_of called_function arguments_of argument_of met_within is_met visit_all members_within supports is_base_of reaches_within same_kind first_item number_named
face_twice_row = refl

-- a method twice
method_twice_row : first_wrong demo opening (in_twice (returns_a ∷ (end_line ∷ (method x_echo (codes "twice") ∷ [])))) ≡ Some (4, Twice)
unfolding first_wrong reason_of has_form is_line is_type_text is_behind_bracket is_function_text is_export_name is_term are_terms is_root_term are_root_terms
    parts_of all_differ may_stand last_ends names_are_known is_term_known are_terms_known names_are_new all_fits keeps_limits terms_are_flat plan_has_room
    block_has_room has_room is_flat term_depth terms_depth parentheses parentheses_in behind_all behind declared_function find_entity parameters
    type_of_text kind_within simple_of statement_of root_statement_of expression_of all_at each_at kind_of_word kind_of_variable kind_of_field call_of query_of
    making_of called_function arguments_of argument_of met_within is_met visit_all members_within supports is_base_of reaches_within same_kind first_item number_named
method_twice_row = refl

-- a variable twice
variable_twice_row : first_wrong demo opening (in_twice (let_long (codes "x") (num 1) ∷ (let_long (codes "x") (num 1) ∷ []))) ≡ Some (3, Twice)
unfolding first_wrong reason_of has_form is_line is_type_text is_behind_bracket is_function_text is_export_name is_term are_terms is_root_term are_root_terms
    parts_of all_differ may_stand last_ends names_are_known is_term_known are_terms_known names_are_new all_fits keeps_limits terms_are_flat plan_has_room
    block_has_room has_room is_flat term_depth terms_depth parentheses parentheses_in behind_all behind declared_function find_entity parameters
    type_of_text kind_within simple_of statement_of root_statement_of expression_of all_at each_at kind_of_word kind_of_variable kind_of_field call_of query_of
    making_of called_function arguments_of argument_of met_within is_met visit_all members_within supports is_base_of reaches_within same_kind first_item number_named
variable_twice_row = refl

-- a variable with the name of a parameter
parameter_as_a_variable_row : first_wrong demo opening (in_twice (let_long (codes "a") (num 1) ∷ [])) ≡ Some (2, Twice)
unfolding first_wrong reason_of has_form is_line is_type_text is_behind_bracket is_function_text is_export_name is_term are_terms is_root_term are_root_terms
    parts_of all_differ may_stand last_ends names_are_known is_term_known are_terms_known names_are_new all_fits keeps_limits terms_are_flat plan_has_room
    block_has_room has_room is_flat term_depth terms_depth parentheses parentheses_in behind_all behind declared_function find_entity parameters
    type_of_text kind_within simple_of statement_of root_statement_of expression_of all_at each_at kind_of_word kind_of_variable kind_of_field call_of query_of
    making_of called_function arguments_of argument_of met_within is_met visit_all members_within supports is_base_of reaches_within same_kind first_item number_named
parameter_as_a_variable_row = refl

-- an export twice
export_twice_row : first_wrong demo opening (behaviour (codes "A") (x_echo ∷ []) ∷ (end_line ∷ (export (codes "e") (codes "A")
    ∷ (export (codes "e") (codes "A") ∷ [])))) ≡ Some (3, Twice)
unfolding first_wrong reason_of has_form is_line is_type_text is_behind_bracket is_function_text is_export_name is_term are_terms is_root_term are_root_terms
    parts_of all_differ may_stand last_ends names_are_known is_term_known are_terms_known names_are_new all_fits keeps_limits terms_are_flat plan_has_room
    block_has_room has_room is_flat term_depth terms_depth parentheses parentheses_in behind_all behind declared_function find_entity parameters
    type_of_text kind_within simple_of statement_of root_statement_of expression_of all_at each_at kind_of_word kind_of_variable kind_of_field call_of query_of
    making_of called_function arguments_of argument_of met_within is_met visit_all members_within supports is_base_of reaches_within same_kind first_item number_named
export_twice_row = refl

-- a service behind an export of the service manager's name
manager_exported_row : first_wrong parts_registry opening (behaviour (codes "A") ((codes "com.sun.star.uno.XInterface") ∷ []) ∷ (end_line
    ∷ (export (codes "ServiceManager") (codes "A") ∷ (singleton (codes "demo.Only") (codes "A") ∷ [])))) ≡ Some (3, Twice)
unfolding first_wrong reason_of has_form is_line is_type_text is_behind_bracket is_function_text is_export_name is_term are_terms is_root_term are_root_terms
    parts_of all_differ may_stand last_ends names_are_known is_term_known are_terms_known names_are_new all_fits keeps_limits terms_are_flat plan_has_room
    block_has_room has_room is_flat term_depth terms_depth parentheses parentheses_in behind_all behind declared_function find_entity parameters
    type_of_text kind_within simple_of statement_of root_statement_of expression_of all_at each_at kind_of_word kind_of_variable kind_of_field call_of query_of
    making_of called_function arguments_of argument_of met_within is_met visit_all members_within supports is_base_of reaches_within same_kind first_item number_named
manager_exported_row = refl

-- and an export of that name behind a service
export_of_the_manager_row : first_wrong parts_registry opening (behaviour (codes "A") ((codes "com.sun.star.uno.XInterface") ∷ []) ∷ (end_line
    ∷ (singleton (codes "demo.Only") (codes "A") ∷ (export (codes "ServiceManager") (codes "A") ∷ [])))) ≡ Some (3, Twice)
unfolding first_wrong reason_of has_form is_line is_type_text is_behind_bracket is_function_text is_export_name is_term are_terms is_root_term are_root_terms
    parts_of all_differ may_stand last_ends names_are_known is_term_known are_terms_known names_are_new all_fits keeps_limits terms_are_flat plan_has_room
    block_has_room has_room is_flat term_depth terms_depth parentheses parentheses_in behind_all behind declared_function find_entity parameters
    type_of_text kind_within simple_of statement_of root_statement_of expression_of all_at each_at kind_of_word kind_of_variable kind_of_field call_of query_of
    making_of called_function arguments_of argument_of met_within is_met visit_all members_within supports is_base_of reaches_within same_kind first_item number_named
export_of_the_manager_row = refl
