-- Lines with a name that is not known, each with its place among the lines, from 0, and the reason that counts.
use Rattle.std.proofs.Common.{◌≡◌, refl, [], ◌∷◌, None, Some, codes}
use Rattle.literal_model.specs.Readings.{number_named}
use Rattle.literal_model.specs.Literals.{first_item}
use Rattle.uno_model.specs.Codes.{same_kind}
use Rattle.uno_model.specs.Functions.{is_met, visit_all, met_within}
use Rattle.uno_model.specs.Names.{parts_of}
use Rattle.uno_model.specs.NamedTypes.{simple_of, kind_within, type_of_text}
use Rattle.uno_model.specs.Reaches.{reaches_within, is_base_of}
use Rattle.uno_model.specs.Registry.{find_entity, members_within}
use Rattle.uno_model.specs.Sound.{all_differ}
use Rattle.plan_model.specs.Building.{behind, behind_all}
use Rattle.plan_model.specs.Contexts.{opening, kind_of_variable, kind_of_field, kind_of_word, declared_function, called_function, parameters}
use Rattle.plan_model.specs.Expressions.{own}
use Rattle.plan_model.specs.Fitting.{all_fits}
use Rattle.plan_model.specs.Forms.{is_type_text, is_behind_bracket, is_function_text, is_export_name, is_term, are_terms, is_line, is_root_term, are_root_terms}
use Rattle.plan_model.specs.Keeps.{has_form, reason_of, first_wrong}
use Rattle.plan_model.specs.KnownNames.{is_term_known, are_terms_known, names_are_known}
use Rattle.plan_model.specs.Limits.{term_depth, terms_depth, parentheses, parentheses_in, is_flat, terms_are_flat, has_room, block_has_room, plan_has_room, keeps_limits}
use Rattle.plan_model.specs.LinePlaces.{last_ends, may_stand}
use Rattle.plan_model.specs.Lines.{type_named, typed, behaviour, field, method, export}
use Rattle.plan_model.specs.Lines.{call, drop_variable, let_variable}
use Rattle.plan_model.specs.NewNames.{names_are_new}
use Rattle.plan_model.specs.Plans.{supports}
use Rattle.plan_model.specs.TypedStatements.{call_of, query_of, making_of, statement_of, root_statement_of}
use Rattle.plan_model.specs.Typing.{expression_of, all_at, each_at, argument_of, arguments_of}
use Rattle.plan_model.specs.declared.line_reason.LineReason.TheVariants.{Unknown}
use Rattle.plan_model.proofs.DemoLines.{num, named, new_variable, in_twice, in_node, let_long}
use Rattle.plan_model.proofs.DemoPlans.{demo, x_echo}

-- an interface that is not there
unknown_face_row : first_wrong demo opening (behaviour (codes "A") ((codes "demo.Nope") ∷ []) ∷ []) ≡ Some (0, Unknown)
unfolding first_wrong reason_of has_form is_line is_type_text is_behind_bracket is_function_text is_export_name is_term are_terms is_root_term are_root_terms
    parts_of all_differ may_stand last_ends names_are_known is_term_known are_terms_known names_are_new all_fits keeps_limits terms_are_flat plan_has_room
    block_has_room has_room is_flat term_depth terms_depth parentheses parentheses_in behind_all behind declared_function find_entity parameters
    type_of_text kind_within simple_of statement_of root_statement_of expression_of all_at each_at kind_of_word kind_of_variable kind_of_field call_of query_of
    making_of called_function arguments_of argument_of met_within is_met visit_all members_within supports is_base_of reaches_within same_kind first_item number_named
unknown_face_row = refl

-- an exception is no interface
exception_as_a_face_row : first_wrong demo opening (behaviour (codes "A") ((codes "demo.Refused") ∷ []) ∷ []) ≡ Some (0, Unknown)
unfolding first_wrong reason_of has_form is_line is_type_text is_behind_bracket is_function_text is_export_name is_term are_terms is_root_term are_root_terms
    parts_of all_differ may_stand last_ends names_are_known is_term_known are_terms_known names_are_new all_fits keeps_limits terms_are_flat plan_has_room
    block_has_room has_room is_flat term_depth terms_depth parentheses parentheses_in behind_all behind declared_function find_entity parameters
    type_of_text kind_within simple_of statement_of root_statement_of expression_of all_at each_at kind_of_word kind_of_variable kind_of_field call_of query_of
    making_of called_function arguments_of argument_of met_within is_met visit_all members_within supports is_base_of reaches_within same_kind first_item number_named
exception_as_a_face_row = refl

-- a behaviour that does not stand before
export_of_nobody_row : first_wrong demo opening (export (codes "x") (codes "Nobody") ∷ []) ≡ Some (0, Unknown)
unfolding first_wrong reason_of has_form is_line is_type_text is_behind_bracket is_function_text is_export_name is_term are_terms is_root_term are_root_terms
    parts_of all_differ may_stand last_ends names_are_known is_term_known are_terms_known names_are_new all_fits keeps_limits terms_are_flat plan_has_room
    block_has_room has_room is_flat term_depth terms_depth parentheses parentheses_in behind_all behind declared_function find_entity parameters
    type_of_text kind_within simple_of statement_of root_statement_of expression_of all_at each_at kind_of_word kind_of_variable kind_of_field call_of query_of
    making_of called_function arguments_of argument_of met_within is_met visit_all members_within supports is_base_of reaches_within same_kind first_item number_named
export_of_nobody_row = refl

-- a function that the interface has not
unknown_function_row : first_wrong demo opening (behaviour (codes "A") (x_echo ∷ []) ∷ (method x_echo (codes "thrice") ∷ [])) ≡ Some (1, Unknown)
unfolding first_wrong reason_of has_form is_line is_type_text is_behind_bracket is_function_text is_export_name is_term are_terms is_root_term are_root_terms
    parts_of all_differ may_stand last_ends names_are_known is_term_known are_terms_known names_are_new all_fits keeps_limits terms_are_flat plan_has_room
    block_has_room has_room is_flat term_depth terms_depth parentheses parentheses_in behind_all behind declared_function find_entity parameters
    type_of_text kind_within simple_of statement_of root_statement_of expression_of all_at each_at kind_of_word kind_of_variable kind_of_field call_of query_of
    making_of called_function arguments_of argument_of met_within is_met visit_all members_within supports is_base_of reaches_within same_kind first_item number_named
unknown_function_row = refl

-- a type that is not there
unknown_type_row : first_wrong demo opening (in_twice (let_variable (new_variable (codes "b") (codes "demo.Nope")) (num 1) ∷ [])) ≡ Some (2, Unknown)
unfolding first_wrong reason_of has_form is_line is_type_text is_behind_bracket is_function_text is_export_name is_term are_terms is_root_term are_root_terms
    parts_of all_differ may_stand last_ends names_are_known is_term_known are_terms_known names_are_new all_fits keeps_limits terms_are_flat plan_has_room
    block_has_room has_room is_flat term_depth terms_depth parentheses parentheses_in behind_all behind declared_function find_entity parameters
    type_of_text kind_within simple_of statement_of root_statement_of expression_of all_at each_at kind_of_word kind_of_variable kind_of_field call_of query_of
    making_of called_function arguments_of argument_of met_within is_met visit_all members_within supports is_base_of reaches_within same_kind first_item number_named
unknown_type_row = refl

-- nor is a sequence of void a type
sequence_of_void_row : first_wrong demo opening (behaviour (codes "A") (x_echo ∷ [])
    ∷ (field (new_variable (codes "f") (codes "[]void")) ∷ [])) ≡ Some (1, Unknown)
unfolding first_wrong reason_of has_form is_line is_type_text is_behind_bracket is_function_text is_export_name is_term are_terms is_root_term are_root_terms
    parts_of all_differ may_stand last_ends names_are_known is_term_known are_terms_known names_are_new all_fits keeps_limits terms_are_flat plan_has_room
    block_has_room has_room is_flat term_depth terms_depth parentheses parentheses_in behind_all behind declared_function find_entity parameters
    type_of_text kind_within simple_of statement_of root_statement_of expression_of all_at each_at kind_of_word kind_of_variable kind_of_field call_of query_of
    making_of called_function arguments_of argument_of met_within is_met visit_all members_within supports is_base_of reaches_within same_kind first_item number_named
sequence_of_void_row = refl

-- a variable in its own line
unknown_variable_row : first_wrong demo opening (in_twice (let_long (codes "b") (named (codes "b")) ∷ [])) ≡ Some (2, Unknown)
unfolding first_wrong reason_of has_form is_line is_type_text is_behind_bracket is_function_text is_export_name is_term are_terms is_root_term are_root_terms
    parts_of all_differ may_stand last_ends names_are_known is_term_known are_terms_known names_are_new all_fits keeps_limits terms_are_flat plan_has_room
    block_has_room has_room is_flat term_depth terms_depth parentheses parentheses_in behind_all behind declared_function find_entity parameters
    type_of_text kind_within simple_of statement_of root_statement_of expression_of all_at each_at kind_of_word kind_of_variable kind_of_field call_of query_of
    making_of called_function arguments_of argument_of met_within is_met visit_all members_within supports is_base_of reaches_within same_kind first_item number_named
unknown_variable_row = refl

-- a variable behind its `drop`
dropped_row : first_wrong demo opening (in_twice (let_long (codes "b") (num 1) ∷ (drop_variable (codes "b")
    ∷ (let_long (codes "d") (named (codes "b")) ∷ [])))) ≡ Some (4, Unknown)
unfolding first_wrong reason_of has_form is_line is_type_text is_behind_bracket is_function_text is_export_name is_term are_terms is_root_term are_root_terms
    parts_of all_differ may_stand last_ends names_are_known is_term_known are_terms_known names_are_new all_fits keeps_limits terms_are_flat plan_has_room
    block_has_room has_room is_flat term_depth terms_depth parentheses parentheses_in behind_all behind declared_function find_entity parameters
    type_of_text kind_within simple_of statement_of root_statement_of expression_of all_at each_at kind_of_word kind_of_variable kind_of_field call_of query_of
    making_of called_function arguments_of argument_of met_within is_met visit_all members_within supports is_base_of reaches_within same_kind first_item number_named
dropped_row = refl

-- the first three functions are not called
call_of_query_row : first_wrong demo opening (in_node (codes "shut") (call None own (codes "queryInterface") (type_named (codes "long") ∷ []) ∷ [])) ≡ Some (3, Unknown)
unfolding first_wrong reason_of has_form is_line is_type_text is_behind_bracket is_function_text is_export_name is_term are_terms is_root_term are_root_terms
    parts_of all_differ may_stand last_ends names_are_known is_term_known are_terms_known names_are_new all_fits keeps_limits terms_are_flat plan_has_room
    block_has_room has_room is_flat term_depth terms_depth parentheses parentheses_in behind_all behind declared_function find_entity parameters
    type_of_text kind_within simple_of statement_of root_statement_of expression_of all_at each_at kind_of_word kind_of_variable kind_of_field call_of query_of
    making_of called_function arguments_of argument_of met_within is_met visit_all members_within supports is_base_of reaches_within same_kind first_item number_named
call_of_query_row = refl

-- an any of a type that is not there
unknown_any_row : first_wrong demo opening (in_twice (let_variable (new_variable (codes "b") (codes "any")) (typed (codes "demo.Nope") (num 5)) ∷ [])) ≡ Some (2, Unknown)
unfolding first_wrong reason_of has_form is_line is_type_text is_behind_bracket is_function_text is_export_name is_term are_terms is_root_term are_root_terms
    parts_of all_differ may_stand last_ends names_are_known is_term_known are_terms_known names_are_new all_fits keeps_limits terms_are_flat plan_has_room
    block_has_room has_room is_flat term_depth terms_depth parentheses parentheses_in behind_all behind declared_function find_entity parameters
    type_of_text kind_within simple_of statement_of root_statement_of expression_of all_at each_at kind_of_word kind_of_variable kind_of_field call_of query_of
    making_of called_function arguments_of argument_of met_within is_met visit_all members_within supports is_base_of reaches_within same_kind first_item number_named
unknown_any_row = refl
