-- Lines that have no form, or stand where they may not, each with its place among the lines, from 0, and the reason that counts.
use Rattle.std.proofs.Common.{◌≡◌, refl, [], ◌∷◌, None, Some, codes}
use Rattle.literal_model.specs.Literals.{number, string}
use Rattle.literal_model.specs.Literals as token
use Rattle.literal_model.specs.Readings.{number_named}
use Rattle.literal_model.specs.Literals.{first_item}
use Rattle.std.specs.Str.{is_utf8}
use Rattle.uno_model.specs.Codes.{same_kind}
use Rattle.uno_model.specs.Functions.{is_met, visit_all, met_within}
use Rattle.uno_model.specs.Names.{parts_of}
use Rattle.uno_model.specs.NamedTypes.{simple_of, kind_within, type_of_text}
use Rattle.uno_model.specs.Reaches.{reaches_within, is_base_of}
use Rattle.uno_model.specs.Registry.{find_entity, members_within}
use Rattle.uno_model.specs.Sound.{all_differ}
use Rattle.plan_model.specs.Building.{behind, behind_all}
use Rattle.plan_model.specs.Contexts.{opening, kind_of_variable, kind_of_field, kind_of_word, declared_function, called_function, parameters}
use Rattle.plan_model.specs.Expressions.{variable, own}
use Rattle.plan_model.specs.Fitting.{all_fits}
use Rattle.plan_model.specs.Forms.{is_type_text, is_behind_bracket, is_function_text, is_export_name, is_term, are_terms, is_line, is_root_term, are_root_terms}
use Rattle.plan_model.specs.Keeps.{has_form, reason_of, first_wrong}
use Rattle.plan_model.specs.KnownNames.{is_term_known, are_terms_known, names_are_known}
use Rattle.plan_model.specs.Limits.{term_depth, terms_depth, parentheses, parentheses_in, is_flat, terms_are_flat, has_room, block_has_room, plan_has_room, keeps_limits}
use Rattle.plan_model.specs.LinePlaces.{last_ends, may_stand}
use Rattle.plan_model.specs.Lines.{leaf, operation, word, behaviour, export, end_line}
use Rattle.plan_model.specs.Lines.{call, when, return}
use Rattle.plan_model.specs.NewNames.{names_are_new}
use Rattle.plan_model.specs.Plans.{supports}
use Rattle.plan_model.specs.TypedStatements.{call_of, query_of, making_of, statement_of, root_statement_of}
use Rattle.plan_model.specs.Typing.{expression_of, all_at, each_at, argument_of, arguments_of}
use Rattle.plan_model.specs.declared.comparison.Comparison.TheVariants.{Equal}
use Rattle.plan_model.specs.declared.line_reason.LineReason.TheVariants.{Form}
use Rattle.plan_model.specs.declared.operation.Operation.TheVariants.{Add}
use Rattle.plan_model.proofs.DemoLines.{num, in_twice, in_node, in_thread_of, let_long}
use Rattle.plan_model.proofs.DemoPlans.{demo, x_echo}

-- a block ends that is not open
end_at_the_top_row : first_wrong demo opening (end_line ∷ []) ≡ Some (0, Form)
unfolding first_wrong reason_of has_form is_line is_type_text is_behind_bracket is_function_text is_export_name is_term are_terms is_root_term are_root_terms
    parts_of all_differ may_stand last_ends names_are_known is_term_known are_terms_known names_are_new all_fits keeps_limits terms_are_flat plan_has_room
    block_has_room has_room is_flat term_depth terms_depth parentheses parentheses_in behind_all behind declared_function find_entity parameters
    type_of_text kind_within simple_of statement_of root_statement_of expression_of all_at each_at kind_of_word kind_of_variable kind_of_field call_of query_of
    making_of called_function arguments_of argument_of met_within is_met visit_all members_within supports is_base_of reaches_within same_kind first_item number_named
end_at_the_top_row = refl

-- a behaviour in a behaviour
behaviour_in_a_behaviour_row : first_wrong demo opening (behaviour (codes "A") (x_echo ∷ []) ∷ (behaviour (codes "B") (x_echo ∷ []) ∷ []))
    ≡ Some (1, Form)
unfolding first_wrong reason_of has_form is_line is_type_text is_behind_bracket is_function_text is_export_name is_term are_terms is_root_term are_root_terms
    parts_of all_differ may_stand last_ends names_are_known is_term_known are_terms_known names_are_new all_fits keeps_limits terms_are_flat plan_has_room
    block_has_room has_room is_flat term_depth terms_depth parentheses parentheses_in behind_all behind declared_function find_entity parameters
    type_of_text kind_within simple_of statement_of root_statement_of expression_of all_at each_at kind_of_word kind_of_variable kind_of_field call_of query_of
    making_of called_function arguments_of argument_of met_within is_met visit_all members_within supports is_base_of reaches_within same_kind first_item number_named
behaviour_in_a_behaviour_row = refl

-- a behaviour without an interface
no_face_row : first_wrong demo opening (behaviour (codes "A") [] ∷ []) ≡ Some (0, Form)
unfolding first_wrong reason_of has_form is_line is_type_text is_behind_bracket is_function_text is_export_name is_term are_terms is_root_term are_root_terms
    parts_of all_differ may_stand last_ends names_are_known is_term_known are_terms_known names_are_new all_fits keeps_limits terms_are_flat plan_has_room
    block_has_room has_room is_flat term_depth terms_depth parentheses parentheses_in behind_all behind declared_function find_entity parameters
    type_of_text kind_within simple_of statement_of root_statement_of expression_of all_at each_at kind_of_word kind_of_variable kind_of_field call_of query_of
    making_of called_function arguments_of argument_of met_within is_met visit_all members_within supports is_base_of reaches_within same_kind first_item number_named
no_face_row = refl

-- a name that is a word of the grammar
reserved_name_row : first_wrong demo opening (behaviour (codes "in") (x_echo ∷ []) ∷ []) ≡ Some (0, Form)
unfolding first_wrong reason_of has_form is_line is_type_text is_behind_bracket is_function_text is_export_name is_term are_terms is_root_term are_root_terms
    parts_of all_differ may_stand last_ends names_are_known is_term_known are_terms_known names_are_new all_fits keeps_limits terms_are_flat plan_has_room
    block_has_room has_room is_flat term_depth terms_depth parentheses parentheses_in behind_all behind declared_function find_entity parameters
    type_of_text kind_within simple_of statement_of root_statement_of expression_of all_at each_at kind_of_word kind_of_variable kind_of_field call_of query_of
    making_of called_function arguments_of argument_of met_within is_met visit_all members_within supports is_base_of reaches_within same_kind first_item number_named
reserved_name_row = refl

-- a blank in the name of an export
export_name_row : first_wrong demo opening (export (codes "a b") (codes "Echo") ∷ []) ≡ Some (0, Form)
unfolding first_wrong reason_of has_form is_line is_type_text is_behind_bracket is_function_text is_export_name is_term are_terms is_root_term are_root_terms
    parts_of all_differ may_stand last_ends names_are_known is_term_known are_terms_known names_are_new all_fits keeps_limits terms_are_flat plan_has_room
    block_has_room has_room is_flat term_depth terms_depth parentheses parentheses_in behind_all behind declared_function find_entity parameters
    type_of_text kind_within simple_of statement_of root_statement_of expression_of all_at each_at kind_of_word kind_of_variable kind_of_field call_of query_of
    making_of called_function arguments_of argument_of met_within is_met visit_all members_within supports is_base_of reaches_within same_kind first_item number_named
export_name_row = refl

-- a number that no type has
number_past_all_row : first_wrong demo opening (in_twice (let_long (codes "b") (num 18446744073709551616) ∷ [])) ≡ Some (2, Form)
unfolding first_wrong reason_of has_form is_line is_type_text is_behind_bracket is_function_text is_export_name is_term are_terms is_root_term are_root_terms
    parts_of all_differ may_stand last_ends names_are_known is_term_known are_terms_known names_are_new all_fits keeps_limits terms_are_flat plan_has_room
    block_has_room has_room is_flat term_depth terms_depth parentheses parentheses_in behind_all behind declared_function find_entity parameters
    type_of_text kind_within simple_of statement_of root_statement_of expression_of all_at each_at kind_of_word kind_of_variable kind_of_field call_of query_of
    making_of called_function arguments_of argument_of met_within is_met visit_all members_within supports is_base_of reaches_within same_kind first_item number_named
number_past_all_row = refl

-- a word that is neither a value nor the name of an item
unknown_word_row : first_wrong demo opening (in_twice (let_long (codes "b") (leaf (token.word (codes "abc"))) ∷ [])) ≡ Some (2, Form)
unfolding first_wrong reason_of has_form is_line is_type_text is_behind_bracket is_function_text is_export_name is_term are_terms is_root_term are_root_terms
    parts_of all_differ may_stand last_ends names_are_known is_term_known are_terms_known names_are_new all_fits keeps_limits terms_are_flat plan_has_room
    block_has_room has_room is_flat term_depth terms_depth parentheses parentheses_in behind_all behind declared_function find_entity parameters
    type_of_text kind_within simple_of statement_of root_statement_of expression_of all_at each_at kind_of_word kind_of_variable kind_of_field call_of query_of
    making_of called_function arguments_of argument_of met_within is_met visit_all members_within supports is_base_of reaches_within same_kind first_item number_named
    is_utf8
unknown_word_row = refl

-- nothing is returned where the result is a number
return_of_nothing_row : first_wrong demo opening (in_twice (return None ∷ [])) ≡ Some (2, Form)
unfolding first_wrong reason_of has_form is_line is_type_text is_behind_bracket is_function_text is_export_name is_term are_terms is_root_term are_root_terms
    parts_of all_differ may_stand last_ends names_are_known is_term_known are_terms_known names_are_new all_fits keeps_limits terms_are_flat plan_has_room
    block_has_room has_room is_flat term_depth terms_depth parentheses parentheses_in behind_all behind declared_function find_entity parameters
    type_of_text kind_within simple_of statement_of root_statement_of expression_of all_at each_at kind_of_word kind_of_variable kind_of_field call_of query_of
    making_of called_function arguments_of argument_of met_within is_met visit_all members_within supports is_base_of reaches_within same_kind first_item number_named
return_of_nothing_row = refl

-- something is returned where the result is void
return_in_void_row : first_wrong demo opening (in_node (codes "shut") (return (Some (num 1)) ∷ [])) ≡ Some (3, Form)
unfolding first_wrong reason_of has_form is_line is_type_text is_behind_bracket is_function_text is_export_name is_term are_terms is_root_term are_root_terms
    parts_of all_differ may_stand last_ends names_are_known is_term_known are_terms_known names_are_new all_fits keeps_limits terms_are_flat plan_has_room
    block_has_room has_room is_flat term_depth terms_depth parentheses parentheses_in behind_all behind declared_function find_entity parameters
    type_of_text kind_within simple_of statement_of root_statement_of expression_of all_at each_at kind_of_word kind_of_variable kind_of_field call_of query_of
    making_of called_function arguments_of argument_of met_within is_met visit_all members_within supports is_base_of reaches_within same_kind first_item number_named
return_in_void_row = refl

-- and so by a `when`
when_in_void_row : first_wrong demo opening (in_node (codes "shut") (when own Equal (leaf (token.word (codes "null"))) (Some (num 1)) ∷ []))
    ≡ Some (3, Form)
unfolding first_wrong reason_of has_form is_line is_type_text is_behind_bracket is_function_text is_export_name is_term are_terms is_root_term are_root_terms
    parts_of all_differ may_stand last_ends names_are_known is_term_known are_terms_known names_are_new all_fits keeps_limits terms_are_flat plan_has_room
    block_has_room has_room is_flat term_depth terms_depth parentheses parentheses_in behind_all behind declared_function find_entity parameters
    type_of_text kind_within simple_of statement_of root_statement_of expression_of all_at each_at kind_of_word kind_of_variable kind_of_field call_of query_of
    making_of called_function arguments_of argument_of met_within is_met visit_all members_within supports is_base_of reaches_within same_kind first_item number_named
when_in_void_row = refl

-- a method that is not void ends without a return
end_of_a_method_row : first_wrong demo opening (in_twice (let_long (codes "b") (num 1) ∷ (end_line ∷ []))) ≡ Some (3, Form)
unfolding first_wrong reason_of has_form is_line is_type_text is_behind_bracket is_function_text is_export_name is_term are_terms is_root_term are_root_terms
    parts_of all_differ may_stand last_ends names_are_known is_term_known are_terms_known names_are_new all_fits keeps_limits terms_are_flat plan_has_room
    block_has_room has_room is_flat term_depth terms_depth parentheses parentheses_in behind_all behind declared_function find_entity parameters
    type_of_text kind_within simple_of statement_of root_statement_of expression_of all_at each_at kind_of_word kind_of_variable kind_of_field call_of query_of
    making_of called_function arguments_of argument_of met_within is_met visit_all members_within supports is_base_of reaches_within same_kind first_item number_named
end_of_a_method_row = refl

-- and so behind a `when`
end_behind_when_row : first_wrong demo opening (in_twice (when (variable (codes "a")) Equal (num 1) (Some (num 2)) ∷ (end_line ∷ [])))
    ≡ Some (3, Form)
unfolding first_wrong reason_of has_form is_line is_type_text is_behind_bracket is_function_text is_export_name is_term are_terms is_root_term are_root_terms
    parts_of all_differ may_stand last_ends names_are_known is_term_known are_terms_known names_are_new all_fits keeps_limits terms_are_flat plan_has_room
    block_has_room has_room is_flat term_depth terms_depth parentheses parentheses_in behind_all behind declared_function find_entity parameters
    type_of_text kind_within simple_of statement_of root_statement_of expression_of all_at each_at kind_of_word kind_of_variable kind_of_field call_of query_of
    making_of called_function arguments_of argument_of met_within is_met visit_all members_within supports is_base_of reaches_within same_kind first_item number_named
end_behind_when_row = refl

-- a root makes no variable by `let`
let_in_a_thread_row : first_wrong demo opening (in_thread_of (let_long (codes "b") (num 1) ∷ [])) ≡ Some (2, Form)
unfolding first_wrong reason_of has_form is_line is_type_text is_behind_bracket is_function_text is_export_name is_term are_terms is_root_term are_root_terms
    parts_of all_differ may_stand last_ends names_are_known is_term_known are_terms_known names_are_new all_fits keeps_limits terms_are_flat plan_has_room
    block_has_room has_room is_flat term_depth terms_depth parentheses parentheses_in behind_all behind declared_function find_entity parameters
    type_of_text kind_within simple_of statement_of root_statement_of expression_of all_at each_at kind_of_word kind_of_variable kind_of_field call_of query_of
    making_of called_function arguments_of argument_of met_within is_met visit_all members_within supports is_base_of reaches_within same_kind first_item number_named
let_in_a_thread_row = refl

-- a root has no object of its own
own_in_a_thread_row : first_wrong demo opening (in_thread_of (call None (variable (codes "q")) (codes "turn") (word own ∷ []) ∷ [])) ≡ Some (2, Form)
unfolding first_wrong reason_of has_form is_line is_type_text is_behind_bracket is_function_text is_export_name is_term are_terms is_root_term are_root_terms
    parts_of all_differ may_stand last_ends names_are_known is_term_known are_terms_known names_are_new all_fits keeps_limits terms_are_flat plan_has_room
    block_has_room has_room is_flat term_depth terms_depth parentheses parentheses_in behind_all behind declared_function find_entity parameters
    type_of_text kind_within simple_of statement_of root_statement_of expression_of all_at each_at kind_of_word kind_of_variable kind_of_field call_of query_of
    making_of called_function arguments_of argument_of met_within is_met visit_all members_within supports is_base_of reaches_within same_kind first_item number_named
own_in_a_thread_row = refl

-- and no operations
sum_in_a_thread_row : first_wrong demo opening (in_thread_of (call None (variable (codes "q")) (codes "check") (operation Add (num 1) (num 2) ∷ []) ∷ [])) ≡ Some (2, Form)
unfolding first_wrong reason_of has_form is_line is_type_text is_behind_bracket is_function_text is_export_name is_term are_terms is_root_term are_root_terms
    parts_of all_differ may_stand last_ends names_are_known is_term_known are_terms_known names_are_new all_fits keeps_limits terms_are_flat plan_has_room
    block_has_room has_room is_flat term_depth terms_depth parentheses parentheses_in behind_all behind declared_function find_entity parameters
    type_of_text kind_within simple_of statement_of root_statement_of expression_of all_at each_at kind_of_word kind_of_variable kind_of_field call_of query_of
    making_of called_function arguments_of argument_of met_within is_met visit_all members_within supports is_base_of reaches_within same_kind first_item number_named
sum_in_a_thread_row = refl
