-- Lines in which something does not fit, and some in which all does, each with its place among the lines, from 0, and the reason that counts.
use Rattle.std.proofs.Common.{◌≡◌, refl, negsuc, [], ◌∷◌, None, Some, codes}
use Rattle.literal_model.specs.Literals.{number, string}
use Rattle.literal_model.specs.Literals as token
use Rattle.literal_model.specs.Readings.{number_named}
use Rattle.literal_model.specs.Literals.{first_item}
use Rattle.uno_model.specs.Codes.{same_kind}
use Rattle.uno_model.specs.Functions.{is_met, visit_all, met_within}
use Rattle.uno_model.specs.Names.{parts_of}
use Rattle.uno_model.specs.NamedTypes.{simple_of, kind_within, type_of_text}
use Rattle.uno_model.specs.Reaches.{reaches_within, is_base_of}
use Rattle.uno_model.specs.Registry.{find_entity, members_within}
use Rattle.uno_model.specs.Sound.{all_differ}
use Rattle.plan_model.specs.Building.{behind, behind_all}
use Rattle.plan_model.specs.Contexts.{opening, kind_of_variable, kind_of_field, kind_of_word, declared_function, called_function, parameters}
use Rattle.plan_model.specs.Expressions.{variable, own}
use Rattle.plan_model.specs.Fitting.{all_fits}
use Rattle.plan_model.specs.Forms.{is_type_text, is_behind_bracket, is_function_text, is_export_name, is_term, are_terms, is_line, is_root_term, are_root_terms}
use Rattle.plan_model.specs.Keeps.{has_form, reason_of, first_wrong}
use Rattle.plan_model.specs.KnownNames.{is_term_known, are_terms_known, names_are_known}
use Rattle.plan_model.specs.Limits.{term_depth, terms_depth, parentheses, parentheses_in, is_flat, terms_are_flat, has_room, block_has_room, plan_has_room, keeps_limits}
use Rattle.plan_model.specs.LinePlaces.{last_ends, may_stand}
use Rattle.plan_model.specs.Lines.{leaf, members, word, terms, behaviour, field, service, end_line}
use Rattle.plan_model.specs.Lines.{call, make, when, raise, let_variable}
use Rattle.plan_model.specs.NewNames.{names_are_new}
use Rattle.plan_model.specs.Plans.{supports}
use Rattle.plan_model.specs.TypedStatements.{call_of, query_of, making_of, statement_of, root_statement_of}
use Rattle.plan_model.specs.Typing.{expression_of, all_at, each_at, argument_of, arguments_of}
use Rattle.plan_model.specs.declared.comparison.Comparison.TheVariants.{Less}
use Rattle.plan_model.specs.declared.line_reason.LineReason.TheVariants.{Misfit}
use Rattle.plan_model.proofs.DemoLines.{num, named, new_variable, in_twice, in_node, let_long, returns_a}
use Rattle.plan_model.proofs.DemoPlans.{demo, x_echo, x_node, parts_registry}

-- a number that its type has not
number_past_its_type_row : first_wrong demo opening (in_twice (let_variable (new_variable (codes "b") (codes "byte")) (num 128) ∷ []))
    ≡ Some (2, Misfit)
unfolding first_wrong reason_of has_form is_line is_type_text is_behind_bracket is_function_text is_export_name is_term are_terms is_root_term are_root_terms
    parts_of all_differ may_stand last_ends names_are_known is_term_known are_terms_known names_are_new all_fits keeps_limits terms_are_flat plan_has_room
    block_has_room has_room is_flat term_depth terms_depth parentheses parentheses_in behind_all behind declared_function find_entity parameters
    type_of_text kind_within simple_of statement_of root_statement_of expression_of all_at each_at kind_of_word kind_of_variable kind_of_field call_of query_of
    making_of called_function arguments_of argument_of met_within is_met visit_all members_within supports is_base_of reaches_within same_kind first_item number_named
number_past_its_type_row = refl

-- a negative number of a type without a sign
negative_row : first_wrong demo opening (in_twice (let_variable (new_variable (codes "b") (codes "unsigned hyper")) (leaf (number (negsuc 0))) ∷ [])) ≡ Some (2, Misfit)
unfolding first_wrong reason_of has_form is_line is_type_text is_behind_bracket is_function_text is_export_name is_term are_terms is_root_term are_root_terms
    parts_of all_differ may_stand last_ends names_are_known is_term_known are_terms_known names_are_new all_fits keeps_limits terms_are_flat plan_has_room
    block_has_room has_room is_flat term_depth terms_depth parentheses parentheses_in behind_all behind declared_function find_entity parameters
    type_of_text kind_within simple_of statement_of root_statement_of expression_of all_at each_at kind_of_word kind_of_variable kind_of_field call_of query_of
    making_of called_function arguments_of argument_of met_within is_met visit_all members_within supports is_base_of reaches_within same_kind first_item number_named
negative_row = refl

-- null is no long
word_at_long_row : first_wrong demo opening (in_twice (let_long (codes "b") (leaf (token.word (codes "null"))) ∷ [])) ≡ Some (2, Misfit)
unfolding first_wrong reason_of has_form is_line is_type_text is_behind_bracket is_function_text is_export_name is_term are_terms is_root_term are_root_terms
    parts_of all_differ may_stand last_ends names_are_known is_term_known are_terms_known names_are_new all_fits keeps_limits terms_are_flat plan_has_room
    block_has_room has_room is_flat term_depth terms_depth parentheses parentheses_in behind_all behind declared_function find_entity parameters
    type_of_text kind_within simple_of statement_of root_statement_of expression_of all_at each_at kind_of_word kind_of_variable kind_of_field call_of query_of
    making_of called_function arguments_of argument_of met_within is_met visit_all members_within supports is_base_of reaches_within same_kind first_item number_named
word_at_long_row = refl

-- an any is written with its type
any_without_type_row : first_wrong demo opening (in_twice (let_variable (new_variable (codes "b") (codes "any")) (num 5) ∷ [])) ≡ Some (2, Misfit)
unfolding first_wrong reason_of has_form is_line is_type_text is_behind_bracket is_function_text is_export_name is_term are_terms is_root_term are_root_terms
    parts_of all_differ may_stand last_ends names_are_known is_term_known are_terms_known names_are_new all_fits keeps_limits terms_are_flat plan_has_room
    block_has_room has_room is_flat term_depth terms_depth parentheses parentheses_in behind_all behind declared_function find_entity parameters
    type_of_text kind_within simple_of statement_of root_statement_of expression_of all_at each_at kind_of_word kind_of_variable kind_of_field call_of query_of
    making_of called_function arguments_of argument_of met_within is_met visit_all members_within supports is_base_of reaches_within same_kind first_item number_named
any_without_type_row = refl

-- an exception with a member too few
members_too_few_row : first_wrong demo opening (in_twice (raise (codes "demo.Refused") (members (terms (leaf (token.word (codes "null"))
    ∷ (num 7 ∷ [])))) ∷ [])) ≡ Some (2, Misfit)
unfolding first_wrong reason_of has_form is_line is_type_text is_behind_bracket is_function_text is_export_name is_term are_terms is_root_term are_root_terms
    parts_of all_differ may_stand last_ends names_are_known is_term_known are_terms_known names_are_new all_fits keeps_limits terms_are_flat plan_has_room
    block_has_room has_room is_flat term_depth terms_depth parentheses parentheses_in behind_all behind declared_function find_entity parameters
    type_of_text kind_within simple_of statement_of root_statement_of expression_of all_at each_at kind_of_word kind_of_variable kind_of_field call_of query_of
    making_of called_function arguments_of argument_of met_within is_met visit_all members_within supports is_base_of reaches_within same_kind first_item number_named
members_too_few_row = refl

-- a variable of another type
other_variable_row : first_wrong demo opening (in_twice (let_variable (new_variable (codes "b") (codes "hyper")) (named (codes "a")) ∷ []))
    ≡ Some (2, Misfit)
unfolding first_wrong reason_of has_form is_line is_type_text is_behind_bracket is_function_text is_export_name is_term are_terms is_root_term are_root_terms
    parts_of all_differ may_stand last_ends names_are_known is_term_known are_terms_known names_are_new all_fits keeps_limits terms_are_flat plan_has_room
    block_has_room has_room is_flat term_depth terms_depth parentheses parentheses_in behind_all behind declared_function find_entity parameters
    type_of_text kind_within simple_of statement_of root_statement_of expression_of all_at each_at kind_of_word kind_of_variable kind_of_field call_of query_of
    making_of called_function arguments_of argument_of met_within is_met visit_all members_within supports is_base_of reaches_within same_kind first_item number_named
other_variable_row = refl

-- objects are not less than one another
less_of_objects_row : first_wrong demo opening (in_node (codes "shut") (when own Less (leaf (token.word (codes "null"))) None ∷ []))
    ≡ Some (3, Misfit)
unfolding first_wrong reason_of has_form is_line is_type_text is_behind_bracket is_function_text is_export_name is_term are_terms is_root_term are_root_terms
    parts_of all_differ may_stand last_ends names_are_known is_term_known are_terms_known names_are_new all_fits keeps_limits terms_are_flat plan_has_room
    block_has_room has_room is_flat term_depth terms_depth parentheses parentheses_in behind_all behind declared_function find_entity parameters
    type_of_text kind_within simple_of statement_of root_statement_of expression_of all_at each_at kind_of_word kind_of_variable kind_of_field call_of query_of
    making_of called_function arguments_of argument_of met_within is_met visit_all members_within supports is_base_of reaches_within same_kind first_item number_named
less_of_objects_row = refl

-- an argument too few
argument_too_few_row : first_wrong demo opening (in_node (codes "shut") (call None own (codes "relay") (word own ∷ []) ∷ [])) ≡ Some (3, Misfit)
unfolding first_wrong reason_of has_form is_line is_type_text is_behind_bracket is_function_text is_export_name is_term are_terms is_root_term are_root_terms
    parts_of all_differ may_stand last_ends names_are_known is_term_known are_terms_known names_are_new all_fits keeps_limits terms_are_flat plan_has_room
    block_has_room has_room is_flat term_depth terms_depth parentheses parentheses_in behind_all behind declared_function find_entity parameters
    type_of_text kind_within simple_of statement_of root_statement_of expression_of all_at each_at kind_of_word kind_of_variable kind_of_field call_of query_of
    making_of called_function arguments_of argument_of met_within is_met visit_all members_within supports is_base_of reaches_within same_kind first_item number_named
argument_too_few_row = refl

-- a result that does not fit its variable
result_of_another_type_row : first_wrong demo opening (in_node (codes "shut") (call (Some (new_variable (codes "r") (codes "hyper"))) own (codes "relay") (word own ∷ (num 1 ∷ [])) ∷ [])) ≡ Some (3, Misfit)
unfolding first_wrong reason_of has_form is_line is_type_text is_behind_bracket is_function_text is_export_name is_term are_terms is_root_term are_root_terms
    parts_of all_differ may_stand last_ends names_are_known is_term_known are_terms_known names_are_new all_fits keeps_limits terms_are_flat plan_has_room
    block_has_room has_room is_flat term_depth terms_depth parentheses parentheses_in behind_all behind declared_function find_entity parameters
    type_of_text kind_within simple_of statement_of root_statement_of expression_of all_at each_at kind_of_word kind_of_variable kind_of_field call_of query_of
    making_of called_function arguments_of argument_of met_within is_met visit_all members_within supports is_base_of reaches_within same_kind first_item number_named
result_of_another_type_row = refl

-- a result of type void in a variable of that type
result_of_void_row : first_wrong demo opening (in_node (codes "shut") (call (Some (new_variable (codes "r") (codes "void"))) own (codes "forget") [] ∷ (end_line ∷ (end_line ∷ [])))) ≡ None
unfolding first_wrong reason_of has_form is_line is_type_text is_behind_bracket is_function_text is_export_name is_term are_terms is_root_term are_root_terms
    parts_of all_differ may_stand last_ends names_are_known is_term_known are_terms_known names_are_new all_fits keeps_limits terms_are_flat plan_has_room
    block_has_room has_room is_flat term_depth terms_depth parentheses parentheses_in behind_all behind declared_function find_entity parameters
    type_of_text kind_within simple_of statement_of root_statement_of expression_of all_at each_at kind_of_word kind_of_variable kind_of_field call_of query_of
    making_of called_function arguments_of argument_of met_within is_met visit_all members_within supports is_base_of reaches_within same_kind first_item number_named
result_of_void_row = refl

-- a number has no functions
call_on_a_number_row : first_wrong demo opening (in_twice (call None (variable (codes "a")) (codes "twice") [] ∷ [])) ≡ Some (2, Misfit)
unfolding first_wrong reason_of has_form is_line is_type_text is_behind_bracket is_function_text is_export_name is_term are_terms is_root_term are_root_terms
    parts_of all_differ may_stand last_ends names_are_known is_term_known are_terms_known names_are_new all_fits keeps_limits terms_are_flat plan_has_room
    block_has_room has_room is_flat term_depth terms_depth parentheses parentheses_in behind_all behind declared_function find_entity parameters
    type_of_text kind_within simple_of statement_of root_statement_of expression_of all_at each_at kind_of_word kind_of_variable kind_of_field call_of query_of
    making_of called_function arguments_of argument_of met_within is_met visit_all members_within supports is_base_of reaches_within same_kind first_item number_named
call_on_a_number_row = refl

-- a new object under an interface that its behaviour does not support
new_misfit_row : first_wrong demo opening (in_twice (make (new_variable (codes "b") x_node) (codes "Echo") ∷ [])) ≡ Some (2, Misfit)
unfolding first_wrong reason_of has_form is_line is_type_text is_behind_bracket is_function_text is_export_name is_term are_terms is_root_term are_root_terms
    parts_of all_differ may_stand last_ends names_are_known is_term_known are_terms_known names_are_new all_fits keeps_limits terms_are_flat plan_has_room
    block_has_room has_room is_flat term_depth terms_depth parentheses parentheses_in behind_all behind declared_function find_entity parameters
    type_of_text kind_within simple_of statement_of root_statement_of expression_of all_at each_at kind_of_word kind_of_variable kind_of_field call_of query_of
    making_of called_function arguments_of argument_of met_within is_met visit_all members_within supports is_base_of reaches_within same_kind first_item number_named
new_misfit_row = refl

-- a new object of the behaviour whose block is open
new_own_row : first_wrong demo opening (in_twice (make (new_variable (codes "b") x_echo) (codes "Echo") ∷ (returns_a ∷ (end_line
    ∷ (end_line ∷ []))))) ≡ None
unfolding first_wrong reason_of has_form is_line is_type_text is_behind_bracket is_function_text is_export_name is_term are_terms is_root_term are_root_terms
    parts_of all_differ may_stand last_ends names_are_known is_term_known are_terms_known names_are_new all_fits keeps_limits terms_are_flat plan_has_room
    block_has_room has_room is_flat term_depth terms_depth parentheses parentheses_in behind_all behind declared_function find_entity parameters
    type_of_text kind_within simple_of statement_of root_statement_of expression_of all_at each_at kind_of_word kind_of_variable kind_of_field call_of query_of
    making_of called_function arguments_of argument_of met_within is_met visit_all members_within supports is_base_of reaches_within same_kind first_item number_named
new_own_row = refl

-- an interface is not raised
raise_of_no_exception_row : first_wrong demo opening (in_twice (raise x_echo (leaf (token.word (codes "null"))) ∷ [])) ≡ Some (2, Misfit)
unfolding first_wrong reason_of has_form is_line is_type_text is_behind_bracket is_function_text is_export_name is_term are_terms is_root_term are_root_terms
    parts_of all_differ may_stand last_ends names_are_known is_term_known are_terms_known names_are_new all_fits keeps_limits terms_are_flat plan_has_room
    block_has_room has_room is_flat term_depth terms_depth parentheses parentheses_in behind_all behind declared_function find_entity parameters
    type_of_text kind_within simple_of statement_of root_statement_of expression_of all_at each_at kind_of_word kind_of_variable kind_of_field call_of query_of
    making_of called_function arguments_of argument_of met_within is_met visit_all members_within supports is_base_of reaches_within same_kind first_item number_named
raise_of_no_exception_row = refl

-- a service without a field for each parameter
service_without_a_field_row : first_wrong parts_registry opening (behaviour (codes "A") ((codes "com.sun.star.uno.XInterface") ∷ [])
    ∷ (field (new_variable (codes "id") (codes "long")) ∷ (end_line ∷ (service (codes "demo.Part") (codes "A") ∷ [])))) ≡ Some (3, Misfit)
unfolding first_wrong reason_of has_form is_line is_type_text is_behind_bracket is_function_text is_export_name is_term are_terms is_root_term are_root_terms
    parts_of all_differ may_stand last_ends names_are_known is_term_known are_terms_known names_are_new all_fits keeps_limits terms_are_flat plan_has_room
    block_has_room has_room is_flat term_depth terms_depth parentheses parentheses_in behind_all behind declared_function find_entity parameters
    type_of_text kind_within simple_of statement_of root_statement_of expression_of all_at each_at kind_of_word kind_of_variable kind_of_field call_of query_of
    making_of called_function arguments_of argument_of met_within is_met visit_all members_within supports is_base_of reaches_within same_kind first_item number_named
service_without_a_field_row = refl

-- a service with a field for each
service_row : first_wrong parts_registry opening (behaviour (codes "A") ((codes "com.sun.star.uno.XInterface") ∷ [])
    ∷ (field (new_variable (codes "id") (codes "long")) ∷ (field (new_variable (codes "what") (codes "any"))
    ∷ (field (new_variable (codes "more") (codes "[]any")) ∷ (end_line ∷ (service (codes "demo.Part") (codes "A") ∷ [])))))) ≡ None
unfolding first_wrong reason_of has_form is_line is_type_text is_behind_bracket is_function_text is_export_name is_term are_terms is_root_term are_root_terms
    parts_of all_differ may_stand last_ends names_are_known is_term_known are_terms_known names_are_new all_fits keeps_limits terms_are_flat plan_has_room
    block_has_room has_room is_flat term_depth terms_depth parentheses parentheses_in behind_all behind declared_function find_entity parameters
    type_of_text kind_within simple_of statement_of root_statement_of expression_of all_at each_at kind_of_word kind_of_variable kind_of_field call_of query_of
    making_of called_function arguments_of argument_of met_within is_met visit_all members_within supports is_base_of reaches_within same_kind first_item number_named
service_row = refl
