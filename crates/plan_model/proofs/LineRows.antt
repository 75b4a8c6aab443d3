-- The lines of the node plan: their text, and the plan that they make.
use Rattle.std.proofs.Common.{◌≡◌, refl, [], ◌∷◌, map, None, codes}
use Rattle.literal_model.specs.Readings.{number_named}
use Rattle.literal_model.specs.Literals.{first_item}
use Rattle.std.specs.Fmt.{digits}
use Rattle.std.specs.Str.{is_utf8, chars}
use lib.Utf8.{encode}
use Rattle.uno_model.specs.Codes.{same_kind}
use Rattle.uno_model.specs.Functions.{is_met, visit_all, met_within}
use Rattle.uno_model.specs.Names.{parts_of}
use Rattle.uno_model.specs.NamedTypes.{simple_of, kind_within, type_of_text}
use Rattle.uno_model.specs.Reaches.{reaches_within, is_base_of}
use Rattle.uno_model.specs.Registry.{find_entity, members_within}
use Rattle.uno_model.specs.Sound.{all_differ}
use Rattle.plan_model.specs.Building.{behind, behind_all}
use Rattle.plan_model.specs.Contexts.{at_top, opening, kind_of_variable, kind_of_field, kind_of_word, declared_function, called_function, parameters}
use Rattle.plan_model.specs.Fitting.{all_fits}
use Rattle.plan_model.specs.Forms.{is_type_text, is_behind_bracket, is_function_text, is_export_name, is_term, are_terms, is_line, is_root_term, are_root_terms}
use Rattle.plan_model.specs.Keeps.{has_form, reason_of, first_wrong}
use Rattle.plan_model.specs.KnownNames.{is_term_known, are_terms_known, names_are_known}
use Rattle.plan_model.specs.Limits.{term_depth, terms_depth, parentheses, parentheses_in, is_flat, terms_are_flat, has_room, block_has_room, plan_has_room, keeps_limits}
use Rattle.plan_model.specs.LinePlaces.{last_ends, may_stand}
use Rattle.plan_model.specs.NewNames.{names_are_new}
use Rattle.plan_model.specs.PlanText.{line_text, line_words, term_text, terms_text, behind_comma}
use Rattle.plan_model.specs.Plans.{supports}
use Rattle.plan_model.specs.TypedStatements.{call_of, query_of, making_of, statement_of, root_statement_of}
use Rattle.plan_model.specs.Typing.{expression_of, all_at, each_at, argument_of, arguments_of}
use Rattle.plan_model.proofs.DemoLines.{node_lines}
use Rattle.plan_model.proofs.DemoPlans.{demo, node_plan}

-- the text of the node plan's lines
node_text_row : map line_text node_lines
    ≡ codes "behaviour Node demo.XNode"
    ∷ (codes "field kept demo.XNode"
    ∷ (codes "method demo.XNode relay"
    ∷ (codes "when $depth == 0 return 0"
    ∷ (codes "call r long = $back.relay($self,sub($depth,1))"
    ∷ (codes "return add($r,1)"
    ∷ (codes "end"
    ∷ (codes "method demo.XNode turn"
    ∷ (codes "set $.kept = $n"
    ∷ (codes "return $n"
    ∷ (codes "end"
    ∷ (codes "method demo.XNode check"
    ∷ (codes "when $a == 0 return"
    ∷ (codes "raise demo.Refused {\"no\",null,7}"
    ∷ (codes "end"
    ∷ (codes "method demo.XNode forget"
    ∷ (codes "raise demo.Refused {\"no\",null,7}"
    ∷ (codes "end"
    ∷ (codes "method demo.XNode shut"
    ∷ (codes "dispose"
    ∷ (codes "end"
    ∷ (codes "end"
    ∷ (codes "export \"node\" Node" ∷ []))))))))))))))))))))))
unfolding line_words term_text terms_text behind_comma digits
node_text_row = refl

-- they make the node plan
node_made_row : behind_all demo node_lines opening ≡ record { plan = node_plan; block = at_top; variables = [] }
unfolding behind_all behind declared_function find_entity parameters type_of_text kind_within simple_of statement_of expression_of all_at each_at
    kind_of_word kind_of_variable kind_of_field call_of called_function arguments_of argument_of met_within is_met visit_all members_within supports is_base_of
    reaches_within same_kind first_item number_named
node_made_row = refl

-- and none of them is wrong
node_right_row : first_wrong demo opening node_lines ≡ None
unfolding first_wrong reason_of has_form is_line is_type_text is_behind_bracket is_function_text is_export_name is_term are_terms is_root_term are_root_terms
    parts_of all_differ may_stand last_ends names_are_known is_term_known are_terms_known names_are_new all_fits keeps_limits terms_are_flat plan_has_room
    block_has_room has_room is_flat term_depth terms_depth parentheses parentheses_in behind_all behind declared_function find_entity parameters
    type_of_text kind_within simple_of statement_of root_statement_of expression_of all_at each_at kind_of_word kind_of_variable kind_of_field call_of query_of
    making_of called_function arguments_of argument_of met_within is_met visit_all members_within supports is_base_of reaches_within same_kind first_item number_named
    is_utf8 chars encode
node_right_row = refl
