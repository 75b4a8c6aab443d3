-- Whole texts: a plan, and a line that is wrong.
use Rattle.std.proofs.Common.{refl, [], ◌∷◌, Some, Err, codes, inr}
use Rattle.literal_model.specs.Readings.{number_named}
use Rattle.literal_model.specs.Literals.{first_item}
use Rattle.uno_model.specs.Codes.{same_kind}
use Rattle.uno_model.specs.Functions.{is_met, visit_all, met_within}
use Rattle.uno_model.specs.Names.{parts_of}
use Rattle.uno_model.specs.NamedTypes.{simple_of, kind_within, type_of_text}
use Rattle.uno_model.specs.Reaches.{reaches_within, is_base_of}
use Rattle.uno_model.specs.Registry.{find_entity, members_within}
use Rattle.uno_model.specs.Sound.{all_differ}
use Rattle.plan_model.specs.Building.{behind, behind_all}
use Rattle.plan_model.specs.Contexts.{kind_of_variable, kind_of_field, kind_of_word, declared_function, called_function, parameters}
use Rattle.plan_model.specs.Fitting.{all_fits}
use Rattle.plan_model.specs.Forms.{is_type_text, is_behind_bracket, is_function_text, is_export_name, is_term, are_terms, is_line, is_root_term, are_root_terms}
use Rattle.plan_model.specs.Keeps.{has_form, reason_of, Comes, is_too_large, IsVerdict, IsTextOf}
use Rattle.plan_model.specs.KnownNames.{is_term_known, are_terms_known, names_are_known}
use Rattle.plan_model.specs.Limits.{term_depth, terms_depth, parentheses, parentheses_in, is_flat, terms_are_flat, has_room, block_has_room, plan_has_room, keeps_limits}
use Rattle.plan_model.specs.LinePlaces.{last_ends, may_stand}
use Rattle.plan_model.specs.Lines.{operation, Line, behaviour, method, export, end_line, return}
use Rattle.plan_model.specs.NewNames.{names_are_new}
use Rattle.plan_model.specs.PlanText.{lines_of, behind_blanks, said_from, line_words, term_text, terms_text, behind_comma}
use Rattle.plan_model.specs.Plans.{supports}
use Rattle.plan_model.specs.TypedStatements.{call_of, query_of, making_of, statement_of, root_statement_of}
use Rattle.plan_model.specs.Typing.{expression_of, all_at, each_at, argument_of, arguments_of}
use Rattle.plan_model.specs.declared.line_reason.LineReason.TheVariants.{Form, Unknown, Open}
use Rattle.plan_model.specs.declared.operation.Operation.TheVariants.{Add}
use Rattle.plan_model.proofs.DemoLines.{named}
use Rattle.plan_model.proofs.DemoPlans.{demo, echo_plan, x_echo}

abbrev sum : Line
sum = return (Some (operation Add (named (codes "a")) (named (codes "a"))))

-- the echo plan, with a remark, a blank line, and blanks in front of lines
echo_text_row : IsTextOf demo
    (codes "unoplan 1\n# an echo\n\nbehaviour Echo demo.XEcho\n method demo.XEcho twice\n  return add($a,$a)\n end\nend\nexport \"echo\" Echo\n")
    echo_plan
unfolding Comes is_too_large lines_of behind_blanks said_from line_words term_text terms_text behind_comma reason_of has_form is_line is_type_text is_behind_bracket is_function_text is_export_name is_term are_terms is_root_term are_root_terms
    parts_of all_differ may_stand last_ends names_are_known is_term_known are_terms_known names_are_new all_fits keeps_limits terms_are_flat plan_has_room
    block_has_room has_room is_flat term_depth terms_depth parentheses parentheses_in behind_all behind declared_function find_entity parameters
    type_of_text kind_within simple_of statement_of root_statement_of expression_of all_at each_at kind_of_word kind_of_variable kind_of_field call_of query_of
    making_of called_function arguments_of argument_of met_within is_met visit_all members_within supports is_base_of reaches_within same_kind first_item number_named
echo_text_row =
    inr (
      behaviour (codes "Echo") (x_echo ∷ []),
      record { spelled = refl; formed = refl },
      inr (
        method x_echo (codes "twice"),
        record { spelled = refl; formed = refl },
        inr (
          sum,
          record { spelled = refl; formed = refl },
          inr (
            end_line,
            record { spelled = refl; formed = refl },
            inr (
              end_line,
              record { spelled = refl; formed = refl },
              inr (export (codes "echo") (codes "Echo"), record { spelled = refl; formed = refl }, refl),
            ),
          ),
        ),
      ),
    )

-- an export of a behaviour that is not there
nobody_row : IsVerdict demo (codes "unoplan 1\nexport \"x\" Nobody\n") (Err (record { line = 2; reason = Unknown }))
unfolding Comes is_too_large lines_of behind_blanks said_from line_words term_text terms_text behind_comma reason_of has_form is_line is_type_text is_behind_bracket is_function_text is_export_name is_term are_terms is_root_term are_root_terms
    parts_of all_differ may_stand last_ends names_are_known is_term_known are_terms_known names_are_new all_fits keeps_limits terms_are_flat plan_has_room
    block_has_room has_room is_flat term_depth terms_depth parentheses parentheses_in behind_all behind declared_function find_entity parameters
    type_of_text kind_within simple_of statement_of root_statement_of expression_of all_at each_at kind_of_word kind_of_variable kind_of_field call_of query_of
    making_of called_function arguments_of argument_of met_within is_met visit_all members_within supports is_base_of reaches_within same_kind first_item number_named
nobody_row = inr (export (codes "x") (codes "Nobody"), record { spelled = refl; formed = refl }, refl)

-- a block that is open at the end, behind a remark
open_row : IsVerdict demo (codes "unoplan 1\nbehaviour Echo demo.XEcho\n# the end\n") (Err (record { line = 3; reason = Open }))
unfolding Comes is_too_large lines_of behind_blanks said_from line_words term_text terms_text behind_comma reason_of has_form is_line is_type_text is_behind_bracket is_function_text is_export_name is_term are_terms is_root_term are_root_terms
    parts_of all_differ may_stand last_ends names_are_known is_term_known are_terms_known names_are_new all_fits keeps_limits terms_are_flat plan_has_room
    block_has_room has_room is_flat term_depth terms_depth parentheses parentheses_in behind_all behind declared_function find_entity parameters
    type_of_text kind_within simple_of statement_of root_statement_of expression_of all_at each_at kind_of_word kind_of_variable kind_of_field call_of query_of
    making_of called_function arguments_of argument_of met_within is_met visit_all members_within supports is_base_of reaches_within same_kind first_item number_named
open_row = inr (behaviour (codes "Echo") (x_echo ∷ []), record { spelled = refl; formed = refl }, refl)

-- a text without lines, and another first line
empty_row : IsVerdict demo [] (Err (record { line = 1; reason = Form }))
unfolding is_too_large lines_of
empty_row = refl

first_line_row : IsVerdict demo (codes "unoplan 2\n") (Err (record { line = 1; reason = Form }))
unfolding is_too_large lines_of behind_blanks
first_line_row = refl
