-- What a row unfolds, so that a whole history of two ends is computed.
use Rattle.std.specs.Char.{encode_utf8}
use Rattle.std.specs.Fmt.{digits}
use Rattle.std.specs.Str.{chars, is_utf8}
use Rattle.uno_model.specs.Codes.{same_kind}
use Rattle.uno_model.specs.Defaults.{default_within, default_of_kind}
use Rattle.uno_model.specs.Fits.{does_fit, do_fit_each, do_fit_all}
use Rattle.uno_model.specs.Functions.{is_met, visit_all, met_within}
use Rattle.uno_model.specs.NamedTypes.{simple_of, kind_within, type_of_text}
use Rattle.uno_model.specs.Reaches.{reaches_within, is_base_of}
use Rattle.uno_model.specs.Recast.{recast, recast_each, recast_all}
use Rattle.uno_model.specs.Registry.{find_entity, members_within}
use Rattle.uno_model.specs.Values.{refs, refs_in, depth, depth_in}
use Rattle.uno_model.specs.Weights.{weight, weights}
use Rattle.urp_model.specs.Blocks.{spell_block}
use Rattle.urp_model.specs.Held.{holds, next_slot, slot_for, used, held_after}
use Rattle.urp_model.specs.NamedKinds.{class_among, kind_named}
use Rattle.urp_model.specs.Namings.{namings, namings_each, namings_all}
use Rattle.urp_model.specs.Parts.{byte_at, number_at, length_at, raw_at, text_at, name_at, text_name_at, slot_at}
use Rattle.urp_model.specs.Reading.{elements_at, members_at, bytes_at, list_at, tuple_at, content_at, any_at, value_step, value_at}
use Rattle.urp_model.specs.ReadingNames.{held_kind_at, written_kind, written_kind_at, kind_behind, kind_at, named, tid_at, oid_at}
use Rattle.urp_model.specs.Slots.{meant_at, no_meanings, announced, age, stalest, is_among, with_use, holding, place, is_held, slot_taken}
use Rattle.urp_model.specs.Tables.{no_tables, meaning, noted}
use Rattle.urp_model.specs.Writing.{no_names, compressed, measured, slot_bytes, kind_written, kind_spelling, kind_after, name_spelling, after, afters, spelling, spellings}
use Rattle.message_model.specs.Calls.{numbered, kinds_on, may_raise}
use Rattle.message_model.specs.MessageNamings.{message_namings}
use Rattle.message_model.specs.ReadingMessages.{function_at, answered_at, long_opening_at, two_byte_opening_at, opening_at, new_or_last_at, oid_text_at, target_at, release_at, arguments_at, call_at, asked_at, request_at, returned_at, exception_at, raised_at, answer_at, reply_at, message_at}
use Rattle.message_model.specs.WritingMessages.{opening_spelling, target_spelling, after_target, answer_spelling, after_answer, reply_spelling, after_reply, message_spelling, after_message, bodies_spelling, after_messages}
use Rattle.plan_model.specs.Asking.{out_values}
use Rattle.plan_model.specs.Calling.{given_values, number_in, is_full, call_effect, query_effect}
use Rattle.plan_model.specs.Effects.{return_effect, default_effect, let_effect, set_effect, set_field_effect, when_effect, raise_effect, statement_effect, values_in, manager_effect, body_effect, effect}
use Rattle.plan_model.specs.Evaluation.{value_under, bytes_of, value_of, values_of, is_heavy, is_deep, evaluated, same_value, same_values}
use Rattle.plan_model.specs.Frames.{frames_of, pushed, popped, with_top}
use Rattle.plan_model.specs.Holdings.{put, refs_under, first_variables, variables_after, fields_after, held_by, let_go_by, let_go_at_end, goes_on, takes_outs, takes_answer, query_answer, takes_reference}
use Rattle.plan_model.specs.Leaving.{message_of, leaving, leaving_frame}
use Rattle.plan_model.specs.Plans.{manager, faces_of, supports, first_objects, exported, singleton_object}
use Rattle.plan_model.specs.Roots.{opening_run, statements_of, asked_name}
use Rattle.plan_model.specs.Services.{all_filled, first_filled, fields_with, created, refusal_message, service_names}
use Rattle.literal_model.specs.Literals.{first_item, byte_tokens, tokens_of, tokens_in}
use Rattle.bridge_model.specs.Answers.{cut, feed_answer, begun, pick, drained_next, proxies, counts_of}
use Rattle.bridge_model.specs.Applying.{job_of, applies_creating, applies}
use Rattle.bridge_model.specs.Calls.{calls_own, serves, calls_peer}
use Rattle.bridge_model.specs.Ends.{ends_by, runs_out}
use Rattle.bridge_model.specs.Feeding.{header_fault, block_stands, ends_part, hears, feeds}
use Rattle.bridge_model.specs.Going.{waiting_bytes, spells_for, drains, are_next, reaps}
use Rattle.bridge_model.specs.Handing.{statement_at, goes_on_with, root_gets, hands, ends_frame, hands_from_peer}
use Rattle.bridge_model.specs.Histories.{tells_all, replay}
use Rattle.bridge_model.specs.Objects.{object_numbered, object_named, as_variables, faces_at, object_supports, object_answer, name_answer, makes_object, makes_all, with_fields, is_held_object, has_stub, lowest, without_object}
use Rattle.bridge_model.specs.Orders.{first_runs, root_move, works_once, works}
use Rattle.bridge_model.specs.Receiving.{is_called_out, refs_refusal, refusal, receives}
use Rattle.bridge_model.specs.References.{counts_sent, says, gains_all, takes_all, loses_all, lets_go_all, refs_of_values, refs_of_answer, home_value, home_values, each_home, home_answer}
use Rattle.bridge_model.specs.RootRuns.{names_in, names_in_all, names_of, cause_text, outs_text, outcome_text, line_of, puts_outs, takes_outcome, begins_statement, root_moves}
use Rattle.bridge_model.specs.Roots.{holds_each, answered_before, root_calls, root_queries, root_asks, root_makes, root_drops, root_takes}
use Rattle.bridge_model.specs.Settings.{own_oid, root_tid, is_own, ref_of, is_told}
use Rattle.bridge_model.specs.Sides.{state_of, states_with}
use Rattle.bridge_model.specs.Stacks.{puts_frames, waits_of}
use Rattle.bridge_model.specs.Steps.{opening, most_entries, most_fed, picked, may, does, step}
use Rattle.bridge_laws.specs.Counting.{total, places, releases_of}
use Rattle.world_model.specs.Flights.{flight}
use Rattle.world_model.specs.Threads.{signal_if, signal_on, signals, locals, upper, lower, is_even, seen}
use Rattle.world_model.specs.Worlds.{pipe, acts, happens}

unfoldable pub on_literals : Unit {0}
unfolding digits chars is_utf8 encode_utf8 same_kind default_within default_of_kind does_fit do_fit_each do_fit_all is_met visit_all met_within simple_of kind_within type_of_text reaches_within is_base_of recast recast_each recast_all find_entity members_within refs refs_in depth depth_in weight weights spell_block holds next_slot slot_for used held_after class_among kind_named namings namings_each namings_all byte_at number_at length_at raw_at text_at name_at text_name_at slot_at elements_at members_at bytes_at list_at tuple_at content_at any_at value_step value_at held_kind_at written_kind written_kind_at kind_behind kind_at named tid_at oid_at meant_at no_meanings announced age stalest is_among with_use holding place is_held slot_taken no_tables meaning noted no_names compressed measured slot_bytes kind_written kind_spelling kind_after name_spelling after afters spelling spellings numbered kinds_on may_raise message_namings function_at answered_at long_opening_at two_byte_opening_at opening_at new_or_last_at oid_text_at target_at release_at arguments_at call_at asked_at request_at returned_at exception_at raised_at answer_at reply_at message_at opening_spelling target_spelling after_target answer_spelling after_answer reply_spelling after_reply message_spelling after_message bodies_spelling after_messages out_values given_values number_in is_full call_effect query_effect return_effect default_effect let_effect set_effect set_field_effect when_effect raise_effect statement_effect values_in manager_effect body_effect effect value_under bytes_of value_of values_of is_heavy is_deep evaluated same_value same_values frames_of pushed popped with_top put refs_under first_variables variables_after fields_after held_by let_go_by let_go_at_end goes_on takes_outs takes_answer query_answer takes_reference message_of leaving leaving_frame manager faces_of supports first_objects exported singleton_object opening_run statements_of asked_name all_filled first_filled fields_with created refusal_message service_names first_item byte_tokens tokens_of tokens_in cut feed_answer begun pick drained_next proxies counts_of job_of applies_creating applies calls_own serves calls_peer ends_by runs_out header_fault block_stands ends_part hears feeds waiting_bytes spells_for drains are_next reaps statement_at goes_on_with root_gets hands ends_frame hands_from_peer tells_all replay object_numbered object_named as_variables faces_at object_supports object_answer name_answer makes_object makes_all with_fields is_held_object has_stub lowest without_object first_runs root_move works_once works is_called_out refs_refusal refusal receives counts_sent says gains_all takes_all loses_all lets_go_all refs_of_values refs_of_answer home_value home_values each_home home_answer names_in names_in_all names_of cause_text outs_text outcome_text line_of puts_outs takes_outcome begins_statement root_moves holds_each answered_before root_calls root_queries root_asks root_makes root_drops root_takes own_oid root_tid is_own ref_of is_told state_of states_with puts_frames waits_of opening most_entries most_fed picked may does step total places releases_of flight signal_if signal_on signals locals upper lower is_even seen pipe acts happens
on_literals = tt
