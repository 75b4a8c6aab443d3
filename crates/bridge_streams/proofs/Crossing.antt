-- Messages may be sent to another thread and shared by threads. It is shown layer by layer, since one search down to the values runs out of steps.
use denote.Param.Send.{IsSend, IsSync, sendable}
use Rattle.std.proofs.Crossing.{crosses}
use Rattle.std.proofs.MapsCrossing as maps
use Rattle.uno_entities.proofs.name.Name.TheSendSync as names
use Rattle.uno_entities.proofs.text.Text.TheSendSync as texts
use Rattle.uno_entities.proofs.tid.Tid.TheSendSync as tids
use Rattle.uno_entities.proofs.type_name.TypeName.TheLaws.TheKnot as kinds
use Rattle.uno_entities.specs.contracts.type_name.TypeName as TypeName
use Rattle.uno_values.proofs.value.Value.TheLaws.TheKnot as values
use Rattle.uno_values.specs.contracts.reference.Reference as Reference
use Rattle.uno_values.specs.contracts.value.AnyValue as AnyValue
use Rattle.uno_values.specs.contracts.value.Value as Value
use Rattle.urp_message.specs.contracts.message.Answer as Answer
use Rattle.urp_message.specs.contracts.message.Message as Message
use Rattle.bridge_streams.specs.contracts.unsaid.Unsaid as Unsaid

-- ---- values

pub kind_send : IsSend TypeName.the_field.row
kind_send = let a = names.the_send in search (kinds.crosses, crosses, sendable) depth 20

kind_sync : IsSync TypeName.the_field.row
kind_sync = let a = names.the_sync in search (kinds.crosses, crosses, sendable) depth 20

reference_send : IsSend Reference.the_field.row
reference_send = let a = names.the_send in let b = texts.the_send in search sendable depth 20

reference_sync : IsSync Reference.the_field.row
reference_sync = let a = names.the_sync in let b = texts.the_sync in search sendable depth 20

pub value_send : IsSend Value.the_field.row
value_send = let a = kind_send in let b = reference_send in let c = names.the_send in let d = texts.the_send in search (values.crosses, maps.crosses, crosses, sendable) depth 20

value_sync : IsSync Value.the_field.row
value_sync = let a = kind_sync in let b = reference_sync in let c = names.the_sync in let d = texts.the_sync in search (values.crosses, maps.crosses, crosses, sendable) depth 20

pub value_row_send : IsSend Value.the_row
value_row_send = let a = kind_send in let b = reference_send in let c = names.the_send in let d = texts.the_send in search (values.crosses, maps.crosses, crosses, sendable) depth 20

value_row_sync : IsSync Value.the_row
value_row_sync = let a = kind_sync in let b = reference_sync in let c = names.the_sync in let d = texts.the_sync in search (values.crosses, maps.crosses, crosses, sendable) depth 20

pub any_send : IsSend AnyValue.the_field.row
any_send = let a = kind_send in let b = value_send in search sendable depth 20

any_sync : IsSync AnyValue.the_field.row
any_sync = let a = kind_sync in let b = value_sync in search sendable depth 20

-- ---- messages

answer_send : IsSend Answer.the_field.row
answer_send = let a = value_send in let b = value_row_send in let c = any_send in search (crosses, sendable) depth 20

answer_sync : IsSync Answer.the_field.row
answer_sync = let a = value_sync in let b = value_row_sync in let c = any_sync in search (crosses, sendable) depth 20

message_send : IsSend Message.the_row
message_send = let a = names.the_send in let b = texts.the_send in let c = tids.the_send in let d = value_row_send in let e = answer_send in search (crosses, sendable) depth 20

message_sync : IsSync Message.the_row
message_sync = let a = names.the_sync in let b = texts.the_sync in let c = tids.the_sync in let d = value_row_sync in let e = answer_sync in search (crosses, sendable) depth 20

pub unsaid_send : IsSend Unsaid.the_row
unsaid_send = let a = tids.the_send in let b = message_send in search (crosses, sendable) depth 20

pub unsaid_sync : IsSync Unsaid.the_row
unsaid_sync = let a = tids.the_sync in let b = message_sync in search (crosses, sendable) depth 20
