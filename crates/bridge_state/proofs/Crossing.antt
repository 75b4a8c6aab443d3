-- A state may be sent to another thread. It is shown layer by layer, since one search down to the values runs out of steps.
use denote.Param.Send.{IsSend, sendable}
use Rattle.std.proofs.Crossing.{crosses}
use Rattle.std.proofs.MapsCrossing as maps
use Rattle.uno_entities.proofs.name.Name.TheSendSync as names
use Rattle.uno_entities.proofs.text.Text.TheSendSync as texts
use Rattle.uno_entities.proofs.tid.Tid.TheSendSync as tids
use Rattle.uno_values.specs.contracts.value.Value as Value
use Rattle.plan_types.specs.contracts.frame.Body as Body
use Rattle.plan_types.specs.contracts.frame.Frame as Frame
use Rattle.plan_types.specs.contracts.frame.Outgoing as Call
use Rattle.plan_types.specs.contracts.frame.Variable as Variable
use Rattle.birth_index.proofs.birth_index.BirthIndex.TheSendSync as indexes
use Rattle.call_stacks.specs.contracts.by_birth.ByBirth as ByBirth
use Rattle.call_stacks.specs.contracts.stack.Stack as Stack
use Rattle.call_stacks.specs.contracts.stacks.Stacks as Stacks
use Rattle.urp_cache.proofs.read_caches.ReadCaches.TheSendSync as read_caches
use Rattle.urp_cache.proofs.send_caches.SendCaches.TheSendSync as send_caches
use Rattle.urp_message.proofs.error.ReadError.TheSendSync as errors
use Rattle.urp_message.specs.contracts.listener.Listener as Listener
use Rattle.urp_message.specs.contracts.remembered.Heard as Heard
use Rattle.urp_message.specs.contracts.remembered.Last as Last
use Rattle.urp_message.specs.contracts.remembered.Spoken as Spoken
use Rattle.urp_message.specs.contracts.speaker.Speaker as Speaker
use Rattle.urp_stream.proofs.blocks.Blocks.TheSendSync as blocks
use Rattle.object_store.specs.contracts.object.Object as Object
use Rattle.object_store.specs.contracts.store.Store as Store
use Rattle.env_table.proofs.environment.Environment.TheSendSync as environments
use Rattle.proxy_table.proofs.proxy_table.ProxyTable.TheSendSync as proxies
use Rattle.stub_table.proofs.stub_table.StubTable.TheSendSync as stubs
use Rattle.bridge_model.proofs.cause.Cause.TheSendSync as causes
use Rattle.bridge_objects.specs.contracts.objects.Objects as Objects
use Rattle.bridge_streams.proofs.Crossing.{kind_send, value_send, value_row_send, any_send, unsaid_send}
use Rattle.bridge_streams.proofs.ready.Ready.TheSendSync as ready
use Rattle.bridge_streams.specs.contracts.incoming.Incoming as Incoming
use Rattle.bridge_streams.specs.contracts.outgoing.Outgoing as Outgoing
use Rattle.bridge_tables.specs.contracts.roots.Outcome as Outcome
use Rattle.bridge_tables.specs.contracts.roots.Root as Root
use Rattle.bridge_tables.specs.contracts.tables.Tables as Tables
use Rattle.bridge_state.specs.contracts.state.State as State

-- ---- stacks

variable_send : IsSend Variable.the_row
variable_send = let a = names.the_send in let b = value_send in search sendable depth 20

body_send : IsSend Body.the_field.row
body_send = let a = names.the_send in let b = variable_send in search (crosses, sendable) depth 20

call_send : IsSend Call.the_field.row
call_send = let a = names.the_send in let b = texts.the_send in search sendable depth 20

frame_send : IsSend Frame.the_row
frame_send = let a = body_send in let b = call_send in search sendable depth 20

stack_send : IsSend Stack.the_row
stack_send = let a = tids.the_send in let b = frame_send in search (crosses, sendable) depth 20

by_birth_send : IsSend ByBirth.the_row
by_birth_send = let a = stack_send in let b = indexes.the_send in search (maps.crosses, crosses, sendable) depth 20

stacks_send : IsSend Stacks.the_row
stacks_send = let a = by_birth_send in search (maps.crosses, crosses, sendable) depth 20

-- ---- messages

last_send : IsSend Last.the_field.row
last_send = let a = kind_send in let b = texts.the_send in let c = tids.the_send in search (crosses, sendable) depth 20

heard_send : IsSend Heard.the_field.row
heard_send = let a = read_caches.the_field_send in let b = last_send in search sendable depth 20

listener_send : IsSend Listener.the_row
listener_send = let a = heard_send in let b = errors.the_send in search (crosses, sendable) depth 20

incoming_send : IsSend Incoming.the_row
incoming_send = let a = blocks.the_send in let b = listener_send in search (crosses, sendable) depth 20

spoken_send : IsSend Spoken.the_field.row
spoken_send = let a = send_caches.the_field_send in let b = last_send in search sendable depth 20

speaker_send : IsSend Speaker.the_row
speaker_send = let a = spoken_send in search (crosses, sendable) depth 20

outgoing_send : IsSend Outgoing.the_row
outgoing_send = let a = ready.the_send in let b = speaker_send in search (crosses, sendable) depth 20

-- ---- tables

object_send : IsSend (Object.the_field Value.the_row).row
object_send = let a = value_row_send in search (crosses, sendable) depth 20

store_send : IsSend (Store.the_row Value.the_row)
store_send = let a = object_send in let b = indexes.the_send in search (maps.crosses, crosses, sendable) depth 20

objects_send : IsSend Objects.the_row
objects_send = let a = texts.the_send in let b = store_send in let c = environments.the_send in let d = stubs.the_send in search (crosses, sendable) depth 20

outcome_send : IsSend Outcome.the_field.row
outcome_send = let a = value_send in let b = value_row_send in let c = any_send in let d = causes.the_field_send in search (crosses, sendable) depth 20

root_send : IsSend Root.the_row
root_send = let a = names.the_send in let b = outcome_send in search sendable depth 20

tables_send : IsSend Tables.the_row
tables_send = let a = objects_send in let b = proxies.the_send in let c = unsaid_send in let d = root_send in search (crosses, sendable) depth 20

-- ---- the state

pub state_send : IsSend State.the_row
state_send = let a = tables_send in let b = stacks_send in let c = incoming_send in let d = outgoing_send in let e = causes.the_send in search (crosses, sendable) depth 20
