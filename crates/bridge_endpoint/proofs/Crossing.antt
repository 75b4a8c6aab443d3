-- An endpoint may be sent to another thread, and a plan may be shared by threads. It is shown layer by layer, since one search down to the values runs out of steps.
use denote.Param.Send.{IsSend, IsSync, sendable}
use Rattle.std.proofs.Crossing.{crosses}
use Rattle.std.proofs.MapsCrossing as maps
use Rattle.uno_entities.proofs.name.Name.TheSendSync as names
use Rattle.uno_entities.proofs.text.Text.TheSendSync as texts
use Rattle.uno_entities.proofs.tid.Tid.TheSendSync as tids
use Rattle.uno_entities.proofs.type_name.TypeName.TheLaws.TheKnot as kinds
use Rattle.uno_entities.specs.contracts.entity.Attribute as Attribute
use Rattle.uno_entities.specs.contracts.entity.Base as Base
use Rattle.uno_entities.specs.contracts.entity.Body as Body
use Rattle.uno_entities.specs.contracts.entity.Constant as Constant
use Rattle.uno_entities.specs.contracts.entity.Constructor as Constructor
use Rattle.uno_entities.specs.contracts.entity.Entity as Entity
use Rattle.uno_entities.specs.contracts.entity.Field as Field
use Rattle.uno_entities.specs.contracts.entity.Item as Item
use Rattle.uno_entities.specs.contracts.entity.Member as Member
use Rattle.uno_entities.specs.contracts.entity.Method as DeclaredMethod
use Rattle.uno_entities.specs.contracts.entity.Param as Param
use Rattle.uno_entities.specs.contracts.entity.Part as Part
use Rattle.uno_entities.specs.contracts.entity.Service as Service
use Rattle.uno_entities.specs.contracts.entity.Singleton as Singleton
use Rattle.uno_entities.specs.contracts.type_name.TypeName as TypeName
use Rattle.uno_types.specs.contracts.registry.Registry as Registry
use Rattle.uno_values.proofs.value.Value.TheLaws.TheKnot as values
use Rattle.uno_values.specs.contracts.reference.Reference as Reference
use Rattle.uno_values.specs.contracts.value.Value as Value
use Rattle.plan_types.proofs.expression.Expression.TheLaws.TheKnot as expressions
use Rattle.plan_types.specs.contracts.expression.Argument as Argument
use Rattle.plan_types.specs.contracts.expression.Expression as Expression
use Rattle.plan_types.specs.contracts.plan.Behaviour as Behaviour
use Rattle.plan_types.specs.contracts.plan.Export as Export
use Rattle.plan_types.specs.contracts.plan.Method as Method
use Rattle.plan_types.specs.contracts.plan.Offer as Offer
use Rattle.plan_types.specs.contracts.plan.Plan as Plan
use Rattle.plan_types.specs.contracts.statement.Call as Call
use Rattle.plan_types.specs.contracts.statement.Callee as Callee
use Rattle.plan_types.specs.contracts.statement.Making as Making
use Rattle.plan_types.specs.contracts.statement.Query as Query
use Rattle.plan_types.specs.contracts.statement.RootStatement as RootStatement
use Rattle.plan_types.specs.contracts.statement.Statement as Statement
use Rattle.plan_types.specs.contracts.statement.Test as Test
use Rattle.plan_types.specs.contracts.word.Word as Word
use Rattle.bridge_setting.proofs.names.Names.TheSendSync as own_names
use Rattle.bridge_setting.specs.contracts.setting.Setting as Setting
use Rattle.bridge_journal.specs.contracts.entry.Entry as Entry
use Rattle.bridge_journal.specs.contracts.journal.Journal as Journal
use Rattle.bridge_streams.proofs.Crossing.{kind_send, value_send, value_row_send}
use Rattle.bridge_state.proofs.Crossing.{state_send}
use Rattle.bridge_endpoint.specs.contracts.endpoint.Endpoint as Endpoint

-- ---- the journal

entry_send : IsSend Entry.the_row
entry_send = let a = names.the_send in let b = texts.the_send in let c = tids.the_send in let d = value_row_send in search (crosses, sendable) depth 20

journal_send : IsSend Journal.the_row
journal_send = let a = entry_send in search (crosses, sendable) depth 20

-- ---- the registry

field_send : IsSend Field.the_field.row
field_send = let a = names.the_send in let b = kind_send in search sendable depth 20

field_row_send : IsSend Field.the_row
field_row_send = let a = names.the_send in let b = kind_send in search sendable depth 20

param_send : IsSend Param.the_row
param_send = let a = names.the_send in let b = kind_send in search sendable depth 20

base_send : IsSend Base.the_row
base_send = let a = names.the_send in search sendable depth 20

attribute_send : IsSend Attribute.the_field.row
attribute_send = let a = names.the_send in let b = kind_send in search (crosses, sendable) depth 20

declared_method_send : IsSend DeclaredMethod.the_field.row
declared_method_send = let a = names.the_send in let b = kind_send in let c = param_send in search (crosses, sendable) depth 20

member_send : IsSend Member.the_row
member_send = let a = attribute_send in let b = declared_method_send in search sendable depth 20

item_send : IsSend Item.the_row
item_send = let a = names.the_send in search sendable depth 20

constant_send : IsSend Constant.the_row
constant_send = let a = names.the_send in let b = kind_send in search sendable depth 20

constructor_send : IsSend Constructor.the_row
constructor_send = let a = names.the_send in let b = field_row_send in search (crosses, sendable) depth 20

part_send : IsSend Part.the_row
part_send = let a = names.the_send in let b = kind_send in search sendable depth 20

service_send : IsSend Service.the_field.row
service_send = let a = names.the_send in let b = constructor_send in let c = part_send in search (crosses, sendable) depth 20

singleton_send : IsSend Singleton.the_field.row
singleton_send = let a = names.the_send in search sendable depth 20

body_send : IsSend Body.the_field.row
body_send = let a = names.the_send in let b = kind_send in let c = base_send in let d = member_send in let e = field_row_send in let f = item_send in let g = constant_send in let h = service_send in let i = singleton_send in search (crosses, sendable) depth 20

entity_send : IsSend Entity.the_row
entity_send = let a = names.the_send in let b = body_send in search sendable depth 20

registry_send : IsSend Registry.the_row
registry_send = let a = entity_send in search (crosses, sendable) depth 20

-- ---- the plan

word_send : IsSend Word.the_field.row
word_send = let a = names.the_send in search sendable depth 20

expression_send : IsSend Expression.the_field.row
expression_send = let a = names.the_send in let b = kind_send in let c = value_send in let d = word_send in search (expressions.crosses, crosses, sendable) depth 20

expression_row_send : IsSend Expression.the_row
expression_row_send = let a = names.the_send in let b = kind_send in let c = value_send in let d = word_send in search (expressions.crosses, crosses, sendable) depth 20

argument_send : IsSend Argument.the_row
argument_send = let a = names.the_send in let b = expression_send in search sendable depth 20

callee_send : IsSend Callee.the_field.row
callee_send = let a = names.the_send in search sendable depth 20

call_send : IsSend Call.the_field.row
call_send = let a = word_send in let b = callee_send in let c = argument_send in let d = field_row_send in search (crosses, sendable) depth 20

query_send : IsSend Query.the_field.row
query_send = let a = names.the_send in let b = word_send in search sendable depth 20

making_send : IsSend Making.the_field.row
making_send = let a = names.the_send in search sendable depth 20

test_send : IsSend Test.the_field.row
test_send = let a = word_send in let b = expression_send in search sendable depth 20

statement_send : IsSend Statement.the_row
statement_send = let a = names.the_send in let b = field_send in let c = expression_send in let d = expression_row_send in let e = call_send in let f = query_send in let g = making_send in let h = test_send in search (crosses, sendable) depth 20

root_statement_send : IsSend RootStatement.the_row
root_statement_send = let a = names.the_send in let b = texts.the_send in let c = call_send in let d = query_send in let e = making_send in search sendable depth 20

method_send : IsSend Method.the_row
method_send = let a = names.the_send in let b = statement_send in search (crosses, sendable) depth 20

behaviour_send : IsSend Behaviour.the_row
behaviour_send = let a = names.the_send in let b = field_row_send in let c = method_send in search (crosses, sendable) depth 20

export_send : IsSend Export.the_row
export_send = let a = texts.the_send in search sendable depth 20

offer_send : IsSend Offer.the_row
offer_send = let a = names.the_send in search sendable depth 20

plan_send : IsSend Plan.the_field.row
plan_send = let a = behaviour_send in let b = export_send in let c = offer_send in let d = root_statement_send in search (crosses, sendable) depth 20

-- ---- what threads share: the plan

kind_sync : IsSync TypeName.the_field.row
kind_sync = let a = names.the_sync in search (kinds.crosses, crosses, sendable) depth 20

reference_sync : IsSync Reference.the_field.row
reference_sync = let a = names.the_sync in let b = texts.the_sync in search sendable depth 20

value_sync : IsSync Value.the_field.row
value_sync = let a = kind_sync in let b = reference_sync in let c = names.the_sync in let d = texts.the_sync in search (values.crosses, maps.crosses, crosses, sendable) depth 20

field_sync : IsSync Field.the_field.row
field_sync = let a = names.the_sync in let b = kind_sync in search sendable depth 20

field_row_sync : IsSync Field.the_row
field_row_sync = let a = names.the_sync in let b = kind_sync in search sendable depth 20

word_sync : IsSync Word.the_field.row
word_sync = let a = names.the_sync in search sendable depth 20

expression_sync : IsSync Expression.the_field.row
expression_sync = let a = names.the_sync in let b = kind_sync in let c = value_sync in let d = word_sync in search (expressions.crosses, crosses, sendable) depth 20

expression_row_sync : IsSync Expression.the_row
expression_row_sync = let a = names.the_sync in let b = kind_sync in let c = value_sync in let d = word_sync in search (expressions.crosses, crosses, sendable) depth 20

argument_sync : IsSync Argument.the_row
argument_sync = let a = names.the_sync in let b = expression_sync in search sendable depth 20

callee_sync : IsSync Callee.the_field.row
callee_sync = let a = names.the_sync in search sendable depth 20

call_sync : IsSync Call.the_field.row
call_sync = let a = word_sync in let b = callee_sync in let c = argument_sync in let d = field_row_sync in search (crosses, sendable) depth 20

query_sync : IsSync Query.the_field.row
query_sync = let a = names.the_sync in let b = word_sync in search sendable depth 20

making_sync : IsSync Making.the_field.row
making_sync = let a = names.the_sync in search sendable depth 20

test_sync : IsSync Test.the_field.row
test_sync = let a = word_sync in let b = expression_sync in search sendable depth 20

statement_sync : IsSync Statement.the_row
statement_sync = let a = names.the_sync in let b = field_sync in let c = expression_sync in let d = expression_row_sync in let e = call_sync in let f = query_sync in let g = making_sync in let h = test_sync in search (crosses, sendable) depth 20

root_statement_sync : IsSync RootStatement.the_row
root_statement_sync = let a = names.the_sync in let b = texts.the_sync in let c = call_sync in let d = query_sync in let e = making_sync in search sendable depth 20

method_sync : IsSync Method.the_row
method_sync = let a = names.the_sync in let b = statement_sync in search (crosses, sendable) depth 20

behaviour_sync : IsSync Behaviour.the_row
behaviour_sync = let a = names.the_sync in let b = field_row_sync in let c = method_sync in search (crosses, sendable) depth 20

export_sync : IsSync Export.the_row
export_sync = let a = texts.the_sync in search sendable depth 20

offer_sync : IsSync Offer.the_row
offer_sync = let a = names.the_sync in search sendable depth 20

pub plan_sync : IsSync Plan.the_row
plan_sync = let a = behaviour_sync in let b = export_sync in let c = offer_sync in let d = root_statement_sync in search (crosses, sendable) depth 20

-- ---- the setting

setting_send : IsSend Setting.the_field.row
setting_send = let a = own_names.the_send in let b = registry_send in let c = plan_send in search sendable depth 20

-- ---- the endpoint

pub endpoint_send : IsSend Endpoint.the_row
endpoint_send = let a = setting_send in let b = state_send in let c = journal_send in search (crosses, sendable) depth 20
