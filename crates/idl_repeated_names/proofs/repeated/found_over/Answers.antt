use Rattle.std.proofs.Common.{◌∙◌, ap}
use Rattle.idl_repeated_names.specs.Over.{lists_over}
use Rattle.idl_repeated_names.proofs.RepeatedLemmas.{found_fields, found_functions}
use Rattle.idl_trees.specs.Trees.{declaration_of}
use Rattle.idl_repeated_names.proofs.repeated.found_over.Goals as goal

pub returns-in-Interface : goal.returns-in-Interface
returns-in-Interface c =
    found_functions c.args.asked.now c.args.name.now (declaration_of c.args.body.now) c.copied.result (c.copied.ensures ∙ c.get.ensures.value)
    (λ own built reg. ap (λ b. lists_over own built reg c.args.name.now (declaration_of b)) c.in-Interface.is)

pub returns-in-Struct : goal.returns-in-Struct
returns-in-Struct c =
    found_fields c.args.asked.now c.args.name.now (declaration_of c.args.body.now) c.copied-in-Struct.result (c.copied-in-Struct.ensures ∙ c.get-in-Struct.ensures.value)
    (λ own built reg. ap (λ b. lists_over own built reg c.args.name.now (declaration_of b)) c.in-Struct.is)

pub returns-in-Exception : goal.returns-in-Exception
returns-in-Exception c =
    found_fields c.args.asked.now c.args.name.now (declaration_of c.args.body.now) c.copied-in-Exception.result (c.copied-in-Exception.ensures ∙ c.get-in-Exception.ensures.value)
    (λ own built reg. ap (λ b. lists_over own built reg c.args.name.now (declaration_of b)) c.in-Exception.is)
