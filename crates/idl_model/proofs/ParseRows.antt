-- Worked tokens: the tree that is read of them, or where they go wrong. Each token stands two bytes behind the one before.
use Rattle.std.proofs.Common.{◌≡◌, ℕ, ◌+◌, false, List, [], ◌∷◌, ◌++◌, None, Ok, Err, codes, refl}
use Rattle.grammar_model.specs.Readings.{many_at, others_at, verdict, fault}
use Rattle.grammar_model.specs.declared.fault.Why.TheVariants.{Unexpected, Nested}
use Rattle.idl_model.specs.Grammar.{Tokens}
use Rattle.idl_model.specs.GrammarReading.{name, simple_type, element_at, type, group_at, expr, flags, raises, constructor_parameter, constructor}
use Rattle.idl_model.specs.GrammarReading.{flagged_service_member, service_member, parameter, accessor, accessors}
use Rattle.idl_model.specs.GrammarReading.{method, attribute, flagged_member, interface_member, interface_decl, fields, struct_decl, exception_decl, item}
use Rattle.idl_model.specs.GrammarReading.{enum_decl, const, constants_decl, typedef_decl, service_decl, singleton_decl}
use Rattle.idl_model.specs.GrammarReading.{decl, body_at, def, tree}
use Rattle.idl_model.specs.ParseVerdicts.{unexpected, end_of, parsed}
use Rattle.idl_model.specs.Places.{Place}
use Rattle.idl_model.specs.Trees.{simple, long, Expr, number, signed, negative, chain, operand, no_operands, plus, times, divided_by}
use Rattle.idl_model.specs.Trees.{enum, constants, declared, Tree}
use Rattle.idl_text_model.specs.Tokens.{Word, identifier, quoted, mark}
use Rattle.idl_text_model.specs.Tokens as token

-- all that a row computes with
rows : Unit {0}
unfolding many_at others_at name simple_type element_at type group_at expr flags raises constructor_parameter constructor flagged_service_member
    service_member parameter accessor accessors method attribute flagged_member interface_member interface_decl fields struct_decl exception_decl item
    enum_decl const constants_decl typedef_decl service_decl singleton_decl decl body_at def tree end_of
rows = tt

at : ℕ → Place
at byte = record { file = 0; byte = byte }

abbrev spaced_from : ℕ → List Word → Tokens
spaced_from byte [] = []
spaced_from byte (w ∷ ws) = record { word = w; place = record { file = 0; byte = byte }; length = 1 } ∷ spaced_from (byte + 2) ws

abbrev spaced : List Word → Tokens
spaced ws = spaced_from 0 ws

abbrev k : List ℕ → Word
k w = quoted w

abbrev m : List ℕ → Word
m w = mark w

abbrev i : List ℕ → Word
i w = identifier w

-- struct S { long a }
missing_semicolon_of_a_member : parsed (spaced (k (codes "struct") ∷ (i (codes "S") ∷
    (m (codes "{") ∷ (k (codes "long") ∷ (i (codes "a") ∷ (m (codes "}") ∷ []))))))) ≡ Err (unexpected (record { file = 0; byte = 10 }))
unfolding rows
missing_semicolon_of_a_member = refl

-- module
end_behind_module : parsed (spaced (k (codes "module") ∷ [])) ≡ Err (unexpected (record { file = 0; byte = 1 }))
unfolding rows
end_behind_module = refl

-- no tokens
no_tokens_are_a_file : parsed [] ≡ Ok []
unfolding rows
no_tokens_are_a_file = refl

-- interface X { [ attribute , attribute
attribute_twice : parsed (spaced (k (codes "interface") ∷ (i (codes "X") ∷ (m (codes "{") ∷
    (m (codes "[") ∷ (k (codes "attribute") ∷ (m (codes ",") ∷ (k (codes "attribute") ∷ [])))))))) ≡ Err (unexpected (record { file = 0; byte = 12 }))
unfolding rows
attribute_twice = refl

-- interface X { [ readonly ] : the word that must stand once is missing
attribute_missing : parsed (spaced (k (codes "interface") ∷ (i (codes "X") ∷ (m (codes "{") ∷
    (m (codes "[") ∷ (k (codes "readonly") ∷ (m (codes "]") ∷ []))))))) ≡ Err (unexpected (record { file = 0; byte = 10 }))
unfolding rows
attribute_missing = refl

-- interface X { void f ( [ in ] long a , )
comma_behind_the_last_parameter :
    parsed (spaced (k (codes "interface") ∷ (i (codes "X") ∷ (m (codes "{") ∷ (k (codes "void") ∷
    (i (codes "f") ∷ (m (codes "(") ∷ (m (codes "[") ∷ (k (codes "in") ∷ (m (codes "]") ∷ (k (codes "long") ∷ (i (codes "a")
    ∷ (m (codes ",") ∷ (m (codes ")") ∷ [])))))))))))))) ≡ Err (unexpected (record { file = 0; byte = 24 }))
unfolding rows
comma_behind_the_last_parameter = refl

-- enum E { A , } ;
comma_behind_the_last_item : parsed (spaced (k (codes "enum") ∷ (i (codes "E") ∷ (m (codes "{") ∷
    (i (codes "A") ∷ (m (codes ",") ∷ (m (codes "}") ∷ (m (codes ";") ∷ []))))))))
    ≡ Ok (declared false (record {
      name = record { name = codes "E"; place = record { file = 0; byte = 2 } };
      body =
          enum (record { name = record { name = codes "A"; place = record { file = 0; byte = 6 } }; value = None } ∷ []);
    }) ∷ [])
unfolding rows
comma_behind_the_last_item = refl

-- constants K { const long A = E ; } ; for an expression E
abbrev constant_words : List Word → List Word
constant_words ws = k (codes "constants") ∷ (i (codes "K") ∷ (m (codes "{") ∷ (k (codes "const") ∷
    (k (codes "long") ∷ (i (codes "A") ∷ (m (codes "=") ∷ (ws ++ (m (codes ";") ∷ (m (codes "}") ∷ (m (codes ";") ∷ []))))))))))

abbrev constant_tree : Expr → Tree
constant_tree e = declared false (record {
  name = record { name = codes "K"; place = record { file = 0; byte = 2 } };
  body = constants (record {
    type = simple (record { file = 0; byte = 8 }) long;
    name =
        record { name = codes "A"; place = record { file = 0; byte = 10 } };
    value = e;
  } ∷ []);
}) ∷ []

-- - 7 / 2
sign_before_a_division : parsed (spaced (constant_words (m (codes "-") ∷ (token.number 7 ∷ (m (codes "/") ∷ (token.number 2 ∷ [])))))) ≡ Ok
    (constant_tree (chain (signed (negative ∷ []) (number 7)) (operand divided_by (number 2) no_operands)))
unfolding rows
sign_before_a_division = refl

-- 1 + 2 * 3
product_in_a_sum : parsed (spaced (constant_words (token.number 1 ∷ (m (codes "+") ∷ (token.number 2 ∷ (m (codes "*") ∷ (token.number 3 ∷ [])))))))
    ≡ Ok (constant_tree (chain (number 1) (operand plus (chain (number 2) (operand times (number 3) no_operands)) no_operands)))
unfolding rows
product_in_a_sum = refl

-- 1 < < 2 : the two marks do not touch
parted_shift : parsed (spaced (constant_words (token.number 1 ∷ (m (codes "<") ∷ (m (codes "<") ∷ (token.number 2 ∷ [])))))) ≡ Err
    (unexpected (record { file = 0; byte = 18 }))
unfolding rows
parted_shift = refl

-- typedef sequence < sequence < long, where one `<` may open
second_type_opens_too_much : verdict (tree 1 1 1) (spaced (k (codes "typedef") ∷ (k (codes "sequence") ∷
    (m (codes "<") ∷ (k (codes "sequence") ∷ (m (codes "<") ∷ (k (codes "long") ∷ []))))))) ≡ Err (fault Nested 2)
unfolding rows
second_type_opens_too_much = refl

-- module a { module 5, where one module may open: the number is wrong before the mark would be
number_behind_the_second_module : verdict (tree 1 1 1) (spaced (k (codes "module") ∷
    (i (codes "a") ∷ (m (codes "{") ∷ (k (codes "module") ∷ (token.number 5 ∷ [])))))) ≡ Err (fault Unexpected 1)
unfolding rows
number_behind_the_second_module = refl
