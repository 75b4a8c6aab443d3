-- The premises of the laws: a registry that keeps the rules has items with small numbers, and of a plan that keeps the rules all can be carried by bytes.
use Rattle.std.proofs.Common.{◌≡◌, ℤ, pos, negsuc, true, List, [], ◌∷◌, arith, FitsSigned}
use Rattle.std.specs.Prelude.{int_le, Contains}
use Rattle.std.specs.Int.{w32}
use Rattle.std.specs.List.{AllByRecursion, list_all}
use Rattle.std.specs.Str.{IsUtf8}
use Rattle.std.proofs.lemmas.Bool.{and_parts, leb-true}
use Rattle.uno_model.specs.Defaults.{items_in}
use Rattle.uno_model.specs.Entities.{Entity, Body, Item, enum}
use Rattle.uno_model.specs.Sound.{IsSound}
use Rattle.uno_model.proofs.PlaceLaws.{contains_head, contains_behind}
use Rattle.registry_text_model.specs.EnumValues.{is_long, items_are_long, values_are_long}
use Rattle.registry_text_model.specs.Rules as rule
use Rattle.plan_model.specs.Keeps.{KeepsTheRules}
use Rattle.bridge_model.specs.Settings.{Setting}
use Rattle.bridge_laws.specs.Texts.{HasSmallNumber, HasSmallItems, AreSmallItems}
use Rattle.bridge_laws.proofs.SpellableGiven.{IsGiven}
use Rattle.bridge_laws.proofs.PlanSpelling.{plan_writable}

-- ---- registries

long_small : (n : ℤ) → is_long n ≡ true → FitsSigned w32 n
long_small (pos n) is = let most = leb-true n 2147483647 (and_parts (int_le (negsuc 2147483647) (pos n)) (int_le (pos n) (pos 2147483647)) is).1 in record { sfits = omega arith }
long_small (negsuc n) is = let most = leb-true n 2147483647 (and_parts (int_le (negsuc 2147483647) (negsuc n)) (int_le (negsuc n) (pos 2147483647)) is).0 in record { sfits = omega arith }

items_small : (items : List Item) → list_all (λ (i : Item). is_long i.number) items ≡ true → AllByRecursion HasSmallNumber items
items_small [] all = tt
items_small (i ∷ items) all =
    let parts = and_parts (is_long i.number) (list_all (λ (j : Item). is_long j.number) items) all in (long_small i.number parts.0, items_small items parts.1)

body_small : (b : Body) → items_are_long b ≡ true → AllByRecursion HasSmallNumber (items_in b)
body_small (enum items) all = items_small items all
body_small b all = tt

entity_small : (e : Entity) → values_are_long e ≡ true → HasSmallItems e
unfolding values_are_long
entity_small e all = body_small e.body all

each_small : (reg : List Entity) → ((e : Entity) → Contains reg e → values_are_long e ≡ true) → AreSmallItems reg
each_small [] each = tt
each_small (e ∷ reg) each = (entity_small e (each e (contains_head e reg)), each_small reg (λ d there. each d (contains_behind e reg d there)))

pub registry_small : (reg : List Entity) → rule.KeepsTheRules reg → AreSmallItems reg
registry_small reg keeps = each_small reg (λ e there. keeps.each rule.values e there)

-- ---- settings

pub is_given : (g : Setting) → IsSound g.registry → AreSmallItems g.registry → IsUtf8 g.tag → KeepsTheRules g.registry g.plan → IsGiven g
is_given g sound items tag keeps = record { sound = sound; items = items; tag = tag; plan = plan_writable g.registry sound items g.plan keeps }
