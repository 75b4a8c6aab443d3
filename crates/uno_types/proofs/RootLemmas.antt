-- The interface on which all stand, over an interface of a sound registry.
use Rattle.std.proofs.Common.{◌≡◌, ℕ, Bool, true, ◌&&◌, List, refl, sym, subst, ◌∙◌, arith}
use Rattle.std.specs.Prelude.{◌↔◌, IsTrue}
use Rattle.std.specs.Str.{bytes_eq}
use Rattle.std.proofs.lemmas.Bool.{and_parts}
use Rattle.std.proofs.lemmas.Slice.Eq.{bytes_eq-Decides}
use Rattle.uno_model.specs.BuiltIn.{x_interface, x_interface_name, HasBuiltIn}
use Rattle.uno_model.specs.Entities.{Entity}
use Rattle.uno_model.specs.Registry.{IsBaseOf}
use Rattle.uno_model.specs.Sound.{IsSound, is_there, is_interface}
use Rattle.uno_model.proofs.FunctionLaws.{rooted}

pub root_over : (reg : List Entity) (to from : List ℕ) (test : Bool) → IsSound reg → HasBuiltIn reg → test ≡ (bytes_eq to x_interface_name && is_there reg is_interface from)
    → test ≡ true → IsTrue true ↔ IsBaseOf reg to from
root_over reg to from test sound built_in is passed =
    let parts = and_parts (bytes_eq to x_interface_name) (is_there reg is_interface from) (sym is ∙ passed) in
    let same = (bytes_eq-Decides to x_interface_name).0 parts.0 in
    (λ yes. subst (λ n. IsBaseOf reg n from) (sym same) (rooted reg from sound (built_in.found x_interface (4, omega arith, refl)) parts.1).1, λ base. refl)
