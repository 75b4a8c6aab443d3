-- Places are in the order of their ranks.
use Rattle.std.proofs.Common.{◌≡◌, ap, ap₂, ◌∙◌, ℕ, ◌+◌, ◌*◌, ◌<◌, ◌≤◌, false, arith}
use Rattle.std.proofs.lemmas.Bool.Decides.{nat_tests}
use Rattle.std.proofs.lemmas.Nat.{div-add-mod', div-mul-add, mod-mul-add, mod_below}
use Rattle.idl_model.specs.Places.{Place, is_before}
use Rattle.idl_joint_places.specs.Ranks.{place_ranked, placed}

not_before : (p q : Place) (a b : ℕ) → p.file * 4294967296 + p.byte ≡ a → q.file * 4294967296 + q.byte ≡ b → p.byte < 4294967296 → q.byte < 4294967296 → a ≤ b → is_before q p ≡ false
not_before p q a b first second low other less = grind (arith, nat_tests)

pub ranked_behind : (a b : ℕ) → a ≤ b → is_before (place_ranked b) (place_ranked a) ≡ false
ranked_behind a b less =
    not_before (place_ranked a) (place_ranked b) a b (div-add-mod' a 4294967296) (div-add-mod' b 4294967296) (mod_below a 4294967296 (omega arith)) (mod_below b 4294967296 (omega arith)) less

pub rank_place : (file byte rank : ℕ) → byte < 4294967296 → rank ≡ file * 4294967296 + byte → place_ranked rank ≡ placed file byte
rank_place file byte rank low is =
    ap place_ranked is ∙ ap₂ placed (div-mul-add file 4294967296 byte low) (mod-mul-add file 4294967296 byte low)
