-- Words of a text, as code lends them.
use Rattle.std.specs.Prelude.{ℕ, List, ◌++◌, map, codes}
use Rattle.std.specs.Borrow.{Bor}
use Rattle.registry_text_model.specs.Lines.{flag_word}
use Rattle.uno_model.specs.declared.flags.Flags.{Flags}

-- what is lent
abbrev pub words_at : List (Bor (List ℕ)) → List (List ℕ)
words_at words = map (λ w. w.now) words

-- the flags up to `maybedefault`, and the others
abbrev pub first_flags : Flags → List (List ℕ)
first_flags f =
    flag_word f.bound (codes "bound") ++ (flag_word f.constrained (codes "constrained") ++ (flag_word f.maybeambiguous (codes "maybeambiguous") ++ flag_word f.maybedefault (codes "maybedefault")))

abbrev pub other_flags : Flags → List (List ℕ)
other_flags f =
    flag_word f.maybevoid (codes "maybevoid") ++ (flag_word f.optional (codes "optional") ++ (flag_word f.readonly (codes "readonly") ++ (flag_word f.removable (codes "removable") ++ flag_word f.transient (codes "transient"))))
