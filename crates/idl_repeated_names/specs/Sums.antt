-- Places of which some are missing, and what is known of them: the least one, and whether one is missing.
use Rattle.std.specs.Prelude.{◌≡◌, Bool, true, false, ◌||◌, List, Option, None, Some, Contains, if◌then◌else◌}
use Rattle.std.specs.Option.{option_map}
use Rattle.idl_model.specs.Places.{Place, is_before}
use Rattle.idl_repeated_names.specs.declared.least.Least.{Least}
use Rattle.idl_trees.specs.Names.{place_of}

pub record Summary : Type 0 where
  pub place : Option Place
  pub bare : Bool

abbrev pub summary_of : Least → Summary
summary_of l = record { place = option_map place_of l.place; bare = l.bare }

-- the place is one of them, and none comes before it; and it is told whether one is missing
pub record Sums (them : List (Option Place)) (s : Summary) : Type 0 where
  pub one : (p : Place) → s.place ≡ Some p → Contains them (Some p)
  pub first : (q : Place) → Contains them (Some q) → (p : Place) × (s.place ≡ Some p) × (is_before q p ≡ false)
  pub missing : s.bare ≡ true → Contains them None
  pub bare : Contains them None → s.bare ≡ true

-- ---- of none, of one, and of two lists

abbrev pub nothing : Summary
nothing = record { place = None; bare = false }

abbrev pub of_one : Option Place → Summary
of_one None = record { place = None; bare = true }
of_one (Some p) = record { place = Some p; bare = false }

-- the lesser of two places, if there is another
abbrev pub lesser : Option Place → Place → Place
lesser None q = q
lesser (Some p) q = if is_before q p then q else p

abbrev pub least_both : Option Place → Option Place → Option Place
least_both p None = p
least_both p (Some q) = Some (lesser p q)

abbrev pub joined : Summary → Summary → Summary
joined s t = record { place = least_both s.place t.place; bare = s.bare || t.bare }

-- ---- where a name comes behind others

abbrev pub is_there : Option Place → Bool → Bool
is_there None bare = bare
is_there (Some p) bare = true

abbrev pub has_any : Summary → Bool
has_any s = is_there s.place s.bare

-- its own place counts, if there are others
abbrev pub own_with : Summary → Summary → Option Place → Summary
own_with found before place = if has_any before then joined found (of_one place) else found

-- or else that of each of these
abbrev pub second_with : Summary → Summary → Option Place → Summary
second_with found before None = joined found before
second_with found before (Some p) = own_with found before (Some p)
