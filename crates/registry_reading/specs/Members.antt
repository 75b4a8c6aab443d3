-- The lines of the members of an interface by their first words, in the order in which the code asks them.
use Rattle.std.specs.Prelude.{ℕ, List, Option, None, Some, codes, if◌then◌else◌}
use Rattle.std.specs.Str.{bytes_eq}
use Rattle.uno_model.specs.Entities.{Member, attribute, method, Constructor}
use Rattle.registry_reading_model.specs.Bodies.{pushed, last_changed, attribute_of, method_of, oneway_of, get_raises_added, set_raises_added, param_added, raises_added, given_added, rest_added, raised_added}
use Rattle.registry_reading_model.specs.Changes.{Change}
use Rattle.registry_reading_model.specs.Words.{on_some}

-- a line under a member
unfoldable pub added_under : Change → List ℕ → List ℕ → Member → Option Member
added_under c word text m =
    if bytes_eq word (codes "getraises") then get_raises_added text m
    else (if bytes_eq word (codes "setraises") then set_raises_added text m
    else (if bytes_eq word (codes "param") then param_added c text m
    else (if bytes_eq word (codes "raises") then raises_added text m
    else None)))

-- a member, or a line under the last one
unfoldable pub member_line : Change → List Member → List ℕ → List ℕ → Option (List Member)
member_line c members word text =
    if bytes_eq word (codes "attribute") then pushed members (on_some (attribute_of c text) (λ a. Some (attribute a)))
    else (if bytes_eq word (codes "method") then pushed members (on_some (method_of c text) (λ m. Some (method m)))
    else (if bytes_eq word (codes "oneway") then pushed members (on_some (oneway_of c text) (λ m. Some (method m)))
    else last_changed (added_under c word text) members))

-- a line under a constructor
unfoldable pub added_to : Change → List ℕ → List ℕ → Constructor → Option Constructor
added_to c word text k =
    if bytes_eq word (codes "param") then given_added c text k
    else (if bytes_eq word (codes "rest") then rest_added text k
    else (if bytes_eq word (codes "raises") then raised_added text k
    else None))
