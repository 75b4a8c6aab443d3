-- What two ends know of their history, as it is seen of both.
use Rattle.std.proofs.Common.{◌≡◌, refl, sym, ap, ◌∙◌, ℕ, List}
use Rattle.bridge_core.specs.declared.side.Side.{Side}
use Rattle.bridge_core.specs.declared.side.Side.TheVariants as code
use Rattle.bridge_endpoint.specs.Journals.{Endpoint, setting_at, told_at}
use Rattle.bridge_model.specs.Histories.{Told}
use Rattle.bridge_core.specs.Standing.{IsHistory}
use Rattle.world_laws.proofs.Histories.{one_history}
use Rattle.world_laws.specs.Linking.{AreTwoEnds}
use Rattle.world_model.specs.Worlds.{pipe}
use Rattle.bridge_world.specs.Doing.{IsKnown, other_of, setting_in, told_in}
use Rattle.bridge_world.specs.Joined.{end_at, joined, on_the_way, settings_of}
use Rattle.bridge_world.specs.Worlds.{IsWorld}
use Rattle.bridge_world.proofs.Going.{end_a, end_b}
use Rattle.bridge_world.proofs.Known.{keeps_always, now_a, now_b, of_first, of_second, runs_to, way_to_a, way_to_b}
use Rattle.bridge_world.proofs.Opening.{two_ends}
use Rattle.bridge_world.proofs.Unmarked.{unmark}

same_told : (e : Endpoint) → told_at e ≡ told_at (unmark e)
unfolding told_at
same_told e = refl

module _ (a b : Endpoint) (to_a to_b : List ℕ) (is : IsWorld a b to_a to_b) (ends : AreTwoEnds (settings_of (joined a b)) (joined a b).events (told_at a) (told_at b) to_a to_b) where
  setting_is : (s : Side) → setting_in (joined a b) s ≡ setting_at (end_at (joined a b) s)
  setting_is code.A = of_first a b
  setting_is code.B = of_second a b to_a to_b is

  told_is : (s : Side) → told_in (joined a b) s ≡ told_at (end_at (joined a b) s)
  told_is code.A = now_a a b to_a to_b ends ∙ (same_told a ∙ ap told_at (sym (end_a a b to_a to_b is)))
  told_is code.B = now_b a b to_a to_b ends ∙ (same_told b ∙ ap told_at (sym (end_b a b to_a to_b is)))

  pipe_between : (x y u v : Told) → x ≡ u → y ≡ v → pipe x y ≡ pipe u v
  pipe_between x y u v first second = ap (λ (t : Told). pipe t y) first ∙ ap (pipe u) second

  way_is : (s : Side) → pipe (told_in (joined a b) (other_of s)) (told_in (joined a b) s) ≡ on_the_way (joined a b) s
  way_is code.A =
      pipe_between (told_in (joined a b) code.B) (told_in (joined a b) code.A) (told_at b) (told_at a) (now_b a b to_a to_b ends) (now_a a b to_a to_b ends)
      ∙ ((one_history (settings_of (joined a b)) (joined a b).events (told_at a) (told_at b) to_a to_b ends).pipe_a ∙ sym (way_to_a a b to_a to_b is))
  way_is code.B =
      pipe_between (told_in (joined a b) code.A) (told_in (joined a b) code.B) (told_at a) (told_at b) (now_a a b to_a to_b ends) (now_b a b to_a to_b ends)
      ∙ ((one_history (settings_of (joined a b)) (joined a b).events (told_at a) (told_at b) to_a to_b ends).pipe_b ∙ sym (way_to_b a b to_a to_b is))

  pub ends_known : IsKnown (joined a b)
  ends_known = record { runs = runs_to a b to_a to_b ends; keeps = keeps_always a b to_a to_b ends; setting = setting_is; told = told_is; way = way_is }

pub both_known : (a b : Endpoint) (to_a to_b : List ℕ) → IsWorld a b to_a to_b → IsHistory a → IsHistory b → IsKnown (joined a b)
both_known a b to_a to_b is one two = ends_known a b to_a to_b is (two_ends a b to_a to_b is one.leads one.gives two.leads two.gives)
