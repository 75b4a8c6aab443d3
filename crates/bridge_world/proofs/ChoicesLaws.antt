-- What may be done at an end, of its endpoint and of the history of both.
use Rattle.std.proofs.Common.{◌≡◌, sym, ap, ◌∙◌, subst, ℕ, not, ◌&&◌, is_some, List, length}
use Rattle.bridge_endpoint.specs.Journals.{Endpoint, setting_at, told_at}
use Rattle.bridge_model.specs.Answers.{bytes_wait, is_some_piece, may_reap}
use Rattle.bridge_model.specs.Histories.{Told}
use Rattle.bridge_model.specs.Settings.{Setting}
use Rattle.bridge_model.specs.Sides.{Side, stands}
use Rattle.world_laws.specs.Linking.{AreTwoEnds}
use Rattle.move_choice.specs.Choosing.{AreChoices, counted}
use Rattle.move_choice.specs.declared.choices.Choices.{Choices}
use Rattle.world_model.specs.Moves.{applying, stepping}
use Rattle.plan_model.specs.Roots.{Run}
use Rattle.world_model.specs.Worlds.{of_a, of_b, pipe}
use Rattle.bridge_world.specs.Joined.{joined, settings_of, world_of}
use Rattle.bridge_world.specs.Worlds.{IsWorld}
use Rattle.bridge_world.proofs.Known.{now_a, now_b, of_second}

-- each field by the side of its end, and the bytes on the way by what both told
pub choices_are : (g h : Setting) (x y : Told) (s t : Side) → s ≡ x.side → t ≡ y.side → (way : List ℕ) → way ≡ pipe y x → (rs : List Run) (c : Choices) → c.ready ≡ counted (length (applying s))
    → c.moving ≡ counted (length (stepping g s 0 rs)) → c.reaps ≡ is_some (may_reap g s) → c.drains ≡ bytes_wait g s → c.carries ≡ (is_some_piece way && stands s)
    → c.closes ≡ (not (stands t) && (not (bytes_wait h t) && (not (is_some_piece way) && stands s))) → AreChoices g h x y rs c
choices_are g h x y s t of_x of_y way on_way rs c ready moving reaps drains carries closes =
    record {
      ready = ready ∙ ap (λ (z : Side). counted (length (applying z))) of_x;
      moving = moving ∙ ap (λ (z : Side). counted (length (stepping g z 0 rs))) of_x;
      reaps = reaps ∙ ap (λ (z : Side). is_some (may_reap g z)) of_x;
      drains = drains ∙ ap (λ (z : Side). bytes_wait g z) of_x;
      carries = carries ∙ (ap (λ (w : List ℕ). is_some_piece w && stands s) on_way ∙ ap (λ (z : Side). is_some_piece (pipe y x) && stands z) of_x);
      closes =
          closes
          ∙ (ap (λ (w : List ℕ). not (stands t) && (not (bytes_wait h t) && (not (is_some_piece w) && stands s))) on_way
          ∙ (ap (λ (z : Side). not (stands t) && (not (bytes_wait h t) && (not (is_some_piece (pipe y x)) && stands z))) of_x
          ∙ ap (λ (z : Side). not (stands z) && (not (bytes_wait h z) && (not (is_some_piece (pipe y x)) && stands x.side))) of_y));
    }

module _ (a b : Endpoint) (to_a to_b : List ℕ) (is : IsWorld a b to_a to_b) (ends : AreTwoEnds (settings_of (joined a b)) (joined a b).events (told_at a) (told_at b) to_a to_b) (rs : List Run) (c : Choices) where
  pub choices_a : AreChoices (setting_at a) (setting_at b) (told_at a) (told_at b) rs c
      → AreChoices (of_a (settings_of (joined a b))) (of_b (settings_of (joined a b))) (world_of (joined a b)).a.now (world_of (joined a b)).b.now rs c
  choices_a are =
      subst (λ (h : Setting). AreChoices (setting_at a) h (world_of (joined a b)).a.now (world_of (joined a b)).b.now rs c) (sym (of_second a b to_a to_b is))
      (subst (λ (y : Told). AreChoices (setting_at a) (setting_at b) (world_of (joined a b)).a.now y rs c) (sym (now_b a b to_a to_b ends))
      (subst (λ (x : Told). AreChoices (setting_at a) (setting_at b) x (told_at b) rs c) (sym (now_a a b to_a to_b ends)) are))

  pub choices_b : AreChoices (setting_at b) (setting_at a) (told_at b) (told_at a) rs c
      → AreChoices (of_b (settings_of (joined a b))) (of_a (settings_of (joined a b))) (world_of (joined a b)).b.now (world_of (joined a b)).a.now rs c
  choices_b are =
      subst (λ (g : Setting). AreChoices g (setting_at a) (world_of (joined a b)).b.now (world_of (joined a b)).a.now rs c) (sym (of_second a b to_a to_b is))
      (subst (λ (y : Told). AreChoices (setting_at b) (setting_at a) (world_of (joined a b)).b.now y rs c) (sym (now_a a b to_a to_b ends))
      (subst (λ (x : Told). AreChoices (setting_at b) (setting_at a) x (told_at a) rs c) (sym (now_b a b to_a to_b ends)) are))
