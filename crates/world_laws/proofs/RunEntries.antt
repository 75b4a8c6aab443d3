-- The move of a run at which an entry of one of its ends was made.
use Rattle.std.proofs.Common.{◌≡◌, refl, sym, ap, subst, ◌∙◌, ◌⊎◌, inl, inr, List, [], ◌∷◌, ◌++◌}
use Rattle.std.proofs.lemmas.List.{append_assoc}
use Rattle.bridge_model.specs.Entries.{Entry}
use Rattle.world_model.specs.Meetings.{Moves, Meets, begins, a_moves, b_moves}
use Rattle.world_model.specs.Worlds.{Settings, of_a, of_b, End, World, Event, entries_of}
use Rattle.world_model.specs.declared.side.Side.TheVariants.{A, B}
use Rattle.world_laws.proofs.RunLaws.{a_pushed, a_same, b_pushed, b_same}

-- ---- lists

no_cell : {X Y : Type 0} (front : List X) (x : X) (rest : List X) → [] ≡ front ++ x ∷ rest → Y
no_cell [] x rest is = absurd (cc)
no_cell (y ∷ front) x rest is = absurd (cc)

-- the place of an item is the last one, or stands before it
abbrev Placed : {X : Type 0} → (xs ys zs : List X) → (x y : X) → Type 0
Placed xs ys zs x y = ((zs ≡ []) × (xs ≡ ys) × (x ≡ y)) ⊎ ((more : List _) × (zs ≡ more ++ x ∷ []) × (xs ≡ ys ++ y ∷ more))

placed_on : {X : Type 0} (a b : X) (xs ys zs : List X) (x y : X) → a ≡ b → Placed xs ys zs x y → Placed (a ∷ xs) (b ∷ ys) zs x y
placed_on a b xs ys zs x y head (inl (none, same, one)) = inl (none, (λ i. head i ∷ same i), one)
placed_on a b xs ys zs x y head (inr (more, behind, same)) = inr (more, behind, (λ i. head i ∷ same i))

placed : {X : Type 0} (xs ys zs : List X) (x y : X) → xs ++ x ∷ [] ≡ ys ++ y ∷ zs → Placed xs ys zs x y
placed [] [] zs x y is = let none : zs ≡ [] = cc in let one : x ≡ y = cc in inl (none, refl, one)
placed [] (b ∷ ys) zs x y is = let tails : [] ≡ ys ++ y ∷ zs = cc in no_cell ys y zs tails
placed (a ∷ xs) [] zs x y is = let tails : zs ≡ xs ++ x ∷ [] = cc in let head : a ≡ y = cc in inr (xs, tails, ap (λ z. z ∷ xs) head)
placed (a ∷ xs) (b ∷ ys) zs x y is = let head : a ≡ b = cc in let tails : xs ++ x ∷ [] ≡ ys ++ y ∷ zs = cc in placed_on a b xs ys zs x y head (placed xs ys zs x y tails)

-- ---- the first end

pub record MadeA (g : Settings) (es : List Event) (before : List Entry) (e : Entry) : Type 0 where
  pub front : List Event
  pub rest : List Event
  pub run : es ≡ front ++ record { side = A; entry = e } ∷ rest
  pub world : World
  pub met : Meets g front world
  pub after : End
  pub move : Moves (of_a g) world.a world.b e after
  pub entries : entries_of A front ≡ before

later_a : (g : Settings) (es : List Event) (before : List Entry) (e : Entry) (x : Event) → MadeA g es before e → MadeA g (es ++ x ∷ []) before e
later_a g es before e x k =
    record {
      front = k.front;
      rest = k.rest ++ x ∷ [];
      run = ap (λ zs. zs ++ x ∷ []) k.run ∙ append_assoc k.front (record { side = A; entry = e } ∷ k.rest) (x ∷ []);
      world = k.world;
      met = k.met;
      after = k.after;
      move = k.move;
      entries = k.entries;
    }

by_place_a : (g : Settings) (es : List Event) (w : World) (x e : Entry) (after : End) (before later : List Entry) → Meets g es w → Moves (of_a g) w.a w.b x after → Placed (entries_of A es) before later x e
    → ((more : List Entry) → entries_of A es ≡ before ++ e ∷ more → MadeA g es before e) → MadeA g (es ++ record { side = A; entry = x } ∷ []) before e
by_place_a g es w x e after before later met m (inl (none, same, one)) further =
    record {
      front = es;
      rest = [];
      run = ap (λ z. es ++ record { side = A; entry = z } ∷ []) one;
      world = w;
      met = met;
      after = after;
      move = subst (λ z. Moves (of_a g) w.a w.b z after) one m;
      entries = same;
    }
by_place_a g es w x e after before later met m (inr (more, behind, same)) further = later_a g es before e (record { side = A; entry = x }) (further more same)

pub made_a : (g : Settings) (es : List Event) (w : World) → Meets g es w → (before later : List Entry) (e : Entry) → entries_of A es ≡ before ++ e ∷ later → MadeA g es before e
unfolding entries_of
made_a g es w begins before later e is = no_cell before e later is
made_a g es' w' (a_moves es w x after met m) before later e is =
    by_place_a g es w x e after before later met m (placed (entries_of A es) before later x e (sym (a_pushed es x) ∙ is)) (λ more same. made_a g es w met before more e same)
made_a g es' w' (b_moves es w x after met m) before later e is = later_a g es before e (record { side = B; entry = x }) (made_a g es w met before later e (sym (a_same es x) ∙ is))

-- ---- the second

pub record MadeB (g : Settings) (es : List Event) (before : List Entry) (e : Entry) : Type 0 where
  pub front : List Event
  pub rest : List Event
  pub run : es ≡ front ++ record { side = B; entry = e } ∷ rest
  pub world : World
  pub met : Meets g front world
  pub after : End
  pub move : Moves (of_b g) world.b world.a e after
  pub entries : entries_of B front ≡ before

later_b : (g : Settings) (es : List Event) (before : List Entry) (e : Entry) (x : Event) → MadeB g es before e → MadeB g (es ++ x ∷ []) before e
later_b g es before e x k =
    record {
      front = k.front;
      rest = k.rest ++ x ∷ [];
      run = ap (λ zs. zs ++ x ∷ []) k.run ∙ append_assoc k.front (record { side = B; entry = e } ∷ k.rest) (x ∷ []);
      world = k.world;
      met = k.met;
      after = k.after;
      move = k.move;
      entries = k.entries;
    }

by_place_b : (g : Settings) (es : List Event) (w : World) (x e : Entry) (after : End) (before later : List Entry) → Meets g es w → Moves (of_b g) w.b w.a x after → Placed (entries_of B es) before later x e
    → ((more : List Entry) → entries_of B es ≡ before ++ e ∷ more → MadeB g es before e) → MadeB g (es ++ record { side = B; entry = x } ∷ []) before e
by_place_b g es w x e after before later met m (inl (none, same, one)) further =
    record {
      front = es;
      rest = [];
      run = ap (λ z. es ++ record { side = B; entry = z } ∷ []) one;
      world = w;
      met = met;
      after = after;
      move = subst (λ z. Moves (of_b g) w.b w.a z after) one m;
      entries = same;
    }
by_place_b g es w x e after before later met m (inr (more, behind, same)) further = later_b g es before e (record { side = B; entry = x }) (further more same)

pub made_b : (g : Settings) (es : List Event) (w : World) → Meets g es w → (before later : List Entry) (e : Entry) → entries_of B es ≡ before ++ e ∷ later → MadeB g es before e
unfolding entries_of
made_b g es w begins before later e is = no_cell before e later is
made_b g es' w' (b_moves es w x after met m) before later e is =
    by_place_b g es w x e after before later met m (placed (entries_of B es) before later x e (sym (b_pushed es x) ∙ is)) (λ more same. made_b g es w met before more e same)
made_b g es' w' (a_moves es w x after met m) before later e is = later_b g es before e (record { side = A; entry = x }) (made_b g es w met before later e (sym (b_same es x) ∙ is))
