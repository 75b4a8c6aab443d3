-- A loop that reads one after the other, and keeps of each a part.
use Rattle.std.proofs.Common.{◌≡◌, ◌<◌, ◌≤◌, Bool, true, false, List, [], ◌∷◌, ◌++◌, length, map, Option, Result, Ok, Err}
use Rattle.std.proofs.Common.{sym, ap, subst, ◌∙◌, le_refl, arith}
use Rattle.std.proofs.lemmas.List.{append_assoc, append-nil, map-append}
use Rattle.grammar_model.proofs.LoopLaws.{begins, reads_on, is_done, goes_wrong}
use Rattle.grammar_model.specs.Loops.{SoFar}
use Rattle.grammar_model.specs.Readings.{Reads, next, ◌>>=◌, many, image}
use Rattle.grammar_model.specs.declared.fault.Fault.{Fault}
use Rattle.idl_model.specs.Grammar.{Tokens}
use Rattle.idl_model.specs.PlacedTokens.{PlacedToken}
use Rattle.idl_parse.specs.Reading.{Fails}
use Rattle.idl_parse.specs.declared.stop.Stop.{Stop}
use Rattle.idl_parse.specs.declared.stop.Stop.TheVariants.{NoMemory, At}

module _ {T X Y : Type 0} (g : X → Y) (c : Option T → Bool) (r : Reads T X) where
  -- these parts stand now behind those before, and this is left
  pub record PartsTo (start : List T) (before now : List Y) (left : List T) : Type 0 where
    pub front : List X
    pub far : SoFar c r (many c r start) front left
    pub same : now ≡ before ++ map g front

  pub parts_begin : (start : List T) (before : List Y) → PartsTo start before before start
  parts_begin start before = record { front = []; far = begins c r start; same = sym (append-nil before) }

  pub parts_on : (start : List T) (before now : List Y) (left behind : List T) (x : X) → PartsTo start before now left → c (next left) ≡ true
      → r left ≡ Ok (x, behind) → length behind < length left → PartsTo start before (now ++ g x ∷ []) behind
  parts_on start before now left behind x to on is shorter = record {
    front = to.front ++ (x ∷ []);
    far = reads_on c r (many c r start) to.front left behind x to.far on is shorter;
    same = ap (λ ys. ys ++ g x ∷ []) to.same ∙ append_assoc before (map g to.front) (g x ∷ []) ∙ ap (λ ys. before ++ ys) (sym (map-append g to.front (x ∷ [])));
  }

  pub parts_done : (start : List T) (before now : List Y) (left : List T) → PartsTo start before now left → c (next left) ≡ false
      → image (λ xs. before ++ map g xs) (many c r) start ≡ Ok (now, left)
  parts_done start before now left to off =
      ap (λ (k : Result (List X × List T) Fault). k >>= λ z. Ok (before ++ map g z.0, z.1)) (is_done c r (many c r start) to.front left to.far off)
      ∙ ap (λ ys. Ok (ys, left)) (sym to.same)

  pub parts_wrong : (start : List T) (before now : List Y) (left : List T) (e : Fault) → PartsTo start before now left → c (next left) ≡ true
      → r left ≡ Err e → 0 < length left → image (λ xs. before ++ map g xs) (many c r) start ≡ Err e
  parts_wrong start before now left e to on is some =
      ap (λ (k : Result (List X × List T) Fault). k >>= λ z. Ok (before ++ map g z.0, z.1)) (goes_wrong c r (many c r start) to.front left e to.far on is some)

-- ---- the same in the parser, where what is left is no longer than at the start
module _ {X Y : Type 0} (g : X → Y) (c : Option PlacedToken → Bool) (r : Reads PlacedToken X) where
  pub record HasParts (start : Tokens) (before now : List Y) (left : Tokens) : Type 0 where
    pub parts : PartsTo g c r start before now left
    pub shorter : length left ≤ length start

  pub begin_parts : (start : Tokens) (before : List Y) → HasParts start before before start
  begin_parts start before = record { parts = parts_begin g c r start before; shorter = le_refl (length start) }

  pub more_parts : (start : Tokens) (before now later : List Y) (left behind : Tokens) (x : X) → HasParts start before now left → true ≡ c (next left)
      → r left ≡ Ok (x, behind) → length behind < length left → later ≡ now ++ (g x ∷ []) → HasParts start before later behind
  more_parts start before now later left behind x has on is less pushed = record {
    parts = subst (λ (k : List Y). PartsTo g c r start before k behind) (sym pushed) (parts_on g c r start before now left behind x has.parts (sym on) is less);
    shorter = let within = has.shorter in omega (arith, within, less);
  }

  pub all_parts : (start : Tokens) (before now : List Y) (left : Tokens) → HasParts start before now left → false ≡ c (next left)
      → image (λ xs. before ++ map g xs) (many c r) start ≡ Ok (now, left)
  all_parts start before now left has off = parts_done g c r start before now left has.parts (sym off)

  pub lost_parts : (start : Tokens) (before now : List Y) (left : Tokens) (stop : Stop) → HasParts start before now left → true ≡ c (next left)
      → 0 < length left → Fails stop (r left) → Fails stop (image (λ xs. before ++ map g xs) (many c r) start)
  lost_parts start before now left NoMemory has on some wrong = tt
  lost_parts start before now left (At f) has on some wrong = parts_wrong g c r start before now left f has.parts (sym on) wrong some
