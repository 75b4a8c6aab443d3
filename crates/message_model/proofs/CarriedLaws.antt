-- Several values that a sender writes spell them as they arrive.
use Rattle.std.proofs.Common.{◌≡◌, ℕ, ◌≤◌, List, [], ◌∷◌, refl, sym, ap, subst, ◌∙◌}
use Rattle.uno_model.specs.Entities.{Entity}
use Rattle.uno_model.specs.Fits.{Fits, FitEach}
use Rattle.uno_model.specs.Kinds.{Kind}
use Rattle.uno_model.specs.Recast.{recast_each}
use Rattle.uno_model.specs.Sound.{IsSound}
use Rattle.uno_model.specs.Values.{Plain, Plains, none, more, plains, depth}
use Rattle.uno_model.specs.Weights.{weight, weights}
use Rattle.uno_model.specs.Spellable.{IsSpellable, AreSpellable}
use Rattle.urp_model.specs.Carried.{abroad_each, carried, AllCorrespond}
use Rattle.urp_model.specs.Spelling.{SpellsEach, Spells}
use Rattle.urp_model.specs.Tables.{Tables}
use Rattle.urp_model.specs.Writing.{HeldNames, after, afters, spelling, spellings}
use Rattle.urp_model.proofs.SentLaws.{value_sent, each_sent}
use Rattle.urp_model.proofs.SizeLaws.{light_sized, each_sized}
use Rattle.message_model.specs.Sayable.{Fill, carried_each}

-- the values that are parts of a value
abbrev listed : Plains → List Plain
listed none = []
listed (more v vs) = v ∷ listed vs

listed_back : (vs : List Plain) → listed (plains vs) ≡ vs
listed_back [] = refl
listed_back (v ∷ vs) = ap (λ z. v ∷ z) (listed_back vs)

-- values as they arrive, one by one and as the parts of a value
pub each_arrived : (reg : List Entity) (vs : List Plain) (ks : List Kind) → FitEach reg (plains vs) ks → abroad_each (recast_each reg (plains vs) ks) ≡ plains (carried_each reg vs ks)
unfolding FitEach recast_each abroad_each carried_each
each_arrived reg [] ks fit = refl
each_arrived reg (v ∷ vs) [] fit = absurd fit
each_arrived reg (v ∷ vs) (k ∷ ks) fit = ap (more (carried reg v k)) (each_arrived reg vs ks fit.1)

-- values as they are written, and that the reader's tables go on to answer
abbrev pub EachCarried : List Entity → List Kind → Tables → List Plain → HeldNames → Type 0
EachCarried reg ks s vs h =
    (t : Tables) × SpellsEach (Spells 64 reg) ks s (carried_each reg vs ks) (spellings (plains vs) h) t × AllCorrespond t (afters (plains vs) h)

pub each_is : (reg : List Entity) (vs : List Plain) (ks : List Kind) (s : Tables) (h : HeldNames) → IsSound reg → Fill reg vs ks → weights (plains vs) ≤ 16777216
    → AreSpellable (plains vs) → AllCorrespond s h → EachCarried reg ks s vs h
each_is reg vs ks s h sound fill light ranged c =
    let sent = each_sent reg sound.named (plains vs) 64 ks s h fill.deep fill.fit ranged (each_sized reg sound (plains vs) ks fill.fit light) c in
    let same : sent.0 ≡ carried_each reg vs ks
    = sym (listed_back sent.0) ∙ ap listed (sent.2 ∙ each_arrived reg vs ks fill.fit) ∙ listed_back (carried_each reg vs ks) in
    (sent.1, subst (λ xs. SpellsEach (Spells 64 reg) ks s xs (spellings (plains vs) h) sent.1) same sent.3, sent.4)

-- one value as it is written, and that the reader's tables go on to answer
pub value_is : (reg : List Entity) (levels : ℕ) (v : Plain) (k : Kind) (s : Tables) (h : HeldNames) → IsSound reg → Fits reg v k → depth v ≤ levels → weight v ≤ 16777216
    → IsSpellable v → AllCorrespond s h → (t : Tables) × Spells levels reg k s (carried reg v k) (spelling v h) t × AllCorrespond t (after v h)
value_is reg levels v k s h sound fits deep light ranged c = value_sent reg sound.named v levels k s h deep fits ranged (light_sized reg sound v k fits light) c
