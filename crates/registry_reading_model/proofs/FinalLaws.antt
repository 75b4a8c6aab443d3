-- From what was read of a text, and judged by the rules, to what the text says.
use Rattle.std.proofs.Common.{◌≡◌, ◌≢◌, ℕ, ◌<◌, true, false, not, ◌&&◌, List, [], ◌∷◌, ◌++◌, map, Some, Contains, refl, sym, ap}
use Rattle.std.proofs.Common.{◌∙◌, subst, inl, inr}
use Rattle.std.specs.List.{list_all, list_any}
use Rattle.std.proofs.lemmas.Bool.{and_parts, cases_Bool, not-true}
use Rattle.uno_model.specs.BuiltIn.{HasBuiltIn, built_in}
use Rattle.uno_model.specs.Entities.{Entity}
use Rattle.uno_model.specs.Names.{is_identifier, is_entity_name}
use Rattle.uno_model.specs.Uses.{kinds_in}
use Rattle.uno_model.specs.Registry.{IsRising}
use Rattle.uno_model.specs.Sound.{is_named}
use Rattle.uno_model.proofs.CircleLaws.{all_at, all_from}
use Rattle.uno_model.proofs.Options.{same_some}
use Rattle.registry_text_model.specs.EnumValues.{values_are_long}
use Rattle.registry_text_model.specs.Lines.{is_built_in_name, written, registry_text, text_of}
use Rattle.registry_text_model.specs.Reading.{names_used, is_spelled, results_written, is_writable, are_writable, text_lines, Says, BreaksRule}
use Rattle.registry_text_model.specs.Rules as r
use Rattle.registry_text_model.specs.Rules.{Rule, number_of, Keeps, AllKeep, KeepsTheRules, BreaksFirst}
use Rattle.registry_reading_model.specs.Changes.{entity_changed}
use Rattle.registry_reading_model.specs.Heads.{Head, head_named, named_in, heads_in}
use Rattle.registry_reading_model.specs.Kept.{limited, resolving, kept}
use Rattle.registry_reading_model.proofs.BrokenFirst.{items_or_other, kept_is_long}
use Rattle.registry_reading_model.proofs.BuiltInFacts.{each_built_in}
use Rattle.registry_reading_model.proofs.ChangedTwice.{kept_of_resolved}
use Rattle.registry_reading_model.proofs.ChangedUses.{is_named_changed}
use Rattle.registry_reading_model.proofs.HeadFound.{head_found, all_long_of_heads, HeadsCut, heads_cut}
use Rattle.registry_reading_model.proofs.HeadLaws.{heads_of, head_of_entity, heads_of_text}
use Rattle.registry_reading_model.proofs.KeptBreaks.{BreaksAt, BrokenBy, all_long, broken_kept, items_kept, kept_is_said}
use Rattle.registry_reading_model.proofs.Lifted.{of_built_in_name}
use Rattle.registry_reading_model.proofs.Mapped.{all_mapped}
use Rattle.registry_reading_model.proofs.SaysLaws.{resolved_lines, resolved_writable, resolved_rising, says_resolved}
use Rattle.registry_reading_model.specs.Whole.{ReadWhole}
use Rattle.registry_reading_model.proofs.WrittenPlaces.{contains_written}

-- ---- the entities with their names resolved

-- what is kept of entities of which the text has the lines, the headers and the names
record ReadResolved (bytes : List ℕ) (heads : List Head) (reg es : List Entity) : Type 0 where
  text : bytes ≡ text_of (text_lines es)
  writable : are_writable es ≡ true
  order : IsRising es
  heads_are : heads ≡ heads_of [] es
  keeps : written reg ≡ map (entity_changed limited) es
  rising : IsRising reg
  built_in : HasBuiltIn reg
  says : (other : List Entity) → written other ≡ es → IsRising other → HasBuiltIn other → Says bytes es other

abbrev entities_resolved : List Head → List Entity → List Entity
entities_resolved heads es = map (entity_changed (resolving (named_in heads))) es

read_resolved : (bytes : List ℕ) (heads : List Head) (reg : List Entity) → (read : ReadWhole bytes heads reg)
    → ReadResolved bytes heads reg (entities_resolved heads read.entities)
read_resolved bytes heads reg read =
    let es = read.entities in
    let change = resolving (named_in heads) in
    let lines : text_lines (entities_resolved heads es) ≡ text_lines es = resolved_lines heads es in
    let fits : are_writable (entities_resolved heads es) ≡ true = resolved_writable heads es ∙ read.writable in
    let order : IsRising (entities_resolved heads es) = resolved_rising change es read.order in
    record {
      text = read.text ∙ ap text_of (sym lines);
      writable = fits;
      order = order;
      heads_are = read.heads_are ∙ ap heads_in (sym lines) ∙ heads_of_text (entities_resolved heads es) fits order;
      keeps = read.keeps ∙ kept_of_resolved (named_in heads) es;
      rising = read.rising;
      built_in = read.built_in;
      says = says_of (heads_in (text_lines es)) refl read.heads_are;
    }
  where
    says_of : (hs : List Head) → hs ≡ heads_in (text_lines read.entities) → heads ≡ hs → (other : List Entity)
        → written other ≡ entities_resolved heads read.entities → IsRising other → HasBuiltIn other
        → Says bytes (entities_resolved heads read.entities) other
    says_of hs are same other all rising has =
        let is : heads ≡ heads_in (text_lines read.entities) = same ∙ are in
        subst (λ gs. Says bytes (entities_resolved gs read.entities) other) (sym is)
        (says_resolved bytes read.entities other read.text read.writable read.order (all ∙ ap (λ gs. entities_resolved gs read.entities) is) rising
        has)

-- ---- a text that says a registry that keeps the rules

built_in_is_named : (e : Entity) → Contains built_in e → is_named e ≡ true
unfolding Rattle.uno_model.specs.Names.parts_of
built_in_is_named = each_built_in (λ e. is_named e ≡ true) refl refl refl refl refl

named_of_writable : (e : Entity) → is_writable e ≡ true → is_named e ≡ true
unfolding is_writable
named_of_writable e writable =
    let rest = list_all is_entity_name (names_used e.body) && (list_all is_spelled (kinds_in e.body) && results_written e.body) in
    (and_parts (is_named e) rest writable).0

all_writable_named : (es : List Entity) → are_writable es ≡ true → list_all is_named es ≡ true
all_writable_named es writable =
    all_from is_named es (λ e there. named_of_writable e
    (and_parts (is_writable e) (not (is_built_in_name e.name)) (all_at (λ d. is_writable d && not (is_built_in_name d.name)) es e writable there)).0)

-- names are names where those of the written entities are
named_with_built_in : (reg : List Entity) → IsRising reg → HasBuiltIn reg → list_all is_named (written reg) ≡ true → list_all is_named reg ≡ true
named_with_built_in reg rising has named =
    all_from is_named reg (λ e there. elim (cases_Bool (is_built_in_name e.name)) [
      | inl is ↦ built_in_is_named e (of_built_in_name reg rising has e there is)
      | inr other ↦ all_at is_named (written reg) e named (contains_written reg e there other)
    ])

all_kept_long : (es : List Entity) → list_all values_are_long (map (entity_changed limited) es) ≡ true
all_kept_long [] = refl
all_kept_long (e ∷ es) = rw (kept_is_long e, all_kept_long es) refl

-- in what is kept the rule on items is kept
long_kept : (bytes : List ℕ) (heads : List Head) (reg es : List Entity) → ReadResolved bytes heads reg es → AllKeep reg r.values
long_kept bytes heads reg es read = all_long reg read.rising read.built_in (ap (list_all values_are_long) read.keeps ∙ all_kept_long es)

pub values_kept : (bytes : List ℕ) (heads : List Head) (reg : List Entity) → ReadWhole bytes heads reg → AllKeep reg r.values
values_kept bytes heads reg whole = long_kept bytes heads reg (entities_resolved heads whole.entities) (read_resolved bytes heads reg whole)

keeps_the_rules : (bytes : List ℕ) (heads : List Head) (reg es : List Entity) → ReadResolved bytes heads reg es
    → ((rule : Rule) → rule ≢ r.values → AllKeep reg rule) → KeepsTheRules reg
keeps_the_rules bytes heads reg es read keeps =
    record {
      named =
          named_with_built_in reg read.rising read.built_in
          (ap (list_all is_named) read.keeps ∙ all_mapped (entity_changed limited) is_named is_named (is_named_changed limited) es
          ∙ all_writable_named es read.writable);
      each = λ rule. elim (items_or_other rule) [
        | inl is ↦ subst (AllKeep reg) (sym is) (long_kept bytes heads reg es read)
        | inr other ↦ keeps rule other
      ];
    }

pub said : (bytes : List ℕ) (heads : List Head) (reg : List Entity) → ReadWhole bytes heads reg → list_any (λ h. h.beyond) heads ≡ false
    → ((rule : Rule) → rule ≢ r.values → AllKeep reg rule) → (registry_text reg ≡ bytes) × KeepsTheRules reg
said bytes heads reg whole none keeps =
    let es = entities_resolved heads whole.entities in
    let read = read_resolved bytes heads reg whole in
    let rules = keeps_the_rules bytes heads reg es read keeps in
    let long = all_long_of_heads [] es (ap (list_any (λ (h : Head). h.beyond)) (sym read.heads_are) ∙ none) in
    (ap (λ ds. text_of (text_lines ds)) (kept_is_said reg es read.rising read.built_in read.keeps long rules) ∙ sym read.text, rules)

-- ---- a text that says a registry that breaks a rule

-- the entities of a text break the rule first by one of them, whose header is the one of its name
breaks_of : (bytes : List ℕ) (heads : List Head) (reg es before : List Entity) (e : Entity) (behind : List Entity) (rule : Rule)
    → ReadResolved bytes heads reg es
    → es ≡ before ++ e ∷ behind → BreaksAt before e behind rule → BreaksRule bytes rule (head_of_entity before e).line
breaks_of bytes heads reg es before e behind rule read split at =
    record {
      before = before;
      entity = e;
      behind = behind;
      reg = at.reg;
      says = subst (λ ds. Says bytes ds at.reg) split (read.says at.reg (at.written ∙ sym split) at.rising at.built_in);
      first = at.first;
      place = refl;
    }

head_of_broken : (bytes : List ℕ) (heads : List Head) (reg es before : List Entity) (e : Entity) (behind : List Entity)
    → ReadResolved bytes heads reg es
    → es ≡ before ++ e ∷ behind → head_named e.name heads ≡ Some (head_of_entity before e)
head_of_broken bytes heads reg es before e behind read split =
    ap (head_named e.name) (read.heads_are ∙ ap (heads_of []) split) ∙ head_found [] before e behind (subst IsRising split read.order)

record Broken (bytes : List ℕ) (heads : List Head) (rule : Rule) (k : Entity) : Type 0 where
  head : Head
  named : head_named k.name heads ≡ Some head
  breaks : BreaksRule bytes rule head.line

broken_by : (bytes : List ℕ) (heads : List Head) (reg : List Entity) → ReadWhole bytes heads reg → (rule : Rule)
    → (number_of r.values < number_of rule → list_any (λ h. h.beyond) heads ≡ false) → (k : Entity) → BreaksFirst reg rule k
    → Broken bytes heads rule k
broken_by bytes heads reg whole rule none k first =
    let es = entities_resolved heads whole.entities in
    let read = read_resolved bytes heads reg whole in
    let long : number_of r.values < number_of rule → list_all values_are_long es ≡ true =
    λ low. all_long_of_heads [] es (ap (list_any (λ (h : Head). h.beyond)) (sym read.heads_are) ∙ none low) in
    of_parts es read first.place (broken_kept reg es rule k read.rising read.built_in read.keeps long first)
  where
    of_parts : (es : List Entity) → ReadResolved bytes heads reg es → (place : ℕ) → BrokenBy reg es rule k place → Broken bytes heads rule k
    of_parts es read place (before, e, behind, split, is, front, at) =
        record {
          head = head_of_entity before e;
          named =
              subst (λ (d : Entity). head_named d.name heads ≡ Some (head_of_entity before e)) is
              (head_of_broken bytes heads reg es before e behind read split);
          breaks = breaks_of bytes heads reg es before e behind rule read split at;
        }

pub has_head : (bytes : List ℕ) (heads : List Head) (reg : List Entity) → ReadWhole bytes heads reg → (rule : Rule)
    → (number_of r.values < number_of rule → list_any (λ h. h.beyond) heads ≡ false) → (k : Entity) → BreaksFirst reg rule k
    → (h : Head) × (head_named k.name heads ≡ Some h)
has_head bytes heads reg whole rule none k first = let broken = broken_by bytes heads reg whole rule none k first in (broken.head, broken.named)

pub breaks : (bytes : List ℕ) (heads : List Head) (reg : List Entity) → ReadWhole bytes heads reg → (rule : Rule)
    → (number_of r.values < number_of rule → list_any (λ h. h.beyond) heads ≡ false) → (k : Entity) → BreaksFirst reg rule k → (h : Head)
    → head_named k.name heads ≡ Some h
    → BreaksRule bytes rule h.line
breaks bytes heads reg whole rule none k first h named =
    let broken = broken_by bytes heads reg whole rule none k first in
    let same : broken.head ≡ h = same_some (sym broken.named ∙ named) in
    subst (λ (g : Head). BreaksRule bytes rule g.line) same broken.breaks

-- ---- a text with a value beyond those of `long`

pub breaks_values : (bytes : List ℕ) (heads : List Head) (reg : List Entity) → ReadWhole bytes heads reg
    → ((lesser : Rule) → number_of lesser < number_of r.values → AllKeep reg lesser)
    → (before : List Head) (h : Head) (behind : List Head) → heads ≡ before ++ h ∷ behind → list_any (λ g. g.beyond) before ≡ false → h.beyond ≡ true
    → BreaksRule bytes r.values h.line
breaks_values bytes heads reg whole lesser before h behind split none beyond =
    let es = entities_resolved heads whole.entities in
    let read = read_resolved bytes heads reg whole in
    of_cut es read (heads_cut [] es before h behind (sym read.heads_are ∙ split))
  where
    short_of : (e : Entity) → not (values_are_long e) ≡ true → values_are_long e ≡ false
    short_of e is = not-true (values_are_long e) is

    of_cut : (es : List Entity) → ReadResolved bytes heads reg es → HeadsCut [] es before h → BreaksRule bytes r.values h.line
    of_cut es read (xs, e, ys, all, front, is) =
        let long : list_all values_are_long xs ≡ true = all_long_of_heads [] xs (ap (list_any (λ (g : Head). g.beyond)) (sym front) ∙ none) in
        let short : values_are_long e ≡ false = short_of e (sym (ap (λ (g : Head). g.beyond) is) ∙ beyond) in
        let at : BreaksAt xs e ys r.values =
        items_kept reg xs ys e read.rising read.built_in (read.keeps ∙ ap (map (entity_changed limited)) all) long short lesser in
        subst (λ (g : Head). BreaksRule bytes r.values g.line) (sym is) (breaks_of bytes heads reg es xs e ys r.values read all at)
