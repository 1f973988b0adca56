-- A name by its part and by what is done to each of its characters.
-- Assumes nothing.
use mathlib.Core.Path.{◌≡◌, refl, ap, sym, ◌∙◌}
use mathlib.Core.Bool.{Bool, true, false, ◌||◌}
use mathlib.Core.List.{List, [], ◌∷◌, map}
use Prim.Native.Nat.{ℕ, ◌-◌, ◌≤◌, ◌<◌}
use native.Mathlib.Omega.{arith}
use borrow.Author.Tests.{ne_eqb}
use lib.Dec.{eqb}
use lib.ListN.{length, take, drop, length-drop}
use lib.Seq.{take_all}
use Rattle.std.specs.Prelude.{if◌then◌else◌, Some, None}
use Rattle.std.specs.declared.option.Option as rust
use Rattle.std.specs.Option.{option_map}
use Rattle.foundation.specs.Texts.{Text}
use Rattle.foundation.proofs.ChoiceLaws.{if_ind}
use Rattle.foundation.specs.declared.Span.{Span}
use Rattle.characters.specs.Characters.{width, utf8, from_utf8, from_utf16}
use Rattle.characters.specs.told.Places.{part_from}
use Rattle.characters.specs.told.Plain.{instead, with_dots, slashed_character}
use Rattle.characters.proofs.TestLaws.{below}
use Rattle.names.specs.told.Name.{predefined_list, OfBytes, source_numbered, source_text, fitted, is_measured, sized, turned, stepped_by, named_text}
use Rattle.names.specs.Records.{substituted, dotted, dollars_dotted}
use Rattle.names.specs.told.Stream.{with_dollars, turns_dollars, turns_both, changed, change_of, slashed_text, base_of, changed_bytes, sized_bytes, name_bytes}
use Rattle.names.specs.declared.name.Name.{Name}
use Rattle.names.specs.declared.name.Source.{Source}
use Rattle.names.specs.declared.name.Source.TheVariants.{Payload, Predefined, D2}
use Rattle.names.specs.declared.name.Operation.{Operation}
use Rattle.names.specs.declared.name.Operation.TheVariants.{Nothing, InternalToClassId, DescToClassId}
use Rattle.names.specs.declared.name.Change.{Change}
use Rattle.names.proofs.FittedLaws.{sized-map}
use Rattle.names.proofs.WidthLaws.{dollars-width, dots_width, slashes_width}

-- A part that goes to the end of s.
pub part-rest : {A : Type 0} (s : List A) (start end : ℕ) → length s ≤ end → take (length s - start) (drop start s) ≡ take (end - start) (drop start s)
part-rest s start end h =
    take_all (length s - start) (drop start s) (omega (arith, length-drop start s))
    ∙ sym (take_all (end - start) (drop start s) (omega (arith, length-drop start s)))

map-map : (g f : ℕ → ℕ) (t : Text) → map g (map f t) ≡ map (λ c. g (f c)) t
map-map g f [] = refl
map-map g f (c ∷ t) = ap (λ (u : Text). g (f c) ∷ u) (map-map g f t)

map_each : (f g : ℕ → ℕ) → ((c : ℕ) → f c ≡ g c) → (t : Text) → map f t ≡ map g t
map_each f g h [] = refl
map_each f g h (c ∷ t) = rw (h c, map_each f g h t)

-- / and $ become dots once
dots_once : (c : ℕ) → with_dots true (with_dots true c) ≡ with_dots true c
dots_once c =
    let Q : ℕ → Type 0 = λ x. with_dots true x ≡ x in
    if_ind Q (eqb (instead 0x24 0x2e c) 0x2f) (λ e. refl) (go (eqb c 0x24) refl)
  where
    go : (t : Bool) → eqb c 0x24 ≡ t → eqb (if t then 0x2e else c) 0x2f ≡ false → with_dots true (if t then 0x2e else c) ≡ (if t then 0x2e else c)
    go true e h = refl
    go false e h = rw (e, h)

dotted-each : (t : Text) → dotted t ≡ map (with_dots true) t
dotted-each [] = refl
dotted-each (c ∷ t) = ap (λ (u : Text). with_dots true c ∷ u) (dotted-each t)

map_same : (t : Text) → t ≡ map (λ c. c) t
map_same [] = refl
map_same (c ∷ t) = ap (λ (u : Text). c ∷ u) (map_same t)

-- What a name's steps do to each character.
stepped_cases : (t : Text) (op : Operation) (qualified : Bool)
    → let it = turned op t in
    (if qualified then dotted it else it) ≡ map (λ c. with_dots (turns_both op || qualified) (with_dollars (turns_dollars op) c)) t
unfolding turned
stepped_cases t InternalToClassId true =
    ap dotted (dotted-each t)
    ∙ dotted-each (map (with_dots true) t)
    ∙ map-map (with_dots true) (with_dots true) t
    ∙ map_each (λ c. with_dots true (with_dots true c)) (with_dots true) dots_once t
stepped_cases t InternalToClassId false = dotted-each t
stepped_cases t DescToClassId true = dotted-each (dollars_dotted t) ∙ map-map (with_dots true) (instead 0x24 0x2e) t
stepped_cases t DescToClassId false = refl
stepped_cases t Nothing true = dotted-each t
stepped_cases t Nothing false = map_same t

zero-shown : (dollars dots slashes : Bool) → slashed_character slashes (with_dots dots (with_dollars dollars 0)) ≡ 0
zero-shown true true true = refl
zero-shown true true false = refl
zero-shown true false true = refl
zero-shown true false false = refl
zero-shown false true true = refl
zero-shown false true false = refl
zero-shown false false true = refl
zero-shown false false false = refl

slashed-map : (slashes : Bool) (f : ℕ → ℕ) (t : Text) → slashed_text slashes (map f t) ≡ map (λ c. slashed_character slashes (f c)) t
slashed-map true f t = map-map (instead 0x2e 0x2f) f t
slashed-map false f t = refl

pub stepped-is : (n : Name) (t : Text) (slashes : Bool)
    → slashed_text slashes (stepped_by n t) ≡ sized n.size (map (changed (change_of (Some n) slashes)) t)
unfolding changed
stepped-is n t slashes =
    let dollars = turns_dollars n.operation in
    let dots = turns_both n.operation || n.qualified in
    let u = sized n.size (substituted n.from n.to t) in
    let f : ℕ → ℕ = λ c. slashed_character slashes (with_dots dots (with_dollars dollars c)) in
    let w : (c : ℕ) → width (f c) ≡ width c = λ c.
    slashes_width slashes (with_dots dots (with_dollars dollars c)) ∙ dots_width dots (with_dollars dollars c) ∙ dollars-width dollars c in
    ap (slashed_text slashes) (stepped_cases u n.operation n.qualified)
    ∙ slashed-map slashes (λ c. with_dots dots (with_dollars dollars c)) u
    ∙ sized-map f w (zero-shown dollars dots slashes) n.size (substituted n.from n.to t)
    ∙ ap (sized n.size) (map-map f (instead n.from n.to) t)

-- What a name is made of, by its source.
module _ (payload d2 : List ℕ) (source : Source) (part : Span) where
  pub source-payload : source ≡ Payload → source_text payload d2 source part ≡ from_utf8 (part_from part.start part.end payload)
  unfolding source_text
  source-payload e = rw e

  pub source-listed : source ≡ Predefined → source_text payload d2 source part ≡ from_utf8 (part_from part.start part.end predefined_list)
  unfolding source_text
  source-listed e = rw e

  pub source-units : source ≡ D2 → source_text payload d2 source part ≡ from_utf16 (part_from part.start part.end d2)
  unfolding source_text
  source-units e = rw e

-- of bytes: a part of the payload or of the list
pub source-bytes : (payload d2 : List ℕ) (source : Source) (part : Span) → OfBytes source
    → source_text payload d2 source part ≡ from_utf8 (part_from part.start part.end (base_of source payload predefined_list))
unfolding source_text
source-bytes payload d2 Payload part o = refl
source-bytes payload d2 Predefined part o = refl
source-bytes payload d2 D2 part o = absurd o

-- What is made of the source that a number has, if it has one.
module _ (payload d2 : List ℕ) (part : Span) (n : ℕ) where
  abbrev pub numbered_text : rust.Option Text
  numbered_text = option_map (λ s. source_text payload d2 s part) (source_numbered n)

  pub source-none : (n ≡ 1 → ⊥) → (n ≡ 2 → ⊥) → (n ≡ 3 → ⊥) → numbered_text ≡ None
  source-none f g h = rw (ne_eqb n 1 f, ne_eqb n 2 g, ne_eqb n 3 h)

  pub source-absent : n ≡ 0 → numbered_text ≡ None
  source-absent e = source-none (λ f. omega arith) (λ f. omega arith) λ f. omega arith

  pub source-past : 3 < n → numbered_text ≡ None
  source-past h = source-none (λ f. omega arith) (λ f. omega arith) λ f. omega arith

  pub source-there : 0 < n → n ≤ 3 → (t : Text) × (numbered_text ≡ Some t)
  source-there g h =
      below 2 n (λ l. let e : n ≡ 1 = omega arith in (source_text payload d2 Payload part, rw e)) λ l.
      below 3 n (λ m. let e : n ≡ 2 = omega arith in (source_text payload d2 Predefined part, rw e)) λ m.
      let e : n ≡ 3 = omega arith in
      (source_text payload d2 D2 part, rw e)

-- A name's bytes, by the change that the code made.
pub name-parts : (payload d2 : List ℕ) (n : Name) (slashes : Bool) {h : Change} → h ≡ change_of (Some n) slashes
    → name_bytes payload d2 (Some n) slashes ≡ sized_bytes n.size h (source_text payload d2 n.source n.part)
unfolding name_bytes named_text
name-parts payload d2 n slashes e =
    ap utf8 (stepped-is n (source_text payload d2 n.source n.part) slashes)
    ∙ ap (λ (k : Change). sized_bytes n.size k (source_text payload d2 n.source n.part)) (sym e)

pub name-bytes : (payload d2 : List ℕ) (n : Name) (slashes : Bool)
    → name_bytes payload d2 (Some n) slashes ≡ sized_bytes n.size (change_of (Some n) slashes) (source_text payload d2 n.source n.part)
name-bytes payload d2 n slashes = name-parts payload d2 n slashes refl

-- a name that may be absent
pub some-parts : (payload d2 : List ℕ) {o : rust.Option Name} {n : Name} → o ≡ Some n → (slashes : Bool) {h : Change} → h ≡ change_of (Some n) slashes
    → name_bytes payload d2 o slashes ≡ sized_bytes n.size h (source_text payload d2 n.source n.part)
some-parts payload d2 {o} {n} q slashes e = ap (λ (x : rust.Option Name). name_bytes payload d2 x slashes) q ∙ name-parts payload d2 n slashes e

pub name-none : (payload d2 : List ℕ) {o : rust.Option Name} → o ≡ None → (slashes : Bool) → name_bytes payload d2 o slashes ≡ []
unfolding name_bytes
name-none payload d2 q slashes = rw q

-- by whether a size is noted
module _ (size : ℕ) (h : Change) {o t : Text} (e : o ≡ t) where
  pub sized_walked : is_measured size ≡ false → changed_bytes h t ≡ sized_bytes size h o
  sized_walked m =
      ap (λ (b : Bool). utf8 (if b then fitted size (map (changed h) t) else map (changed h) t)) (sym m) ∙ ap (sized_bytes size h) (sym e)

  pub sized-fitted : is_measured size ≡ true → utf8 (fitted size (map (changed h) t)) ≡ sized_bytes size h o
  sized-fitted m =
      ap (λ (b : Bool). utf8 (if b then fitted size (map (changed h) t) else map (changed h) t)) (sym m) ∙ ap (sized_bytes size h) (sym e)
