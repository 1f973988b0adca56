-- Class names: a leading L and a trailing ; are dropped from a text by dropping them from what it is made of.
-- Assumes nothing.
use mathlib.Core.Path.{◌≡◌, refl, ap, sym, ◌∙◌, subst}
use mathlib.Core.Bool.{Bool, true, false}
use mathlib.Core.List.{List, [], ◌∷◌, ◌++◌, map}
use mathlib.Core.Option.{Option, none, some}
use Prim.Native.Nat.{ℕ, ◌+◌, ◌-◌, ◌≤◌}
use native.Mathlib.Nat.{le_refl}
use native.Mathlib.Omega.{arith}
use borrow.Author.Tests.{eq-eqb, ne_eqb, eqb-true, eqb-false}
use lib.Dec.{eqb}
use lib.ListN.{length, take, drop}
use Rattle.std.specs.Prelude.{if◌then◌else◌, Some, None}
use Rattle.foundation.specs.Choices.{if_some, map_option}
use Rattle.foundation.specs.Texts.{Text}
use Rattle.characters.specs.Characters.{width, utf8_of, utf8, from_utf8}
use Rattle.characters.specs.told.Places.{part_from}
use Rattle.characters.specs.told.CharactersTold.{character_read, utf8_at}
use Rattle.characters.specs.told.Plain.{instead}
use Rattle.characters.proofs.CharacterLaws.{utf8-end, utf8-inside}
use Rattle.characters.proofs.LengthLaws.{bytes_cons, bytes-append}
use Rattle.characters.proofs.PartLaws.{part-part, part-short}
use Rattle.names.specs.Records.{substituted, dotted, dollars_dotted}
use Rattle.names.specs.Names.{without_last, unwrapped}
use Rattle.names.specs.told.Name.{predefined_list, turned, source_text, named_text}
use Rattle.names.specs.told.Stream.{base_of}
use Rattle.record_names.specs.told.Steps.{BytesName}
use Rattle.record_names.specs.told.Ends.{LastTold}
use Rattle.record_names.specs.told.ClassNames.{size_with, UnwrapTold, qualified_part, ClassTold}
use Rattle.names.specs.declared.name.Name.{Name}
use Rattle.names.specs.declared.name.Operation.{Operation}
use Rattle.names.specs.declared.name.Operation.TheVariants.{Nothing, InternalToClassId, DescToClassId}
use Rattle.record_names.specs.declared.ends.Last.{Last}
use Rattle.std.specs.declared.option.Option as rust
use Rattle.foundation.specs.declared.Span.{Span}
use Rattle.names.proofs.NameLaws.{source-bytes}
use Rattle.record_names.proofs.EndsLaws.{first-text, single-text, whole-text, place_inside}
use Rattle.record_names.proofs.PartLaws.{within}

-- A text by its last character.
without_snoc : (c : ℕ) (t : Text) (a : ℕ) → without_last c (t ++ (a ∷ [])) ≡ (if eqb a c then some t else none)
unfolding without_last
without_snoc c [] a = refl
without_snoc c (x ∷ []) a = go (eqb a c)
  where
    go : (b : Bool) → map_option (λ u. x ∷ u) (if b then some [] else none) ≡ (if b then some (x ∷ []) else none)
    go true = refl
    go false = refl
without_snoc c (x ∷ y ∷ t) a = ap (map_option λ u. x ∷ u) (without_snoc c (y ∷ t) a) ∙ go (eqb a c)
  where
    go : (b : Bool) → map_option (λ u. x ∷ u) (if b then some (y ∷ t) else none) ≡ (if b then some (x ∷ y ∷ t) else none)
    go true = refl
    go false = refl

module _ (f : ℕ) where
  pub unwrap-first : (t : Text) → (f ≡ 0x4c → ⊥) → unwrapped (f ∷ t) ≡ f ∷ t
  unwrap-first t h = rw (ne_eqb f 0x4c h)

  pub unwrap-alone : unwrapped (f ∷ []) ≡ f ∷ []
  unfolding without_last
  unwrap-alone = go (eqb f 0x4c)
    where
      go : (b : Bool) → (if b then f ∷ [] else f ∷ []) ≡ f ∷ []
      go true = refl
      go false = refl

  module _ (m : Text) (l : ℕ) where
    pub unwrap-last : (l ≡ 0x3b → ⊥) → unwrapped (f ∷ (m ++ (l ∷ []))) ≡ f ∷ (m ++ (l ∷ []))
    unwrap-last h = rw (without_snoc 0x3b m l, ne_eqb l 0x3b h) (go (eqb f 0x4c))
      where
        whole : Text
        whole = f ∷ (m ++ (l ∷ []))

        go : (b : Bool) → (if b then f ∷ (m ++ (l ∷ [])) else f ∷ (m ++ (l ∷ []))) ≡ f ∷ (m ++ (l ∷ []))
        go true = refl
        go false = refl

    pub unwrap-both : f ≡ 0x4c → l ≡ 0x3b → unwrapped (f ∷ (m ++ (l ∷ []))) ≡ m
    unwrap-both g h = rw (eq-eqb f 0x4c g, without_snoc 0x3b m l, eq-eqb l 0x3b h)

-- Dots for / and $ leave L and ; where they are.
abbrev dot : ℕ → ℕ
dot c = instead 0x2f 0x2e (instead 0x24 0x2e c)

dotted-map : (t : Text) → dotted t ≡ map dot t
dotted-map [] = refl
dotted-map (c ∷ t) = ap (λ (u : Text). dot c ∷ u) (dotted-map t)

instead_ind : (P : ℕ → Type 0) (from to c : ℕ) → (c ≡ from → P to) → ((c ≡ from → ⊥) → P c) → P (instead from to c)
instead_ind P from to c p q = go (eqb c from) refl
  where
    go : (b : Bool) → eqb c from ≡ b → P (if b then to else c)
    go true e = p (eqb-true c from e)
    go false e = q (eqb-false c from e)

-- what becomes a dot is another character than k, before and after
other_keeps : (k c : ℕ) {e : ℕ} → (0x2e ≡ k → ⊥) → c ≡ e → (e ≡ k → ⊥) → eqb 0x2e k ≡ eqb c k
other_keeps k c h p q = ne_eqb 0x2e k h ∙ sym (ne_eqb c k λ z. q (sym p ∙ z))

dollar_keeps : (k c : ℕ) → (0x2e ≡ k → ⊥) → (0x24 ≡ k → ⊥) → eqb (instead 0x24 0x2e c) k ≡ eqb c k
dollar_keeps k c h j = instead_ind (λ d. eqb d k ≡ eqb c k) 0x24 0x2e c (λ e. other_keeps k c h e j) λ n. refl

dot_keeps : (k c : ℕ) → (0x2e ≡ k → ⊥) → (0x2f ≡ k → ⊥) → (0x24 ≡ k → ⊥) → eqb (dot c) k ≡ eqb c k
dot_keeps k c h i j =
    instead_ind (λ d. eqb (instead 0x2f 0x2e d) k ≡ eqb c k) 0x24 0x2e c (λ e. other_keeps k c h e j) λ n.
    instead_ind (λ d. eqb d k ≡ eqb c k) 0x2f 0x2e c (λ e. other_keeps k c h e i) λ m. refl

-- A change of characters that leaves L and ; where they are.
module _ (f : ℕ → ℕ) (opens : (c : ℕ) → eqb (f c) 0x4c ≡ eqb c 0x4c) (closes : (c : ℕ) → eqb (f c) 0x3b ≡ eqb c 0x3b) where
  map_last : (t : Text) → without_last 0x3b (map f t) ≡ map_option (map f) (without_last 0x3b t)
  unfolding without_last
  map_last [] = refl
  map_last (a ∷ []) = ap (λ (b : Bool). if b then some [] else none) (closes a) ∙ go (eqb a 0x3b)
    where
      go : (b : Bool) → (if b then some [] else none) ≡ map_option (map f) (if b then some [] else none)
      go true = refl
      go false = refl
  map_last (a ∷ b ∷ t) = ap (map_option λ u. f a ∷ u) (map_last (b ∷ t)) ∙ go (without_last 0x3b (b ∷ t))
    where
      go : (o : Option Text) → map_option (λ u. f a ∷ u) (map_option (map f) o) ≡ map_option (map f) (map_option (λ u. a ∷ u) o)
      go none = refl
      go (some u) = refl

  unwrap-map : (t : Text) → unwrapped (map f t) ≡ map f (unwrapped t)
  unwrap-map [] = refl
  unwrap-map (c ∷ t) = rw (opens c, map_last t) (go (eqb c 0x4c) (without_last 0x3b t))
    where
      go : (b : Bool) (o : Option Text)
          → (if b then if_some (map_option (map f) o) (f c ∷ map f t) (λ u. u) else f c ∷ map f t)
          ≡ map f (if b then if_some o (c ∷ t) (λ u. u) else c ∷ t)
      go true none = refl
      go true (some u) = refl
      go false o = refl

unwrap_dotted : (t : Text) → unwrapped (dotted t) ≡ dotted (unwrapped t)
unwrap_dotted t =
    ap unwrapped (dotted-map t)
    ∙ unwrap-map dot (λ c. dot_keeps 0x4c c (λ z. omega arith) (λ z. omega arith) λ z. omega arith)
    (λ c. dot_keeps 0x3b c (λ z. omega arith) (λ z. omega arith) λ z. omega arith) t
    ∙ sym (dotted-map (unwrapped t))

unwrap_dollars : (t : Text) → unwrapped (dollars_dotted t) ≡ dollars_dotted (unwrapped t)
unwrap_dollars =
    unwrap-map (instead 0x24 0x2e) (λ c. dollar_keeps 0x4c c (λ z. omega arith) λ z. omega arith) λ c. dollar_keeps 0x3b c (λ z. omega arith) λ z. omega arith

unwrap_turned : (op : Operation) (t : Text) → unwrapped (turned op t) ≡ turned op (unwrapped t)
unfolding turned
unwrap_turned Nothing t = refl
unwrap_turned InternalToClassId t = unwrap_dotted t
unwrap_turned DescToClassId t = unwrap_dollars t

-- Bytes without L and ;.
substituted-append : (from to : ℕ) (t u : Text) → substituted from to (t ++ u) ≡ substituted from to t ++ substituted from to u
substituted-append from to [] u = refl
substituted-append from to (c ∷ t) u = ap (λ (v : Text). instead from to c ∷ v) (substituted-append from to t u)

-- L and ; take a byte each.
pub between-size : (m : Text) → length (utf8 (0x4c ∷ (m ++ (0x3b ∷ [])))) ≡ length (utf8 m) + 2
unfolding utf8 utf8_of width
between-size m = omega (arith, bytes_cons 0x4c (m ++ (0x3b ∷ [])), bytes-append m (0x3b ∷ []))

module _ (s : List ℕ) (from to : ℕ) where
  pub unwrap-empty : utf8_at 0 (drop 0 s) ≡ None → UnwrapTold s from to None
  unwrap-empty e = ap (λ (t : Text). unwrapped (substituted from to t)) (utf8-end s 0 e) ∙ ap (substituted from to) (sym (utf8-end s 0 e))

  module _ {code next : ℕ} (e : utf8_at 0 (drop 0 s) ≡ character_read code next) {c : ℕ} (p : c ≡ instead from to code) where
    -- the whole, if its text stays
    stays : {t : Text} → from_utf8 s ≡ t → unwrapped (substituted from to t) ≡ substituted from to t → UnwrapTold s from to None
    stays q f = rw q f

    pub unwrap-other : (c ≡ 0x4c → ⊥) → UnwrapTold s from to None
    unwrap-other h = stays (first-text s e) (unwrap-first (instead from to code) (substituted from to (from_utf8 (drop next s))) λ z. h (p ∙ z))

    module _ (r : rust.Option Last) (t : LastTold (part_from next (length s) s) r) where
      pub unwrap-single : r ≡ None → UnwrapTold s from to None
      unwrap-single g = stays (single-text s e r t g) (unwrap-alone (instead from to code))

      module _ {last : Last} (g : r ≡ Some last) {d : ℕ} (q : d ≡ instead from to last.code) where
        abbrev middle : Text
        middle = from_utf8 (take last.place (drop next s))

        whole : from_utf8 s ≡ code ∷ (middle ++ (last.code ∷ []))
        whole = whole-text s e r t g

        changed : substituted from to (code ∷ (middle ++ (last.code ∷ []))) ≡ instead from to code ∷ (substituted from to middle ++ (instead from to last.code ∷ []))
        changed = ap (λ (u : Text). instead from to code ∷ u) (substituted-append from to middle (last.code ∷ []))

        pub unwrap-open : (d ≡ 0x3b → ⊥) → UnwrapTold s from to None
        unwrap-open h =
            stays whole
            (ap unwrapped changed
            ∙ unwrap-last (instead from to code) (substituted from to middle) (instead from to last.code) (λ z. h (q ∙ z))
            ∙ sym changed)

        closed-size : c ≡ 0x4c → d ≡ 0x3b → size_with from to s ≡ size_with from to (take last.place (drop next s)) + 2
        closed-size h k =
            let x : instead from to code ≡ 0x4c = sym p ∙ h in
            let y : instead from to last.code ≡ 0x3b = sym q ∙ k in
            let m = substituted from to middle in
            ap (λ (u : Text). length (utf8 (substituted from to u))) whole
            ∙ ap (λ (u : Text). length (utf8 u)) (changed ∙ ap (λ (f : ℕ). f ∷ (m ++ (instead from to last.code ∷ []))) x ∙ ap (λ (f : ℕ). 0x4c ∷ (m ++ (f ∷ []))) y)
            ∙ between-size m

        pub unwrap-closed : c ≡ 0x4c → d ≡ 0x3b → UnwrapTold s from to (Some record { start = next; end = next + last.place })
        unwrap-closed h k =
            let z : next + last.place - next ≡ last.place = omega arith in (
              ap (λ (u : Text). unwrapped (substituted from to u)) whole
                  ∙ ap unwrapped changed
                  ∙ unwrap-both (instead from to code) (substituted from to middle) (instead from to last.code) (sym p ∙ h) (sym q ∙ k)
                  ∙ ap (λ (n : ℕ). substituted from to (from_utf8 (take n (drop next s)))) (sym z),
              omega arith,
              place_inside s e r t g,
              omega (arith, (utf8-inside s 0 e).0),
              closed-size h k ∙ ap (λ (n : ℕ). size_with from to (take n (drop next s)) + 2) (sym z),
            )

-- The class name of a name made of bytes.
module _ (payload : List ℕ) (n : Name) (b : BytesName n) where
  -- what its steps but dots make of a text
  abbrev steps : Text → Text
  steps t = turned n.operation (substituted n.from n.to t)

  text-of : (d2 : List ℕ) → named_text payload d2 n ≡ steps (source_text payload d2 n.source n.part)
  unfolding named_text
  text-of d2 = rw (b.1, b.4)

  class_of : (d2 : List ℕ) (p : Span) → named_text payload d2 (qualified_part n p) ≡ dotted (steps (source_text payload d2 n.source p))
  unfolding named_text
  class_of d2 p = refl

  -- the text of a part of its source
  abbrev text_at : Span → Text
  text_at p = from_utf8 (part_from p.start p.end (base_of n.source payload predefined_list))

  source : (d2 : List ℕ) (p : Span) → source_text payload d2 n.source p ≡ text_at p
  source d2 p = source-bytes payload d2 n.source p b.0

  class-made : (p : Span) → unwrapped (substituted n.from n.to (text_at n.part)) ≡ substituted n.from n.to (text_at p)
      → {r : Name} → r ≡ qualified_part n p → (d2 : List ℕ) → named_text payload d2 r ≡ dotted (unwrapped (named_text payload d2 n))
  class-made p f q d2 =
      ap (named_text payload d2) q
      ∙ class_of d2 p
      ∙ ap (λ (t : Text). dotted (steps t)) (source d2 p)
      ∙ ap dotted (sym (unwrap_turned n.operation (substituted n.from n.to (text_at n.part)) ∙ ap (turned n.operation) f))
      ∙ ap (λ (t : Text). dotted (unwrapped t)) (sym (text-of d2 ∙ ap steps (source d2 n.part)))

  module _ (s : List ℕ) (e : s ≡ part_from n.part.start n.part.end (base_of n.source payload predefined_list)) where
    pub class-stays : UnwrapTold s n.from n.to None → {r : Name} → r ≡ qualified_part n n.part → ClassTold payload n r
    class-stays t q = record {
      part = rw q;
      is = class-made n.part (subst (λ (bs : List ℕ). UnwrapTold bs n.from n.to None) e t) q;
      inside = λ h. rw q (h, le_refl n.part.end);
      size = rw (q, eq-eqb n.part.start n.part.start refl) (omega arith);
    }

    module _ {p : Span} (t : UnwrapTold s n.from n.to (Some p)) where
      pub class-ends : (p.start ≤ p.end) × (p.end ≤ n.part.end - n.part.start)
      class-ends = (t.1, omega (arith, t.2, ap length e, part-short (base_of n.source payload predefined_list) n.part.start n.part.end))

      pub class-cut : {r : Name} → r ≡ qualified_part n (within n.part.start p) → ClassTold payload n r
      class-cut q =
          let l = base_of n.source payload predefined_list in
          let u = subst (λ (bs : List ℕ). UnwrapTold bs n.from n.to (Some p)) e t in
          let f = part-part l n.part.start n.part.end p.start p.end u.1 u.2 in
          let c = class-ends in
          record {
            part = rw q;
            is = class-made (within n.part.start p) (u.0 ∙ ap (λ (bs : List ℕ). substituted n.from n.to (from_utf8 bs)) f) q;
            inside = λ o. rw q (omega (arith, c.0, c.1), omega (arith, c.1));
            size =
                rw (q, ne_eqb (n.part.start + p.start) n.part.start (λ z. omega (arith, u.3)))
                (u.4 ∙ ap (λ (bs : List ℕ). size_with n.from n.to bs + 2) f);
          }
