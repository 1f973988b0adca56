-- The first and the last character of some bytes' text, and the text without them.
-- Assumes nothing.
use mathlib.Core.Path.{◌≡◌, refl, ap, sym, ◌∙◌, subst}
use mathlib.Core.Bool.{Bool, true, false, ◌&&◌}
use mathlib.Core.List.{List, [], ◌∷◌, ◌++◌, map}
use mathlib.Core.Option.{Option, none, some}
use Prim.Native.Nat.{ℕ, ◌+◌, ◌-◌, ◌≤◌, ◌<◌}
use native.Mathlib.Omega.{arith}
use lib.Dec.{eqb}
use lib.ListN.{length, take, drop, length-drop, drop_of_length-le}
use Rattle.std.specs.Prelude.{if◌then◌else◌, Some, None}
use Rattle.foundation.specs.Choices.{if_some, map_option}
use Rattle.foundation.specs.Texts.{Text}
use Rattle.characters.specs.Characters.{is_scalar, from_utf8_after, from_utf8}
use Rattle.characters.specs.told.Places.{part_from}
use Rattle.characters.specs.told.CharactersTold.{character_read, utf8_at}
use Rattle.characters.proofs.CharacterLaws.{utf8-none, utf8-end, utf8-inside, utf8-next}
use Rattle.characters.proofs.SplitLaws.{Boundary, boundary_start, boundary-next, boundary-text}
use Rattle.characters.proofs.PartLaws.{rest-is}
use Rattle.names.specs.Records.{all_but_last, without_ends, substituted, replace_of, operated}
use Rattle.names.specs.told.Name.{operation_of, turned, dropped}
use Rattle.names.specs.declared.name.Operation.{Operation}
use Rattle.names.specs.declared.name.Operation.TheVariants.{Nothing, InternalToClassId, DescToClassId}
use Rattle.names.proofs.StepLaws.{operated-is}
use Rattle.record_names.specs.told.Ends.{LastTold, EndsTold}
use Rattle.record_names.specs.told.Steps.{with_steps, turned_steps}
use Rattle.record_names.specs.declared.ends.Last.{Last}
use Rattle.std.specs.declared.option.Option as rust

-- A text between two characters.
but_last : (m : Text) (l : ℕ) → all_but_last (m ++ (l ∷ [])) ≡ m
unfolding all_but_last
but_last [] l = refl
but_last (a ∷ []) l = refl
but_last (a ∷ b ∷ m) l = ap (λ (u : Text). a ∷ u) (but_last (b ∷ m) l)

between : (f : ℕ) (m : Text) (l : ℕ) → without_ends (f ∷ (m ++ (l ∷ []))) ≡ m
unfolding without_ends
between f [] l = but_last [] l
between f (a ∷ m) l = but_last (a ∷ m) l

-- What changes each character drops none.
module _ (f : ℕ → ℕ) where
  last-map : (t : Text) → all_but_last (map f t) ≡ map f (all_but_last t)
  unfolding all_but_last
  last-map [] = refl
  last-map (a ∷ []) = refl
  last-map (a ∷ b ∷ t) = ap (λ (u : Text). f a ∷ u) (last-map (b ∷ t))

  ends-map : (t : Text) → without_ends (map f t) ≡ map f (without_ends t)
  unfolding without_ends
  ends-map [] = refl
  ends-map (a ∷ []) = refl
  ends-map (a ∷ b ∷ t) = last-map (b ∷ t)

  dropped-map : (op : Operation) (t : Text) → dropped op (map f t) ≡ map f (dropped op t)
  dropped-map Nothing t = refl
  dropped-map InternalToClassId t = refl
  dropped-map DescToClassId t = ends-map t

-- So what an operation drops can be dropped before the replacement.
pub text-dropped : (replaced : Option (ℕ × ℕ)) (op : ℕ) (t : Text) → with_steps replaced op t ≡ turned_steps replaced (operation_of op) (dropped (operation_of op) t)
unfolding replace_of
text-dropped none op t = ap some (operated-is op t)
text-dropped (some n) op t = go (is_scalar n.0) (is_scalar n.1)
  where
    go : (a b : Bool)
        → map_option (operated op) (if a && b then some (substituted n.0 n.1 t) else none)
        ≡ map_option (turned (operation_of op)) (if a && b then some (substituted n.0 n.1 (dropped (operation_of op) t)) else none)
    go true true =
        ap some
        (operated-is op (substituted n.0 n.1 t) ∙ ap (turned (operation_of op)) (dropped-map (λ c. if eqb c n.0 then n.1 else c) (operation_of op) t))
    go true false = refl
    go false b = refl

-- and so of a text that may be absent
pub steps_dropped : (replaced : Option (ℕ × ℕ)) (op : ℕ) (text : Option Text)
    → if_some text none (with_steps replaced op) ≡ if_some (map_option (dropped (operation_of op)) text) none (turned_steps replaced (operation_of op))
steps_dropped replaced op none = refl
steps_dropped replaced op (some t) = text-dropped replaced op t

-- The last character of some bytes.
module _ (s : List ℕ) where
  -- a place where a character begins, before the end of bytes that there are
  pub record Begins (at : ℕ) : Type 0 where
    pub inside : 0 < length s → at < length s
    pub boundary : Boundary s at

  pub begins-start : Begins 0
  begins-start = record { inside = λ h. h; boundary = boundary_start s }

  module _ (at : ℕ) (i : Begins at) where
    pub begins-end : utf8_at at (drop at s) ≡ None → s ≡ []
    begins-end e =
        let z : length (drop at s) ≡ 0 = ap length (utf8-none s at e) in
        go s (λ l. omega (arith, i.inside l, length-drop at s))
      where
        go : (l : List ℕ) → (0 < length l → ⊥) → l ≡ []
        go [] f = refl
        go (b ∷ l) f = absurd (f (omega arith))

    pub begins-never : at < length s → utf8_at at (drop at s) ≡ None → s ≡ []
    begins-never h e = begins-end e

    pub begins-past : length s ≤ at → s ≡ []
    begins-past h = go s (λ l. omega (arith, i.inside l))
      where
        go : (l : List ℕ) → (0 < length l → ⊥) → l ≡ []
        go [] f = refl
        go (b ∷ l) f = absurd (f (omega arith))

    module _ {code next : ℕ} (e : utf8_at at (drop at s) ≡ character_read code next) where
      pub begins-next : next < length s → Begins next
      begins-next h = record { inside = λ l. h; boundary = boundary-next s i.boundary e }

      pub last-is : length s ≤ next → LastTold s (Some record { place = at; code = code })
      unfolding from_utf8_after
      last-is h =
          let z : drop next s ≡ [] = drop_of_length-le s h in (
            boundary-text s i.boundary ∙ ap (λ (t : Text). from_utf8 (take at s) ++ t) (utf8-next s at e ∙ ap (λ (bs : List ℕ). code ∷ from_utf8 bs) z),
            omega (arith, utf8-inside s at e),
          )

-- Bytes by their first character, and by the last of those after it.
module _ (s : List ℕ) where
  pub ends-none : utf8_at 0 (drop 0 s) ≡ None → EndsTold s None
  unfolding without_ends
  ends-none e = rw (utf8-end s 0 e)

  module _ {code next : ℕ} (e : utf8_at 0 (drop 0 s) ≡ character_read code next) where
    pub next-inside : next ≤ length s
    next-inside = (utf8-inside s 0 e).1

    pub first-text : from_utf8 s ≡ code ∷ from_utf8 (drop next s)
    first-text = utf8-next s 0 e

    module _ (r : rust.Option Last) (t : LastTold (part_from next (length s) s) r) where
      rest : LastTold (drop next s) r
      rest = subst (λ (bs : List ℕ). LastTold bs r) (rest-is s next) t

      pub single-text : r ≡ None → from_utf8 s ≡ code ∷ []
      unfolding from_utf8_after
      single-text g =
          let z : drop next s ≡ [] = subst (LastTold (drop next s)) g rest in
          first-text ∙ ap (λ (bs : List ℕ). code ∷ from_utf8 bs) z

      pub ends-single : r ≡ None → EndsTold s None
      unfolding without_ends
      ends-single g = rw (single-text g)

      module _ {last : Last} (g : r ≡ Some last) where
        ends : LastTold (drop next s) (Some last)
        ends = subst (LastTold (drop next s)) g rest

        pub whole-text : from_utf8 s ≡ code ∷ (from_utf8 (take last.place (drop next s)) ++ (last.code ∷ []))
        whole-text = first-text ∙ ap (λ (u : Text). code ∷ u) ends.0

        pub place_inside : next + last.place ≤ length s
        place_inside = omega (arith, ends.1, length-drop next s, next-inside)

        pub ends-between : EndsTold s (Some record { start = next; end = next + last.place })
        ends-between =
            let z : next + last.place - next ≡ last.place = omega arith in (
              ap without_ends whole-text
                  ∙ between code (from_utf8 (take last.place (drop next s))) last.code
                  ∙ ap (λ (n : ℕ). from_utf8 (take n (drop next s))) (sym z),
              omega arith,
              place_inside,
            )
