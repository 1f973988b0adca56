-- Class names of d2's strings, and class names by their index.
-- Assumes nothing.
use mathlib.Core.Path.{◌≡◌, refl, ap, sym, ◌∙◌}
use mathlib.Core.Bool.{Bool, true, false, ◌&&◌, ◌||◌}
use mathlib.Core.List.{List, [], ◌∷◌, ◌++◌}
use mathlib.Core.Option.{Option, some}
use Prim.Native.Nat.{ℕ, suc, ◌+◌, ◌-◌, ◌≤◌, ◌<◌}
use native.Mathlib.Omega.{arith}
use borrow.Author.Tests.{ne_eqb, eqb-true, eqb-false}
use lib.Dec.{eqb}
use lib.ListN.{length, take, drop, get_or, get_elem?, length-drop}
use lib.Seq.{take-suc, get_or-drop}
use Rattle.std.specs.Prelude.{if◌then◌else◌, Some, None}
use Rattle.foundation.specs.Results.{Res, ok, ◌>>=◌}
use Rattle.foundation.specs.Texts.{Text}
use Rattle.characters.specs.Characters.{utf8, from_utf16, is_high, is_low, lone, pair}
use Rattle.characters.specs.told.Places.{part_from}
use Rattle.characters.proofs.SeamLaws.{units_seam}
use Rattle.characters.proofs.UnitLaws.{units-ended, units-cons}
use Rattle.names.specs.Records.{dotted}
use Rattle.names.specs.Names.{Names, string, qualified_name, unwrapped, strings_from, d2_string}
use Rattle.names.specs.told.Name.{source_text, sized, turned, named_text, name_text}
use Rattle.record_names.specs.told.Steps.{extent_of}
use Rattle.lookup.specs.told.Qualified.{ClippedTold, WrappedTold, units_name}
use Rattle.record_names.specs.told.ClassNames.{class_text}
use Rattle.record_names.specs.told.Note.{class_size}
use Rattle.lookup.specs.told.Strings.{SizeOf}
use Rattle.names.specs.declared.name.Name.{Name}
use Rattle.foundation.specs.declared.Span.{Span}
use Rattle.std.specs.declared.option.Option as rust
use Rattle.names.proofs.FittedLaws.{sized-is}
use Rattle.record_names.proofs.PartLaws.{same-substituted}
use Rattle.record_names.proofs.UnwrapLaws.{unwrap-first, unwrap-alone, unwrap-last, unwrap-both, between-size}

-- Units.
lone-not : (u k : ℕ) → (u ≡ k → ⊥) → (0xfffd ≡ k → ⊥) → lone u ≡ k → ⊥
lone-not u k h g = go (is_high u || is_low u)
  where
    go : (b : Bool) → (if b then 0xfffd else u) ≡ k → ⊥
    go true = g
    go false = h

first-not : (u : ℕ) (us : List ℕ) → (u ≡ 0x4c → ⊥) → (c : ℕ) × (t : Text) × (from_utf16 (u ∷ us) ≡ c ∷ t) × (c ≡ 0x4c → ⊥)
unfolding from_utf16
first-not u [] h = (lone u, [], refl, lone-not u 0x4c h λ z. omega arith)
first-not u (v ∷ us) h = go (is_high u && is_low v)
  where
    go : (b : Bool)
        → (c : ℕ) × (t : Text) × ((if b then pair u v ∷ from_utf16 us else lone u ∷ from_utf16 (v ∷ us)) ≡ c ∷ t) × (c ≡ 0x4c → ⊥)
    go true = (pair u v, from_utf16 us, refl, λ z. omega arith)
    go false = (lone u, from_utf16 (v ∷ us), refl, lone-not u 0x4c h λ z. omega arith)

last-not : (us : List ℕ) (u : ℕ) → (u ≡ 0x3b → ⊥) → (t : Text) × (l : ℕ) × (from_utf16 (us ++ (u ∷ [])) ≡ t ++ (l ∷ [])) × (l ≡ 0x3b → ⊥)
unfolding from_utf16
last-not [] u h = ([], lone u, refl, lone-not u 0x3b h λ z. omega arith)
last-not (v ∷ []) u h = go (is_high v && is_low u)
  where
    go : (b : Bool)
        → (t : Text) × (l : ℕ) × ((if b then pair v u ∷ [] else lone v ∷ lone u ∷ []) ≡ t ++ (l ∷ [])) × (l ≡ 0x3b → ⊥)
    go true = ([], pair v u, refl, λ z. omega arith)
    go false = (lone v ∷ [], lone u, refl, lone-not u 0x3b h λ z. omega arith)
last-not (v ∷ w ∷ us) u h = go (is_high v && is_low w) (last-not us u h) (last-not (w ∷ us) u h)
  where
    go : (b : Bool)
        → (t : Text) × (l : ℕ) × (from_utf16 (us ++ (u ∷ [])) ≡ t ++ (l ∷ [])) × (l ≡ 0x3b → ⊥)
        → (t : Text) × (l : ℕ) × (from_utf16 (w ∷ us ++ (u ∷ [])) ≡ t ++ (l ∷ [])) × (l ≡ 0x3b → ⊥)
        → (t : Text) × (l : ℕ) × ((if b then pair v w ∷ from_utf16 (us ++ (u ∷ [])) else lone v ∷ from_utf16 (w ∷ us ++ (u ∷ []))) ≡ t ++ (l ∷ [])) × (l ≡ 0x3b → ⊥)
    go true p q = (pair v w ∷ p.0, p.1, ap (λ (t : Text). pair v w ∷ t) p.2, p.3)
    go false p q = (lone v ∷ q.0, q.1, ap (λ (t : Text). lone v ∷ t) q.2, q.3)

part_snoc : (l : List ℕ) (a e : ℕ) → a < e → e ≤ length l → part_from a e l ≡ part_from a (e - 1) l ++ (get_or l (e - 1) 0 ∷ [])
part_snoc l a e h i =
    let k = e - 1 - a in
    let z : e - a ≡ suc k = omega arith in
    let y : a + k ≡ e - 1 = omega arith in
    ap (λ (n : ℕ). take n (drop a l)) z
    ∙ take-suc (drop a l) k 0 (rw length-drop (omega arith))
    ∙ ap (λ (x : ℕ). take k (drop a l) ++ (x ∷ [])) (get_or-drop a l k 0 ∙ ap (λ (n : ℕ). get_or l n 0) y)

-- L stands by itself
from_first_unit : (us : List ℕ) → from_utf16 (0x4c ∷ us) ≡ 0x4c ∷ from_utf16 us
unfolding from_utf16
from_first_unit [] = refl
from_first_unit (v ∷ us) = refl

module _ (l : List ℕ) (start end : ℕ) where
  never : {A : Type 0} → false ≡ true → A
  never e = let z : ◌≡◌ {A = ℕ} 0 1 = cc in absurd (omega arith)

  pub wrapped-empty : end ≤ start → WrappedTold l start end false
  unfolding from_utf16
  wrapped-empty h = record { yes = λ e. never e; no = λ e. rw (units-ended l start end h) }

  pub wrapped-single : start < end → end ≤ length l → end - 1 ≤ start → WrappedTold l start end false
  unfolding from_utf16
  wrapped-single h i j = record {
    yes = λ e. never e;
    no = λ e. rw (units-cons l start end h (omega arith), units-ended l (start + 1) end (omega arith)) (unwrap-alone (lone (get_or l start 0)));
  }

  module _ (i : end ≤ length l) (j : start < end - 1) where
    abbrev inner : List ℕ
    inner = part_from (start + 1) (end - 1) l

    parts : part_from start end l ≡ get_or l start 0 ∷ (inner ++ (get_or l (end - 1) 0 ∷ []))
    parts = units-cons l start end (omega arith) (omega arith) ∙ ap (λ (us : List ℕ). get_or l start 0 ∷ us) (part_snoc l (start + 1) end (omega arith) i)

    pub wrapped-other : (get_or l start 0 ≡ 0x4c → ⊥) → WrappedTold l start end false
    wrapped-other h =
        let f = first-not (get_or l start 0) (inner ++ (get_or l (end - 1) 0 ∷ [])) h in
        record { yes = λ e. never e; no = λ e. rw (parts, f.2) (unwrap-first f.0 f.1 f.3) }

    module _ (h : get_or l start 0 ≡ 0x4c) where
      opened : from_utf16 (part_from start end l) ≡ 0x4c ∷ from_utf16 (inner ++ (get_or l (end - 1) 0 ∷ []))
      opened = ap from_utf16 (parts ∙ ap (λ (u : ℕ). u ∷ (inner ++ (get_or l (end - 1) 0 ∷ []))) h) ∙ from_first_unit (inner ++ (get_or l (end - 1) 0 ∷ []))

      closed-text : get_or l (end - 1) 0 ≡ 0x3b → from_utf16 (part_from start end l) ≡ 0x4c ∷ (from_utf16 inner ++ (0x3b ∷ []))
      unfolding from_utf16
      closed-text k =
          opened
          ∙ ap (λ (u : ℕ). 0x4c ∷ from_utf16 (inner ++ (u ∷ []))) k
          ∙ ap (λ (t : Text). 0x4c ∷ t) (units_seam inner 0x3b [] refl)

      closed : get_or l (end - 1) 0 ≡ 0x3b → unwrapped (from_utf16 (part_from start end l)) ≡ from_utf16 inner
      closed k = ap unwrapped (closed-text k) ∙ unwrap-both 0x4c (from_utf16 inner) 0x3b refl refl

      closed-units : get_or l (end - 1) 0 ≡ 0x3b → length (utf8 (from_utf16 (part_from start end l))) ≡ length (utf8 (from_utf16 inner)) + 2
      closed-units k = ap (λ (t : Text). length (utf8 t)) (closed-text k) ∙ between-size (from_utf16 inner)

      unclosed : (get_or l (end - 1) 0 ≡ 0x3b → ⊥) → unwrapped (from_utf16 (part_from start end l)) ≡ from_utf16 (part_from start end l)
      unclosed k =
          let f = last-not inner (get_or l (end - 1) 0) k in
          let w : from_utf16 (part_from start end l) ≡ 0x4c ∷ (f.0 ++ (f.1 ∷ [])) = opened ∙ ap (λ (t : Text). 0x4c ∷ t) f.2 in
          rw w (unwrap-last 0x4c f.0 f.1 f.3)

      pub wrapped-is : WrappedTold l start end (eqb (get_or l (end - 1) 0) 0x3b)
      wrapped-is = record {
        yes = λ e. let k = eqb-true (get_or l (end - 1) 0) 0x3b e in (omega arith, closed k, closed-units k);
        no = λ e. unclosed (eqb-false (get_or l (end - 1) 0) 0x3b e);
      }

-- The class name of a string of d2.
module _ (payload units ends : List ℕ) (index : ℕ) {r : rust.Option Span} (e : get_elem? (strings_from 0 ends units) index ≡ extent_of units r) where
  pub class-none : r ≡ None → (d2_string (strings_from 0 ends units) index >>= λ t. ok (class_text t)) ≡ ok (name_text payload units None)
  unfolding d2_string
  class-none g = rw (e, g)

  module _ {p : Span} (g : r ≡ Some p) {end : ℕ} (c : ClippedTold units p.end end) where
    abbrev start : ℕ
    start = p.start

    -- the size that is noted of the string
    sized-part : {size : ℕ} → SizeOf units ends index size → (size ≡ 0 → ⊥) → size ≡ length (utf8 (from_utf16 (part_from start end units)))
    sized-part z n = z n (part_from start p.end units) (e ∙ ap (extent_of units) g) ∙ ap (λ (us : List ℕ). length (utf8 (from_utf16 us))) (c.same start)

    class-units : (a b size : ℕ) → unwrapped (from_utf16 (part_from start end units)) ≡ from_utf16 (part_from a b units)
        → ((size ≡ 0 → ⊥) → size ≡ length (utf8 (from_utf16 (part_from a b units))))
        → (d2_string (strings_from 0 ends units) index >>= λ t. ok (class_text t)) ≡ ok (name_text payload units (Some (units_name (record { start = a; end = b }) size)))
    unfolding d2_string named_text source_text turned
    class-units a b size f z =
        rw (e, g, c.same start)
        (ap (λ (t : Text). ok (some (dotted t)))
        (f ∙ sym (sized-is size (from_utf16 (part_from a b units)) z) ∙ ap (sized size) (sym (same-substituted (from_utf16 (part_from a b units))))))

    pub class-whole : {n : Name} (size : ℕ) → SizeOf units ends index size → WrappedTold units start end false → n ≡ units_name (record { start = start; end = end }) size
        → (d2_string (strings_from 0 ends units) index >>= λ t. ok (class_text t)) ≡ ok (name_text payload units (Some n))
    class-whole size z w q = class-units start end size (w.no refl) (sized-part z) ∙ ap (λ (m : Name). ok (name_text payload units (Some m))) (sym q)

    pub class-inner : {n : Name} (size less : ℕ) → SizeOf units ends index size → WrappedTold units start end true → less ≡ class_size size start (start + 1)
        → n ≡ units_name (record { start = start + 1; end = end - 1 }) less
        → (d2_string (strings_from 0 ends units) index >>= λ t. ok (class_text t)) ≡ ok (name_text payload units (Some n))
    class-inner size less z w h q =
        let y = w.yes refl in
        let l : less ≡ size - 2 = h ∙ rw (ne_eqb (start + 1) start (λ x. omega arith)) in
        class-units (start + 1) (end - 1) less y.1 (λ n. let k = sized-part z (λ x. n (omega arith)) in omega (arith, y.2))
        ∙ ap (λ (m : Name). ok (name_text payload units (Some m))) (sym q)

-- A class name by its index.
module _ (n : Names) (index : ℕ) where
  pub qualified-falls : {y : Res (Option Text)} → string n index ≡ n.d2 index → (n.d2 index >>= λ t. ok (class_text t)) ≡ y → qualified_name n index ≡ y
  unfolding qualified_name
  qualified-falls e f = rw e f
