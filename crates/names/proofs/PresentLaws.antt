-- Whether a name is there, and how many bytes it takes.
-- Assumes nothing.
use mathlib.Core.Path.{◌≡◌, refl, ap, sym, ◌∙◌}
use mathlib.Core.Bool.{Bool, true, false, ◌&&◌}
use mathlib.Core.List.{List}
use Prim.Native.Nat.{ℕ, ◌-◌, ◌*◌, ◌≤◌, ◌<◌}
use native.Mathlib.Omega.{arith}
use borrow.Author.Tests.{leb-true, leb-false, ne_eqb}
use lib.Dec.{eqb, leb}
use lib.ListN.{length, drop, length-map, length-take, length-drop}
use Rattle.std.specs.Prelude.{if◌then◌else◌, Some, None}
use Rattle.std.specs.declared.option.Option as rust
use Rattle.std.specs.Option as options
use Rattle.std.specs.Option.{option_map}
use Rattle.foundation.specs.Choices.{is_some}
use Rattle.foundation.specs.Texts.{Text}
use Rattle.foundation.proofs.ChoiceLaws.{if_ind}
use Rattle.characters.specs.Characters.{width, from_utf8}
use Rattle.characters.specs.told.Places.{part_from}
use Rattle.characters.proofs.TestLaws.{below}
use Rattle.characters.proofs.LengthLaws.{AtMost, InBytes, bytes_most, from_utf8-length, from_utf16-length}
use Rattle.names.specs.Records.{substituted}
use Rattle.names.specs.told.Name.{predefined_list, source_numbered, source_text, is_measured, sized, turned, stepped_by, named_text, name_text}
use Rattle.names.specs.told.Stream.{slashed_text, name_bytes}
use Rattle.names.specs.declared.name.Name.{Name}
use Rattle.names.specs.declared.name.Source.{Source}
use Rattle.names.specs.declared.name.Source.TheVariants.{Payload, Predefined, D2}
use Rattle.names.proofs.LengthLaws.{substituted-bytes, dotted-bytes, turned-bytes}
use Rattle.names.proofs.FittedLaws.{fitted-bytes}
use Rattle.names.proofs.AsciiLaws.{not_plain_lem as never}

-- Is there a name?
pub name-there : (payload d2 : List ℕ) (o : rust.Option Name) → is_some (name_text payload d2 o) ≡ options.is_some o
name-there payload d2 None = refl
name-there payload d2 (Some n) = refl

-- A name by its source's number is there if a source has that.
module _ (payload d2 : List ℕ) (named : Source → Name) (n : ℕ) where
  abbrev pub numbered : rust.Option Name
  numbered = option_map named (source_numbered n)

  pub absent-name : n ≡ 0 → is_some (name_text payload d2 numbered) ≡ false
  absent-name e = rw e

  past-name : 3 < n → is_some (name_text payload d2 numbered) ≡ false
  past-name h = rw (ne_eqb n 1 (λ f. omega arith), ne_eqb n 2 (λ f. omega arith), ne_eqb n 3 (λ f. omega arith))

  some-name : 0 < n → n ≤ 3 → is_some (name_text payload d2 numbered) ≡ true
  some-name g h =
      below 2 n (λ l. let e : n ≡ 1 = omega arith in rw e) λ l.
      below 3 n (λ m. let e : n ≡ 2 = omega arith in rw e) λ m.
      let e : n ≡ 3 = omega arith in
      rw e

  pub present-name : (n ≡ 0 → ⊥) → is_some (name_text payload d2 numbered) ≡ leb n 3
  present-name f = go (leb n 3) refl
    where
      go : (b : Bool) → leb n 3 ≡ b → is_some (name_text payload d2 numbered) ≡ b
      go true e = some-name (omega arith) (leb-true n 3 e)
      go false e = past-name (leb-false n 3 e)

-- A part has no more characters than what it is a part of.
part_most : (start end k : ℕ) (s : List ℕ) → length s ≤ k → length (part_from start end s) ≤ k
part_most start end k s h = omega (arith, length-take (end - start) (drop start s), length-drop start s)

list_length : length predefined_list ≡ 878
unfolding predefined_list
list_length = refl

measured_most : (size : ℕ) → is_measured size ≡ true → size ≤ 131072
measured_most size e = go (leb 1 size) refl (leb size 131072) refl
  where
    go : (a : Bool) → leb 1 size ≡ a → (b : Bool) → leb size 131072 ≡ b → size ≤ 131072
    go a p true q = leb-true size 131072 q
    go true p false q = let z : false ≡ true = sym (ap (λ (b : Bool). leb 1 size && b) q ∙ ap (λ (a : Bool). a && false) p) ∙ e in never z
    go false p false q = let z : false ≡ true = sym (ap (λ (a : Bool). a && leb size 131072) p) ∙ e in never z

-- A name of sources that are no longer than k takes at most four bytes for each.
module _ (payload d2 : List ℕ) (n : Name) (k : ℕ) (f : length payload ≤ k) (g : length d2 ≤ k) (h : 32768 ≤ k) where
  bytes_of : (s : List ℕ) → length s ≤ k → AtMost k (from_utf8 (part_from n.part.start n.part.end s))
  bytes_of s l = omega (arith, from_utf8-length 0 (part_from n.part.start n.part.end s), part_most n.part.start n.part.end k s l)

  source-most : AtMost k (source_text payload d2 n.source n.part)
  unfolding source_text
  source-most = go n.source
    where
      go : (source : Source) → AtMost k (source_text payload d2 source n.part)
      go Payload = bytes_of payload f
      go Predefined = bytes_of predefined_list (omega (arith, list_length))
      go D2 = omega (arith, from_utf16-length (part_from n.part.start n.part.end d2), part_most n.part.start n.part.end k d2 g)

  sized-most : (t : Text) → InBytes (4 * k) t → InBytes (4 * k) (sized n.size t)
  sized-most t l =
      if_ind (InBytes (4 * k)) (is_measured n.size) (λ e. omega (arith, fitted-bytes n.size t, measured_most n.size e)) λ e. l

  stepped-most : (t : Text) → AtMost k t → InBytes (4 * k) (stepped_by n t)
  stepped-most t l =
      let r = substituted n.from n.to t in
      let s = sized n.size r in
      let it = turned n.operation s in
      let b : InBytes (4 * k) r = omega (arith, length-map t (λ (c : ℕ). if eqb c n.from then n.to else c), bytes_most r) in
      let m : InBytes (4 * k) it = omega (arith, sized-most r b, turned-bytes n.operation s) in
      if_ind (InBytes (4 * k)) n.qualified (λ e. omega (arith, dotted-bytes it)) λ e. m

  printed-most : (slashes : Bool) (t : Text) → InBytes (4 * k) t → InBytes (4 * k) (slashed_text slashes t)
  unfolding width
  printed-most slashes t l =
      if_ind (InBytes (4 * k)) slashes (λ e. omega (arith, substituted-bytes 0x2e 0x2f t refl)) λ e. l

  pub name-most : (slashes : Bool) → length (name_bytes payload d2 (Some n) slashes) ≤ 4 * k
  unfolding name_bytes named_text
  name-most slashes =
      let t = source_text payload d2 n.source n.part in
      printed-most slashes (stepped_by n t) (stepped-most t source-most)
