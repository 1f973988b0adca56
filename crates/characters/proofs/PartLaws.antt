-- Parts of bytes and of units, by their ends.
-- Assumes nothing.
use mathlib.Core.Path.{◌≡◌, ap, sym, ◌∙◌}
use mathlib.Core.List.{List}
use Prim.Native.Nat.{ℕ, ◌+◌, ◌-◌, ◌≤◌}
use native.Mathlib.Nat.{le_refl}
use native.Mathlib.Omega.{arith}
use lib.ListN.{length, take, drop, length-take, length-drop}
use lib.Seq.{take-take, drop-drop, take_all, length-take-le}
use Rattle.characters.specs.told.Places.{part_from}
use Rattle.foundation.proofs.ChoiceLaws.{drop-take}

-- A part of a part is a part of the whole.
pub part-part : (l : List ℕ) (start end a b : ℕ) → a ≤ b → b ≤ length (part_from start end l)
    → take (b - a) (drop a (part_from start end l)) ≡ part_from (start + a) (start + b) l
part-part l start end a b h i =
    let n = end - start in
    let c : b ≤ n = omega (arith, length-take n (drop start l)) in
    let e : a + (n - a) ≡ n = omega arith in
    let f : start + b - (start + a) ≡ b - a = omega arith in
    ap (λ (k : ℕ). take (b - a) (drop a (take k (drop start l)))) (sym e)
    ∙ ap (take (b - a)) (drop-take a (n - a) (drop start l))
    ∙ take-take (b - a) (n - a) (drop a (drop start l)) (omega arith)
    ∙ ap (take (b - a)) (drop-drop a start l)
    ∙ ap (λ (k : ℕ). take k (drop (start + a) l)) (sym f)

pub part-short : (l : List ℕ) (start end : ℕ) → length (part_from start end l) ≤ end - start
part-short l start end = omega (arith, length-take (end - start) (drop start l))

pub rest-is : (s : List ℕ) (a : ℕ) → part_from a (length s) s ≡ drop a s
rest-is s a = take_all (length s - a) (drop a s) (rw length-drop (le_refl (length s - a)))

pub part-long : (s : List ℕ) (start end : ℕ) → start ≤ end → end ≤ length s → length (part_from start end s) ≡ end - start
part-long s start end h k = length-take-le (end - start) (drop start s) (omega (arith, length-drop start s))
