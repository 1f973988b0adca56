-- The predefined strings as parts of one list.
-- Assumes nothing.
use mathlib.Core.Path.{◌≡◌, refl, ap, ◌∙◌, subst}
use mathlib.Core.Bool.{Bool, true, false, ◌&&◌}
use mathlib.Core.List.{List, [], ◌∷◌}
use mathlib.Core.Option.{Option, none, some}
use Prim.Native.Nat.{ℕ, zero, suc, ◌+◌, ◌≤◌, ◌<◌}
use Prim.Native.String.{String}
use native.Mathlib.Omega.{arith}
use lib.Dec.{T}
use lib.ListN.{length, get_or, get_elem?}
use Rattle.foundation.specs.Choices.{if_some, map_option}
use Rattle.foundation.specs.Texts.{Text, ascii, same}
use Rattle.foundation.proofs.ChoiceLaws.{same_true}
use Rattle.characters.specs.Characters.{lead_of, run, step, from_utf8_after, from_utf8}
use Rattle.characters.specs.told.Places.{part_from}
use Rattle.foundation.proofs.EveryLaws.{each}
use Rattle.characters.proofs.TestLaws.{holds, below}
use Rattle.names.specs.Records.{predefined_strings, predefined_text}
use Rattle.names.specs.told.Name.{predefined_list}

-- where each of some texts starts, one after the other, and where the last ends
abbrev pub places : ℕ → List String → List ℕ
places at [] = at ∷ []
places at (s ∷ ss) = at ∷ places (at + length (ascii s)) ss

abbrev pub starts : List ℕ
starts = places 0 predefined_strings

abbrev pub entry : ℕ → List ℕ
entry k = part_from (get_or starts k 0) (get_or starts (k + 1) 0) predefined_list

-- the part from each place to the next is the string there
right : ℕ → Bool
right k = if_some (predefined_text k) false (same (from_utf8 (entry k)))

first_right : ℕ → Bool
first_right zero = true
first_right (suc n) = right n && first_right n

all_right : T (first_right 44)
unfolding first_right right predefined_list predefined_text from_utf8_after step lead_of run
all_right = tt

right_below : (n k : ℕ) → k < n → T (first_right n) → T (right k)
unfolding first_right
right_below zero k h t = absurd (omega arith)
right_below (suc n) k h t =
    let p = each (right n) (first_right n) t in
    below n k (λ l. right_below n k l p.1) λ l.
    let e : n ≡ k = omega arith in
    subst (λ (m : ℕ). T (right m)) e p.0

listed_right : (k : ℕ) → k < 44 → some (from_utf8 (entry k)) ≡ predefined_text k
unfolding right
listed_right k h = go (predefined_text k) (right_below 44 k h all_right)
  where
    go : (o : Option Text) → T (if_some o false (same (from_utf8 (entry k)))) → some (from_utf8 (entry k)) ≡ o
    go none t = absurd t
    go (some u) t = ap some (same_true (from_utf8 (entry k)) u (holds (same (from_utf8 (entry k)) u) t))

pub listed-part : (k : ℕ) → k < 44 → {a b : ℕ} → a ≡ get_or starts k 0 → b ≡ get_or starts (k + 1) 0 → some (from_utf8 (part_from a b predefined_list)) ≡ predefined_text k
listed-part k h {a} {b} p q =
    ap (λ (x : ℕ). some (from_utf8 (part_from x b predefined_list))) p
    ∙ ap (λ (y : ℕ). some (from_utf8 (part_from (get_or starts k 0) y predefined_list))) q
    ∙ listed_right k h

past : {A : Type 0} (xs : List A) (k : ℕ) → length xs ≤ k → none ≡ get_elem? xs k
past [] k h = refl
past (x ∷ xs) zero h = absurd (omega arith)
past (x ∷ xs) (suc k) h = past xs k (omega arith)

pub listed-past : (k : ℕ) → 44 ≤ k → none ≡ predefined_text k
unfolding predefined_text
listed-past k h = ap (map_option ascii) (past predefined_strings k h)
