-- Laws of the table's rows.
-- Assumes nothing.
use mathlib.Core.Path.{◌≡◌, refl, sym, ap, ◌∙◌, subst}
use mathlib.Core.Bool.{Bool, true, false}
use mathlib.Core.List.{List, [], ◌∷◌, ◌++◌}
use Prim.Native.Nat.{ℕ, zero, suc, ◌+◌, ◌*◌, ◌%◌, ◌-◌, ◌≤◌, ◌<◌}
use native.Mathlib.Omega.{arith}
use borrow.Author.Tests.{ltb-true, ltb-false}
use lib.Dec.{T, ltb, eqb}
use lib.ListN.{length, take, drop, get_or, take-append-drop}
use Rattle.std.specs.Prelude.{if◌then◌else◌}
use Rattle.std.specs.Prelude.{Some, None}
use Rattle.std.specs.Bool.{then_some}
use Rattle.foundation.specs.Texts.{Text, ascii, same}
use Rattle.foundation.proofs.ChoiceLaws.{same_true}
use Rattle.characters.specs.Characters.{is_scalar, utf8, utf8_of}
use Rattle.characters.specs.told.CharactersTold.{Characters}
use Rattle.foundation.proofs.EveryLaws.{every, every_all}
use Rattle.characters.proofs.Utf8Laws.{utf8_injective}
use Rattle.erasure.specs.Erasure.{Meaning, nothing, mapped, Entry, ◌means◌, listed, look_up}
use Rattle.erasure.specs.told.ErasureTold.{row_at, listed_name, listed_meaning, meaning_told, CanBe, Means}
use Rattle.erasure.specs.declared.Meaning as answer
use Rattle.erasure.specs.declared.Meaning.TheVariants.{Other}
use Rattle.erasure.proofs.TextLaws.{never}
use Rattle.erasure.proofs.TableLaws.{tabulate, tabulated, rows_from}

-- Names are 8 to 36 bytes long.
names-long : tabulate (λ k. ltb (length (listed_name k)) 8) 36 ≡ tabulate (λ k. false) 36
unfolding row_at listed_name utf8 utf8_of
names-long = refl

names-short : tabulate (λ k. ltb 36 (length (listed_name k))) 36 ≡ tabulate (λ k. false) 36
unfolding row_at listed_name utf8 utf8_of
names-short = refl

name-long : (k : ℕ) → k < 36 → 8 ≤ length (listed_name k)
name-long k h = ltb-false (length (listed_name k)) 8 (tabulated (λ i. ltb (length (listed_name i)) 8) (λ i. false) 36 names-long k h)

name-short : (k : ℕ) → k < 36 → length (listed_name k) ≤ 36
name-short k h = ltb-false 36 (length (listed_name k)) (tabulated (λ i. ltb 36 (length (listed_name i))) (λ i. false) 36 names-short k h)

module _ {s : List ℕ} where
  pub too_short : length s < 8 → CanBe s None
  too_short h k l e = absurd (omega (arith, name-long k l, ap length e))

  pub too_long : 36 < length s → CanBe s None
  too_long h k l e = absurd (omega (arith, name-short k l, ap length e))

-- All names begin with kotlin/.
abbrev pub kotlin : List ℕ
kotlin = ascii "kotlin/"

unfoldable pub after_kotlin : ℕ → List ℕ
after_kotlin k = drop 7 (listed_name k)

names_begin : tabulate (λ k. take 7 (listed_name k)) 36 ≡ tabulate (λ k. kotlin) 36
unfolding row_at listed_name utf8 utf8_of
names_begin = refl

name-joined : (k : ℕ) → k < 36 → kotlin ++ after_kotlin k ≡ listed_name k
unfolding after_kotlin
name-joined k h =
    ap (λ (l : List ℕ). l ++ drop 7 (listed_name k)) (sym (tabulated (λ i. take 7 (listed_name i)) (λ i. kotlin) 36 names_begin k h))
    ∙ take-append-drop 7 (listed_name k)

pub no_kotlin : {s : List ℕ} → (get_or s 0 0 ≡ 0x6b → ⊥) → CanBe s None
unfolding after_kotlin
no_kotlin h k l e = absurd (h (ap (λ (x : List ℕ). get_or x 0 0) (e ∙ sym (name-joined k l))))

-- what the code makes of a name's length and two bytes
abbrev pub hash : List ℕ → ℕ
hash s = (length s + get_or s 7 0 + 3 * get_or s (length s - 1) 0) % 128

-- the row that has this hash among the first n; 36 if none has it
unfoldable pub row_with : ℕ → ℕ → ℕ
row_with h zero = 36
row_with h (suc n) = let earlier = row_with h n in if eqb (hash (listed_name n)) h then n else earlier

unfoldable pub hashed : List ℕ
hashed = tabulate (λ h. row_with h 36) 128

hashed_right : tabulate (λ k. get_or hashed (hash (listed_name k)) 0) 36 ≡ tabulate (λ k. k) 36
unfolding hashed row_with row_at listed_name utf8 utf8_of
hashed_right = refl

-- The hashes of the rows differ.
pub hashed-row : (s : List ℕ) {a b r : ℕ} → a ≡ get_or s 7 0 → b ≡ get_or s (length s - 1) 0 → r ≡ get_or hashed ((length s + a + 3 * b) % 128) 0
    → (k : ℕ) → k < 36 → s ≡ listed_name k → r ≡ k
hashed-row s p q e k l f = e ∙ rw (p, q, f) (tabulated (λ i. get_or hashed (hash (listed_name i)) 0) (λ i. i) 36 hashed_right k l)

pub listed-is : (s part : List ℕ) (k : ℕ) {r : Bool} → k < 36 → part ≡ after_kotlin k → r ≡ same s (kotlin ++ part) → r ≡ same s (listed_name k)
listed-is s part k h p e = e ∙ rw (p, name-joined k h)

-- A row below 36 can be the name's; any other number says that there is none.
pub row_below : (s : List ℕ) (r : ℕ) (b : Bool) → ltb r 36 ≡ b → ((k : ℕ) → k < 36 → s ≡ listed_name k → r ≡ k) → CanBe s (then_some b r)
row_below s r true e h = (omega (arith, ltb-true r 36 e), h)
row_below s r false e h = λ k l f. let i = h k l f in absurd (omega (arith, ltb-false r 36 e))

-- A row's name is found there, and not before.
characters : tabulate (λ k. every is_scalar (row_at k).name) 36 ≡ tabulate (λ k. true) 36
unfolding row_at is_scalar
characters = refl

row_characters : (k : ℕ) → k < 36 → Characters (row_at k).name
row_characters k h =
    every_all is_scalar (row_at k).name (subst T (sym (tabulated (λ i. every is_scalar (row_at i).name) (λ i. true) 36 characters k h)) tt)

meanings : tabulate (λ k. look_up (row_at k).name listed) 36 ≡ tabulate listed_meaning 36
unfolding row_at listed_meaning look_up
meanings = refl

pub means_row : (s : List ℕ) (k : ℕ) (r : answer.Meaning) → k < 36 → s ≡ listed_name k → ((n : Text) → listed_meaning k ≡ meaning_told n r) → Means s r
unfolding listed_name
means_row s k r h e m n c u =
    let f : n ≡ (row_at k).name = utf8_injective n (row_at k).name c (row_characters k h) (u ∙ e) in
    ap (λ (t : Text). look_up t listed) f ∙ tabulated (λ i. look_up (row_at i).name listed) listed_meaning 36 meanings k h ∙ m n

-- What is none of the names is itself.
look_up_none : (n : Text) (es : List Entry) → ((k : ℕ) → k < length es → same n (get_or es k (◌means◌ "" nothing)).name ≡ false) → look_up n es ≡ mapped n
unfolding look_up
look_up_none n [] h = refl
look_up_none n (e ∷ es) h = rw (h 0 (omega arith)) (look_up_none n es λ k l. h (suc k) (omega arith))

pub means_none : (s : List ℕ) → CanBe s None → Means s Other
unfolding listed_name row_at
means_none s h n c u = look_up_none n listed λ k l. never (same n (row_at k).name) λ t. h k l (sym u ∙ ap utf8 (same_true n (row_at k).name t))

pub means-itself : (s : List ℕ) (r : ℕ) → ((k : ℕ) → k < 36 → s ≡ listed_name k → r ≡ k) → (s ≡ listed_name r → ⊥) → Means s Other
means-itself s r b f = means_none s λ k l e. f (e ∙ ap listed_name (sym (b k l e)))

-- The meanings of rows from one on, by their number.
pub row_means : (g : ℕ → Meaning) (a n k : ℕ) → tabulate (λ i. listed_meaning (a + i)) n ≡ tabulate (λ i. g (a + i)) n → a ≤ k → k < a + n
    → listed_meaning k ≡ g k
row_means = rows_from listed_meaning
