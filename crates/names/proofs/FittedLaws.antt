-- Texts that are made to take a given number of bytes.
-- Assumes nothing.
use mathlib.Core.Path.{◌≡◌, refl, ap, sym, ◌∙◌}
use mathlib.Core.Bool.{Bool, true, false}
use mathlib.Core.List.{List, [], ◌∷◌, map}
use Prim.Native.Nat.{ℕ, zero, suc, ◌+◌, ◌-◌, ◌≤◌, ◌<◌}
use native.Mathlib.Omega.{arith}
use borrow.Author.Tests.{leb-true, le-leb}
use lib.Dec.{leb}
use lib.ListN.{length, drop, get_or, replicate, drop_of_length-le}
use native.Mathlib.Nat.{le_refl}
use lib.Seq.{sets, length-sets}
use Rattle.std.specs.Prelude.{if◌then◌else◌}
use Rattle.foundation.specs.Texts.{Text}
use Rattle.foundation.proofs.ChoiceLaws.{if_ind}
use Rattle.foundation.proofs.OverlayLaws.{sets_out}
use Rattle.characters.specs.Characters.{width, utf8_of, utf8}
use Rattle.characters.specs.told.CharactersTold.{Character, character_read, PutCharacter}
use Rattle.foundation.specs.declared.Read.{Read}
use Rattle.std.specs.declared.option.Option.TheVariants.{Some, None}
use Rattle.characters.proofs.LengthLaws.{width_most, bytes_cons}
use Rattle.characters.proofs.WriteLaws.{put_next}
use Rattle.names.specs.told.Encoded.{Decoding}
use Rattle.names.specs.told.Name.{fitted, is_measured, sized}
use Rattle.names.specs.told.Stream.{changed, fitted_of}
use Rattle.names.specs.declared.name.Change.{Change}

lt_leb : (n k : ℕ) → n < k → leb k n ≡ false
lt_leb n k h = go (leb k n) refl
  where
    go : (b : Bool) → leb k n ≡ b → leb k n ≡ false
    go true e = absurd (omega (arith, leb-true k n e))
    go false e = e

zeros-bytes : (n : ℕ) → length (utf8 (replicate n 0)) ≡ n
unfolding utf8 utf8_of
zeros-bytes zero = refl
zeros-bytes (suc n) = ap suc (zeros-bytes n)

-- One character more, or none that fits.
fitted_cons : (n c : ℕ) (t : Text) → width c ≤ n → fitted n (c ∷ t) ≡ c ∷ fitted (n - width c) t
unfolding fitted
fitted_cons n c t h = rw (le-leb (width c) n h)

too_wide : (n c : ℕ) (t : Text) → leb (width c) n ≡ false → fitted n (c ∷ t) ≡ replicate n 0
unfolding fitted
too_wide n c t e = rw e

-- by whether there is room for the first character
pub fitted_ind : (P : Text → Type 0) (n c : ℕ) (t : Text) → P (c ∷ fitted (n - width c) t) → P (replicate n 0) → P (fitted n (c ∷ t))
unfolding fitted
fitted_ind P n c t p q = if_ind P (leb (width c) n) (λ e. p) λ e. q

pub zeros-first : (n : ℕ) → get_or (utf8 (replicate n 0)) 0 0 ≡ 0x6b → ⊥
unfolding utf8 utf8_of
zeros-first zero e = omega arith
zeros-first (suc n) e = omega arith

pub fitted-bytes : (n : ℕ) (t : Text) → length (utf8 (fitted n t)) ≡ n
unfolding fitted
fitted-bytes n [] = zeros-bytes n
fitted-bytes n (c ∷ t) =
    if_ind (λ (u : Text). length (utf8 u) ≡ n) (leb (width c) n)
    (λ e. omega (arith, leb-true (width c) n e, bytes_cons c (fitted (n - width c) t), fitted-bytes (n - width c) t)) λ e. zeros-bytes n

-- A text of that many bytes stays as it is.
pub fitted-same : (n : ℕ) (t : Text) → length (utf8 t) ≡ n → fitted n t ≡ t
unfolding utf8 fitted
fitted-same zero [] e = refl
fitted-same (suc n) [] e = absurd (omega arith)
fitted-same n (c ∷ t) e =
    let b = bytes_cons c t in
    fitted_cons n c t (omega arith) ∙ ap (λ (u : Text). c ∷ u) (fitted-same (n - width c) t (omega arith))

sized_same : (n : ℕ) (t : Text) → n ≡ length (utf8 t) → sized n t ≡ t
sized_same n t e = if_ind (λ (u : Text). u ≡ t) (is_measured n) (λ b. fitted-same n t (sym e)) λ b. refl

-- where a size of 0 says nothing
pub sized-is : (n : ℕ) (t : Text) → ((n ≡ 0 → ⊥) → n ≡ length (utf8 t)) → sized n t ≡ t
sized-is zero t h = refl
sized-is (suc k) t h = sized_same (suc k) t (h λ z. omega arith)

-- Characters become others of the same width.
module _ (f : ℕ → ℕ) (keeps : (c : ℕ) → width (f c) ≡ width c) (zero-stays : f 0 ≡ 0) where
  zeros-map : (n : ℕ) → map f (replicate n 0) ≡ replicate n 0
  zeros-map zero = refl
  zeros-map (suc n) = rw (zero-stays, zeros-map n)

  fitted-map : (n : ℕ) (t : Text) → map f (fitted n t) ≡ fitted n (map f t)
  unfolding fitted
  fitted-map n [] = zeros-map n
  fitted-map n (c ∷ t) = rw (keeps c) (go (leb (width c) n) (fitted-map (n - width c) t))
    where
      go : (b : Bool) → map f (fitted (n - width c) t) ≡ fitted (n - width c) (map f t)
          → map f (if b then c ∷ fitted (n - width c) t else replicate n 0) ≡ (if b then f c ∷ fitted (n - width c) (map f t) else replicate n 0)
      go true e = ap (λ (u : Text). f c ∷ u) e
      go false e = zeros-map n

  pub sized-map : (n : ℕ) (t : Text) → map f (sized n t) ≡ sized n (map f t)
  sized-map n t = go (is_measured n)
    where
      go : (b : Bool) → map f (if b then fitted n t else t) ≡ (if b then fitted n (map f t) else map f t)
      go true = fitted-map n t
      go false = refl

-- Nothing is left of a text that is to take no byte.
pub fitted_none : (t : Text) → fitted 0 t ≡ []
unfolding fitted
fitted_none [] = refl
fitted_none (c ∷ t) = let w = width_most c in rw (lt_leb 0 (width c) w.0)

-- One step of a text that is to take `left` bytes: `rest` is what it is made of, `rest'` what is left of it after the step.
pub record FittedStep (left : ℕ) (rest rest' : Text) (r : Read ℕ) : Type 0 where
  pub fits : width r.value ≤ left
  pub is : fitted left rest ≡ r.value ∷ fitted (left - width r.value) rest'

zero-width : width 0 ≡ 1
unfolding width
zero-width = refl

zeros-step : (left : ℕ) → 0 < left → replicate left 0 ≡ 0 ∷ fitted (left - width 0) []
unfolding fitted width
zeros-step zero h = absurd (omega arith)
zeros-step (suc n) h = let z : suc n - 1 ≡ n = omega arith in rw z

module _ (h : Change) (left end : ℕ) (l : 0 < left) {r : Read ℕ} where
  pub fitted-end : (rest rest' : Text) → rest ≡ [] → rest' ≡ [] → r ≡ fitted_of h left end None → FittedStep left (map (changed h) rest) (map (changed h) rest') r
  unfolding fitted
  fitted-end rest rest' e f g = rw (g, e, f) (record { fits = rw zero-width l; is = zeros-step left l })

  pub fitted-next : (rest : Text) (after : ℕ → Text) {code next : ℕ} → rest ≡ code ∷ after next → after end ≡ [] → r ≡ fitted_of h left end (character_read code next)
      → FittedStep left (map (changed h) rest) (map (changed h) (after r.next)) r
  fitted-next rest after {code} {next} e f g = rw (g, e) (go (leb (width (changed h code)) left) refl)
    where
      go : (b : Bool) → leb (width (changed h code)) left ≡ b
          → let s : Read ℕ = if b then record { value = changed h code; next = next } else record { value = 0; next = end } in
          FittedStep left (changed h code ∷ map (changed h) (after next)) (map (changed h) (after s.next)) s
      go true q =
          let w = leb-true (width (changed h code)) left q in
          record { fits = w; is = fitted_cons left (changed h code) (map (changed h) (after next)) w }
      go false q = rw f (record { fits = rw zero-width l; is = too_wide left (changed h code) (map (changed h) (after next)) q ∙ zeros-step left l })

-- Of a whole text, made to take `size` bytes and written from `at` on over the area A₀, `left` bytes of the rest are to be written from `to` on over A.
pub record Fitting (whole rest : Text) (size at to left : ℕ) (A₀ A : List ℕ) : Type 0 where
  pub place : to + left ≡ at + size
  pub written : sets A to (utf8 (fitted left rest)) ≡ sets A₀ at (utf8 (fitted size whole))
  pub kept : length A ≡ length A₀

pub fitting_start : (t : Text) (size at : ℕ) (A : List ℕ) → Fitting t t size at at size A A
fitting_start t size at A = record { place = refl; written = refl; kept = refl }

module _ {whole rest : Text} {size at to left : ℕ} {A₀ A : List ℕ} (s : Fitting whole rest size at to left A₀ A) where
  pub fitting-end : left ≤ 0 → A ≡ sets A₀ at (utf8 (fitted size whole))
  unfolding utf8
  fitting-end h =
      let z : left ≡ 0 = omega arith in
      sym (ap (λ (n : ℕ). sets A to (utf8 (fitted n rest))) z ∙ ap (λ (t : Text). sets A to (utf8 t)) (fitted_none rest)) ∙ s.written

  pub fitting-past : length A ≤ to → A ≡ sets A₀ at (utf8 (fitted size whole))
  fitting-past h = sym (sets_out (utf8 (fitted left rest)) A to h) ∙ s.written

  module _ {rest' : Text} {r : Read ℕ} (f : FittedStep left rest rest' r) {taken : ℕ} {A' : List ℕ} (p : PutCharacter r.value to taken A A') where
    pub taken-fits : taken ≤ left
    taken-fits = omega (arith, f.fits, p.bytes)

    pub taken-some : 1 ≤ taken
    taken-some = let w = width_most r.value in omega (arith, w.0, p.bytes)

    pub fitting-sum : (K : ℕ) → at + size < K → to + taken < K
    fitting-sum K l = omega (arith, s.place, taken-fits)

    pub fitting-next : Fitting whole rest' size at (to + taken) (left - taken) A₀ A'
    fitting-next = record {
      place = omega (arith, s.place, taken-fits);
      written =
          ap (λ (n : ℕ). sets A' (to + taken) (utf8 (fitted (left - n) rest'))) p.bytes
          ∙ sym (put_next r.value to (fitted (left - width r.value) rest') A p)
          ∙ ap (λ (t : Text). sets A to (utf8 t)) (sym f.is)
          ∙ s.written;
      kept = ap length p.written ∙ simp length-sets s.kept;
    }

-- The step by the character that was read.
module _ {decoded : List ℕ → Text} {character : ℕ → List ℕ → Character} (d : Decoding decoded character) (h : Change) (left : ℕ) (l : 0 < left) {r : Read ℕ} where
  pub decoded_step : (s : List ℕ) (i : ℕ) {c : Character} → c ≡ character i (drop i s) → r ≡ fitted_of h left (length s) c
      → FittedStep left (map (changed h) (decoded (drop i s))) (map (changed h) (decoded (drop r.next s))) r
  decoded_step s i {c} e g = go c e g
    where
      ended : decoded (drop (length s) s) ≡ []
      ended = ap decoded (drop_of_length-le s (le_refl (length s))) ∙ d.none

      go : (c : Character) → c ≡ character i (drop i s) → r ≡ fitted_of h left (length s) c
          → FittedStep left (map (changed h) (decoded (drop i s))) (map (changed h) (decoded (drop r.next s))) r
      go (Some c) e g = fitted-next h left (length s) l (decoded (drop i s)) (λ j. decoded (drop j s)) (d.goes_on s i (sym e)) ended g
      go None e g =
          fitted-end h left (length s) l (decoded (drop i s)) (decoded (drop r.next s)) (d.ended s i (sym e))
          (ap (λ (f : Read ℕ). decoded (drop f.next s)) g ∙ ended) g

-- What is written of a character, by its width.
module _ (h : Change) (left end : ℕ) {ch : Character} where
  pub fitted-of-end : ch ≡ None → ◌≡◌ {A = Read ℕ} (record { value = 0; next = end }) (fitted_of h left end ch)
  fitted-of-end e = rw e

  module _ {code next c w : ℕ} (e : ch ≡ character_read code next) (f : c ≡ changed h code) (g : w ≡ width c) where
    pub fitted-of-fits : w ≤ left → ◌≡◌ {A = Read ℕ} (record { value = c; next = next }) (fitted_of h left end ch)
    fitted-of-fits l = rw (e, ← f, ← g, le-leb w left l)

    pub fitted-of-wide : left < w → ◌≡◌ {A = Read ℕ} (record { value = 0; next = end }) (fitted_of h left end ch)
    fitted-of-wide l = rw (e, ← f, ← g, lt_leb left w l)

-- Is a size noted?
pub measured_none : (size : ℕ) → size < 1 → false ≡ is_measured size
measured_none size h = rw (lt_leb size 1 h)

pub measured_some : (size : ℕ) → 1 ≤ size → leb size 131072 ≡ is_measured size
measured_some size h = rw (le-leb 1 size h)
