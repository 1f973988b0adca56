-- A text cut at byte places of its UTF-8.
-- Assumes nothing.
use Rattle.std.specs.Prelude.{[], ◌∷◌, ℕ, ◌-◌, eqb, ltb, if◌then◌else◌}
use Rattle.std.proofs.Math.Option.{Option, none, some}
use Rattle.foundation.specs.Choices.{if_some, map_option}
use Rattle.foundation.specs.Texts.{Text}
use Rattle.characters.specs.Characters.{width}

pub record Halves : Type 0 where
  pub before : Text
  pub after : Text

abbrev pub halves : Text → Text → Halves
halves t u = record { before = t; after = u }

-- the text before and after byte place n; none past its end or inside a character
unfoldable pub split_at : ℕ → Text → Option Halves
split_at n [] = if eqb n 0 then some (halves [] []) else none
split_at n (c ∷ t) =
    let later = map_option (λ h. halves (c ∷ h.before) h.after) (split_at (n - width c) t) in
    if eqb n 0 then some (halves [] (c ∷ t)) else if ltb n (width c) then none else later

-- Departure: substring by byte places (Kotlin: by UTF-16 units). A place out of range makes the name absent, where Kotlin's reader
-- leaves the step out.
unfoldable pub substring_of : ℕ → ℕ → Text → Option Text
substring_of start end t =
    let part = if_some (split_at start t) none λ h. map_option (λ m. m.before) (split_at (end - start) h.after) in
    if ltb end start then none else part
