-- A message checked field by field: what is told of its rest holds of the whole.
-- Assumes nothing.
use mathlib.Core.Path.{◌∙◌, subst}
use mathlib.Core.List.{List, ◌∷◌, ◌++◌}
use Prim.Native.Nat.{ℕ, ◌<◌}
use lib.ListN.{length}
use Rattle.foundation.specs.Results.{Part, ◌from◌}
use Rattle.wire.specs.Wire.{read_field, cut}
use Rattle.wire.specs.told.WireTold.{rest_of, told_field, FieldTold, SkipTold}
use Rattle.std.specs.Prelude.{Result, Ok, Err}
use Rattle.wire.specs.declared.WireError.{WireError}
use Rattle.wire.specs.declared.Field as code
use Rattle.foundation.specs.declared.Read.{Read}
use Rattle.wire.proofs.WalkLaws.{whole, cut_field}
use Rattle.messages.specs.told.Asked.{CheckedTold}

module _ (base : ℕ) (s : List ℕ) (at : ℕ) (x : Read code.Field) (e : FieldTold base s (read_field (rest_of base s at)) (Ok x)) (h : at < length s) where
  pub checked-field : (c : Result Unit WireError) → CheckedTold (cut (rest_of base s x.next)) c → CheckedTold (cut (rest_of base s at)) c
  checked-field (Ok u) (m, w) = (told_field base s x.value ∷ m, cut_field base s at x e h ∙ rw w)
  checked-field (Err error) w = cut_field base s at x e h ∙ rw w

pub checked_whole : (base : ℕ) (s : List ℕ) (c : Result Unit WireError) → CheckedTold (cut (rest_of base s 0)) c → CheckedTold (cut (◌from◌ base s)) c
checked_whole base s c h = subst (λ (p : Part). CheckedTold (cut p) c) (whole base s) h

-- from the place after skipped fields
module _ (base : ℕ) {s ks : List ℕ} {at next : ℕ} (t : SkipTold s ks at next) where
  pub skip-checked : (c : Result Unit WireError) → CheckedTold (cut (rest_of base s next)) c → CheckedTold (cut (rest_of base s at)) c
  skip-checked (Ok u) (m, w) = ((t.is base).fields ++ m, (t.is base).cuts ∙ rw w)
  skip-checked (Err error) w = (t.is base).cuts ∙ rw w
