-- Where the bodies of a message stand: all of them, and those of the messages embedded in it, are pieces of the part that was cut first.
-- Assumes nothing.
use Prim.Native.Nat.{ℕ}
use Rattle.foundation.specs.Choices.{IfSome}
use Rattle.foundation.specs.Results.{Part}
use Rattle.foundation.proofs.ResultLaws.{Gives}
use Rattle.wire.specs.Wire.{Value, varint, fixed, body, Message, read_field, cut}
use Rattle.wire.specs.Messages.{as_body, bytes_of}
use Rattle.wire.proofs.Readers.{PieceOf, ReadIn, read_in_within, after-within, field-after}
use Rattle.wire.proofs.Progress.{every-gives}
use Rattle.wire.proofs.MessageLaws.{Values, values_weaken, bytes_of_all}

-- the message was read in the part
abbrev pub CutIn : Part → Message → Type 0
CutIn p = Values (ReadIn p)

pub cut_in_within : {p q : Part} → PieceOf p q → (m : Message) → CutIn q m → CutIn p m
cut_in_within {p} {q} w = values_weaken (ReadIn q) (ReadIn p) (read_in_within w)

pub cut_in : (p : Part) → Gives (CutIn p) (cut p)
unfolding cut
cut_in = every-gives read_field CutIn _ (λ p. tt) field-after λ p g m h c. (h.0, cut_in_within (after-within h.1) m c)

read-bodies : (p : Part) (m : Message) → CutIn p m → Values (λ v. IfSome (PieceOf p) (as_body v)) m
read-bodies p = values_weaken (ReadIn p) (λ v. IfSome (PieceOf p) (as_body v)) as-body
  where
    as-body : (v : Value) → ReadIn p v → IfSome (PieceOf p) (as_body v)
    as-body (varint n) r = tt
    as-body (fixed w n) r = tt
    as-body (body q) r = r

-- what a message in the part says of a field stands there too
module _ (p : Part) (k : ℕ) (m : Message) (c : CutIn p m) where
  pub bytes_of-in : IfSome (PieceOf p) (bytes_of k m)
  bytes_of-in = bytes_of_all (PieceOf p) k m (read-bodies p m c)
