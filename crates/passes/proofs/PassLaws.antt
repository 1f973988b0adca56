-- The two passes over d1: decoded, opened, answered.
-- Assumes nothing.
use mathlib.Core.Path.{◌≡◌, refl, ap, sym, subst, ◌∙◌}
use mathlib.Core.List.{List}
use mathlib.Core.Option.{some}
use Prim.Native.Nat.{ℕ, ◌≤◌}
use native.Mathlib.Omega.{arith}
use lib.ListN.{length, take}
use Rattle.inputs.specs.told.KindTold.{kind_number}
use Rattle.foundation.specs.Results as Results
use Rattle.foundation.specs.Results.{Res, ok, refused}
use Rattle.foundation.proofs.ResultLaws.{gives-ok}
use Rattle.encoding.specs.Encoding.{decoded}
use Rattle.encoding.specs.told.Outcome as encoding
use Rattle.encoding.specs.told.Outcome.{Decoded, DecodeTold}
use Rattle.encoding.specs.declared.DecodeError.{DecodeError}
use Rattle.encoding.specs.declared.DecodeError.TheVariants as decode
use Rattle.encoding.proofs.OutcomeLaws.{limited-within, limited-arm, told-inside, told-room}
use Rattle.encoding.proofs.EncodingLaws.{decoded-length}
use Rattle.declarations.specs.Payload.{payload}
use Rattle.declarations.specs.told.PayloadTold.{LentRoom, LentTold}
use Rattle.declarations.specs.declared.payload.Opened.{Opened}
use Rattle.std.proofs.Common.{Result, Ok, Err}
use Rattle.wire.specs.declared.WireError.{WireError}
use Rattle.schema.specs.declared.Stop.TheVariants as stop
use Rattle.names.specs.declared.records.IndexError.{IndexError}
use Rattle.names.specs.declared.records.IndexError.TheVariants as index
use Rattle.inputs.specs.told.OutcomesTold.{refusal_cause, refusal_place}
use Rattle.inputs.specs.declared.Fault.TheVariants as fault
use Rattle.inputs.specs.declared.outcome.Refusal.{Refusal}
use Rattle.inputs.specs.declared.outcome.Refusal.TheVariants as why
use Rattle.passes.specs.told.AreaTold.{strings, InLimits}
use Rattle.passes.specs.told.TaskTold.{TaskTold}
use Rattle.passes.specs.told.PassTold.{of_index, of_decode, PassedTold, FrameRoom, reading_of}
use Rattle.passes.specs.declared.Asked.{Asked}
use Rattle.passes.specs.declared.Reply.{Reply}
use Rattle.passes.specs.declared.PassError.{PassError}
use Rattle.passes.specs.declared.PassError.TheVariants as first
use Rattle.passes.proofs.TaskLaws.{reply_refused}

-- What neither gives what was asked for nor is refused had no room.
pub opened-left : (r : Result Opened IndexError) → ((o : Opened) → r ≡ Ok o → ⊥) → ((error : WireError) → r ≡ Err (index.Wire error) → ⊥)
    → r ≡ Err index.NoRoom
opened-left (Ok o) k l = absurd (k o refl)
opened-left (Err index.NoRoom) k l = refl
opened-left (Err (index.Wire error)) k l = absurd (l error refl)

pub first-left : (r : Result Reply PassError) → ((reply : Reply) → r ≡ Ok reply → ⊥) → ((refusal : Refusal) → r ≡ Err (first.Refused refusal) → ⊥)
    → r ≡ Err first.NoRoom
first-left (Ok reply) k l = absurd (k reply refl)
first-left (Err (first.Refused refusal)) k l = absurd (l refusal refl)
first-left (Err first.NoRoom) k l = refl

-- What d1 is decoded to.
module _ (asked : Asked) (d1 d2 ends before after : List ℕ) (answer : Decoded) (k : InLimits d1 d2 ends) (t : DecodeTold (encoding.limited d1) before after answer) where
  arm_is : (arm : Decoded) {x : Res (List ℕ)} → answer ≡ arm → encoding.tells arm after ≡ some x → decoded d1 ≡ x
  arm_is arm e f = sym (limited-within d1 k.bytes-short) ∙ limited-arm d1 before after answer t arm e f

  pub decoded-inside : {n : ℕ} → answer ≡ Ok n → n ≤ length after
  decoded-inside e = told-inside (encoding.limited d1) before after t e

  module _ {n : ℕ} (e : answer ≡ Ok n) where
    bytes-are : decoded d1 ≡ ok (take n after)
    bytes-are = arm_is (Ok n) e refl

    bytes-few : length (take n after) ≤ length d1
    bytes-few = gives-ok (λ (bytes : List ℕ). length bytes ≤ length d1) bytes-are (decoded-length d1)

    pub bytes-kept : InLimits (take n after) d2 ends
    bytes-kept = record { bytes-short = omega (arith, bytes-few, k.bytes-short); d2-short = k.d2-short; fit = k.fit }

    by-bytes : (r : Result Reply Refusal) (S S' T T' : List ℕ) → TaskTold asked (payload (kind_number asked.kind) (strings d2 ends) (take n after)) r S S' T T'
        → TaskTold asked (reading_of (kind_number asked.kind) d1 d2 ends) r S S' T T'
    by-bytes r S S' T T' h = subst (λ (x : Res (List ℕ)). TaskTold asked (Results.◌>>=◌ x (payload (kind_number asked.kind) (strings d2 ends))) r S S' T T') (sym bytes-are) h

    pub bytes_read_lem : (notes : List ℕ) (y : Result Reply PassError) (S S' T T' : List ℕ)
        → PassedTold asked (payload (kind_number asked.kind) (strings d2 ends) (take n after)) (LentRoom (take n after) notes) y S S' T T'
        → PassedTold asked (reading_of (kind_number asked.kind) d1 d2 ends) (FrameRoom d1 after notes) y S S' T T'
    bytes_read_lem notes (Ok r) S S' T T' h = by-bytes (Ok r) S S' T T' h
    bytes_read_lem notes (Err (first.Refused refusal)) S S' T T' h = by-bytes (Err refusal) S S' T T' h
    bytes_read_lem notes (Err first.NoRoom) S S' T T' (h, p, q) = (
      (λ room.
          let few = bytes-few in
          let short = k.bytes-short in
          h (record { short = omega arith; long = omega (arith, room.notes-long) })),
      p,
      q,
    )

  decode-refused : (error : DecodeError) → answer ≡ Err error → (refusal : Refusal) → encoding.tells (Err error) after ≡ some (refused (refusal_cause refusal) 0)
      → refusal_place refusal ≡ 0 → (S T : List ℕ) → TaskTold asked (reading_of (kind_number asked.kind) d1 d2 ends) (Err refusal) S S T T
  decode-refused error e refusal f p S T =
      reply_refused asked.task (kind_number asked.kind) _ refusal S T
      (ap (λ (x : Res (List ℕ)). Results.◌>>=◌ x (payload (kind_number asked.kind) (strings d2 ends))) (arm_is (Err error) e f) ∙ ap (refused (refusal_cause refusal)) (sym p))

  -- why it isn't decoded is passed on
  pub decode-stops : (error : DecodeError) → answer ≡ Err error → length after ≡ length before → (notes S T : List ℕ) → (e : PassError) → e ≡ of_decode error
      → PassedTold asked (reading_of (kind_number asked.kind) d1 d2 ends) (FrameRoom d1 after notes) (Err e) S S T T
  decode-stops decode.TooLong g l notes S T e f = rw f (decode-refused decode.TooLong g (why.Fault fault.D1TooLong) refl refl S T)
  decode-stops decode.Empty g l notes S T e f = rw f (decode-refused decode.Empty g why.EmptyPayload refl refl S T)
  decode-stops (decode.NotAByte unit) g l notes S T e f = rw f (decode-refused (decode.NotAByte unit) g (why.NotAByte unit) refl refl S T)
  decode-stops decode.NoRoom g l notes S T e f =
      rw f ((λ room. told-room d1 before after answer t (omega (arith, room.bytes-long)) g), refl, refl)

-- Where the bytes are not opened.
pub opened-stops : (asked : Asked) (bytes d2 ends notes : List ℕ) (error : IndexError) → LentTold bytes d2 ends notes (Err error) → (e : PassError) → e ≡ of_index error
    → (S T : List ℕ) → PassedTold asked (payload (kind_number asked.kind) (strings d2 ends) bytes) (LentRoom bytes notes) (Err e) S S T T
opened-stops asked bytes d2 ends notes index.NoRoom t e f S T = rw f (t, refl, refl)
opened-stops asked bytes d2 ends notes (index.Wire error) t e f S T =
    rw f (reply_refused asked.task (kind_number asked.kind) _ (why.Stop (stop.Wire error)) S T (t (kind_number asked.kind) (strings d2 ends)))
