-- The same is read of the decoded bytes where their body was joined.
-- Assumes nothing.
use mathlib.Core.Path.{◌≡◌, ap, sym, subst, ◌∙◌}
use mathlib.Core.List.{List}
use Prim.Native.Nat.{ℕ, ◌+◌, ◌-◌}
use native.Mathlib.Omega.{arith}
use lib.Dec.{eqb}
use lib.ListN.{length, take, drop, length-drop}
use Rattle.foundation.specs.Results.{Res, ok, refused, Part, ◌from◌, got}
use Rattle.foundation.proofs.ResultLaws.{Gives, gives-ok, bind_same}
use Rattle.wire.specs.Wire.{cut, read_delimited}
use Rattle.wire.specs.told.WireTold.{rest_of, part_between}
use Rattle.messages.specs.told.Reader.{SplitTold}
use Rattle.messages.specs.declared.reader.Parts.{Parts}
use Rattle.names.specs.Names.{records_of}
use Rattle.schema.specs.Reading.{allowance}
use Rattle.declarations.specs.Payload.{payload}
use Rattle.std.proofs.Common.{Result, Ok, Err}
use Rattle.inputs.specs.told.KindTold.{kind_number}
use Rattle.declaration_rows.specs.Declarations.{Declarations}
use Rattle.foundation.specs.declared.Tables.{Tables}
use Rattle.schema.specs.told.SchemaTold.{lent_of, entries_in}
use Rattle.schema.specs.told.Alike.{DeepestOf}
use Rattle.declarations.specs.told.PayloadTold.{LentAt, LentRoom}
use Rattle.passes.specs.told.AreaTold.{strings, InLimits}
use Rattle.passes.specs.told.TaskTold.{TaskTold}
use Rattle.passes.specs.told.PassTold.{PassedTold, FrameRoom}
use Rattle.passes.specs.declared.Asked.{Asked}
use Rattle.passes.specs.declared.Reply.{Reply}
use Rattle.passes.specs.declared.PassError.{PassError}
use Rattle.passes.specs.declared.PassError.TheVariants as first
use lib.Seq.{take_all}
use borrow.Rule.Slice.PartMut.{put_mid, mid_len, same_len_mid}
use Rattle.std.proofs.lemmas.Slice.{between-put_mid, take-put_mid_below}
use Rattle.joined_types.specs.told.Fates.{BodyJoined}
use Rattle.joined_types.proofs.FieldLaws.{AgainIn, delimited_again, take_fewer, take_later}
use Rattle.passes.specs.told.OpenedTold.{BytesJoined}

-- what holds of everything holds of what a reading gives
all-gives : {A : Type 0} {P : A → Type 0} → ((a : A) → P a) → (r : Res A) → Gives P r
all-gives f (ok a) = f a
all-gives f (refused c place) = tt

module _ (bytes bytes' : List ℕ) (p : Parts) (t : SplitTold bytes (read_delimited (◌from◌ 0 bytes)) (Ok p)) (many : length bytes' ≡ length bytes)
    (front : take p.rest bytes' ≡ take p.rest bytes) (body : BodyJoined (drop p.rest bytes) (drop p.rest bytes')) where
  abbrev table : Part
  table = part_between 0 bytes p.table.start p.table.end

  -- the name table is the same, and the body begins at the same place
  split-again : read_delimited (◌from◌ 0 bytes') ≡ got table (rest_of 0 bytes' p.rest)
  split-again = again (gives-ok _ t.0 (delimited_again (◌from◌ 0 bytes)))
    where
      again : AgainIn (λ place. read_delimited) (λ q. q) (◌from◌ 0 bytes) table (rest_of 0 bytes p.rest) → read_delimited (◌from◌ 0 bytes') ≡ got table (rest_of 0 bytes' p.rest)
      again w =
          let at : 0 + p.rest ≡ 0 + (w.start + w.count) = ap (λ (x : Part). x.at) w.is in
          let end : p.rest ≡ w.start + w.count = omega (arith, at) in
          let few : take (w.start + w.count) bytes' ≡ take (w.start + w.count) bytes = rw (← end) front in
          let rest : Part = ◌from◌ (0 + (w.start + w.count)) (drop (w.start + w.count) bytes') in
          w.again 0 0 bytes' (take_fewer w.start (w.start + w.count) bytes' bytes (omega arith) few) (omega (arith, w.fits, many))
          ∙ ap (λ (xs : List ℕ). got (◌from◌ (0 + w.start) xs) rest) (take_later w.start w.count bytes' bytes few)
          ∙ ap (λ (q : Part). got q rest) (sym w.piece)
          ∙ ap (λ (n : ℕ). got table (◌from◌ (0 + n) (drop n bytes'))) (sym end)

  pub bytes-joined : BytesJoined bytes bytes'
  unfolding payload
  bytes-joined = record {
    many = many;
    reads = λ kind d2.
        rw (split-again, t.0)
        (bind_same (cut table) _ _
        (all-gives (λ fields. bind_same (records_of fields) _ _ (all-gives (λ records. body.reads (0 + p.rest) (eqb kind 1) (record { records = records; d2 = d2 }) allowance) (records_of fields))) (cut table)));
  }

-- The bytes after their body was handed on, joined and put back.
module _ (bytes new : List ℕ) (p : Parts) (t : SplitTold bytes (read_delimited (◌from◌ 0 bytes)) (Ok p))
    (body : BodyJoined (take (length bytes - p.rest) (drop p.rest bytes)) new) where
  abbrev put : List ℕ
  put = put_mid p.rest (length bytes - p.rest) bytes new

  whole : take (length bytes - p.rest) (drop p.rest bytes) ≡ drop p.rest bytes
  whole = take_all (length bytes - p.rest) (drop p.rest bytes) (rw length-drop (omega arith))

  left : length new ≡ length bytes - p.rest
  left = body.many ∙ ap length whole ∙ length-drop p.rest bytes

  as-long : length put ≡ length bytes
  as-long = same_len_mid p.rest (length bytes - p.rest) bytes new (left ∙ sym (mid_len p.rest (length bytes) bytes (omega arith)))

  end-is : drop p.rest put ≡ new
  end-is =
      sym (take_all (length bytes - p.rest) (drop p.rest put) (rw (length-drop, as-long) (omega arith)))
      ∙ between-put_mid p.rest (length bytes - p.rest) bytes new (length bytes) t.4 left

  pub joined-put_back : BytesJoined bytes put
  joined-put_back = bytes-joined bytes put p t as-long (take-put_mid_below p.rest (length bytes - p.rest) bytes new p.rest (omega arith) t.4) (rw (end-is, ← whole) body)

-- What is passed of the bytes that they become is passed of them.
module _ {bytes bytes' : List ℕ} (j : BytesJoined bytes bytes') where
  pub joined-limits : {d2 ends : List ℕ} → InLimits bytes d2 ends → InLimits bytes' d2 ends
  joined-limits k = record { bytes-short = omega (arith, j.many, k.bytes-short); d2-short = k.d2-short; fit = k.fit }

  pub joined-passes : (asked : Asked) (d2 ends notes : List ℕ) (y : Result Reply PassError) (S S' T T' : List ℕ)
      → PassedTold asked (payload (kind_number asked.kind) (strings d2 ends) bytes') (LentRoom bytes' notes) y S S' T T'
      → PassedTold asked (payload (kind_number asked.kind) (strings d2 ends) bytes) (LentRoom bytes notes) y S S' T T'
  joined-passes asked d2 ends notes y S S' T T' h = go y h
    where
      same : payload (kind_number asked.kind) (strings d2 ends) bytes' ≡ payload (kind_number asked.kind) (strings d2 ends) bytes
      same = j.reads (kind_number asked.kind) (strings d2 ends)

      go : (y : Result Reply PassError) → PassedTold asked (payload (kind_number asked.kind) (strings d2 ends) bytes') (LentRoom bytes' notes) y S S' T T'
          → PassedTold asked (payload (kind_number asked.kind) (strings d2 ends) bytes) (LentRoom bytes notes) y S S' T T'
      go (Ok r) h = subst (λ (x : Res (Declarations × ℕ)). TaskTold asked x (Ok r) S S' T T') same h
      go (Err (first.Refused r)) h = subst (λ (x : Res (Declarations × ℕ)). TaskTold asked x (Err r) S S' T T') same h
      go (Err first.NoRoom) (h, p, q) = ((λ room. h (record { short = omega (arith, j.many, room.short); long = omega (arith, j.many, room.long) })), p, q)

-- The frame has the room that other bytes of the same number had.
pub frame-as-long : (xs ys : List ℕ) → length xs ≡ length ys → (asked : Asked) (r : Res (Declarations × ℕ)) (d1 notes : List ℕ) (y : Result Reply PassError) (S S' T T' : List ℕ)
    → PassedTold asked r (FrameRoom d1 ys notes) y S S' T T' → PassedTold asked r (FrameRoom d1 xs notes) y S S' T T'
frame-as-long xs ys e asked r d1 notes (Ok reply) S S' T T' h = h
frame-as-long xs ys e asked r d1 notes (Err (first.Refused refusal)) S S' T T' h = h
frame-as-long xs ys e asked r d1 notes (Err first.NoRoom) S S' T T' (h, p, q) = ((λ room. h (record { bytes-long = omega (arith, e, room.bytes-long); notes-long = room.notes-long })), p, q)

-- What is lent, with other bytes as an entry is read where no look-up is left.
pub deepest-lent : {bytes d2 ends notes : List ℕ} {tables : Tables} {at : ℕ} → LentAt (lent_of bytes bytes d2 ends notes tables) at
    → (deepest : List ℕ) → DeepestOf bytes deepest (entries_in tables notes) tables.types → LentAt (lent_of bytes deepest d2 ends notes tables) at
deepest-lent w deepest d = record { opened = w.opened; sizes = w.sizes; deepest = d }
