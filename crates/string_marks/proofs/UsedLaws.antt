-- What a whole reading marks: of the decoded bytes, of d1, of any kind; and that these marks are what is told of an input.
-- Assumes nothing.
use mathlib.Core.Path.{◌≡◌, refl, ap, sym, subst, ◌∙◌}
use mathlib.Core.Logic.{◌⊎◌, inl, inr}
use mathlib.Core.Bool.{true, false}
use mathlib.Core.List.{List, [], ◌++◌}
use mathlib.Core.Option.{Option, none, some}
use Prim.Native.Nat.{ℕ, ◌*◌, ◌≤◌, ◌<◌}
use native.Mathlib.Omega.{arith}
use lib.Dec.{eqb}
use lib.ListN.{length, get_or, get_or-append, take, drop, replicate, length-append, length-drop, length-replicate}
use lib.Seq.{drop-append_seam}
use Rattle.std.proofs.lemmas.List.{get_or-replicate}
use Rattle.std.proofs.Common.{Result, Ok, Err}
use Rattle.foundation.specs.Choices.{if_some}
use Rattle.foundation.specs.Results as Results
use Rattle.foundation.specs.Results.{Cause, Res, ok, refused, sheet_too_long}
use Rattle.encoding.specs.Encoding.{unit_limit, decoded}
use Rattle.encoding.specs.told.Outcome as encoding
use Rattle.encoding.specs.declared.DecodeError.{DecodeError}
use Rattle.encoding.specs.declared.DecodeError.TheVariants as decode
use Rattle.encoding.proofs.OutcomeLaws.{decoded-told}
use Rattle.encoding.proofs.EncodingLaws.{decoded-length}
use Rattle.foundation.proofs.ResultLaws.{gives-ok}
use Rattle.names.specs.Names.{strings_from, d2_string}
use Rattle.declaration_rows.specs.Declarations.{Declarations}
use Rattle.schema.specs.Reading.{allowance}
use Rattle.schema.specs.Members.{after_table}
use Rattle.schema.specs.told.SchemaTold.{Lent, Scoped}
use Rattle.inputs.specs.Inputs.{Input, kind_of, carries_declarations, fault_of}
use Rattle.inputs.specs.Outcomes.{Answer}
use Rattle.inputs.specs.told.OutcomesTold.{told}
use Rattle.inputs.specs.declared.outcome.Refusal.{Refusal}
use Rattle.inputs.specs.declared.outcome.Refusal.TheVariants as why
use Rattle.declarations.specs.Payload.{payload}
use Rattle.declarations.specs.told.PayloadTold.{OpenedAt, LentAt, LentTold}
use Rattle.names.specs.declared.records.IndexError.{IndexError}
use Rattle.names.specs.declared.records.IndexError.TheVariants as index
use Rattle.lookup.specs.told.Strings.{codes_from}
use Rattle.declarations.proofs.PayloadLaws.{body-after}
use Rattle.passes.specs.Answered.{nothing_read}
use Rattle.passes.specs.told.AreaTold.{InLimits, Limited}
use Rattle.passes.specs.told.OpenedTold.{BytesJoined}
use Rattle.passes.specs.told.TaskTold.{sizes_of, RoomTold}
use Rattle.passes.specs.declared.Reply.{Reply}
use Rattle.metadata.specs.Read.{strings_of, reading_with, reading}
use Rattle.metadata.proofs.ReadLaws.{fault_kept}
use Rattle.promises.proofs.Accepted.{refusal_numbered}
use Rattle.strings.specs.FallsTo.{FallsTo, PassesBy}
use Rattle.strings.proofs.Agree.{Lookup, Asks, Leaves}
use Rattle.string_marks.specs.UsedStrings.{set_marks, UsedMarks, UsedBy, UsedStrings, too_few, all_marked}
use Rattle.string_marks.specs.told.UsedTold.{tells_used}
use Rattle.string_marks.specs.told.MarksTold.{AllMarked, scope_by, strings_in, MarksIn, BytesMarked, DecodedMarked, read_by, KindMarked}
use Rattle.string_marks.proofs.MarkLaws.{asks-alike, leaves-alike, refused-none}

many_zeros : (n : ℕ) → length (replicate {A = ℕ} n 0) ≡ n
many_zeros n = length-replicate n 0

-- Two readings that are the same by each look-up.
module _ {A : Type 0} (ss : List (List ℕ)) (r q : Lookup → Res A) (same : (s : Lookup) → r s ≡ q s) (u v : List ℕ) where
  one-alike : (n : ℕ) → (Asks ss n r × (get_or v n 0 ≡ 1)) ⊎ (Leaves ss n r × (get_or v n 0 ≡ get_or u n 0))
      → (Asks ss n q × (get_or v n 0 ≡ 1)) ⊎ (Leaves ss n q × (get_or v n 0 ≡ get_or u n 0))
  one-alike n (inl (k, w)) = inl (asks-alike ss r q same n k, w)
  one-alike n (inr (k, w)) = inr (leaves-alike ss r q same n k, w)

  all-alike : AllMarked ss r u v → AllMarked ss q u v
  all-alike h a e n b = one-alike n (h a (same (d2_string ss) ∙ e) n b)

-- The decoded bytes, by their body.
module _ (kind : ℕ) (e : Lent) (at : ℕ) (lent_at : LentAt e at) (limits : Limited e) where
  abbrev o : OpenedAt e.payload e.notes at e.tables
  o = lent_at.opened

  scoped : Scoped e (scope_by o.records o.is.table (d2_string (strings_in e)))
  scoped = record {
    names = record { strings = refl; fit = limits.fit; sizes = lent_at.sizes limits.fit; records = o.names };
    entries = o.is.noted;
    nullable = o.is.nullable;
    deepest = lent_at.deepest;
  }

  by-table : (s : Lookup) → after_table (eqb kind 1) (scope_by o.records o.is.table s) o.is.body allowance ≡ payload kind s e.payload
  by-table s =
      sym (body-after kind (record { records = o.records; d2 = s }) o.is.body allowance (o.is.reads allowance)) ∙ sym (o.opens kind s ∙ rw o.is.cuts)

  pub payload-marks : (u v : List ℕ) → MarksIn e at (drop at e.payload) (after_table (eqb kind 1)) u v → BytesMarked kind e.d2 e.ends e.payload u v
  payload-marks u v g =
      let m = g.is o.records o.is.table scoped o.is.body o.is.cuts in
      all-alike (strings_in e) (λ s. after_table (eqb kind 1) (scope_by o.records o.is.table s) o.is.body allowance) (λ s. payload kind s e.payload) by-table u v
      (λ a q n b. m.each allowance a.1 a.0 q n b)

-- Bytes that are joined, and of which the same is read.
module _ (kind : ℕ) (d2 ends : List ℕ) {before after : List ℕ} (j : BytesJoined before after) where
  pub joined-marks : (u v : List ℕ) → BytesMarked kind d2 ends after u v → BytesMarked kind d2 ends before u v
  joined-marks u v h =
      all-alike (strings_from 0 ends d2) (λ s. payload kind s after) (λ s. payload kind s before) (λ s. j.reads kind s) u v h

  pub joined_in : InLimits before d2 ends → InLimits after d2 ends
  joined_in k = record { bytes-short = omega (arith, k.bytes-short, j.many); d2-short = k.d2-short; fit = k.fit }

  pub unopened-marks : (notes : List ℕ) (error : IndexError) → LentTold after d2 ends notes (Err error) → InLimits before d2 ends
      → {n : ℕ} → length notes ≡ n → 3 * length before ≤ 2 * codes_from n → (u v : List ℕ) → BytesMarked kind d2 ends before u v
  unopened-marks notes index.NoRoom t k {n} g l u v a q = absurd (t (record { short = omega (arith, k.bytes-short, j.many); long = rw (g, j.many) l }))
  unopened-marks notes (index.Wire error) t k g l u v a q =
      refused-none (t kind (d2_string (strings_from 0 ends d2))) (j.reads kind (d2_string (strings_from 0 ends d2)) ∙ q)

-- d1, by its bytes.
module _ (kind : ℕ) (d1 d2 ends before after : List ℕ) (answer : encoding.Decoded) (t : encoding.DecodeTold (encoding.limited d1) before after answer)
    (short : length d1 ≤ unit_limit) (room : length d1 ≤ length before) where
  tells : {x : encoding.Decoded} → answer ≡ x → encoding.tells x after ≡ some (decoded d1)
  tells q = ap (λ (r : encoding.Decoded). encoding.tells r after) (sym q) ∙ decoded-told d1 before after answer t short room

  pub decoded-marks : {n : ℕ} → answer ≡ Ok n → (u v : List ℕ) → BytesMarked kind d2 ends (take n after) u v → DecodedMarked kind d1 d2 ends u v
  decoded-marks {n} q u v h =
      let e : ok (take n after) ≡ decoded d1 = some_same (tells q) in
      all-alike (strings_from 0 ends d2) (λ s. payload kind s (take n after)) (λ s. Results.◌>>=◌ (decoded d1) (payload kind s))
      (λ s. ap (λ (x : Res (List ℕ)). Results.◌>>=◌ x (payload kind s)) e) u v h
    where
      some_same : {A : Type 0} {a b : A} → some a ≡ some b → a ≡ b
      some_same z = cc

  -- the bytes are no more than d1 has units, so that notes for a longer d1 are enough
  pub decoded-kept : {n : ℕ} → answer ≡ Ok n → InLimits d1 d2 ends → (units words : ℕ) → length d1 ≤ units → 3 * units ≤ words
      → InLimits (take n after) d2 ends × (3 * length (take n after) ≤ words)
  decoded-kept {n} q k units words g h =
      let e : decoded d1 ≡ ok (take n after) = ok_is (tells q) in
      let few = gives-ok (λ (bytes : List ℕ). length bytes ≤ length d1) e (decoded-length d1) in
      (record { bytes-short = omega (arith, few, k.bytes-short); d2-short = k.d2-short; fit = k.fit }, omega (arith, few, g, h))
    where
      ok_is : {x : Res (List ℕ)} → some (ok (take n after)) ≡ some x → x ≡ ok (take n after)
      ok_is z = cc

  pub undecoded-marks : (error : DecodeError) → answer ≡ Err error → (u v : List ℕ) → DecodedMarked kind d1 d2 ends u v
  undecoded-marks error q u v a f = go error (tells q) (decoded d1) refl f
    where
      go : {C : Type 0} (error : DecodeError) → encoding.tells (Err error) after ≡ some (decoded d1) → (x : Res (List ℕ)) → decoded d1 ≡ x
          → Results.◌>>=◌ x (payload kind (d2_string (strings_from 0 ends d2))) ≡ ok a → C
      go error z (refused c p) w f = let y : ◌≡◌ {A = ℕ} 0 1 = cc in absurd (omega arith)
      go decode.TooLong z (ok bytes) w f = let y : ◌≡◌ {A = ℕ} 0 1 = cc in absurd (omega arith)
      go decode.Empty z (ok bytes) w f = let y : ◌≡◌ {A = ℕ} 0 1 = cc in absurd (omega arith)
      go (decode.NotAByte unit) z (ok bytes) w f = let y : ◌≡◌ {A = ℕ} 0 1 = cc in absurd (omega arith)
      go decode.NoRoom z (ok bytes) w f = let y : ◌≡◌ {A = ℕ} 0 1 = cc in absurd (omega arith)

-- A kind that carries declarations, and one that doesn't.
module _ (kind : ℕ) (d1 d2 ends : List ℕ) (u : List ℕ) where
  pub carrying-marks : carries_declarations kind ≡ true → (v : List ℕ) → DecodedMarked kind d1 d2 ends u v → KindMarked kind d1 d2 ends u v
  carrying-marks q v h =
      all-alike (strings_from 0 ends d2) (λ s. Results.◌>>=◌ (decoded d1) (payload kind s)) (read_by kind d1) (λ s. rw q) u v h

  pub bare-marks : carries_declarations kind ≡ false → KindMarked kind d1 d2 ends u u
  unfolding Leaves
  bare-marks q =
      all-alike (strings_from 0 ends d2) (λ s. nothing_read) (read_by kind d1) (λ s. rw q) u u (same nothing_read)
    where
      same : (r : Res (Declarations × ℕ)) → AllMarked (strings_from 0 ends d2) (λ s. r) u u
      same r a e n b = inr ((λ c p. refl), refl)

-- What is measured of an input that is refused,
pub refused-used : (i : Input) (r : Result Reply Refusal) → RoomTold (kind_of i.k) (reading i) r → {x : Refusal} → r ≡ Err x → (u : List ℕ) → UsedStrings i u u (tells_used (Err x))
unfolding UsedStrings
refused-used i r t {x} n u = go (reading i) t
  where
    go : (z : Res (Declarations × ℕ)) → RoomTold (kind_of i.k) z r → UsedBy z i u u (tells_used (Err x))
    go (ok read) m = let e = m.1 in let y : ◌≡◌ {A = ℕ} 0 1 = cc in absurd (omega arith)
    go (refused c place) h =
        let e = h [] [] ∙ ap (λ (y : Result Reply Refusal). told (sizes_of y) [] []) n in
        (sym (ap (λ (a : Answer). record { number = a.number; detail = a.detail; count = 0 }) e), refl)

-- and of one that is accepted.
pub accepted-read : (i : Input) (r : Result Reply Refusal) → RoomTold (kind_of i.k) (reading i) r → {x : Reply} → r ≡ Ok x → (read : Declarations × ℕ) × (reading i ≡ ok read)
accepted-read i r t {x} n = go (reading i) refl t
  where
    go : (z : Res (Declarations × ℕ)) → reading i ≡ z → RoomTold (kind_of i.k) z r → (read : Declarations × ℕ) × (reading i ≡ ok read)
    go (ok read) e m = (read, e)
    go (refused c place) e h =
        let f = ap (λ (a : Answer). a.number) (h [] [] ∙ ap (λ (y : Result Reply Refusal). told (sizes_of y) [] []) n) in
        absurd (omega (arith, refusal_numbered c, f))

module _ (i : Input) (read : Declarations × ℕ) (e : reading i ≡ ok read) where
  no_fault : fault_of i ≡ none
  unfolding reading
  no_fault = go (fault_of i) _ e
    where
      go : (o : Option Cause) (x : Res (Declarations × ℕ)) → if_some o x (λ c. refused c 0) ≡ ok read → o ≡ none
      go none x q = refl
      go (some c) x q = let y : ◌≡◌ {A = ℕ} 0 1 = cc in absurd (omega arith)

  pub in_limits : InLimits i.d1 i.d2 i.ends
  in_limits = fault_kept i no_fault

  -- too few places
  pub few-used : (u : List ℕ) → length u < length i.ends → UsedStrings i u u (tells_used (Err why.SheetTooLong))
  unfolding UsedStrings
  few-used u h = subst (λ (z : Res (Declarations × ℕ)). UsedBy z i u u (tells_used (Err why.SheetTooLong))) (sym e) (too_few h refl refl)

  -- the marks, and how many there are
  by_kind : (s : Lookup) → read_by (kind_of i.k) i.d1 s ≡ reading_with s i
  by_kind s = rw no_fault

  module _ (u m : List ℕ) (enough : length i.ends ≤ length u) (as_many : length m ≡ length i.ends) (h : KindMarked (kind_of i.k) i.d1 i.d2 i.ends (replicate (length i.ends) 0) m) where
    one_used : (n : ℕ) → n < length i.ends
        → (Asks (strings_of i) n (λ s. reading_with s i) × (get_or m n 0 ≡ 1)) ⊎ (Leaves (strings_of i) n (λ s. reading_with s i) × (get_or m n 0 ≡ get_or (replicate (length i.ends) 0) n 0))
        → (FallsTo i n × (get_or (m ++ drop (length i.ends) u) n 0 ≡ 1)) ⊎ (PassesBy i n × (get_or (m ++ drop (length i.ends) u) n 0 ≡ 0))
    unfolding FallsTo PassesBy Asks Leaves reading
    one_used n b (inl (k, w)) = inl (k, get_or-append m (drop (length i.ends) u) 0 n (omega (arith, b, as_many)) ∙ w)
    one_used n b (inr (k, w)) = inr (k, get_or-append m (drop (length i.ends) u) 0 n (omega (arith, b, as_many)) ∙ (w ∙ get_or-replicate (length i.ends) n 0 0 b))

    marks-are : UsedMarks i u (m ++ drop (length i.ends) u)
    unfolding reading
    marks-are = record {
      many = omega (arith, length-append m (drop (length i.ends) u), length-drop (length i.ends) u, enough, as_many);
      each = λ n b.
          one_used n b
          (all-alike (strings_of i) (read_by (kind_of i.k) i.d1) (λ s. reading_with s i) by_kind (replicate (length i.ends) 0) m h read e n (subst (λ (k : ℕ). n < k) (sym (many_zeros (length i.ends))) b));
      rest = rw (← as_many) (drop-append_seam m (drop (length m) u));
    }

    told-marks : {count : ℕ} → count ≡ set_marks (take (length i.ends) (m ++ drop (length i.ends) u)) → UsedStrings i u (m ++ drop (length i.ends) u) (tells_used (Ok count))
    unfolding UsedStrings
    told-marks {count} q =
        subst (λ (z : Res (Declarations × ℕ)). UsedBy z i u (m ++ drop (length i.ends) u) (tells_used (Ok count))) (sym e)
        (all_marked enough marks-are (ap (λ (n : ℕ). record { number = 0; detail = 0; count = n }) q))

  -- The marks of an input's kind in as many places as there are strings, and how many there are.
  pub marked-used : (u m : List ℕ) → length i.ends ≤ length u → {kind : ℕ} → kind ≡ kind_of i.k → {n : ℕ} → n ≡ length i.ends → length m ≡ n
      → KindMarked kind i.d1 i.d2 i.ends (replicate n 0) m → {count : ℕ} → count ≡ set_marks (take (length i.ends) (m ++ drop (length i.ends) u))
      → UsedStrings i u (m ++ drop (length i.ends) u) (tells_used (Ok count))
  marked-used u m enough {kind} p {n} q as_many h c =
      told-marks u m enough (as_many ∙ q)
      (subst (λ (k : ℕ). KindMarked k i.d1 i.d2 i.ends (replicate (length i.ends) 0) m) p
      (subst (λ (k : ℕ). KindMarked kind i.d1 i.d2 i.ends (replicate k 0) m) q h)) c
