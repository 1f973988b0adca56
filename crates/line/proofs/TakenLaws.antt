-- Bytes taken piece after piece: the counts are those of all of them, and the beginning stays what it was.
-- Assumes nothing.
use mathlib.Core.Path.{◌≡◌, refl, sym, ap, subst, ◌∙◌}
use mathlib.Core.List.{List, [], ◌∷◌, ◌++◌, append-nil, append_assoc}
use Prim.Native.Nat.{ℕ, zero, suc, ◌^◌, ◌≤◌, ◌<◌}
use native.Mathlib.Nat.{zero-add}
use native.Mathlib.Omega.{arith}
use lib.ListN.{length, get_or, take, length-append}
use lib.Seq.{take-append-le, length-take-le, take_all}
use Rattle.std.specs.Prelude.{Option}
use Rattle.std.specs.Io.KnownBytes.{Consumes}
use Rattle.std.proofs.KnownBytes.{Consumes-nil, Consumes-trans}
use Rattle.line.specs.declared.stream.Taken.{Taken}
use Rattle.line.specs.Input.{d1_count, d2_count, ends_count, counts_of, d2_place, ends_place}
use Rattle.line.specs.told.Pieces.{CountsFit}
use Rattle.line.specs.told.Taken.{kept_limit, SoFar, Took, PieceRead, PassedOver, Went, PieceGiven, PassedGiven, WentGiven, TookGiven}
use Rattle.line.proofs.InputLaws.{counts-append, counts_none, number-below}

-- a part of bytes is bytes
pub bytes_take : (n : ℕ) (bs : List ℕ) → ((i : ℕ) → get_or bs i 0 < 256) → (i : ℕ) → get_or (take n bs) i 0 < 256
bytes_take zero bs h i = omega arith
bytes_take (suc n) [] h i = omega arith
bytes_take (suc n) (b ∷ bs) h zero = h zero
bytes_take (suc n) (b ∷ bs) h (suc i) = bytes_take n bs (λ j. h (suc j)) i

-- bytes after bytes
pub bytes-append : (p q : List ℕ) → ((i : ℕ) → get_or p i 0 < 256) → ((i : ℕ) → get_or q i 0 < 256) → (i : ℕ) → get_or (p ++ q) i 0 < 256
bytes-append [] q h k i = k i
bytes-append (b ∷ p) q h k zero = h zero
bytes-append (b ∷ p) q h k (suc i) = bytes-append p q (λ j. h (suc j)) k i

d1-below : (bs : List ℕ) → ((i : ℕ) → get_or bs i 0 < 256) → d1_count bs < 2 ^ 32
unfolding d1_count
d1-below bs h = number-below 4 bs 16 h

d2-below : (bs : List ℕ) → ((i : ℕ) → get_or bs i 0 < 256) → d2_count bs < 2 ^ 32
unfolding d2_count
d2-below bs h = number-below 4 bs (d2_place (d1_count bs)) h

ends-below : (bs : List ℕ) → ((i : ℕ) → get_or bs i 0 < 256) → ends_count bs < 2 ^ 32
unfolding ends_count
ends-below bs h = number-below 4 bs (ends_place (d1_count bs) (d2_count bs)) h

-- counts of bytes fit in 4 of them
pub counts-fit : {bs : List ℕ} {t : Taken} → SoFar bs t → CountsFit t.counts
counts-fit {bs} {t} s = subst CountsFit (sym s.counts) (fit bs s.bytes)
  where
    fit : (bs : List ℕ) → ((i : ℕ) → get_or bs i 0 < 256) → CountsFit (counts_of bs)
    fit bs h = (d1-below bs h, d2-below bs h, ends-below bs h)

-- a piece after what was taken
pub piece-after : {bs area : List ℕ} {t r : Taken} (p : PieceRead area t r) → SoFar bs t → SoFar (bs ++ take p.size area) r
piece-after {bs} {area} {t} {r} p s = record {
  bytes = bytes-append bs (take p.size area) s.bytes p.bytes;
  total = p.total ∙ rw (length-append bs (take p.size area), length-take-le p.size area p.within, s.total);
  counts = p.counts ∙ rw (s.total, s.counts) (counts-append bs (take p.size area));
}

pub went_none : (t : Taken) → Went t t
went_none t = record { more = []; after = λ bs s. subst (λ (l : List ℕ). SoFar l t) (sym (append-nil bs)) s; kept = refl }

pub went_on : {t u r : Taken} {room : ℕ} → Went t u → PassedOver room u r → Went t r
went_on {t} {u} {r} w p =
    let q = p.piece in
    record {
      more = w.more ++ take q.size p.area;
      after = λ bs s. subst (λ (l : List ℕ). SoFar l r) (append_assoc bs w.more (take q.size p.area)) (piece-after q (w.after bs s));
      kept = q.kept ∙ w.kept;
    }

-- the first piece, which is kept
abbrev pub nothing : Taken
nothing = record { counts = record { d1 = 0; d2 = 0; ends = 0 }; total = 0; kept = 0 }

pub default_nothing : (t : Taken) → ((t.counts.d1 ≡ 0) × ((t.counts.d2 ≡ 0) × (t.counts.ends ≡ 0))) × ((t.total ≡ 0) × (t.kept ≡ 0)) → t ≡ nothing
default_nothing t h = zeros t.counts.d1 t.counts.d2 t.counts.ends t.total t.kept h.0.0 h.0.1.0 h.0.1.1 h.1.0 h.1.1
  where
    zeros : (d1 d2 ends total kept : ℕ) → d1 ≡ 0 → d2 ≡ 0 → ends ≡ 0 → total ≡ 0 → kept ≡ 0
        → ◌≡◌ {A = Taken} (record { counts = record { d1 = d1; d2 = d2; ends = ends }; total = total; kept = kept }) nothing
    zeros d1 d2 ends total kept a b c d e = rw (a, b, c, d, e)

abbrev pub all_kept : Taken → Taken
all_kept t = record { counts = t.counts; total = t.total; kept = t.total }

none_so_far : SoFar [] nothing
none_so_far = record { bytes = λ i. omega arith; total = refl; counts = sym counts_none }

pub first-so_far : {part : List ℕ} {r : Taken} (p : PieceRead part nothing r) → SoFar (take p.size part) (all_kept r)
first-so_far p =
    let s = piece-after p none_so_far in
    record { bytes = s.bytes; total = s.total; counts = s.counts }

pub took_first : (part tail : List ℕ) {r : Taken} (p : PieceRead part nothing r) → length part ≤ kept_limit → Took (take p.size part) (part ++ tail) (all_kept r)
took_first part tail {r} p h =
    let n : r.total ≡ p.size = p.total ∙ zero-add p.size in
    let short : length (take p.size part) ≤ kept_limit = rw (length-take-le p.size part p.within) (omega (arith, p.within)) in
    record {
      so_far = first-so_far p;
      inside = rw (n, length-append part tail) (omega (arith, p.within));
      begins = ap (λ (k : ℕ). take k (part ++ tail)) n ∙ take-append-le p.size part tail p.within ∙ sym (take_all kept_limit (take p.size part) short);
    }

-- and what comes after it
pub took_rest : {bs area : List ℕ} {t r : Taken} → Took bs area t → kept_limit ≤ length bs → (w : Went t r) → Took (bs ++ w.more) area r
took_rest {bs} {area} a h w = record {
  so_far = w.after bs a.so_far;
  inside = rw w.kept a.inside;
  begins = ap (λ (k : ℕ). take k area) w.kept ∙ a.begins ∙ sym (take-append-le kept_limit bs w.more h);
}

-- the reader's part: what it gave, one after the other
pub gave_none : (known : Option (List ℕ)) (t : Taken) → WentGiven known known t t
unfolding went_none
gave_none known t = record { went = went_none t; given = Consumes-nil known }

module _ {known left now : Option (List ℕ)} {room : ℕ} {t u r : Taken} (w : WentGiven known left t u) (p : PassedGiven left now room u r) where
  gave : Consumes known now (w.went.more ++ take p.over.piece.size p.over.area)
  gave = Consumes-trans known left now w.went.more (take p.over.piece.size p.over.area) w.given p.given

  pub gave_on : WentGiven known now t r
  unfolding went_on
  gave_on = record { went = went_on w.went p.over; given = gave }

  -- a piece of no bytes is the end
  pub gave_end : r.total ≡ u.total → WentGiven known now t u
  gave_end e =
      let z : p.over.piece.size ≡ 0 = omega (arith, p.over.piece.total) in
      let n : w.went.more ++ take p.over.piece.size p.over.area ≡ w.went.more = rw z (append-nil w.went.more) in
      record { went = w.went; given = subst (Consumes known now) n gave }

module _ {known left : Option (List ℕ)} (part tail : List ℕ) {r : Taken} (p : PieceGiven known left part nothing r) (h : length part ≤ kept_limit) where
  pub gave_first : TookGiven known left (part ++ tail) (all_kept r)
  gave_first = record { took = (take p.piece.size part, took_first part tail p.piece h); given = p.given }

  pub gave_rest : kept_limit ≤ r.total → {now : Option (List ℕ)} {s : Taken} → WentGiven left now (all_kept r) s → TookGiven known now (part ++ tail) s
  gave_rest k {now} w =
      let bs = take p.piece.size part in
      let first = took_first part tail p.piece h in
      record {
        took = (bs ++ w.went.more, took_rest first (omega (arith, first.so_far.total)) w.went);
        given = Consumes-trans known left now bs w.went.more p.given w.given;
      }
