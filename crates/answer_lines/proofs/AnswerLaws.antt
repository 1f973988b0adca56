-- The line of the reader's answer, for whatever bytes were read.
-- Assumes nothing.
use mathlib.Core.Path.{◌≡◌, refl, sym, ap, subst, ◌∙◌}
use mathlib.Core.Bool.{false}
use mathlib.Core.List.{List, [], ◌∷◌, ◌++◌}
use mathlib.Core.Option.{Option, some, none}
use Prim.Native.Nat.{ℕ, ◌+◌, ◌-◌, ◌^◌, ◌≤◌, ◌<◌, min}
use native.Mathlib.Nat.{zero-add}
use native.Mathlib.Omega.{arith}
use borrow.Author.Tests.{le-leb, lt-leb, ltb-false}
use lib.Dec.{ltb}
use lib.IntN.{ℤ}
use mir.Syntax.{w32}
use mir.Val.{to_z, of_z}
use Rattle.std.specs.Prelude as Std
use Rattle.line.proofs.InputLaws.{number-below}
use Rattle.line.proofs.OutputLaws.{decimal-short, part_length}
use Rattle.line.proofs.SignedLaws.{signed_back}
use lib.ListN.{length, get_or, take, drop, replicate, length-append, length-replicate}
use lib.Seq.{sets, take-append-le, take_all, length-take-le}
use Rattle.foundation.specs.Choices.{if_some}
use Rattle.foundation.proofs.ChoiceLaws.{if_ind}
use Rattle.foundation.proofs.OverlayLaws.{sets_front}
use Rattle.foundation.specs.Results.{Cause, Res, ok, refused, sheet_too_long, text_too_long}
use Rattle.foundation.specs.Texts.{ascii}
use Rattle.sheet.specs.Rows.{Row, sheet_from, texts}
use Rattle.declaration_rows.specs.Declarations.{Declarations}
use Rattle.schema.specs.Reading.{allowance}
use Rattle.inputs.specs.Inputs.{Input, kind_of, input}
use Rattle.inputs.specs.Outcomes as R
use Rattle.inputs.specs.Outcomes.{refusal}
use Rattle.declarations.specs.Payload.{declaration_rows}
use Rattle.passes.specs.Answered.{answered, written, sheet_written, accepted, text_limit}
use Rattle.metadata.specs.Read.{read, reading}
use Rattle.inputs.specs.Refusals.{number_of, detail_of}
use Rattle.inputs.specs.told.OutcomesTold.{refusal_cause, refusal_place, told}
use Rattle.inputs.specs.declared.outcome.Sizes.{Sizes}
use Rattle.inputs.specs.declared.outcome.Refusal.{Refusal}
use Rattle.line.specs.declared.input.Counts.{Counts}
use Rattle.line.specs.declared.stream.Taken.{Taken}
use Rattle.line.specs.Input.{d1_place, d2_place, ends_place, number_at, numbers_at, signed_of, counts_of, input_end, input_of, whole_input}
use Rattle.line.specs.Line.{decimal, part_of, line_of}
use Rattle.line.specs.Wrote.{Wrote}
use Rattle.line.specs.told.Taken.{SoFar, kept_limit, TookGiven}
use Rattle.answer_lines.specs.Program.{answer_line, printed, zeros, WroteGiven}
use Rattle.answer_lines.specs.told.LineTold.{kept_input, input_with, version_at, WroteRead, WroteKept, WrotePrinted}
use Rattle.answer_lines.proofs.KeptLaws.{length_numbers, read_kept}

-- the lengths that an answer tells lie in its areas, and in those that were lent
pub record LengthsInside (S T : List ℕ) (a : R.Answer) : Type 0 where
  pub sheet_in : a.sheet_length ≤ length a.sheet
  pub text_in : a.text_length ≤ length a.text
  pub sheet_lent : a.sheet_length ≤ length S
  pub text_lent : a.text_length ≤ length T

refused-inside : (S T : List ℕ) (c : Cause) (place : ℕ) → LengthsInside S T (refusal S T c place)
refused-inside S T c place = record { sheet_in = omega arith; text_in = omega arith; sheet_lent = omega arith; text_lent = omega arith }

accepted-inside : (S T s t : List ℕ) (n : ℕ) → length s ≤ length S → length t ≤ length T → LengthsInside S T (accepted S T s t n)
accepted-inside S T s t n h k = record {
  sheet_in = omega (arith, length-append s (drop (length s) S));
  text_in = omega (arith, length-append t (drop (length t) T));
  sheet_lent = h;
  text_lent = k;
}

sheet-inside : (S T : List ℕ) (rows : List Row) (n : ℕ) → length (texts rows) ≤ length T → LengthsInside S T (sheet_written S T rows n)
unfolding sheet_written
sheet-inside S T rows n k =
    if_ind (LengthsInside S T) (ltb (length S) (length (sheet_from 0 rows))) {y = accepted S T (sheet_from 0 rows) (texts rows) n}
    (λ t. refused-inside S T sheet_too_long 0) λ t. accepted-inside S T (sheet_from 0 rows) (texts rows) n (ltb-false _ _ t) k

written-inside : (S T : List ℕ) (rows : List Row) (n : ℕ) → LengthsInside S T (written S T rows n)
unfolding written
written-inside S T rows n =
    if_ind (LengthsInside S T) (ltb (min (length T) text_limit) (length (texts rows))) {y = sheet_written S T rows n}
    (λ t. refused-inside S T text_too_long 0) λ t. sheet-inside S T rows n (fits t)
  where
    fits : ltb (min (length T) text_limit) (length (texts rows)) ≡ false → length (texts rows) ≤ length T
    fits t =
        let h : length (texts rows) ≤ min (length T) text_limit = ltb-false _ _ t in
        omega arith

answered-inside : (S T : List ℕ) (kind : ℕ) (r : Res (Declarations × ℕ)) → LengthsInside S T (answered S T kind r)
answered-inside S T kind (refused c p) = refused-inside S T c p
answered-inside S T kind (ok r) = written-inside S T (declaration_rows kind r.0) (allowance - r.1)

pub read-inside : (S T : List ℕ) (i : Input) → LengthsInside S T (read S T i)
unfolding read
read-inside S T i = answered-inside S T (kind_of i.k) (reading i)

-- numbers that were stored, taken out again
pub numbers_stored : (w : ℕ) (bs : List ℕ) (at n r : ℕ) (S S' : List ℕ) → r ≡ min n (length S) → S' ≡ sets S 0 (numbers_at w bs at r)
    → take r S' ≡ numbers_at w bs at (min n (length S))
numbers_stored w bs at n r S S' e f =
    let l : length (numbers_at w bs at r) ≡ r = length_numbers w bs at r in
    let h : length (numbers_at w bs at r) ≤ length S = omega arith in
    ap (take r) (f ∙ sets_front (numbers_at w bs at r) S h)
    ∙ take-append-le r (numbers_at w bs at r) _ (omega arith)
    ∙ take_all r (numbers_at w bs at r) (omega arith)
    ∙ ap (numbers_at w bs at) e

pub stored_length : (w : ℕ) (bs : List ℕ) (at n r : ℕ) (S S' : List ℕ) → r ≡ min n (length S) → S' ≡ sets S 0 (numbers_at w bs at r)
    → r ≡ length (take r S')
stored_length w bs at n r S S' e f =
    sym (ap length (numbers_stored w bs at n r S S' e f) ∙ length_numbers w bs at (min n (length S)) ∙ sym e)

-- what is printed
module _ (S T bs : List ℕ) (t : Taken) (s : SoFar bs t) where
  given-short : t.total < input_end t.counts → whole_input bs ≡ none
  unfolding whole_input
  given-short h =
      let k : length bs < input_end (counts_of bs) = let e : input_end t.counts ≡ input_end (counts_of bs) = ap input_end s.counts in omega (arith, e, s.total) in
      rw (lt-leb (input_end (counts_of bs)) (length bs) k)

  pub printed-short : t.total < input_end t.counts → printed S T bs ≡ ascii "input\n"
  unfolding printed
  printed-short h = rw (given-short h)

  given-whole : input_end t.counts ≤ t.total → whole_input bs ≡ some (input_of bs)
  unfolding whole_input
  given-whole h =
      let k : input_end (counts_of bs) ≤ length bs = let e : input_end t.counts ≡ input_end (counts_of bs) = ap input_end s.counts in omega (arith, e, s.total) in
      rw (le-leb (input_end (counts_of bs)) (length bs) k)

  pub printed-whole : input_end t.counts ≤ t.total → printed S T bs ≡ answer_line (read S T (kept_input (take kept_limit bs) t.counts))
  unfolding printed
  printed-whole h =
      rw (given-whole h) (ap answer_line (sym (read_kept S T bs)) ∙ ap (λ c. answer_line (read S T (kept_input (take kept_limit bs) c))) (sym s.counts))

pub wrote_short : (bs : List ℕ) (t : Taken) → SoFar bs t → t.total < input_end t.counts → {S S' : List ℕ} → S' ≡ sets S 0 (ascii "input\n")
    → Wrote (printed zeros zeros bs) 0 6 S S'
wrote_short bs t s h {S} e =
    let p : ascii "input\n" ≡ printed zeros zeros bs = sym (printed-short zeros zeros bs t s h) in
    record { ends = ap length p ∙ sym (zero-add _); area = e ∙ ap (sets S 0) p }

pub wrote_whole : (bs : List ℕ) (t : Taken) → SoFar bs t → input_end t.counts ≤ t.total → {kept : List ℕ} → kept ≡ take kept_limit bs
    → {r : ℕ} {S S' : List ℕ} → WroteKept kept t.counts r S S' → Wrote (printed zeros zeros bs) 0 r S S'
wrote_whole bs t s h {kept} e {r} {S} {S'} w =
    let p : printed zeros zeros bs ≡ answer_line (read zeros zeros (kept_input (take kept_limit bs) t.counts)) = printed-whole zeros zeros bs t s h in
    subst (λ (l : List ℕ). Wrote l 0 r S S') (sym p) (subst (λ (k : List ℕ). WroteKept k t.counts r S S') e w)

-- what the entry answers lies in the areas
pub entry_inside : (S T : List ℕ) (i : Input) (o : Std.Result Sizes Refusal) (S' T' : List ℕ) → read S T i ≡ told o S' T' → LengthsInside S T (told o S' T')
entry_inside S T i o S' T' e = subst (LengthsInside S T) e (read-inside S T i)

-- the same of sizes that are known
pub sizes_inside : (S T : List ℕ) (i : Input) (o : Std.Result Sizes Refusal) {S' T' : List ℕ} → read S T i ≡ told o S' T' → {sizes : Sizes}
    → o ≡ Std.Ok sizes → LengthsInside S T (told (Std.Ok sizes) S' T')
sizes_inside S T i o {S'} {T'} e f = subst (λ (x : Std.Result Sizes Refusal). LengthsInside S T (told x S' T')) f (entry_inside S T i o S' T' e)

-- what was taken from the bytes kept is what the counts announce
pub numbers_kept : (w : ℕ) (bs : List ℕ) (at at' n m r : ℕ) (S S' : List ℕ) → at ≡ at' → length S ≡ m → r ≡ min n (length S)
    → S' ≡ sets S 0 (numbers_at w bs at r) → take r S' ≡ numbers_at w bs at' (min n m)
numbers_kept w bs at at' n m r S S' p q e f =
    numbers_stored w bs at n r S S' e f ∙ ap (λ (k : ℕ). numbers_at w bs k (min n (length S))) p ∙ ap (λ (k : ℕ). numbers_at w bs at' (min n k)) q

pub wrote_kept : (kept : List ℕ) (c : Counts) {d1 d2 ends : List ℕ} {r : ℕ} {S S' : List ℕ}
    → d1 ≡ numbers_at 2 kept (d1_place + 4) (min c.d1 32769)
    → d2 ≡ numbers_at 2 kept (d2_place c.d1 + 4) (min c.d2 32769)
    → ends ≡ numbers_at 4 kept (ends_place c.d1 c.d2 + 4) (min c.ends 4097)
    → WroteRead kept d1 d2 ends r S S' → WroteKept kept c r S S'
wrote_kept kept c {d1} {d2} {ends} {r} {S} {S'} p q u w =
    subst (λ (l : List ℕ). WroteRead kept l (numbers_at 2 kept (d2_place c.d1 + 4) (min c.d2 32769)) (numbers_at 4 kept (ends_place c.d1 c.d2 + 4) (min c.ends 4097)) r S S') p
    (subst (λ (l : List ℕ). WroteRead kept d1 l (numbers_at 4 kept (ends_place c.d1 c.d2 + 4) (min c.ends 4097)) r S S') q
    (subst (λ (l : List ℕ). WroteRead kept d1 d2 l r S S') u w))

abbrev pub blank : ℕ → List ℕ
blank n = replicate n 0

pub zeros-length : (n : ℕ) → length (blank n) ≡ n
zeros-length n = length-replicate n 0

-- a part of an area of that size is short
pub part-short : (n : ℕ) (xs : List ℕ) → n ≤ length xs → length xs ≡ length (blank 65536) → length (take n xs) < 2 ^ 50
part-short n xs h e = omega (arith, length-take-le n xs h, zeros-length 65536)

pub zeros-are : blank 65536 ≡ zeros
unfolding zeros
zeros-are = refl

-- the line of the answer, from the entry's outcome and the line that was put
module _ (kept d1 d2 ends S' T' : List ℕ) {S T : List ℕ} {k : ℤ} {version : List ℤ} {o : Std.Result Sizes Refusal}
    (h : read S T (input k version d1 d2 ends) ≡ told o S' T')
    (p : k ≡ signed_of (number_at 4 kept 0)) (q : version ≡ version_at kept) (u : S ≡ zeros) (v : T ≡ zeros)
    {n : ℕ} {A A' : List ℕ}
  where
    wrote_outcome : (x : Std.Result Sizes Refusal) → o ≡ x → Wrote (answer_line (told x S' T')) 0 n A A' → WroteRead kept d1 d2 ends n A A'
    wrote_outcome x f w =
        let i : input k version d1 d2 ends ≡ input_with kept d1 d2 ends = rw (p, q) in
        let e : read S T (input k version d1 d2 ends) ≡ read zeros zeros (input_with kept d1 d2 ends) =
        ap (λ (x : List ℕ). read x T (input k version d1 d2 ends)) u
        ∙ ap (λ (x : List ℕ). read zeros x (input k version d1 d2 ends)) v
        ∙ ap (read zeros zeros) i in
        let told_is = h ∙ ap (λ (x : Std.Result Sizes Refusal). told x S' T') f in
        subst (λ (l : List ℕ). Wrote l 0 n A A') (sym (ap answer_line told_is) ∙ ap answer_line e) w

    pub wrote_read : {sizes : Sizes} → o ≡ Std.Ok sizes → Wrote (line_of 0 0 (take sizes.sheet S') (take sizes.text T')) 0 n A A'
        → WroteRead kept d1 d2 ends n A A'
    wrote_read {sizes} f w = wrote_outcome (Std.Ok sizes) f w

    pub wrote_refused : {x : Refusal} → o ≡ Std.Err x → {c : ℕ × ℕ} → c ≡ (number_of (refusal_cause x), detail_of (refusal_cause x) (refusal_place x))
        → Wrote (line_of c.0 c.1 [] []) 0 n A A' → WroteRead kept d1 d2 ends n A A'
    wrote_refused {x} f e w = wrote_outcome (Std.Err x) f (subst (λ (y : ℕ × ℕ). Wrote (line_of y.0 y.1 [] []) 0 n A A') e w)

-- signed numbers are handed on as bits
module _ (kept : List ℕ) (bytes : (i : ℕ) → get_or kept i 0 < 256) where
  pub signed-handed : (at : ℕ) {z : ℤ} → z ≡ signed_of (number_at 4 kept at) → to_z w32 (of_z w32 z) ≡ signed_of (number_at 4 kept at)
  signed-handed at e = signed_back (number_at 4 kept at) e refl (number-below 4 kept at bytes)

  pub version-handed : {a b c : ℤ} → a ≡ signed_of (number_at 4 kept 4) → b ≡ signed_of (number_at 4 kept 8) → c ≡ signed_of (number_at 4 kept 12)
      → to_z w32 (of_z w32 a) ∷ to_z w32 (of_z w32 b) ∷ to_z w32 (of_z w32 c) ∷ [] ≡ version_at kept
  version-handed p q r = three (signed-handed 4 p) (signed-handed 8 q) (signed-handed 12 r)
    where
      three : {a a' b b' c c' : ℤ} → a ≡ a' → b ≡ b' → c ≡ c' → a ∷ b ∷ c ∷ [] ≡ a' ∷ b' ∷ c' ∷ []
      three p q r = rw (p, q, r)

-- the longest line
line-length : (number detail : ℕ) (sheet text : List ℕ) → length sheet ≤ 65536 → length text ≤ 65536 → length (line_of number detail sheet text) ≤ 262190
unfolding line_of
line-length number detail sheet text h k =
    let e = length-append (decimal number) (0x20 ∷ (decimal detail ++ (part_of sheet ++ (part_of text ++ (0x0a ∷ []))))) in
    let f = length-append (decimal detail) (part_of sheet ++ (part_of text ++ (0x0a ∷ []))) in
    let g = length-append (part_of sheet) (part_of text ++ (0x0a ∷ [])) in
    let j = length-append (part_of text) (0x0a ∷ []) in
    omega (arith, e, f, g, j, decimal-short number, decimal-short detail, part_length sheet, part_length text)

blank-length : length zeros ≡ 65536
blank-length = sym (ap length zeros-are) ∙ zeros-length 65536

answer-length : (i : Input) → length (answer_line (read zeros zeros i)) ≤ 262190
answer-length i =
    let a = read zeros zeros i in
    let h = read-inside zeros zeros i in
    let s : length (take a.sheet_length a.sheet) ≤ 65536 = omega (arith, length-take-le a.sheet_length a.sheet h.sheet_in, h.sheet_lent, blank-length) in
    let t : length (take a.text_length a.text) ≤ 65536 = omega (arith, length-take-le a.text_length a.text h.text_in, h.text_lent, blank-length) in
    line-length a.number a.detail (take a.sheet_length a.sheet) (take a.text_length a.text) s t

printed-length : (bs : List ℕ) → length (printed zeros zeros bs) ≤ 262190
unfolding printed
printed-length bs = go (whole_input bs)
  where
    go : (o : Option Input) → length (if_some o (ascii "input\n") λ i. answer_line (read zeros zeros i)) ≤ 262190
    go none = omega arith
    go (some i) = answer-length i

-- the program's whole way
pub wrote_line_of : {known left : Std.Option (List ℕ)} {area : List ℕ} {t : Taken} → TookGiven known left area t
    → {r : ℕ} {S S' : List ℕ} → WrotePrinted (take t.kept area) t r S S' → WroteGiven known left r S S'
wrote_line_of g {r} w =
    let k = g.took.1 in
    let l = w g.took.0 k.so_far k.begins in
    record { wrote = record { bytes = g.took.0; line = l; short = omega (arith, l.ends, printed-length g.took.0) }; given = g.given }
