-- The decoded bytes read: what was measured, and both areas written.
-- Assumes nothing.
use mathlib.Core.Path.{◌≡◌, refl, ap, sym, subst, ◌∙◌}
use mathlib.Core.List.{List, ◌++◌}
use Prim.Native.Nat.{ℕ, ◌+◌, ◌-◌, ◌≤◌, ◌<◌, min}
use native.Mathlib.Nat.{zero-add, le_refl}
use native.Mathlib.Omega.{arith}
use borrow.Author.Tests.{lt-ltb, le-ltb}
use lib.Dec.{eqb}
use lib.ListN.{length, take, drop, length-drop}
use lib.Seq.{sets, length-sets, take-append_seam}
use Rattle.foundation.specs.Results.{Res, ok}
use Rattle.foundation.proofs.OverlayLaws.{sets_front}
use Rattle.foundation.proofs.ResultLaws.{gives-ok}
use Rattle.wire.specs.Wire.{Message}
use Rattle.characters.proofs.PartLaws.{rest-is}
use Rattle.names.specs.Names.{Names}
use Rattle.sheet.specs.Rows.{Row, sheet_from, texts}
use Rattle.sheet.specs.told.Put.{PutRows}
use Rattle.sheet.specs.declared.State.{State}
use Rattle.sheet.proofs.PutLaws.{put-sheet, put-text, put-types, put_front}
use Rattle.schema.specs.told.TypeSizes.{declarations_size}
use Rattle.declaration_rows.specs.Declarations.{Declarations}
use Rattle.schema.specs.Reading.{Scope, scope, allowance}
use Rattle.schema.specs.Members.{after_table}
use Rattle.schema.specs.told.SchemaTold.{Lent, Scoped, Stands, stop_refused}
use Rattle.schema.specs.told.MembersTold.{Affords}
use Rattle.schema.specs.declared.Stop.{Stop}
use Rattle.schema.proofs.StandsLaws.{part-stands}
use Rattle.schema.proofs.TypeCount.{body_enters}
use Rattle.declarations.specs.Payload.{body_of, declaration_rows}
use Rattle.declarations.specs.told.PayloadTold.{OpenedAt, LentAt}
use Rattle.declarations.specs.told.BodyTold.{body_cost, BodyTold, BodyWalked}
use Rattle.declarations.specs.declared.body.Sections.{Sections}
use Rattle.std.proofs.Common.{Result, Ok, Err}
use Rattle.declarations.proofs.PayloadLaws.{body-after}
use Rattle.inputs.specs.told.OutcomesTold.{told}
use Rattle.inputs.specs.declared.outcome.Refusal.TheVariants as refusal
use Rattle.passes.specs.told.TaskTold.{sizes_at}
use Rattle.passes.specs.Answered.{text_limit, sheet_written, written, answered}
use Rattle.passes.specs.told.AreaTold.{strings, Limited, lent_reading, start, last_of, MeasuredAt, WrittenOut}

-- The body, as it is lent.
pub start_affords : (e : Lent) (at : ℕ) {s : State} → Limited e → s ≡ start → Affords e (body_cost (length (drop at e.payload))) s
start_affords e at k q =
    let l = k.bytes-short in
    let short = length-drop at e.payload in
    subst (Affords e (body_cost (length (drop at e.payload)))) (sym q)
    (record { payload-short = k.bytes-short; d2-short = k.d2-short; types = omega arith; room = omega arith })

-- What stands from a place on stands there.
pub rest_stands : (payload : List ℕ) (at : ℕ) → at ≤ length payload → Stands payload (drop at payload) at
rest_stands payload at h = subst (λ (bs : List ℕ). Stands payload bs at) (rest-is payload at) (part-stands payload at (length payload) h (le_refl (length payload)))

-- What is lent is the scope's, and what a body gives is what the bytes do.
module _ (kind : ℕ) (e : Lent) (at : ℕ) (lent_at : LentAt e at) where
  abbrev o : OpenedAt e.payload e.notes at e.tables
  o = lent_at.opened

  abbrev named : Names
  named = record { records = o.records; d2 = strings e.d2 e.ends }

  abbrev scoped-by : Scope
  scoped-by = scope named o.is.table

  scoped : Limited e → Scoped e scoped-by
  scoped k = record {
    names = record { strings = refl; fit = k.fit; sizes = lent_at.sizes k.fit; records = o.names };
    entries = o.is.noted;
    nullable = o.is.nullable;
    deepest = lent_at.deepest;
  }

  by-body : lent_reading kind e ≡ body_of kind named o.is.body allowance
  by-body = o.opens kind (strings e.d2 e.ends) ∙ rw o.is.cuts

  by-table : lent_reading kind e ≡ after_table (eqb kind 1) scoped-by o.is.body allowance
  by-table = by-body ∙ body-after kind named o.is.body allowance (o.is.reads allowance)

  -- the walk of a body from the start, and both areas as they come back from the Output that they were lent to
  pub from_start : Limited e → {s : State} → s ≡ start → (r : Result Sections Stop) (S S₁ T T₁ : List ℕ) {S' T' : List ℕ} → S' ≡ S₁ → T' ≡ T₁
      → BodyWalked kind e (drop at e.payload) at s r S S₁ T T₁
      → BodyTold kind (lent_reading kind e) start r S S' T T'
  from_start k q r S S₁ T T₁ {S'} {T'} i j t =
      let walked : BodyTold kind (after_table (eqb kind 1) scoped-by o.is.body allowance) start r S S₁ T T₁ =
      subst (λ (x : State). BodyTold kind (after_table (eqb kind 1) scoped-by o.is.body x.types) x r S S₁ T T₁) q
      (t scoped-by (scoped k) o.is.body o.is.cuts) in
      subst (λ (x : Res (Declarations × ℕ)). BodyTold kind x start r S S' T T') (sym by-table) (rw (i, j) walked)

  pub measured-is : {b : Sections} {S S' T T' : List ℕ} → BodyTold kind (lent_reading kind e) start (Ok b) S S' T T' → MeasuredAt kind e at b S' T'
  measured-is {b} {S} {S'} {T} {T'} t = record {
    lent = lent_at;
    declarations = t.0;
    left = t.1;
    reads = t.2;
    S₀ = S;
    T₀ = T;
    written = t.3;
  }

-- Types are never entered twice.
left-within : (kind : ℕ) (names : Names) (m : Message) {d : Declarations} {left : ℕ} → body_of kind names m allowance ≡ ok (d, left) → left ≤ allowance
left-within kind names m {d} {left} e =
    let P : Declarations × ℕ → Type 0 = λ r. declarations_size r.0 + r.1 ≡ allowance in
    let h : declarations_size d + left ≡ allowance = gives-ok P e (body_enters (eqb kind 1) names m allowance) in
    omega arith

-- Of what is measured: both lengths, the types, and what the areas are to hold.
module _ (kind : ℕ) (e : Lent) (at : ℕ) (b : Sections) (SS TT : List ℕ) (m : MeasuredAt kind e at b SS TT) where
  abbrev end : State
  end = last_of b

  abbrev rows : List Row
  rows = declaration_rows kind m.declarations

  abbrev bytes_read : Res (Declarations × ℕ)
  bytes_read = lent_reading kind e

  pub size_is : end.sheet ≡ length (sheet_from 0 rows)
  size_is = put-sheet m.written.put ∙ zero-add (length (sheet_from 0 rows))

  pub length-is : end.text ≡ length (texts rows)
  length-is = put-text m.written.put ∙ zero-add (length (texts rows))

  pub left_is : end.types ≡ m.left
  left_is = put-types m.written.put

  pub types-left : end.types ≤ 2048
  types-left =
      let f = sym (by-body kind e at m.lent) ∙ m.reads in
      omega (arith, left_is, left-within kind _ m.lent.opened.is.body f)

  module _ (S T : List ℕ) where
    by_rows : answered S T kind bytes_read ≡ written S T rows (allowance - m.left)
    by_rows = ap (answered S T kind) m.reads

    text-over : min (length T) text_limit < end.text → answered S T kind bytes_read ≡ told (Err refusal.TextTooLong) S T
    unfolding written
    text-over h =
        let l : min (length T) text_limit < length (texts rows) = subst (λ (n : ℕ). min (length T) text_limit < n) length-is h in
        by_rows ∙ rw (lt-ltb (min (length T) text_limit) (length (texts rows)) l)

    pub text-past-limit : text_limit < end.text → answered S T kind bytes_read ≡ told (Err refusal.TextTooLong) S T
    text-past-limit h = text-over (omega arith)

    pub text-past-area : length T < end.text → answered S T kind bytes_read ≡ told (Err refusal.TextTooLong) S T
    text-past-area h = text-over (omega arith)

    module _ (h : end.text ≤ text_limit) (i : end.text ≤ length T) where
      by-sheet : answered S T kind bytes_read ≡ sheet_written S T rows (allowance - m.left)
      unfolding written
      by-sheet =
          let l : length (texts rows) ≤ min (length T) text_limit = omega (arith, length-is) in
          by_rows ∙ rw (le-ltb (min (length T) text_limit) (length (texts rows)) l)

      pub sheet-over : length S < end.sheet → answered S T kind bytes_read ≡ told (Err refusal.SheetTooLong) S T
      unfolding sheet_written
      sheet-over j =
          let l : length S < length (sheet_from 0 rows) = omega (arith, size_is) in
          by-sheet ∙ rw (lt-ltb (length S) (length (sheet_from 0 rows)) l)

      pub all-written : end.sheet ≤ length S → {S' T' : List ℕ} → WrittenOut kind bytes_read S S' T T'
          → answered S T kind bytes_read ≡ told (Ok (sizes_at end)) S' T'
      unfolding sheet_written
      all-written j {S'} {T'} w =
          let l : length (sheet_from 0 rows) ≤ length S = omega (arith, size_is) in
          let y = w m.declarations m.left m.reads in
          by-sheet ∙ rw (le-ltb (length S) (length (sheet_from 0 rows)) l) (rw (y.0, y.1, size_is, length-is, left_is))

  same_read : (d : Declarations) (left : ℕ) → bytes_read ≡ ok (d, left) → m.declarations ≡ d
  same_read d left e =
      let f = m.reads in
      let g : ◌≡◌ {A = Declarations × ℕ} (m.declarations, m.left) (d, left) = cc in
      ap (λ (y : Declarations × ℕ). y.0) g

  -- copied from the scratch areas
  module _ (S S' T T' : List ℕ) (i : end.sheet ≤ length S) (j : end.text ≤ length T) where
    pub copied-out : end.sheet ≤ length SS → end.text ≤ length TT → S' ≡ sets S 0 (take end.sheet SS) → T' ≡ sets T 0 (take end.text TT)
        → WrittenOut kind bytes_read S S' T T'
    copied-out a b p q d left e =
        let f = front (sheet_from 0 rows) m.S₀ SS end.sheet m.written.put.sheet size_is a in
        let g = front (texts rows) m.T₀ TT end.text m.written.put.text length-is b in
        let c = same_read d left e in
        subst (λ (y : Declarations). (S' ≡ sheet_from 0 (declaration_rows kind y) ++ drop (length (sheet_from 0 (declaration_rows kind y))) S)
        × (T' ≡ texts (declaration_rows kind y) ++ drop (length (texts (declaration_rows kind y))) T)) c
        (p ∙ ap (sets S 0) f ∙ sets_front (sheet_from 0 rows) S (omega (arith, size_is)), q ∙ ap (sets T 0) g ∙ sets_front (texts rows) T (omega (arith, length-is)))
      where
        front : (vs before after : List ℕ) (n : ℕ) → after ≡ sets before 0 vs → n ≡ length vs → n ≤ length after → take n after ≡ vs
        front vs before after n p e h =
            let l : length after ≡ length before = ap length p ∙ simp length-sets in
            let f : after ≡ vs ++ drop (length vs) before = p ∙ sets_front vs before (omega arith) in
            rw (f, e) (take-append_seam vs (drop (length vs) before))

    -- walked again
    pub walked-out : (r : Result Sections Stop) → BodyTold kind bytes_read start r S S' T T' → WrittenOut kind bytes_read S S' T T'
    walked-out (Ok b) (a, n, f, p) d left e =
        let c = same_read a n f in
        let c' = same_read d left e in
        let p' : PutRows rows n start b.aliases.state S S' T T' =
        subst (λ (y : Declarations). PutRows (declaration_rows kind y) n start b.aliases.state S S' T T') (sym c) p.put in
        subst (λ (y : Declarations). (S' ≡ sheet_from 0 (declaration_rows kind y) ++ drop (length (sheet_from 0 (declaration_rows kind y))) S)
        × (T' ≡ texts (declaration_rows kind y) ++ drop (length (texts (declaration_rows kind y))) T)) c'
        (put_front p' (omega (arith, size_is)) (omega (arith, length-is)))
    walked-out (Err y) f d left e =
        let g : ◌≡◌ {A = Res (Declarations × ℕ)} (stop_refused y) (ok (d, left)) = sym f ∙ e in
        let z : ◌≡◌ {A = ℕ} 0 1 = cc in
        absurd (omega arith)
