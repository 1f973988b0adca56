-- Steps that write, one after the other.
-- Assumes nothing.
use mathlib.Core.Path.{◌≡◌, refl, sym, ap, subst, ◌∙◌}
use mathlib.Core.List.{List, [], ◌∷◌, ◌++◌, append-nil}
use Prim.Native.Nat.{ℕ, ◌+◌, ◌≤◌}
use native.Mathlib.Nat.{add-zero, add_assoc}
use lib.ListN.{length, drop, length-append}
use lib.Seq.{sets}
use Rattle.foundation.specs.Digits.{little}
use Rattle.foundation.proofs.DigitLaws.{length_digits}
use Rattle.foundation.proofs.OverlayLaws.{sets_append, sets_patch, sets_front}
use Rattle.sheet.specs.declared.State.{State}
use Rattle.sheet.specs.declared.Output.{Output}
use Rattle.sheet.specs.Rows.{Cell, num, Row, row, cell_bytes, cell_text, body_bytes, body_text, sheet_from, texts}
use Rattle.sheet.specs.told.Put.{Put, PutCells, PutHead, PutRows, SameAreas, past}
use Rattle.sheet.proofs.RowLaws.{body_text-append, texts-append, body_bytes-append, sheet-append, row-split, texts-split, cell_length, cell-length}

-- where a step's bytes and text end
module _ {sh tx : List ℕ} {b : ℕ} {s s' : State} {S S' T T' : List ℕ} (p : Put sh tx b s s' S S' T T') where
  pub put-sheet : s'.sheet ≡ s.sheet + length sh
  put-sheet = ap (λ (x : State). x.sheet) p.state

  pub put-text : s'.text ≡ s.text + length tx
  put-text = ap (λ (x : State). x.text) p.state

  pub put-types : s'.types ≡ b
  put-types = ap (λ (x : State). x.types) p.state

  -- the same bytes, said otherwise
  pub put_same : {sh' tx' : List ℕ} → sh ≡ sh' → tx ≡ tx' → Put sh' tx' b s s' S S' T T'
  put_same {sh'} {tx'} e f =
      subst (λ (h : List ℕ). Put h tx' b s s' S S' T T') e (subst (λ (t : List ℕ). Put sh t b s s' S S' T T') f p)

  -- and as many types left
  pub put-left : {b' : ℕ} → b ≡ b' → Put sh tx b' s s' S S' T T'
  put-left e = subst (λ (n : ℕ). Put sh tx n s s' S S' T T') e p

pub put_none : (s : State) (S T : List ℕ) → Put [] [] s.types s s S S T T
put_none s S T = record { state = simp add-zero; sheet = refl; text = refl }

-- two steps that each keep the two areas and their lengths
pub areas_then : (o o₁ o₂ : Output) → SameAreas o o₁ → SameAreas o₁ o₂ → SameAreas o o₂
areas_then o o₁ o₂ h k = (k.0 ∙ h.0, k.1 ∙ h.1, k.2 ∙ h.2, k.3 ∙ h.3)

-- a step after another
pub put_then : {sh sh' tx tx' : List ℕ} {b b' : ℕ} {s s₁ s₂ : State} {S S₁ S₂ T T₁ T₂ : List ℕ}
    → Put sh tx b s s₁ S S₁ T T₁ → Put sh' tx' b' s₁ s₂ S₁ S₂ T₁ T₂ → Put (sh ++ sh') (tx ++ tx') b' s s₂ S S₂ T T₂
put_then {sh} {sh'} {tx} {tx'} {b} {b'} {s} {s₁} {s₂} {S} {S₁} {S₂} {T} {T₁} {T₂} p q = record {
  state = q.state ∙ simp (put-sheet p, put-text p, length-append, add_assoc);
  sheet = q.sheet ∙ rw (p.sheet, put-sheet p) (sym (sets_append sh sh' S s.sheet));
  text = q.text ∙ rw (p.text, put-text p) (sym (sets_append tx tx' T s.text));
}

-- the same where the second's refs count from where the first's text ends
put-after : (g : ℕ → List ℕ) {sh tx tx' : List ℕ} {b b' : ℕ} {s s₁ s₂ : State} {S S₁ S₂ T T₁ T₂ : List ℕ}
    → Put sh tx b s s₁ S S₁ T T₁ → Put (g s₁.text) tx' b' s₁ s₂ S₁ S₂ T₁ T₂
    → Put (sh ++ g (s.text + length tx)) (tx ++ tx') b' s s₂ S S₂ T T₂
put-after g p q = put_then p (put_same q (ap g (put-text p)) refl)

-- a head, its body, and then what stands between them, as a count of what the body has
pub put_patch : (mid : List ℕ) {hd body tx tx' : List ℕ} {b b' : ℕ} {s s₁ s₂ : State} {S S₁ S₂ S₃ T T₁ T₂ : List ℕ}
    → Put hd tx b s s₁ S S₁ T T₁ → Put body tx' b' (past (length mid) s₁) s₂ S₁ S₂ T₁ T₂ → S₃ ≡ sets S₂ s₁.sheet mid
    → Put (hd ++ (mid ++ body)) (tx ++ tx') b' s s₂ S S₃ T T₂
put_patch mid {hd} {body} {tx} {tx'} {b} {b'} {s} {s₁} {s₂} {S} {S₁} {S₂} {S₃} {T} {T₁} {T₂} p q e = record {
  state =
      q.state
      ∙ rw (put-sheet p, put-text p, length-append hd (mid ++ body), length-append mid body, length-append tx tx') (simp add_assoc);
  sheet = e ∙ rw (q.sheet, p.sheet) (sets_patch hd mid body S s.sheet s₁.sheet (s₁.sheet + length mid) (put-sheet p) refl);
  text = q.text ∙ rw (p.text, put-text p) (sym (sets_append tx tx' T s.text));
}

-- from the start of both areas, where there is room
pub put_front : {sh tx : List ℕ} {b n : ℕ} {s' : State} {S S' T T' : List ℕ}
    → Put sh tx b (record { sheet = 0; text = 0; types = n }) s' S S' T T' → length sh ≤ length S → length tx ≤ length T
    → (S' ≡ sh ++ drop (length sh) S) × (T' ≡ tx ++ drop (length tx) T)
put_front {sh} {tx} {b} {n} {s'} {S} {S'} {T} {T'} p h k = (p.sheet ∙ sets_front sh S h, p.text ∙ sets_front tx T k)

-- one cell
pub cell_put : (c : Cell) {b : ℕ} {s s' : State} (S T : List ℕ) {S' T' : List ℕ}
    → s' ≡ record { sheet = s.sheet + cell_length c; text = s.text + length (cell_text c); types = b }
    → S' ≡ sets S s.sheet (cell_bytes s.text c) → T' ≡ sets T s.text (cell_text c)
    → PutCells (c ∷ []) b s s' S S' T T'
unfolding body_bytes body_text
cell_put c {s = s} S T e p q = record {
  state = e ∙ simp (append-nil, cell-length);
  sheet = rw append-nil p;
  text = rw append-nil q;
}

-- cells after cells, records after records
pub cells_then : (cs ds : List Cell) {b b' : ℕ} {s s₁ s₂ : State} {S S₁ S₂ T T₁ T₂ : List ℕ}
    → PutCells cs b s s₁ S S₁ T T₁ → PutCells ds b' s₁ s₂ S₁ S₂ T₁ T₂ → PutCells (cs ++ ds) b' s s₂ S S₂ T T₂
cells_then cs ds {s = s} p q =
    put_same (put-after (λ o. body_bytes o ds) p q) (sym (body_bytes-append s.text cs ds)) (sym (body_text-append cs ds))

pub rows_then : (rs qs : List Row) {b b' : ℕ} {s s₁ s₂ : State} {S S₁ S₂ T T₁ T₂ : List ℕ}
    → PutRows rs b s s₁ S S₁ T T₁ → PutRows qs b' s₁ s₂ S₁ S₂ T₁ T₂ → PutRows (rs ++ qs) b' s s₂ S S₂ T T₂
rows_then rs qs {s = s} p q =
    put_same (put-after (λ o. sheet_from o qs) p q) (sym (sheet-append s.text rs qs)) (sym (texts-append rs qs))

-- a record's kind and some cells, then more of its cells
pub head_then : (k : ℕ) (cs ds : List Cell) {b b' : ℕ} {s s₁ s₂ : State} {S S₁ S₂ T T₁ T₂ : List ℕ}
    → PutHead k cs b s s₁ S S₁ T T₁ → PutCells ds b' s₁ s₂ S₁ S₂ T₁ T₂ → PutHead k (cs ++ ds) b' s s₂ S S₂ T T₂
head_then k cs ds {s = s} p q =
    let e = body_bytes-append s.text cs ds in
    put_same (put-after (λ o. body_bytes o ds) p q) (ap (λ (l : List ℕ). k ∷ l) (sym e)) (sym (body_text-append cs ds))

-- a record with all its cells
pub row_done : (k : ℕ) (cs : List Cell) {b : ℕ} {s s₁ : State} {S S₁ T T₁ : List ℕ}
    → PutHead k cs b s s₁ S S₁ T T₁ → PutRows (row k cs ∷ []) b s s₁ S S₁ T T₁
unfolding sheet_from texts
row_done k cs {s = s} p = put_same p (rw append-nil) (rw append-nil)

-- A record whose last cells, numbers all of them, are written after the records rs that follow it, as counts are.
pub row_patch : (k : ℕ) (cs ds : List Cell) (rs : List Row) → body_text ds ≡ []
    → {b b' : ℕ} {s s₁ s₂ : State} {S S₁ S₂ S₃ T T₁ T₂ : List ℕ}
    → PutHead k cs b s s₁ S S₁ T T₁ → PutRows rs b' (past (length (body_bytes s₁.text ds)) s₁) s₂ S₁ S₂ T₁ T₂
    → S₃ ≡ sets S₂ s₁.sheet (body_bytes s₁.text ds)
    → PutRows (row k (cs ++ ds) ∷ rs) b' s s₂ S S₃ T T₂
row_patch k cs ds rs h {s = s} {s₁} p q e =
    let f : s₁.text ≡ s.text + length (body_text cs) = put-text p in
    put_same (put_patch (body_bytes s₁.text ds) p q e) (rw (row-split k cs ds rs h, f)) (sym (texts-split k cs ds rs h))

-- the same with one count, of w bytes
pub row-counted : (k : ℕ) (cs : List Cell) (w n : ℕ) (rs : List Row) {b b' : ℕ} {s s₁ s₂ : State} {S S₁ S₂ S₃ T T₁ T₂ : List ℕ}
    → PutHead k cs b s s₁ S S₁ T T₁ → PutRows rs b' (past w s₁) s₂ S₁ S₂ T₁ T₂ → S₃ ≡ sets S₂ s₁.sheet (little w n)
    → PutRows (row k (cs ++ (num w n ∷ [])) ∷ rs) b' s s₂ S S₃ T T₂
unfolding body_bytes body_text
row-counted k cs w n rs {b' = b'} {s₁ = s₁} {s₂ = s₂} {S₁ = S₁} {S₂ = S₂} {T₁ = T₁} {T₂ = T₂} p q e =
    let q' : PutRows rs b' (past (length (little w n ++ [])) s₁) s₂ S₁ S₂ T₁ T₂ = rw (append-nil, length_digits) q in
    row_patch k cs (num w n ∷ []) rs refl p q' (rw append-nil e)
