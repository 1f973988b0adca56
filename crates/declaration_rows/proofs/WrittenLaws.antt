-- Cells and records written, and the room that is left.
-- Assumes nothing.
use mathlib.Core.Path.{◌≡◌, refl, ap, sym, ◌∙◌}
use mathlib.Core.Bool.{Bool, true, false}
use mathlib.Core.List.{List, [], ◌∷◌, ◌++◌, append-nil}
use mathlib.Core.Option.{Option, none, some}
use Prim.Native.Nat.{ℕ, ◌+◌, ◌-◌, ◌*◌, ◌^◌, ◌≤◌, ◌<◌}
use native.Mathlib.Nat.{add-zero}
use native.Mathlib.Omega.{arith}
use lib.ListN.{length, set, length-append}
use lib.Seq.{sets}
use Rattle.std.specs.Prelude.{Some, None}
use Rattle.std.specs.declared.option.Option as rust
use Rattle.std.specs.Option as options
use Rattle.foundation.specs.Choices.{or_else, both_of, All}
use Rattle.foundation.specs.Digits.{little}
use Rattle.foundation.specs.Texts.{Text, ascii}
use Rattle.foundation.proofs.OverlayLaws.{sets_then}
use Rattle.characters.specs.Characters.{utf8, utf8_of}
use Rattle.names.specs.told.Name.{named_text, name_text}
use Rattle.names.specs.told.Stream.{PutText, name_bytes}
use Rattle.names.specs.declared.name.Name.{Name}
use Rattle.names.proofs.PresentLaws.{name-most}
use Rattle.sheet.specs.Rows.{Cell, num, ref, row, present_bytes, absent_bytes, cell_bytes, cell_text, body_bytes, body_text, texts, sheet_from}
use Rattle.sheet.specs.told.Put.{PutCells, PutHead, PutRows}
use Rattle.sheet.specs.declared.State.{State}
use Rattle.sheet.proofs.RowLaws.{cell_length, cell-length}
use Rattle.sheet.proofs.PutLaws.{put-sheet, put-text, put-types, put_same, put-left, cell_put, cells_then, head_then, row_done}
use Rattle.declaration_rows.specs.Declarations.{signed}
use Rattle.declaration_rows.specs.Rows.{name_cell, signature_cells}
use Rattle.declaration_rows.specs.told.Written.{RecordRoom, cell_limit, signature_by, init_by, head_cells, head_counts, constructor_cells, function_cells, property_cells, alias_cells}
use Rattle.declaration_rows.specs.declared.SignatureNames.{SignatureNames}

-- A name's text is what is written of it.
pub name-text : (payload d2 : List ℕ) (n : Name) → name_bytes payload d2 (Some n) false ≡ cell_text (name_cell (some (named_text payload d2 n)))
unfolding name_bytes
name-text payload d2 n = refl

pub named_absent : (s : State) (S T : List ℕ) {S' : List ℕ} → S' ≡ sets S s.sheet absent_bytes
    → PutCells (name_cell none ∷ []) s.types s (record { sheet = s.sheet + 4; text = s.text; types = s.types }) S S' T T
named_absent s S T p = cell_put (name_cell none) S T (simp add-zero) p refl

module _ (payload d2 : List ℕ) (n : Name) where
  pub named-present : (s : State) (S T : List ℕ) {S' T' : List ℕ} {next : ℕ}
      → PutText (name_bytes payload d2 (Some n) false) s.text next T T' → S' ≡ sets S s.sheet (present_bytes s.text (next - s.text))
      → PutCells (name_cell (some (named_text payload d2 n)) ∷ []) s.types s (record { sheet = s.sheet + 4; text = next; types = s.types }) S S' T T'
  named-present s S T {next = next} w p =
      let c = name_cell (some (named_text payload d2 n)) in
      let f = name-text payload d2 n in
      let g : next ≡ s.text + length (cell_text c) = w.place ∙ ap (λ (l : List ℕ). s.text + length l) f in
      let h : next - s.text ≡ length (cell_text c) = omega arith in
      cell_put c S T (rw g) (p ∙ rw h refl) (w.written ∙ ap (sets T s.text) f)

  -- A name's text is short, and can be counted.
  pub name-fits : {s : State} → RecordRoom (2 ^ 63) payload d2 s → s.text + length (name_bytes payload d2 (Some n) false) < 2 ^ 64
  name-fits r = omega (arith, name-most payload d2 n 32768 r.payload r.d2 (omega arith) false)

-- A record's kind, a number, a cell of 0 or 1, and two refs to no text.
module _ (s : State) (S T : List ℕ) {S' : List ℕ} where
  pub kind-put : (k : ℕ) → S' ≡ set S s.sheet k
      → PutHead k [] s.types s (record { sheet = s.sheet + 1; text = s.text; types = s.types }) S S' T T
  unfolding body_bytes body_text
  kind-put k p = record { state = simp add-zero; sheet = p; text = refl }

  pub number_put : (w n : ℕ) → S' ≡ sets S s.sheet (little w n)
      → PutCells (num w n ∷ []) s.types s (record { sheet = s.sheet + w; text = s.text; types = s.types }) S S' T T
  number_put w n p = cell_put (num w n) S T (simp add-zero) p refl

  pub unsigned-put : {S₁ : List ℕ} → S₁ ≡ sets S s.sheet absent_bytes → S' ≡ sets S₁ (s.sheet + 4) absent_bytes
      → PutCells (signature_cells none) s.types s (record { sheet = s.sheet + 8; text = s.text; types = s.types }) S S' T T
  unfolding body_bytes body_text
  unsigned-put p q = record { state = simp add-zero; sheet = sets_then absent_bytes absent_bytes S s.sheet p refl q; text = refl }

-- More cells after cells, or in a record, with as many types left.
module _ {b : ℕ} {s s₁ s₂ : State} {S S₁ S₂ T T₁ T₂ : List ℕ} where
  pub cells_next : (cs ds : List Cell) → PutCells cs b s s₁ S S₁ T T₁ → PutCells ds s₁.types s₁ s₂ S₁ S₂ T₁ T₂
      → PutCells (cs ++ ds) b s s₂ S S₂ T T₂
  cells_next cs ds p q = cells_then cs ds p (put-left q (put-types p))

  pub head-next : (k : ℕ) (cs ds : List Cell) → PutHead k cs b s s₁ S S₁ T T₁ → PutCells ds s₁.types s₁ s₂ S₁ S₂ T₁ T₂
      → PutHead k (cs ++ ds) b s s₂ S S₂ T T₂
  head-next k cs ds p q = head_then k cs ds p (put-left q (put-types p))

-- where a kind and a cell end
module _ {b : ℕ} {s s' : State} {S S' T T' : List ℕ} where
  pub kind-sheet : (k : ℕ) → PutHead k [] b s s' S S' T T' → s'.sheet ≡ s.sheet + 1
  unfolding body_bytes
  kind-sheet k p = put-sheet p

  pub kind-text : (k : ℕ) → PutHead k [] b s s' S S' T T' → s'.text ≡ s.text
  unfolding body_text
  kind-text k p = put-text p ∙ add-zero s.text

  pub cell-sheet : (c : Cell) → PutCells (c ∷ []) b s s' S S' T T' → s'.sheet ≡ s.sheet + cell_length c
  unfolding body_bytes
  cell-sheet c p = put-sheet p ∙ rw (append-nil, cell-length)

-- A constructor's name, its own or the one that it falls back to.
pub own_else : (payload d2 : List ℕ) (o : rust.Option Name) (i : Text) → options.is_some o ≡ true → or_else (name_text payload d2 o) (some i) ≡ name_text payload d2 o
own_else payload d2 None i e =
    let z : ◌≡◌ {A = ℕ} 0 1 = cc in
    absurd (omega arith)
own_else payload d2 (Some n) i e = refl

pub fallen_else : (payload d2 : List ℕ) (o : rust.Option Name) (i : Text) → options.is_some o ≡ false → or_else (name_text payload d2 o) (some i) ≡ some i
fallen_else payload d2 None i e = refl
fallen_else payload d2 (Some n) i e =
    let z : ◌≡◌ {A = ℕ} 0 1 = cc in
    absurd (omega arith)

pub init_put : (s : State) (S T : List ℕ) {S' T' : List ℕ}
    → T' ≡ sets T s.text (ascii "<init>") → S' ≡ sets S s.sheet (present_bytes s.text 6)
    → PutCells (name_cell (some (ascii "<init>")) ∷ []) s.types s (record { sheet = s.sheet + 4; text = s.text + 6; types = s.types }) S S' T T'
unfolding utf8 utf8_of
init_put s S T p q = cell_put (ref (some (ascii "<init>"))) S T refl q p

-- Kind 7: around no descriptor, and around one that stands where the text ends.
module _ {s s₁ : State} {S S₁ S' T₀ T₁ : List ℕ} (h : PutHead 7 [] s.types s s₁ S S₁ T₀ T₁) where
  pub default-absent : S' ≡ sets S₁ s₁.sheet absent_bytes
      → PutRows (row 7 (ref none ∷ []) ∷ []) s.types s (record { sheet = s₁.sheet + 4; text = s₁.text; types = s₁.types }) S S' T₀ T₁
  default-absent p = row_done 7 (ref none ∷ []) (head-next 7 [] (ref none ∷ []) h (named_absent s₁ S₁ T₁ p))

  pub default-put : (d : List ℕ) {n : ℕ} {T : List ℕ} → length d ≡ n → T₀ ≡ sets T s.text d → S' ≡ sets S₁ s₁.sheet (present_bytes s₁.text n)
      → PutRows (row 7 (ref (some d) ∷ []) ∷ []) s.types s (record { sheet = s₁.sheet + 4; text = s₁.text + n; types = s₁.types }) S S' T T₁
  unfolding body_text
  default-put d {T = T} e q p =
      let c = ref (some d) in
      let f = kind-text 7 h in
      let k : PutHead 7 [] s.types s s₁ S S₁ T T = record { state = h.state; sheet = h.sheet; text = refl } in
      row_done 7 (c ∷ [])
      (head-next 7 [] (c ∷ []) k (cell_put c S₁ T (rw e) (p ∙ rw e) (h.text ∙ q ∙ ap (λ (o : ℕ). sets T o d) (sym f))))

-- The three counts of kind 1.
pub counts-put : (o a b c at : ℕ) (S : List ℕ) {S₁ S₂ S₃ : List ℕ} → S₁ ≡ sets S at (little 2 a) → S₂ ≡ sets S₁ (at + 2) (little 2 b)
    → S₃ ≡ sets S₂ (at + 4) (little 2 c) → S₃ ≡ sets S at (body_bytes o (head_counts a b c))
unfolding body_bytes
counts-put o a b c at S p q r =
    sets_then (little 2 a ++ little 2 b) (little 2 c) S at (sets_then (little 2 a) (little 2 b) S at p refl q) refl r

-- A cell of a record is small, if it holds a name by its text or a number of 8 bytes at most.
abbrev pub SmallCell : Cell → Type 0
SmallCell c = cell_length c + length (cell_text c) ≤ cell_limit

cells_most : (cs : List Cell) (o : ℕ) → All SmallCell cs → length (body_bytes o cs) + length (body_text cs) ≤ length cs * cell_limit
unfolding body_bytes body_text
cells_most [] o h = omega arith
cells_most (c ∷ cs) o h =
    let p = o + length (cell_text c) in
    omega (
      arith,
      h.0,
      cell-length o c,
      cells_most cs p h.1,
      length-append (cell_bytes o c) (body_bytes p cs),
      length-append (cell_text c) (body_text cs),
    )

both_small : (x y : Option Text) → SmallCell (name_cell x) → SmallCell (name_cell y) → All SmallCell (signature_cells (both_of signed x y))
both_small none y f g = (omega arith, (omega arith, tt))
both_small (some t) none f g = (omega arith, (omega arith, tt))
both_small (some t) (some u) f g = (f, (g, tt))

pub init_name_small : SmallCell (name_cell (some (ascii "<init>")))
unfolding utf8 utf8_of
init_name_small = omega arith

module _ {payload d2 : List ℕ} where
  pub room_within : {m : ℕ} (k : ℕ) {s : State} → m ≤ k → RecordRoom m payload d2 s → RecordRoom k payload d2 s
  room_within k l r = record { payload = r.payload; d2 = r.d2; places = omega (arith, r.places) }

  -- What is left of it after cells, and after a record's kind and cells.
  module _ (cs : List Cell) {m b : ℕ} {s s' : State} {S S' T T' : List ℕ} (h : All SmallCell cs) (r : RecordRoom m payload d2 s) where
    pub cells-room : PutCells cs b s s' S S' T T' → RecordRoom (m + length cs * cell_limit) payload d2 s'
    cells-room p = record {
      payload = r.payload;
      d2 = r.d2;
      places = omega (arith, r.places, put-sheet p, put-text p, cells_most cs s.text h);
    }

    pub head-room : (k : ℕ) → PutHead k cs b s s' S S' T T' → RecordRoom (m + (1 + length cs * cell_limit)) payload d2 s'
    head-room k p = record {
      payload = r.payload;
      d2 = r.d2;
      places = omega (arith, r.places, put-sheet p, put-text p, cells_most cs s.text h);
    }

    pub row_room : (k : ℕ) → PutRows (row k cs ∷ []) b s s' S S' T T' → RecordRoom (m + (1 + length cs * cell_limit)) payload d2 s'
    unfolding sheet_from texts
    row_room k p = head-room k (put_same p (rw append-nil) (rw append-nil))

  -- A name's cell is small.
  pub present-small : {m : ℕ} {s : State} → RecordRoom m payload d2 s → (n : Name) → SmallCell (name_cell (some (named_text payload d2 n)))
  present-small r n = omega (arith, name-most payload d2 n 32768 r.payload r.d2 (omega arith) false, ap length (name-text payload d2 n))

  pub name-small : {m : ℕ} {s : State} → RecordRoom m payload d2 s → (o : rust.Option Name) → SmallCell (name_cell (name_text payload d2 o))
  name-small r None = omega arith
  name-small r (Some n) = present-small r n

  pub signature-small : {m : ℕ} {s : State} → RecordRoom m payload d2 s → (n : SignatureNames) → All SmallCell (signature_cells (signature_by payload d2 n))
  signature-small r n =
      both_small (name_text payload d2 n.name) (name_text payload d2 n.descriptor) (name-small r n.name) (name-small r n.descriptor)

  pub init-small : {m : ℕ} {s : State} → RecordRoom m payload d2 s → (n : SignatureNames) → All SmallCell (signature_cells (init_by payload d2 n))
  init-small r n =
      let x = name_text payload d2 n.name in
      both_small (or_else x (some (ascii "<init>"))) (name_text payload d2 n.descriptor) (go x (name-small r n.name))
      (name-small r n.descriptor)
    where
      go : (x : Option Text) → SmallCell (name_cell x) → SmallCell (name_cell (or_else x (some (ascii "<init>"))))
      go none h = init_name_small
      go (some t) h = h

  -- so are all cells of a record
  module _ {m : ℕ} {s : State} (r : RecordRoom m payload d2 s) where
    pub head_small : (kind : ℕ) (n : rust.Option Name) (flags : ℕ) → All SmallCell (head_cells kind (name_text payload d2 n) flags)
    head_small kind n flags = (omega arith, (name-small r n, (omega arith, tt)))

    pub constructor-small : (flags : ℕ) (n : SignatureNames) → All SmallCell (constructor_cells flags (init_by payload d2 n))
    constructor-small flags n = (omega arith, init-small r n)

    pub function-small : (name : rust.Option Name) (flags : ℕ) (n : SignatureNames) (receiver : Bool)
        → All SmallCell (function_cells (name_text payload d2 name) flags (signature_by payload d2 n) receiver)
    function-small name flags n receiver =
        let h = signature-small r n in
        (name-small r name, (omega arith, (h.0, (h.1.0, (omega arith, tt)))))

    pub property-small : (name : rust.Option Name) (flags : ℕ) (receiver getter setter : Bool) (f g h : SignatureNames)
        → All SmallCell
        (property_cells (name_text payload d2 name) flags receiver getter setter (signature_by payload d2 f) (signature_by payload d2 g)
        (signature_by payload d2 h))
    property-small name flags receiver getter setter f g h =
        let p = signature-small r f in
        let q = signature-small r g in (
          name-small r name,
          (omega arith, (omega arith, (omega arith, (omega arith, (p.0, (p.1.0, (q.0, (q.1.0, signature-small r h)))))))),
        )

    pub alias-small : (name : rust.Option Name) (flags : ℕ) → All SmallCell (alias_cells (name_text payload d2 name) flags)
    alias-small name flags = (name-small r name, (omega arith, tt))
