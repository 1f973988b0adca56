-- The room that is told is exact: `room_exact`, of every input and all areas.
-- Assumes nothing.
use mathlib.Core.Path.{◌≡◌, refl, sym, ap, subst, ◌∙◌}
use mathlib.Core.Bool.{Bool, true, false}
use mathlib.Core.List.{List, [], ◌∷◌}
use mathlib.Core.Option.{Option, none, some}
use Prim.Native.Nat.{ℕ, ◌-◌, ◌≤◌, ◌<◌, min}
use native.Mathlib.Omega.{arith}
use borrow.Author.Tests.{ltb-true, ltb-false, lt-ltb, le-ltb}
use lib.Dec.{ltb}
use lib.ListN.{length}
use Rattle.foundation.specs.Results.{Res, ok, refused, Cause}
use Rattle.foundation.proofs.ResultLaws.{Gives, gives-ok}
use Rattle.foundation.specs.Choices.{if_some}
use Rattle.sheet.specs.Rows.{Row, body_text, texts, sheet_from}
use Rattle.sheet.specs.Reading.{rows_of}
use Rattle.characters.specs.WellFormed.{Units}
use Rattle.declaration_rows.specs.Declarations.{Declarations}
use Rattle.schema.specs.Reading.{allowance}
use Rattle.inputs.specs.Refusals.{number_of}
use Rattle.inputs.specs.Inputs.{Input, kind_of, carries_declarations, fault_of}
use Rattle.inputs.specs.Outcomes.{Answer, refusal}
use Rattle.declarations.specs.Payload.{declaration_rows}
use Rattle.passes.specs.Answered.{head_alone, nothing_read, text_limit, sheet_written, written, accepted, answered}
use Rattle.metadata.specs.Read.{reading, read}
use Rattle.promises.specs.Promises.{sheet_bytes, text_bytes}
use Rattle.promises.proofs.Accepted.{accepted-reads, refusal_numbered}
use Rattle.promises.proofs.Longest.{read-written, written-fits, text-refused}
use Rattle.promises.proofs.Places.{Breaks, breaks_early, reading_breaks}
use Rattle.promises.proofs.Promised.{read_back}
use Rattle.room.specs.Room.{lists_of, text_lengths, room_by, room_of, room_refused, room}
use Rattle.room.specs.Exact.{member_texts, AsTold, RoomExact}
use Rattle.room.proofs.CountLaws.{sheet-by-kinds}
use Rattle.room.proofs.ListLaws.{texts-add, lists-are}

-- The three answers to what was read: the text is too long, else the sheet is, else both fit.
data Judged (sheet text : List ℕ) (rows : List Row) (n : ℕ) : Type 0 where
  over_text : min (length text) text_limit < length (texts rows) → (written sheet text rows n).number ≡ 11 → Judged sheet text rows n
  over_sheet :
      length (texts rows) ≤ min (length text) text_limit → length sheet < length (sheet_from 0 rows) → (written sheet text rows n).number ≡ 12
      → Judged sheet text rows n
  fits :
      length (texts rows) ≤ min (length text) text_limit → length (sheet_from 0 rows) ≤ length sheet
      → written sheet text rows n ≡ accepted sheet text (sheet_from 0 rows) (texts rows) n → Judged sheet text rows n

sheet-refused : (sheet text : List ℕ) (rows : List Row) (n : ℕ) → length (texts rows) ≤ min (length text) text_limit
    → length sheet < length (sheet_from 0 rows) → (written sheet text rows n).number ≡ 12
unfolding written sheet_written number_of
sheet-refused sheet text rows n h g =
    rw (le-ltb (min (length text) text_limit) (length (texts rows)) h, lt-ltb (length sheet) (length (sheet_from 0 rows)) g)

judged : (sheet text : List ℕ) (rows : List Row) (n : ℕ) → Judged sheet text rows n
judged sheet text rows n = go (ltb (min (length text) text_limit) (length (texts rows))) refl (ltb (length sheet) (length (sheet_from 0 rows))) refl
  where
    go : (b : Bool) → ltb (min (length text) text_limit) (length (texts rows)) ≡ b → (c : Bool) → ltb (length sheet) (length (sheet_from 0 rows)) ≡ c
        → Judged sheet text rows n
    go true e c f = over_text (ltb-true _ _ e) (text-refused sheet text rows n (ltb-true _ _ e))
    go false e true f = over_sheet (ltb-false _ _ e) (ltb-true _ _ f) (sheet-refused sheet text rows n (ltb-false _ _ e) (ltb-true _ _ f))
    go false e false f = fits (ltb-false _ _ e) (ltb-false _ _ f) (written-fits sheet text rows n (ltb-false _ _ f) (ltb-false _ _ e))

-- And each comes of that alone.
module _ (sheet text : List ℕ) (rows : List Row) (n : ℕ) where
  abbrev number : ℕ
  number = (written sheet text rows n).number

  fits-number : written sheet text rows n ≡ accepted sheet text (sheet_from 0 rows) (texts rows) n → number ≡ 0
  fits-number = ap λ (a : Answer). a.number

  from-11 : Judged sheet text rows n → number ≡ 11 → min (length text) text_limit < length (texts rows)
  from-11 (over_text h q) z = h
  from-11 (over_sheet h g q) z = absurd (omega arith)
  from-11 (fits h g q) z = absurd (omega (arith, fits-number q))

  from-12 : Judged sheet text rows n → number ≡ 12
      → (length (texts rows) ≤ min (length text) text_limit) × (length sheet < length (sheet_from 0 rows))
  from-12 (over_text h q) z = absurd (omega arith)
  from-12 (over_sheet h g q) z = (h, g)
  from-12 (fits h g q) z = absurd (omega (arith, fits-number q))

  pub record Fitted : Type 0 where
    pub text_fits : length (texts rows) ≤ min (length text) text_limit
    pub sheet_fits : length (sheet_from 0 rows) ≤ length sheet
    pub is : written sheet text rows n ≡ accepted sheet text (sheet_from 0 rows) (texts rows) n

  from-0 : Judged sheet text rows n → number ≡ 0 → Fitted
  from-0 (over_text h q) z = absurd (omega arith)
  from-0 (over_sheet h g q) z = absurd (omega arith)
  from-0 (fits h g q) z = record { text_fits = h; sheet_fits = g; is = q }

  no_other : {A : Type 0} → Judged sheet text rows n → (number ≡ 0 → ⊥) → (number ≡ 11 → ⊥) → (number ≡ 12 → ⊥) → A
  no_other (over_text h q) a b c = absurd (b q)
  no_other (over_sheet h g q) a b c = absurd (c q)
  no_other (fits h g q) a b c = absurd (a (fits-number q))

-- Where a reading is refused, the room tells its refusal.
module _ (i : Input) (c : Cause) (place : ℕ) (e : reading i ≡ refused c place) where
  read-refused : (sheet text : List ℕ) → read sheet text i ≡ refusal sheet text c place
  unfolding read
  read-refused sheet text = ap (answered sheet text (kind_of i.k)) e

  refusal-told : (sheet text : List ℕ) → AsTold (room_refused c place) (read sheet text i)
  refusal-told sheet text =
      let q = read-refused sheet text in
      record {
        number = ap (λ (a : Answer). a.number) q;
        detail = ap (λ (a : Answer). a.detail) q;
        sheet_length = ap (λ (a : Answer). a.sheet_length) q;
        text_length = ap (λ (a : Answer). a.text_length) q;
        types = ap (λ (a : Answer). a.types) q;
      }

  refusal-number : (sheet text : List ℕ) → (read sheet text i).number ≡ number_of c
  refusal-number sheet text = ap (λ (a : Answer). a.number) (read-refused sheet text)

  never-late : 11 ≤ number_of c → number_of c ≤ 12 → ⊥
  never-late = breaks_early i c place (subst (Breaks i) e (reading_breaks i))

  not-11 : number_of c ≡ 11 → ⊥
  not-11 z = never-late (omega arith) (omega arith)

  not-12 : number_of c ≡ 12 → ⊥
  not-12 z = never-late (omega arith) (omega arith)

  not-0 : number_of c ≡ 0 → ⊥
  not-0 z = omega (arith, refusal_numbered c)

  nothing_read_lem : (P : Declarations × ℕ → Type 0) → Gives P (reading i)
  nothing_read_lem P = subst (Gives P) (sym e) tt

  refused-exact : RoomExact i (room_refused c place)
  refused-exact = record {
    refused = λ n sheet text. refusal-told sheet text;
    refuses = λ sheet text a b c. refusal-told sheet text;
    early = (not-11, not-12);
    text_exact = λ sheet text. ((λ z. absurd (not-11 (sym (refusal-number sheet text) ∙ z))), λ p. absurd (not-0 p.0));
    sheet_exact = λ sheet text. ((λ z. absurd (not-12 (sym (refusal-number sheet text) ∙ z))), λ p. absurd (not-0 p.0));
    accepted_exact = λ sheet text. ((λ z. absurd (not-0 (sym (refusal-number sheet text) ∙ z))), λ p. absurd (not-0 p.0));
    accepted = λ sheet text z. refusal-told sheet text;
    enough = λ z. absurd (not-0 z);
    less_text = λ z. absurd (not-0 z);
    less_sheet = λ z. absurd (not-0 z);
    some_sheet = λ z. absurd (not-0 z);
    counted = λ u sheet text z. absurd (not-0 (sym (refusal-number sheet text) ∙ z));
    added = refl;
    added_exact = λ sheet text. ((λ z. absurd (not-11 (sym (refusal-number sheet text) ∙ z))), λ p. absurd (not-0 p.0));
    owned = λ d left f. gives-ok (λ x. (room_refused c place).list_texts ≡ member_texts (declaration_rows (kind_of i.k) x.0)) f (nothing_read_lem _);
    listed = λ u sheet text z. absurd (not-0 (sym (refusal-number sheet text) ∙ z));
    bare = λ n. refl;
  }

-- A head alone has no text.
bare-texts : (kind : ℕ) → text_lengths (lists_of kind head_alone) ≡ 0 ∷ 0 ∷ 0 ∷ 0 ∷ 0 ∷ []
unfolding texts body_text
bare-texts kind = refl

bare-reading : (i : Input) → carries_declarations (kind_of i.k) ≡ false → Gives (λ (x : Declarations × ℕ). x.0 ≡ head_alone) (reading i)
unfolding reading
bare-reading i n = rw n (go (fault_of i))
  where
    go : (f : Option Cause) → Gives (λ (x : Declarations × ℕ). x.0 ≡ head_alone) (if_some f nothing_read λ c. refused c 0)
    go none = refl
    go (some c) = tt

-- Where it is not, the room tells the lengths of what was read.
module _ (i : Input) (d : Declarations) (left : ℕ) (e : reading i ≡ ok (d, left)) where
  abbrev rows : List Row
  rows = declaration_rows (kind_of i.k) d

  abbrev entered : ℕ
  entered = allowance - left

  number_is : (sheet text : List ℕ) → (read sheet text i).number ≡ (written sheet text rows entered).number
  number_is sheet text = ap (λ (a : Answer). a.number) (read-written sheet text i d left e)

  is-11 : (sheet text : List ℕ) → min (length text) text_limit < length (texts rows) → (read sheet text i).number ≡ 11
  is-11 sheet text h = number_is sheet text ∙ text-refused sheet text rows entered h

  is-12 : (sheet text : List ℕ) → length (texts rows) ≤ min (length text) text_limit → length sheet < length (sheet_from 0 rows)
      → (read sheet text i).number ≡ 12
  is-12 sheet text h g = number_is sheet text ∙ sheet-refused sheet text rows entered h g

  is-0 : (sheet text : List ℕ) → length (texts rows) ≤ min (length text) text_limit → length (sheet_from 0 rows) ≤ length sheet
      → (read sheet text i).number ≡ 0
  is-0 sheet text h g = number_is sheet text ∙ fits-number sheet text rows entered (written-fits sheet text rows entered g h)

  fitted : (sheet text : List ℕ) → (read sheet text i).number ≡ 0 → Fitted sheet text rows entered
  fitted sheet text z = from-0 sheet text rows entered (judged sheet text rows entered) (sym (number_is sheet text) ∙ z)

  told : (sheet text : List ℕ) → (read sheet text i).number ≡ 0 → AsTold (room_of (kind_of i.k) d entered) (read sheet text i)
  told sheet text z =
      let q = read-written sheet text i d left e ∙ (fitted sheet text z).is in
      record {
        number = ap (λ (a : Answer). a.number) q;
        detail = ap (λ (a : Answer). a.detail) q;
        sheet_length = ap (λ (a : Answer). a.sheet_length) q;
        text_length = ap (λ (a : Answer). a.text_length) q;
        types = ap (λ (a : Answer). a.types) q;
      }

  same_read : (x : Declarations) (l : ℕ) → reading i ≡ ok (x, l) → x ≡ d
  same_read x l f =
      let g : ◌≡◌ {A = Declarations × ℕ} (x, l) (d, left) = cc in
      ap (λ (y : Declarations × ℕ). y.0) g

  counted-rows : Units i.d2 → (sheet text : List ℕ) → (read sheet text i).number ≡ 0
      → rows_of (sheet_bytes (read sheet text i)) (text_bytes (read sheet text i)) ≡ some rows
  counted-rows u sheet text z =
      let a = accepted-reads sheet text i z in
      read_back sheet text i u a ∙ ap (λ (x : Declarations). some (declaration_rows (kind_of i.k) x)) (same_read a.declarations a.left a.reads)

  read-exact : RoomExact i (room_of (kind_of i.k) d entered)
  read-exact = record {
    refused = λ n. absurd (n refl);
    refuses = λ sheet text a b c.
        no_other sheet text rows entered (judged sheet text rows entered) (λ z. a (number_is sheet text ∙ z)) (λ z. b (number_is sheet text ∙ z)) λ z.
        c (number_is sheet text ∙ z);
    early = ((λ z. omega arith), λ z. omega arith);
    text_exact = λ sheet text. (
      (λ z. (refl, from-11 sheet text rows entered (judged sheet text rows entered) (sym (number_is sheet text) ∙ z))),
      λ p. is-11 sheet text p.1,
    );
    sheet_exact = λ sheet text. (
      (λ z.
          let q = from-12 sheet text rows entered (judged sheet text rows entered) (sym (number_is sheet text) ∙ z) in
          (refl, q.0, q.1)),
      λ p. is-12 sheet text p.1 p.2,
    );
    accepted_exact = λ sheet text. (
      (λ z. let f = fitted sheet text z in (refl, f.text_fits, f.sheet_fits)),
      λ p. is-0 sheet text p.1 p.2,
    );
    accepted = told;
    enough = λ z h sheet text s t. is-0 sheet text (omega arith) (omega arith);
    less_text = λ z sheet text t. is-11 sheet text (omega arith);
    less_sheet = λ z h sheet text s t. is-12 sheet text (omega arith) (omega arith);
    some_sheet = λ z. omega (arith, sheet-by-kinds (kind_of i.k) d);
    counted = λ u sheet text z. (rows, counted-rows u sheet text z, refl);
    added = texts-add (kind_of i.k) d;
    added_exact = λ sheet text. (
      (λ z.
          let over = from-11 sheet text rows entered (judged sheet text rows entered) (sym (number_is sheet text) ∙ z) in
          (refl, omega (arith, over, texts-add (kind_of i.k) d))),
      λ p. is-11 sheet text (omega (arith, p.1, texts-add (kind_of i.k) d)),
    );
    owned = λ x l f.
        lists-are (kind_of i.k) d ∙ ap (λ (y : Declarations). member_texts (declaration_rows (kind_of i.k) y)) (sym (same_read x l f));
    listed = λ u sheet text z. (rows, counted-rows u sheet text z, lists-are (kind_of i.k) d);
    bare = λ n. ap (λ (x : Declarations). text_lengths (lists_of (kind_of i.k) x)) (gives-ok (λ x. x.0 ≡ head_alone) e (bare-reading i n)) ∙ bare-texts (kind_of i.k);
  }

-- For every input, and whatever areas it is read into.
pub room_exact : (i : Input) → RoomExact i (room i)
unfolding room
room_exact i = go (reading i) refl
  where
    go : (x : Res (Declarations × ℕ)) → reading i ≡ x → RoomExact i (room_by (kind_of i.k) x)
    go (ok r) e = read-exact i r.0 r.1 e
    go (refused c place) e = refused-exact i c place e
