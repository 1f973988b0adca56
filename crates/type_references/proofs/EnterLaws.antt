-- A type is entered: its own row is written whole, and what is read of it is that row and those of its arguments.
-- Assumes nothing.
use mathlib.Core.Path.{◌≡◌, refl, ap, sym, subst, ◌∙◌}
use mathlib.Core.Bool.{Bool, false, ◌||◌}
use mathlib.Core.List.{List, [], ◌∷◌, ◌++◌, append-nil}
use mathlib.Core.Option.{Option, none}
use Prim.Native.Nat.{ℕ, zero, suc, ◌+◌, ◌-◌, ◌≤◌}
use native.Mathlib.Nat.{add-zero}
use native.Mathlib.Omega.{arith}
use lib.ListN.{length, set}
use lib.Seq.{sets}
use Rattle.foundation.specs.Digits.{little}
use Rattle.foundation.specs.Results.{Res, ok, refused, ◌from◌}
use Rattle.foundation.specs.Texts.{Text}
use Rattle.fields.specs.Fields.{Type-argument, Type-nullable, Type-class_name}
use Rattle.wire.specs.Wire.{Message, cut}
use Rattle.wire.specs.Messages.{index, flag, messages}
use Rattle.messages.specs.told.Asked.{CheckedTold, index_told, bodies}
use Rattle.wire.specs.declared.WireError.{WireError}
use Rattle.wire.proofs.WalkLaws.{ok_same}
use Rattle.names.specs.told.Name.{name_text}
use Rattle.names.specs.declared.name.Name.{Name}
use Rattle.sheet.specs.Rows.{Cell, num, bit, one_if, Row, row, cell_text, body_text, texts, sheet_from}
use Rattle.sheet.specs.told.Put.{PutCells, PutRows, past}
use Rattle.sheet.specs.declared.State.{State}
use Rattle.sheet.proofs.PutLaws.{put-sheet, put-text, put-types, put-left, cell_put, head_then, row_done}
use Rattle.sheet.proofs.RowLaws.{body_length, rows_length, sheet-length}
use Rattle.declaration_rows.specs.Declarations.{star, no_types, and_type, Argument, projected, blank, types_of}
use Rattle.schema.specs.Reading.{pure, enter, kept, Scope, class_name_in, allowance}
use Rattle.schema.specs.Types.{max_depth, argument_in, type_at}
use Rattle.declaration_rows.specs.Rows.{name_cell, argument_role, type_cells, types_rows}
use Rattle.schema.specs.told.SchemaTold.{Lent, NamesOf, Ready, Spends, stop_refused}
use Rattle.schema.specs.told.TypesTold.{or_nullable, rows_in}
use Rattle.schema.specs.told.PlacesTold.{TableOf}
use Rattle.schema.specs.told.HeadTold.{HeadTold}
use Rattle.schema.specs.declared.Stop.TheVariants as stop
use Rattle.schema.specs.declared.head.TypeHead.{TypeHead}
use Rattle.schema.proofs.HeadLaws.{no-messages}
use Rattle.schema.proofs.NamedLaws.{cell-length, head-put}
use Rattle.schema.proofs.ParseLaws.{type_none, of_fields, type_entered, type-uncut, type-done, type_rows_lem}
use Rattle.type_references.specs.told.Pending.{rows_read, prefixed, argument_rows}
use Rattle.type_references.specs.told.ParseTold.{CountTold, ArgumentsCut, ArgumentsKept, CountedTold, StarTold, EnterTold}
use Rattle.std.specs.declared.option.Option as rust
use Rattle.std.specs.declared.option.Option.TheVariants.{None}
use Rattle.std.specs.declared.result.Result.{Result}
use Rattle.std.specs.declared.result.Result.TheVariants.{Ok, Err}

-- a type's own row
abbrev pub type_row : ℕ → Bool → Option Text → ℕ → ℕ → List Row
type_row role nullable name count projection = row 6 (type_cells role nullable name count projection) ∷ []

-- what it takes
row-length : (o role : ℕ) (nullable : Bool) (name : Option Text) (count projection : ℕ) → length (sheet_from o (type_row role nullable name count projection)) ≡ 10
unfolding rows_length body_length
row-length o role nullable name count projection = sheet-length o (type_row role nullable name count projection)

row-text : (role : ℕ) (nullable : Bool) (name : Option Text) (count projection : ℕ)
    → texts (type_row role nullable name count projection) ≡ cell_text (name_cell name)
unfolding texts body_text
row-text role nullable name count projection = simp append-nil

-- a number after what is written
number_put : (width n : ℕ) (s : State) (S S' T : List ℕ) → S' ≡ sets S s.sheet (little width n) → PutCells (num width n ∷ []) s.types s (past width s) S S' T T
number_put width n s S S' T e = cell_put (num width n) S T (simp add-zero) e refl

-- and that it is written
pub type_put : (role projection : ℕ) (nullable : Bool) (name : Option Text) (count : ℕ) (s : State) (S T : List ℕ) {S₁ S₂ S₃ S₄ S₅ S₆ T₄ : List ℕ} {head : State}
    → S₁ ≡ set S s.sheet 6 → S₂ ≡ sets S₁ (s.sheet + 1) (little 1 role) → S₃ ≡ sets S₂ (s.sheet + 2) (little 1 (one_if nullable))
    → PutCells (name_cell name ∷ []) (s.types - 1) (record { sheet = s.sheet + 3; text = s.text; types = s.types - 1 }) head S₃ S₄ T T₄
    → S₅ ≡ sets S₄ head.sheet (little 2 count) → S₆ ≡ sets S₅ (head.sheet + 2) (little 1 projection)
    → PutRows (type_row role nullable name count projection) (s.types - 1) s (past 1 (past 2 head)) S S₆ T T₄
type_put role projection nullable name count s S T {S₄ = S₄} {S₅ = S₅} {S₆ = S₆} {T₄ = T₄} {head} p q u v w z =
    let cells : List Cell = num 1 role ∷ bit nullable ∷ name_cell name ∷ [] in
    let written = head-put role nullable name s S T p q u v in
    let counted = number_put 2 count head S₄ S₅ T₄ w in
    let whole = head_then 6 (cells ++ (num 2 count ∷ [])) (num 1 projection ∷ []) (head_then 6 cells (num 2 count ∷ []) written counted)
    (number_put 1 projection (past 2 head) S₅ S₆ T₄ z) in
    put-left (row_done 6 (cells ++ (num 2 count ∷ num 1 projection ∷ [])) whole) (put-types written)

-- A row takes no more than is counted for a type.
row-spends : {e : Lent} {s s' : State} → Ready e s → 1 ≤ s.types → (role projection : ℕ) (nullable : Bool) (name : rust.Option Name) (count : ℕ) {S S' T T' : List ℕ}
    → PutRows (type_row role nullable (name_text e.payload e.d2 name) count projection) (s.types - 1) s s' S S' T T' → Spends s s'
row-spends {e} {s} ready some_left role projection nullable name count p =
    let name-is = name_text e.payload e.d2 name in
    let most = cell-length e.payload e.d2 name ready.payload-short ready.d2-short in
    let cells = row-length s.text role nullable name-is count projection in
    let written = ap length (row-text role nullable name-is count projection) in
    record {
      sheet = omega (arith, put-sheet p, put-types p, some_left);
      text = omega (arith, put-text p, put-types p, some_left);
      types = omega (arith, put-types p);
    }

-- A star is entered, if a type may be.
pub star_none : (s : State) → s.types ≡ 0 → {S S' T T' : List ℕ} → StarTold s (Err stop.TooManyTypes) S S' T T'
star_none s h = record { spends = tt; is = ap (enter (pure (projected star blank))) h }

star_entered : (n : ℕ) → 1 ≤ n → enter (pure (projected star blank)) n ≡ ok (projected star blank, n - 1)
star_entered zero h = absurd (omega arith)
star_entered (suc n) h = let less : n ≡ suc n - 1 = omega arith in ap (λ (k : ℕ). ok (projected star blank, k)) less

pub star_done : (e : Lent) (s : State) → Ready e s → (s.types ≡ 0 → ⊥) → {s' : State} {S S' T T' : List ℕ}
    → PutRows (type_row argument_role false none 0 star) (s.types - 1) s s' S S' T T' → StarTold s (Ok s') S S' T T'
unfolding types_rows
star_done e s ready h p =
    let some_left : 1 ≤ s.types = omega arith in
    record {
      spends = row-spends ready some_left argument_role star false None 0 p;
      is = (projected star blank, s.types - 1, star_entered s.types some_left, p);
    }

-- A type that is entered: its rows are its own, then those of its arguments, if these are as many as its own row says.
module _ (c : Scope) (d : ℕ) (m : Message) (n : ℕ) (h : 1 ≤ n) (l : n ≤ allowance) {ms : List Message} (e : messages Type-argument m ≡ ok ms)
    {k : ℕ} (f : k ≡ n - 1) {name : Option Text} (i : (b : ℕ) → class_name_in c Type-class_name m b ≡ ok (name, b)) where
  pub entered-rows : (role projection : ℕ) (nullable : Bool) {either : Bool} → (nullable || flag Type-nullable m) ≡ either → (count : ℕ)
      → ((ts : List Argument) (b : ℕ) → kept (argument_in (type_at allowance c) c (d + 1)) ms k ≡ ok (ts, b) → count ≡ length ts)
      → rows_read (λ t. rows_in role projection (or_nullable nullable t)) (type_at allowance c d m n)
      ≡ prefixed (type_row role either name count projection) (rows_read argument_rows (kept (argument_in (type_at allowance c) c (d + 1)) ms k))
  unfolding of_fields
  entered-rows role projection nullable {either} q count u = go (kept (argument_in (type_at allowance c) c (d + 1)) ms k) refl
    where
      go : (r : Res (List Argument × ℕ)) → kept (argument_in (type_at allowance c) c (d + 1)) ms k ≡ r
          → rows_read (λ t. rows_in role projection (or_nullable nullable t)) (type_at allowance c d m n)
          ≡ prefixed (type_row role either name count projection) (rows_read argument_rows r)
      go (ok r) g =
          ap (rows_read (λ t. rows_in role projection (or_nullable nullable t))) (type-done c d m n h l e f g (i r.1))
          ∙ ap (λ (y : Bool). pure (types_rows role (and_type projection y name (types_of r.0) no_types)) r.1) q
          ∙ ap (λ (rs : List Row). pure rs r.1) (sym (type_rows_lem role projection either name r.0 count (u r.0 r.1 g)))
      go (refused cause at) g =
          let it : type_at allowance c d m n ≡ refused cause at = type_entered c d m n h l ∙ rw (e, ← f, g) in
          ap (rows_read (λ t. rows_in role projection (or_nullable nullable t))) it

-- The arguments of a type are counted: it has none, one isn't cut, or all are.
module _ (e : Lent) (msg : List ℕ) (base left : ℕ) where
  pub counted_none : ((m : Message) → cut (◌from◌ base msg) ≡ ok m → bodies Type-argument m ≡ [])
      → CountedTold e msg base left (Ok 0)
  unfolding kept
  counted_none h = record {
    cuts = λ m k. ([], no-messages Type-argument m (h m k));
    kept = record {
      is = λ c s m k ms g d deep ts l b r.
          let none : ms ≡ [] = ok_same (sym g ∙ no-messages Type-argument m (h m k)) in
          let same : pure {A = List Argument} [] l ≡ ok (ts, b) = sym (ap (λ (x : List Message). kept (argument_in (type_at allowance c) c d) x l) none) ∙ r in
          ap (λ (x : List Argument × ℕ). length x.0) (ok_same same);
    };
  }

  -- the same count at the same depth
  pub counted-is : {deeper count n : ℕ} → deeper ≡ left → {x : Result ℕ WireError} → CountedTold e msg base deeper x → x ≡ Ok n → count ≡ n
      → CountedTold e msg base left (Ok count)
  counted-is {deeper} {count} d t g h =
      subst (λ (k : ℕ). CountedTold e msg base k (Ok count)) d (subst (CountedTold e msg base deeper) (g ∙ ap Ok (sym h)) t)

  module _ {x : Result Unit WireError} (t : (m : Message) → cut (◌from◌ base msg) ≡ ok m → CheckedTold (messages Type-argument m) x) where
    pub counted-uncut : {error : WireError} → x ≡ Err error → CountedTold e msg base left (Err error)
    counted-uncut g = record { cuts = λ m k. subst (CheckedTold (messages Type-argument m)) g (t m k); kept = tt }

    pub counted-all : {count : ℕ} → x ≡ Ok tt → CountTold e msg base left count
        → CountedTold e msg base left (Ok count)
    counted-all g n = record { cuts = λ m k. subst (CheckedTold (messages Type-argument m)) g (t m k); kept = n }

module _ (e : Lent) (msg : List ℕ) (base left role projection : ℕ) (nullable : Bool) (s : State) where
  pub enter-none : s.types ≡ 0 → {S S' T T' : List ℕ} → EnterTold e msg base left role projection nullable s (Err stop.TooManyTypes) S S' T T'
  enter-none h = record { spends = tt; one = tt; is = λ c o m k d l. type_none c d m s.types h }

  module _ (ready : Ready e s) (h : s.types ≡ 0 → ⊥) {deeper : ℕ} (less : deeper ≡ left - 1) (x : Result ℕ WireError)
      (t : CountedTold e msg base deeper x) where
    some_left : 1 ≤ s.types
    some_left = omega arith

    pub enter-uncut : {error : WireError} → x ≡ Err error → {S S' T T' : List ℕ}
        → EnterTold e msg base left role projection nullable s (Err (stop.Wire error)) S S' T T'
    enter-uncut {error} g = record {
      spends = tt;
      one = tt;
      is = λ c o m k d l.
          let cuts : messages Type-argument m ≡ stop_refused (stop.Wire error) = subst (ArgumentsCut (messages Type-argument m)) g (t.cuts m k) in
          type-uncut c d m s.types some_left ready.room.types error cuts;
    }

    module _ {count : ℕ} (g : x ≡ Ok count) {own : TypeHead} (f : HeadTold base msg own) {either : Bool} (q : either ≡ (nullable || own.nullable)) (name : rust.Option Name)
        (i : (c : Scope) → NamesOf e.payload e.d2 e.ends e.notes e.tables.records c.names
        → (k : ℕ) (m : Message) → index k m ≡ index_told own.name → (l : ℕ) → class_name_in c k m l ≡ ok (name_text e.payload e.d2 name, l))
        {s' : State} {S S' T T' : List ℕ}
        (p : PutRows (type_row role either (name_text e.payload e.d2 name) count projection) (s.types - 1) s s' S S' T T') where
      pub enter-done : EnterTold e msg base left role projection nullable s (Ok s') S S' T T'
      enter-done = record {
        spends = row-spends ready some_left role projection either name count p;
        one = omega (arith, put-types p, some_left);
        is = λ c o m k d l.
            let whole : ArgumentsCut (messages Type-argument m) (Ok count) = subst (ArgumentsCut (messages Type-argument m)) g (t.cuts m k) in
            let few : CountTold e msg base deeper count =
            subst (ArgumentsKept e msg base deeper) g t.kept in
            let table : TableOf e.payload e.notes e.tables c = record { entries = o.entries; nullable = o.nullable } in
            let deep : deeper ≡ max_depth - (d + 1) = omega arith in
            let name-is = name_text e.payload e.d2 name in
            let nulls : (nullable || flag Type-nullable m) ≡ either = ap (λ (y : Bool). nullable || y) (f.nullable m k) ∙ sym q in (
              whole.0,
              type_row role either name-is count projection,
              whole.1,
              put-left p (sym (put-types p)),
              entered-rows c d m s.types some_left ready.room.types whole.1 (put-types p) (i c o.names Type-class_name m (f.name m k)) role projection nullable nulls
                  count (λ ts b r. few.is c table m k whole.0 whole.1 (d + 1) deep ts s'.types b r),
            );
      }
