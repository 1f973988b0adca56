-- Every accepted answer keeps its promises.
-- Assumes nothing.
use mathlib.Core.Path.{◌≡◌, refl, ◌∙◌, ap}
use mathlib.Core.List.{List, [], ◌∷◌, ◌++◌, map}
use mathlib.Core.Option.{some}
use mathlib.Core.Bool.{◌&&◌}
use Prim.Native.Nat.{ℕ, ◌+◌, ◌-◌, ◌≤◌, ◌<◌}
use native.Mathlib.Omega.{arith}
use borrow.Author.Tests.{leb-true}
use lib.Dec.{leb}
use lib.IntN.{ℤ, pos, negsuc}
use lib.ListN.{length}
use Rattle.foundation.specs.Choices.{concat, All}
use Rattle.foundation.specs.Results.{ok}
use Rattle.foundation.proofs.ChoiceLaws.{if_ind, and_right, all_weaken}
use Rattle.foundation.proofs.ResultLaws.{gives-ok}
use Rattle.characters.specs.WellFormed.{WellFormed, Units}
use Rattle.sheet.specs.Rows.{Row, texts, sheet_from}
use Rattle.sheet.specs.Reading.{rows_of}
use Rattle.sheet.proofs.ReadBack.{InTable, sheet_back}
use Rattle.sheet.proofs.RefsInOrder.{RowHas, refs_in_order}
use Rattle.declaration_rows.specs.Declarations.{Constructor, Function, Declarations}
use Rattle.schema.specs.Reading.{allowance}
use Rattle.declaration_rows.specs.Rows.{constructor_rows, function_rows, property_rows, alias_rows, aliases_rows}
use Rattle.schema.specs.Counting.{count_kind}
use Rattle.schema.specs.told.TypeSizes.{constructor_size, function_size, property_size, alias_size, declarations_size}
use Rattle.schema.proofs.Fine.{FineDeclarations}
use Rattle.schema.proofs.TypeCount.{count-append, count_all, constructor_count_lem, function_count_lem, property_count_lem, alias_count_lem}
use Rattle.inputs.specs.Inputs.{Input, kind_of}
use Rattle.inputs.specs.Outcomes.{Answer}
use Rattle.descriptors.specs.Defaults.{constructor_parts, function_parts, default_row, closed_constructor, closed_function}
use Rattle.declarations.specs.Payload.{declaration_rows}
use Rattle.metadata.specs.Read.{reading, read}
use Rattle.promises.specs.Walk.{walk, sheet_of}
use Rattle.promises.specs.Promises.{sheet_bytes, text_bytes, Promised}
use Rattle.promises.proofs.Accepted.{Accepted, accepted-reads, sheet-bytes, text-bytes}
use Rattle.promises.proofs.WalkLaws.{sheet_walked}
use Rattle.promises.proofs.Tabled.{Good, rows_good}
use Rattle.promises.proofs.Sound.{reading_fine, reading_enters}
use Rattle.promises.proofs.Longest.{sheet-short}

kind-small : (k : ℤ) → kind_of k < 256
kind-small (pos n) =
    if_ind (λ (m : ℕ). m < 256) (leb 1 n && leb n 5) {x = n} {y = 1}
    (λ t. let h : n ≤ 5 = leb-true n 5 (and_right (leb 1 n) (leb n 5) t) in omega arith) λ t. omega arith
kind-small (negsuc n) = omega arith

-- the rows of kind 6 are the types of the declarations
closed-constructor_count : (c : Constructor) → count_kind 6 (closed_constructor c) ≡ constructor_size c
unfolding closed_constructor
closed-constructor_count c = count-append 6 (constructor_rows c) (default_row (constructor_parts c) ∷ []) ∙ rw (constructor_count_lem c) (omega arith)

closed-function_count : (f : Function) → count_kind 6 (closed_function f) ≡ function_size f
unfolding closed_function
closed-function_count f = count-append 6 (function_rows f) (default_row (function_parts f) ∷ []) ∙ rw (function_count_lem f) (omega arith)

pub declarations-count : (kind : ℕ) (d : Declarations) → count_kind 6 (declaration_rows kind d) ≡ declarations_size d
unfolding declaration_rows
declarations-count kind d =
    let cs = concat (map closed_constructor d.constructors) in
    let fs = concat (map closed_function d.functions) in
    let ps = concat (map property_rows d.properties) in
    rw (
      count-append 6 cs (fs ++ (ps ++ aliases_rows d.aliases)),
      count-append 6 fs (ps ++ aliases_rows d.aliases),
      count-append 6 ps (aliases_rows d.aliases),
      count_all 6 closed_constructor constructor_size closed-constructor_count d.constructors,
      count_all 6 closed_function function_size closed-function_count d.functions,
      count_all 6 property_rows property_size property_count_lem d.properties,
      count_all 6 alias_rows alias_size alias_count_lem d.aliases,
    )
    (omega arith)

-- a sheet whose rows read back is walked
walk_back : (sheet text : List ℕ) (rows : List Row) (kind : ℕ) (d : Declarations) → rows_of sheet text ≡ some rows → rows ≡ declaration_rows kind d
    → FineDeclarations d → walk sheet text ≡ some (sheet_of kind d)
unfolding walk
walk_back sheet text rows kind d e r f = rw (e, r, sheet_walked kind d f)

-- the rows of what was read are records of the table, their texts well-formed
read_good : (i : Input) → Units i.d2 → (d : Declarations) (left : ℕ) → reading i ≡ ok (d, left) → All Good (declaration_rows (kind_of i.k) d)
read_good i u d left e = rows_good (kind_of i.k) d (kind-small i.k) (gives-ok (λ r. FineDeclarations r.0) e (reading_fine i u))

-- The sheet of an accepted answer reads back as the rows of what was read.
pub read_back : (sheet text : List ℕ) (i : Input) → Units i.d2 → (a : Accepted sheet text i)
    → rows_of (sheet_bytes (read sheet text i)) (text_bytes (read sheet text i)) ≡ some (declaration_rows (kind_of i.k) a.declarations)
read_back sheet text i u a =
    let rows = declaration_rows (kind_of i.k) a.declarations in
    let tabled : All InTable rows = all_weaken Good InTable (λ r g. g.0) rows (read_good i u a.declarations a.left a.reads) in
    rw (sheet-bytes a.fitting, text-bytes a.fitting) (sheet_back rows tabled a.fitting.text_short)

pub promised : (sheet text : List ℕ) (i : Input) → Units i.d2 → (read sheet text i).number ≡ 0 → Promised i (read sheet text i)
promised sheet text i u z =
    let a = accepted-reads sheet text i z in
    let d = a.declarations in
    let rows = declaration_rows (kind_of i.k) d in
    let fine : FineDeclarations d = gives-ok (λ r. FineDeclarations r.0) a.reads (reading_fine i u) in
    let entered : declarations_size d + a.left ≡ allowance = gives-ok (λ r. declarations_size r.0 + r.1 ≡ allowance) a.reads (reading_enters i) in
    let good = read_good i u d a.left a.reads in
    let tabled : All InTable rows = all_weaken Good InTable (λ r g. g.0) rows good in
    let formed : All (RowHas WellFormed) rows = all_weaken Good (RowHas WellFormed) (λ r g. g.1) rows good in
    let s : sheet_bytes (read sheet text i) ≡ sheet_from 0 rows = sheet-bytes a.fitting in
    let t : text_bytes (read sheet text i) ≡ texts rows = text-bytes a.fitting in
    let back : rows_of (sheet_bytes (read sheet text i)) (text_bytes (read sheet text i)) ≡ some rows = read_back sheet text i u a in
    let types : (read sheet text i).types ≡ allowance - a.left = ap (λ (b : Answer). b.types) a.fitting.answer in
    let size : (read sheet text i).text_length ≡ length (texts rows) = ap (λ (b : Answer). b.text_length) a.fitting.answer in
    record {
      declarations = d;
      left = a.left;
      reads = a.reads;
      walks = walk_back _ _ rows (kind_of i.k) d back refl fine;
      records = rows;
      are_records = back;
      types_counted = types ∙ omega (arith, declarations-count (kind_of i.k) d, entered);
      types_entered = rw types (omega (arith, entered));
      text_cut = rw (s, t, size) (refs_in_order WellFormed rows tabled formed a.fitting.text_short);
      sheet_short = rw (ap (λ (b : Answer). b.sheet_length) a.fitting.answer) (sheet-short i d a.left a.reads);
      text_short = rw size a.fitting.text_short;
    }
