-- The whole reading: faults, kinds, the head alone.
-- Assumes nothing.
use mathlib.Core.Path.{◌≡◌, refl, ap, sym, subst, ◌∙◌}
use mathlib.Core.Bool.{Bool, true, false, ◌||◌}
use mathlib.Core.List.{List, [], ◌∷◌, ◌++◌}
use mathlib.Core.Option.{Option, none, some}
use Prim.Native.Nat.{ℕ, ◌*◌, ◌^◌, ◌≤◌, ◌<◌, min}
use native.Mathlib.Omega.{arith}
use borrow.Author.Tests.{ltb-false, lt-ltb, le-ltb}
use lib.Dec.{ltb}
use lib.IntN.{ℤ}
use lib.ListN.{length}
use lib.Seq.{sets}
use lib.Signed.{lt_z}
use Rattle.std.specs.Prelude.{if◌then◌else◌}
use Rattle.foundation.specs.Digits.{little}
use Rattle.foundation.specs.Results.{Res, refused, Cause, d1_too_long, d2_too_long, string_ends, newer_version}
use Rattle.encoding.specs.Encoding.{unit_limit}
use Rattle.lookup.specs.told.Strings.{codes_from}
use Rattle.names.specs.Names.{ends_fit}
use Rattle.std.specs.declared.option.Option.TheVariants.{None}
use Rattle.sheet.specs.Rows.{num, Row, row, sheet_from, texts, body_bytes, body_text}
use Rattle.sheet.specs.told.Put.{PutHead, PutRows, past}
use Rattle.sheet.specs.declared.State.{State}
use Rattle.sheet.proofs.PutLaws.{put_none, put_front}
use Rattle.sheet.proofs.RowLaws.{rows_length, body_length, sheet-length}
use Rattle.declaration_rows.specs.Declarations.{Declarations}
use Rattle.schema.specs.Reading.{allowance}
use Rattle.declaration_rows.specs.told.Written as written
use Rattle.declaration_rows.specs.told.Written.{head_cells, head_counts}
use Rattle.declaration_rows.proofs.RecordLaws.{head-put, aliases-put}
use Rattle.declaration_rows.proofs.WrittenLaws.{head-room, head_small}
use Rattle.declarations.specs.Payload.{declaration_rows}
use Rattle.inputs.specs.Inputs.{Input, kind_of, carries_declarations, string_limit, supported_major, major, later_fault, fault_of, input}
use Rattle.inputs.specs.told.KindTold.{kind_number}
use Rattle.inputs.specs.told.OutcomesTold.{fault_cause, fault_told, told}
use Rattle.inputs.specs.Outcomes as definition
use Rattle.inputs.specs.declared.Fault.{Fault}
use Rattle.std.specs.Prelude.{Result, Ok, Err}
use Rattle.inputs.specs.declared.outcome.Sizes.{Sizes}
use Rattle.inputs.specs.declared.outcome.Refusal.{Refusal}
use Rattle.inputs.specs.declared.outcome.Refusal.TheVariants as why
use Rattle.passes.specs.declared.PassError.{PassError}
use Rattle.passes.specs.declared.PassError.TheVariants as passed
use Rattle.passes.specs.Answered as answers
use Rattle.passes.specs.Answered.{head_alone, nothing_read, sheet_written, answered}
use Rattle.passes.specs.told.AreaTold.{InLimits, start}
use Rattle.passes.specs.told.TaskTold.{no_lists, sizes_of, RoomTold, TaskToldBy, TaskTold}
use Rattle.passes.specs.told.PassTold.{PassedTold, reading_of, reading_by}
use Rattle.passes.specs.declared.Task.{Task}
use Rattle.passes.specs.declared.Asked.{Asked}
use Rattle.passes.specs.declared.Reply.{Reply}
use Rattle.metadata.specs.Read.{reading, read}

-- of a choice that gives none
if_none_lem : (t : Bool) (c : Cause) (x : Option Cause) → (if t then some c else x) ≡ none → (t ≡ false) × (x ≡ none)
if_none_lem true c x e = let z : ◌≡◌ {A = ℕ} 0 1 = cc in absurd (omega arith)
if_none_lem false c x e = (refl, e)

else_none : (t : Bool) (c : Cause) (x : Option Cause) → (if t then x else some c) ≡ none → t ≡ true
else_none true c x e = refl
else_none false c x e = let z : ◌≡◌ {A = ℕ} 0 1 = cc in absurd (omega arith)

or_false : (a b : Bool) → (a || b) ≡ false → a ≡ false
or_false true b e = let z : ◌≡◌ {A = ℕ} 0 1 = cc in absurd (omega arith)
or_false false b e = refl

-- without a fault the host has kept to its limits
pub fault_kept : (i : Input) → fault_of i ≡ none → InLimits i.d1 i.d2 i.ends
unfolding fault_of later_fault
fault_kept i e =
    let version = if lt_z supported_major (major i) then some newer_version else none in
    let strings = if ends_fit 0 i.ends (length i.d2) then version else some string_ends in
    let a = if_none_lem (ltb unit_limit (length i.d1)) d1_too_long (later_fault i) e in
    let b = if_none_lem (ltb unit_limit (length i.d2) || ltb string_limit (length i.ends)) d2_too_long strings a.1 in
    record {
      bytes-short = ltb-false unit_limit (length i.d1) a.0;
      d2-short = ltb-false unit_limit (length i.d2) (or_false (ltb unit_limit (length i.d2)) (ltb string_limit (length i.ends)) b.0);
      fit = else_none (ends_fit 0 i.ends (length i.d2)) string_ends version b.1;
    }

pub read_by : (S T : List ℕ) (i : Input) → read S T i ≡ answered S T (kind_of i.k) (reading i)
unfolding read
read_by S T i = refl

module _ (k : ℤ) (mv : List ℤ) (d1 d2 ends : List ℕ) (f : Result (Unit {0}) Fault) (e : fault_of (input k mv d1 d2 ends) ≡ fault_told f) where
  pub reading-fault : {fault : Fault} → f ≡ Err fault → reading (input k mv d1 d2 ends) ≡ refused (fault_cause fault) 0
  unfolding reading
  reading-fault g = rw (e ∙ ap fault_told g)

  module _ {u : Unit {0}} (g : f ≡ Ok u) where
    no-fault-is : fault_of (input k mv d1 d2 ends) ≡ none
    no-fault-is = e ∙ ap fault_told g

    pub kept-is : InLimits d1 d2 ends
    kept-is = fault_kept (input k mv d1 d2 ends) no-fault-is

    by_kind : reading_by (kind_of k) d1 d2 ends ≡ reading (input k mv d1 d2 ends)
    unfolding reading
    by_kind = rw no-fault-is

    pub task-kind : {kind : ℕ} → kind ≡ kind_of k → (t : Task) (r : Result Reply Refusal) (S S' T T' : List ℕ)
        → TaskToldBy t kind (reading_by kind d1 d2 ends) r S S' T T' → TaskToldBy t (kind_of k) (reading (input k mv d1 d2 ends)) r S S' T T'
    task-kind q t r S S' T T' h =
        subst (λ (x : Res (Declarations × ℕ)). TaskToldBy t (kind_of k) x r S S' T T') by_kind
        (subst (λ (n : ℕ). TaskToldBy t n (reading_by n d1 d2 ends) r S S' T T') q h)

-- By the kind.
module _ (asked : Asked) (d1 d2 ends : List ℕ) (r : Result Reply Refusal) (S S' T T' : List ℕ) where
  pub kind-alone : carries_declarations (kind_number asked.kind) ≡ false → TaskTold asked nothing_read r S S' T T'
      → TaskTold asked (reading_by (kind_number asked.kind) d1 d2 ends) r S S' T T'
  kind-alone c h =
      let nothing : reading_by (kind_number asked.kind) d1 d2 ends ≡ nothing_read = rw c in
      subst (λ (x : Res (Declarations × ℕ)). TaskTold asked x r S S' T T') (sym nothing) h

  pub kind-carries : carries_declarations (kind_number asked.kind) ≡ true → TaskTold asked (reading_of (kind_number asked.kind) d1 d2 ends) r S S' T T'
      → TaskTold asked (reading_by (kind_number asked.kind) d1 d2 ends) r S S' T T'
  kind-carries c h =
      let body : reading_by (kind_number asked.kind) d1 d2 ends ≡ reading_of (kind_number asked.kind) d1 d2 ends = rw c in
      subst (λ (x : Res (Declarations × ℕ)). TaskTold asked x r S S' T T') (sym body) h

-- The head alone, with the count of no aliases.
abbrev alone : ℕ → List Row
alone kind = declaration_rows kind head_alone

alone_length : (kind : ℕ) → length (sheet_from 0 (alone kind)) ≡ 23
unfolding declaration_rows rows_length body_length
alone_length kind = sheet-length 0 (alone kind)

alone_text : (kind : ℕ) → texts (alone kind) ≡ []
unfolding declaration_rows texts body_text
alone_text kind = refl

no_rows : (s : State) (S T : List ℕ) → PutRows [] s.types s s S S T T
unfolding sheet_from texts
no_rows s S T = put_none s S T

alone_rows : (kind : ℕ) {b : ℕ} {s s' : State} {S S' T T' : List ℕ}
    → PutRows (row 1 (head_cells kind none 6 ++ head_counts 0 0 0) ∷ row 9 (num 2 0 ∷ []) ∷ []) b s s' S S' T T' → PutRows (alone kind) b s s' S S' T T'
unfolding declaration_rows
alone_rows kind p = p

module _ (kind : ℕ) (S T : List ℕ) where
  alone-answer : answered S T kind nothing_read ≡ sheet_written S T (alone kind) 0
  unfolding answers.written
  alone-answer = rw (alone_text kind, le-ltb (min (length T) 65534) 0 (omega arith))

  pub alone-over : length S < 23 → answered S T kind nothing_read ≡ told (Err why.SheetTooLong) S T
  unfolding sheet_written
  alone-over h = alone-answer ∙ rw (alone_length kind, lt-ltb (length S) 23 h)

  pub alone-done : {s s₁ s₂ : State} → s ≡ start → {S₁ S₂ S₃ S₄ S' T₁ T₂ T' : List ℕ}
      → PutHead 1 (head_cells kind none 6) s.types s s₁ S S₁ T T₁
      → PutHead 9 [] s₁.types (past 6 s₁) s₂ S₁ S₂ T₁ T₂ → S₃ ≡ sets S₂ s₂.sheet (little 2 0)
      → ((o : ℕ) → S₄ ≡ sets S₃ s₁.sheet (body_bytes o (head_counts 0 0 0))) → 23 ≤ length S → S' ≡ S₄ → T' ≡ T₂
      → answered S T kind nothing_read ≡ told (Ok (record { sheet = 23; text = 0; types = 0 })) S' T'
  unfolding sheet_written
  alone-done {s} {s₁} {s₂} f {S₁} {S₂} {S₃} {S₄} {S'} {T₁} {T₂} {T'} p q z c h i j =
      let p₁ = subst (λ (x : State). PutHead 1 (head_cells kind none 6) x.types x s₁ S S₁ T T₁) f p in
      let w : PutRows (alone kind) s₂.types start (past 2 s₂) S S₄ T T₂ = alone-put p₁ in
      let l = alone_length kind in
      let t : length (texts (alone kind)) ≡ 0 = ap length (alone_text kind) in
      let x = put_front w (omega arith) (omega arith) in
      alone-answer ∙ rw (le-ltb (length S) (length (sheet_from 0 (alone kind))) (omega arith)) (rw (i, j, x.0, x.1, l, t))
    where
      alone-put : PutHead 1 (head_cells kind none 6) allowance start s₁ S S₁ T T₁ → PutRows (alone kind) s₂.types start (past 2 s₂) S S₄ T T₂
      alone-put p = alone_rows kind (head-put kind none 6 0 0 0 (row 9 (num 2 0 ∷ []) ∷ []) p (aliases-put 0 [] q (no_rows (past 2 s₂) S₂ T₂) z) c)

-- the room of the head alone
pub alone_room : (kind : ℕ) (r : Reply) → r.sizes ≡ record { sheet = 23; text = 0; types = 0 } → r.sections ≡ no_lists
    → RoomTold kind nothing_read (Ok r)
unfolding texts body_text
alone_room kind r e f =
    let none : length (texts (alone kind)) ≡ 0 = ap length (alone_text kind) in (
      r,
      refl,
      record {
        sizes = e ∙ rw (alone_length kind, none);
        head_text = rw f;
        constructors_text = rw f;
        functions_text = rw f;
        properties_text = rw f;
        constructor_count = rw f;
        function_count = rw f;
        property_count = rw f;
        alias_count = rw f;
      },
    )

-- where the head ends
pub alone_ends : (kind : ℕ) (payload d2 : List ℕ) → length payload ≤ 32768 → length d2 ≤ 32768 → {s s₁ : State} {S S₁ T T₁ : List ℕ} → s ≡ start
    → PutHead 1 (head_cells kind none 6) s.types s s₁ S S₁ T T₁ → s₁.sheet ≤ 2 ^ 60
alone_ends kind payload d2 a b {s} e p =
    let r : written.RecordRoom 0 payload d2 s = subst (written.RecordRoom 0 payload d2) (sym e) (record { payload = a; d2 = b; places = omega arith }) in
    omega (arith, (head-room (head_cells kind none 6) (head_small r kind None 6) r 1 p).places)

pub start-room : (payload d2 : List ℕ) → length payload ≤ 32768 → length d2 ≤ 32768 → {s : State} → s ≡ start → written.RecordRoom (2 ^ 61) payload d2 s
start-room payload d2 a b e = subst (written.RecordRoom (2 ^ 61) payload d2) (sym e) (record { payload = a; d2 = b; places = omega arith })

-- A frame with room has a reply or a refusal.
pub pass-room : (asked : Asked) (x : Res (Declarations × ℕ)) (room : Type 0) {y : Result Reply PassError} (S S' T T' : List ℕ)
    → PassedTold asked x room y S S' T T' → room → {e : PassError} → y ≡ Err e → e ≡ passed.NoRoom → ⊥
pass-room asked x room S S' T T' t h f g = (subst (λ (z : Result Reply PassError). PassedTold asked x room z S S' T T') (f ∙ ap Err g) t).0 h

-- The notes of a frame are long enough for the units of d1.
pub notes-enough : (units bytes notes : ℕ) {n : ℕ} → n ≡ notes → units ≤ bytes → 3 * bytes ≤ 2 * codes_from notes → 3 * units ≤ 2 * codes_from n
notes-enough units bytes notes e h k = rw e (omega arith)

-- The answer of a reply, with both areas as they come back from the pair that they were lent to.
pub answer-is : (a : definition.Answer) (r : Result Reply Refusal) (o : Result Sizes Refusal) (S T : List ℕ) {S' T' : List ℕ} → S' ≡ S → T' ≡ T
    → a ≡ told (sizes_of r) S T → o ≡ sizes_of r → a ≡ told o S' T'
answer-is a r o S T i j e f = rw (i, j) (e ∙ ap (λ (x : Result Sizes Refusal). told x S T) (sym f))
