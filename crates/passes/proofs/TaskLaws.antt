-- What the reply to a task tells, at each exit.
-- Assumes nothing.
use mathlib.Core.Path.{◌≡◌, refl, ap, sym, subst, ◌∙◌}
use mathlib.Core.List.{List}
use Prim.Native.Nat.{ℕ}
use native.Mathlib.Omega.{arith}
use Rattle.inputs.specs.told.KindTold.{kind_number}
use Rattle.foundation.specs.Results.{Res, refused}
use Rattle.sheet.specs.declared.State.{State}
use Rattle.declaration_rows.specs.Declarations.{Declarations}
use Rattle.schema.specs.told.SchemaTold.{Lent}
use Rattle.std.specs.Prelude.{Result, Ok, Err}
use Rattle.inputs.specs.told.OutcomesTold.{refusal_cause, refusal_place, told}
use Rattle.inputs.specs.declared.outcome.Sizes.{Sizes}
use Rattle.inputs.specs.declared.outcome.Refusal.{Refusal}
use Rattle.declarations.specs.declared.body.Sections.{Sections}
use Rattle.passes.specs.Answered.{answered}
use Rattle.passes.specs.told.AreaTold.{lent_reading, start, last_of, MeasuredAt}
use Rattle.passes.specs.told.TaskTold.{no_lists, sizes_at, sizes_of, RoomTold, TaskToldBy, TaskTold}
use Rattle.passes.specs.declared.Task.{Task}
use Rattle.passes.specs.declared.Task.TheVariants as task
use Rattle.passes.specs.declared.Asked.{Asked}
use Rattle.passes.specs.declared.Reply.{Reply}
use Rattle.passes.proofs.AreaLaws.{size_is, length-is, left_is}

pub lists_none : {s : State} → s ≡ start
    → ◌≡◌ {A = Sections} (
    record {
      head = s;
      constructors = record { state = s; count = 0 };
      functions = record { state = s; count = 0 };
      properties = record { state = s; count = 0 };
      aliases = record { state = s; count = 0 };
    }) no_lists
lists_none e = rw e

-- A refusal tells the same for every task, and leaves both areas as they are.
pub reply_refused : (t : Task) (kind : ℕ) (x : Res (Declarations × ℕ)) (refusal : Refusal) (S T : List ℕ) → x ≡ refused (refusal_cause refusal) (refusal_place refusal)
    → TaskToldBy t kind x (Err refusal) S S T T
reply_refused t kind x refusal S T e =
    subst (λ (y : Res (Declarations × ℕ)). TaskToldBy t kind y (Err refusal) S S T T) (sym e) (by-task t)
  where
    by-task : (t : Task) → TaskToldBy t kind (refused (refusal_cause refusal) (refusal_place refusal)) (Err refusal) S S T T
    by-task task.Read = refl
    by-task task.Room = (λ sheet text. refl, refl, refl)

-- An answer is what the task Read asks for,
pub reply_answered : (asked : Asked) (x : Res (Declarations × ℕ)) (S S' T T' : List ℕ) (r : Result Reply Refusal) {o : Result Sizes Refusal} → asked.task ≡ task.Read
    → answered S T (kind_number asked.kind) x ≡ told o S' T' → sizes_of r ≡ o → TaskTold asked x r S S' T T'
reply_answered asked x S S' T T' r e h f =
    subst (λ (t : Task). TaskToldBy t (kind_number asked.kind) x r S S' T T') (sym e) (h ∙ ap (λ (p : Result Sizes Refusal). told p S' T') (sym f))

-- and the room what the task Room does.
pub reply_room : (asked : Asked) (x : Res (Declarations × ℕ)) (S T : List ℕ) (r : Result Reply Refusal) → asked.task ≡ task.Room → RoomTold (kind_number asked.kind) x r
    → TaskTold asked x r S S T T
reply_room asked x S T r e h = subst (λ (t : Task). TaskToldBy t (kind_number asked.kind) x r S S T T) (sym e) (h, refl, refl)

-- What was measured, told.
pub measured_room : (kind : ℕ) (e : Lent) (at : ℕ) (b : Sections) (SS TT : List ℕ) → MeasuredAt kind e at b SS TT → (r : Reply)
    → r.sizes ≡ sizes_at (last_of b)
    → r.sections ≡ b → RoomTold kind (lent_reading kind e) (Ok r)
measured_room kind e at b SS TT m r p f =
    subst (λ (y : Res (Declarations × ℕ)). RoomTold kind y (Ok r)) (sym m.reads) (
      r,
      refl,
      record {
        sizes = p ∙ rw (size_is kind e at b SS TT m, length-is kind e at b SS TT m, left_is kind e at b SS TT m);
        head_text = rw f (omega (arith, m.written.head_end.text));
        constructors_text = rw f (omega (arith, m.written.constructors_end.text));
        functions_text = rw f (omega (arith, m.written.functions_end.text));
        properties_text = rw f (omega (arith, m.written.properties_end.text));
        constructor_count = rw f m.written.constructor_count;
        function_count = rw f m.written.function_count;
        property_count = rw f m.written.property_count;
        alias_count = rw f m.written.alias_count;
      },
    )
