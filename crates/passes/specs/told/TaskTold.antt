-- What the reply to a task tells of a reading: the answer, or the room that it takes, list by list.
-- Assumes nothing.
use Rattle.std.specs.Prelude.{◌≡◌, List, [], ◌∷◌, ◌++◌, ℕ, ◌-◌, length, Result, Ok, Err}
use Rattle.foundation.specs.Results.{Res, ok, refused}
use Rattle.sheet.specs.Rows.{Row, texts, sheet_from}
use Rattle.declaration_rows.specs.Declarations.{Declarations}
use Rattle.schema.specs.Reading.{allowance}
use Rattle.members.specs.Lists.{section_rows}
use Rattle.members.specs.declared.list.Member.TheVariants as member
use Rattle.inputs.specs.told.KindTold.{kind_number}
use Rattle.inputs.specs.told.OutcomesTold.{told, RefusedAs}
use Rattle.inputs.specs.declared.outcome.Sizes.{Sizes}
use Rattle.inputs.specs.declared.outcome.Refusal.{Refusal}
use Rattle.sheet.specs.declared.State.{State}
use Rattle.declarations.specs.Payload.{head_row, declaration_rows}
use Rattle.schema.specs.declared.Section.{Section}
use Rattle.declarations.specs.declared.body.Sections.{Sections}
use Rattle.passes.specs.Answered.{answered}
use Rattle.passes.specs.told.AreaTold.{start}
use Rattle.passes.specs.declared.Task.{Task}
use Rattle.passes.specs.declared.Task.TheVariants as task
use Rattle.passes.specs.declared.Asked.{Asked}
use Rattle.passes.specs.declared.Reply.{Reply}

-- no list has anything
abbrev pub no_list : Section
no_list = record { state = start; count = 0 }

abbrev pub no_lists : Sections
no_lists = record { head = start; constructors = no_list; functions = no_list; properties = no_list; aliases = no_list }

-- what is taken where both areas are written so far
abbrev pub sizes_at : State → Sizes
sizes_at end = record { sheet = end.sheet; text = end.text; types = allowance - end.types }

-- both lengths, at their true size, and the types entered
abbrev pub room_sizes : List Row → ℕ → Sizes
room_sizes rows left = record { sheet = length (sheet_from 0 rows); text = length (texts rows); types = allowance - left }

-- What is measured of declarations: the whole, where the text of the head and of each list ends, and how many each list has.
pub record Measures (kind : ℕ) (d : Declarations) (left : ℕ) (r : Reply) : Type 0 where
  pub sizes : r.sizes ≡ room_sizes (declaration_rows kind d) left
  pub head_text : r.sections.head.text ≡ length (texts (head_row kind d ∷ []))
  pub constructors_text : r.sections.constructors.state.text ≡ length (texts (head_row kind d ∷ section_rows member.Constructor d))
  pub functions_text :
      r.sections.functions.state.text
      ≡ length (texts (head_row kind d ∷ (section_rows member.Constructor d ++ section_rows member.Function d)))
  pub properties_text :
      r.sections.properties.state.text
      ≡ length (texts (head_row kind d ∷ (section_rows member.Constructor d ++ (section_rows member.Function d ++ section_rows member.Property d))))
  pub constructor_count : r.sections.constructors.count ≡ length d.constructors
  pub function_count : r.sections.functions.count ≡ length d.functions
  pub property_count : r.sections.properties.count ≡ length d.properties
  pub alias_count : r.sections.aliases.count ≡ length d.aliases

-- a reply's sizes, or the refusal
abbrev pub sizes_of : Result Reply Refusal → Result Sizes Refusal
sizes_of (Ok r) = Ok r.sizes
sizes_of (Err refusal) = Err refusal

-- The room that a reading takes, or its refusal.
abbrev pub RoomTold : ℕ → Res (Declarations × ℕ) → Result Reply Refusal → Type 0
RoomTold kind (ok read) r = (reply : Reply) × (r ≡ Ok reply) × Measures kind read.0 read.1 reply
RoomTold kind (refused c place) r = RefusedAs c place (sizes_of r)

-- By the task: the answer with both areas; or the room, with both areas as they were.
abbrev pub TaskToldBy : Task → ℕ → Res (Declarations × ℕ) → Result Reply Refusal → (S S' T T' : List ℕ) → Type 0
TaskToldBy task.Read kind reading r S S' T T' = answered S T kind reading ≡ told (sizes_of r) S' T'
TaskToldBy task.Room kind reading r S S' T T' = RoomTold kind reading r × (S' ≡ S) × (T' ≡ T)

abbrev pub TaskTold : Asked → Res (Declarations × ℕ) → Result Reply Refusal → (S S' T T' : List ℕ) → Type 0
TaskTold asked = TaskToldBy asked.task (kind_number asked.kind)
