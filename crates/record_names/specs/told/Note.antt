-- What is noted of a record: what it builds, in two words.
-- Assumes nothing.
use Rattle.std.specs.Prelude.{◌≡◌, true, false, ℕ, ◌-◌, ◌/◌, ◌%◌, ◌≤◌, ◌<◌, eqb, if◌then◌else◌, Option, Some, None}
use Rattle.foundation.specs.declared.Span.{Span}
use Rattle.names.specs.told.Name.{operation_of, OfBytes}
use Rattle.names.specs.declared.name.Name.{Name}
use Rattle.names.specs.declared.name.Source.{Source}
use Rattle.names.specs.declared.name.Source.TheVariants.{Payload, Predefined, D2}
use Rattle.record_names.specs.declared.note.Words.{Words}

-- The first word: where the name's part of its source begins and ends, and the same of its class name, 16 bits each. The second, from its low
-- bits on: kind, 2 bits; operation, 2; the characters that are replaced and put in their place, 21 each; the size of the text, 18.
-- Kind 0: the record doesn't decide; 1: it decides, and has no text; 2 and 3: its name is made of the payload and of the predefined list.
abbrev pub source_kind : Source → ℕ
source_kind Payload = 2
source_kind Predefined = 3
source_kind D2 = 2

abbrev pub source_of : ℕ → Source
source_of kind = if eqb kind 2 then Payload else Predefined

abbrev pub noted_part : ℕ → Span
noted_part place = record { start = place % 65536; end = place / 65536 % 65536 }

abbrev pub noted_name : ℕ → ℕ → Name
noted_name place steps = record {
  source = source_of (steps % 4);
  part = noted_part place;
  from = steps / 4 / 4 % 2097152;
  to = steps / 4 / 4 / 2097152 % 2097152;
  operation = operation_of (steps / 4 % 4);
  qualified = false;
  size = steps / 4 / 4 / 2097152 / 2097152;
}

-- the size of the text as a class name, which begins later where L and ; are dropped
abbrev pub class_size : ℕ → ℕ → ℕ → ℕ
class_size size start first = if eqb first start then size else size - 2

-- a record's name as a class name, made of another part of its source
abbrev pub class_of : Name → Span → Name
class_of n part = record {
  source = n.source;
  part = part;
  from = n.from;
  to = n.to;
  operation = n.operation;
  qualified = true;
  size = class_size n.size n.part.start part.start;
}

-- what two words say, by what is made of a name that they say
abbrev pub noted_by : (Name → Name) → ℕ → ℕ → Option (Option Name)
noted_by f place steps = if eqb (steps % 4) 0 then None else if eqb (steps % 4) 1 then Some None else Some (Some (f (noted_name place steps)))

unfoldable pub noted : ℕ → ℕ → Option (Option Name)
noted = noted_by λ n. n

unfoldable pub noted_class : ℕ → ℕ → Option (Option Name)
noted_class place steps = noted_by (λ n. class_of n (noted_part (place / 65536 / 65536))) place steps

-- a name that two words can hold
pub record NameFits (n : Name) : Type 0 where
  pub source : OfBytes n.source
  pub start : n.part.start < 65536
  pub end : n.part.end < 65536
  pub from : n.from < 2097152
  pub to : n.to < 2097152
  pub qualified : n.qualified ≡ false
  pub size : n.size ≤ 131072

-- the words of a name and of the part that is left of it as a class name
abbrev pub WordsTold : Name → Span → Words → Type 0
WordsTold n part w = (noted w.place w.steps ≡ Some (Some n)) × (noted_class w.place w.steps ≡ Some (Some (class_of n part)))
