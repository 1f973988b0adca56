-- A record's name clipped to what it is made of, and its size.
-- Assumes nothing.
use Rattle.std.specs.Prelude.{◌≡◌, List, ℕ, ◌≤◌, min}
use Rattle.names.specs.declared.name.Name.{Name}
use Rattle.names.specs.declared.name.Source.{Source}
use Rattle.names.specs.declared.name.Source.TheVariants.{Payload, Predefined, D2}
use Rattle.foundation.specs.declared.Span.{Span}
use Rattle.record_names.specs.told.ClassNames.{part_size}

-- how far the source of a name goes, in a payload of so many bytes
abbrev pub limit_of : Source → ℕ → ℕ
limit_of Payload size = size
limit_of Predefined size = 878
limit_of D2 size = size

-- a part, as far as its source goes
abbrev pub clipped_part : ℕ → Span → Span
clipped_part limit p = record { start = min p.start (min p.end limit); end = min p.end limit }

abbrev pub clipped_name : ℕ → Name → Name
clipped_name size n = record {
  source = n.source;
  part = clipped_part (limit_of n.source size) n.part;
  from = n.from;
  to = n.to;
  operation = n.operation;
  qualified = n.qualified;
  size = 0;
}

abbrev pub ClipTold : ℕ → Name → Name → Type 0
ClipTold size n r = r ≡ clipped_name size n

-- how many bytes a record's name takes before its operation; 0 says nothing
pub record SizeTold (bytes : List ℕ) (n : Name) (r : ℕ) : Type 0 where
  pub fits : r ≤ 131072
  pub is : (r ≡ 0 → ⊥) → r ≡ part_size bytes n n.part

abbrev pub with_size : Name → ℕ → Name
with_size n size = record {
  source = n.source;
  part = n.part;
  from = n.from;
  to = n.to;
  operation = n.operation;
  qualified = n.qualified;
  size = size;
}
