-- What the code's answers about a record's class name tell, in the definitions' words.
-- Assumes nothing.
use Rattle.std.specs.Prelude.{◌≡◌, true, List, ℕ, ◌+◌, ◌≤◌, ◌<◌, length, eqb, if◌then◌else◌, Some, None}
use Rattle.std.proofs.Math.Option.{Option}
use Rattle.foundation.specs.Choices.{map_option}
use Rattle.foundation.specs.Texts.{Text}
use Rattle.characters.specs.Characters.{utf8, from_utf8}
use Rattle.characters.specs.told.Places.{part_from}
use Rattle.names.specs.Records.{substituted, dotted}
use Rattle.names.specs.Names.{unwrapped}
use Rattle.names.specs.told.Name.{predefined_list, named_text}
use Rattle.names.specs.told.Stream.{base_of}
use Rattle.names.specs.declared.name.Name.{Name}
use Rattle.foundation.specs.declared.Span.{Span}
use Rattle.std.specs.declared.option.Option as rust

-- how many bytes a text takes, every character `from` become `to`
abbrev pub size_with : ℕ → ℕ → List ℕ → ℕ
size_with from to s = length (utf8 (substituted from to (from_utf8 s)))

-- the part of some bytes that is left of their text without L and ;
abbrev pub UnwrapTold : List ℕ → ℕ → ℕ → rust.Option Span → Type 0
UnwrapTold s from to (Some p) =
    (unwrapped (substituted from to (from_utf8 s)) ≡ substituted from to (from_utf8 (part_from p.start p.end s)))
    × (p.start ≤ p.end)
    × (p.end ≤ length s)
    × (0 < p.start)
    × (size_with from to s ≡ size_with from to (part_from p.start p.end s) + 2)
UnwrapTold s from to None = unwrapped (substituted from to (from_utf8 s)) ≡ substituted from to (from_utf8 s)

abbrev pub qualified_part : Name → Span → Name
qualified_part n part = record {
  source = n.source;
  part = part;
  from = n.from;
  to = n.to;
  operation = n.operation;
  qualified = true;
  size = 0;
}

abbrev pub class_text : Option Text → Option Text
class_text = map_option λ u. dotted (unwrapped u)

-- the size of a part of a name's source, after the replacement
abbrev pub part_size : List ℕ → Name → Span → ℕ
part_size payload n part = size_with n.from n.to (part_from part.start part.end (base_of n.source payload predefined_list))

-- The class name of a name is made of the same part of its source, or of a later one without L and ;.
pub record ClassTold (payload : List ℕ) (n r : Name) : Type 0 where
  pub part : r ≡ qualified_part n r.part
  pub is : (d2 : List ℕ) → named_text payload d2 r ≡ dotted (unwrapped (named_text payload d2 n))
  pub inside : n.part.start ≤ n.part.end → (r.part.start ≤ n.part.end) × (r.part.end ≤ n.part.end)
  pub size : part_size payload n n.part ≡ part_size payload n r.part + (if eqb r.part.start n.part.start then 0 else 2)
