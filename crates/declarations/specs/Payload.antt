-- The decoded bytes as declarations, and declarations as the rows of a sheet.
-- Assumes nothing.
use Rattle.std.specs.Prelude.{List, [], ◌∷◌, ◌++◌, ℕ, eqb, length}
use Rattle.std.proofs.Math.Option.{Option}
use Rattle.foundation.specs.Results.{Res, ◌>>=◌, ◌from◌}
use Rattle.foundation.specs.Texts.{Text}
use Rattle.wire.specs.Wire.{Message, cut, read_delimited}
use Rattle.names.specs.Names.{Names, records_of}
use Rattle.sheet.specs.Rows.{num, Row, row}
use Rattle.declaration_rows.specs.Declarations.{Declarations}
use Rattle.schema.specs.Reading.{Read, allowance}
use Rattle.schema.specs.Members.{body_in}
use Rattle.declaration_rows.specs.Rows.{name_cell, aliases_rows}
use Rattle.members.specs.Lists.{section_rows}
use Rattle.members.specs.declared.list.Member.TheVariants as member

-- the body by the metadata kind: 1 is a class
abbrev pub body_of : ℕ → Names → Message → Read Declarations
body_of kind = body_in (eqb kind 1)

-- the decoded bytes: a length-delimited name table, then the body
unfoldable pub payload : ℕ → (ℕ → Res (Option Text)) → List ℕ → Res (Declarations × ℕ)
payload kind d2 bytes =
    read_delimited (◌from◌ 0 bytes) >>= λ (table, rest).
    cut table >>= λ fields.
    records_of fields >>= λ records.
    cut rest >>= λ body.
    body_of kind (record { records = records; d2 = d2 }) body allowance

abbrev pub head_row : ℕ → Declarations → Row
head_row kind d =
    row 1 (
    num 1 kind ∷ name_cell d.name ∷ num 8 d.flags ∷ num 2 (length d.constructors) ∷ num 2 (length d.functions)
    ∷ num 2 (length d.properties) ∷ [])

-- the head, then the rows of each list: constructors, functions, properties, and the type aliases after their count
unfoldable pub declaration_rows : ℕ → Declarations → List Row
declaration_rows kind d =
    head_row kind d
    ∷ (section_rows member.Constructor d ++ (section_rows member.Function d ++ (section_rows member.Property d ++ aliases_rows d.aliases)))
