-- Names by their index: jvm_metadata.proto's StringTableTypes with the strings of d2 (document 01, "names.rs").
-- Assumes nothing.
use Rattle.std.specs.Prelude.{Bool, ◌&&◌, List, [], ◌∷◌, map, ℕ, ◌-◌, eqb, leb, ltb, take, drop, if◌then◌else◌}
use Rattle.std.proofs.Math.Option.{Option, none, some}
use Rattle.std.proofs.Math.ListN.{get_elem?}
use Rattle.foundation.specs.Choices.{if_some, map_option}
use Rattle.foundation.specs.Results.{Res, ok, ◌>>=◌}
use Rattle.foundation.specs.Texts.{Text}
use Rattle.fields.specs.Fields.{StringTableTypes-record, StringTableTypes-local_name}
use Rattle.wire.specs.Wire.{Message}
use Rattle.wire.specs.Messages.{messages, varints}
use Rattle.characters.specs.Characters.{from_utf16}
use Rattle.names.specs.Records.{Record, record_of, decides, text_of, dotted}

-- The records of a name table. An error in field 5 refuses, after all records are cut; its numbers are of no use here.
unfoldable pub records_of : Message → Res (List Record)
records_of table =
    messages StringTableTypes-record table >>= λ records.
    varints StringTableTypes-local_name table >>= λ locals.
    ok (map record_of records)

-- the record that serves index i, each serving as many indices as its range says
unfoldable pub record_at : ℕ → List Record → Option Record
record_at i [] = none
record_at i (r ∷ rs) = let later = record_at (i - r.range) rs in if ltb i r.range then some r else later

-- Looking a d2 string up is an action, so that it can be said which strings a reading falls to.
pub record Names : Type 0 where
  pub records : List Record
  pub d2 : ℕ → Res (Option Text)

-- Departure: the d2 string takes none of its record's steps.
unfoldable pub string : Names → ℕ → Res (Option Text)
string n i = if_some (record_at i n.records) (n.d2 i) λ r. if decides r then ok (text_of r) else n.d2 i

-- the text without its last character, if that is c
unfoldable pub without_last : ℕ → Text → Option Text
without_last c [] = none
without_last c (a ∷ []) = if eqb a c then some [] else none
without_last c (a ∷ b ∷ t) = map_option (λ u. a ∷ u) (without_last c (b ∷ t))

-- the text between a leading L and a trailing ; if both are there
abbrev pub unwrapped : Text → Text
unwrapped [] = []
unwrapped (c ∷ t) = if eqb c 0x4c then if_some (without_last 0x3b t) (c ∷ t) (λ u. u) else c ∷ t

unfoldable pub qualified_name : Names → ℕ → Res (Option Text)
qualified_name n i = string n i >>= λ t. ok (map_option (λ u. dotted (unwrapped u)) t)

-- ends that don't fall and whose last (0 if there are none) is the unit count
unfoldable pub ends_fit : ℕ → List ℕ → ℕ → Bool
ends_fit at [] units = eqb at units
ends_fit at (e ∷ ends) units = leb at e && ends_fit e ends units

-- The strings of d2, each from the last one's end to its own.
unfoldable pub strings_from : ℕ → List ℕ → List ℕ → List (List ℕ)
strings_from at [] units = []
strings_from at (e ∷ ends) units = take (e - at) units ∷ strings_from e ends (drop (e - at) units)

-- a lone surrogate becomes U+FFFD
unfoldable pub d2_string : List (List ℕ) → ℕ → Res (Option Text)
d2_string strings i = ok (map_option from_utf16 (get_elem? strings i))
