-- A record, from the first occurrences of its fields.
-- Assumes nothing.
use mathlib.Core.Path.{◌≡◌, refl}
use mathlib.Core.List.{List, [], ◌∷◌}
use mathlib.Core.Option.{none}
use Prim.Native.Nat.{ℕ, ◌≤◌, ◌<◌}
use native.Mathlib.Omega.{arith}
use lib.ListN.{length}
use Rattle.foundation.specs.Results.{ok, ◌from◌}
use Rattle.foundation.specs.declared.Read.{Read}
use Rattle.fields.specs.Fields.{Record-range, Record-predefined_index, Record-operation, Record-substring_index, Record-replace_char, Record-string}
use Rattle.wire.specs.Wire.{Value, read_field, Message, cut}
use Rattle.wire.specs.Messages.{values, first_of, joined, varints}
use Rattle.wire.specs.told.WireTold.{rest_of, FieldTold}
use Rattle.messages.specs.told.Asked.{FoundTold, found_or, piece_in, index_told, index_in}
use Rattle.wire.specs.declared.WireError.{WireError}
use Rattle.wire.specs.declared.WireValue.{WireValue}
use Rattle.wire.specs.declared.Field as code
use Rattle.messages.proofs.SeenLaws.{SeenBefore, seen_start, seen_end, seen_never, seen_next}
use Rattle.messages.proofs.FindLaws.{number_is, index_is, piece_is}
use Rattle.names.specs.Records.{served, two_of, record_of}
use Rattle.names.specs.told.RecordTold.{operation_in, both_numbers, RecordTold}
use Rattle.names.specs.declared.records.Record.{Record}
use Rattle.std.specs.Prelude.{Option, None, Ok, Err}

-- What one walk over a record's fields knows of the six: their first occurrences, each by the field's number.
pub record FirstsTold (base : ℕ) (s : List ℕ) (f : ℕ → Option WireValue) : Type 0 where
  pub range : FoundTold base s Record-range (f Record-range)
  pub predefined : FoundTold base s Record-predefined_index (f Record-predefined_index)
  pub operation : FoundTold base s Record-operation (f Record-operation)
  pub substring : FoundTold base s Record-substring_index (f Record-substring_index)
  pub replaced : FoundTold base s Record-replace_char (f Record-replace_char)
  pub string : FoundTold base s Record-string (f Record-string)

-- and what it knows before a place
pub record AllSeen (base : ℕ) (s : List ℕ) (at : ℕ) (f : ℕ → Option WireValue) : Type 0 where
  pub range : SeenBefore Record-range base s at (f Record-range)
  pub predefined : SeenBefore Record-predefined_index base s at (f Record-predefined_index)
  pub operation : SeenBefore Record-operation base s at (f Record-operation)
  pub substring : SeenBefore Record-substring_index base s at (f Record-substring_index)
  pub replaced : SeenBefore Record-replace_char base s at (f Record-replace_char)
  pub string : SeenBefore Record-string base s at (f Record-string)

module _ (base : ℕ) (s : List ℕ) where
  pub all_start : AllSeen base s 0 (λ k. None)
  all_start = record {
    range = seen_start Record-range base s;
    predefined = seen_start Record-predefined_index base s;
    operation = seen_start Record-operation base s;
    substring = seen_start Record-substring_index base s;
    replaced = seen_start Record-replace_char base s;
    string = seen_start Record-string base s;
  }

  module _ (at : ℕ) (f : ℕ → Option WireValue) (i : AllSeen base s at f) where
    told : ((k : ℕ) (x : Option WireValue) → SeenBefore k base s at x → FoundTold base s k x) → FirstsTold base s f
    told t = record {
      range = t Record-range (f Record-range) i.range;
      predefined = t Record-predefined_index (f Record-predefined_index) i.predefined;
      operation = t Record-operation (f Record-operation) i.operation;
      substring = t Record-substring_index (f Record-substring_index) i.substring;
      replaced = t Record-replace_char (f Record-replace_char) i.replaced;
      string = t Record-string (f Record-string) i.string;
    }

    pub all_end : length s ≤ at → FirstsTold base s f
    all_end h = told λ k x j. seen_end k base s at h x j

    module _ (h : at < length s) where
      pub all-never : (error : WireError) → FieldTold base s (read_field (rest_of base s at)) (Err error) → FirstsTold base s f
      all-never error e = told λ k x j. seen_never k base s at h error e x j

      pub all-next : (x : Read code.Field) → FieldTold base s (read_field (rest_of base s at)) (Ok x)
          → AllSeen base s x.next (λ k. found_or (f k) k x.value.number x.value.value)
      all-next x e = record {
        range = seen_next Record-range base s at h x e (f Record-range) i.range refl;
        predefined = seen_next Record-predefined_index base s at h x e (f Record-predefined_index) i.predefined refl;
        operation = seen_next Record-operation base s at h x e (f Record-operation) i.operation refl;
        substring = seen_next Record-substring_index base s at h x e (f Record-substring_index) i.substring refl;
        replaced = seen_next Record-replace_char base s at h x e (f Record-replace_char) i.replaced refl;
        string = seen_next Record-string base s at h x e (f Record-string) i.string refl;
      }

-- What is made of a first occurrence.
module _ (base : ℕ) (s : List ℕ) (k : ℕ) (m : Message) (w : cut (◌from◌ base s) ≡ ok m) where
  -- a field that isn't there has no numbers
  pub two_none : FoundTold base s k None → two_of (varints k m) ≡ none
  unfolding varints joined
  two_none t = go (values k m) (t.is m w)
    where
      go : (vs : List Value) → first_of vs ≡ none → two_of (joined vs) ≡ none
      go [] e = refl
      go (v ∷ vs) e = let z : ◌≡◌ {A = ℕ} 0 1 = cc in absurd (omega arith)

-- the record, from what each field comes to
module _ (base : ℕ) (s : List ℕ) {range predefined operation substring replaced string : Option WireValue} (r : Record) where
  pub record_is : FoundTold base s Record-range range → FoundTold base s Record-predefined_index predefined → FoundTold base s Record-operation operation
      → FoundTold base s Record-substring_index substring → FoundTold base s Record-replace_char replaced → FoundTold base s Record-string string
      → (i : Option ℕ) → index_told i ≡ index_in range → r.range ≡ served (index_told i)
      → r.string ≡ piece_in string → index_told r.predefined ≡ index_in predefined → r.operation ≡ operation_in operation
      → (FoundTold base s Record-substring_index substring → (m : Message) → cut (◌from◌ base s) ≡ ok m → two_of (varints Record-substring_index m) ≡ both_numbers r.substring)
      → (FoundTold base s Record-replace_char replaced → (m : Message) → cut (◌from◌ base s) ≡ ok m → two_of (varints Record-replace_char m) ≡ both_numbers r.replaced)
      → RecordTold base s r
  unfolding record_of
  record_is ra pr op su re st i a b c d e g h =
      let text = piece_is base s Record-string string st c in
      record {
        is = λ m w.
            let p = index_is base s Record-range m w range ra in
            let q = text.is m w in
            let u = index_is base s Record-predefined_index m w predefined pr in
            let v = number_is base s Record-operation m w operation op in
            simp (p, q, u, v, ← a, ← b, ← d, ← e, g su m w, h re m w);
        inside = text.inside;
      }
