-- How long the texts are, in characters and in bytes of UTF-8.
-- Assumes nothing.
use mathlib.Core.Path.{◌≡◌, refl, ap}
use mathlib.Core.Bool.{Bool, ◌&&◌}
use mathlib.Core.List.{[], ◌∷◌, ◌++◌}
use Prim.Native.Nat.{ℕ, ◌*◌, ◌≤◌}
use Prim.Native.String.{String}
use native.Mathlib.Nat.{le_refl}
use native.Mathlib.Omega.{arith}
use lib.Dec.{T, eqb, leb, leb→le}
use lib.ListN.{length, get_elem?, length-append, length-map}
use Rattle.std.specs.Prelude.{if◌then◌else◌}
use Rattle.foundation.specs.Choices.{if_some, All, IfSome}
use Rattle.foundation.specs.Texts.{Text, ascii}
use Rattle.foundation.proofs.ChoiceLaws.{if_ind, all_weaken}
use Rattle.foundation.proofs.ResultLaws.{Gives}
use Rattle.characters.specs.Characters.{is_scalar, width, utf8}
use Rattle.characters.proofs.LengthLaws.{AtMost, InBytes, width_most, bytes_cons, bytes-append, bytes_most, from_utf8-length}
use Rattle.foundation.proofs.EveryLaws.{every_all, all-at, some_map, some_weaken}
use Rattle.names.specs.Records.{Record, predefined_strings, predefined_text, base_text, substituted, replace_of, dotted, dollars_dotted, operated, text_of}
use Rattle.names.specs.Names.{Names, unwrapped, qualified_name}
use Rattle.names.specs.told.Name.{operation_of, turned, dropped}
use Rattle.names.specs.declared.name.Operation.{Operation}
use Rattle.names.specs.declared.name.Operation.TheVariants.{Nothing, InternalToClassId, DescToClassId}
use Rattle.names.proofs.StepLaws.{StandsIn, unwrapped-part, dropped-part, operated-is, base_ind, text-keeps, qualified-keeps}

-- A part is no longer than its text, in bytes too; a text keeps its length when a character is replaced, and gains no bytes if
-- that is done by one that takes a single byte.
pub part_length : (t u : Text) → StandsIn t u → length u ≤ length t
part_length t u e = omega (arith, ap length e.whole, length-append e.before (u ++ e.after), length-append u e.after)

pub part_bytes : (t u : Text) → StandsIn t u → length (utf8 u) ≤ length (utf8 t)
part_bytes t u e =
    omega (arith, ap (λ (x : Text). length (utf8 x)) e.whole, bytes-append e.before (u ++ e.after), bytes-append u e.after)

pub substituted-bytes : (from to : ℕ) (t : Text) → width to ≡ 1 → length (utf8 (substituted from to t)) ≤ length (utf8 t)
unfolding utf8
substituted-bytes from to [] h = omega arith
substituted-bytes from to (c ∷ t) h =
    let d = if eqb c from then to else c in
    let w : width d ≤ width c = if_ind (λ x. width x ≤ width c) (eqb c from) (λ e. omega (arith, width_most c)) λ e. le_refl (width c) in
    omega (arith, bytes_cons d (substituted from to t), bytes_cons c t, substituted-bytes from to t h)

pub dollars-bytes : (t : Text) → length (utf8 (dollars_dotted t)) ≤ length (utf8 t)
unfolding width
dollars-bytes t = substituted-bytes 0x24 0x2e t refl

pub dotted-bytes : (t : Text) → length (utf8 (dotted t)) ≤ length (utf8 t)
unfolding width
dotted-bytes t = omega (arith, substituted-bytes 0x2f 0x2e (substituted 0x24 0x2e t) refl, substituted-bytes 0x24 0x2e t refl)

-- A record's text takes at most four bytes for each byte of its base. Without a string of its own its base is one of the predefined names, of 42 characters at most.
abbrev pub base_length : Record → ℕ
base_length r = if_some r.string 42 λ p. length p.bytes

predefined-length : (i : ℕ) → IfSome (AtMost 42) (predefined_text i)
unfolding predefined_text
predefined-length i =
    let test : String → Bool = λ s. leb (length (ascii s)) 42 in
    some_map (λ s. T (test s)) (AtMost 42) ascii (get_elem? predefined_strings i)
    (all-at (λ s. T (test s)) predefined_strings i (every_all test predefined_strings tt)) λ s. leb→le (length (ascii s)) 42

base-length : (r : Record) → IfSome (AtMost (base_length r)) (base_text r)
base-length r =
    base_ind (AtMost (base_length r)) r (λ i e. rw e (predefined-length i)) λ p e. rw e (omega (arith, from_utf8-length 0 p.bytes))

replace_length : (n from to : ℕ) (t : Text) → AtMost n t → IfSome (AtMost n) (replace_of from to t)
unfolding replace_of
replace_length n from to t h = if_ind (IfSome (AtMost n)) (is_scalar from && is_scalar to) (λ e. rw length-map h) λ e. tt

-- an operation adds no bytes
pub turned-bytes : (op : Operation) (t : Text) → length (utf8 (turned op t)) ≤ length (utf8 t)
unfolding turned
turned-bytes Nothing t = le_refl (length (utf8 t))
turned-bytes InternalToClassId t = dotted-bytes t
turned-bytes DescToClassId t = dollars-bytes t

operated-bytes : (op : ℕ) (t : Text) → length (utf8 (operated op t)) ≤ length (utf8 t)
operated-bytes op t =
    omega (arith, ap (λ (u : Text). length (utf8 u)) (operated-is op t), turned-bytes (operation_of op) (dropped (operation_of op) t), part_bytes t (dropped (operation_of op) t) (dropped-part (operation_of op) t))

pub text-bytes : (r : Record) → IfSome (InBytes (4 * base_length r)) (text_of r)
text-bytes r =
    text-keeps (AtMost (base_length r)) (InBytes (4 * base_length r)) r (base-length r) (λ t u e h. omega (arith, part_length t u e))
    (replace_length (base_length r)) λ op t h. omega (arith, operated-bytes op t, bytes_most t)

-- A name takes no more than the strings of d2 and the texts of records may take; nor does its qualified form.
abbrev pub BaseFits : ℕ → Record → Type 0
BaseFits k r = 4 * base_length r ≤ k

module _ (k : ℕ) (n : Names) (strings : (i : ℕ) → Gives (IfSome (InBytes k)) (n.d2 i)) (records : All (BaseFits k) n.records) where
  texts-bytes : All (λ r. IfSome (InBytes k) (text_of r)) n.records
  texts-bytes =
      all_weaken (BaseFits k) (λ r. IfSome (InBytes k) (text_of r))
      (λ r h. some_weaken (InBytes (4 * base_length r)) (InBytes k) (text_of r) (text-bytes r) λ t p. omega arith) n.records records

  pub qualified-bytes : (i : ℕ) → Gives (IfSome (InBytes k)) (qualified_name n i)
  qualified-bytes =
      qualified-keeps (InBytes k) n strings (InBytes k) texts-bytes λ t p.
      omega (arith, dotted-bytes (unwrapped t), part_bytes t (unwrapped t) (unwrapped-part t))
