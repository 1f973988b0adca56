-- Every text that comes out is made of characters.
-- Assumes nothing.
use mathlib.Core.Path.{sym, subst}
use mathlib.Core.Bool.{Bool, ◌&&◌}
use mathlib.Core.List.{List, ◌++◌}
use Prim.Native.Nat.{ℕ, ◌<◌}
use Prim.Native.String.{String}
use native.Mathlib.Omega.{arith}
use lib.Dec.{T, eqb}
use lib.ListN.{get_elem?}
use Rattle.std.specs.Prelude.{if◌then◌else◌}
use Rattle.foundation.specs.Choices.{All, IfSome}
use Rattle.foundation.specs.Texts.{Text, ascii}
use Rattle.foundation.proofs.ChoiceLaws.{if_ind, all_map}
use Rattle.foundation.proofs.ResultLaws.{Gives}
use Rattle.characters.specs.Characters.{is_scalar}
use Rattle.characters.proofs.ScalarLaws.{from_utf8_characters, from_utf16_characters}
use Rattle.characters.specs.WellFormed.{Units}
use Rattle.characters.specs.told.CharactersTold.{Characters}
use Rattle.characters.proofs.TestLaws.{scalar_below}
use Rattle.foundation.proofs.EveryLaws.{each, every, every_all, all_any, all-at, all_split, all_take, all_drop, some_map}
use Rattle.names.specs.Records.{Record, predefined_strings, predefined_text, substituted, replace_of, dotted, dollars_dotted, without_ends, operated, text_of}
use Rattle.names.specs.Names.{Names, string, unwrapped, qualified_name, strings_from, d2_string}
use Rattle.names.proofs.StepLaws.{StandsIn, unwrapped-part, ends-part, base_ind, text-keeps, string-keeps, qualified-keeps, d2-keeps}

-- Substring, replacement and operation keep characters.
module _ (P : ℕ → Type 0) where
  pub part-keeps : (t u : Text) → StandsIn t u → All P t → All P u
  part-keeps t u e p = (all_split P u e.after (all_split P e.before (u ++ e.after) (rw e.whole p)).1).0

  pub substituted-keeps : (from to : ℕ) (t : Text) → P to → All P t → All P (substituted from to t)
  substituted-keeps from to t q = all_map P P (λ c. if eqb c from then to else c) (λ c p. if_ind P (eqb c from) (λ e. q) λ e. p) t

  pub dotted-keeps : (t : Text) → P 0x2e → All P t → All P (dotted t)
  dotted-keeps t q p = substituted-keeps 0x2f 0x2e (substituted 0x24 0x2e t) q (substituted-keeps 0x24 0x2e t q p)

pub part_characters : (t u : Text) → StandsIn t u → Characters t → Characters u
part_characters = part-keeps λ c. T (is_scalar c)

pub dotted_characters : (t : Text) → Characters t → Characters (dotted t)
dotted_characters t = dotted-keeps (λ c. T (is_scalar c)) t (scalar_below 0x2e (omega arith))

dollars_characters : (t : Text) → Characters t → Characters (dollars_dotted t)
dollars_characters t = substituted-keeps (λ c. T (is_scalar c)) 0x24 0x2e t (scalar_below 0x2e (omega arith))

pub replace_characters : (from to : ℕ) (t : Text) → Characters t → IfSome Characters (replace_of from to t)
unfolding replace_of
replace_characters from to t p =
    if_ind (IfSome Characters) (is_scalar from && is_scalar to)
    (λ e. substituted-keeps (λ c. T (is_scalar c)) from to t (each (is_scalar from) (is_scalar to) (subst T (sym e) tt)).1 p) λ e. tt

-- a literal's characters, computed
ascii_characters : (s : String) → T (every is_scalar (ascii s)) → Characters (ascii s)
ascii_characters s = every_all is_scalar (ascii s)

pub operated_characters : (op : ℕ) (t : Text) → Characters t → Characters (operated op t)
unfolding operated
operated_characters op t p =
    if_ind Characters (eqb op 1) (λ e. dotted_characters t p) λ e.
    if_ind Characters (eqb op 2) (λ e. dollars_characters (without_ends t) (part_characters t (without_ends t) (ends-part t) p)) λ e. p

pub predefined_characters : (i : ℕ) → IfSome Characters (predefined_text i)
unfolding predefined_text is_scalar
predefined_characters i =
    let test : String → Bool = λ s. every is_scalar (ascii s) in
    some_map (λ s. T (test s)) Characters ascii (get_elem? predefined_strings i)
    (all-at (λ s. T (test s)) predefined_strings i (every_all test predefined_strings tt)) ascii_characters

-- A record's text is made of characters.
pub text_characters : (r : Record) → IfSome Characters (text_of r)
text_characters r =
    let base = base_ind Characters r (λ i e. predefined_characters i) λ p e. from_utf8_characters 0 p.bytes in
    text-keeps Characters Characters r base part_characters replace_characters operated_characters

-- So are names, if the strings of d2 are.
abbrev pub StringsOfCharacters : Names → Type 0
StringsOfCharacters n = (i : ℕ) → Gives (IfSome Characters) (n.d2 i)

module _ (n : Names) (strings : StringsOfCharacters n) where
  texts-characters : All (λ r. IfSome Characters (text_of r)) n.records
  texts-characters = all_any (λ r. IfSome Characters (text_of r)) text_characters n.records

  pub string-characters : (i : ℕ) → Gives (IfSome Characters) (string n i)
  string-characters = string-keeps Characters n strings texts-characters

  pub qualified-characters : (i : ℕ) → Gives (IfSome Characters) (qualified_name n i)
  qualified-characters =
      qualified-keeps Characters n strings Characters texts-characters λ t p.
      dotted_characters (unwrapped t) (part_characters t (unwrapped t) (unwrapped-part t) p)

-- The strings of d2 are, if d2 is made of 16-bit units.
pub d2_characters : (ends units : List ℕ) → Units units → (i : ℕ) → Gives (IfSome Characters) (d2_string (strings_from 0 ends units) i)
d2_characters = d2-keeps Units (all_take λ u. u < 65536) (all_drop λ u. u < 65536) Characters from_utf16_characters 0
