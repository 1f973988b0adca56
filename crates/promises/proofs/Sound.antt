-- What any reading gives: fine declarations, as many types entered as they hold, and no more than its bytes allow.
-- Assumes nothing.
use mathlib.Core.Path.{◌≡◌, refl}
use mathlib.Core.Bool.{Bool, true, false}
use mathlib.Core.List.{List, [], ◌∷◌}
use mathlib.Core.Option.{Option, none, some}
use Prim.Native.Nat.{ℕ, ◌+◌, ◌*◌, ◌≤◌, ◌<◌}
use native.Mathlib.Omega.{arith}
use borrow.Author.Tests.{ltb-false}
use lib.Dec.{eqb, ltb}
use lib.ListN.{length}
use Rattle.std.specs.Prelude.{if◌then◌else◌}
use Rattle.foundation.specs.Choices.{IfSome}
use Rattle.foundation.specs.Results.{d1_too_long, Res, ok, refused, Part, ◌from◌}
use Rattle.foundation.specs.Texts.{Text}
use Rattle.foundation.proofs.ChoiceLaws.{if_ind, some_ind}
use Rattle.foundation.proofs.ResultLaws.{Gives, gives_bind, gives_weaken, gives_both}
use Rattle.foundation.proofs.DigitLaws.{length_digits}
use Rattle.encoding.specs.Encoding.{unit_limit, decoded, unpacked, first_above255}
use Rattle.wire.specs.Wire.{Message, cut, read_delimited}
use Rattle.wire.proofs.Readers.{after_shorter, delimited_after}
use Rattle.wire.proofs.Bounds.{Bounded, cut-bounded}
use Rattle.characters.specs.WellFormed.{Units}
use Rattle.characters.specs.told.CharactersTold.{Characters}
use Rattle.names.specs.Names.{Names, records_of, strings_from, d2_string}
use Rattle.names.proofs.ScalarLaws.{string-characters, qualified-characters, d2_characters}
use Rattle.declaration_rows.specs.Declarations.{Declarations}
use Rattle.schema.specs.Reading.{allowance}
use Rattle.schema.specs.told.TypeSizes.{declarations_size}
use Rattle.schema.proofs.Fine.{NamesFine, FineDeclarations, body-fine}
use Rattle.schema.proofs.TypeCount.{body_enters}
use Rattle.inputs.specs.Inputs.{Input, kind_of, carries_declarations, later_fault, fault_of}
use Rattle.declarations.specs.Payload.{body_of, payload}
use Rattle.passes.specs.Answered.{head_alone}
use Rattle.metadata.specs.Read.{reading}
use Rattle.promises.proofs.Weights.{weight, cut-weight}
use Rattle.promises.proofs.Costs.{members_cost, body_costs}

-- either form gives fewer bytes than units
decoded_few : (us : List ℕ) → Gives (λ bs. length bs < length us) (decoded us)
unfolding decoded unpacked
decoded_few [] = tt
decoded_few (u ∷ us) =
    some_ind (Gives λ bs. length bs < length (u ∷ us)) (first_above255 (u ∷ us))
    (λ e. if_ind (λ (bs : List ℕ). length bs < length (u ∷ us)) (eqb u 0) (λ t. omega arith)
    λ t. rw length_digits (omega arith))
    λ unit e. tt

-- what 1 to 4 leave has a d1 within its limit
no_fault : (i : Input) → fault_of i ≡ none → length i.d1 ≤ unit_limit
unfolding fault_of
no_fault i = go (ltb unit_limit (length i.d1)) refl
  where
    go : (b : Bool) → ltb unit_limit (length i.d1) ≡ b → (if b then some d1_too_long else later_fault i) ≡ none → length i.d1 ≤ unit_limit
    go true e z = let q : ◌≡◌ {A = ℕ} 0 1 = cc in absurd (omega arith)
    go false e z = ltb-false _ _ e

-- the most bytes of a body: a unit of d1 is the form's, and the name table's length takes a byte
abbrev pub body_limit : ℕ
body_limit = 32766

-- a body within the limits, by its fields and by what they weigh
pub record BodyLimits (m : Message) : Type 0 where
  pub bounded : Bounded unit_limit m
  pub light : weight m ≤ body_limit

cut-limited : (p : Part) → length p.bytes ≤ body_limit → Gives BodyLimits (cut p)
cut-limited p h =
    gives_weaken _ BodyLimits (cut p) (gives_both _ _ (cut p) (cut-bounded unit_limit p (omega arith)) (cut-weight p)) λ m b.
    record { bounded = b.0; light = omega (arith, b.1) }

-- What holds of every body read from bytes within the limit, with any records beside the strings, holds of a reading.
module _ (Q : Declarations × ℕ → Type 0) (d2 : ℕ → Res (Option Text)) (kind : ℕ)
    (body : (names : Names) (m : Message) → names.d2 ≡ d2 → BodyLimits m → Gives Q (body_of kind names m allowance)) where
  payload-gives : (bytes : List ℕ) → length bytes < unit_limit → Gives Q (payload kind d2 bytes)
  unfolding payload
  payload-gives bytes h =
      gives_bind _ Q (read_delimited (◌from◌ 0 bytes)) _ (delimited_after (◌from◌ 0 bytes)) λ g a.
      gives_bind (λ m. Unit {0}) Q (cut g.0) _ (any (cut g.0)) λ fields t.
      gives_bind (λ m. Unit {0}) Q (records_of fields) _ (any (records_of fields)) λ records t.
      gives_bind BodyLimits Q (cut g.1) _ (cut-limited g.1 (omega (arith, after_shorter a.1))) λ m b.
      body (record { records = records; d2 = d2 }) m refl b
    where
      any : {A : Type 0} (r : Res A) → Gives (λ a. Unit {0}) r
      any (ok a) = tt
      any (refused c p) = tt

-- and of the head alone
module _ (Q : Declarations × ℕ → Type 0) (i : Input) (alone : Q (head_alone, allowance))
    (body : (names : Names) (m : Message) → names.d2 ≡ d2_string (strings_from 0 i.ends i.d2) → BodyLimits m
    → Gives Q (body_of (kind_of i.k) names m allowance)) where
  reading-gives : Gives Q (reading i)
  unfolding reading
  reading-gives =
      some_ind (Gives Q) (fault_of i)
      (λ e. if_ind (Gives Q) (carries_declarations (kind_of i.k))
      (λ t. gives_bind (λ bs. length bs < length i.d1) Q (decoded i.d1) _ (decoded_few i.d1) λ bs h.
      payload-gives Q (d2_string (strings_from 0 i.ends i.d2)) (kind_of i.k) body bs (omega (arith, no_fault i e)))
      λ t. alone)
      λ c e. tt

-- Texts of characters, numbers and counts that fit their cells, for any input: no count wraps its two bytes.
pub reading_fine : (i : Input) → Units i.d2 → Gives (λ r. FineDeclarations r.0) (reading i)
reading_fine i u = reading-gives (λ r. FineDeclarations r.0) i alone body
  where
    alone : FineDeclarations head_alone
    alone = record {
      name = tt;
      flags = omega arith;
      constructor_count = omega arith;
      function_count = omega arith;
      property_count = omega arith;
      alias_count = omega arith;
      constructors = tt;
      functions = tt;
      properties = tt;
      aliases = tt;
    }

    body : (names : Names) (m : Message) → names.d2 ≡ d2_string (strings_from 0 i.ends i.d2) → BodyLimits m
        → Gives (λ r. FineDeclarations r.0) (body_of (kind_of i.k) names m allowance)
    body names m e b =
        let strings : (j : ℕ) → Gives (IfSome Characters) (names.d2 j) = rw e (d2_characters i.ends i.d2 u) in
        let fine : NamesFine names = record { strings = string-characters names strings; qualified_names = qualified-characters names strings } in
        body-fine fine b.bounded (omega arith) (eqb (kind_of i.k) 1) allowance

-- Without its types, what is read takes no more than twelve bytes of a sheet for each byte of the body.
pub reading_costs : (i : Input) → Gives (λ r. members_cost r.0 ≤ 12 * body_limit) (reading i)
reading_costs i =
    reading-gives (λ r. members_cost r.0 ≤ 12 * body_limit) i (omega arith) λ names m e b.
    gives_weaken _ (λ r. members_cost r.0 ≤ 12 * body_limit) (body_of (kind_of i.k) names m allowance) ((body_costs (eqb (kind_of i.k) 1) names m).at allowance) λ r h.
    omega (arith, b.light)

-- The types entered are those of the declarations.
pub reading_enters : (i : Input) → Gives (λ r. declarations_size r.0 + r.1 ≡ allowance) (reading i)
reading_enters i =
    reading-gives (λ r. declarations_size r.0 + r.1 ≡ allowance) i refl λ names m e b.
    body_enters (eqb (kind_of i.k) 1) names m allowance
