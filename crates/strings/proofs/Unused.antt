-- The strings of d2 that a reading doesn't fall to don't matter to it.
-- Assumes nothing.
use mathlib.Core.Path.{◌≡◌, refl, ap, sym, subst, ◌∙◌}
use mathlib.Core.Logic.{◌⊎◌, inl, inr}
use mathlib.Core.Bool.{Bool, true, false, ◌||◌}
use mathlib.Core.List.{List, [], ◌∷◌}
use mathlib.Core.Option.{Option, none, some}
use Prim.Native.Nat.{ℕ, suc, ◌-◌}
use native.Mathlib.Omega.{arith}
use lib.Dec.{ltb}
use lib.IntN.{ℤ, pos}
use lib.Signed.{lt_z}
use lib.ListN.{length, get_or, drop}
use Rattle.std.specs.Prelude.{if◌then◌else◌}
use Rattle.foundation.specs.Choices.{if_some}
use Rattle.foundation.specs.Results.{Cause, Res, refused, d1_too_long, d2_too_long, string_ends, newer_version, empty_payload, ◌>>=◌}
use Rattle.encoding.specs.Encoding.{unit_limit, decoded}
use Rattle.names.specs.Names.{strings_from, ends_fit, d2_string}
use Rattle.declaration_rows.specs.Declarations.{Declarations}
use Rattle.inputs.specs.Refusals.{number_of}
use Rattle.inputs.specs.Inputs.{Input, kind_of, carries_declarations, string_limit, supported_major, major, later_fault, fault_of}
use Rattle.inputs.specs.Outcomes.{Answer}
use Rattle.declarations.specs.Payload.{payload}
use Rattle.passes.specs.Answered.{nothing_read, answered}
use Rattle.metadata.specs.Read.{strings_of, reading_with, reading, read}
use Rattle.strings.specs.FallsTo.{FallsTo, PassesBy}
use Rattle.strings.specs.Unused.{AlikeButStrings, NoneOfThree, UnusedStrings}
use Rattle.strings.proofs.Agree.{Lookup, Differs, Asks, Leaves, Agree, agree_same, agree-bind}
use Rattle.strings.proofs.AgreeLaws.{payload-agrees}

count-strings : (at : ℕ) (ends units : List ℕ) → length (strings_from at ends units) ≡ length ends
unfolding strings_from
count-strings at [] units = refl
count-strings at (e ∷ ends) units = ap suc (count-strings e ends (drop (e - at) units))

module _ (ss ts : List (List ℕ)) (count : length ss ≡ length ts) where
  agree-if : {A : Type 0} (t : Bool) {r q : Lookup → Res A} → Agree ss ts r → Agree ss ts q → Agree ss ts (λ s. if t then r s else q s)
  agree-if true h g = h
  agree-if false h g = g

  agree-if_some : {A B : Type 0} (o : Option A) {r : Lookup → Res B} (f : A → Res B) → Agree ss ts r → Agree ss ts (λ s. if_some o (r s) f)
  agree-if_some none f h = h
  agree-if_some (some a) f h = agree_same (f a)

  reading-agrees : (i : Input) → Agree ss ts (λ s. reading_with s i)
  reading-agrees i =
      let body = agree-bind (λ s. decoded i.d1) (λ s. payload (kind_of i.k) s) (agree_same (decoded i.d1)) (payload-agrees ss ts count (kind_of i.k)) in
      agree-if_some (fault_of i) (λ c. refused c 0) (agree-if (carries_declarations (kind_of i.k)) body (agree_same nothing_read))

-- A string is fallen to or passed by, and never both.
pub falls_or_passes : (i : Input) (n : ℕ) → FallsTo i n ⊎ PassesBy i n
unfolding FallsTo PassesBy Asks Leaves reading
falls_or_passes i n = (reading-agrees (strings_of i) (strings_of i) refl i).each n

pub not-both : (i : Input) (n : ℕ) → FallsTo i n → PassesBy i n → ⊥
unfolding FallsTo PassesBy
not-both i n f q =
    let e : ◌≡◌ {A = Res (Declarations × ℕ)} (refused empty_payload 0) (refused empty_payload 1) = sym (f empty_payload 0) ∙ q empty_payload 0 ∙ sym (q empty_payload 1) ∙ f empty_payload 1 in
    let z : ◌≡◌ {A = ℕ} 0 1 = cc in
    omega arith

-- a fault that is none of 1 to 3
abbrev pub LaterFault : Input → Type 0
LaterFault i = (c : Cause) → fault_of i ≡ some c → NoneOfThree (number_of c)

-- is that of the version
abbrev version_fault : ℤ → Option Cause
version_fault v = if lt_z supported_major v then some newer_version else none

later-is : (i : Input) → LaterFault i → fault_of i ≡ version_fault (major i)
unfolding fault_of later_fault number_of
later-is i h =
    go (ltb unit_limit (length i.d1)) (ltb unit_limit (length i.d2) || ltb string_limit (length i.ends)) (ends_fit 0 i.ends (length i.d2)) h
  where
    later : Bool → Bool → Option Cause
    later long fit = let strings = if fit then version_fault (major i) else some string_ends in if long then some d2_too_long else strings

    go : (b long fit : Bool) → ((c : Cause) → (if b then some d1_too_long else later long fit) ≡ some c → NoneOfThree (number_of c))
        → (if b then some d1_too_long else later long fit) ≡ version_fault (major i)
    go true long fit h = absurd ((h d1_too_long refl).0 refl)
    go false true fit h = absurd ((h d2_too_long refl).1 refl)
    go false false false h = absurd ((h string_ends refl).2 refl)
    go false false true h = refl

module _ (i j : Input) (a : AlikeButStrings i j) (p : LaterFault i) (q : LaterFault j) where
  same-fault : fault_of i ≡ fault_of j
  same-fault = later-is i p ∙ (ap (λ (v : List ℤ). version_fault (get_or v 0 (pos 0))) a.mv ∙ sym (later-is j q))

  -- with any look-up the two inputs are read alike
  same_by : (s : Lookup) → reading_with s i ≡ reading_with s j
  same_by s = rw (same-fault, a.k, a.d1)

  pub same-reading : reading i ≡ reading j
  unfolding reading FallsTo Asks Differs
  same-reading = go (reading-agrees (strings_of i) (strings_of j) counts i).both
    where
      counts : length (strings_of i) ≡ length (strings_of j)
      counts = count-strings 0 i.ends i.d2 ∙ (a.count ∙ sym (count-strings 0 j.ends j.d2))

      go : (reading_with (d2_string (strings_of i)) i ≡ reading_with (d2_string (strings_of j)) i)
          ⊎ ((n : ℕ) × Differs (strings_of i) (strings_of j) n × Asks (strings_of i) n (λ s. reading_with s i))
          → reading_with (d2_string (strings_of i)) i ≡ reading_with (d2_string (strings_of j)) j
      go (inl e) = e ∙ same_by (d2_string (strings_of j))
      go (inr k) = absurd (k.1 (a.fallen k.0 k.2))

-- what is refused before the payload is looked at is the answer's number
read-later : (sheet text : List ℕ) (i : Input) → NoneOfThree (read sheet text i).number → LaterFault i
unfolding read reading
read-later sheet text i h c e = subst (λ (o : Option Cause). NoneOfThree (answered sheet text (kind_of i.k) (if_some o body λ c. refused c 0)).number) e h
  where
    body : Res (Declarations × ℕ)
    body =
        if carries_declarations (kind_of i.k) then decoded i.d1 >>= payload (kind_of i.k) (d2_string (strings_of i)) else nothing_read

same-answered : (sheet text : List ℕ) (i j : Input) → i.k ≡ j.k → reading i ≡ reading j → read sheet text i ≡ read sheet text j
unfolding read
same-answered sheet text i j k e =
    ap (λ (x : ℤ). answered sheet text (kind_of x) (reading i)) k ∙ ap (answered sheet text (kind_of j.k)) e

-- The theorem, of whatever equals the definition's answer.
pub unused_strings : (sheet text : List ℕ) (i : Input) {a : Answer} → read sheet text i ≡ a → UnusedStrings sheet text i a
unused_strings sheet text i {a} e j b f p q alike =
    sym e ∙ (same-answered sheet text i j alike.k (same-reading i j alike (later i e p) (later j f q)) ∙ f)
  where
    later : (k : Input) {c : Answer} → read sheet text k ≡ c → NoneOfThree c.number → LaterFault k
    later k g h = read-later sheet text k (subst (λ (x : Answer). NoneOfThree x.number) (sym g) h)
