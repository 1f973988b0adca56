-- What is read with the strings of one d2 and with those of another: the same, or the first reading stops at a string that differs. And with a
-- string refused, a reading is refused for it or is as it was.
-- Assumes nothing.
use mathlib.Core.Path.{◌≡◌, refl, ap, sym, ◌∙◌}
use mathlib.Core.Logic.{◌⊎◌, inl, inr, ◌≢◌}
use mathlib.Core.Bool.{Bool, true, false}
use mathlib.Core.List.{List, [], ◌∷◌}
use mathlib.Core.Option.{Option, none, some}
use Prim.Native.Nat.{ℕ, zero, suc}
use lib.ListN.{get_elem?}
use Rattle.std.specs.Prelude.{if◌then◌else◌}
use Rattle.foundation.specs.Choices.{if_some}
use Rattle.foundation.specs.Results as Results
use Rattle.foundation.specs.Results.{Cause, Res, ok, refused}
use Rattle.foundation.specs.Texts.{Text}
use Rattle.wire.specs.Wire.{Message}
use Rattle.wire.specs.Messages.{messages}
use Rattle.names.specs.Names.{d2_string}
use Rattle.declaration_rows.specs.Declarations.{Signature}
use Rattle.schema.specs.Reading.{Read, pure, ◌>>=◌, lift, enter, kept, each}
use Rattle.schema.specs.Members.{named, list_in, of_signature}
use Rattle.strings.specs.FallsTo.{stopped_at}

-- a look-up of d2's strings
abbrev pub Lookup : Type 0
Lookup = ℕ → Res (Option Text)

-- a string that isn't the same in both
unfoldable pub Differs : List (List ℕ) → List (List ℕ) → ℕ → Type 0
Differs ss ts n = get_elem? ss n ≢ get_elem? ts n

-- What is read by a look-up asks for string n: with whatever it is refused, so is the reading.
unfoldable pub Asks : {A : Type 0} → List (List ℕ) → ℕ → (Lookup → Res A) → Type 0
Asks ss n r = (c : Cause) (p : ℕ) → r (stopped_at n c p ss) ≡ refused c p

-- Or it doesn't ask for it: refused or not, the reading is the same.
unfoldable pub Leaves : {A : Type 0} → List (List ℕ) → ℕ → (Lookup → Res A) → Type 0
Leaves ss n r = (c : Cause) (p : ℕ) → r (stopped_at n c p ss) ≡ r (d2_string ss)

-- what r reads, then f
abbrev and_then : {A B : Type 0} → (Lookup → Res A) → (Lookup → A → Res B) → Lookup → Res B
and_then r f s = Results.◌>>=◌ (r s) (f s)

module _ {A B : Type 0} (ss : List (List ℕ)) (r : Lookup → Res A) (f : Lookup → A → Res B) where
  -- asked for by what comes first
  pub asks-first : (n : ℕ) → Asks ss n r → Asks ss n (and_then r f)
  unfolding Asks
  asks-first n h c p = ap (λ (x : Res A). Results.◌>>=◌ x (f (stopped_at n c p ss))) (h c p)

  -- asked for by what follows
  pub asks-then : (n : ℕ) (a : A) → r (d2_string ss) ≡ ok a → Asks ss n r ⊎ Leaves ss n r → Asks ss n (λ s. f s a) → Asks ss n (and_then r f)
  unfolding Asks Leaves
  asks-then n a e (inl h) g c p = asks-first n h c p
  asks-then n a e (inr h) g c p = ap (λ (x : Res A). Results.◌>>=◌ x (f (stopped_at n c p ss))) (h c p ∙ e) ∙ g c p

  pub leaves-then : (n : ℕ) (a : A) → r (d2_string ss) ≡ ok a → Leaves ss n r → Leaves ss n (λ s. f s a) → Leaves ss n (and_then r f)
  unfolding Leaves
  leaves-then n a e h g c p =
      ap (λ (x : Res A). Results.◌>>=◌ x (f (stopped_at n c p ss))) (h c p ∙ e) ∙ g c p
      ∙ sym (ap (λ (x : Res A). Results.◌>>=◌ x (f (d2_string ss))) e)

  leaves-refused : (n : ℕ) (c₀ : Cause) (p₀ : ℕ) → r (d2_string ss) ≡ refused c₀ p₀ → Leaves ss n r → Leaves ss n (and_then r f)
  unfolding Leaves
  leaves-refused n c₀ p₀ e h c p =
      ap (λ (x : Res A). Results.◌>>=◌ x (f (stopped_at n c p ss))) (h c p ∙ e)
      ∙ sym (ap (λ (x : Res A). Results.◌>>=◌ x (f (d2_string ss))) e)

-- a string is asked for or left
abbrev pub Each : {A : Type 0} → List (List ℕ) → (Lookup → Res A) → ℕ → Type 0
Each ss r n = Asks ss n r ⊎ Leaves ss n r

module _ (ss ts : List (List ℕ)) where
  -- the same by both, or the first asks for a string that differs
  abbrev pub Both : {A : Type 0} → (Lookup → Res A) → Type 0
  Both r = (r (d2_string ss) ≡ r (d2_string ts)) ⊎ ((n : ℕ) × Differs ss ts n × Asks ss n r)

  pub record Agree {A : Type 0} (r : Lookup → Res A) : Type 0 where
    pub both : Both r
    pub each : (n : ℕ) → Each ss r n

  -- of a reading that counts types
  pub record AgreeR {A : Type 0} (m : Lookup → Read A) : Type 0 where
    pub at : (l : ℕ) → Agree (λ s. m s l)

module _ {ss ts : List (List ℕ)} where
  -- what looks nothing up
  pub agree_same : {A : Type 0} (r : Res A) → Agree ss ts (λ s. r)
  unfolding Leaves
  agree_same r = record { both = inl refl; each = λ n. inr λ c p. refl }

  pub agree-bind : {A B : Type 0} (r : Lookup → Res A) (f : Lookup → A → Res B) → Agree ss ts r → ((a : A) → Agree ss ts (λ s. f s a)) → Agree ss ts (and_then r f)
  agree-bind {A} {B} r f h g = record { both = both_of_lem h.both; each = λ n. each_of n (r (d2_string ss)) refl (h.each n) }
    where
      after : (n : ℕ) (a : A) → r (d2_string ss) ≡ ok a → Leaves ss n r → Each ss (λ s. f s a) n → Each ss (and_then r f) n
      after n a e l (inl k) = inl (asks-then ss r f n a e (inr l) k)
      after n a e l (inr k) = inr (leaves-then ss r f n a e l k)

      each_of : (n : ℕ) (x : Res A) → r (d2_string ss) ≡ x → Each ss r n → Each ss (and_then r f) n
      each_of n x e (inl k) = inl (asks-first ss r f n k)
      each_of n (ok a) e (inr l) = after n a e l ((g a).each n)
      each_of n (refused c p) e (inr l) = inr (leaves-refused ss r f n c p e l)

      both-after : (a : A) → r (d2_string ss) ≡ ok a → r (d2_string ts) ≡ ok a → Both ss ts (λ s. f s a) → Both ss ts (and_then r f)
      both-after a e e' (inl q) = inl (
          ap (λ (x : Res A). Results.◌>>=◌ x (f (d2_string ss))) e ∙ q ∙ sym (ap (λ (x : Res A). Results.◌>>=◌ x (f (d2_string ts))) e')
          )
      both-after a e e' (inr k) = inr (k.0, k.1, asks-then ss r f k.0 a e (h.each k.0) k.2)

      both_at : (x : Res A) → r (d2_string ss) ≡ x → r (d2_string ts) ≡ x → Both ss ts (and_then r f)
      both_at (ok a) e e' = both-after a e e' (g a).both
      both_at (refused c p) e e' = inl (
          ap (λ (x : Res A). Results.◌>>=◌ x (f (d2_string ss))) e ∙ sym (ap (λ (x : Res A). Results.◌>>=◌ x (f (d2_string ts))) e')
          )

      both_of_lem : Both ss ts r → Both ss ts (and_then r f)
      both_of_lem (inl q) = both_at (r (d2_string ss)) refl (sym q)
      both_of_lem (inr k) = inr (k.0, k.1, asks-first ss r f k.0 k.2)

  pub r-same : {A : Type 0} (m : Read A) → AgreeR ss ts (λ s. m)
  r-same m = record { at = λ l. agree_same (m l) }

  pub r-bind : {A B : Type 0} {m : Lookup → Read A} {f : Lookup → A → Read B} → AgreeR ss ts m → ((a : A) → AgreeR ss ts (λ s. f s a))
      → AgreeR ss ts (λ s. m s >>= f s)
  r-bind {m} {f} h g = record {
    at = λ l. agree-bind (λ s. m s l) (λ s x. f s x.0 x.1) (h.at l) λ x. (g x.0).at x.1;
  }

  pub r-lift : {A : Type 0} {r : Lookup → Res A} → Agree ss ts r → AgreeR ss ts (λ s. lift (r s))
  r-lift {A} {r} h = record { at = λ l. agree-bind r (λ s a. pure a l) h λ a. agree_same (pure a l) }

  pub r-enter : {A : Type 0} {m : Lookup → Read A} → AgreeR ss ts m → AgreeR ss ts (λ s. enter (m s))
  r-enter {A} {m} e = record { at = entered }
    where
      entered : (l : ℕ) → Agree ss ts (λ s. enter (m s) l)
      entered zero = agree_same (enter (m (d2_string ss)) zero)
      entered (suc l) = e.at l

  pub r-if_some : {A B : Type 0} (o : Option A) {m : Lookup → Read B} {f : Lookup → A → Read B} → AgreeR ss ts m → ((a : A) → AgreeR ss ts (λ s. f s a))
      → AgreeR ss ts (λ s. if_some o (m s) (f s))
  r-if_some none e g = e
  r-if_some (some a) e g = g a

  pub r-if : {A : Type 0} (t : Bool) {m o : Lookup → Read A} → AgreeR ss ts m → AgreeR ss ts o → AgreeR ss ts (λ s. if t then m s else o s)
  r-if true e g = e
  r-if false e g = g

  pub r-kept : {A : Type 0} {f : Lookup → Message → Read (Option A)} → ((m : Message) → AgreeR ss ts (λ s. f s m)) → (ms : List Message)
      → AgreeR ss ts (λ s. kept (f s) ms)
  unfolding kept
  r-kept e [] = r-same (pure [])
  r-kept e (m ∷ ms) = r-bind (e m) λ a. r-bind (r-kept e ms) λ xs. r-same (pure _)

  pub r-each : {A : Type 0} {f : Lookup → Message → Read A} → ((m : Message) → AgreeR ss ts (λ s. f s m)) → (ms : List Message) → AgreeR ss ts (λ s. each (f s) ms)
  unfolding each
  r-each e [] = r-same (pure [])
  r-each e (m ∷ ms) = r-bind (e m) λ a. r-bind (r-each e ms) λ xs. r-same (pure _)

  pub r-named : {A : Type 0} (o : Option Text) {f : Lookup → Text → Read A} → ((t : Text) → AgreeR ss ts (λ s. f s t)) → AgreeR ss ts (λ s. named o (f s))
  r-named none h = r-same (pure none)
  r-named (some t) h = r-bind (h t) λ a. r-same (pure _)

  pub r-list_in : {A : Type 0} {f : Lookup → Message → Read (Option A)} → ((m : Message) → AgreeR ss ts (λ s. f s m)) → (n : ℕ) (m : Message)
      → AgreeR ss ts (λ s. list_in (f s) n m)
  unfolding list_in
  r-list_in h n m = r-bind (r-same (lift (messages n m))) (r-kept h)

  pub r-of_signature : {f : Lookup → Message → Read (Option Signature)} → ((m : Message) → AgreeR ss ts (λ s. f s m)) → (o : Option Message)
      → AgreeR ss ts (λ s. of_signature (f s) o)
  r-of_signature h none = r-same (pure none)
  r-of_signature h (some m) = h m
