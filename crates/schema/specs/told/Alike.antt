-- Messages of which the reading of types gives the same, whatever stands in them besides: what joining fields that no reading asks for keeps.
-- Assumes nothing.
use Rattle.std.specs.Prelude.{◌≡◌, false, List, [], ◌∷◌, ℕ, zero, suc, ◌+◌, ◌-◌, ◌≤◌, ◌<◌, eqb, length, get_or}
use Rattle.std.proofs.Math.Option.{Option, none, some}
use Rattle.foundation.specs.Choices.{map_option}
use Rattle.foundation.specs.Results.{Res, ok, refused, Part, ◌from◌}
use Rattle.fields.specs.Fields.{Type-argument, Type-nullable, Type-class_name, Type-Argument-projection, Type-Argument-type, Type-Argument-type_id, TypeTable-type, TypeTable-first_nullable}
use Rattle.wire.specs.Wire.{Message, cut}
use Rattle.wire.specs.Messages.{value, bytes_of, index, message, messages}
use Rattle.characters.specs.told.Places.{part_from}
use Rattle.names.specs.told.Index.{start_of, end_of}
use Rattle.declaration_rows.specs.Declarations.{star}
use Rattle.schema.specs.Types.{projection_in}

-- Two readings are refused alike, or P holds of what they give.
abbrev pub Alike : {A : Type 0} → (A → A → Type 0) → Res A → Res A → Type 0
Alike P (ok a) (ok b) = P a b
Alike P (ok a) (refused c p) = ⊥
Alike P (refused c p) r = r ≡ refused c p

-- the same of what may not be there
abbrev pub AlikeOption : {A : Type 0} → (A → A → Type 0) → Option A → Option A → Type 0
AlikeOption P none o = o ≡ none
AlikeOption P (some a) (some b) = P a b
AlikeOption P (some a) none = ⊥

-- An argument that is dropped wherever it is read, of a type table of n entries: no star, no type inline, and no index of an entry.
abbrev pub NoEntry : ℕ → Option ℕ → Type 0
NoEntry n none = Unit {0}
NoEntry n (some i) = n ≤ i

pub record Dropped (n : ℕ) (a : Message) : Type 0 where
  pub other : eqb (projection_in a) star ≡ false
  pub inline : message Type-Argument-type a ≡ ok none
  pub indexed : NoEntry n (index Type-Argument-type_id a)

-- Two lists, the second without some elements of which D holds; P holds of each of the others and what stands in its place.
pub data Thinned {A : Type 0} (P : A → A → Type 0) (D : A → Type 0) : List A → List A → Type 0 where
  done : Thinned P D [] []
  keeps : {a b : A} {xs ys : List A} → P a b → Thinned P D xs ys → Thinned P D (a ∷ xs) (b ∷ ys)
  drops : {a : A} {xs ys : List A} → D a → Thinned P D xs ys → Thinned P D (a ∷ xs) ys

-- where a part begins and how long it is
abbrev pub extent : Part → ℕ × ℕ
extent p = (p.at, length p.bytes)

-- Two arguments with the same projection and index, and with types inline of which P holds, which stand at the same place.
pub record ArgumentsBy (P : Message → Message → Type 0) (a b : Message) : Type 0 where
  pub projection : value Type-Argument-projection a ≡ value Type-Argument-projection b
  pub indexed : value Type-Argument-type_id a ≡ value Type-Argument-type_id b
  pub placed : map_option extent (bytes_of Type-Argument-type a) ≡ map_option extent (bytes_of Type-Argument-type b)
  pub inline : Alike (AlikeOption P) (message Type-Argument-type a) (message Type-Argument-type b)

-- Two types with the same class name and flag, and with arguments alike but for those that are dropped.
pub record TypesBy (P : Message → Message → Type 0) (n : ℕ) (m m' : Message) : Type 0 where
  pub name : value Type-class_name m ≡ value Type-class_name m'
  pub nullable : value Type-nullable m ≡ value Type-nullable m'
  pub arguments : Alike (Thinned (ArgumentsBy P) (Dropped n)) (messages Type-argument m) (messages Type-argument m')

-- Two types alike down to k types inside one another; below they are the same.
unfoldable pub SameType : ℕ → ℕ → Message → Message → Type 0
SameType n zero m m' = m ≡ m'
SameType n (suc k) m m' = TypesBy (SameType n k) n m m'

-- the same of two arguments, and of lists of types
abbrev pub SameArgument : ℕ → ℕ → Message → Message → Type 0
SameArgument n k = ArgumentsBy (SameType n k)

pub data SameTypes (n k : ℕ) : List Message → List Message → Type 0 where
  no_entries : SameTypes n k [] []
  next_entry : {m m' : Message} {ms ms' : List Message} → SameType n k m m' → SameTypes n k ms ms' → SameTypes n k (m ∷ ms) (m' ∷ ms')

-- Two type tables with as many entries, n, each alike, and the same first nullable one.
pub record SameTable (k : ℕ) (m m' : Message) : Type 0 where
  pub first : value TypeTable-first_nullable m ≡ value TypeTable-first_nullable m'
  pub types : Alike (λ ms ms'. SameTypes (length ms) k ms ms') (messages TypeTable-type m) (messages TypeTable-type m')

-- What the bytes of a message become: as many, and alike wherever they stand among the decoded bytes.
pub record JoinedAs (P : Message → Message → Type 0) (s s' : List ℕ) : Type 0 where
  pub many : length s' ≡ length s
  pub alike : (base : ℕ) → Alike P (cut (◌from◌ base s)) (cut (◌from◌ base s'))

-- Two types that are read alike where no look-up is left: there each index is past the table.
pub record SameAtLast (m m' : Message) : Type 0 where
  pub levels : ℕ
  pub same : SameType 0 levels m m'

-- A type inline, in a part, if it is there: at the same place of other bytes, which begin at base, stands one that is cut alike, and is alike where no look-up is left.
abbrev pub TwinAt : ℕ → List ℕ → Option Part → Type 0
TwinAt base last none = Unit {0}
TwinAt base last (some p) = Alike SameAtLast (cut p) (cut (◌from◌ p.at (part_from (p.at - base) (p.at - base + length p.bytes) last)))

-- so the type inline in an argument
abbrev pub ArgumentTwin : ℕ → List ℕ → Message → Type 0
ArgumentTwin base last a = TwinAt base last (bytes_of Type-Argument-type a)

-- What the entries of a type table become in a copy of the decoded bytes: each stands where it stood, and is read alike where no look-up is left.
pub record DeepestOf (payload deepest entries : List ℕ) (count : ℕ) : Type 0 where
  pub many : length deepest ≡ length payload
  pub each : (i : ℕ) → i < count → start_of (get_or entries i 0) ≤ end_of (get_or entries i 0) → end_of (get_or entries i 0) ≤ length payload
      → JoinedAs SameAtLast (part_from (start_of (get_or entries i 0)) (end_of (get_or entries i 0)) payload) (part_from (start_of (get_or entries i 0)) (end_of (get_or entries i 0)) deepest)
