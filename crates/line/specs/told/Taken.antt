-- An input that was read: some bytes, of which the beginning is kept.
-- Assumes nothing.
use Rattle.std.specs.Prelude.{◌≡◌, List, ◌++◌, ℕ, ◌+◌, ◌≤◌, ◌<◌, length, get_or, take, Option}
use Rattle.std.specs.Io.KnownBytes.{Consumes}
use Rattle.line.specs.declared.stream.Taken.{Taken}
use Rattle.line.specs.Input.{counts_of}
use Rattle.line.specs.told.Pieces.{counts_in}

-- 28 bytes of numbers and counts, 32,768 units of d1 and of d2, 4,096 ends
abbrev pub kept_limit : ℕ
kept_limit = 147484

-- bs was read so far
pub record SoFar (bs : List ℕ) (t : Taken) : Type 0 where
  pub bytes : (i : ℕ) → get_or bs i 0 < 256
  pub total : t.total ≡ length bs
  pub counts : t.counts ≡ counts_of bs

abbrev pub Begun : Taken → Type 0
Begun t = (bs : List ℕ) × SoFar bs t

-- and its beginning stands in the area
pub record Took (bs : List ℕ) (area : List ℕ) (t : Taken) : Type 0 where
  pub so_far : SoFar bs t
  pub inside : t.kept ≤ length area
  pub begins : take t.kept area ≡ take kept_limit bs

abbrev pub TookSome : List ℕ → Taken → Type 0
TookSome area t = (bs : List ℕ) × Took bs area t

-- the area's beginning is the piece that was read after what was taken before
pub record PieceRead (area : List ℕ) (t r : Taken) : Type 0 where
  pub size : ℕ
  pub within : size ≤ length area
  pub bytes : (i : ℕ) → get_or (take size area) i 0 < 256
  pub total : r.total ≡ t.total + size
  pub counts : r.counts ≡ counts_in (take size area) t.total t.counts
  pub kept : r.kept ≡ t.kept

-- a piece of at most room bytes that is not kept
pub record PassedOver (room : ℕ) (t r : Taken) : Type 0 where
  pub area : List ℕ
  pub within : length area ≤ room
  pub piece : PieceRead area t r

-- more bytes were read after any that were taken before, and not kept
pub record Went (t r : Taken) : Type 0 where
  pub more : List ℕ
  pub after : (bs : List ℕ) → SoFar bs t → SoFar (bs ++ more) r
  pub kept : r.kept ≡ t.kept

-- Each of these with the reader's part in it: where the bytes that it had left are known, it gave those that were read and has the others left.
pub record PieceGiven (known left : Option (List ℕ)) (area : List ℕ) (t r : Taken) : Type 0 where
  pub piece : PieceRead area t r
  pub given : Consumes known left (take piece.size area)

pub record PassedGiven (known left : Option (List ℕ)) (room : ℕ) (t r : Taken) : Type 0 where
  pub over : PassedOver room t r
  pub given : Consumes known left (take over.piece.size over.area)

pub record WentGiven (known left : Option (List ℕ)) (t r : Taken) : Type 0 where
  pub went : Went t r
  pub given : Consumes known left went.more

pub record TookGiven (known left : Option (List ℕ)) (area : List ℕ) (t : Taken) : Type 0 where
  pub took : TookSome area t
  pub given : Consumes known left took.0
