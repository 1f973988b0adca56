-- A varint byte by byte: what its groups are where a byte is missing, is the last, or goes on.
-- Assumes nothing.
use mathlib.Core.Path.{◌≡◌, refl, ap, sym, ◌∙◌}
use mathlib.Core.List.{List, [], ◌∷◌, ◌++◌, append_assoc}
use Prim.Native.Nat.{ℕ, zero, suc, ◌+◌, ◌-◌, ◌*◌, ◌%◌, ◌^◌, ◌≤◌, ◌<◌}
use native.Mathlib.Nat.{add_assoc, mul_comm, mul-le-mul_right}
use native.Mathlib.Numerals.{add-one, sub-one}
use native.Mathlib.Omega.{arith}
use borrow.Author.Tests.{lt-ltb, le-ltb}
use lib.Dec.{ltb}
use lib.ListN.{length, take, drop, get_or, set, length-set, drop_of_length-le}
use Rattle.std.proofs.lemmas.List.{append-nil}
use Rattle.std.specs.Prelude.{Ok, Err}
use lib.Seq.{drop-cons, take-suc, get_or-set_same}
use Rattle.foundation.specs.Results.{Res, ok, refused, varint_cut_short, oversized_varint, Got, got, map_got, Part}
use Rattle.foundation.specs.Digits.{number}
use Rattle.foundation.proofs.ChoiceLaws.{if_ind}
use Rattle.foundation.proofs.ResultLaws.{Gives, gives-ok, gives_weaken, gives-map}
use Rattle.wire.specs.Wire.{group, groups_from, read_groups, read_varint}
use Rattle.wire.specs.told.WireTold.{rest_of, wire_refused, GroupsTold}
use Rattle.wire.specs.declared.WireError.{WireError}
use Rattle.wire.proofs.Readers.{varint-below}

-- the groups of the bytes before, and those of the bytes that follow
abbrev pub prefixed : List ℕ → Res (Got (List ℕ)) → Res (Got (List ℕ))
prefixed gs = map_got (λ more. gs ++ more)

prefixed-step : (gs : List ℕ) (d : ℕ) (r : Res (Got (List ℕ))) → prefixed gs (map_got (λ more. d ∷ more) r) ≡ prefixed (gs ++ (d ∷ [])) r
prefixed-step gs d (ok g) = ap (λ (x : List ℕ). got x g.1) (sym (append_assoc gs (d ∷ []) g.0))
prefixed-step gs d (refused c p) = refl

pub prefixed-start : (r : Res (Got (List ℕ))) → prefixed [] r ≡ r
prefixed-start (ok g) = refl
prefixed-start (refused c p) = refl

-- a group that is written after those before it
stored : (gs : List ℕ) (k d : ℕ) → k < length gs → take (k + 1) (set gs k d) ≡ take k gs ++ (d ∷ [])
stored gs k d h =
    let l : k < length (set gs k d) = rw length-set h in
    rw (add-one k, take-suc (set gs k d) k 0 l, get_or-set_same gs k d 0 h, take-set-same gs k d)
  where
    take-set-same : (l : List ℕ) (i a : ℕ) → take i (set l i a) ≡ take i l
    take-set-same [] i a = refl
    take-set-same (x ∷ xs) zero a = refl
    take-set-same (x ∷ xs) (suc i) a = ap (λ (r : List ℕ). x ∷ r) (take-set-same xs i a)

-- the varint began at `start`, and goes on at the place i of s, with the byte b
module _ (start base : ℕ) (s : List ℕ) (i : ℕ) where
  pub groups-cut : (k : ℕ) → length s ≤ i → groups_from start k (base + i) (drop i s) ≡ refused varint_cut_short start
  unfolding groups_from
  groups-cut k h = rw (drop_of_length-le s h)

  pub groups-oversized : i < length s → groups_from start 0 (base + i) (drop i s) ≡ refused oversized_varint start
  unfolding groups_from
  groups-oversized h = rw (drop-cons s i 0 h)

  module _ (k : ℕ) {b : ℕ} (h : i < length s) (e : b ≡ get_or s i 0) where
    pub groups-last : b < 128 → groups_from start (suc k) (base + i) (drop i s) ≡ got (group k b ∷ []) (rest_of base s (i + 1))
    unfolding groups_from
    groups-last l = rw (drop-cons s i 0 h, add_assoc, add-one i, ← e) (simp (lt-ltb _ _ l))

    pub groups-more : 128 ≤ b
        → groups_from start (suc k) (base + i) (drop i s) ≡ map_got (λ gs. group k b ∷ gs) (groups_from start k (base + (i + 1)) (drop (i + 1) s))
    unfolding groups_from
    groups-more l = rw (drop-cons s i 0 h, add_assoc, add-one i, ← e) (simp (le-ltb _ _ l))

-- Of a varint that began at `start`, k bytes are read, and their groups stand in an area: what is read from the next place on.
abbrev pub onward : (start base : ℕ) (s : List ℕ) (at k : ℕ) (area : List ℕ) → Res (Got (List ℕ))
onward start base s at k area = prefixed (take k area) (groups_from start (10 - k) (base + (at + k)) (drop (at + k) s))

pub onward_start : (base : ℕ) (s : List ℕ) (at : ℕ) (area : List ℕ) → onward (base + at) base s at 0 area ≡ read_groups (rest_of base s at)
onward_start base s at area = let e : at + 0 ≡ at = omega arith in rw e (prefixed-start (read_groups (rest_of base s at)))

module _ (start base : ℕ) (s : List ℕ) (at k : ℕ) (area : List ℕ) where
  pub onward-cut : length s ≤ at + k → onward start base s at k area ≡ refused varint_cut_short start
  onward-cut h = ap (prefixed (take k area)) (groups-cut start base s (at + k) (10 - k) h)

  -- after ten bytes
  module _ (f : 10 ≤ k) (l : k ≤ 10) where
    pub tenth-cut : length s ≤ at + 10 → onward start base s at k area ≡ refused varint_cut_short start
    tenth-cut h = onward-cut (omega arith)

    pub tenth-oversized : at + 10 < length s → onward start base s at k area ≡ refused oversized_varint start
    tenth-oversized h =
        let none : 10 - k ≡ 0 = omega arith in
        rw none (ap (prefixed (take k area)) (groups-oversized start base s (at + k) (omega arith)))

  -- the next byte, b, with the group d
  module _ {b d : ℕ} (few : k < 10) (room : length area ≡ 10) (h : at + k < length s) (e : b ≡ get_or s (at + k) 0) (g : d ≡ group (9 - k) b) where
    one_more_lem : 10 - k ≡ suc (9 - k)
    one_more_lem = omega arith

    after : at + k + 1 ≡ at + (k + 1)
    after = omega arith

    fits : k < length area
    fits = omega arith

    pub onward-last : b < 128 → onward start base s at k area ≡ got (take (k + 1) (set area k d)) (rest_of base s (at + (k + 1)))
    onward-last l =
        rw (one_more_lem, stored area k d fits, g, ← after)
        (ap (prefixed (take k area)) (groups-last start base s (at + k) (9 - k) h e l))

    pub onward-more : 128 ≤ b → onward start base s at k area ≡ onward start base s at (k + 1) (set area k d)
    onward-more l =
        let less : 10 - (k + 1) ≡ 9 - k = omega arith in
        rw (one_more_lem, less, stored area k d fits, g, ← after)
        (ap (prefixed (take k area)) (groups-more start base s (at + k) (9 - k) h e l)
        ∙ prefixed-step (take k area) (group (9 - k) b) (groups_from start (9 - k) (base + (at + k + 1)) (drop (at + k + 1) s)))

-- a byte's group, by the number of bytes before it
pub group_tenth : (k b : ℕ) → k ≡ 9 → b % 2 ≡ group (9 - k) b
group_tenth k b e = rw e

pub group-early : (k b : ℕ) → k < 10 → (k ≡ 9 → ⊥) → b % 128 ≡ group (9 - k) b
group-early k b h d = let e : 9 - k ≡ suc (8 - k) = omega arith in rw e

-- digits joined, the highest first
pub number_down : (b : ℕ) (xs : List ℕ) (left : ℕ) {d : ℕ} → 0 < left → left ≤ length xs → d ≡ get_or xs (left - 1) 0
    → number b (drop left xs) * b + d ≡ number b (drop (left - 1) xs)
number_down b xs zero h l e = absurd (omega arith)
number_down b xs (suc k) {d} h l e =
    let same : get_or xs k 0 ≡ d = sym (rw sub-one at e) in
    let n = number b (drop (suc k) xs) in
    rw (sub-one, drop-cons xs k 0 l, same) (omega (arith, mul_comm n b))

-- the higher digits are a smaller number than all
pub number-part : (b : ℕ) (rest done : List ℕ) → 0 < b → number b done ≤ number b (rest ++ done)
number-part b [] done h = omega arith
number-part b (x ∷ xs) done h =
    let n = number b (xs ++ done) in
    omega (arith, number-part b xs done h, mul-le-mul_right n h)

-- The digits that are joined, the highest first, are `done`: the rest stands before them.
pub record Joined (b value : ℕ) (digits rest : List ℕ) : Type 0 where
  pub done : List ℕ
  pub whole : digits ≡ rest ++ done
  pub is : value ≡ number b done

pub joined_start : (b : ℕ) {digits rest : List ℕ} → rest ≡ digits → Joined b 0 digits rest
joined_start b {digits} e = record { done = []; whole = sym (append-nil _ ∙ e); is = refl }

module _ {b value : ℕ} {digits rest : List ℕ} (j : Joined b value digits rest) where
  pub joined-next : {d x : ℕ} (less : List ℕ) → rest ≡ less ++ (x ∷ []) → d ≡ x → Joined b (value * b + d) digits less
  joined-next {d} {x} less e f = record {
    done = d ∷ j.done;
    whole = j.whole ∙ rw (e, f) (append_assoc less (x ∷ []) j.done);
    is = let n = number b j.done in rw j.is (omega (arith, mul_comm n b));
  }

  pub joined-fits : 0 < b → number b digits < 2 ^ 64 → value < 2 ^ 64
  joined-fits h f =
      let whole : number b (rest ++ j.done) < 2 ^ 64 = rw j.whole at f in
      omega (arith, j.is, number-part b rest j.done h)

  pub joined-end : length rest ≡ 0 → value ≡ number b digits
  joined-end e = j.is ∙ ap (number b) (sym (j.whole ∙ none rest j.done e))
    where
      none : (xs ys : List ℕ) → length xs ≡ 0 → xs ++ ys ≡ ys
      none [] ys e = refl
      none (x ∷ xs) ys e = absurd (omega arith)

-- The code's two steps, one after the other.
module _ (base : ℕ) (s : List ℕ) (at : ℕ) (area : List ℕ) where
  pub steps-refused : (error : WireError) → GroupsTold base s at area (Err error) → read_varint (rest_of base s at) ≡ wire_refused error
  unfolding read_varint
  steps-refused error t = ap (map_got (number 128)) t

  module _ (count : ℕ) (t : GroupsTold base s at area (Ok count)) where
    pub steps-read : {value : ℕ} → value ≡ number 128 (take count area) → read_varint (rest_of base s at) ≡ got value (rest_of base s (at + count))
    unfolding read_varint
    steps-read e = ap (map_got (number 128)) t.0 ∙ ap (λ (n : ℕ). got n (rest_of base s (at + count))) (sym e)

    pub steps-fit : number 128 (take count area) < 2 ^ 64
    steps-fit = gives-ok (λ a. a.0 < 2 ^ 64) (steps-read refl) (varint-below (rest_of base s at))

-- a varint of one byte
pub one_byte : (base : ℕ) (s : List ℕ) (at : ℕ) {b : ℕ} → at < length s → b ≡ get_or s at 0 → b < 128
    → read_varint (rest_of base s at) ≡ got b (rest_of base s (at + 1))
unfolding read_varint
one_byte base s at {b} h e l =
    let n : b % 128 + 128 * 0 ≡ b = omega arith in
    ap (map_got (number 128)) (groups-last (base + at) base s at 9 h e l) ∙ ap (λ (n : ℕ). got n (rest_of base s (at + 1))) n

-- one of two bytes
pub two_bytes : (base : ℕ) (s : List ℕ) (at : ℕ) {b c : ℕ} → at + 1 < length s → b ≡ get_or s at 0 → 128 ≤ b → c ≡ get_or s (at + 1) 0 → c < 128
    → read_varint (rest_of base s at) ≡ got (c * 128 + b % 128) (rest_of base s (at + 1 + 1))
unfolding read_varint
two_bytes base s at {b} {c} h e l f k =
    let n : b % 128 + 128 * (c % 128 + 128 * 0) ≡ c * 128 + b % 128 = omega arith in
    ap (map_got (number 128)) (groups-more (base + at) base s at 9 (omega arith) e l)
    ∙ ap (λ (r : Res (Got (List ℕ))). map_got (number 128) (map_got (λ gs. b % 128 ∷ gs) r)) (groups-last (base + at) base s (at + 1) 8 h f k)
    ∙ ap (λ (n : ℕ). got n (rest_of base s (at + 1 + 1))) n

-- no byte is left
varint_none : (base : ℕ) (s : List ℕ) (at : ℕ) → length s ≤ at → read_varint (rest_of base s at) ≡ refused varint_cut_short (base + at)
unfolding read_varint
varint_none base s at h = ap (map_got (number 128)) (groups-cut (base + at) base s at 10 h)

-- the same at the slice's end
pub varint-past : (base : ℕ) (s : List ℕ) (at : ℕ) → length s ≤ at → at ≤ length s
    → read_varint (rest_of base s at) ≡ refused varint_cut_short (base + length s)
varint-past base s at h l =
    let e : at ≡ length s = omega arith in
    varint_none base s at h ∙ ap (λ (n : ℕ). refused varint_cut_short (base + n)) e

-- The groups of a varint are its bytes' low 7 bits, of the tenth only the lowest.
pub record LowBits (bytes groups : List ℕ) : Type 0 where
  pub few : length groups ≤ 10
  pub inside : length groups ≤ length bytes
  pub seven : (i : ℕ) → i < 9 → i < length groups → get_or groups i 0 ≡ get_or bytes i 0 % 128
  pub tenth : 9 < length groups → get_or groups 9 0 ≡ get_or bytes 9 0 % 2

-- of a varint's groups from some byte on, k more of which are allowed
abbrev LowFrom : ℕ → List ℕ → List ℕ → Type 0
LowFrom k bytes gs = (length gs ≤ k) × (length gs ≤ length bytes) × ((i : ℕ) → i < length gs → get_or gs i 0 ≡ group (k - 1 - i) (get_or bytes i 0))

low-from : (s k a : ℕ) (bs : List ℕ) → Gives (λ g. LowFrom k bs g.0) (groups_from s k a bs)
unfolding groups_from
low-from s k a [] = tt
low-from s zero a (b ∷ bs) = tt
low-from s (suc k) a (b ∷ bs) =
    let P : Got (List ℕ) → Type 0 = λ g. LowFrom (suc k) (b ∷ bs) g.0 in
    let more = groups_from s k (a + 1) bs in
    let Q : Got (List ℕ) → Type 0 = λ g. LowFrom (suc k) (b ∷ bs) (group k b ∷ g.0) in
    let longer = gives_weaken _ Q more (low-from s k (a + 1) bs) λ g h. (omega (arith, h.0), omega (arith, h.1), at_each g.0 h.2) in
    if_ind (Gives P) (ltb b 128) (λ t. (omega arith, omega arith, at_each [] λ i l. absurd (omega arith))) λ t. gives-map P (λ gs. group k b ∷ gs) more longer
  where
    at_each : (gs : List ℕ) → ((i : ℕ) → i < length gs → get_or gs i 0 ≡ group (k - 1 - i) (get_or bs i 0)) → (i : ℕ) → i < length (group k b ∷ gs)
        → get_or (group k b ∷ gs) i 0 ≡ group (suc k - 1 - i) (get_or (b ∷ bs) i 0)
    at_each gs h zero l = let e : suc k - 1 - zero ≡ k = omega arith in rw e
    at_each gs h (suc i) l = let e : suc k - 1 - suc i ≡ k - 1 - i = omega arith in rw e (h i (omega arith))

pub groups_low : (p : Part) → Gives (λ g. LowBits p.bytes g.0) (read_groups p)
groups_low p =
    gives_weaken _ (λ g. LowBits p.bytes g.0) (read_groups p) (low-from p.at 10 p.at p.bytes) λ g h.
    record {
      few = h.0;
      inside = h.1;
      seven = λ i f l. h.2 i l ∙ sym (group-early i (get_or p.bytes i 0) (omega arith) (λ e. absurd (omega arith)));
      tenth = λ l. h.2 9 l;
    }
