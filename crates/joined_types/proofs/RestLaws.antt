-- Two messages with one field more, in both or only in the first: what is asked for of a field stays the same. Of a field's first value nothing is
-- asked for once it has been met.
-- Assumes nothing.
use mathlib.Core.Path.{◌≡◌, refl, ap}
use mathlib.Core.Bool.{Bool, true, false}
use mathlib.Core.List.{List, ◌∷◌}
use mathlib.Core.Option.{Option, none, some}
use Prim.Native.Nat.{ℕ}
use borrow.Author.Tests.{eqb-true, eq-eqb}
use lib.Dec.{eqb}
use Rattle.std.specs.Prelude.{◌||◌, if◌then◌else◌}
use Rattle.foundation.specs.Choices.{if_some, map_option, IfSome}
use Rattle.foundation.specs.Results.{Res, ok, refused, ◌>>=◌, Part}
use Rattle.wire.specs.Wire.{Value, varint, fixed, body, Field, field, Message, cut}
use Rattle.wire.specs.Messages.{values, first_of, value, as_body, bytes_of, cut_option, message, bodies_of, cut_all, messages}
use Rattle.schema.specs.told.Alike.{Alike, AlikeOption, Thinned, keeps, drops, extent}
use Rattle.schema.proofs.AlikeLaws.{alike-itself, option-itself, alike-cons, alike-some}

-- P is asked for, unless the field has been met
abbrev pub Unless : Bool → Type 0 → Type 0
Unless true P = Unit {0}
Unless false P = P

-- the values of a field with one more before them
more-values : (k : ℕ) (f : Field) (m : Message) → values k (f ∷ m) ≡ (if eqb f.number k then f.value ∷ values k m else values k m)
unfolding values
more-values k f m = refl

-- What is asked for of a field's first value, by a relation R of what there is of it.
module _ (R : Option Value → Option Value → Type 0) (k : ℕ) (m m' : Message) where
  -- after its first occurrence it is not asked for
  first-met : ((o : Option Value) → R o o) → (f : Field) (b : Bool) → Unless (b || eqb f.number k) (R (value k m) (value k m')) → Unless b (R (value k (f ∷ m)) (value k (f ∷ m')))
  first-met s f true u = tt
  first-met s f false u = rw (more-values k f m, more-values k f m') (go (eqb f.number k) u)
    where
      go : (t : Bool) → Unless t (R (value k m) (value k m'))
          → R (first_of (if t then f.value ∷ values k m else values k m)) (first_of (if t then f.value ∷ values k m' else values k m'))
      go true u = s (some f.value)
      go false u = u

  first-both : ((o : Option Value) → R o o) → (f : Field) → R (value k m) (value k m') → R (value k (f ∷ m)) (value k (f ∷ m'))
  first-both s f r = first-met s f false (unless (eqb f.number k))
    where
      unless : (t : Bool) → Unless t (R (value k m) (value k m'))
      unless true = tt
      unless false = r

  -- of a field that stands only in the first message
  first-passed : (f : Field) (b : Bool) → (f.number ≡ k → b ≡ true) → Unless b (R (value k m) (value k m')) → Unless b (R (value k (f ∷ m)) (value k m'))
  first-passed f true h u = tt
  first-passed f false h u = rw (more-values k f m) (go (eqb f.number k) refl)
    where
      go : (t : Bool) → eqb f.number k ≡ t → R (first_of (if t then f.value ∷ values k m else values k m)) (value k m')
      go true e = let z : ◌≡◌ {A = Bool} false true = h (eqb-true f.number k e) in absurd (cc)
      go false e = u

  first-given : (v v' : Value) (b : Bool) → R (some v) (some v') → Unless b (R (value k (field k v ∷ m)) (value k (field k v' ∷ m')))
  unfolding values
  first-given v v' true r = tt
  first-given v v' false r = rw (eq-eqb k k refl) r

-- the value itself
abbrev SameValue : Option Value → Option Value → Type 0
SameValue o o' = o ≡ o'

module _ (k : ℕ) (f : Field) (m m' : Message) where
  pub value_both : value k m ≡ value k m' → value k (f ∷ m) ≡ value k (f ∷ m')
  value_both = first-both SameValue k m m' (λ o. refl) f

  pub value-met : (b : Bool) → Unless (b || eqb f.number k) (value k m ≡ value k m') → Unless b (value k (f ∷ m) ≡ value k (f ∷ m'))
  value-met = first-met SameValue k m m' (λ o. refl) f

  pub value-passed : (b : Bool) → (f.number ≡ k → b ≡ true) → Unless b (value k m ≡ value k m') → Unless b (value k (f ∷ m) ≡ value k m')
  value-passed = first-passed SameValue k m m' f

-- where its body stands, and how long it is
abbrev SamePlace : Option Value → Option Value → Type 0
SamePlace o o' = map_option extent (if_some o none as_body) ≡ map_option extent (if_some o' none as_body)

abbrev pub SamePlaced : ℕ → Message → Message → Type 0
SamePlaced k m m' = map_option extent (bytes_of k m) ≡ map_option extent (bytes_of k m')

module _ (k : ℕ) (m m' : Message) where
  pub placed-both : (f : Field) → SamePlaced k m m' → SamePlaced k (f ∷ m) (f ∷ m')
  unfolding bytes_of
  placed-both f = first-both SamePlace k m m' (λ o. refl) f

  pub placed-met : (f : Field) (b : Bool) → Unless (b || eqb f.number k) (SamePlaced k m m') → Unless b (SamePlaced k (f ∷ m) (f ∷ m'))
  unfolding bytes_of
  placed-met f = first-met SamePlace k m m' (λ o. refl) f

  pub placed-passed : (f : Field) (b : Bool) → (f.number ≡ k → b ≡ true) → Unless b (SamePlaced k m m') → Unless b (SamePlaced k (f ∷ m) m')
  unfolding bytes_of
  placed-passed f = first-passed SamePlace k m m' f

  pub placed-body : (q q' : Part) (b : Bool) → extent q ≡ extent q' → Unless b (SamePlaced k (field k (body q) ∷ m) (field k (body q') ∷ m'))
  unfolding bytes_of
  placed-body q q' b e = first-given SamePlace k m m' (body q) (body q') b (ap some e)

-- lists of embedded messages
abbrev pub AlikeLists : (Message → Message → Type 0) → (Message → Type 0) → List Part → List Part → Type 0
AlikeLists Q D ps qs = Alike (Thinned Q D) (cut_all ps) (cut_all qs)

lists-less : {A : Type 0} (Q : A → A → Type 0) (D : A → Type 0) (a : A) (l l' : Res (List A)) → D a → Alike (Thinned Q D) l l'
    → Alike (Thinned Q D) (l >>= λ more. ok (a ∷ more)) l'
lists-less Q D a (ok xs) (ok ys) h t = drops h t
lists-less Q D a (ok xs) (refused c p) h t = t
lists-less Q D a (refused c p) l' h t = t

-- a value that may be left out: no body, or the bytes of a message that may be left out
abbrev pub Unasked : (Message → Type 0) → Value → Type 0
Unasked D v = IfSome (λ q. (a : Message) × (cut q ≡ ok a) × D a) (as_body v)

module _ (Q : Message → Message → Type 0) (D : Message → Type 0) where
  lists_both : (q q' : Part) (ps qs : List Part) → Alike Q (cut q) (cut q') → AlikeLists Q D ps qs → AlikeLists Q D (q ∷ ps) (q' ∷ qs)
  unfolding cut_all
  lists_both q q' ps qs h t = alike-cons Q (Thinned Q D) (cut q) (cut q') (cut_all ps) (cut_all qs) (λ a b xs ys k t. keeps k t) h t

  lists-dropped : (q : Part) (ps qs : List Part) {a : Message} → cut q ≡ ok a → D a → AlikeLists Q D ps qs → AlikeLists Q D (q ∷ ps) qs
  unfolding cut_all
  lists-dropped q ps qs {a} e h t = rw e (lists-less Q D a (cut_all ps) (cut_all qs) h t)

  values_same : ((a : Message) → Q a a) → (v : Value) (vs ws : List Value) → AlikeLists Q D (bodies_of vs) (bodies_of ws)
      → AlikeLists Q D (bodies_of (v ∷ vs)) (bodies_of (v ∷ ws))
  unfolding bodies_of
  values_same s (varint n) vs ws t = t
  values_same s (fixed w n) vs ws t = t
  values_same s (body q) vs ws t = lists_both q q (bodies_of vs) (bodies_of ws) (alike-itself Q s (cut q)) t

  values-unasked : (v : Value) (vs ws : List Value) → Unasked D v → AlikeLists Q D (bodies_of vs) (bodies_of ws)
      → AlikeLists Q D (bodies_of (v ∷ vs)) (bodies_of ws)
  unfolding bodies_of
  values-unasked (varint n) vs ws h t = t
  values-unasked (fixed w n) vs ws h t = t
  values-unasked (body q) vs ws h t = lists-dropped q (bodies_of vs) (bodies_of ws) h.1 h.2 t

  -- the messages in a field, of what is left
  module _ (k : ℕ) (m m' : Message) where
    abbrev AlikeIn : Message → Message → Type 0
    AlikeIn a b = Alike (Thinned Q D) (messages k a) (messages k b)

    pub messages-both : ((a : Message) → Q a a) → (f : Field) → AlikeIn m m' → AlikeIn (f ∷ m) (f ∷ m')
    unfolding messages values
    messages-both s f t = go (eqb f.number k)
      where
        go : (b : Bool) → AlikeLists Q D (bodies_of (if b then f.value ∷ values k m else values k m)) (bodies_of (if b then f.value ∷ values k m' else values k m'))
        go true = values_same s f.value (values k m) (values k m') t
        go false = t

    pub messages-passed : (f : Field) → (f.number ≡ k → Unasked D f.value) → AlikeIn m m' → AlikeIn (f ∷ m) m'
    unfolding messages values
    messages-passed f h t = go (eqb f.number k) refl
      where
        go : (b : Bool) → eqb f.number k ≡ b → AlikeLists Q D (bodies_of (if b then f.value ∷ values k m else values k m)) (bodies_of (values k m'))
        go true e = values-unasked f.value (values k m) (values k m') (h (eqb-true f.number k e)) t
        go false e = t

    pub messages-body : (q q' : Part) → Alike Q (cut q) (cut q') → AlikeIn m m' → AlikeIn (field k (body q) ∷ m) (field k (body q') ∷ m')
    unfolding messages values bodies_of
    messages-body q q' h t = rw (eq-eqb k k refl) (lists_both q q' (bodies_of (values k m)) (bodies_of (values k m')) h t)

-- the message in the field's first value
module _ (P : Message → Message → Type 0) where
  abbrev SameMessage : Option Value → Option Value → Type 0
  SameMessage o o' = Alike (AlikeOption P) (cut_option (if_some o none as_body)) (cut_option (if_some o' none as_body))

  module _ (k : ℕ) (m m' : Message) where
    abbrev AlikeFirst : Message → Message → Type 0
    AlikeFirst a b = Alike (AlikeOption P) (message k a) (message k b)

    module _ (s : (m : Message) → P m m) (f : Field) where
      message-itself : (o : Option Value) → SameMessage o o
      message-itself o = alike-itself (AlikeOption P) (option-itself P s) (cut_option (if_some o none as_body))

      pub message-met : (b : Bool) → Unless (b || eqb f.number k) (AlikeFirst m m') → Unless b (AlikeFirst (f ∷ m) (f ∷ m'))
      unfolding message bytes_of
      message-met = first-met SameMessage k m m' message-itself f

      pub message-both : AlikeFirst m m' → AlikeFirst (f ∷ m) (f ∷ m')
      unfolding message bytes_of
      message-both = first-both SameMessage k m m' message-itself f

    pub message-passed : (f : Field) (b : Bool) → (f.number ≡ k → b ≡ true) → Unless b (AlikeFirst m m') → Unless b (AlikeFirst (f ∷ m) m')
    unfolding message bytes_of
    message-passed = first-passed SameMessage k m m'

    pub message-body : (q q' : Part) (b : Bool) → Alike P (cut q) (cut q') → Unless b (AlikeFirst (field k (body q) ∷ m) (field k (body q') ∷ m'))
    unfolding message bytes_of
    message-body q q' b h = first-given SameMessage k m m' (body q) (body q') b (alike-some P (cut q) (cut q') h)
