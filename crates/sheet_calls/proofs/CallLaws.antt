-- What the exported functions tell: those they call, with an answer of numbers.
-- Assumes nothing.
use mathlib.Core.Path.{◌≡◌, ap, sym, subst, ◌∙◌}
use mathlib.Core.List.{List, [], ◌∷◌}
use mathlib.Core.Option.{Option}
use Prim.Native.Nat.{ℕ}
use lib.Dec.{T}
use lib.IntN.{ℤ}
use mir.Facts.{to_z-of_z}
use mir.Syntax.{w32}
use mir.Val.{SFits, of_z, to_z}
use Rattle.std.specs.Prelude.{if◌then◌else◌}
use Rattle.foundation.specs.Choices.{if_some}
use Rattle.foundation.specs.Results.{Cause, refused, ◌>>=◌}
use Rattle.encoding.specs.Encoding.{decoded}
use Rattle.characters.specs.WellFormed.{Units}
use Rattle.names.specs.Names.{d2_string}
use Rattle.inputs.specs.Inputs.{Input, input, kind_of, carries_declarations}
use Rattle.inputs.specs.Outcomes as definition
use Rattle.declarations.specs.Payload.{payload}
use Rattle.passes.specs.Answered.{nothing_read}
use Rattle.metadata.specs.Read.{strings_of, reading, read}
use Rattle.promises.specs.Promises.{Promised, Enough, tells_offset, BrokeAt}
use Rattle.promises.proofs.Answered.{answer_promised}
use Rattle.promises.proofs.Broke.{answer_broke}
use Rattle.promises.proofs.Longest.{areas_enough}
use Rattle.defaults.specs.Demand.{Demand}
use Rattle.defaults.proofs.Demand.{demand_3}
use Rattle.room.specs.Room.{Room, room_by, room}
use Rattle.room.specs.Exact.{RoomExact}
use Rattle.room.proofs.Exact.{room_exact}
use Rattle.strings.specs.Unused.{AlikeButStrings, NoneOfThree, UnusedStrings}
use Rattle.strings.proofs.Unused.{LaterFault, same-reading, unused_strings}
use Rattle.string_marks.specs.UsedStrings.{UsedAnswer, UsedStrings}
use Rattle.sheet_calls.specs.Calls.{DemandWithAny, room_in, UnusedInRoom}

-- The answer as five numbers, of signed ones that came as bits.
abbrev back : ℤ → ℤ
back z = to_z w32 (of_z w32 z)

same-input : (k major minor patch : ℤ) (d1 d2 ends : List ℕ) → SFits w32 k → SFits w32 major → SFits w32 minor → SFits w32 patch
    → input k (major ∷ minor ∷ patch ∷ []) d1 d2 ends ≡ input (back k) (back major ∷ back minor ∷ back patch ∷ []) d1 d2 ends
same-input k major minor patch d1 d2 ends f g h i = rw (to_z-of_z f, to_z-of_z g, to_z-of_z h, to_z-of_z i)

pub exported_is : (S T : List ℕ) (k major minor patch : ℤ) (d1 d2 ends : List ℕ) → SFits w32 k → SFits w32 major → SFits w32 minor → SFits w32 patch
    → {a : definition.Answer} → read S T (input (back k) (back major ∷ back minor ∷ back patch ∷ []) d1 d2 ends) ≡ a
    → read S T (input k (major ∷ minor ∷ patch ∷ []) d1 d2 ends) ≡ a
exported_is S T k major minor patch d1 d2 ends f g h i e = ap (read S T) (same-input k major minor patch d1 d2 ends f g h i) ∙ e

pub exported_room : (k major minor patch : ℤ) (d1 d2 ends : List ℕ) → SFits w32 k → SFits w32 major → SFits w32 minor → SFits w32 patch → {r : Room}
    → room (input (back k) (back major ∷ back minor ∷ back patch ∷ []) d1 d2 ends) ≡ r
    → room (input k (major ∷ minor ∷ patch ∷ []) d1 d2 ends) ≡ r
exported_room k major minor patch d1 d2 ends f g h i e = ap room (same-input k major minor patch d1 d2 ends f g h i) ∙ e

pub exported_strings : (k major minor patch : ℤ) (d1 d2 ends : List ℕ) → SFits w32 k → SFits w32 major → SFits w32 minor → SFits w32 patch → (u v : List ℕ) {a b : UsedAnswer}
    → UsedStrings (input (back k) (back major ∷ back minor ∷ back patch ∷ []) d1 d2 ends) u v a → a ≡ b → UsedStrings (input k (major ∷ minor ∷ patch ∷ []) d1 d2 ends) u v b
exported_strings k major minor patch d1 d2 ends f g h i u v {a} {b} t e =
    subst (λ (x : UsedAnswer). UsedStrings (input k (major ∷ minor ∷ patch ∷ []) d1 d2 ends) u v x) e
    (subst (λ (x : Input). UsedStrings x u v a) (sym (same-input k major minor patch d1 d2 ends f g h i)) t)

-- What `sheet_read` ensures of its answer, clause by clause.
abbrev pub Answers : List ℕ → List ℕ → Input → definition.Answer → Type 0
Answers sheet text i a =
    (read sheet text i ≡ a)
    × (Enough sheet text i a
    × ((T (tells_offset a.number) → BrokeAt i a)
    × (Units i.d2 × ((a.number ≡ 0 → Promised i a) × ((a.number ≡ 0 → DemandWithAny i a) × UnusedStrings sheet text i a)))))

-- It holds of an answer that equals the definition's, where the units of d2 are of 16 bits,
pub answers : (sheet text : List ℕ) (i : Input) (a : definition.Answer) → read sheet text i ≡ a → Units i.d2 → Answers sheet text i a
answers sheet text i a e u =
    let demanded : a.number ≡ 0 → DemandWithAny i a = λ y sheet' text' j b e' v z. demand_3 sheet text sheet' text' i j e e' u v y z in (
      e,
      (
        areas_enough sheet text i e,
        (answer_broke sheet text i e, (u, (answer_promised sheet text i e u, (demanded, unused_strings sheet text i e)))),
      ),
    )

-- and of two such answers default descriptors say what they are to (`Demand`) if both are accepted: of neither input anything is asked.
pub two_calls : (sheet text sheet' text' : List ℕ) (i j : Input) (a b : definition.Answer) → Answers sheet text i a → Answers sheet' text' j b
    → a.number ≡ 0 → b.number ≡ 0 → Demand i j a b
two_calls sheet text sheet' text' i j a b p q y z = p.1.1.1.1.1.0 y sheet' text' j b q.0 q.1.1.1.0 z

-- Two calls with the same areas, of which neither is refused by 1 to 3, and inputs alike but for strings that the first one's reading doesn't fall to
-- have the same answer.
pub two_calls_alike : (sheet text : List ℕ) (i j : Input) (a b : definition.Answer) → Answers sheet text i a → Answers sheet text j b
    → NoneOfThree a.number → NoneOfThree b.number → AlikeButStrings i j → a ≡ b
two_calls_alike sheet text i j a b p q = p.1.1.1.1.1.1 j b q.0

-- what is refused of an input before its payload is looked at is told by its room
room-later : (i : Input) → NoneOfThree (room i).number → LaterFault i
unfolding room reading
room-later i h c e =
    let kind = kind_of i.k in
    let body = if carries_declarations kind then decoded i.d1 >>= payload kind (d2_string (strings_of i)) else nothing_read in
    subst (λ (o : Option Cause). NoneOfThree (room_by kind (if_some o body λ x. refused x 0)).number) e h

same_rooms : (i j : Input) → i.k ≡ j.k → reading i ≡ reading j → room i ≡ room j
unfolding room
same_rooms i j k e = ap (λ (x : ℤ). room_by (kind_of x) (reading i)) k ∙ ap (room_by (kind_of j.k)) e

unused_in_room : (i : Input) {r : Room} → room i ≡ r → UnusedInRoom i r
unused_in_room i {r} e j q f g h alike = sym e ∙ (same_rooms i j alike.k (same-reading i j alike (later i e g) (later j f h)) ∙ f)
  where
    later : (k : Input) {x : Room} → room k ≡ x → NoneOfThree x.number → LaterFault k
    later k p n = room-later k (subst (λ (y : Room). NoneOfThree y.number) (sym p) n)

-- What `sheet_room` ensures of its answer, clause by clause, where the units of d2 are of 16 bits.
pub room-answers : (i : Input) (a : List ℕ) → room i ≡ room_in a → Units i.d2
    → (room i ≡ room_in a) × (Units i.d2 × (RoomExact i (room_in a) × UnusedInRoom i (room_in a)))
room-answers i a e u = (e, (u, (subst (RoomExact i) e (room_exact i), unused_in_room i e)))
