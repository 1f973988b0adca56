-- The default descriptors of constructors and functions, from what the calls told.
-- Assumes nothing.
use mathlib.Core.Path.{◌≡◌, refl, sym, ap, subst, ◌∙◌}
use mathlib.Core.Bool.{Bool, true, false}
use mathlib.Core.List.{List, [], ◌∷◌, ◌++◌, append_assoc}
use mathlib.Core.Option.{Option, none, some}
use Prim.Native.Nat.{ℕ, ◌+◌, ◌-◌, ◌*◌, ◌≤◌}
use native.Mathlib.Nat.{add_assoc}
use native.Mathlib.Omega.{arith}
use lib.ListN.{length, set, length-append}
use lib.Seq.{sets}
use Rattle.std.specs.Prelude.{if◌then◌else◌}
use Rattle.foundation.specs.Choices.{if_some, map_option}
use Rattle.foundation.specs.Results.{ok, ◌from◌}
use Rattle.fields.specs.Fields.{Constructor-value_parameter, Function-return_type, Function-receiver_type, Function-value_parameter, Function-return_type_id, Function-receiver_type_id, Function-flags}
use Rattle.wire.specs.Wire.{Message, cut}
use Rattle.declaration_rows.specs.Declarations.{Ty, Constructor, Function}
use Rattle.schema.specs.Reading.{Scope}
use Rattle.schema.specs.Types.{declared_type}
use Rattle.schema.specs.Members.{bit_of, flags_in, receiver_in}
use Rattle.schema.specs.told.SchemaTold.{Lent, EntryAt, Stands}
use Rattle.schema.proofs.StandsLaws.{stands-cut}
use Rattle.erasure.specs.Erasure.{Returned, of_type, erased_return, print, print_returned}
use Rattle.erasure.specs.told.ErasureTold.{fixed_told, fixed_part, PutSized, PutPart}
use Rattle.erasure.specs.declared.Position.TheVariants as position
use Rattle.erasure.specs.declared.Class.TheVariants as classes
use Rattle.erasure.specs.declared.Part.TheVariants as parts
use Rattle.std.specs.Prelude as std
use Rattle.std.specs.Prelude.{Some, None}
use Rattle.erasure.proofs.PartLaws.{object-at, continuation-at, part-short}
use Rattle.descriptors.specs.Defaults.{suspends, continuation_class, object, function_parts, constructor_parts, descriptor}
use Rattle.descriptors.specs.told.DefaultsTold.{part_cost, parameters_part, ParametersTold, ConstructorDefault, FunctionDefault}
use Rattle.descriptors.specs.told.PartsTold.{PartOf, TypeGiven, type_part, FunctionGiven, receiver_part, before_part, after_part, preceded}
use Rattle.descriptors.proofs.GivenLaws.{ConstructorGiven, constructor_given, function_given}
use Rattle.descriptors.proofs.JoinLaws.{both, before-part, constructor_text, function_text, text_then, text-byte, text_none, told_same, preceded-sum, part-absent, part_then, part-fixed, part-more, part-answer}

-- A part after a (.
opened : {D : Type 0} (p s : D → Option (List ℕ)) → ((d : D) → s d ≡ both (some (0x28 ∷ [])) (p d))
    → {given : Scope → Message → D → Type 0} {n : ℕ} (n₁ : ℕ) → 1 + n ≤ n₁ → {e : Lent} {start end at : ℕ} {r r₁ : std.Option ℕ} {A A₁ A₂ : List ℕ}
    → A₁ ≡ set A at 0x28 → PartOf given p n e start end (at + 1) r A₁ A₂ → preceded 1 r ≡ r₁ → PartOf given s n₁ e start end at r₁ A A₂
opened p s joined n₁ h f u w = part-answer w (part-more n₁ h (part_then (λ d. some (0x28 ∷ [])) p s joined (part-fixed (text-byte f)) u))

-- A constructor: (, the parameters, )V.
abbrev parameters : Constructor → Option (List ℕ)
parameters d = parameters_part d.parameters

abbrev ended : Constructor → Option (List ℕ)
ended d = both (parameters_part d.parameters) (some (0x29 ∷ 0x56 ∷ []))

module _ {e : Lent} {start end : ℕ} (at : ℕ) (A : List ℕ) {A₁ A₂ : List ℕ} (f : A₁ ≡ set A at 0x28) {r : std.Option ℕ}
    (u : ParametersTold e start end Constructor-value_parameter (at + 1) r A₁ A₂) where
  parameters-are : {y : std.Option ℕ} → r ≡ y → PartOf ConstructorGiven parameters (part_cost * (end - start)) e start end (at + 1) y A₁ A₂
  parameters-are w = part-answer w (record { within = u.within; is = λ c s m k d g. u.is c s m k d.parameters g.before g.after g.is })

  constructor-told : {n : ℕ} → 1 + n ≤ part_cost * (4 + (end - start)) → {y z : std.Option ℕ} {A₃ : List ℕ} → PartOf ConstructorGiven ended n e start end (at + 1) y A₁ A₃ → preceded 1 y ≡ z
      → ConstructorDefault e start end at z A A₃
  constructor-told h p w =
      let q = opened ended (λ d. map_option descriptor (constructor_parts d)) constructor_text (part_cost * (4 + (end - start))) h f p w in
      record { within = q.within; is = λ c s m k d l b g. q.is c s m k d (constructor_given c m d l b g) }

  pub constructor-absent : r ≡ None → ConstructorDefault e start end at None A A₂
  constructor-absent w =
      constructor-told {n = 0} (omega arith) (part-absent parameters (λ d. some (0x29 ∷ 0x56 ∷ [])) ended (λ d. refl) 0 (parameters-are w)) refl

  pub constructor-done : {size : ℕ} → r ≡ Some size → {A₃ : List ℕ} → A₃ ≡ sets A₂ (at + 1 + size) (0x29 ∷ 0x56 ∷ [])
      → ConstructorDefault e start end at (Some (3 + size)) A A₃
  constructor-done {size} w g =
      constructor-told {n = part_cost * (end - start) + 2} (omega arith)
      (part_then parameters (λ d. some (0x29 ∷ 0x56 ∷ [])) ended (λ d. refl) (parameters-are w) (part-fixed (record { size = refl; area = g })))
      (let i : 1 + (size + 2) ≡ 3 + size = omega arith in ap Some i)

-- A function's receiver.
module _ (e : Lent) (msg : List ℕ) (base at : ℕ) (st : Stands e.payload msg base) {b : Bool}
    (t : (c : Scope) (m : Message) (l : ℕ) (o : Option Ty) (n : ℕ) → cut (◌from◌ base msg) ≡ ok m
    → declared_type c Function-receiver_type Function-receiver_type_id m l ≡ ok (o, n) → receiver_in o Function-receiver_type_id m ≡ b) where
  received : (c : Scope) (m : Message) → EntryAt e.payload base (base + length msg) m → (f : Function) → FunctionGiven c m f → {y : Bool} → b ≡ y
      → (if y then type_part position.Parameter f.receiver else some []) ≡ receiver_part f
  received c m k f g {y} q =
      let h : f.has_receiver ≡ y = g.has_receiver ∙ t c m g.receiver.before f.receiver g.receiver.after (stands-cut st k) g.receiver.is ∙ q in
      ap (λ (x : Bool). if x then type_part position.Parameter f.receiver else some []) (sym h)

  pub receiver-there : b ≡ true → {r : std.Option ℕ} {A A₁ : List ℕ}
      → PartOf (TypeGiven Function-receiver_type Function-receiver_type_id) (type_part position.Parameter) part_cost e base (base + length msg) at r A A₁
      → PartOf FunctionGiven receiver_part part_cost e base (base + length msg) at r A A₁
  receiver-there q {r} {A} {A₁} u = record {
    within = u.within;
    is = λ c s m k f g.
        told_same {x = type_part position.Parameter f.receiver} {y = receiver_part f} at r A A₁ (received c m k f g q)
        (u.is c s m k f.receiver g.receiver);
  }

  pub receiver-none : b ≡ false → (A : List ℕ) → PartOf FunctionGiven receiver_part part_cost e base (base + length msg) at (Some 0) A A
  receiver-none q A = record {
    within = omega arith;
    is = λ c s m k f g. told_same {x = some []} {y = receiver_part f} at (Some 0) A A (received c m k f g q) ([], refl, text_none at A);
  }

-- What stands before the ): the receiver, then the parameters.
module _ {e : Lent} (msg : List ℕ) {base at : ℕ} {r : std.Option ℕ} {A A₁ : List ℕ} (u : PartOf FunctionGiven receiver_part part_cost e base (base + length msg) at r A A₁) where
  pub before-absent : r ≡ None → PartOf FunctionGiven before_part (part_cost * (1 + length msg)) e base (base + length msg) at None A A₁
  before-absent w =
      part-absent receiver_part (λ f. parameters_part f.parameters) before_part before-part (part_cost * (1 + length msg)) (part-answer w u)

  pub before-done : {size : ℕ} → r ≡ Some size → {y z : std.Option ℕ} {A₂ : List ℕ} → ParametersTold e base (base + length msg) Function-value_parameter (at + size) y A₁ A₂
      → z ≡ preceded size y → PartOf FunctionGiven before_part (part_cost * (1 + length msg)) e base (base + length msg) at z A A₂
  before-done {size} w {y} {z} {A₂} v q =
      let p : PartOf FunctionGiven (λ f. parameters_part f.parameters) (part_cost * (base + length msg - base)) e base (base + length msg) (at + size) y A₁ A₂ = record {
        within = v.within;
        is = λ c s m k f g. v.is c s m k f.parameters g.parameters.before g.parameters.after g.parameters.is;
      } in
      part-answer (sym q)
      (part-more (part_cost * (1 + length msg)) (omega arith)
      (part_then receiver_part (λ f. parameters_part f.parameters) before_part before-part (part-answer w u) p))

-- The parts that the code names.
pub object-part : fixed_told (parts.Class classes.Object) ≡ of_type object
object-part = refl

pub continuation-part : fixed_told parts.Continuation ≡ of_type continuation_class
continuation-part = refl

-- and by their numbers
pub object-numbered : fixed_part 24 ≡ of_type object
object-numbered = object-at

pub continuation-numbered : fixed_part 38 ≡ of_type continuation_class
continuation-numbered = continuation-at

-- What stands after them.
abbrev suspended : Option (List ℕ)
suspended = some (print continuation_class ++ (0x29 ∷ print object))

abbrev returned : Function → Option (List ℕ)
returned f = map_option (λ r. 0x29 ∷ print_returned r) (if_some f.returned none erased_return)

pub suspended_put : {at first last : ℕ} {A A₁ A₂ A₃ : List ℕ} → PutPart parts.Continuation at first A A₁ → A₂ ≡ set A₁ (at + first) 0x29
    → PutPart (parts.Class classes.Object) (at + first + 1) last A₂ A₃ → PutSized (print continuation_class ++ (0x29 ∷ print object)) at (first + 1 + last) A A₃
suspended_put {at} {first} {last} {A} {A₁} {A₂} {A₃} p e q =
    let p' : PutSized (print continuation_class) at first A A₁ = p in
    let q' : PutSized (print object) (at + first + 1) last A₂ A₃ = q in
    let q'' : PutSized (print object) (at + (first + 1)) last A₂ A₃ = rw add_assoc at q' in
    let all = text_then (text_then p' (text-byte e)) q'' in
    subst (λ (t : List ℕ). PutSized t at (first + 1 + last) A A₃) (append_assoc (print continuation_class) (0x29 ∷ []) (print object)) all

suspended_short : length (print continuation_class ++ (0x29 ∷ print object)) ≤ 67
suspended_short =
    let c : length (print continuation_class) ≤ 33 = part-short parts.Continuation in
    let o : length (print object) ≤ 33 = part-short (parts.Class classes.Object) in
    omega (arith, length-append (print continuation_class) (0x29 ∷ print object))

returned-text : (o : Option Ty) → both (some (0x29 ∷ [])) (type_part position.Return o) ≡ map_option (λ r. 0x29 ∷ print_returned r) (if_some o none erased_return)
returned-text none = refl
returned-text (some t) = go (erased_return t)
  where
    go : (x : Option Returned) → both (some (0x29 ∷ [])) (map_option print_returned x) ≡ map_option (λ r. 0x29 ∷ print_returned r) x
    go none = refl
    go (some r) = refl

module _ (e : Lent) (msg : List ℕ) (base at : ℕ) (st : Stands e.payload msg base) {b : Bool}
    (t : (m : Message) → cut (◌from◌ base msg) ≡ ok m → bit_of 13 (flags_in Function-flags m) ≡ b) where
  suspending : (c : Scope) (m : Message) → EntryAt e.payload base (base + length msg) m → (f : Function) → FunctionGiven c m f → {y : Bool} → b ≡ y → suspends f ≡ y
  suspending c m k f g q = ap (bit_of 13) g.flags ∙ t m (stands-cut st k) ∙ q

  pub after-suspended : b ≡ true → {size : ℕ} {A A₁ : List ℕ} → PutSized (print continuation_class ++ (0x29 ∷ print object)) at size A A₁
      → PartOf FunctionGiven after_part (part_cost * 2) e base (base + length msg) at (Some size) A A₁
  after-suspended q {size} {A} {A₁} u = record {
    within = omega (arith, u.size, suspended_short);
    is = λ c s m k f g.
        told_same {x = suspended} {y = after_part f} at (Some size) A A₁
        (ap (λ (x : Bool). if x then suspended else returned f) (sym (suspending c m k f g q)))
        (print continuation_class ++ (0x29 ∷ print object), refl, u);
  }

  pub after-returned : b ≡ false → {A A₁ A₂ : List ℕ} → A₁ ≡ set A at 0x29 → {r z : std.Option ℕ}
      → PartOf (TypeGiven Function-return_type Function-return_type_id) (type_part position.Return) part_cost e base (base + length msg) (at + 1) r A₁ A₂
      → z ≡ preceded 1 r → PartOf FunctionGiven after_part (part_cost * 2) e base (base + length msg) at z A A₂
  after-returned q {A} {A₁} {A₂} i {r} {z} u w =
      let last : PartOf FunctionGiven (λ f. type_part position.Return f.returned) part_cost e base (base + length msg) (at + 1) r A₁ A₂ = record {
        within = u.within;
        is = λ c s m k f g. u.is c s m k f.returned g.returned;
      } in
      let p = part-answer (sym w) (part-more (part_cost * 2) (omega arith)
      (part_then (λ f. some (0x29 ∷ [])) (λ f. type_part position.Return f.returned) returned (λ f. sym (returned-text f.returned)) (part-fixed (text-byte i)) last)) in
      record {
        within = p.within;
        is = λ c s m k f g.
            told_same {x = returned f} {y = after_part f} at z A A₂ (ap (λ (x : Bool). if x then suspended else returned f) (sym (suspending c m k f g q)))
            (p.is c s m k f g);
      }

-- A function: (, what stands before the ), what stands after.
abbrev inner : Function → Option (List ℕ)
inner f = both (before_part f) (after_part f)

module _ {e : Lent} (msg : List ℕ) {base : ℕ} (at : ℕ) (A : List ℕ) {A₁ A₂ : List ℕ} (h : A₁ ≡ set A at 0x28) {r : std.Option ℕ}
    (u : PartOf FunctionGiven before_part (part_cost * (1 + length msg)) e base (base + length msg) (at + 1) r A₁ A₂) where
  function-told : {n : ℕ} → 1 + n ≤ part_cost * (4 + (base + length msg - base)) → {y z : std.Option ℕ} {A₃ : List ℕ} → PartOf FunctionGiven inner n e base (base + length msg) (at + 1) y A₁ A₃
      → preceded 1 y ≡ z → FunctionDefault e base (base + length msg) at z A A₃
  function-told i p w =
      let q = opened inner (λ f. map_option descriptor (function_parts f)) function_text (part_cost * (4 + (base + length msg - base))) i h p w in
      record { within = q.within; is = λ c s m k f l b g. q.is c s m k f (function_given c m f l b g) }

  pub function-absent : r ≡ None → FunctionDefault e base (base + length msg) at None A A₂
  function-absent w = function-told {n = 0} (omega arith) (part-absent before_part after_part inner (λ f. refl) 0 (part-answer w u)) refl

  pub function-done : {size : ℕ} → r ≡ Some size → {y z : std.Option ℕ} {A₃ : List ℕ}
      → PartOf FunctionGiven after_part (part_cost * 2) e base (base + length msg) (at + 1 + size) y A₂ A₃ → z ≡ preceded (1 + size) y → FunctionDefault e base (base + length msg) at z A A₃
  function-done {size} w {y} v q =
      function-told {n = part_cost * (1 + length msg) + part_cost * 2} (omega arith) (part_then before_part after_part inner (λ f. refl) (part-answer w u) v)
      (preceded-sum 1 size y ∙ sym q)
