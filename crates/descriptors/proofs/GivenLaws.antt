-- What a reading has given, taken apart into what its steps gave.
-- Assumes nothing.
use mathlib.Core.Path.{◌≡◌, refl, ap}
use mathlib.Core.List.{List, [], ◌∷◌}
use mathlib.Core.Option.{Option, none, some}
use Prim.Native.Nat.{ℕ}
use native.Mathlib.Omega.{arith}
use Rattle.foundation.specs.Choices.{IfSome}
use Rattle.foundation.specs.Results.{Res, ok, refused}
use Rattle.foundation.specs.Texts.{Text, ascii}
use Rattle.foundation.proofs.ResultLaws.{Gives, gives-ok}
use Rattle.fields.specs.Fields.{Constructor-value_parameter, Constructor-constructor_signature, Function-name, Function-return_type, Function-receiver_type, Function-value_parameter, Function-return_type_id, Function-receiver_type_id, Function-method_signature, ValueParameter-name, ValueParameter-type, ValueParameter-vararg_element_type, ValueParameter-type_id, ValueParameter-vararg_element_type_id}
use Rattle.wire.specs.Wire.{Message}
use Rattle.wire.specs.Messages.{messages}
use Rattle.wire.proofs.WalkLaws.{ok_same}
use Rattle.declaration_rows.specs.Declarations.{Parameter, Constructor, Function}
use Rattle.schema.specs.Reading.{Read, lift, each, Scope, name_in}
use Rattle.schema.specs.Types.{declared_type}
use Rattle.schema.specs.Members.{named, signature_in, parameter_in, parameters_in, constructor_in, function_in}
use Rattle.schema.proofs.Fine.{Reads, reads-pure, reads-bind, reads_weaken}
use Rattle.descriptors.specs.told.PartsTold.{Gave, TypeGiven, FunctionGiven}

-- a reading gives what it gave
reads_self : {A : Type 0} (m : Read A) → Reads (Gave m) m
reads_self {A} m = record { at = λ l. go l (m l) refl }
  where
    go : (l : ℕ) (r : Res (A × ℕ)) → m l ≡ r → Gives (λ q. Gave m q.0) r
    go l (ok q) e = record { before = l; after = q.1; is = e }
    go l (refused c p) e = tt

pub gave_reads : {A : Type 0} (P : A → Type 0) {m : Read A} {a : A} → Reads P m → Gave m a → P a
gave_reads P r g = gives-ok (λ q. P q.0) g.is (r.at g.before)

-- what is read once there is a name
reads-named : {A : Type 0} {Q : Option A → Type 0} {read : Text → Read A} (o : Option Text) → (o ≡ none → Q none)
    → ((t : Text) → o ≡ some t → Reads (λ a. Q (some a)) (read t)) → Reads Q (named o read)
reads-named none p h = reads-pure (p refl)
reads-named (some t) p h = reads-bind (h t refl) λ a q. reads-pure q

gave_lift : {A : Type 0} (r : Res A) {a : A} → Gave (lift r) a → r ≡ ok a
gave_lift {A} (ok b) g = ap ok (ap (λ (q : A × ℕ). q.0) (ok_same g.is))
gave_lift (refused c p) g = let e = g.is in let z : ◌≡◌ {A = ℕ} 0 1 = cc in absurd (omega arith)

-- A parameter's type.
parameter_reads : (c : Scope) (m : Message) → Reads (λ p. TypeGiven ValueParameter-type ValueParameter-type_id c m p.type) (parameter_in c m)
unfolding parameter_in
parameter_reads c m =
    reads-bind (reads_self (name_in c ValueParameter-name m)) λ name g.
    reads-bind (reads_self (declared_type c ValueParameter-type ValueParameter-type_id m)) λ type h.
    reads-bind (reads_self (declared_type c ValueParameter-vararg_element_type ValueParameter-vararg_element_type_id m)) λ vararg v. reads-pure h

pub parameter_type : (c : Scope) (m : Message) {p : Parameter} → Gave (parameter_in c m) p → TypeGiven ValueParameter-type ValueParameter-type_id c m p.type
parameter_type c m g = gave_reads (λ p. TypeGiven ValueParameter-type ValueParameter-type_id c m p.type) (parameter_reads c m) g

-- The parameters of a list.
module _ (c : Scope) where
  pub record ParametersGiven (n : ℕ) (m : Message) (ps : List Parameter) : Type 0 where
    pub all : List Message
    pub cuts : messages n m ≡ ok all
    pub given : Gave (each (parameter_in c) all) ps

  parameters-read : (n : ℕ) (m : Message) → Reads (ParametersGiven n m) (parameters_in c n m)
  unfolding parameters_in
  parameters-read n m =
      reads-bind (reads_self (lift (messages n m))) λ ms g.
      reads_weaken (reads_self (each (parameter_in c) ms)) λ ps k. record { all = ms; cuts = gave_lift (messages n m) g; given = k }

  pub parameters-given : (n : ℕ) (m : Message) {ps : List Parameter} → Gave (parameters_in c n m) ps → ParametersGiven n m ps
  parameters-given n m g = gave_reads (ParametersGiven n m) (parameters-read n m) g

  -- the first of them, and the others
  pub record FirstParameter (m : Message) (ms : List Message) (ps : List Parameter) : Type 0 where
    pub one : Parameter
    pub others : List Parameter
    pub first : Gave (parameter_in c m) one
    pub later : Gave (each (parameter_in c) ms) others
    pub are : ps ≡ one ∷ others

  first_reads : (m : Message) (ms : List Message) → Reads (FirstParameter m ms) (each (parameter_in c) (m ∷ ms))
  unfolding each
  first_reads m ms =
      reads-bind (reads_self (parameter_in c m)) λ p g.
      reads-bind (reads_self (each (parameter_in c) ms)) λ ps h. reads-pure (record { one = p; others = ps; first = g; later = h; are = refl })

  pub first-given : (m : Message) (ms : List Message) {ps : List Parameter} → Gave (each (parameter_in c) (m ∷ ms)) ps → FirstParameter m ms ps
  first-given m ms g = gave_reads (FirstParameter m ms) (first_reads m ms) g

  none_reads : Reads (λ ps. ps ≡ []) (each (parameter_in c) [])
  unfolding each
  none_reads = reads-pure refl

  pub none-given : {ps : List Parameter} → Gave (each (parameter_in c) []) ps → ps ≡ []
  none-given g = gave_reads (λ ps. ps ≡ []) none_reads g

-- A constructor's parameters.
abbrev pub ConstructorGiven : Scope → Message → Constructor → Type 0
ConstructorGiven c m d = Gave (parameters_in c Constructor-value_parameter m) d.parameters

constructor_reads : (c : Scope) (m : Message) → Reads (IfSome (ConstructorGiven c m)) (constructor_in c m)
unfolding constructor_in
constructor_reads c m =
    reads-bind (reads_self (parameters_in c Constructor-value_parameter m)) λ parameters p.
    reads-bind (reads_self (signature_in c (some (ascii "<init>")) Constructor-constructor_signature m)) λ signature s. reads-pure p

pub constructor_given : (c : Scope) (m : Message) (d : Constructor) (l b : ℕ) → constructor_in c m l ≡ ok (some d, b) → ConstructorGiven c m d
constructor_given c m d l b e =
    gave_reads (IfSome (ConstructorGiven c m)) {a = some d} (constructor_reads c m) (record { before = l; after = b; is = e })

-- What is read of a function.
function_reads : (c : Scope) (m : Message) → Reads (IfSome (FunctionGiven c m)) (function_in c m)
unfolding function_in
function_reads c m =
    reads-bind (reads_self (name_in c Function-name m)) λ o g.
    reads-named o (λ e. tt) λ name e.
    reads-bind (reads_self (parameters_in c Function-value_parameter m)) λ parameters p.
    reads-bind (reads_self (declared_type c Function-receiver_type Function-receiver_type_id m)) λ receiver r.
    reads-bind (reads_self (signature_in c (some name) Function-method_signature m)) λ signature s.
    reads-bind (reads_self (declared_type c Function-return_type Function-return_type_id m)) λ returned t.
    reads-pure (record { parameters = p; receiver = r; returned = t; flags = refl; has_receiver = refl })

pub function_given : (c : Scope) (m : Message) (f : Function) (l b : ℕ) → function_in c m l ≡ ok (some f, b) → FunctionGiven c m f
function_given c m f l b e =
    gave_reads (IfSome (FunctionGiven c m)) {a = some f} (function_reads c m) (record { before = l; after = b; is = e })
