-- Constructors and functions in code.
-- Assumes nothing.
use mathlib.Core.Path.{◌≡◌, refl, ap, sym, subst, ◌∙◌}
use mathlib.Core.Bool.{Bool}
use mathlib.Core.List.{List, ◌++◌, map}
use mathlib.Core.Option.{Option, none, some}
use Prim.Native.Nat.{ℕ, ◌+◌, ◌*◌}
use native.Mathlib.Omega.{arith}
use lib.ListN.{length}
use lib.Seq.{sets}
use Rattle.foundation.specs.Choices.{concat, or_else, both_of}
use Rattle.foundation.specs.Digits.{little}
use Rattle.foundation.specs.Results as Results
use Rattle.foundation.specs.Results.{Res, ok, refused, Cause, ◌from◌}
use Rattle.foundation.specs.Texts.{Text, ascii}
use Rattle.fields.specs.Fields.{Constructor-flags, Constructor-value_parameter, Constructor-constructor_signature, Function-name, Function-return_type, Function-receiver_type, Function-value_parameter, Function-return_type_id, Function-receiver_type_id, Function-flags, Function-method_signature}
use Rattle.wire.specs.Wire.{Message, cut}
use Rattle.wire.specs.declared.WireError.{WireError}
use Rattle.wire.proofs.WalkLaws.{ok_same}
use Rattle.names.specs.told.Name.{named_text, name_text}
use Rattle.names.specs.declared.name.Name.{Name}
use Rattle.sheet.specs.told.Put.{PutHead, past}
use Rattle.sheet.specs.declared.State.{State}
use Rattle.sheet.proofs.PutLaws.{put-types, rows_then}
use Rattle.declaration_rows.specs.Declarations.{Ty, Signature, Parameter, Constructor, Function, signed}
use Rattle.schema.specs.Reading.{pure, Scope, name_in}
use Rattle.schema.specs.Members.{flags_in, parameters_in, signature_in, constructor_in, receiver_in, function_in}
use Rattle.schema.specs.Types.{declared_type}
use Rattle.declaration_rows.specs.Rows.{receiver_role, return_role, type_rows, parameter_rows, constructor_rows, function_rows}
use Rattle.declaration_rows.specs.told.Written.{cell_limit, signature_by, init_by, constructor_cells, function_cells}
use Rattle.schema.specs.told.SchemaTold.{Lent, NamesOf, Scoped, WalkedSpends, WalkedTold}
use Rattle.schema.specs.told.MembersTold.{Affords, Within, ListedTold, parameter_cost, member_cost, MemberTold}
use Rattle.type_references.specs.told.OptionalTold.{OptionalTold}
use Rattle.members.specs.told.ParametersTold.{ParametersInTold}
use Rattle.members.specs.told.SignaturesTold.{SignedTold}
use Rattle.schema.specs.told.ReceiversTold.{ReceiverTold}
use Rattle.members.specs.told.CallablesTold.{function_head_cost, FunctionHead, function_types, FunctionTypesAre, FunctionTypesTold}
use Rattle.declaration_rows.specs.declared.SignatureNames.{SignatureNames}
use Rattle.members.specs.told.SignaturesTold.{Signed}
use Rattle.schema.specs.declared.Stop.{Stop}
use Rattle.schema.specs.declared.Stop.TheVariants as stop
use Rattle.declaration_rows.proofs.WrittenLaws.{constructor-small, function-small}
use Rattle.declaration_rows.proofs.RecordLaws.{constructor-put, function-put}
use Rattle.schema.proofs.CountLaws.{within_then, within_both, spends-within, past-within, affords-after, affords-places, head-within, listed-within}
use Rattle.members.proofs.PairLaws.{walked_spends}
use Rattle.std.specs.declared.option.Option as rust
use Rattle.std.specs.declared.option.Option.TheVariants.{Some, None}
use Rattle.std.specs.Option.{option_or}
use Rattle.std.specs.declared.result.Result.TheVariants.{Ok, Err}
use Rattle.schema.specs.told.SchemaTold.{Walked}
use Rattle.schema.specs.told.MembersTold.{section, ListWalked}

-- A constructor: its parameters, then its signature.
constructor_of : Message → List Parameter → Option Signature → Constructor
constructor_of m ps g = record { flags = flags_in Constructor-flags m; parameters = ps; signature = g }

module _ (c : Scope) (m : Message) (l : ℕ) where
  constructor-stops : {x : Cause} {p : ℕ} → parameters_in c Constructor-value_parameter m l ≡ refused x p → constructor_in c m l ≡ refused x p
  unfolding constructor_in
  constructor-stops e = rw e

  module _ {ps : List Parameter} {b : ℕ} (e : parameters_in c Constructor-value_parameter m l ≡ ok (ps, b)) where
    constructor-unsigned : {x : Cause} {p : ℕ} → signature_in c (some (ascii "<init>")) Constructor-constructor_signature m b ≡ refused x p
        → constructor_in c m l ≡ refused x p
    unfolding constructor_in
    constructor-unsigned f = rw (e, f)

    constructor-is : {g : Option Signature} → signature_in c (some (ascii "<init>")) Constructor-constructor_signature m b ≡ ok (g, b)
        → constructor_in c m l ≡ ok (some (constructor_of m ps g), b)
    unfolding constructor_in constructor_of
    constructor-is f = rw (e, f)

-- what a constructor's record takes, with its parameter count
abbrev constructor_head_cost : ℕ
constructor_head_cost = 1 + 3 * cell_limit + 2

module _ (e : Lent) (msg : List ℕ) (base : ℕ) (s : State) (afford : Affords e (member_cost (length msg)) s) (flags : ℕ)
    (names : SignatureNames) {s₁ : State} {S S₁ T T₁ : List ℕ}
    (p : PutHead 2 (constructor_cells flags (init_by e.payload e.d2 names)) s.types s s₁ S S₁ T T₁) where
  constructor-takes : Within constructor_head_cost s (past 2 s₁)
  constructor-takes =
      let small = constructor-small (affords-places afford) flags names in
      within_then (head-within afford (constructor_cells flags (init_by e.payload e.d2 names)) small 2 p) (past-within 2 s₁)

  -- what is left for the parameters
  pub constructor-affords : Affords e (parameter_cost * length msg) (past 2 s₁)
  constructor-affords = affords-after afford (parameter_cost * length msg) constructor-takes (omega arith)

  module _ {r : ListWalked} {S₂ T₂ : List ℕ}
      (t : ParametersInTold e msg base Constructor-value_parameter (past 2 s₁) r S₁ S₂ T₁ T₂) where
    listed-is : (c : Scope) → Scoped e c → (m : Message) → cut (◌from◌ base msg) ≡ ok m → {y : ListWalked} → r ≡ y
        → ListedTold (parameters_in c Constructor-value_parameter m s.types) parameter_rows (past 2 s₁) y S₁ S₂ T₁ T₂
    listed-is c o m k {y} w =
        subst (λ (l : ℕ). ListedTold (parameters_in c Constructor-value_parameter m l) parameter_rows (past 2 s₁) y S₁ S₂ T₁ T₂) (put-types p)
        (subst (λ (z : ListWalked). ListedTold (parameters_in c Constructor-value_parameter m s₁.types) parameter_rows (past 2 s₁) z S₁ S₂ T₁ T₂) w (t.is c o m k))

    pub constructor-refused : {x : Stop} → r ≡ Err x
        → MemberTold constructor_in constructor_rows (member_cost (length msg)) e msg base s (Err x) S S₂ T T₂
    constructor-refused w = record { spends = tt; is = λ c o m k. constructor-stops c m s.types (listed-is c o m k w) }

    module _ {s₂ : State} {count : ℕ} (w : r ≡ Ok (section s₂ count)) (a : Signed)
        (g : (units : List ℕ) (c : Scope) → NamesOf e.payload units e.ends e.notes e.tables.records c.names
        → (m : Message) → cut (◌from◌ base msg) ≡ ok m → SignedTold e.payload units c Constructor-constructor_signature m a) where
      signed_is : (c : Scope) → Scoped e c → (m : Message) → cut (◌from◌ base msg) ≡ ok m → {y : Signed} → a ≡ y
          → SignedTold e.payload e.d2 c Constructor-constructor_signature m y
      signed_is c o m k q = subst (SignedTold e.payload e.d2 c Constructor-constructor_signature m) q (g e.d2 c o.names m k)

      pub constructor-unsigned-told : {x : WireError} → a ≡ Err x
          → MemberTold constructor_in constructor_rows (member_cost (length msg)) e msg base s (Err (stop.Wire x)) S S₂ T T₂
      constructor-unsigned-told q = record {
        spends = tt;
        is = λ c o m k.
            let ps = listed-is c o m k w in
            constructor-unsigned c m s.types ps.2 (signed_is c o m k q (some (ascii "<init>")) ps.1);
      }

      pub constructor-told : {n : SignatureNames} → a ≡ Ok n → names ≡ n
          → ((m : Message) → cut (◌from◌ base msg) ≡ ok m → flags_in Constructor-flags m ≡ flags)
          → {S₃ : List ℕ} → S₃ ≡ sets S₂ s₁.sheet (little 2 count)
          → MemberTold constructor_in constructor_rows (member_cost (length msg)) e msg base s (Ok (Some s₂)) S S₃ T T₂
      unfolding constructor_of
      constructor-told {n} q v f {S₃} z = record {
        spends =
            within_both (member_cost (length msg)) (omega arith) constructor-takes
            (listed-within {n = parameter_cost * length msg} t.spends w);
        is = λ c o m k.
            let ps = listed-is c o m k w in
            let it = init_by e.payload e.d2 n in
            let p' = subst (λ (y : SignatureNames). PutHead 2 (constructor_cells flags (init_by e.payload e.d2 y)) s.types s s₁ S S₁ T T₁) v p in
            let p'' = subst (λ (y : ℕ). PutHead 2 (constructor_cells y it) s.types s s₁ S S₁ T T₁) (sym (f m k)) p' in
            let z' : S₃ ≡ sets S₂ s₁.sheet (little 2 (length ps.0)) = z ∙ ap (λ (y : ℕ). sets S₂ s₁.sheet (little 2 y)) ps.3 in (
              constructor_of m ps.0 it,
              ps.1,
              constructor-is c m s.types ps.2 (signed_is c o m k q (some (ascii "<init>")) ps.1),
              constructor-put (constructor_of m ps.0 it) p'' ps.4 z',
            );
      }

-- A function's record up to its parameter count. The name of its signature falls back to its own.
either-name : (payload d2 : List ℕ) (o : rust.Option Name) (name : Name)
    → name_text payload d2 (option_or o (Some name)) ≡ or_else (name_text payload d2 o) (some (named_text payload d2 name))
either-name payload d2 None name = refl
either-name payload d2 (Some n) name = refl

pub function_head : {e : Lent} {msg : List ℕ} {base : ℕ} (name : Name) (a : Signed) {s s₁ : State} {S S₁ T T₁ : List ℕ} → Affords e function_head_cost s
    → (flags : ℕ) → ((m : Message) → cut (◌from◌ base msg) ≡ ok m → flags_in Function-flags m ≡ flags)
    → (own : SignatureNames) → ((n : SignatureNames) → a ≡ Ok n → own ≡ n)
    → (either : rust.Option Name) → either ≡ option_or own.name (Some name)
    → (receiver : Bool) → ReceiverTold msg base Function-receiver_type Function-receiver_type_id receiver
    → PutHead 3 (function_cells (some (named_text e.payload e.d2 name)) flags (signature_by e.payload e.d2 (record { name = either; descriptor = own.descriptor })) receiver) s.types s s₁ S S₁ T T₁
    → FunctionHead e msg base name a s s₁ S S₁ T T₁
function_head {e} name a afford flags f own n either o receiver r p =
    let names : SignatureNames = record { name = either; descriptor = own.descriptor } in
    let own_name = some (named_text e.payload e.d2 name) in
    let cells = function_cells own_name flags (signature_by e.payload e.d2 names) receiver in
    record {
      flags = flags;
      signature = signature_by e.payload e.d2 names;
      receiver = receiver;
      flags-are = f;
      signature-is = λ y q.
          ap (λ (t : Option Text). both_of signed t (name_text e.payload e.d2 own.descriptor)) (ap (name_text e.payload e.d2) o ∙ either-name e.payload e.d2 own.name name)
          ∙ ap (λ (z : SignatureNames). both_of signed (or_else (name_text e.payload e.d2 z.name) own_name) (name_text e.payload e.d2 z.descriptor)) (n y q);
      receiver-is = r;
      put = p;
      takes = head-within afford cells (function-small (affords-places afford) (Some name) flags names receiver) 3 p;
    }

-- What follows a function's parameters: its receiver's type, the refusal of its signature, its return type.
module _ {e : Lent} {msg : List ℕ} {base : ℕ} (a : Signed) {s : State} {own : Walked} {S S₁ T T₁ : List ℕ}
    (t : OptionalTold e msg base Function-receiver_type Function-receiver_type_id receiver_role s own S S₁ T T₁) where
  receiver-is : (c : Scope) → Scoped e c → (m : Message) → cut (◌from◌ base msg) ≡ ok m → {y : Walked} → own ≡ y
      → WalkedTold (declared_type c Function-receiver_type Function-receiver_type_id m s.types) (type_rows receiver_role) s y S S₁ T T₁
  receiver-is c o m k {y} q =
      subst (λ (w : Walked). WalkedTold (declared_type c Function-receiver_type Function-receiver_type_id m s.types) (type_rows receiver_role) s w S S₁ T T₁)
      q (t.is c o m k)

  pub receiver-refused : {x : Stop} → own ≡ Err x → FunctionTypesTold e msg base a s (Err x) S S₁ T T₁
  receiver-refused q = record { spends = tt; is = λ c o m k h name f. rw (receiver-is c o m k q) }

  module _ {s₁ : State} (q : own ≡ Ok s₁) where
    returned-are : (n : SignatureNames) (c : Scope) (m : Message) → SignedTold e.payload e.d2 c Function-method_signature m (Ok n)
        → WalkedTold (declared_type c Function-receiver_type Function-receiver_type_id m s.types) (type_rows receiver_role) s (Ok s₁) S S₁ T T₁
        → (w : Walked) (S₂ T₂ : List ℕ)
        → WalkedTold (declared_type c Function-return_type Function-return_type_id m s₁.types) (type_rows return_role) s₁ w S₁ S₂ T₁ T₂
        → (name : Text) → FunctionTypesAre c (some name) m s w S S₂ T T₂
    returned-are n c m h (r, b, i, p) (Ok s₂) S₂ T₂ (v, b', j, z) name =
        let j' = ap (declared_type c Function-return_type Function-return_type_id m) (sym (put-types p)) ∙ j in
        (r, _, v, b, b', i, h (some name) b, j', rows_then (type_rows receiver_role r) (type_rows return_role v) p z)
    returned-are n c m h (r, b, i, p) (Err x) S₂ T₂ j name =
        let j' = ap (declared_type c Function-return_type Function-return_type_id m) (sym (put-types p)) ∙ j in
        λ f. rw (i, h (some name) b, j')

    pub types-returned : {n : SignatureNames} → a ≡ Ok n → {w : Walked} {S₂ T₂ : List ℕ}
        → OptionalTold e msg base Function-return_type Function-return_type_id return_role s₁ w S₁ S₂ T₁ T₂
        → FunctionTypesTold e msg base a s w S S₂ T T₂
    types-returned {n} g {w} {S₂} {T₂} u = record {
      spends = walked_spends s s₁ w (subst (WalkedSpends s) q t.spends) u.spends;
      is = λ c o m k h name.
          returned-are n c m (subst (SignedTold e.payload e.d2 c Function-method_signature m) g h) (receiver-is c o m k q) w S₂ T₂ (u.is c o m k) name;
    }

-- A function.
function_of : Text → Message → List Parameter → Option Ty → Option Signature → Option Ty → Function
function_of name m ps receiver g returned = record {
  name = name;
  flags = flags_in Function-flags m;
  parameters = ps;
  has_receiver = receiver_in receiver Function-receiver_type_id m;
  receiver = receiver;
  signature = g;
  returned = returned;
}

pub function-none : (c : Scope) (m : Message) (l : ℕ) → name_in c Function-name m l ≡ ok (none, l) → function_in c m l ≡ ok (none, l)
unfolding function_in
function-none c m l i = rw i

module _ (c : Scope) (m : Message) (l : ℕ) {name : Text} (i : name_in c Function-name m l ≡ ok (some name, l)) where
  function-stops : {x : Cause} {p : ℕ} → parameters_in c Function-value_parameter m l ≡ refused x p → function_in c m l ≡ refused x p
  unfolding function_in
  function-stops f = rw (i, f)

  module _ {ps : List Parameter} {b : ℕ} (f : parameters_in c Function-value_parameter m l ≡ ok (ps, b)) where
    function-refused : {x : Cause} {p : ℕ} → function_types c (some name) m (function_of name m ps) b ≡ refused x p → function_in c m l ≡ refused x p
    unfolding function_in function_of
    function-refused g = rw (i, f) (ap (λ (r : Res (Function × ℕ)). Results.◌>>=◌ r λ z. pure (some z.0) z.1) g)

    function-is : {receiver returned : Option Ty} {g : Option Signature} {a b' : ℕ}
        → declared_type c Function-receiver_type Function-receiver_type_id m b ≡ ok (receiver, a)
        → signature_in c (some name) Function-method_signature m a ≡ ok (g, a)
        → declared_type c Function-return_type Function-return_type_id m a ≡ ok (returned, b')
        → function_in c m l ≡ ok (some (function_of name m ps receiver g returned), b')
    unfolding function_in function_of
    function-is p q r = rw (i, f, p, q, r)

-- the signature that is written is the one that is read
signature-same : (payload d2 : List ℕ) (c : Scope) (m : Message) (l : ℕ) (a : Signed) (t : Text) {g g' : Option Signature}
    → SignedTold payload d2 c Function-method_signature m a
    → ((n : SignatureNames) → a ≡ Ok n → g ≡ both_of signed (or_else (name_text payload d2 n.name) (some t)) (name_text payload d2 n.descriptor))
    → signature_in c (some t) Function-method_signature m l ≡ ok (g', l) → g ≡ g'
signature-same payload d2 c m l (Ok n) t {g} {g'} h f k =
    f n refl ∙ ap (λ (q : Option Signature × ℕ). q.0) (ok_same (sym (h (some t) l) ∙ k))
signature-same payload d2 c m l (Err x) t h f k =
    let h' = h (some t) l in
    let z : ◌≡◌ {A = ℕ} 0 1 = cc in
    absurd (omega arith)

-- the same record, said otherwise
head-same : (n : Option Text) {f f' : ℕ} {g g' : Option Signature} {r r' : Bool} {b : ℕ} {s s' : State} {S S' T T' : List ℕ}
    → f ≡ f' → g ≡ g' → r ≡ r' → PutHead 3 (function_cells n f g r) b s s' S S' T T' → PutHead 3 (function_cells n f' g' r') b s s' S S' T T'
head-same n {f} {f'} {g} {g'} {r} {r'} {b} {s} {s'} {S} {S'} {T} {T'} q u v h =
    let h₁ = subst (λ (x : ℕ). PutHead 3 (function_cells n x g r) b s s' S S' T T') q h in
    let h₂ = subst (λ (x : Option Signature). PutHead 3 (function_cells n f' x r) b s s' S S' T T') u h₁ in
    subst (λ (x : Bool). PutHead 3 (function_cells n f' g' x) b s s' S S' T T') v h₂

module _ {e : Lent} {msg : List ℕ} {base : ℕ} {s : State} (name : Name) (afford : Affords e (member_cost (length msg)) s) (a : Signed) {s₁ : State}
    {S S₁ T T₁ : List ℕ} (p : FunctionHead e msg base name a s s₁ S S₁ T T₁) where
  function-takes : Within (function_head_cost + 2) s (past 2 s₁)
  function-takes = within_then p.takes (past-within 2 s₁)

  module _ {r : ListWalked} {S₂ T₂ : List ℕ}
      (t : ParametersInTold e msg base Function-value_parameter (past 2 s₁) r S₁ S₂ T₁ T₂) where
    parameters-are : (c : Scope) → Scoped e c → (m : Message) → cut (◌from◌ base msg) ≡ ok m → {y : ListWalked} → r ≡ y
        → ListedTold (parameters_in c Function-value_parameter m s.types) parameter_rows (past 2 s₁) y S₁ S₂ T₁ T₂
    parameters-are c o m k {y} w =
        subst (λ (l : ℕ). ListedTold (parameters_in c Function-value_parameter m l) parameter_rows (past 2 s₁) y S₁ S₂ T₁ T₂) (put-types p.put)
        (subst (λ (z : ListWalked). ListedTold (parameters_in c Function-value_parameter m s₁.types) parameter_rows (past 2 s₁) z S₁ S₂ T₁ T₂) w (t.is c o m k))

    parameters-take : {s₂ : State} {count : ℕ} → r ≡ Ok (section s₂ count) → Within (function_head_cost + 2 + parameter_cost * length msg) s s₂
    parameters-take w = within_then function-takes (listed-within {n = parameter_cost * length msg} t.spends w)

    module _ (i : (c : Scope) → Scoped e c → (m : Message) → cut (◌from◌ base msg) ≡ ok m → (l : ℕ)
        → name_in c Function-name m l ≡ ok (some (named_text e.payload e.d2 name), l)) where
      pub function-unlisted : {x : Stop} → r ≡ Err x
          → MemberTold function_in function_rows (member_cost (length msg)) e msg base s (Err x) S S₂ T T₂
      function-unlisted w = record { spends = tt; is = λ c o m k. function-stops c m s.types (i c o m k s.types) (parameters-are c o m k w) }

      module _ {s₂ : State} {count : ℕ} (w : r ≡ Ok (section s₂ count))
          (g : (units : List ℕ) (c : Scope) → NamesOf e.payload units e.ends e.notes e.tables.records c.names
          → (m : Message) → cut (◌from◌ base msg) ≡ ok m → SignedTold e.payload units c Function-method_signature m a)
          {v : Walked} {S₃ T₃ : List ℕ} (u : FunctionTypesTold e msg base a s₂ v S₂ S₃ T₂ T₃) where
        types_are : (c : Scope) → Scoped e c → (m : Message) → cut (◌from◌ base msg) ≡ ok m → {y : Walked} → v ≡ y
            → FunctionTypesAre c (some (named_text e.payload e.d2 name)) m s₂ y S₂ S₃ T₂ T₃
        types_are c o m k {y} z =
            subst (λ (x : Walked). FunctionTypesAre c (some (named_text e.payload e.d2 name)) m s₂ x S₂ S₃ T₂ T₃) z
            (u.is c o m k (g e.d2 c o.names m k) (named_text e.payload e.d2 name))

        pub function-untyped : {x : Stop} → v ≡ Err x
            → MemberTold function_in function_rows (member_cost (length msg)) e msg base s (Err x) S S₃ T T₃
        function-untyped z = record {
          spends = tt;
          is = λ c o m k.
              let ps = parameters-are c o m k w in
              let name' = named_text e.payload e.d2 name in
              let stops = ap (function_types c (some name') m (function_of name' m ps.0)) (sym (put-types ps.4))
              ∙ types_are c o m k z (function_of name' m ps.0) in
              function-refused c m s.types (i c o m k s.types) ps.2 stops;
        }

        pub function-told : {s₃ : State} → v ≡ Ok s₃ → {S₄ : List ℕ} → S₄ ≡ sets S₃ s₁.sheet (little 2 count)
            → MemberTold function_in function_rows (member_cost (length msg)) e msg base s (Ok (Some s₃)) S S₄ T T₃
        unfolding function_of
        function-told {s₃} z {S₄} y = record {
          spends = within_both (member_cost (length msg)) (omega arith) (parameters-take w) (spends-within (subst (WalkedSpends s₂) z u.spends));
          is = λ c o m k.
              let ps = parameters-are c o m k w in
              let ts = types_are c o m k z in
              let name' = named_text e.payload e.d2 name in
              let receiver = ts.0 in
              let it = ts.1 in
              let f = function_of name' m ps.0 receiver it ts.2 in
              let types = put-types ps.4 in
              let received = ap (declared_type c Function-receiver_type Function-receiver_type_id m) (sym types) ∙ ts.5 in
              let signature = signature-same e.payload e.d2 c m ts.3 a name' (g e.d2 c o.names m k) p.signature-is ts.6 in
              let at_all : PutHead 3 (function_cells (some name') f.flags it f.has_receiver) s.types s s₁ S S₁ T T₁ =
              head-same (some name') (sym (p.flags-are m k)) signature (sym (p.receiver-is c m s₂.types receiver ts.3 k ts.5)) p.put in
              let rows = rows_then (concat (map parameter_rows ps.0)) (type_rows receiver_role receiver ++ type_rows return_role ts.2) ps.4 ts.8 in
              let counted : S₄ ≡ sets S₃ s₁.sheet (little 2 (length ps.0)) = y ∙ ap (λ (n : ℕ). sets S₃ s₁.sheet (little 2 n)) ps.3 in (
                f,
                ts.4,
                function-is c m s.types (i c o m k s.types) ps.2 received ts.6 ts.7,
                function-put f at_all rows counted,
              );
        }
