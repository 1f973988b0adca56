-- What the steps of reading constructors and functions tell.
-- Assumes nothing.
use Rattle.std.specs.Prelude.{◌≡◌, Bool, List, ◌++◌, ℕ, ◌+◌, ◌*◌}
use Rattle.std.proofs.Math.Option.{Option, some}
use Rattle.foundation.specs.Choices.{or_else, both_of}
use Rattle.foundation.specs.Results.{ok, ◌from◌}
use Rattle.foundation.specs.Texts.{Text}
use Rattle.fields.specs.Fields.{Function-return_type, Function-receiver_type, Function-return_type_id, Function-receiver_type_id, Function-flags, Function-method_signature}
use Rattle.wire.specs.Wire.{Message, cut}
use Rattle.names.specs.told.Name.{named_text, name_text}
use Rattle.names.specs.declared.name.Name.{Name}
use Rattle.sheet.specs.told.Put.{PutHead, PutRows}
use Rattle.sheet.specs.declared.State.{State}
use Rattle.declaration_rows.specs.Declarations.{Ty, Signature, Function, signed}
use Rattle.schema.specs.Reading.{Read, pure, ◌>>=◌, Scope}
use Rattle.schema.specs.Types.{declared_type}
use Rattle.schema.specs.Members.{flags_in, signature_in}
use Rattle.declaration_rows.specs.Rows.{receiver_role, return_role, type_rows}
use Rattle.declaration_rows.specs.told.Written.{cell_limit, function_cells}
use Rattle.schema.specs.told.SchemaTold.{Lent, Scoped, WalkedSpends, stop_refused}
use Rattle.schema.specs.told.MembersTold.{Within}
use Rattle.members.specs.told.SignaturesTold.{SignedTold}
use Rattle.schema.specs.told.ReceiversTold.{ReceiverTold}
use Rattle.declaration_rows.specs.declared.SignatureNames.{SignatureNames}
use Rattle.members.specs.told.SignaturesTold.{Signed}
use Rattle.std.specs.declared.result.Result.TheVariants.{Ok, Err}
use Rattle.schema.specs.told.SchemaTold.{Walked}

-- what a function's record up to its parameter count takes
abbrev pub function_head_cost : ℕ
function_head_cost = 1 + 5 * cell_limit

-- A function's record up to its parameter count, where its signature is accepted or refused later.
pub record FunctionHead (e : Lent) (msg : List ℕ) (base : ℕ) (name : Name) (a : Signed) (s s' : State) (S S' T T' : List ℕ) : Type 0 where
  pub flags : ℕ
  pub signature : Option Signature
  pub receiver : Bool
  pub flags-are : (m : Message) → cut (◌from◌ base msg) ≡ ok m → flags_in Function-flags m ≡ flags
  pub signature-is : (n : SignatureNames) → a ≡ Ok n
      → signature ≡ both_of signed (or_else (name_text e.payload e.d2 n.name) (some (named_text e.payload e.d2 name))) (name_text e.payload e.d2 n.descriptor)
  pub receiver-is : ReceiverTold msg base Function-receiver_type Function-receiver_type_id receiver
  pub put : PutHead 3 (function_cells (some (named_text e.payload e.d2 name)) flags signature receiver) s.types s s' S S' T T'
  pub takes : Within function_head_cost s s'

-- what is read after a function's parameters
abbrev pub function_types : Scope → Option Text → Message → (Option Ty → Option Signature → Option Ty → Function) → Read Function
function_types c fallback m f =
    declared_type c Function-receiver_type Function-receiver_type_id m >>= λ receiver.
    signature_in c fallback Function-method_signature m >>= λ signature.
    declared_type c Function-return_type Function-return_type_id m >>= λ returned. pure (f receiver signature returned)

abbrev pub FunctionTypesAre : Scope → Option Text → Message → State → Walked → (S S' T T' : List ℕ) → Type 0
FunctionTypesAre c fallback m s (Ok s') S S' T T' =
    (receiver : Option Ty) × (signature : Option Signature) × (returned : Option Ty) × (a : ℕ) × (b : ℕ)
    × (declared_type c Function-receiver_type Function-receiver_type_id m s.types ≡ ok (receiver, a))
    × (signature_in c fallback Function-method_signature m a ≡ ok (signature, a))
    × (declared_type c Function-return_type Function-return_type_id m a ≡ ok (returned, b))
    × PutRows (type_rows receiver_role receiver ++ type_rows return_role returned) b s s' S S' T T'
FunctionTypesAre c fallback m s (Err stop) S S' T T' =
    (f : Option Ty → Option Signature → Option Ty → Function) → function_types c fallback m f s.types ≡ stop_refused stop

-- a function's receiver type, the refusal of its signature, and its return type
pub record FunctionTypesTold (e : Lent) (msg : List ℕ) (base : ℕ) (a : Signed) (s : State) (r : Walked) (S S' T T' : List ℕ) : Type 0 where
  pub spends : WalkedSpends s r
  pub is : (c : Scope) → Scoped e c → (m : Message) → cut (◌from◌ base msg) ≡ ok m
      → SignedTold e.payload e.d2 c Function-method_signature m a → (name : Text) → FunctionTypesAre c (some name) m s r S S' T T'
