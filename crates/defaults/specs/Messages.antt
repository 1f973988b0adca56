-- The messages that functions and constructors were read from, and that every parameter message gives a part.
-- Assumes nothing.
use Rattle.std.specs.Prelude.{◌≡◌, Bool, List, [], ◌∷◌, ◌++◌, map, ℕ, eqb, length, if◌then◌else◌}
use Rattle.std.proofs.Math.Option.{Option, some}
use Rattle.foundation.specs.Results.{Res, ok, ◌>>=◌, ◌from◌}
use Rattle.fields.specs.Fields.{Class-constructor, Constructor-value_parameter, Function-value_parameter}
use Rattle.encoding.specs.Encoding.{decoded}
use Rattle.wire.specs.Wire.{Message, cut, read_delimited}
use Rattle.wire.specs.Messages.{values, bodies_of, messages}
use Rattle.names.specs.Names.{Names, records_of, strings_from, d2_string}
use Rattle.declaration_rows.specs.Declarations.{Parameter, Constructor, Function}
use Rattle.schema.specs.Reading.{Read, Scope}
use Rattle.schema.specs.Types.{type_table_in}
use Rattle.schema.specs.Members.{parameter_in, constructor_in, function_in, function_field, type_table_field}
use Rattle.schema.specs.OneForOne.{OneForOne}
use Rattle.inputs.specs.Inputs.{Input, kind_of}
use Rattle.erasure.specs.Erasure.{Erased}
use Rattle.descriptors.specs.Defaults.{Parts, erased_option, suspends, continuation_class, function_parts, constructor_parts}

-- Metadata kind 1 is a class.
abbrev pub of_class : Input → Bool
of_class i = eqb (kind_of i.k) 1

-- the names of an input, and the message of its body: the decoded bytes after the name table
unfoldable pub opened : Input → Res (Names × Message)
opened i =
    decoded i.d1 >>= λ bytes.
    read_delimited (◌from◌ 0 bytes) >>= λ (table, rest).
    cut table >>= λ fields.
    records_of fields >>= λ records.
    cut rest >>= λ body.
    ok (record { records = records; d2 = d2_string (strings_from 0 i.ends i.d2) }, body)

-- A message of the list in field n of the body, and the names and types that it is read with: those of the input, and the body's type table.
pub record Listed (i : Input) (n : ℕ) (s : Scope) (m : Message) : Type 0 where
  pub body : Message
  pub opens : opened i ≡ ok (s.names, body)
  pub left : ℕ
  pub after : ℕ
  pub table : type_table_in (type_table_field (of_class i)) body left ≡ ok (s.table, after)
  pub ones : List Message
  pub others : List Message
  pub stands : messages n body ≡ ok (ones ++ (m ∷ others))

-- What was read of a message of the list in field n, and the parameters that it has: they are the length-delimited occurrences of the message's field k,
-- one for one and in order, and each is what is read of its message.
pub record OfMessage {A : Type 0} (read : Scope → Message → Read (Option A)) (parameters : A → List Parameter) (n k : ℕ) (i : Input) (a : A) : Type 0 where
  pub scope : Scope
  pub message : Message
  pub listed : Listed i n scope message
  pub before : ℕ
  pub after : ℕ
  pub reads : read scope message before ≡ ok (some a, after)
  pub first : ℕ
  pub last : ℕ
  pub of_each : OneForOne (parameter_in scope) (bodies_of (values k message)) (parameters a) first last

-- The parts before the last: the receiver's where there is one, one of every parameter, in order, and the continuation where it suspends.
pub record PartsBefore (f : Function) (es : List Erased) : Type 0 where
  pub receiver : List Erased
  pub parameters : List Erased
  pub continuation : List Erased
  pub are : es ≡ receiver ++ (parameters ++ continuation)
  pub of_receiver : map some receiver ≡ (if f.has_receiver then erased_option f.receiver ∷ [] else [])
  pub of_parameters : map some parameters ≡ map (λ p. erased_option p.type) f.parameters
  pub of_continuation : continuation ≡ (if suspends f then continuation_class ∷ [] else [])

-- A function of an input: every one of its parameter messages is a parameter, and every parameter is a part.
pub record FunctionByMessages (i : Input) (f : Function) : Type 0 where
  pub of : OfMessage function_in (λ g. g.parameters) (function_field (of_class i)) Function-value_parameter i f
  pub parts : (p : Parts) → function_parts f ≡ some p → PartsBefore f p.before
  pub many : length f.parameters ≡ length (bodies_of (values Function-value_parameter of.message))

-- The same of a constructor, which has neither a receiver nor a continuation.
pub record ConstructorByMessages (i : Input) (c : Constructor) : Type 0 where
  pub of : OfMessage constructor_in (λ d. d.parameters) Class-constructor Constructor-value_parameter i c
  pub parts : (p : Parts) → constructor_parts c ≡ some p → map some p.before ≡ map (λ q. erased_option q.type) c.parameters
  pub many : length c.parameters ≡ length (bodies_of (values Constructor-value_parameter of.message))
