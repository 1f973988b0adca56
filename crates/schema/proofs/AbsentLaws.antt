-- What is absent or refused has nothing more looked up. These hold of any scope, also of one whose look-ups are refused.
-- Assumes nothing.
use mathlib.Core.Path.{◌≡◌, ap}
use mathlib.Core.List.{List}
use mathlib.Core.Option.{Option, none, some}
use Prim.Native.Nat.{ℕ, suc, ◌+◌}
use Rattle.foundation.specs.Results.{Cause, ok, refused}
use Rattle.fields.specs.Fields.{Type-argument, Function-name, Property-name, TypeAlias-name, JvmMethodSignature-name}
use Rattle.wire.specs.Wire.{Message}
use Rattle.wire.specs.Messages.{messages}
use Rattle.declaration_rows.specs.Declarations.{star, Argument, projected, blank}
use Rattle.schema.specs.Reading.{Read, pure, kept, Scope, name_in}
use Rattle.schema.specs.Types.{Walk, projection_in, argument_in, parse_at}
use Rattle.schema.proofs.ArgumentLaws.{argument-star}
use Rattle.schema.specs.Members.{signature_of, function_in, property_in, alias_in}

module _ (s : Scope) (m : Message) (l : ℕ) where
  -- an accessor's descriptor, where its name is absent
  pub unnamed-accessor : name_in s JvmMethodSignature-name m l ≡ pure none l → signature_of s none m l ≡ pure none l
  unfolding signature_of
  unnamed-accessor e = rw e

  -- the inside of a declaration that is skipped
  pub unnamed-function : name_in s Function-name m l ≡ pure none l → function_in s m l ≡ pure none l
  unfolding function_in
  unnamed-function e = rw e

  pub unnamed-property : name_in s Property-name m l ≡ pure none l → property_in s m l ≡ pure none l
  unfolding property_in
  unnamed-property e = rw e

  pub unnamed-alias : name_in s TypeAlias-name m l ≡ pure none l → alias_in s m l ≡ pure none l
  unfolding alias_in
  unnamed-alias e = rw e

  -- a type's name, where its arguments are refused
  pub refused-arguments : (walk : Walk) (d : ℕ) (ms : List Message) (c : Cause) (p : ℕ) → messages Type-argument m ≡ ok ms
      → kept (argument_in walk s (d + 1)) ms l ≡ refused c p → parse_at walk s d m (suc l) ≡ refused c p
  unfolding parse_at
  refused-arguments walk d ms c p e h = rw (e, h)

  -- a star's type
  pub star-argument : (walk : Walk) (d : ℕ) → projection_in m ≡ star → argument_in walk s d m (suc l) ≡ pure (some (projected star blank)) l
  star-argument walk d e = ap (λ (read : Read (Option Argument)). read (suc l)) (argument-star walk s d m e)
