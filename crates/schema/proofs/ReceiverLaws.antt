-- Whether a receiver is there, told by its two fields alone.
-- Assumes nothing.
use mathlib.Core.Path.{◌≡◌, refl, ap, sym, ◌∙◌}
use mathlib.Core.Bool.{Bool, true, false, ◌||◌}
use mathlib.Core.List.{List}
use mathlib.Core.Option.{Option, none, some}
use Prim.Native.Nat.{ℕ}
use native.Mathlib.Omega.{arith}
use Rattle.foundation.specs.Choices.{if_some, is_some}
use Rattle.foundation.specs.Results as Results
use Rattle.foundation.specs.Results.{Res, ok, refused, Part}
use Rattle.foundation.proofs.ResultLaws.{Gives, gives_bind, gives-ok}
use Rattle.wire.specs.Wire.{Message, cut, Value}
use Rattle.wire.specs.Messages.{value, varint_of, index, bytes_of, cut_option, message}
use Rattle.messages.specs.told.Asked.{FoundTold, piece_told, BytesTold}
use Rattle.wire.specs.declared.WireValue.{WireValue}
use Rattle.wire.proofs.Later.{gives_any}
use Rattle.wire.proofs.WalkLaws.{ok_same}
use Rattle.declaration_rows.specs.Declarations.{Ty}
use Rattle.schema.specs.Reading.{Read, pure, ◌>>=◌, Scope, lift}
use Rattle.schema.specs.Types.{Walk, resolve_at, type_in, declared_type}
use Rattle.schema.specs.told.ReceiversTold.{ReceiverTold}
use Rattle.std.specs.Option as found
use Rattle.std.specs.declared.option.Option as rust
use Rattle.std.specs.declared.option.Option.TheVariants.{Some, None}
use Rattle.foundation.specs.declared.Span.{Span}

or_true : (b : Bool) → (b || true) ≡ true
or_true true = refl
or_true false = refl

module _ (walk : Walk) (s : Scope) (d inline indexed : ℕ) (m : Message) (l : ℕ) where
  -- a message that is there is cut to a type, or refused
  message-there : (o : Option Part) {p : Part} → o ≡ some p → Gives (λ q. is_some q.0 ≡ true) (lift (cut_option o) l)
  message-there none e = let z : ◌≡◌ {A = ℕ} 0 1 = cc in absurd (omega arith)
  message-there (some p) e = go (cut p)
    where
      go : (r : Res Message) → Gives (λ q. is_some q.0 ≡ true) (lift (Results.◌>>=◌ r λ i. ok (some i)) l)
      go (ok i) = refl
      go (refused c a) = tt

  inline-there : {p : Part} → bytes_of inline m ≡ some p → Gives (λ q. is_some q.0 ≡ true) (type_in walk s d inline indexed m l)
  unfolding type_in message
  inline-there e =
      gives_bind (λ q. is_some q.0 ≡ true) (λ q. is_some q.0 ≡ true) (lift (cut_option (bytes_of inline m)) l) (λ q. goes_on q.0 q.1) (message-there (bytes_of inline m) e) go
    where
      goes_on : Option Message → Read (Option Ty)
      goes_on t = if_some t (if_some (index indexed m) (pure none) (resolve_at walk s d)) λ inner. walk d inner >>= λ it. pure (some it)

      go : (q : Option Message × ℕ) → is_some q.0 ≡ true → Gives {A = Option Ty × ℕ} (λ r. is_some r.0 ≡ true) (goes_on q.0 q.1)
      go (none, n) h = let z : ◌≡◌ {A = ℕ} 0 1 = cc in absurd (omega arith)
      go (some i, n) h = gives_bind (λ r. Unit {0}) (λ r. is_some r.0 ≡ true) (walk d i n) _ (gives_any _ (walk d i n) λ r. tt) λ r u. refl

  type-nowhere : bytes_of inline m ≡ none → value indexed m ≡ none → type_in walk s d inline indexed m l ≡ ok (none, l)
  unfolding type_in message index varint_of
  type-nowhere e f = rw (e, f)

-- What the code finds of the two fields, by whether it is there.
absent_is : {A : Type 0} (o : rust.Option A) → found.is_some o ≡ false → o ≡ None
absent_is (Some x) e = let z : ◌≡◌ {A = ℕ} 0 1 = cc in absurd (omega arith)
absent_is None e = refl

module _ (msg : List ℕ) (base inline indexed : ℕ) {x : rust.Option Span} (t : BytesTold base msg inline x) where
  inline-is : (y : rust.Option Span) → x ≡ y → found.is_some y ≡ true → ReceiverTold msg base inline indexed true
  unfolding declared_type
  inline-is None e h c m l o b k f = let z : ◌≡◌ {A = ℕ} 0 1 = cc in absurd (omega arith)
  inline-is (Some p) e h c m l o b k f =
      let there = gives-ok (λ q. is_some q.0 ≡ true) f (inline-there _ c 0 inline indexed m l (t.is m k ∙ ap (piece_told base msg) e)) in
      ap (λ (y : Bool). y || is_some (value indexed m)) there

  pub receiver-inline : {r : Bool} → r ≡ found.is_some x → r ≡ true → ReceiverTold msg base inline indexed r
  receiver-inline e f = rw f (inline-is x refl (sym e ∙ f))

  module _ (h : found.is_some x ≡ false) where
    pub receiver-indexed : (y : rust.Option WireValue) → FoundTold base msg indexed y → {r : Bool} → r ≡ found.is_some y → ReceiverTold msg base inline indexed r
    unfolding declared_type
    receiver-indexed (Some v) u e c m l o b k f = ap (λ (v : Option Value). is_some o || is_some v) (u.is m k) ∙ or_true (is_some o) ∙ sym e
    receiver-indexed None u e c m l o b k f =
        let it = type-nowhere _ c 0 inline indexed m l (t.is m k ∙ ap (piece_told base msg) (absent_is x h)) (u.is m k) in
        let same : o ≡ none = ap (λ (q : Option Ty × ℕ). q.0) (ok_same (sym f ∙ it)) in
        rw (same, u.is m k, e)
