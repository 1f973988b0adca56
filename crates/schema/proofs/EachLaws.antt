-- What is read of each message of a list: one for one, and in order.
-- Assumes nothing.
use mathlib.Core.Path.{◌≡◌, refl, ap, sym, subst, ◌∙◌}
use mathlib.Core.List.{List, [], ◌∷◌}
use mathlib.Core.Option.{Option, some}
use Prim.Native.Nat.{ℕ, suc}
use lib.ListN.{length}
use Rattle.foundation.specs.Results as Results
use Rattle.foundation.specs.Results.{Res, ok, refused, Part}
use Rattle.wire.specs.Wire.{Message, cut}
use Rattle.wire.specs.Messages.{values, bodies_of, cut_all, messages}
use Rattle.wire.proofs.WalkLaws.{ok_same}
use Rattle.declaration_rows.specs.Declarations.{Parameter}
use Rattle.schema.specs.Reading.{Read, pure, ◌>>=◌, lift, keep, kept, each, Scope}
use Rattle.schema.specs.Members.{parameter_in, parameters_in}
use Rattle.schema.specs.OneForOne.{OneForOne, no_more, one_more}
use Rattle.schema.proofs.FoundLaws.{bind_given}
use Rattle.schema.proofs.ListLaws.{cut-first}

-- A reading that always gives something, as one that might not; of each message it is kept.
abbrev pub always : {A : Type 0} → Read A → Read (Option A)
always f = f >>= λ a. pure (some a)

pub each-kept : {A : Type 0} (f : Message → Read A) (ms : List Message) (l : ℕ) → kept (λ m. always (f m)) ms l ≡ each f ms l
unfolding kept each
each-kept f [] l = refl
each-kept {A} f (m ∷ ms) l = go (λ k. each-kept f ms k) (f m l)
  where
    go : ((k : ℕ) → kept (λ x. always (f x)) ms k ≡ each f ms k) → (r : Res (A × ℕ))
        → Results.◌>>=◌ (Results.◌>>=◌ r λ q. pure (some q.0) q.1) (λ q. (kept (λ x. always (f x)) ms >>= λ xs. pure (keep q.0 xs)) q.1)
        ≡ Results.◌>>=◌ r (λ q. (each f ms >>= λ xs. pure (q.0 ∷ xs)) q.1)
    go h (ok q) = rw (h q.1)
    go h (refused c p) = refl

-- One of each part that was cut.
module _ {A : Type 0} (f : Message → Read A) where
  none-given : (xs : List A) (l b : ℕ) → each f [] l ≡ ok (xs, b) → OneForOne f [] xs l b
  unfolding each
  none-given xs l b h = subst (λ (q : List A × ℕ). OneForOne f [] q.0 l q.1) (ok_same h) no_more

  first-given : (p : Part) (ps : List Part) (m : Message) → cut p ≡ ok m → (ms : List Message)
      → ((xs : List A) (l b : ℕ) → each f ms l ≡ ok (xs, b) → OneForOne f ps xs l b)
      → (xs : List A) (l b : ℕ) → each f (m ∷ ms) l ≡ ok (xs, b) → OneForOne f (p ∷ ps) xs l b
  unfolding each
  first-given p ps m e ms others xs l b h =
      let one = bind_given (f m l) (λ q. (each f ms >>= λ more. pure (q.0 ∷ more)) q.1) h in
      let more = bind_given (each f ms one.0.1) (λ q. pure (one.0.0 ∷ q.0) q.1) one.2 in
      subst (λ (q : List A × ℕ). OneForOne f (p ∷ ps) q.0 l q.1) (ok_same more.2)
      (one_more m e one.1 (others more.0.0 one.0.1 more.0.1 more.1))

  each-given : (ps : List Part) (ms : List Message) → cut_all ps ≡ ok ms → (xs : List A) (l b : ℕ) → each f ms l ≡ ok (xs, b) → OneForOne f ps xs l b
  unfolding cut_all
  each-given [] ms e xs l b h = none-given xs l b (ap (λ (ns : List Message). each f ns l) (ok_same e) ∙ h)
  each-given (p ∷ ps) ms e xs l b h =
      let c = cut-first p ps ms e in
      first-given p ps c.first c.cuts c.others (λ ys k n g. each-given ps c.others c.many ys k n g) xs l b
      (ap (λ (ns : List Message). each f ns l) (sym c.are) ∙ h)

  pub same_number : {ps : List Part} {xs : List A} {l b : ℕ} → OneForOne f ps xs l b → length xs ≡ length ps
  same_number no_more = refl
  same_number (one_more m e r o) = ap suc (same_number o)

lifted : {A B : Type 0} (r : Res A) (f : A → Read B) (l : ℕ) → Results.◌>>=◌ r (λ a. f a l) ≡ (lift r >>= f) l
lifted (ok a) f l = refl
lifted (refused c p) f l = refl

-- The parameters in a field are its length-delimited occurrences, one for one and in order.
pub one_for_one : (s : Scope) (n : ℕ) (m : Message) (ps : List Parameter) (l b : ℕ) → parameters_in s n m l ≡ ok (ps, b)
    → OneForOne (parameter_in s) (bodies_of (values n m)) ps l b
unfolding parameters_in messages
one_for_one s n m ps l b e =
    let c = bind_given (messages n m) (λ ms. each (parameter_in s) ms l) (lifted (messages n m) (each (parameter_in s)) l ∙ e) in
    each-given (parameter_in s) (bodies_of (values n m)) c.0 c.1 ps l b c.2
