-- `Marks` of what is put together: a bind, a choice, a list.
-- Assumes nothing.
use mathlib.Core.Path.{◌≡◌, refl, sym, subst, ◌∙◌}
use mathlib.Core.Logic.{inl, inr}
use mathlib.Core.Bool.{Bool, true, false}
use mathlib.Core.List.{List, [], ◌∷◌}
use mathlib.Core.Option.{Option, none, some}
use Prim.Native.Nat.{ℕ, zero, suc, ◌<◌}
use native.Mathlib.Omega.{arith}
use lib.ListN.{length, get_or}
use Rattle.std.specs.Prelude.{if◌then◌else◌}
use Rattle.foundation.specs.Choices.{if_some}
use Rattle.foundation.specs.Results.{Cause, Res, ok, refused}
use Rattle.foundation.specs.Texts.{Text}
use Rattle.wire.specs.Wire.{Message}
use Rattle.wire.specs.Messages.{messages}
use Rattle.names.specs.Names.{d2_string}
use Rattle.schema.specs.Reading.{Read, pure, ◌>>=◌, lift, enter, keep, kept, each}
use Rattle.schema.specs.Members.{named, list_in, of_signature}
use Rattle.declaration_rows.specs.Declarations.{Signature}
use Rattle.schema.proofs.FoundLaws.{bind_given, first-same}
use Rattle.schema.proofs.EachLaws.{always, each-kept}
use Rattle.strings.specs.FallsTo.{stopped_at}
use Rattle.strings.proofs.Agree.{Lookup, Asks, Leaves, asks-first, asks-then, leaves-then}
use Rattle.string_marks.specs.told.MarksTold.{MarkedBy, Marks}

-- of what is refused nothing is told
pub refused-none : {A : Type 0} {B : Type 0} {c : Cause} {p : ℕ} {a : A} {r : Res A} → r ≡ refused c p → r ≡ ok a → B
refused-none e h = let z : ◌≡◌ {A = ℕ} 0 1 = cc in absurd (omega arith)

module _ (ss : List (List ℕ)) {A : Type 0} (r q : Lookup → Res A) (same : (s : Lookup) → r s ≡ q s) where
  pub asks-alike : (n : ℕ) → Asks ss n r → Asks ss n q
  unfolding Asks
  asks-alike n h c p = sym (same (stopped_at n c p ss)) ∙ h c p

  pub leaves-alike : (n : ℕ) → Leaves ss n r → Leaves ss n q
  unfolding Leaves
  leaves-alike n h c p = sym (same (stopped_at n c p ss)) ∙ h c p ∙ same (d2_string ss)

module _ (ss : List (List ℕ)) {A B : Type 0} (r : Lookup → Read A) (f : Lookup → A → Read B) (n l l' : ℕ) (a : A) (e : r (d2_string ss) l ≡ ok (a, l')) where
  -- one string: marked by what comes first, then by what follows
  marked-both : (x y z : ℕ) → MarkedBy ss n r l x y → MarkedBy ss n (λ s. f s a) l' y z → MarkedBy ss n (λ s. r s >>= f s) l x z
  marked-both x y z (inl g) (inl h) = inl (asks-first ss (λ s. r s l) (λ s q. f s q.0 q.1) n g.0, h.1)
  marked-both x y z (inl g) (inr h) = inl (asks-first ss (λ s. r s l) (λ s q. f s q.0 q.1) n g.0, h.1 ∙ g.1)
  marked-both x y z (inr g) (inl h) = inl (asks-then ss (λ s. r s l) (λ s q. f s q.0 q.1) n (a, l') e (inr g.0) h.0, h.1)
  marked-both x y z (inr g) (inr h) = inr (leaves-then ss (λ s. r s l) (λ s q. f s q.0 q.1) n (a, l') e g.0 h.0, h.1 ∙ g.1)

module _ {ss : List (List ℕ)} where
  -- What looks nothing up marks nothing.
  pub marks-same : {A : Type 0} (m : Read A) (u : List ℕ) → Marks ss (λ s. m) u u
  unfolding Leaves
  marks-same m u = record { many = λ l l' a e. refl; each = λ l l' a e n h. inr ((λ c p. refl), refl) }

  -- Of what is always refused anything is true.
  pub marks-refused : {A : Type 0} (r : Lookup → Read A) (u v : List ℕ) → ((l : ℕ) → (c : Cause) × (p : ℕ) × (r (d2_string ss) l ≡ refused c p)) → Marks ss r u v
  marks-refused r u v h = record { many = λ l l' a e. refused-none (h l).2 e; each = λ l l' a e. refused-none (h l).2 e }

  -- Two readings that are the same by each look-up.
  pub marks-alike : {A : Type 0} (r q : Lookup → Read A) {u v : List ℕ} → ((s : Lookup) (l : ℕ) → r s l ≡ q s l) → Marks ss r u v → Marks ss q u v
  marks-alike r q {u} {v} same g = record {
    many = λ l l' a e. g.many l l' a (same (d2_string ss) l ∙ e);
    each = λ l l' a e n i. marked-alike n l (get_or u n 0) (get_or v n 0) (g.each l l' a (same (d2_string ss) l ∙ e) n i);
  }
    where
      marked-alike : (n l x y : ℕ) → MarkedBy ss n r l x y → MarkedBy ss n q l x y
      marked-alike n l x y (inl h) = inl (asks-alike ss (λ s. r s l) (λ s. q s l) (λ s. same s l) n h.0, h.1)
      marked-alike n l x y (inr h) = inr (leaves-alike ss (λ s. r s l) (λ s. q s l) (λ s. same s l) n h.0, h.1)

  -- First what r reads is marked, then what f reads of that.
  pub marks_bind : {A B : Type 0} {r : Lookup → Read A} {f : Lookup → A → Read B} {u v w : List ℕ} → Marks ss r u v
      → ((l l' : ℕ) (a : A) → r (d2_string ss) l ≡ ok (a, l') → Marks ss (λ s. f s a) v w) → Marks ss (λ s. r s >>= f s) u w
  marks_bind {A} {B} {r} {f} {u} {v} {w} g h = record {
    many = λ l l' b e.
        let q = bind_given (r (d2_string ss) l) (λ x. f (d2_string ss) x.0 x.1) e in
        (h l q.0.1 q.0.0 q.1).many q.0.1 l' b q.2 ∙ g.many l q.0.1 q.0.0 q.1;
    each = λ l l' b e n i.
        let q = bind_given (r (d2_string ss) l) (λ x. f (d2_string ss) x.0 x.1) e in
        let more = h l q.0.1 q.0.0 q.1 in
        marked-both ss r f n l q.0.1 q.0.0 q.1 (get_or u n 0) (get_or v n 0) (get_or w n 0) (g.each l q.0.1 q.0.0 q.1 n i)
        (more.each q.0.1 l' b q.2 n (subst (λ (k : ℕ). n < k) (sym (g.many l q.0.1 q.0.0 q.1)) i));
  }

  -- What r reads, and something made of it.
  pub marks-made : {A B : Type 0} {r : Lookup → Read A} (f : A → Read B) {u v : List ℕ} → Marks ss r u v → Marks ss (λ s. r s >>= f) u v
  marks-made f {u} {v} g = marks_bind {f = λ s. f} g λ l l' a e. marks-same (f a) v

  -- What is read first looks nothing up.
  pub marks-after : {A B : Type 0} (m : Read A) {f : Lookup → A → Read B} {u w : List ℕ}
      → ((l l' : ℕ) (a : A) → m l ≡ ok (a, l') → Marks ss (λ s. f s a) u w) → Marks ss (λ s. m >>= f s) u w
  marks-after m {f} {u} h = marks_bind {r = λ s. m} {f = f} (marks-same m u) h

  -- What is read first gives a value that is known.
  pub marks-known : {A B : Type 0} {r : Lookup → Read A} (f : Lookup → A → Read B) {u v w : List ℕ} {t : A} → ((l : ℕ) → r (d2_string ss) l ≡ ok (t, l)) → Marks ss r u v
      → Marks ss (λ s. f s t) v w → Marks ss (λ s. r s >>= f s) u w
  marks-known f {v} {w} known g h = marks_bind g λ l l' a e. subst (λ x. Marks ss (λ s. f s x) v w) (first-same (sym (known l) ∙ e)) h

  -- The same of what is cut first.
  pub marks-cut : {A B : Type 0} (x : Res A) (f : Lookup → A → Read B) {u w : List ℕ} → ((a : A) → x ≡ ok a → Marks ss (λ s. f s a) u w)
      → Marks ss (λ s. lift x >>= f s) u w
  marks-cut (ok a) f h = h a refl
  marks-cut (refused c p) f {u} {w} h = marks-refused (λ s. lift (refused c p) >>= f s) u w λ l. (c, p, refl)

  pub marks-enter : {A : Type 0} {r : Lookup → Read A} {u v : List ℕ} → Marks ss r u v → Marks ss (λ s. enter (r s)) u v
  marks-enter {A} {r} {u} {v} g = record { many = many_at; each = each_at }
    where
      many_at : (l l' : ℕ) (a : A) → enter (r (d2_string ss)) l ≡ ok (a, l') → length v ≡ length u
      many_at zero l' a e = let z : ◌≡◌ {A = ℕ} 0 1 = cc in absurd (omega arith)
      many_at (suc l) l' a e = g.many l l' a e

      each_at : (l l' : ℕ) (a : A) → enter (r (d2_string ss)) l ≡ ok (a, l') → (n : ℕ) → n < length u
          → MarkedBy ss n (λ s. enter (r s)) l (get_or u n 0) (get_or v n 0)
      each_at zero l' a e = let z : ◌≡◌ {A = ℕ} 0 1 = cc in absurd (omega arith)
      each_at (suc l) l' a e = g.each l l' a e

  pub marks-if_some : {A B : Type 0} (o : Option A) {m : Lookup → Read B} {f : Lookup → A → Read B} {u v : List ℕ} → (o ≡ none → Marks ss m u v)
      → ((a : A) → o ≡ some a → Marks ss (λ s. f s a) u v) → Marks ss (λ s. if_some o (m s) (f s)) u v
  marks-if_some none g h = g refl
  marks-if_some (some a) g h = h a refl

  pub marks-if : {A : Type 0} (t : Bool) {m o : Lookup → Read A} {u v : List ℕ} → (t ≡ true → Marks ss m u v) → (t ≡ false → Marks ss o u v)
      → Marks ss (λ s. if t then m s else o s) u v
  marks-if true g h = g refl
  marks-if false g h = h refl

  pub marks-named : {A : Type 0} (o : Option Text) {f : Lookup → Text → Read A} {u v : List ℕ} → (o ≡ none → u ≡ v)
      → ((t : Text) → o ≡ some t → Marks ss (λ s. f s t) u v) → Marks ss (λ s. named o (f s)) u v
  marks-named none {f} {u} {v} g h = subst (λ (x : List ℕ). Marks ss (λ s. named none (f s)) u x) (g refl) (marks-same (pure none) u)
  marks-named (some t) g h = marks-made (λ a. pure (some a)) (h t refl)

  -- Of a list's messages the first one and those after it.
  pub marks-kept : {A : Type 0} (f : Lookup → Message → Read (Option A)) (m : Message) (ms : List Message) {u v w : List ℕ} → Marks ss (λ s. f s m) u v
      → Marks ss (λ s. kept (f s) ms) v w → Marks ss (λ s. kept (f s) (m ∷ ms)) u w
  unfolding kept
  marks-kept f m ms g h =
      marks_bind {f = λ s a. kept (f s) ms >>= λ xs. pure (keep a xs)} g λ l l' a e. marks-made (λ xs. pure (keep a xs)) h

  pub marks-none-kept : {A : Type 0} (f : Lookup → Message → Read (Option A)) (u : List ℕ) → Marks ss (λ s. kept (f s) []) u u
  unfolding kept
  marks-none-kept f u = marks-same (pure []) u

  -- The same of a list of which nothing is left out.
  pub marks-each : {A : Type 0} (f : Lookup → Message → Read A) (ms : List Message) {u v : List ℕ} → Marks ss (λ s. kept (λ m. always (f s m)) ms) u v
      → Marks ss (λ s. each (f s) ms) u v
  marks-each f ms g = marks-alike (λ s. kept (λ m. always (f s m)) ms) (λ s. each (f s) ms) (λ s. each-kept (f s) ms) g

  pub marks-always : {A : Type 0} (r : Lookup → Read A) {u v : List ℕ} → Marks ss r u v → Marks ss (λ s. always (r s)) u v
  marks-always r g = marks-made (λ a. pure (some a)) g

  pub marks-list_in : {A : Type 0} (f : Lookup → Message → Read (Option A)) (number : ℕ) (m : Message) {u v : List ℕ}
      → ((ms : List Message) → messages number m ≡ ok ms → Marks ss (λ s. kept (f s) ms) u v) → Marks ss (λ s. list_in (f s) number m) u v
  unfolding list_in
  marks-list_in f number m h = marks-cut (messages number m) (λ s. kept (f s)) h

  pub marks-of_signature : (f : Lookup → Message → Read (Option Signature)) (o : Option Message) {u v : List ℕ} → (o ≡ none → u ≡ v)
      → ((m : Message) → o ≡ some m → Marks ss (λ s. f s m) u v) → Marks ss (λ s. of_signature (f s) o) u v
  marks-of_signature f none {u} {v} g h = subst (λ (x : List ℕ). Marks ss (λ s. of_signature (f s) none) u x) (g refl) (marks-same (pure none) u)
  marks-of_signature f (some m) g h = h m refl
