-- Parts one after the other: the texts of descriptors, and what the writers of parts tell together.
-- Assumes nothing.
use mathlib.Core.Path.{◌≡◌, refl, sym, ap, subst, ◌∙◌}
use mathlib.Core.Bool.{Bool, true, false}
use mathlib.Core.List.{List, [], ◌∷◌, ◌++◌, map, append-nil, append_assoc}
use mathlib.Core.Option.{Option, none, some}
use Prim.Native.Nat.{ℕ, ◌+◌, ◌≤◌}
use native.Mathlib.Nat.{add_assoc, le_refl}
use native.Mathlib.Omega.{arith}
use lib.ListN.{set, length-append}
use Rattle.std.specs.Prelude.{if◌then◌else◌}
use Rattle.foundation.specs.Choices.{if_some, map_option, both_of, every_of, concat}
use Rattle.foundation.proofs.OverlayLaws.{sets_then}
use Rattle.wire.specs.Wire.{Message}
use Rattle.declaration_rows.specs.Declarations.{Ty, Parameter, Constructor, Function}
use Rattle.schema.specs.Reading.{Scope}
use Rattle.schema.specs.told.SchemaTold.{Lent}
use Rattle.erasure.specs.Erasure.{Erased, erased, Returned, of_type, erased_return, print, print_returned}
use Rattle.erasure.specs.told.ErasureTold.{PutSized}
use Rattle.erasure.specs.declared.Position.TheVariants as position
use Rattle.std.specs.Prelude as std
use Rattle.std.specs.Prelude.{Some, None}
use Rattle.descriptors.specs.Defaults.{
  parts,
  erased_option,
  parameter_types,
  suspends,
  continuation_class,
  object,
  suspended_parts,
  function_parts,
  constructor_parts,
  descriptor,
}
use Rattle.descriptors.specs.told.DefaultsTold.{PartWithin, PartTold, parameters_part}
use Rattle.descriptors.specs.told.PartsTold.{PartOf, type_part, receiver_part, before_part, after_part, preceded}

-- Two texts, or nothing.
abbrev pub both : Option (List ℕ) → Option (List ℕ) → Option (List ℕ)
both = both_of λ s t. s ++ t

both_left : (y : Option (List ℕ)) → both (some []) y ≡ y
both_left none = refl
both_left (some t) = refl

-- The parts of types, of parameters.
abbrev printed : List Erased → List ℕ
printed es = concat (map print es)

abbrev types_part : List (Option Ty) → Option (List ℕ)
types_part ts = map_option printed (every_of (map erased_option ts))

printed_cons : (x : Option Erased) (y : Option (List Erased))
    → map_option printed (both_of (λ x xs. x ∷ xs) x y) ≡ both (map_option print_returned (map_option of_type x)) (map_option printed y)
printed_cons none y = refl
printed_cons (some x) none = refl
printed_cons (some x) (some y) = refl

types_cons : (t : Option Ty) (ts : List (Option Ty)) → types_part (t ∷ ts) ≡ both (type_part position.Parameter t) (types_part ts)
types_cons none ts = refl
types_cons (some t) ts = printed_cons (erased t) (every_of (map erased_option ts))

pub parameters_cons : (p : Parameter) (ps : List Parameter) → parameters_part (p ∷ ps) ≡ both (type_part position.Parameter p.type) (parameters_part ps)
parameters_cons p ps = types_cons p.type (parameter_types ps)

pub before-part : (f : Function) → before_part f ≡ both (receiver_part f) (parameters_part f.parameters)
before-part f = go f.has_receiver
  where
    go : (b : Bool) → types_part (if b then f.receiver ∷ parameter_types f.parameters else parameter_types f.parameters)
        ≡ both (if b then type_part position.Parameter f.receiver else some []) (parameters_part f.parameters)
    go true = types_cons f.receiver (parameter_types f.parameters)
    go false = sym (both_left (parameters_part f.parameters))

-- Descriptors.
printed-append : (es fs : List Erased) → printed (es ++ fs) ≡ printed es ++ printed fs
printed-append [] fs = refl
printed-append (e ∷ es) fs = ap (λ (l : List ℕ). print e ++ l) (printed-append es fs) ∙ sym (append_assoc (print e) (printed es) (printed fs))

pub constructor_text : (d : Constructor)
    → map_option descriptor (constructor_parts d) ≡ both (some (0x28 ∷ [])) (both (parameters_part d.parameters) (some (0x29 ∷ 0x56 ∷ [])))
unfolding constructor_parts descriptor
constructor_text d = go (every_of (map erased_option (parameter_types d.parameters)))
  where
    go : (x : Option (List Erased)) → map_option descriptor (map_option (λ es. parts es Rattle.erasure.specs.Erasure.void) x)
        ≡ both (some (0x28 ∷ [])) (both (map_option printed x) (some (0x29 ∷ 0x56 ∷ [])))
    go none = refl
    go (some es) = refl

suspended_text : (es : List Erased) → descriptor (suspended_parts es) ≡ 0x28 ∷ (printed es ++ (print continuation_class ++ (0x29 ∷ print object)))
unfolding descriptor
suspended_text es =
    let more : List ℕ = 0x29 ∷ print object in
    ap (λ (l : List ℕ). 0x28 ∷ (l ++ more)) (printed-append es (continuation_class ∷ []))
    ∙ ap (λ (l : List ℕ). 0x28 ∷ ((printed es ++ l) ++ more)) (append-nil (print continuation_class))
    ∙ ap (λ (l : List ℕ). 0x28 ∷ l) (append_assoc (printed es) (print continuation_class) more)

pub function_text : (f : Function) → map_option descriptor (function_parts f) ≡ both (some (0x28 ∷ [])) (both (before_part f) (after_part f))
unfolding function_parts descriptor
function_text f =
    go (suspends f) (every_of (map erased_option (Rattle.descriptors.specs.Defaults.types_before f))) (if_some f.returned none erased_return)
  where
    go : (b : Bool) (x : Option (List Erased)) (y : Option Returned)
        → map_option descriptor (if b then map_option suspended_parts x else both_of parts x y)
        ≡ both (some (0x28 ∷ [])) (both (map_option printed x) (if b then some (print continuation_class ++ (0x29 ∷ print object)) else map_option (λ r. 0x29 ∷ print_returned r) y))
    go true none y = refl
    go true (some es) y = ap some (suspended_text es)
    go false none y = refl
    go false (some es) none = refl
    go false (some es) (some r) = refl

-- Texts written one after the other.
pub text_none : (at : ℕ) (A : List ℕ) → PutSized [] at 0 A A
text_none at A = record { size = refl; area = refl }

pub text_then : {s t : List ℕ} {at n k : ℕ} {A A₁ A₂ : List ℕ} → PutSized s at n A A₁ → PutSized t (at + n) k A₁ A₂ → PutSized (s ++ t) at (n + k) A A₂
text_then {s} {t} {at} {n} {k} {A} p q = record {
  size = omega (arith, p.size, q.size, length-append s t);
  area = sets_then s t A at p.area (ap (λ (i : ℕ). at + i) p.size) q.area;
}

-- and parts
pub told_then : (x y : Option (List ℕ)) (at n : ℕ) (r : std.Option ℕ) (A A₁ A₂ : List ℕ) → PartTold x at (Some n) A A₁
    → PartTold y (at + n) r A₁ A₂ → PartTold (both x y) at (preceded n r) A A₂
told_then x y at n (Some k) A A₁ A₂ (s, e, p) (t, f, q) = (s ++ t, rw (e, f), text_then p q)
told_then x y at n None A A₁ A₂ (s, e, p) q = rw (e, q)

pub told_absent : (x y : Option (List ℕ)) → x ≡ none → both x y ≡ none
told_absent x y e = rw e

pub told_same : {x y : Option (List ℕ)} (at : ℕ) (r : std.Option ℕ) (A A₁ : List ℕ) → x ≡ y → PartTold x at r A A₁ → PartTold y at r A A₁
told_same at r A A₁ e p = subst (λ (o : Option (List ℕ)). PartTold o at r A A₁) e p

within_then : (n n₁ k : ℕ) (r : std.Option ℕ) → k ≤ n → PartWithin n₁ r → PartWithin (n + n₁) (preceded k r)
within_then n n₁ k (Some j) h i = omega arith
within_then n n₁ k None h i = tt

pub within_more : {n n₁ : ℕ} (r : std.Option ℕ) → n ≤ n₁ → PartWithin n r → PartWithin n₁ r
within_more (Some k) h i = omega arith
within_more None h i = tt

-- how many bytes were written
pub written-within : (n : ℕ) {r : std.Option ℕ} {k : ℕ} → PartWithin n r → r ≡ Some k → k ≤ n
written-within n h e = subst (PartWithin n) e h

pub preceded-sum : (n k : ℕ) (r : std.Option ℕ) → preceded n (preceded k r) ≡ preceded (n + k) r
preceded-sum n k (Some i) = ap Some (sym (add_assoc n k i))
preceded-sum n k None = refl

-- What is told of two parts of one thing is told of both.
module _ {D : Type 0} (p q s : D → Option (List ℕ)) (joined : (d : D) → s d ≡ both (p d) (q d)) {given : Scope → Message → D → Type 0} {n : ℕ}
    {e : Lent} {start end at : ℕ} {A A₁ : List ℕ} where
  pub part-absent : (n₂ : ℕ) → PartOf given p n e start end at None A A₁ → {A₂ : List ℕ} → PartOf given s n₂ e start end at None A A₂
  part-absent n₂ u = record { within = tt; is = λ c o m k d g. joined d ∙ told_absent (p d) (q d) (u.is c o m k d g) }

  pub part_then : {n₁ j : ℕ} {r : std.Option ℕ} {A₂ : List ℕ} → PartOf given p n e start end at (Some j) A A₁ → PartOf given q n₁ e start end (at + j) r A₁ A₂
      → PartOf given s (n + n₁) e start end at (preceded j r) A A₂
  part_then {n₁} {j} {r} {A₂} u v = record {
    within = within_then n n₁ j r u.within v.within;
    is = λ c o m k d g.
        told_same {x = both (p d) (q d)} {y = s d} at (preceded j r) A A₂ (sym (joined d))
        (told_then (p d) (q d) at j r A A₁ A₂ (u.is c o m k d g) (v.is c o m k d g));
  }

module _ {D : Type 0} {given : Scope → Message → D → Type 0} {e : Lent} {start end at : ℕ} where
  -- a text that is the same whatever was read
  pub part-fixed : {t : List ℕ} {k : ℕ} {A A₁ : List ℕ} → PutSized t at k A A₁ → PartOf given (λ d. some t) k e start end at (Some k) A A₁
  part-fixed {t} {k} u = record { within = le_refl k; is = λ c o m i d g. (t, refl, u) }

  pub part-more : {p : D → Option (List ℕ)} {n : ℕ} (n₁ : ℕ) {r : std.Option ℕ} {A A₁ : List ℕ} → n ≤ n₁ → PartOf given p n e start end at r A A₁
      → PartOf given p n₁ e start end at r A A₁
  part-more n₁ {r} h u = record { within = within_more r h u.within; is = u.is }

  -- the same answer, said otherwise
  pub part-answer : {p : D → Option (List ℕ)} {n : ℕ} {r r₁ : std.Option ℕ} {A A₁ : List ℕ} → r ≡ r₁ → PartOf given p n e start end at r A A₁
      → PartOf given p n e start end at r₁ A A₁
  part-answer {p} {n} {A = A} {A₁} h u = subst (λ (r : std.Option ℕ). PartOf given p n e start end at r A A₁) h u

-- one byte
pub text-byte : {b at : ℕ} {A A₁ : List ℕ} → A₁ ≡ set A at b → PutSized (b ∷ []) at 1 A A₁
text-byte e = record { size = refl; area = e }
