-- A text is cut by the grammar in one way only.
-- Assumes nothing.
use mathlib.Core.Path.{◌≡◌, refl, ap, sym, ◌∙◌}
use mathlib.Core.Logic.{◌≢◌}
use mathlib.Core.List.{List, [], ◌∷◌, ◌++◌, append_assoc, head-eq_of_cons-eq, tail-eq_of_cons-eq}
use Prim.Native.Nat.{ℕ, ◌≤◌}
use native.Mathlib.Omega.{arith}
use Rattle.foundation.specs.Choices.{concat, All}
use Rattle.grammar.specs.Grammar.{BaseType, byte, char, double, float, int, long, short, boolean, FieldType, base_type, object_type, array_type, join, Cut}
use Rattle.grammar.proofs.Segments.{no_semicolon_lem}

-- no base type's letter is L, [ or )
base_bounds : {c : ℕ} → BaseType c → (0x42 ≤ c) × (c ≤ 0x5a) × (c ≢ 0x4c)
base_bounds byte = omega arith
base_bounds char = omega arith
base_bounds double = omega arith
base_bounds float = omega arith
base_bounds int = omega arith
base_bounds long = omega arith
base_bounds short = omega arith
base_bounds boolean = omega arith

-- what stands before the first ; is told by the text
semicolon_split : (n m s t : List ℕ) → All (λ c. c ≢ 0x3b) n → All (λ c. c ≢ 0x3b) m
    → n ++ (0x3b ∷ []) ++ s ≡ m ++ (0x3b ∷ []) ++ t → (n ≡ m) × (s ≡ t)
semicolon_split [] [] s t h k e = (refl, tail-eq_of_cons-eq e)
semicolon_split [] (d ∷ m) s t h k e = absurd (k.0 (sym (head-eq_of_cons-eq e)))
semicolon_split (c ∷ n) [] s t h k e = absurd (h.0 (head-eq_of_cons-eq e))
semicolon_split (c ∷ n) (d ∷ m) s t h k e =
    let p : c ≡ d = head-eq_of_cons-eq e in
    let r = semicolon_split n m s t h.1 k.1 (tail-eq_of_cons-eq e) in
    (λ i. p i ∷ r.0 i, r.1)

-- Of two field descriptors that begin one text neither goes on where the other ends.
pub field_split : {a b : List ℕ} (s t : List ℕ) → FieldType a → FieldType b → a ++ s ≡ b ++ t → (a ≡ b) × (s ≡ t)
field_split s t (base_type x) (base_type y) e = (ap (λ (c : ℕ). c ∷ []) (head-eq_of_cons-eq e), tail-eq_of_cons-eq e)
field_split s t (base_type x) (object_type m k) e = absurd ((base_bounds x).2 (head-eq_of_cons-eq e))
field_split s t (base_type x) (array_type y) e = let b = base_bounds x in let h = head-eq_of_cons-eq e in absurd (omega arith)
field_split s t (object_type n h) (base_type y) e = absurd ((base_bounds y).2 (sym (head-eq_of_cons-eq e)))
field_split s t (object_type n h) (object_type m k) e =
    let r = semicolon_split n m s t (no_semicolon_lem n h) (no_semicolon_lem m k) (tail-eq_of_cons-eq e) in
    (ap (λ (l : List ℕ). 0x4c ∷ (l ++ (0x3b ∷ []))) r.0, r.1)
field_split s t (object_type n h) (array_type y) e = let h = head-eq_of_cons-eq e in absurd (omega arith)
field_split s t (array_type x) (base_type y) e = let b = base_bounds y in let h = head-eq_of_cons-eq e in absurd (omega arith)
field_split s t (array_type x) (object_type m k) e = let h = head-eq_of_cons-eq e in absurd (omega arith)
field_split s t (array_type x) (array_type y) e =
    let r = field_split s t x y (tail-eq_of_cons-eq e) in
    (ap (λ (l : List ℕ). 0x5b ∷ l) r.0, r.1)

-- no field descriptor begins with )
not_the_end : {a : List ℕ} (s r : List ℕ) → FieldType a → a ++ s ≡ 0x29 ∷ r → ⊥
not_the_end s r (base_type x) e = let b = base_bounds x in let h = head-eq_of_cons-eq e in omega arith
not_the_end s r (object_type n h) e = let h = head-eq_of_cons-eq e in omega arith
not_the_end s r (array_type x) e = let h = head-eq_of_cons-eq e in omega arith

list_split : (ps qs : List (List ℕ)) (r r' : List ℕ) → All FieldType ps → All FieldType qs
    → concat ps ++ (0x29 ∷ r) ≡ concat qs ++ (0x29 ∷ r') → (ps ≡ qs) × (r ≡ r')
list_split [] [] r r' h k e = (refl, tail-eq_of_cons-eq e)
list_split [] (q ∷ qs) r r' h k e =
    absurd (not_the_end (concat qs ++ (0x29 ∷ r')) r k.0 (sym (append_assoc q (concat qs) (0x29 ∷ r')) ∙ sym e))
list_split (p ∷ ps) [] r r' h k e =
    absurd (not_the_end (concat ps ++ (0x29 ∷ r)) r' h.0 (sym (append_assoc p (concat ps) (0x29 ∷ r)) ∙ e))
list_split (p ∷ ps) (q ∷ qs) r r' h k e =
    let f = field_split (concat ps ++ (0x29 ∷ r)) (concat qs ++ (0x29 ∷ r')) h.0 k.0 (simp append_assoc at e) in
    let g = list_split ps qs r r' h.1 k.1 f.1 in
    (λ i. f.0 i ∷ g.0 i, g.1)

-- The parameters are told by the text, and so is the result.
pub join_injective : (ps qs : List (List ℕ)) (r r' : List ℕ) → All FieldType ps → All FieldType qs
    → join ps r ≡ join qs r' → (ps ≡ qs) × (r ≡ r')
join_injective ps qs r r' h k e = list_split ps qs r r' h k (tail-eq_of_cons-eq e)

-- Two cuts of equal texts, and so any two cuts of one text, have the same parameters and the same result.
pub cuts_equal : {s t : List ℕ} (c : Cut s) (d : Cut t) → s ≡ t → (c.parameters ≡ d.parameters) × (c.result ≡ d.result)
cuts_equal c d e =
    let told = c.gives ∙ e ∙ sym d.gives in
    join_injective c.parameters d.parameters c.result d.result c.are_field_types d.are_field_types told

pub cut_unique : {text : List ℕ} (c d : Cut text) → (c.parameters ≡ d.parameters) × (c.result ≡ d.result)
cut_unique c d = cuts_equal c d refl
