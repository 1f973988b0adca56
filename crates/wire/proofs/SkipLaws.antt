-- Fields whose tag and the varint after it have one or two bytes each: read at once, and skipped in a row.
-- Assumes nothing.
use mathlib.Core.Path.{◌≡◌, refl, ap, sym, ◌∙◌, subst}
use mathlib.Core.Bool.{true}
use mathlib.Core.List.{List, [], ◌∷◌, ◌++◌, append_assoc}
use Prim.Native.Nat.{ℕ, ◌+◌, ◌-◌, ◌*◌, ◌/◌, ◌%◌, ◌≤◌, ◌<◌}
use native.Mathlib.Omega.{arith}
use lib.ListN.{length, get_or}
use Rattle.std.specs.Prelude.{Option, Some, Ok}
use Rattle.foundation.specs.Results.{Res, ok, refused, ◌>>=◌, Part, map_got}
use Rattle.wire.specs.Wire.{varint, body, field, is_field_number, read_field, Message, cut}
use Rattle.wire.specs.Messages.{values}
use Rattle.wire.specs.told.WireTold.{rest_of, value_of, told_field, FieldTold, ShortRead, ShortPair, ShortTold, ShortField, Skips, SkipTold, FieldsNext}
use Rattle.wire.specs.declared.WireValue.TheVariants as wire
use Rattle.wire.specs.declared.Field as code
use Rattle.foundation.specs.declared.Read.{Read}
use Rattle.wire.proofs.VarintLaws.{one_byte, two_bytes}
use Rattle.wire.proofs.FieldLaws.{value-varint, value-body, number_fine, field-value, delimited-there}
use Rattle.wire.proofs.WalkLaws.{cut_field, field-inside, bind_ok, Leads, values-passed}
use Rattle.wire.proofs.MessageLaws.{values-append}

-- a varint of one or two bytes
module _ (s : List ℕ) (at : ℕ) {b : ℕ} (e : b ≡ get_or s at 0) where
  pub short-one : at < length s → b < 128 → ShortRead s at (record { value = b; next = at + 1 })
  short-one h l = record { later = omega arith; inside = omega arith; small = omega arith; is = λ base. one_byte base s at h e l }

  pub short-two : {c : ℕ} → at + 1 < length s → 128 ≤ b → c ≡ get_or s (at + 1) 0 → c < 128
      → ShortRead s at (record { value = c * 128 + b % 128; next = at + 1 + 1 })
  short-two h l f k = record { later = omega arith; inside = omega arith; small = omega arith; is = λ base. two_bytes base s at h e l f k }

-- the tag and the varint after it, by the code's answers
pub short-field : (s : List ℕ) (at : ℕ) {t v : Option (Read ℕ)} {tag first : Read ℕ} → ShortTold s at t → t ≡ Some tag → ShortTold s tag.next v → v ≡ Some first
    → ShortPair s at tag first
short-field s at {tag = tag} {first = first} p g q k =
    let a : ShortRead s at tag = subst (ShortTold s at) g p in
    let b : ShortRead s tag.next first = subst (ShortTold s tag.next) k q in
    record { later = a.later; ends = b.later; inside = b.inside; small = a.small; first_small = b.small; is-tag = a.is; is-first = b.is }

-- A field whose tag and the varint after it are read so.
module _ (s : List ℕ) (at : ℕ) {tag first : Read ℕ} (t : ShortRead s at tag) (v : ShortRead s tag.next first) (z : 8 ≤ tag.value) where
  fine : is_field_number (tag.value / 8) ≡ true
  fine = number_fine (tag.value / 8) (omega arith) (omega (arith, t.small))

  pub short-varint : tag.value % 8 ≡ 0
      → ShortField s at (record { value = record { number = tag.value / 8; value = wire.Varint first.value }; next = first.next })
  short-varint k = record {
    later = omega (arith, t.later, v.later);
    inside = v.inside;
    is = λ base. (
      field-value (rest_of base s at) (t.is base) fine
          ∙ ap (map_got (field (tag.value / 8))) (value-varint (base + at) (rest_of base s tag.next) k ∙ ap (map_got varint) (v.is base)),
      tt,
    );
  }

  pub short-body : tag.value % 8 ≡ 2 → first.value ≤ length s - first.next
      → ShortField s at (
      record {
        value = record { number = tag.value / 8; value = wire.Body (record { start = first.next; end = first.next + first.value }) };
        next = first.next + first.value;
      }
      )
  short-body k f = record {
    later = omega (arith, t.later, v.later);
    inside = omega (arith, v.inside);
    is = λ base. (
      field-value (rest_of base s at) (t.is base) fine
          ∙ ap (map_got (field (tag.value / 8)))
          (value-body (base + at) (rest_of base s tag.next) k ∙ ap (map_got body) (delimited-there base s tag.next first (v.is base) f)),
      (omega arith, omega (arith, v.inside), omega (arith, t.later, v.later)),
    );
  }

-- fields skipped, one after the other
pub skip_none : (s ks : List ℕ) (at : ℕ) → SkipTold s ks at at
unfolding values
skip_none s ks at = record {
  later = omega arith;
  inside = omega arith;
  is = λ base. record { fields = []; others = λ i h. refl; cuts = sym (bind-end (cut (rest_of base s at))) };
}
  where
    bind-end : (r : Res Message) → (r >>= λ m. ok ([] ++ m)) ≡ r
    bind-end (ok m) = refl
    bind-end (refused c p) = refl

module _ (s ks : List ℕ) {at mid next : ℕ} where
  skips-then : (base : ℕ) → Skips base s ks at mid → Skips base s ks mid next → Skips base s ks at next
  skips-then base p q = record {
    fields = p.fields ++ q.fields;
    others = λ i h. values-append (get_or ks i 0) p.fields q.fields ∙ rw (p.others i h, q.others i h);
    cuts = p.cuts ∙ rw q.cuts (joined (cut (rest_of base s next)));
  }
    where
      joined : (r : Res Message) → ((r >>= λ m. ok (q.fields ++ m)) >>= λ m. ok (p.fields ++ m)) ≡ (r >>= λ m. ok ((p.fields ++ q.fields) ++ m))
      joined (ok m) = ap ok (sym (append_assoc p.fields q.fields m))
      joined (refused c a) = refl

  pub skip-then : SkipTold s ks at mid → SkipTold s ks mid next → SkipTold s ks at next
  skip-then p q = record {
    later = omega (arith, p.later, q.later);
    inside = omega (arith, p.inside, q.inside);
    is = λ base. skips-then base (p.is base) (q.is base);
  }

-- one field that the code has read
pub skip-field : (s ks : List ℕ) (at : ℕ) (x : Read code.Field) → ((base : ℕ) → FieldTold base s (read_field (rest_of base s at)) (Ok x)) → at < length s
    → ((i : ℕ) → i < length ks → x.value.number ≡ get_or ks i 0 → ⊥) → SkipTold s ks at x.next
unfolding values
skip-field s ks at x e h d =
    let i = field-inside 0 s at x (e 0) (omega arith) in
    record {
      later = omega (arith, i);
      inside = omega (arith, i);
      is = λ base. record {
        fields = told_field base s x.value ∷ [];
        others = λ i h. values-passed (get_or ks i 0) (value_of base s x.value.value) [] (d i h);
        cuts = cut_field base s at x (e base) h;
      };
    }

-- one that it has read the short way
pub skip-short : (s ks : List ℕ) (at : ℕ) {x : Read code.Field} → ShortField s at x → ((i : ℕ) → i < length ks → x.value.number ≡ get_or ks i 0 → ⊥)
    → SkipTold s ks at x.next
skip-short s ks at {x} f d = skip-field s ks at x f.is (omega (arith, f.later, f.inside)) d

-- what holds from the place after them holds from the first
module _ (base : ℕ) {s ks : List ℕ} {at next : ℕ} (t : SkipTold s ks at next) (i : ℕ) (h : i < length ks) where
  abbrev k : ℕ
  k = get_or ks i 0

  -- of a relation that only the occurrences of one of the fields decide
  pub skip-leads : (R : Message → Message → Type 0) → ((m a b : Message) → values k a ≡ values k b → R m a → R m b) → (p : Part)
      → Leads R p (rest_of base s at) → Leads R p (rest_of base s next)
  skip-leads R f p l m w =
      let q = l m w in
      let x = t.is base in
      let r = bind_ok (cut (rest_of base s next)) (λ m. x.fields ++ m) (sym x.cuts ∙ q.1) in
      let same : values k q.0 ≡ values k r.0 = ap (values k) r.2 ∙ values-append k x.fields r.0 ∙ rw (x.others i h) in
      (r.0, r.1, f m q.0 r.0 same q.2)

-- a walk's step to a short field after skipped ones
pub step-short : (base : ℕ) (s ks : List ℕ) {at next : ℕ} (x : Read code.Field) → SkipTold s ks at next → ShortField s next x
    → FieldsNext base s ks at (Some (Ok x.value)) x.next
step-short base s ks {next = next} x t f = record { gives = (next, t, omega (arith, f.later, f.inside), f.is base) }
