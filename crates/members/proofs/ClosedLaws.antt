-- The record that closes a constructor or function, and what it closes.
-- Assumes nothing.
use mathlib.Core.Path.{◌≡◌, refl, sym, ap, subst, ◌∙◌}
use mathlib.Core.List.{List, [], ◌∷◌, ◌++◌, append-nil}
use mathlib.Core.Option.{Option, none, some}
use Prim.Native.Nat.{ℕ, zero, suc, ◌+◌, ◌-◌, ◌*◌, ◌≤◌}
use native.Mathlib.Omega.{arith}
use lib.ListN.{length, take, drop, get_or, length-take}
use lib.Seq.{sets, take-append_seam}
use Rattle.foundation.specs.Choices.{map_option}
use Rattle.foundation.specs.Results.{ok, ◌from◌}
use Rattle.foundation.proofs.OverlayLaws.{sets_front}
use Rattle.wire.specs.Wire.{Message, cut}
use Rattle.std.proofs.lemmas.List.{set-get_or}
use Rattle.sheet.specs.Rows.{ref, Row, row, body_text, texts}
use Rattle.sheet.specs.told.Put.{PutRows}
use Rattle.sheet.specs.declared.State.{State}
use Rattle.sheet.proofs.RowLaws.{body_length, rows_length, sheet-length}
use Rattle.sheet.proofs.PutLaws.{put-sheet, put-text, put-types, put-left, rows_then}
use Rattle.schema.specs.Reading.{Read, Scope}
use Rattle.schema.specs.Members.{constructor_in, function_in}
use Rattle.schema.specs.told.SchemaTold.{Lent, Scoped, EntryAt, Stands, PickedTold}
use Rattle.schema.specs.told.MembersTold.{Within, member_cost, closed_cost, MemberTold}
use Rattle.schema.proofs.CountLaws.{within_both, picked_within}
use Rattle.schema.proofs.StandsLaws.{stands-entry}
use Rattle.erasure.specs.told.ErasureTold.{PutSized}
use Rattle.std.specs.Prelude as std
use Rattle.std.specs.Prelude.{Some, None}
use Rattle.descriptors.specs.Defaults.{Parts, constructor_parts, function_parts, descriptor, default_row, closed_constructor, closed_function}
use Rattle.descriptors.specs.told.DefaultsTold.{part_cost, PartTold, ConstructorDefault, FunctionDefault}
use Rattle.members.specs.told.ClosedTold.{Declared, callable_in, callable_rows, callable_parts, callable_closed, DefaultOf, close_cost, CloseTold}
use Rattle.members.specs.declared.closed.Callable.{Callable}
use Rattle.members.specs.declared.closed.Callable.TheVariants as callable
use Rattle.descriptors.proofs.JoinLaws.{part-answer, written-within}
use Rattle.std.specs.declared.result.Result.TheVariants.{Ok, Err}
use Rattle.schema.specs.told.SchemaTold.{Picked}

pub of_constructor_lem : {e : Lent} {start end at : ℕ} {r : std.Option ℕ} {A A₁ : List ℕ} → ConstructorDefault e start end at r A A₁
    → DefaultOf constructor_in constructor_parts e start end at r A A₁
of_constructor_lem u = record { within = u.within; is = λ c s m k d g. u.is c s m k d g.before g.after g.is }

pub of_function_lem : {e : Lent} {start end at : ℕ} {r : std.Option ℕ} {A A₁ : List ℕ} → FunctionDefault e start end at r A A₁
    → DefaultOf function_in function_parts e start end at r A A₁
of_function_lem u = record { within = u.within; is = λ c s m k d g. u.is c s m k d g.before g.after g.is }

-- What the record takes.
default-length : (x : Option (List ℕ)) → rows_length (row 7 (ref x ∷ []) ∷ []) ≡ 5
unfolding rows_length body_length
default-length x = refl

default-text : (d : List ℕ) → texts (row 7 (ref (some d) ∷ []) ∷ []) ≡ d
unfolding texts body_text
default-text d = append-nil (d ++ []) ∙ append-nil d

default_none : texts (row 7 (ref none ∷ []) ∷ []) ≡ []
unfolding texts body_text
default_none = refl

default-within : (x : Option (List ℕ)) (n : ℕ) → length (texts (row 7 (ref x ∷ []) ∷ [])) ≤ n → {s s' : State} {S S' T T' : List ℕ}
    → PutRows (row 7 (ref x ∷ []) ∷ []) s.types s s' S S' T T' → Within (n + 5) s s'
default-within x n h {s} {s'} p =
    let l : length (Rattle.sheet.specs.Rows.sheet_from s.text (row 7 (ref x ∷ []) ∷ [])) ≡ 5 = sheet-length s.text (row 7 (ref x ∷ []) ∷ []) ∙ default-length x in
    record { counts = omega (arith, put-sheet p, put-text p, put-types p); types = omega (arith, put-types p) }

-- what stands at n places from i on; written over them, it changes nothing
standing : List ℕ → ℕ → ℕ → List ℕ
standing l i zero = []
standing l i (suc n) = get_or l i 0 ∷ standing l (suc i) n

standing-length : (l : List ℕ) (i n : ℕ) → length (standing l i n) ≡ n
unfolding standing
standing-length l i zero = refl
standing-length l i (suc n) = ap suc (standing-length l (suc i) n)

standing-same : (l : List ℕ) (i n : ℕ) → sets l i (standing l i n) ≡ l
unfolding standing
standing-same l i zero = refl
standing-same l i (suc n) =
    ap (λ (m : List ℕ). sets m (suc i) (standing l (suc i) n)) (set-get_or l i 0) ∙ standing-same l (suc i) n

-- The text that was written, if it is known.
text-known : (o : Option (List ℕ)) (at : ℕ) (r : std.Option ℕ) (A A₁ t : List ℕ) → PartTold o at r A A₁ → o ≡ some t → A₁ ≡ sets A at t
text-known o at (Some n) A A₁ t (u, e, p) f = let g : u ≡ t = cc in rw g at p.area
text-known o at None A A₁ t e f = let z : ◌≡◌ {A = ℕ} 0 1 = cc in absurd (omega arith)

text_aside : (t A A₁ : List ℕ) (n : ℕ) → PutSized t 0 n A A₁ → n ≤ length A → take n A₁ ≡ t
text_aside t A A₁ n p h =
    let l : length t ≤ length A = omega (arith, p.size) in
    ap (λ (k : ℕ). take k A₁) p.size
    ∙ ap (take (length t)) (p.area ∙ sets_front t A l)
    ∙ take-append_seam t (drop (length t) A)

module _ {D : Type 0} (read : Scope → Message → Read (Option D)) (parts : D → Option Parts) {e : Lent} {start end : ℕ} (s : State) {r : std.Option ℕ} {A A₁ : List ℕ}
    (u : DefaultOf read parts e start end 0 r A A₁) where
  told : (c : Scope) → Scoped e c → (m : Message) → EntryAt e.payload start end m → (d : D) (l b : ℕ) → read c m l ≡ ok (some d, b) → {y : std.Option ℕ} → r ≡ y
      → PartTold (map_option descriptor (parts d)) 0 y A A₁
  told c o m k d l b h w = (part-answer w u).is c o m k d (record { before = l; after = b; is = h })

  pub close-absent : r ≡ None → {s' : State} {S S' T T' : List ℕ}
      → PutRows (row 7 (ref none ∷ []) ∷ []) s.types s s' S S' T T' → CloseTold read parts e start end s s' S S' T T'
  close-absent w {s'} {S} {S'} {T} {T'} p = record {
    spends = default-within none (part_cost * (4 + (end - start))) (omega (arith, ap length default_none)) p;
    is = λ c o m k d l b h.
        subst (λ (x : Option (List ℕ)). PutRows (row 7 (ref x ∷ []) ∷ []) s.types s s' S S' T T') (sym (told c o m k d l b h w)) p;
  }

  -- the descriptor fits what was lent aside
  pub close-short : {size : ℕ} → r ≡ Some size → size ≤ length A → {s' : State} {S S' T T' : List ℕ}
      → PutRows (row 7 (ref (some (take size A₁)) ∷ []) ∷ []) s.types s s' S S' T T' → CloseTold read parts e start end s s' S S' T T'
  close-short {size} w h {s'} {S} {S'} {T} {T'} p =
      let i : size ≤ part_cost * (4 + (end - start)) = written-within (part_cost * (4 + (end - start))) u.within w in
      record {
        spends = default-within (some (take size A₁)) (part_cost * (4 + (end - start))) (omega (arith, ap length (default-text (take size A₁)), length-take size A₁)) p;
        is = λ c o m k d l b g.
            let t = told c o m k d l b g w in
            let same : some (take size A₁) ≡ map_option descriptor (parts d) = ap some (text_aside t.0 A A₁ size t.2 h) ∙ sym t.1 in
            subst (λ (x : Option (List ℕ)). PutRows (row 7 (ref x ∷ []) ∷ []) s.types s s' S S' T T') same p;
      }

  -- it is walked again, into the text
  module _ {size : ℕ} (w : r ≡ Some size) {s' : State} {S S' T₁ T' : List ℕ}
      (p : (d T : List ℕ) → length d ≡ size → T₁ ≡ sets T s.text d → PutRows (row 7 (ref (some d) ∷ []) ∷ []) s.types s s' S S' T T') where
    default-spends : Within (close_cost (end - start)) s s'
    default-spends =
        let d = standing T₁ s.text size in
        let i : size ≤ part_cost * (4 + (end - start)) = written-within (part_cost * (4 + (end - start))) u.within w in
        default-within (some d) (part_cost * (4 + (end - start))) (omega (arith, ap length (default-text d), standing-length T₁ s.text size))
        (p d T₁ (standing-length T₁ s.text size) (sym (standing-same T₁ s.text size)))

    pub close-long : {y : std.Option ℕ} {T : List ℕ} → DefaultOf read parts e start end s.text y T T₁ → CloseTold read parts e start end s s' S S' T T'
    close-long {y} {T} v = record {
      spends = default-spends;
      is = λ c o m k d l b h.
          let t = told c o m k d l b h w in
          let f = text-known (map_option descriptor (parts d)) s.text y T T₁ t.0 (v.is c o m k d (record { before = l; after = b; is = h })) t.1 in
          subst (λ (x : Option (List ℕ)). PutRows (row 7 (ref x ∷ []) ∷ []) s.types s s' S S' T T') (sym t.1) (p t.0 T (sym t.2.size) f);
    }

-- One that is skipped or refused, and so is not closed.
pub closed_unkept : {D : Type 0} (read : Scope → Message → Read (Option D)) (rows closed : D → List Row) {n n' : ℕ} {e : Lent} {msg : List ℕ} {base : ℕ}
    {s : State} (r : Picked) {S S₁ T T₁ : List ℕ} → ((state : State) → r ≡ Ok (Some state) → ⊥) → MemberTold read rows n e msg base s r S S₁ T T₁
    → MemberTold read closed n' e msg base s r S S₁ T T₁
closed_unkept read rows closed (Ok (Some s₁)) h t = absurd (h s₁ refl)
closed_unkept read rows closed (Ok None) h t = record { spends = tt; is = t.is }
closed_unkept read rows closed (Err stop) h t = record { spends = tt; is = t.is }

-- One that is skipped.
module _ {D : Type 0} (read : Scope → Message → Read (Option D)) (rows closed : D → List Row) {n n' : ℕ} {e : Lent} {msg : List ℕ} {base : ℕ}
    {s : State} {r : Picked} {S S₁ T T₁ : List ℕ} (t : MemberTold read rows n e msg base s r S S₁ T T₁) where
  pub closed_dropped : r ≡ Ok None → MemberTold read closed n' e msg base s (Ok None) S S₁ T T₁
  closed_dropped w = record { spends = tt; is = λ c o m k. subst (λ (y : Picked). PickedTold (read c m s.types) rows s y S S₁ T T₁) w (t.is c o m k) }

module _ {D : Type 0} (read : Scope → Message → Read (Option D)) (rows closed : D → List Row) (parts : D → Option Parts)
    (are : (d : D) → rows d ++ (default_row (parts d) ∷ []) ≡ closed d) {e : Lent} {msg : List ℕ} {base : ℕ} {s : State}
    {r : Picked} {S S₁ T T₁ : List ℕ} (t : MemberTold read rows (member_cost (length msg)) e msg base s r S S₁ T T₁) where
  member_is : (c : Scope) → Scoped e c → (m : Message) → cut (◌from◌ base msg) ≡ ok m → {y : Picked} → r ≡ y
      → PickedTold (read c m s.types) rows s y S S₁ T T₁
  member_is c o m k w = subst (λ (y : Picked). PickedTold (read c m s.types) rows s y S S₁ T T₁) w (t.is c o m k)

  pub closed-kept : Stands e.payload msg base → {s₁ : State} → r ≡ Ok (Some s₁) → {s₂ : State} {S₂ T₂ : List ℕ}
      → CloseTold read parts e base (base + length msg) s₁ s₂ S₁ S₂ T₁ T₂
      → MemberTold read closed (closed_cost (length msg)) e msg base s (Ok (Some s₂)) S S₂ T T₂
  closed-kept st {s₁} w {s₂} {S₂} {T₂} u = record {
    spends = within_both (closed_cost (length msg)) (omega arith) (picked_within {n = member_cost (length msg)} t.spends w) u.spends;
    is = λ c o m k.
        let p = member_is c o m k w in
        let q = u.is c o m (stands-entry st k) p.0 s.types p.1 p.2 in
        let both = put-left (rows_then (rows p.0) (default_row (parts p.0) ∷ []) p.3 q) (put-types p.3) in
        (p.0, p.1, p.2, subst (λ (rs : List Row). PutRows rs p.1 s s₂ S S₂ T T₂) (are p.0) both);
  }

pub callable-closed : (k : Callable) (d : Declared k) → callable_rows k d ++ (default_row (callable_parts k d) ∷ []) ≡ callable_closed k d
unfolding closed_constructor closed_function
callable-closed callable.Constructor c = refl
callable-closed callable.Function f = refl

-- what is known of one, known of it by its kind
pub read-so : {n : ℕ} {e : Lent} {msg : List ℕ} {base : ℕ} {s : State} {r : Picked} {S S' T T' : List ℕ} {k : Callable} (x : Callable) → k ≡ x
    → MemberTold (callable_in x) (callable_rows x) n e msg base s r S S' T T' → MemberTold (callable_in k) (callable_rows k) n e msg base s r S S' T T'
read-so {n} {e} {msg} {base} {s} {r} {S} {S'} {T} {T'} x q =
    subst (λ (y : Callable). MemberTold (callable_in y) (callable_rows y) n e msg base s r S S' T T') (sym q)

pub default-so : {e : Lent} {start end at : ℕ} {r : std.Option ℕ} {A A₁ : List ℕ} {k : Callable} (x : Callable) → k ≡ x
    → DefaultOf (callable_in x) (callable_parts x) e start end at r A A₁ → DefaultOf (callable_in k) (callable_parts k) e start end at r A A₁
default-so {e} {start} {end} {at} {r} {A} {A₁} x q =
    subst (λ (y : Callable). DefaultOf (callable_in y) (callable_parts y) e start end at r A A₁) (sym q)
