-- The list in a field, one member after the other: of any members, with any rows, each for a unit of cost and for every byte of it.
-- Assumes nothing.
use mathlib.Core.Path.{◌≡◌, refl, ap, sym, subst, ◌∙◌}
use mathlib.Core.List.{List, [], ◌∷◌, map}
use mathlib.Core.Option.{Option, none, some}
use Prim.Native.Nat.{ℕ, ◌+◌, ◌-◌, ◌*◌, ◌≤◌, ◌<◌}
use native.Mathlib.Nat.{add-zero, zero-add, mul-le-mul_left}
use native.Mathlib.Omega.{arith}
use lib.ListN.{length, take, drop, length-take}
use Rattle.std.specs.declared.option.Option.TheVariants.{Some, None}
use Rattle.std.specs.declared.result.Result.TheVariants.{Ok, Err}
use Rattle.foundation.specs.Choices.{concat}
use Rattle.foundation.specs.Results as Results
use Rattle.foundation.specs.Results.{Res, ok, refused, Part, ◌from◌}
use Rattle.wire.specs.Wire.{Message, cut}
use Rattle.wire.specs.Messages.{cut_all, messages}
use Rattle.wire.specs.told.WireTold.{rest_of, part_between}
use Rattle.messages.specs.told.Asked.{CheckedTold, bodies, NextIs, NextBodyTold, PieceInside, PieceBegins}
use Rattle.wire.specs.declared.WireError.{WireError}
use Rattle.wire.proofs.WalkLaws.{whole, ok_same}
use Rattle.sheet.specs.Rows.{Row, sheet_from, texts}
use Rattle.sheet.specs.told.Put.{PutRows}
use Rattle.sheet.specs.declared.State.{State}
use Rattle.sheet.proofs.PutLaws.{put_none, put-types, rows_then}
use Rattle.schema.specs.Reading.{Read, keep, kept, Scope}
use Rattle.schema.specs.Members.{list_in}
use Rattle.schema.specs.told.SchemaTold.{Lent, Scoped, Picked, PickedTold, stop_refused}
use Rattle.schema.specs.told.MembersTold.{ListWalked, section, Affords, Within, ListedTold, MemberTold, ListTold}
use Rattle.schema.specs.told.ListsTold.{ListAtTold}
use Rattle.schema.specs.declared.Stop.{Stop}
use Rattle.schema.specs.declared.Stop.TheVariants as stop
use Rattle.schema.proofs.CountLaws.{within_none, within_both, within_less, affords-after, picked_within}
use Rattle.std.specs.declared.option.Option as rust
use Rattle.std.specs.declared.result.Result.{Result}
use Rattle.foundation.specs.declared.Span.{Span}
use Rattle.messages.specs.told.Asked.{span}

-- A list of parts that can be cut: its first, and the others.
pub record First (p : Part) (ps : List Part) (ms : List Message) : Type 0 where
  pub first : Message
  pub others : List Message
  pub cuts : cut p ≡ ok first
  pub many : cut_all ps ≡ ok others
  pub are : ms ≡ first ∷ others

pub cut-first : (p : Part) (ps : List Part) (ms : List Message) → cut_all (p ∷ ps) ≡ ok ms → First p ps ms
unfolding cut_all
cut-first p ps ms = go (cut p) refl (cut_all ps) refl
  where
    go : (r : Res Message) → cut p ≡ r → (q : Res (List Message)) → cut_all ps ≡ q → Results.◌>>=◌ r (λ m. Results.◌>>=◌ q λ ms. ok (m ∷ ms)) ≡ ok ms → First p ps ms
    go (ok m) e (ok l) f g = record { first = m; others = l; cuts = e; many = f; are = sym (ok_same g) }
    go (ok m) e (refused c a) f g = let z : ◌≡◌ {A = ℕ} 0 1 = cc in absurd (omega arith)
    go (refused c a) e q f g = let z : ◌≡◌ {A = ℕ} 0 1 = cc in absurd (omega arith)

-- What is kept of a message and of those after it.
module _ {A : Type 0} (f : Message → Read (Option A)) (m : Message) (ms : List Message) (n : ℕ) where
  pub kept-refused : {c : Results.Cause} {p : ℕ} → f m n ≡ refused c p → kept f (m ∷ ms) n ≡ refused c p
  unfolding kept
  kept-refused e = rw e

  module _ {o : Option A} {b : ℕ} (e : f m n ≡ ok (o, b)) where
    pub kept-later-refused : {c : Results.Cause} {p : ℕ} → kept f ms b ≡ refused c p → kept f (m ∷ ms) n ≡ refused c p
    unfolding kept
    kept-later-refused h = rw (e, h)

    pub kept-later : {xs : List A} {l : ℕ} → kept f ms b ≡ ok (xs, l) → kept f (m ∷ ms) n ≡ ok (keep o xs, l)
    unfolding kept
    kept-later h = rw (e, h)

-- The walk over the members: from here on it is right if it is right from the start.
pub record Going {A : Type 0} (f : Message → Read (Option A)) (rows : A → List Row) (number : ℕ) (all : List Message) (s₀ : State) (S₀ T₀ : List ℕ)
    (base : ℕ) (msg : List ℕ) (at count : ℕ) (s : State) (S T : List ℕ) : Type 0 where
  pub rest : Message
  pub left : List Message
  pub cuts : cut (rest_of base msg at) ≡ ok rest
  pub many : cut_all (bodies number rest) ≡ ok left
  pub stopped : (stop : Stop) → kept f left s.types ≡ stop_refused stop → kept f all s₀.types ≡ stop_refused stop
  pub done : (xs : List A) (b : ℕ) (s' : State) (S' T' : List ℕ) → kept f left s.types ≡ ok (xs, b)
      → PutRows (concat (map rows xs)) b s s' S S' T T'
      → ListedTold (kept f all s₀.types) rows s₀ (Ok (section s' (count + length xs))) S₀ S' T₀ T'

module _ {A : Type 0} (f : Message → Read (Option A)) (rows : A → List Row) (number : ℕ) (all : List Message) (s₀ : State) (S₀ T₀ : List ℕ) (base : ℕ)
    (msg : List ℕ) where
  counted : (s' : State) (S' T' : List ℕ) {j k : ℕ} → j ≡ k → ListedTold (kept f all s₀.types) rows s₀ (Ok (section s' j)) S₀ S' T₀ T'
      → ListedTold (kept f all s₀.types) rows s₀ (Ok (section s' k)) S₀ S' T₀ T'
  counted s' S' T' e h = subst (λ (n : ℕ). ListedTold (kept f all s₀.types) rows s₀ (Ok (section s' n)) S₀ S' T₀ T') e h

  pub going_start : (m : Message) → cut (◌from◌ base msg) ≡ ok m → messages number m ≡ ok all → Going f rows number all s₀ S₀ T₀ base msg 0 0 s₀ S₀ T₀
  unfolding messages
  going_start m k h = record {
    rest = m;
    left = all;
    cuts = ap cut (whole base msg) ∙ k;
    many = h;
    stopped = λ stop e. e;
    done = λ xs b s' S' T' e p. (xs, b, e, zero-add (length xs), p);
  }

  module _ (at count : ℕ) (s : State) (S T : List ℕ) (g : Going f rows number all s₀ S₀ T₀ base msg at count s S T) {x : rust.Option Span} (t : NextBodyTold base msg number at x) where
    next-is : {y : rust.Option Span} → x ≡ y → NextIs base msg number g.rest y
    next-is e = subst (NextIs base msg number g.rest) e (t.is g.rest g.cuts)

    pub going_end : x ≡ None → ListedTold (kept f all s₀.types) rows s₀ (Ok (section s count)) S₀ S T₀ T
    unfolding cut_all kept sheet_from texts
    going_end e =
        let none_left : g.left ≡ [] = ok_same (sym g.many ∙ ap cut_all (next-is e)) in
        counted s S T (add-zero count)
        (g.done [] s.types s S T (ap (λ (l : List Message). kept f l s.types) none_left) (put_none s S T))

    module _ {a b : ℕ} (e : x ≡ Some (span a b)) where
      the_rest : Message
      the_rest = (next-is e).0

      first : First (part_between base msg a b) (bodies number the_rest) g.left
      unfolding the_rest
      first = cut-first (part_between base msg a b) (bodies number (next-is e).0) g.left (ap cut_all (sym (next-is e).2) ∙ g.many)

      -- what the next member is read from
      pub member : Message
      member = first.first

      pub member-cuts : cut (part_between base msg a b) ≡ ok member
      unfolding member
      member-cuts = first.cuts

      left_is : (n : ℕ) → kept f g.left n ≡ kept f (first.first ∷ first.others) n
      left_is n = ap (λ (l : List Message). kept f l n) first.are

      pub going-refused : (stop : Stop) → f member s.types ≡ stop_refused stop → kept f all s₀.types ≡ stop_refused stop
      unfolding member
      going-refused stop h = g.stopped stop (left_is s.types ∙ kept-refused f first.first first.others s.types h)

      pub going-dropped : f member s.types ≡ ok (none, s.types) → Going f rows number all s₀ S₀ T₀ base msg b count s S T
      unfolding the_rest first member
      going-dropped h = record {
        rest = the_rest;
        left = first.others;
        cuts = (next-is e).1;
        many = first.many;
        stopped = λ stop q. g.stopped stop (left_is s.types ∙ kept-later-refused f first.first first.others s.types h q);
        done = λ xs l s' S' T' q p. g.done xs l s' S' T' (left_is s.types ∙ kept-later f first.first first.others s.types h q) p;
      }

      pub going-kept : (y : A) (l : ℕ) (s₁ : State) (S₁ T₁ : List ℕ) → f member s.types ≡ ok (some y, l)
          → PutRows (rows y) l s s₁ S S₁ T T₁ → Going f rows number all s₀ S₀ T₀ base msg b (count + 1) s₁ S₁ T₁
      unfolding the_rest first member
      going-kept y l s₁ S₁ T₁ h p =
          let h' : f first.first s.types ≡ ok (some y, s₁.types) = h ∙ ap (λ (n : ℕ). ok (some y, n)) (sym (put-types p)) in
          record {
            rest = the_rest;
            left = first.others;
            cuts = (next-is e).1;
            many = first.many;
            stopped = λ stop q. g.stopped stop (left_is s.types ∙ kept-later-refused f first.first first.others s.types h' q);
            done = λ xs n s' S' T' q r.
                counted s' S' T' (omega arith)
                (g.done (y ∷ xs) n s' S' T' (left_is s.types ∙ kept-later f first.first first.others s.types h' q)
                (rows_then (rows y) (concat (map rows xs)) p r));
          }

-- What a member may take, in a body from a to b that begins after the place `at`.
paid : (unit at a b n : ℕ) → at < a → a ≤ b → b ≤ n → unit * at + unit * (1 + (b - a)) ≤ unit * n
paid unit at a b n h k l =
    let p : at + (1 + (b - a)) ≤ n = omega arith in
    omega (arith, mul-le-mul_left unit p)

-- a member that takes a unit, and one that takes a unit for each of its bytes too
pub unit_cheap : (unit n : ℕ) → unit ≤ unit * (1 + n)
unit_cheap unit n = omega arith

pub bytes_cheap : (unit : ℕ) (l : List ℕ) (a b : ℕ) → unit * (1 + length (take (b - a) (drop a l))) ≤ unit * (1 + (b - a))
bytes_cheap unit l a b =
    let p : 1 + length (take (b - a) (drop a l)) ≤ 1 + (b - a) = omega (arith, length-take (b - a) (drop a l)) in
    mul-le-mul_left unit p

-- The loop over the members: also how many were kept and how much was spent.
pub record Looping {A : Type 0} (read : Scope → Message → Read (Option A)) (rows : A → List Row) (unit : ℕ) (e : Lent) (msg : List ℕ) (base number : ℕ)
    (s₀ : State) (S₀ T₀ : List ℕ) (at count : ℕ) (s : State) (S T : List ℕ) : Type 0 where
  pub few : count ≤ at
  pub inside : at ≤ length msg
  pub spends : Within (unit * at) s₀ s
  pub going : (c : Scope) → Scoped e c → (m : Message) → cut (◌from◌ base msg) ≡ ok m → (ms : List Message) → messages number m ≡ ok ms
      → Going (read c) rows number ms s₀ S₀ T₀ base msg at count s S T

module _ {A : Type 0} {read : Scope → Message → Read (Option A)} {rows : A → List Row} {unit : ℕ} {e : Lent} {msg : List ℕ} {base number : ℕ}
    {s₀ : State} {S₀ T₀ : List ℕ} where
  pub loop-start : Looping read rows unit e msg base number s₀ S₀ T₀ 0 0 s₀ S₀ T₀
  loop-start = record {
    few = omega arith;
    inside = omega arith;
    spends = within_less (unit * 0) (omega arith) (within_none s₀);
    going = λ c o m k ms h. going_start (read c) rows number ms s₀ S₀ T₀ base msg m k h;
  }

  module _ {at count : ℕ} {s : State} {S T : List ℕ} (g : Looping read rows unit e msg base number s₀ S₀ T₀ at count s S T) {x : rust.Option Span}
      (t : NextBodyTold base msg number at x) where
    pub loop-end : x ≡ None → ListAtTold read rows (unit * length msg) e msg base number s₀ (Ok (section s count)) S₀ S T₀ T
    loop-end q = record {
      spends = within_less (unit * length msg) (mul-le-mul_left unit g.inside) g.spends;
      is = λ c o m k ms h. going_end (read c) rows number ms s₀ S₀ T₀ base msg at count s S T (g.going c o m k ms h) t q;
    }

    module _ {a b : ℕ} (q : x ≡ Some (span a b)) where
      pub member-in : (at < a) × (a ≤ b) × (b ≤ length msg)
      member-in =
          let i = subst (PieceInside msg) q t.inside in
          (subst (PieceBegins at) q t.begins, i.0, i.1)

      module _ {cost : ℕ} (cheap : cost ≤ unit * (1 + (b - a))) where
        -- what is left for it
        pub member-affords : {e' : Lent} → Affords e' (unit * length msg) s₀ → Affords e' cost s
        member-affords h =
            let p = paid unit at a b (length msg) member-in.0 member-in.1 member-in.2 in
            affords-after h cost g.spends (omega arith)

        module _ {r : Picked} {S' T' : List ℕ} (u : MemberTold read rows cost e (take (b - a) (drop a msg)) (base + a) s r S S' T T') where
          member_is : (c : Scope) → Scoped e c → (m : Message) → cut (part_between base msg a b) ≡ ok m → {y : Picked} → r ≡ y
              → PickedTold (read c m s.types) rows s y S S' T T'
          member_is c o m k {y} w = subst (λ (z : Picked). PickedTold (read c m s.types) rows s z S S' T T') w (u.is c o m k)

          pub loop-refused : {stop : Stop} → r ≡ Err stop → ListAtTold read rows (unit * length msg) e msg base number s₀ (Err stop) S₀ S' T₀ T'
          loop-refused {stop} w = record {
            spends = tt;
            is = λ c o m k ms h.
                let go = g.going c o m k ms h in
                let cuts = member-cuts (read c) rows number ms s₀ S₀ T₀ base msg at count s S T go t q in
                going-refused (read c) rows number ms s₀ S₀ T₀ base msg at count s S T go t q stop (member_is c o _ cuts w);
          }

          pub loop-dropped : r ≡ Ok None → Looping read rows unit e msg base number s₀ S₀ T₀ b count s S' T'
          loop-dropped w = record {
            few = omega (arith, g.few, member-in);
            inside = member-in.2;
            spends = within_less (unit * b) (mul-le-mul_left unit (omega (arith, member-in))) g.spends;
            going = λ c o m k ms h.
                let go = g.going c o m k ms h in
                let cuts = member-cuts (read c) rows number ms s₀ S₀ T₀ base msg at count s S T go t q in
                let told = member_is c o _ cuts w in
                let same = going-dropped (read c) rows number ms s₀ S₀ T₀ base msg at count s S T go t q told.0 in
                subst (λ (y : List ℕ). Going (read c) rows number ms s₀ S₀ T₀ base msg b count s y T') (sym told.1)
                (subst (λ (y : List ℕ). Going (read c) rows number ms s₀ S₀ T₀ base msg b count s S y) (sym told.2) same);
          }

          pub loop-kept : {s₁ : State} → r ≡ Ok (Some s₁) → Looping read rows unit e msg base number s₀ S₀ T₀ b (count + 1) s₁ S' T'
          loop-kept {s₁} w = record {
            few = omega (arith, g.few, member-in);
            inside = member-in.2;
            spends =
                let p = paid unit at a b b member-in.0 member-in.1 (omega arith) in
                within_both (unit * b) (omega arith) g.spends (picked_within {n = cost} u.spends w);
            going = λ c o m k ms h.
                let go = g.going c o m k ms h in
                let cuts = member-cuts (read c) rows number ms s₀ S₀ T₀ base msg at count s S T go t q in
                let told = member_is c o _ cuts w in
                going-kept (read c) rows number ms s₀ S₀ T₀ base msg at count s S T go t q told.0 told.1 s₁ S' T' told.2 told.3;
          }

-- A list whose messages are cut first.
list_is : {A : Type 0} (f : Message → Read (Option A)) (number : ℕ) (m : Message) (l : ℕ) {ms : List Message} → messages number m ≡ ok ms
    → list_in f number m l ≡ kept f ms l
unfolding list_in
list_is f number m l e = rw e

module _ {A : Type 0} {read : Scope → Message → Read (Option A)} {rows : A → List Row} {cost : ℕ} {e : Lent} {msg : List ℕ} {base number : ℕ} {s : State}
    (x : Result Unit WireError) (t : (m : Message) → cut (◌from◌ base msg) ≡ ok m → CheckedTold (messages number m) x) where
  pub list-uncut : {error : WireError} → x ≡ Err error → {S S' T T' : List ℕ}
      → ListTold read rows cost e msg base number s (Err (stop.Wire error)) S S' T T'
  unfolding list_in
  list-uncut {error} g = record {
    spends = tt;
    is = λ c o m k.
        let cuts : messages number m ≡ stop_refused (stop.Wire error) = subst (CheckedTold (messages number m)) g (t m k) in
        rw cuts;
  }

  pub list-cut : x ≡ Ok tt → {r : ListWalked} {S S' T T' : List ℕ} → ListAtTold read rows cost e msg base number s r S S' T T'
      → ListTold read rows cost e msg base number s r S S' T T'
  list-cut g {r} {S} {S'} {T} {T'} u = record {
    spends = u.spends;
    is = λ c o m k.
        let cuts = subst (CheckedTold (messages number m)) g (t m k) in
        subst (λ (y : Res (List A × ℕ)). ListedTold y rows s r S S' T T') (sym (list_is (read c) number m s.types cuts.1)) (u.is c o m k cuts.0 cuts.1);
  }
