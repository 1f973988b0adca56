-- The walk over the arguments of a type and over those inside them: its loop, turn by turn.
-- Assumes nothing.
use mathlib.Core.Path.{◌≡◌, refl, ap, sym, subst, ◌∙◌}
use mathlib.Core.Bool.{Bool, true, false}
use mathlib.Core.List.{List, [], ◌∷◌}
use mathlib.Core.Option.{Option, none, some}
use Prim.Native.Nat.{ℕ, ◌+◌, ◌-◌, ◌≤◌, ◌<◌}
use native.Mathlib.Omega.{arith}
use borrow.Author.Tests.{ltb-true, ltb-false}
use lib.Dec.{ltb}
use lib.ListN.{length, take, drop, set, length-take}
use borrow.Rule.Slice.PartMut.{put_mid, mid_of, same_len_mid, mid_len, take_put}
use Rattle.foundation.specs.Choices.{All}
use Rattle.foundation.specs.Results.{Res, ok, refused, Cause, ◌from◌}
use Rattle.fields.specs.Fields.{Type-argument, Type-Argument-type}
use Rattle.wire.specs.Wire.{Message, cut}
use Rattle.wire.specs.Messages.{message, cut_all, messages}
use Rattle.wire.specs.told.WireTold.{part_between}
use Rattle.messages.specs.told.Asked.{bodies, NextIs, NextBodyTold, PieceInside, PieceBegins}
use Rattle.wire.specs.declared.WireError.{WireError}
use Rattle.wire.proofs.WalkLaws.{whole, ok_same}
use Rattle.messages.proofs.BodyLaws.{part-is}
use Rattle.lookup.proofs.LookupLaws.{part_longer}
use Rattle.characters.proofs.PartLaws.{rest-is}
use Rattle.sheet.specs.Rows.{Row}
use Rattle.sheet.specs.told.Put.{PutRows}
use Rattle.sheet.specs.declared.State.{State}
use Rattle.sheet.proofs.PutLaws.{put-types, put-left}
use Rattle.declaration_rows.specs.Declarations as declaration
use Rattle.declaration_rows.specs.Declarations.{Ty, star, projected, blank}
use Rattle.schema.specs.Reading.{pure, enter, kept, Scope, allowance}
use Rattle.schema.specs.Types.{max_depth, resolve_at, argument_in, type_at}
use Rattle.declaration_rows.specs.Rows.{argument_role}
use Rattle.schema.specs.told.SchemaTold.{Lent, Scoped, Ready, Spends, WalkedSpends, PickedSpends, WalkedTold, PickedTold, stop_refused}
use Rattle.schema.specs.told.ArgumentTold.{projection_number, NoStar}
use Rattle.schema.specs.told.TypesTold.{or_nullable, rows_in, picked_of}
use Rattle.schema.specs.told.Alike.{ArgumentTwin}
use Rattle.foundation.specs.declared.Tables.{Tables}
use Rattle.schema.specs.declared.Stop.{Stop}
use Rattle.schema.specs.declared.Stop.TheVariants as stop
use Rattle.schema.proofs.TypeLaws.{spends_none, spends_then, ready-after}
use Rattle.schema.proofs.ListLaws.{cut-first}
use Rattle.schema.proofs.ParseLaws.{part-inside}
use Rattle.type_references.specs.told.Pending.{
  rows_read,
  prefixed,
  shown_rows,
  argument_rows,
  Wait,
  waits,
  pending,
  waiting_at,
  Twinned,
  Pends,
  Stacked,
  PendingInside,
  weight,
}
use Rattle.type_references.specs.told.ParseTold.{
  ArgumentIs,
  ArgumentInside,
  ArgumentTold,
  EnteredIs,
  EnteredOne,
  EnterTold,
  StarTold,
  ArgumentsTold,
  TwinTold,
  WaitingRoom,
  as_types,
  as_bytes,
  FitsType,
  FitsEntry,
  roomy,
  nowhere,
  ParseRoom,
}
use Rattle.type_references.specs.told.OptionalTold.{optional_of, LookedTold}
use Rattle.schema.specs.declared.argument.Projection.{Projection}
use Rattle.schema.specs.declared.argument.ArgumentHead.{ArgumentHead}
use Rattle.schema.specs.declared.argument.ArgumentHead.TheVariants as head
use Rattle.type_references.specs.declared.waiting.Waiting.{Waiting}
use Rattle.type_references.proofs.PendingLaws.{
  rows-refused,
  walked-done,
  pending-end,
  pending-dropped,
  pending-kept,
  pending-refused,
  pending-entered,
  argument-uncut,
  argument-unentered,
  argument-nowhere,
  argument-indexed,
  star-read,
  inline-told,
  picked_projected,
  Continues,
  continues_start,
  continues-same,
  continues-written,
  continues-refused,
  continues-done,
}
use Rattle.type_references.proofs.OptionalLaws.{walked_optional}
use Rattle.joined_types.proofs.DeepestLaws.{last-type_at}
use Rattle.type_references.proofs.TwinLaws.{twin-itself, twinned-all, twinned_within, twinned_first, twinned_rest, twinned-type, twinned_inner}
use Rattle.std.specs.declared.option.Option as rust
use Rattle.std.specs.declared.result.Result.{Result}
use Rattle.std.specs.declared.option.Option.TheVariants.{Some, None}
use Rattle.std.specs.declared.result.Result.TheVariants.{Ok, Err}
use Rattle.foundation.specs.declared.Span.{Span}
use Rattle.messages.specs.told.Asked.{span}
use Rattle.schema.specs.told.SchemaTold.{Walked, Picked}
use Rattle.type_references.proofs.StackLaws.{
  weight-same,
  weight-more,
  stacked-same,
  inside-same,
  fits-types,
  fits-bytes,
  push-below,
  push-here,
  weight-push,
  stacked-push,
  weight_pop,
  stacked_pop,
  stacked_empty,
}

walked_picked : (s : State) (w : Walked) → WalkedSpends s w → PickedSpends s (picked_of w)
walked_picked s (Ok s') h = h
walked_picked s (Err stop) h = h

-- The next body in what stands before an end of a message.
pub next-before : {base : ℕ} (msg : List ℕ) (end : ℕ) {offset at : ℕ} {bytes : List ℕ} {x : rust.Option Span}
    → (offset ≡ base + 0) × (bytes ≡ take (end - 0) (drop 0 msg)) → NextBodyTold offset bytes Type-argument at x
    → NextBodyTold base (take end msg) Type-argument at x
next-before {base} msg end {offset} {at} {bytes} {x} e t =
    let place : offset ≡ base = omega (arith, e.0) in
    let size : end - 0 ≡ end = omega arith in
    let part : bytes ≡ take end msg = e.1 ∙ ap (λ (n : ℕ). take n msg) size in
    subst (λ (b : ℕ). NextBodyTold b (take end msg) Type-argument at x) place (subst (λ (l : List ℕ). NextBodyTold offset l Type-argument at x) part t)

-- The next argument of those that wait from a place to an end, and the others from its end on.
pub record Met (base : ℕ) (msg last : List ℕ) (end left a b : ℕ) (w : Wait) : Type 0 where
  pub first : Message
  pub others : List Message
  pub are : w.arguments ≡ first ∷ others
  pub cuts : cut (part_between base msg a b) ≡ ok first
  pub twins : Twinned base last a b (first ∷ [])
  pub rest : Pends base msg last b end left (waits w.depth others)

module _ {base : ℕ} {msg last : List ℕ} {at end left : ℕ} {w : Wait} (p : Pends base msg last at end left w) (ordered : at ≤ end) {x : rust.Option Span}
    (t : NextBodyTold base (take end msg) Type-argument at x) where
  next-is : {y : rust.Option Span} → x ≡ y → NextIs base (take end msg) Type-argument p.rest y
  next-is g = subst (NextIs base (take end msg) Type-argument p.rest) g (t.is p.rest (ap cut (part-is base msg at end ordered) ∙ p.cuts))

  pub met-none : x ≡ None → w.arguments ≡ []
  unfolding messages cut_all
  met-none g = ok_same (sym p.many ∙ ap cut_all (next-is g))

  pub met : {a b : ℕ} → x ≡ Some (span a b) → Met base msg last end left a b w
  unfolding messages
  met {a} {b} g =
      let i = subst (PieceInside (take end msg)) g t.inside in
      let few : b ≤ end = omega (arith, length-take end msg, i.1) in
      let n = next-is g in
      let after : at < a = subst (PieceBegins at) g t.begins in
      let f = cut-first (part_between base (take end msg) a b) (bodies Type-argument n.0) w.arguments (ap cut_all (sym n.2) ∙ p.many) in
      let twins : Twinned base last at end (f.first ∷ f.others) = subst (Twinned base last at end) f.are p.twins in
      record {
        first = f.first;
        others = f.others;
        are = f.are;
        cuts = ap (λ (bs : List ℕ). cut (◌from◌ (base + a) bs)) (sym (part_longer msg end a b i.0 i.1)) ∙ f.cuts;
        twins = twinned_within (twinned_first twins) (omega arith) few;
        rest = record {
          rest = n.0;
          cuts = ap cut (sym (part-is base msg b end few)) ∙ n.1;
          many = f.many;
          deep = p.deep;
          twins = twinned_within (twinned_rest twins) (omega (arith, i.0)) (omega arith);
        };
      }

-- What is told of a reading while some of its arguments wait: those from a place to an end, then those in the lent area.
pub record WithWaiting (told : Res (List Row × ℕ)) (c : Scope) (base : ℕ) (msg last : List ℕ) (nest : List Waiting) (height at end deep : ℕ) (s₀ s : State) (S₀ S T₀ T : List ℕ) : Type 0 where
  pub wait : Wait
  pub later : List Wait
  pub here : Pends base msg last at end deep wait
  pub stacked : Stacked base msg last nest height later
  pub continues : Continues told c (wait ∷ later) s₀ s S₀ S T₀ T

-- The loop: where it stands in the message, what waits in the lent area below `height`, and what was spent and written.
pub record WalkLoop (e : Lent) (msg last : List ℕ) (base left : ℕ) (s₀ : State) (S₀ T₀ : List ℕ) (at end deep height : ℕ) (s : State) (S T : List ℕ) (nest : List Waiting) : Type 0 where
  pub ordered : at ≤ end
  pub short : end ≤ length msg
  pub shallow : deep ≤ left
  pub room : height + s.types ≤ s₀.types
  pub fewer : (end - at) + weight nest height ≤ length msg
  pub spends : Spends s₀ s
  pub inside : (i : ℕ) → i < height → PendingInside msg left (waiting_at nest i)
  pub going : (c : Scope) → Scoped e c → (m : Message) → cut (◌from◌ base msg) ≡ ok m → (ms : List Message) → messages Type-argument m ≡ ok ms
      → All (ArgumentTwin base last) ms → (d : ℕ) → left ≡ max_depth - d
      → WithWaiting (rows_read argument_rows (kept (argument_in (type_at allowance c) c d) ms s₀.types)) c base msg last nest height at end deep s₀ s S₀ S T₀ T

-- The loop after an answer, or the refusal of all arguments.
abbrev LoopAfter : Lent → (msg last : List ℕ) → ℕ → ℕ → State → List ℕ → List ℕ → ℕ → ℕ → ℕ → ℕ → List ℕ → List ℕ → List Waiting → Walked → Type 0
LoopAfter e msg last base left s₀ S₀ T₀ at end deep height S T nest (Ok s) = WalkLoop e msg last base left s₀ S₀ T₀ at end deep height s S T nest
LoopAfter e msg last base left s₀ S₀ T₀ at end deep height S T nest (Err stop) = ArgumentsTold e msg last base left s₀ (Err stop) S₀ S T₀ T

-- What falls: the bytes of the message that are left here and of what waits, and one for each.
abbrev pub turns : List Waiting → ℕ → ℕ → ℕ → ℕ
turns nest height at end = (end - at + 1) + weight nest height

-- the same after arguments are passed, with what waits as it was
module _ {told : Res (List Row × ℕ)} {c : Scope} {base : ℕ} {msg last : List ℕ} {nest : List Waiting} {height at end deep : ℕ} {s₀ s : State} {S₀ S T₀ T : List ℕ}
    (o : WithWaiting told c base msg last nest height at end deep s₀ s S₀ S T₀ T) {a b : ℕ} (n : Met base msg last end deep a b o.wait) where
  first-is : pending c (o.wait ∷ o.later) s.types ≡ pending c (waits o.wait.depth (n.first ∷ n.others) ∷ o.later) s.types
  first-is = ap (λ (ms : List Message). pending c (waits o.wait.depth ms ∷ o.later) s.types) n.are

  goes-refused : {k : Cause} {p : ℕ} → argument_in (type_at allowance c) c o.wait.depth n.first s.types ≡ refused k p → told ≡ refused k p
  goes-refused h =
      continues-refused o.continues
      (first-is ∙ pending-refused c o.wait.depth o.later s.types n.first n.others h)

  module _ (nest' : List Waiting) (f : take height nest' ≡ take height nest) where
    goes_dropped : argument_in (type_at allowance c) c o.wait.depth n.first s.types ≡ ok (none, s.types)
        → WithWaiting told c base msg last nest' height b end deep s₀ s S₀ S T₀ T
    goes_dropped h = record {
      wait = waits o.wait.depth n.others;
      later = o.later;
      here = n.rest;
      stacked = stacked-same nest nest' base msg last height o.later f o.stacked;
      continues =
          continues-same o.continues
          (first-is ∙ pending-dropped c o.wait.depth o.later s.types n.first n.others h);
    }

    goes_kept : (s' : State) (S' T' : List ℕ) {x : declaration.Argument} {l : ℕ} → argument_in (type_at allowance c) c o.wait.depth n.first s.types ≡ ok (some x, l)
        → PutRows (shown_rows x) l s s' S S' T T' → WithWaiting told c base msg last nest' height b end deep s₀ s' S₀ S' T₀ T'
    goes_kept s' S' T' {x} {l} h p =
        let z : l ≡ s'.types = sym (put-types p) in
        let later = pending-kept c o.wait.depth o.later s.types n.first n.others h in
        let rest : List Wait = waits o.wait.depth n.others ∷ o.later in
        record {
          wait = waits o.wait.depth n.others;
          later = o.later;
          here = n.rest;
          stacked = stacked-same nest nest' base msg last height o.later f o.stacked;
          continues =
              continues-written o.continues rest (shown_rows x) s' S' T'
              (first-is ∙ later ∙ ap (λ (k : ℕ). prefixed (shown_rows x) (pending c rest k)) z) (put-left p z);
        }

  -- a type inside: what is left here waits, the type's own arguments come first
  goes-entered : (nest' : List Waiting) → height < length nest → nest' ≡ set nest height (record { at = b; end = end; left = deep })
      → {projection : ℕ} → NoStar projection n.first → {inner : Message} → message Type-Argument-type n.first ≡ ok (some inner)
      → (x y deep' : ℕ) (ms : List Message) → Pends base msg last x y deep' (waits (o.wait.depth + 1) ms)
      → (own : List Row) (s' : State) (S' T' : List ℕ) → PutRows own s'.types s s' S S' T T'
      → rows_read (λ t. rows_in argument_role projection (or_nullable false t)) (type_at allowance c o.wait.depth inner s.types)
      ≡ prefixed own (rows_read argument_rows (kept (argument_in (type_at allowance c) c (o.wait.depth + 1)) ms s'.types))
      → WithWaiting told c base msg last nest' (height + 1) x y deep' s₀ s' S₀ S' T₀ T'
  goes-entered nest' room e typed i x y deep' ms p own s' S' T' q r = record {
    wait = waits (o.wait.depth + 1) ms;
    later = waits o.wait.depth n.others ∷ o.later;
    here = p;
    stacked = stacked-push nest height (record { at = b; end = end; left = deep }) room e base msg last (waits o.wait.depth n.others) o.later n.rest o.stacked;
    continues =
        continues-written o.continues (waits (o.wait.depth + 1) ms ∷ (waits o.wait.depth n.others ∷ o.later)) own s' S' T'
        (first-is ∙ pending-entered c o.wait.depth o.later s.types n.first n.others typed i own ms s'.types r) q;
  }

module _ {e : Lent} {msg last : List ℕ} {base left : ℕ} {s₀ : State} {S₀ T₀ : List ℕ} where
  pub loop-start : length last ≡ length msg → {nest : List Waiting} → WalkLoop e msg last base left s₀ S₀ T₀ 0 (length msg) left 0 s₀ S₀ T₀ nest
  unfolding weight
  loop-start long = record {
    ordered = omega arith;
    short = omega arith;
    shallow = omega arith;
    room = omega arith;
    fewer = omega arith;
    spends = spends_none s₀;
    inside = λ i k. absurd (omega arith);
    going = λ c o m k ms h z d l. record {
      wait = waits d ms;
      later = [];
      here = record {
        rest = m;
        cuts = ap (λ (bs : List ℕ). cut (◌from◌ (base + 0) bs)) (rest-is msg 0) ∙ ap cut (whole base msg) ∙ k;
        many = h;
        deep = l;
        twins = twinned-all last (omega arith) z;
      };
      stacked = refl;
      continues = continues_start c d ms s₀ S₀ T₀;
    };
  }

  module _ {at end deep height : ℕ} {s : State} {S T : List ℕ} {nest : List Waiting} (g : WalkLoop e msg last base left s₀ S₀ T₀ at end deep height s S T nest) where
    pub loop-ready : Ready e s₀ → Ready e s
    loop-ready h = ready-after h g.spends

    -- those that wait and the bytes left here are no more than the message has
    few-wait : height + (end - at) ≤ length msg
    few-wait = omega (arith, g.fewer, weight-more nest height)

    -- what waits stands in the area
    pub loop-height : {tables : Tables} {k : ℕ} → WaitingRoom tables s₀.types (length msg) k → height ≤ k
    loop-height (as_types h) = omega (arith, g.room)
    loop-height (as_bytes z h) = omega (arith, few-wait)

    -- what is free of the area is lent: it has room, and what waits is as it was when it is back
    pub loop-room : WaitingRoom e.tables s₀.types (length msg) (length nest) → {index : ℕ}
        → FitsEntry e index s.types (length (mid_of height (length nest - height) nest))
    loop-room (as_types h) = roomy (omega (arith, g.room, mid_len height (length nest) nest (omega arith)))
    loop-room (as_bytes z h) = nowhere z

    pub waits_kept : {tables : Tables} → WaitingRoom tables s₀.types (length msg) (length nest) → (part : List Waiting)
        → take height (put_mid height (length nest - height) nest part) ≡ take height nest
    waits_kept h part = take_put height (length nest - height) nest part (loop-height h)

    pub lent_length : (part : List Waiting) → length part ≡ length (mid_of height (length nest - height) nest)
        → length (put_mid height (length nest - height) nest part) ≡ length nest
    lent_length part = same_len_mid height (length nest - height) nest part

    module _ (n : height ≡ 0 → ⊥) where
      pub pop-some : 1 ≤ height
      pop-some = omega arith

      pub pop-room : {tables : Tables} {k : ℕ} → WaitingRoom tables s₀.types (length msg) k → height - 1 < k
      pop-room (as_types h) = omega (arith, g.room, pop-some)
      pop-room (as_bytes z h) = omega (arith, few-wait, pop-some)

      last-inside : PendingInside msg left (waiting_at nest (height - 1))
      last-inside = g.inside (height - 1) (omega (arith, pop-some))

    module _ {x : rust.Option Span} (t : NextBodyTold base (take end msg) Type-argument at x) where
      -- no argument is left here
      module _ (q : x ≡ None) where
        passed-all : {told : Res (List Row × ℕ)} {c : Scope} (o : WithWaiting told c base msg last nest height at end deep s₀ s S₀ S T₀ T)
            → Continues told c o.later s₀ s S₀ S T₀ T
        passed-all {told} {c} o =
            continues-same o.continues
            (ap (λ (ms : List Message). pending c (waits o.wait.depth ms ∷ o.later) s.types) (met-none o.here g.ordered t q)
            ∙ pending-end c o.wait.depth o.later s.types)

        pub loop-end : height ≡ 0 → ArgumentsTold e msg last base left s₀ (Ok s) S₀ S T₀ T
        loop-end f = record {
          spends = g.spends;
          is = λ c o m k ms h z d l.
              let go = g.going c o m k ms h z d l in
              let empty = stacked_empty base msg last nest height go.later f go.stacked in
              let done = continues-same {vs = []} (passed-all go) (ap (λ (ws : List Wait). pending c ws s.types) empty) in
              walked-done argument_rows (kept (argument_in (type_at allowance c) c d) ms s₀.types) (continues-done done) done.written;
        }

        module _ (n : height ≡ 0 → ⊥) {a b : ℕ} (f : a ≡ (waiting_at nest (height - 1)).at) (h : b ≡ (waiting_at nest (height - 1)).end) where
          pub loop-pop : {l : ℕ} → l ≡ (waiting_at nest (height - 1)).left → WalkLoop e msg last base left s₀ S₀ T₀ a b l (height - 1) s S T nest
          loop-pop k = rw (f, h, k) (record {
            ordered = (last-inside n).ordered;
            short = (last-inside n).short;
            shallow = (last-inside n).deep;
            room = omega (arith, g.room);
            fewer = omega (arith, g.fewer, weight_pop nest height (pop-some n));
            spends = g.spends;
            inside = λ i k. g.inside i (omega arith);
            going = λ c o m k ms h z d l.
                let go = g.going c o m k ms h z d l in
                let p = stacked_pop base msg last nest height go.later n go.stacked in
                record {
                  wait = p.top;
                  later = p.others;
                  here = p.pends;
                  stacked = p.stacked;
                  continues = continues-same (passed-all go) (ap (λ (ws : List Wait). pending c ws s.types) p.are);
                };
          })

          pub pop-falls : turns nest (height - 1) a b < turns nest height at end
          pop-falls = rw (f, h) (omega (arith, weight_pop nest height (pop-some n)))

      -- an argument from a to b
      module _ {a b : ℕ} (q : x ≡ Some (span a b)) where
        pub body-in : (at < a) × (a ≤ b) × (b ≤ end) × (b ≤ length msg)
        body-in =
            let i = subst (PieceInside (take end msg)) q t.inside in
            (subst (PieceBegins at) q t.begins, i.0, omega (arith, length-take end msg, i.1), omega (arith, length-take end msg, i.1))

        pub passed-falls : (nest' : List Waiting) → take height nest' ≡ take height nest → turns nest' height b end < turns nest height at end
        passed-falls nest' f = omega (arith, weight-same nest nest' height f, body-in)

        module _ {r : Result ArgumentHead WireError} (u : ArgumentTold base msg last a b r) where
          next-argument : {told : Res (List Row × ℕ)} {c : Scope} (o : WithWaiting told c base msg last nest height at end deep s₀ s S₀ S T₀ T)
              → Met base msg last end deep a b o.wait
          next-argument o = met o.here g.ordered t q

          argument_is : {y : Result ArgumentHead WireError} → r ≡ y → (m : Message) → cut (part_between base msg a b) ≡ ok m → Twinned base last a b (m ∷ [])
              → ArgumentIs base msg m y
          argument_is v m k t = subst (ArgumentIs base msg m) v (u.is m k t)

          -- the loop from b on, once it is known what it tells
          loop-on : (s' : State) (S' T' : List ℕ) (nest' : List Waiting) → take height nest' ≡ take height nest → Spends s s'
              → ((c : Scope) → Scoped e c → (told : Res (List Row × ℕ)) → WithWaiting told c base msg last nest height at end deep s₀ s S₀ S T₀ T
              → WithWaiting told c base msg last nest' height b end deep s₀ s' S₀ S' T₀ T')
              → WalkLoop e msg last base left s₀ S₀ T₀ b end deep height s' S' T' nest'
          loop-on s' S' T' nest' f p go = record {
            ordered = body-in.2;
            short = g.short;
            shallow = g.shallow;
            room = omega (arith, g.room, p.types);
            fewer = omega (arith, g.fewer, weight-same nest nest' height f, body-in);
            spends = spends_then g.spends p;
            inside = λ i k. inside-same nest nest' msg left height i k f (g.inside i k);
            going = λ c o m k ms h z d l. go c o _ (g.going c o m k ms h z d l);
          }

          pub loop-passed : r ≡ Ok head.Nothing → WalkLoop e msg last base left s₀ S₀ T₀ b end deep height s S T nest
          loop-passed v = loop-on s S T nest refl (spends_none s) λ c o told go.
              let n = next-argument go in
              let i = argument_is v n.first n.cuts n.twins in
              goes_dropped go n nest refl (argument-nowhere c go.wait.depth n.first s.types i.2 i.0 i.1)

          -- what refuses an argument refuses them all
          refused_all : (stop : Stop) → ((c : Scope) → Scoped e c → (m : Message) → cut (part_between base msg a b) ≡ ok m → Twinned base last a b (m ∷ []) → (d : ℕ)
              → deep ≡ max_depth - d → argument_in (type_at allowance c) c d m s.types ≡ stop_refused stop) → {S' T' : List ℕ}
              → ArgumentsTold e msg last base left s₀ (Err stop) S₀ S' T₀ T'
          refused_all stop f = record {
            spends = tt;
            is = λ c o m k ms h z d l.
                let go = g.going c o m k ms h z d l in
                let n = next-argument go in
                rows-refused argument_rows (kept (argument_in (type_at allowance c) c d) ms s₀.types)
                (goes-refused go n (f c o n.first n.cuts n.twins go.wait.depth go.here.deep));
          }

          pub loop-uncut : {error : WireError} → r ≡ Err error → {S' T' : List ℕ}
              → ArgumentsTold e msg last base left s₀ (Err (stop.Wire error)) S₀ S' T₀ T'
          loop-uncut {error} v = refused_all (stop.Wire error) λ c o m k t d l.
              let i = argument_is v m k t in
              argument-uncut c d m s.types i.1 i.0

          -- a star
          module _ (v : r ≡ Ok head.Star) {w : Walked} {S' T' : List ℕ} (n : StarTold s w S S' T T') where
            star-is : {z : Walked} → w ≡ z → WalkedTold (enter (pure (projected star blank)) s.types) shown_rows s z S S' T T'
            star-is h = subst (λ (z : Walked). WalkedTold (enter (pure (projected star blank)) s.types) shown_rows s z S S' T T') h n.is

            pub loop-unstarred : {stop : Stop} → w ≡ Err stop → ArgumentsTold e msg last base left s₀ (Err stop) S₀ S' T₀ T'
            loop-unstarred {stop} h = refused_all stop λ c o m k t d l. star-read c d m s.types (argument_is v m k t) (star-is h)

            pub loop-starred : {s' : State} → w ≡ Ok s' → WalkLoop e msg last base left s₀ S₀ T₀ b end deep height s' S' T' nest
            loop-starred {s'} h = loop-on s' S' T' nest refl (subst (WalkedSpends s) h n.spends) λ c o told go.
                let next = next-argument go in
                let it = star-is h in
                goes_kept go next nest refl s' S' T' (star-read c go.wait.depth next.first s.types (argument_is v next.first next.cuts next.twins) it.2) it.3

          -- its type inline, from `start` to `until`
          module _ {projection : Projection} {start until : ℕ} (v : r ≡ Ok (head.Inline projection (span start until))) where
            pub inline_in : (a < start) × (start ≤ until) × (until ≤ b) × (until ≤ length msg)
            inline_in =
                let i = subst (ArgumentInside a b) v u.inside in
                (i.0, i.1, i.2, omega (arith, i.2, body-in))

            module _ {w : Walked} {S' T' : List ℕ} (n : EnterTold e (take (until - start) (drop start msg)) (base + start) deep argument_role (projection_number projection) false s w S S' T T') where
              entered-is : {z : Walked} → w ≡ z → (c : Scope) → Scoped e c → (m : Message) (k : cut (part_between base msg a b) ≡ ok m) (t : Twinned base last a b (m ∷ []))
                  → (d : ℕ) → deep ≡ max_depth - d → EnteredIs c d (argument_is v m k t).0 argument_role (projection_number projection) false s z S S' T T'
              entered-is {z} h c o m k t d l =
                  let i = argument_is v m k t in
                  subst (λ (z : Walked). EnteredIs c d i.0 argument_role (projection_number projection) false s z S S' T T') h (n.is c o i.0 i.1 d l)

              pub loop-unentered : {stop : Stop} → w ≡ Err stop → ArgumentsTold e msg last base left s₀ (Err stop) S₀ S' T₀ T'
              loop-unentered {stop} h = refused_all stop λ c o m k t d l.
                  argument-unentered c d m s.types (argument_is v m k t).4 (argument_is v m k t).2 (entered-is h c o m k t d l)

              module _ {s' : State} (h : w ≡ Ok s') where
                one_less : s.types ≡ 1 + s'.types
                one_less = subst (EnteredOne s) h n.one

                pub push-room : {tables : Tables} {k : ℕ} → WaitingRoom tables s₀.types (length msg) k → height < k
                push-room (as_types l) = omega (arith, g.room, one_less)
                push-room (as_bytes z l) = omega (arith, few-wait, body-in)

                module _ (room : height < length nest) {nest' : List Waiting} (p : nest' ≡ set nest height (record { at = b; end = end; left = deep })) where
                  abbrev pushed : Waiting
                  pushed = record { at = b; end = end; left = deep }

                  pushed-inside : (i : ℕ) → i < height + 1 → PendingInside msg left (waiting_at nest' i)
                  pushed-inside i k = go (ltb i height) refl
                    where
                      go : (t : Bool) → ltb i height ≡ t → PendingInside msg left (waiting_at nest' i)
                      go true f =
                          let below : i < height = ltb-true i height f in
                          inside-same nest nest' msg left height i below (push-below nest height pushed room p) (g.inside i below)
                      go false f =
                          let here : i ≡ height = omega (arith, ltb-false i height f) in
                          subst (λ (k : ℕ). PendingInside msg left (waiting_at nest' k)) (sym here) (subst (PendingInside msg left) (sym (push-here nest height pushed room p)) (record { ordered = body-in.2; short = g.short; deep = g.shallow }))

                  pub loop-entered : {deep' : ℕ} → deep' ≡ deep - 1 → WalkLoop e msg last base left s₀ S₀ T₀ start until deep' (height + 1) s' S' T' nest'
                  loop-entered {deep'} less = record {
                    ordered = inline_in.1;
                    short = inline_in.3;
                    shallow = omega (arith, g.shallow);
                    room = omega (arith, g.room, one_less);
                    fewer =
                        let more = weight-push nest height pushed room p in
                        omega (arith, g.fewer, more, inline_in, body-in);
                    spends = spends_then g.spends (subst (WalkedSpends s) h n.spends);
                    inside = pushed-inside;
                    going = λ c o m k ms f z d l.
                        let go = g.going c o m k ms f z d l in
                        let next = next-argument go in
                        let i = argument_is v next.first next.cuts next.twins in
                        let in-it = entered-is h c o next.first next.cuts next.twins go.wait.depth go.here.deep in
                        let inner : Pends base msg last start until deep' (waits (go.wait.depth + 1) in-it.0) = record {
                          rest = i.0;
                          cuts = i.1;
                          many = in-it.2;
                          deep = omega (arith, go.here.deep);
                          twins = twinned_inner next.twins (omega (arith, inline_in)) inline_in.1 inline_in.2 msg inline_in.3 i.3 i.1 in-it.2;
                        } in
                        goes-entered go next nest' room p i.4 i.2 start until deep' in-it.0 inner in-it.1 s' S' T'
                        in-it.3 in-it.4;
                  }

                  pub entered-falls : turns nest' (height + 1) start until < turns nest height at end
                  entered-falls =
                      let more = weight-push nest height pushed room p in
                      omega (arith, more, inline_in, body-in)

          -- an argument that is read on its own: it is there or not, or refused
          module _ (found : Picked) (S' T' : List ℕ) (spent : PickedSpends s found) (told_is : (c : Scope) → Scoped e c → (m : Message)
              → cut (part_between base msg a b) ≡ ok m → Twinned base last a b (m ∷ []) → (d : ℕ) → deep ≡ max_depth - d
              → PickedTold (argument_in (type_at allowance c) c d m s.types) shown_rows s found S S' T T') (nest' : List Waiting)
              (f : take height nest' ≡ take height nest) where
            found-is : {z : Picked} → found ≡ z → (c : Scope) → Scoped e c → {told : Res (List Row × ℕ)} (go : WithWaiting told c base msg last nest height at end deep s₀ s S₀ S T₀ T)
                → PickedTold (argument_in (type_at allowance c) c go.wait.depth (next-argument go).first s.types) shown_rows s z S S' T T'
            found-is h c o go =
                let next = next-argument go in
                subst (λ (z : Picked). PickedTold (argument_in (type_at allowance c) c go.wait.depth next.first s.types) shown_rows s z S S' T T') h
                (told_is c o next.first next.cuts next.twins go.wait.depth go.here.deep)

            found-kept : {s' : State} → found ≡ Ok (Some s') → WalkLoop e msg last base left s₀ S₀ T₀ b end deep height s' S' T' nest'
            found-kept {s'} h = loop-on s' S' T' nest' f (subst (PickedSpends s) h spent) λ c o told go.
                let it = found-is h c o go in
                goes_kept go (next-argument go) nest' f s' S' T' it.2 it.3

            found-dropped : found ≡ Ok None → WalkLoop e msg last base left s₀ S₀ T₀ b end deep height s S' T' nest'
            found-dropped h = loop-on s S' T' nest' f (spends_none s) λ c o told go.
                let it = found-is h c o go in
                let same = goes_dropped go (next-argument go) nest' f it.0 in
                subst (λ (l : List ℕ). WithWaiting told c base msg last nest' height b end deep s₀ s S₀ l T₀ T') (sym it.1)
                (subst (λ (l : List ℕ). WithWaiting told c base msg last nest' height b end deep s₀ s S₀ S T₀ l) (sym it.2) same)

            found-refused : {stop : Stop} → found ≡ Err stop → ArgumentsTold e msg last base left s₀ (Err stop) S₀ S' T₀ T'
            found-refused {stop} h = refused_all stop λ c o m k t d l.
                subst (λ (z : Picked). PickedTold (argument_in (type_at allowance c) c d m s.types) shown_rows s z S S' T T') h (told_is c o m k t d l)

            loop-found : {w : Walked} → w ≡ optional_of s found → {z : Walked} → w ≡ z → LoopAfter e msg last base left s₀ S₀ T₀ b end deep height S' T' nest' z
            loop-found g {z} h = subst (λ (z : Walked). LoopAfter e msg last base left s₀ S₀ T₀ b end deep height S' T' nest' z) (sym g ∙ h) (go found refl)
              where
                go : (p : Picked) → found ≡ p → LoopAfter e msg last base left s₀ S₀ T₀ b end deep height S' T' nest' (optional_of s p)
                go (Ok (Some s')) q = found-kept q
                go (Ok None) q = found-dropped q
                go (Err stop) q = found-refused q

          -- its type inline, which leaves no look-up to its own arguments: it is read on its own, in the other bytes
          module _ {projection : Projection} {start until : ℕ} (v : r ≡ Ok (head.Inline projection (span start until))) (one : deep ≡ 1) where
            pub last-fewer : length (take (until - start) (drop start last)) < length msg
            last-fewer = omega (arith, length-take (until - start) (drop start last), inline_in v, body-in)

            -- what is free of the area is lent, which has room
            last-fits : WaitingRoom e.tables s₀.types (length msg) (length nest)
                → FitsType e (base + start) (take (until - start) (drop start last)) s.types (length (mid_of height (length nest - height) nest))
            last-fits (as_types h) = fits-types (omega (arith, g.room, mid_len height (length nest) nest (omega arith)))
            last-fits (as_bytes z h) =
                fits-bytes z (omega (arith, few-wait, inline_in v, body-in, length-take (until - start) (drop start last), mid_len height (length nest) nest (omega arith)))

            pub last-room : base + length msg ≤ length e.payload → left ≤ max_depth → length last ≡ length msg → Ready e s₀
                → WaitingRoom e.tables s₀.types (length msg) (length nest)
                → ParseRoom e (take (until - start) (drop start last)) (mid_of height (length nest - height) nest) (base + start) deep s
            last-room inside few long ready room =
                let i = inline_in v in
                record {
                  ready = loop-ready ready;
                  inside = part-inside last base start until (omega arith) i.1 (omega (arith, i.3));
                  deep = omega arith;
                  room = last-fits room;
                }

            module _ {w : Walked} {S' T' : List ℕ} (n : TwinTold e (take (until - start) (drop start last)) (take (until - start) (drop start last)) (base + start) deep argument_role (projection_number projection) false s w S S' T T') where
              last-is : (c : Scope) → Scoped e c → (m : Message) → cut (part_between base msg a b) ≡ ok m → Twinned base last a b (m ∷ []) → (d : ℕ) → deep ≡ max_depth - d
                  → PickedTold (argument_in (type_at allowance c) c d m s.types) shown_rows s (picked_of w) S S' T T'
              last-is c o m k t d l =
                  let i = argument_is v m k t in
                  let j = inline_in v in
                  let twin = twinned-type t (omega (arith, j)) j.1 j.2 msg j.3 i.3 i.1 in
                  inline-told c d m i.4 i.2 s w S S' T T'
                  (subst (λ (r : Res (Ty × ℕ)). WalkedTold r (λ t. rows_in argument_role (projection_number projection) (or_nullable false t)) s w S S' T T')
                  (sym (last-type_at allowance c d i.0 twin.0 (omega arith) twin.2 s.types)) (n.is c o twin.0 twin.1 (twin-itself (base + start) (take (until - start) (drop start last)) twin.0 twin.1) d l))

              pub loop-last : (nest' : List Waiting) → take height nest' ≡ take height nest → {z : Walked} → w ≡ z
                  → LoopAfter e msg last base left s₀ S₀ T₀ b end deep height S' T' nest' z
              loop-last nest' f h = loop-found (picked_of w) S' T' (walked_picked s w n.spends) last-is nest' f (walked_optional s w) h

          -- its type by an index
          module _ {projection : Projection} {i : ℕ} (v : r ≡ Ok (head.ByIndex projection i)) {w : Walked} {S' T' : List ℕ}
              (n : LookedTold e i deep argument_role (projection_number projection) s w S S' T T') where
            resolved-is : (c : Scope) → Scoped e c → (m : Message) → cut (part_between base msg a b) ≡ ok m → Twinned base last a b (m ∷ []) → (d : ℕ) → deep ≡ max_depth - d
                → PickedTold (argument_in (type_at allowance c) c d m s.types) shown_rows s n.found S S' T T'
            resolved-is c o m k t d l =
                let j = argument_is v m k t in
                let same = argument-indexed c d m s.types j.2 j.0 j.1 in
                subst (λ (r : Res (Option declaration.Argument × ℕ)). PickedTold r shown_rows s n.found S S' T T') (sym same)
                (picked_projected (projection_number projection) (resolve_at (type_at allowance c) c d i s.types) s n.found S S' T T' (n.told.is c o d l))

            pub loop-resolved : (nest' : List Waiting) → take height nest' ≡ take height nest → {z : Walked} → w ≡ z
                → LoopAfter e msg last base left s₀ S₀ T₀ b end deep height S' T' nest' z
            loop-resolved nest' f h = loop-found n.found S' T' n.told.spends resolved-is nest' f n.is h
