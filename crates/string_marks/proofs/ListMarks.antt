-- The walk over the messages of a list: from here on it marks what is right from the start.
-- Assumes nothing.
use mathlib.Core.Path.{◌≡◌, refl, ap, sym, subst, ◌∙◌}
use mathlib.Core.List.{List, [], ◌∷◌, ◌++◌, append_assoc}
use mathlib.Core.Option.{Option}
use Prim.Native.Nat.{ℕ, ◌+◌, ◌-◌}
use lib.ListN.{take, drop}
use Rattle.std.specs.declared.option.Option as rust
use Rattle.std.specs.declared.option.Option.TheVariants.{Some, None}
use Rattle.foundation.specs.Results.{ok, ◌from◌}
use Rattle.foundation.specs.declared.Span.{Span}
use Rattle.wire.specs.Wire.{Message, cut}
use Rattle.wire.specs.Messages.{cut_all, messages}
use Rattle.wire.specs.told.WireTold.{rest_of, part_between}
use Rattle.wire.proofs.WalkLaws.{whole, ok_same}
use Rattle.messages.specs.told.Asked.{bodies, span, NextIs, NextBodyTold}
use Rattle.names.specs.Records.{Record}
use Rattle.names.specs.Names.{d2_string}
use Rattle.schema.specs.Reading.{Read, kept, each, TypeTable, Scope}
use Rattle.schema.specs.Members.{list_in, parameter_in, parameters_in}
use Rattle.schema.specs.told.SchemaTold.{Lent, Scoped}
use Rattle.schema.proofs.EachLaws.{always}
use Rattle.schema.proofs.ListLaws.{First, cut-first}
use Rattle.strings.proofs.Agree.{Lookup}
use Rattle.string_marks.specs.told.MarksTold.{Marks, scope_by, strings_in, MarksIn}
use Rattle.string_marks.proofs.MarkLaws.{marks-kept, marks-none-kept, marks-each, marks-always, marks-cut, marks-list_in}

-- A message is one of some.
pub record Among (m : Message) (all : List Message) : Type 0 where
  pub before : List Message
  pub after : List Message
  pub are : all ≡ before ++ (m ∷ after)

-- What is left of a list's messages at a place: where they are marked, all are.
pub record MarksLeft {A : Type 0} (ss : List (List ℕ)) (f : Lookup → Message → Read (Option A)) (number base : ℕ) (msg : List ℕ) (all : List Message) (used₀ : List ℕ)
    (at : ℕ) (used : List ℕ) : Type 0 where
  pub rest : Message
  pub passed : List Message
  pub left : List Message
  pub are : all ≡ passed ++ left
  pub cuts : cut (rest_of base msg at) ≡ ok rest
  pub many : cut_all (bodies number rest) ≡ ok left
  pub goes : (used' : List ℕ) → Marks ss (λ s. kept (f s) left) used used' → Marks ss (λ s. kept (f s) all) used₀ used'

module _ {A : Type 0} (ss : List (List ℕ)) (f : Lookup → Message → Read (Option A)) (number base : ℕ) (msg : List ℕ) (all : List Message) (used₀ : List ℕ) where
  going_start : (m : Message) → cut (◌from◌ base msg) ≡ ok m → messages number m ≡ ok all → MarksLeft ss f number base msg all used₀ 0 used₀
  unfolding messages
  going_start m k h = record {
    rest = m;
    passed = [];
    left = all;
    are = refl;
    cuts = ap cut (whole base msg) ∙ k;
    many = h;
    goes = λ used' w. w;
  }

  module _ (at : ℕ) (used : List ℕ) (g : MarksLeft ss f number base msg all used₀ at used) {x : rust.Option Span} (t : NextBodyTold base msg number at x) where
    next_is : {y : rust.Option Span} → x ≡ y → NextIs base msg number g.rest y
    next_is e = subst (NextIs base msg number g.rest) e (t.is g.rest g.cuts)

    going_end : x ≡ None → Marks ss (λ s. kept (f s) all) used₀ used
    unfolding cut_all
    going_end e =
        let none_left : g.left ≡ [] = ok_same (sym g.many ∙ ap cut_all (next_is e)) in
        g.goes used (subst (λ (l : List Message). Marks ss (λ s. kept (f s) l) used used) (sym none_left) (marks-none-kept f used))

    module _ {a b : ℕ} (e : x ≡ Some (span a b)) where
      the_first : First (part_between base msg a b) (bodies number (next_is e).0) g.left
      the_first = cut-first (part_between base msg a b) (bodies number (next_is e).0) g.left (ap cut_all (sym (next_is e).2) ∙ g.many)

      the_are : all ≡ g.passed ++ (the_first.first ∷ the_first.others)
      the_are = g.are ∙ ap (λ (l : List Message). g.passed ++ l) the_first.are

      the_among : Among the_first.first all
      the_among = record { before = g.passed; after = the_first.others; are = the_are }

      going_next : {used₁ : List ℕ} → ((m : Message) → cut (part_between base msg a b) ≡ ok m → Among m all → Marks ss (λ s. f s m) used used₁)
          → MarksLeft ss f number base msg all used₀ b used₁
      unfolding the_first
      going_next {used₁} h = record {
        rest = (next_is e).0;
        passed = g.passed ++ (the_first.first ∷ []);
        left = the_first.others;
        are = the_are ∙ sym (append_assoc g.passed (the_first.first ∷ []) the_first.others);
        cuts = (next_is e).1;
        many = the_first.many;
        goes = λ used' k.
            g.goes used' (
            subst (λ (l : List Message). Marks ss (λ s. kept (f s) l) used used') (sym the_first.are)
            (marks-kept f the_first.first the_first.others (h the_first.first the_first.cuts the_among) k));
      }

-- The same with every name table and type table that are noted.
pub record MarksLoop {A : Type 0} (e : Lent) (base : ℕ) (msg : List ℕ) (number : ℕ) (read : Scope → Message → Read (Option A)) (used₀ : List ℕ) (at : ℕ)
    (used : List ℕ) : Type 0 where
  pub is : (records : List Record) (table : TypeTable) → Scoped e (scope_by records table (d2_string (strings_in e))) → (m : Message)
      → cut (◌from◌ base msg) ≡ ok m → (all : List Message) → messages number m ≡ ok all
      → MarksLeft (strings_in e) (λ s. read (scope_by records table s)) number base msg all used₀ at used

module _ {A : Type 0} {e : Lent} {base : ℕ} {msg : List ℕ} {number : ℕ} {read : Scope → Message → Read (Option A)} where
  pub looping_start : {u : List ℕ} → MarksLoop e base msg number read u 0 u
  looping_start {u} = record {
    is = λ records table o m c all h. going_start (strings_in e) (λ s. read (scope_by records table s)) number base msg all u m c h;
  }

  module _ {u : List ℕ} {at : ℕ} {v : List ℕ} (g : MarksLoop e base msg number read u at v) {x : rust.Option Span} (t : NextBodyTold base msg number at x) where
    -- One message, of which something may be known that is known of all.
    pub looping_among : {a b : ℕ} → x ≡ Some (span a b) → {w : List ℕ}
        → ((records : List Record) (table : TypeTable) → Scoped e (scope_by records table (d2_string (strings_in e))) → (m : Message)
        → cut (◌from◌ base msg) ≡ ok m → (all : List Message) → messages number m ≡ ok all → (n : Message) → cut (part_between base msg a b) ≡ ok n → Among n all
        → Marks (strings_in e) (λ s. read (scope_by records table s) n) v w)
        → MarksLoop e base msg number read u b w
    looping_among p h = record {
      is = λ records table o m c all q.
          let going = g.is records table o m c all q in
          going_next (strings_in e) (λ s. read (scope_by records table s)) number base msg all u at v going t p (h records table o m c all q);
    }

    pub looping_next : {a b : ℕ} → x ≡ Some (span a b) → {w : List ℕ} → MarksIn e (base + a) (take (b - a) (drop a msg)) read v w
        → MarksLoop e base msg number read u b w
    looping_next p h = looping_among p λ records table o m c all q n k among. h.is records table o n k

    pub looping_end : x ≡ None → (records : List Record) (table : TypeTable) → Scoped e (scope_by records table (d2_string (strings_in e))) → (m : Message)
        → cut (◌from◌ base msg) ≡ ok m → (all : List Message) → messages number m ≡ ok all
        → Marks (strings_in e) (λ s. kept (read (scope_by records table s)) all) u v
    looping_end p records table o m c all q =
        going_end (strings_in e) (λ s. read (scope_by records table s)) number base msg all u at v (g.is records table o m c all q) t p

    pub looping-kept : x ≡ None → MarksIn e base msg (λ c. list_in (read c) number) u v
    looping-kept p = record {
      is = λ records table o m c. marks-list_in (λ s. read (scope_by records table s)) number m (looping_end p records table o m c);
    }

-- what is always there, as something that may not be
pub always-in : {A : Type 0} {e : Lent} {base : ℕ} {msg : List ℕ} {read : Scope → Message → Read A} {u v : List ℕ} → MarksIn e base msg read u v
    → MarksIn e base msg (λ c m. always (read c m)) u v
always-in {read} g = record { is = λ records table o m c. marks-always (λ s. read (scope_by records table s) m) (g.is records table o m c) }

-- parameters, all of which are there
pub looping-each : {e : Lent} {base : ℕ} {msg : List ℕ} {number : ℕ} {u : List ℕ} {at : ℕ} {v : List ℕ}
    → MarksLoop e base msg number (λ c m. always (parameter_in c m)) u at v → {x : rust.Option Span} → NextBodyTold base msg number at x → x ≡ None
    → MarksIn e base msg (λ c. parameters_in c number) u v
unfolding parameters_in
looping-each {e} {number} g t p = record {
  is = λ records table o m c.
      marks-cut (messages number m) (λ s. each (parameter_in (scope_by records table s))) λ all q.
      marks-each (λ s. parameter_in (scope_by records table s)) all (looping_end g t p records table o m c all q);
}
