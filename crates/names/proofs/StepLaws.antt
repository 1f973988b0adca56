-- What the steps from bytes to a name's text do, for any law of texts.
-- Assumes nothing.
use mathlib.Core.Path.{◌≡◌, refl, ap, sym, ◌∙◌}
use mathlib.Core.Bool.{Bool, true, false}
use mathlib.Core.List.{List, [], ◌∷◌, ◌++◌, append-nil}
use mathlib.Core.Option.{Option, none, some}
use Prim.Native.Nat.{ℕ, ◌-◌}
use borrow.Author.Tests.{eqb-true}
use lib.Dec.{eqb, ltb}
use lib.ListN.{take, drop, get_elem?}
use Rattle.std.specs.Prelude.{if◌then◌else◌}
use Rattle.foundation.specs.Choices.{if_some, All, IfSome}
use Rattle.foundation.specs.Results.{ok, Part}
use Rattle.foundation.specs.Texts.{Text}
use Rattle.foundation.proofs.ChoiceLaws.{if_ind, some_ind}
use Rattle.foundation.proofs.ResultLaws.{Gives, gives_bind}
use Rattle.characters.specs.Characters.{from_utf8, from_utf16}
use Rattle.characters.specs.Splits.{split_at, substring_of}
use Rattle.characters.proofs.StepLaws.{Joins, split_joins}
use Rattle.foundation.proofs.EveryLaws.{all-at, some_map, some_then, some_weaken}
use Rattle.names.specs.Records.{Record, predefined_text, base_text, replace_of, dotted, dollars_dotted, all_but_last, without_ends, operated, stepped, text_of, decides}
use Rattle.names.specs.told.Name.{operation_of, turned, dropped}
use Rattle.names.specs.declared.name.Operation.{Operation}
use Rattle.names.specs.declared.name.Operation.TheVariants.{Nothing, InternalToClassId, DescToClassId}
use Rattle.names.specs.Names.{Names, record_at, string, without_last, unwrapped, qualified_name, strings_from, d2_string}

-- A text that stands in another.
pub record StandsIn (t u : Text) : Type 0 where
  pub before : Text
  pub after : Text
  pub whole : before ++ (u ++ after) ≡ t

pub substring-part : (start stop : ℕ) (t : Text) → IfSome (StandsIn t) (substring_of start stop t)
unfolding substring_of
substring-part start stop t =
    if_ind (IfSome (StandsIn t)) (ltb stop start) (λ e. tt) λ e.
    some_then (Joins t) (StandsIn t) (split_at start t) _ (split_joins start t) λ h p.
    let n = stop - start in
    some_map (Joins h.after) (StandsIn t) (λ m. m.before) (split_at n h.after) (split_joins n h.after) λ m q.
    record { before = h.before; after = m.after; whole = ap (λ (u : Text). h.before ++ u) q ∙ p }

abbrev pub Ends : ℕ → Text → Text → Type 0
Ends c t u = u ++ (c ∷ []) ≡ t

pub without_last_lem : (c : ℕ) (t : Text) → IfSome (Ends c t) (without_last c t)
unfolding without_last
without_last_lem c [] = tt
without_last_lem c (a ∷ []) = if_ind (IfSome (Ends c (a ∷ []))) (eqb a c) (λ e. ap (λ (x : ℕ). x ∷ []) (sym (eqb-true a c e))) λ e. tt
without_last_lem c (a ∷ b ∷ t) =
    let Q = Ends c (a ∷ b ∷ t) in
    some_map (Ends c (b ∷ t)) Q (λ u. a ∷ u) (without_last c (b ∷ t)) (without_last_lem c (b ∷ t)) λ u. ap (λ (v : Text). a ∷ v)

pub unwrapped-part : (t : Text) → StandsIn t (unwrapped t)
unwrapped-part [] = record { before = []; after = []; whole = refl }
unwrapped-part (c ∷ t) = if_ind (StandsIn (c ∷ t)) (eqb c 0x4c) (λ e. go (without_last 0x3b t) (without_last_lem 0x3b t)) λ e. same
  where
    same : StandsIn (c ∷ t) (c ∷ t)
    same = record { before = []; after = []; whole = append-nil (c ∷ t) }

    go : (o : Option Text) → IfSome (Ends 0x3b t) o → StandsIn (c ∷ t) (if_some o (c ∷ t) λ u. u)
    go none q = same
    go (some u) q = record { before = c ∷ []; after = 0x3b ∷ []; whole = ap (λ (v : Text). c ∷ v) q }

-- A text of two characters or more, by its last character.
pub ends_with : (b : ℕ) (t : Text) → (z : ℕ) × (all_but_last (b ∷ t) ++ (z ∷ []) ≡ b ∷ t)
unfolding all_but_last
ends_with b [] = (b, refl)
ends_with b (c ∷ t) =
    let e = ends_with c t in
    (e.0, ap (λ (u : Text). b ∷ u) e.1)

pub ends-part : (t : Text) → StandsIn t (without_ends t)
unfolding without_ends
ends-part [] = record { before = []; after = []; whole = refl }
ends-part (a ∷ []) = record { before = []; after = []; whole = refl }
ends-part (a ∷ b ∷ t) =
    let e = ends_with b t in
    record { before = a ∷ []; after = e.0 ∷ []; whole = ap (λ (u : Text). a ∷ u) e.1 }

pub dropped-part : (op : Operation) (t : Text) → StandsIn t (dropped op t)
dropped-part Nothing t = record { before = []; after = []; whole = append-nil t }
dropped-part InternalToClassId t = record { before = []; after = []; whole = append-nil t }
dropped-part DescToClassId t = ends-part t

abbrev operation_by : Bool → Bool → Operation
operation_by a b = if a then InternalToClassId else if b then DescToClassId else Nothing

-- An operation drops and then turns.
pub operated-is : (op : ℕ) (t : Text) → operated op t ≡ turned (operation_of op) (dropped (operation_of op) t)
unfolding operated turned
operated-is op t = go (eqb op 1) (eqb op 2)
  where
    go : (a b : Bool) → (if a then dotted t else if b then dollars_dotted (without_ends t) else t) ≡ turned (operation_by a b) (dropped (operation_by a b) t)
    go true b = refl
    go false true = refl
    go false false = refl

-- A record's text, by its base and the three steps.
pub base_ind : (P : Text → Type 0) (r : Record) → ((i : ℕ) → r.string ≡ none → IfSome P (predefined_text i))
    → ((p : Part) → r.string ≡ some p → P (from_utf8 p.bytes)) → IfSome P (base_text r)
unfolding base_text
base_ind P r predefined stored =
    some_ind (IfSome P) r.string (λ e. some_ind (IfSome P) r.predefined (λ f. tt) λ i f. predefined i e) stored

module _ (P : Text → Type 0) where
  stepped-keeps : (f : ℕ → ℕ → Text → Option Text) → ((a b : ℕ) (t : Text) → P t → IfSome P (f a b t))
      → (o : Option (ℕ × ℕ)) (t : Text) → P t → IfSome P (stepped f o t)
  stepped-keeps f h none t p = p
  stepped-keeps f h (some n) t p = h n.0 n.1 t p

  pub substring-keeps : ((t u : Text) → StandsIn t u → P t → P u) → (a b : ℕ) (t : Text) → P t → IfSome P (substring_of a b t)
  substring-keeps part a b t p = some_weaken (StandsIn t) P (substring_of a b t) (substring-part a b t) λ u q. part t u q p

  -- what substring and replacement keep, and the operation turns into Q
  pub text-keeps : (Q : Text → Type 0) (r : Record) → IfSome P (base_text r) → ((t u : Text) → StandsIn t u → P t → P u)
      → ((a b : ℕ) (t : Text) → P t → IfSome P (replace_of a b t)) → ((op : ℕ) (t : Text) → P t → Q (operated op t)) → IfSome Q (text_of r)
  unfolding text_of
  text-keeps Q r base part replace operate =
      some_then P Q (base_text r) _ base λ t p.
      some_then P Q (stepped substring_of r.substring t) _ (stepped-keeps substring_of (substring-keeps part) r.substring t p) λ u q.
      let replaced = stepped-keeps replace_of replace r.replaced u q in
      some_map P Q (operated r.operation) (stepped replace_of r.replaced u) replaced (operate r.operation)

-- Names, by the strings of d2 and the records' texts.
record_found : (P : Record → Type 0) (i : ℕ) (rs : List Record) → All P rs → IfSome P (record_at i rs)
unfolding record_at
record_found P i [] h = tt
record_found P i (r ∷ rs) h = if_ind (IfSome P) (ltb i r.range) (λ t. h.0) λ t. record_found P (i - r.range) rs h.1

module _ (P : Text → Type 0) (n : Names) (strings : (i : ℕ) → Gives (IfSome P) (n.d2 i)) where
  abbrev Told : Record → Type 0
  Told r = IfSome P (text_of r)

  pub string-keeps : All Told n.records → (i : ℕ) → Gives (IfSome P) (string n i)
  unfolding string
  string-keeps texts i = go (record_at i n.records) (record_found Told i n.records texts)
    where
      go : (o : Option Record) → IfSome Told o → Gives (IfSome P) (if_some o (n.d2 i) λ r. if decides r then ok (text_of r) else n.d2 i)
      go none h = strings i
      go (some r) h = if_ind (Gives (IfSome P)) (decides r) (λ e. h) λ e. strings i

  pub qualified-keeps : (Q : Text → Type 0) → All Told n.records → ((t : Text) → P t → Q (dotted (unwrapped t)))
      → (i : ℕ) → Gives (IfSome Q) (qualified_name n i)
  unfolding qualified_name
  qualified-keeps Q texts h i =
      gives_bind (IfSome P) (IfSome Q) (string n i) _ (string-keeps texts i) λ o p. some_map P Q (λ u. dotted (unwrapped u)) o p h

-- The strings of d2, by any law of units in a row that their parts keep.
abbrev pub PartsKeep : (List ℕ → Type 0) → (ℕ → List ℕ → List ℕ) → Type 0
PartsKeep U f = (n : ℕ) (us : List ℕ) → U us → U (f n us)

module _ (U : List ℕ → Type 0) (taken : PartsKeep U take) (left : PartsKeep U drop) where
  strings-keep : (at : ℕ) (ends units : List ℕ) → U units → All U (strings_from at ends units)
  unfolding strings_from
  strings-keep at [] units h = tt
  strings-keep at (e ∷ ends) units h = (taken (e - at) units h, strings-keep e ends (drop (e - at) units) (left (e - at) units h))

  pub d2-keeps : (P : Text → Type 0) → ((us : List ℕ) → U us → P (from_utf16 us)) → (at : ℕ) (ends units : List ℕ) → U units
      → (i : ℕ) → Gives (IfSome P) (d2_string (strings_from at ends units) i)
  unfolding d2_string
  d2-keeps P decode at ends units h i =
      let strings = strings_from at ends units in
      some_map U P from_utf16 (get_elem? strings i) (all-at U strings i (strings-keep at ends units h)) decode
