-- Every parameter message is a parameter and a part, of whatever an input is read as.
-- Assumes nothing.
use mathlib.Core.Path.{◌≡◌, refl, ap, sym, ◌∙◌}
use mathlib.Core.Bool.{Bool, true, false}
use mathlib.Core.List.{List, [], ◌∷◌, ◌++◌, map, append-nil, append_assoc}
use mathlib.Core.Option.{Option, none, some, some-injective}
use Prim.Native.Nat.{ℕ}
use native.Mathlib.Omega.{arith}
use Rattle.std.specs.Prelude.{if◌then◌else◌}
use Rattle.foundation.specs.Choices.{if_some, map_option, both_of, every_of, All}
use Rattle.foundation.specs.Results as Results
use Rattle.foundation.specs.Results.{Res, ok, refused, Cause, ◌from◌}
use Rattle.foundation.proofs.ResultLaws.{Gives, gives_bind, gives_weaken, gives-ok}
use Rattle.foundation.proofs.ChoiceLaws.{if_ind, all_weaken}
use Rattle.fields.specs.Fields.{Class-constructor, Constructor-value_parameter, Function-value_parameter}
use Rattle.encoding.specs.Encoding.{decoded}
use Rattle.wire.specs.Wire.{Message, cut, read_delimited}
use Rattle.wire.specs.Messages.{messages}
use Rattle.names.specs.Names.{Names, records_of, strings_from, d2_string}
use Rattle.declaration_rows.specs.Declarations.{Parameter, Constructor, Function, Declarations}
use Rattle.schema.specs.Reading.{Read, keep, kept, Scope, scope, allowance}
use Rattle.schema.specs.Types.{type_table_in}
use Rattle.schema.specs.Members.{parameter_in, list_in, constructor_in, function_in, property_in, alias_in, Head, head_in, constructors_in, function_field, property_field, alias_field, type_table_field, lists_in, after_table, body_in}
use Rattle.schema.proofs.Fine.{Reads, reads-pure, reads-lift, reads-bind, reads_weaken}
use Rattle.schema.proofs.EachLaws.{same_number, one_for_one}
use Rattle.inputs.specs.Inputs.{Input, kind_of, carries_declarations, fault_of}
use Rattle.erasure.specs.Erasure.{Erased, void, erased_return, Returned}
use Rattle.descriptors.specs.Defaults.{Parts, parts, erased_option, parameter_types, types_before, suspends, continuation_class, suspended_parts, function_parts, constructor_parts}
use Rattle.descriptors.proofs.GivenLaws.{constructor_given, function_given}
use Rattle.declarations.specs.Payload.{payload}
use Rattle.passes.specs.Answered.{nothing_read}
use Rattle.metadata.specs.Read.{reading}
use Rattle.defaults.specs.Messages.{of_class, opened, Listed, PartsBefore, FunctionByMessages, ConstructorByMessages}

-- A reading gives what it gave.
reads-given : {A : Type 0} (m : Read A) → Reads (λ a. (l : ℕ) × (b : ℕ) × (m l ≡ ok (a, b))) m
reads-given {A} m = record { at = λ l. go l (m l) refl }
  where
    go : (l : ℕ) (r : Res (A × ℕ)) → m l ≡ r → Gives (λ q. (l : ℕ) × (b : ℕ) × (m l ≡ ok (q.0, b))) r
    go l (ok q) e = (l, q.1, e)
    go l (refused c p) e = tt

gives_self : {A : Type 0} (r : Res A) → Gives (λ a. r ≡ ok a) r
gives_self (ok a) = refl
gives_self (refused c p) = tt

-- What is kept of a list was read of one of its messages.
record Among {A : Type 0} (f : Message → Read (Option A)) (ms : List Message) (a : A) : Type 0 where
  pub ones : List Message
  pub message : Message
  pub others : List Message
  pub are : ms ≡ ones ++ (message ∷ others)
  pub before : ℕ
  pub after : ℕ
  pub reads : f message before ≡ ok (some a, after)

module _ {A : Type 0} (f : Message → Read (Option A)) where
  later : (m : Message) (ms : List Message) (a : A) → Among f ms a → Among f (m ∷ ms) a
  later m ms a h = record {
    ones = m ∷ h.ones;
    message = h.message;
    others = h.others;
    are = ap (λ (l : List Message). m ∷ l) h.are;
    before = h.before;
    after = h.after;
    reads = h.reads;
  }

  keep-among : (m : Message) (ms : List Message) (o : Option A) (l b : ℕ) → f m l ≡ ok (o, b) → (xs : List A) → All (Among f ms) xs
      → All (Among f (m ∷ ms)) (keep o xs)
  keep-among m ms none l b e xs h = all_weaken (Among f ms) (Among f (m ∷ ms)) (later m ms) xs h
  keep-among m ms (some a) l b e xs h =
      (record { ones = []; message = m; others = ms; are = refl; before = l; after = b; reads = e }, all_weaken (Among f ms) (Among f (m ∷ ms)) (later m ms) xs h)

  kept-among : (ms : List Message) → Reads (All (Among f ms)) (kept f ms)
  unfolding kept
  kept-among [] = reads-pure tt
  kept-among (m ∷ ms) =
      reads-bind (reads-given (f m)) λ o g.
      reads-bind (kept-among ms) λ xs h. reads-pure (keep-among m ms o g.0 g.1 g.2 xs h)

-- A member of a list of the body.
record Member {A : Type 0} (f : Message → Read (Option A)) (n : ℕ) (body : Message) (a : A) : Type 0 where
  pub all : List Message
  pub cuts : messages n body ≡ ok all
  pub among : Among f all a

list_members : {A : Type 0} (f : Message → Read (Option A)) (n : ℕ) (m : Message) → Reads (All (Member f n m)) (list_in f n m)
unfolding list_in
list_members f n m =
    reads-bind (reads-lift (messages n m) (gives_self (messages n m))) λ ms e.
    reads_weaken (kept-among f ms) λ xs h. all_weaken (Among f ms) (Member f n m) (λ x k. record { all = ms; cuts = e; among = k }) xs h

-- the members of a whole body
abbrev Constructed : Scope → Message → Constructor → Type 0
Constructed s m = Member (constructor_in s) Class-constructor m

abbrev Functional : Bool → Scope → Message → Function → Type 0
Functional class s m = Member (function_in s) (function_field class) m

constructors-read : (class : Bool) (s : Scope) (m : Message) → Reads (All (Constructed s m)) (constructors_in class s m)
constructors-read true s m = list_members (constructor_in s) Class-constructor m
constructors-read false s m = reads-pure tt

any_read : {A : Type 0} (m : Read A) → Reads (λ a. Unit {0}) m
any_read m = reads_weaken (reads-given m) λ a g. tt

abbrev FromBody : Bool → Scope → Message → Declarations → Type 0
FromBody class s m d = All (Functional class s m) d.functions × All (Constructed s m) d.constructors

lists_read : (class : Bool) (h : Head) (s : Scope) (m : Message) → Reads (FromBody class s m) (lists_in class h s m)
unfolding lists_in
lists_read class h s m =
    reads-bind (constructors-read class s m) λ constructors p.
    reads-bind (list_members (function_in s) (function_field class) m) λ functions q.
    reads-bind (any_read (list_in (property_in s) (property_field class) m)) λ properties r.
    reads-bind (any_read (list_in (alias_in s) (alias_field class) m)) λ aliases t. reads-pure (q, p)

-- with its type table
abbrev FromNames : Bool → Names → Message → Declarations → Type 0
FromNames class names m d =
    (s : Scope) × (s.names ≡ names) × (l : ℕ) × (b : ℕ) × (type_table_in (type_table_field class) m l ≡ ok (s.table, b)) × FromBody class s m d

body-read : (class : Bool) (names : Names) (m : Message) → Reads (FromNames class names m) (body_in class names m)
unfolding body_in after_table
body-read class names m =
    reads-bind (reads-given (type_table_in (type_table_field class) m)) λ table g.
    reads-bind (any_read (head_in class (scope names table) m)) λ h t.
    reads_weaken (lists_read class h (scope names table) m) λ d k. (scope names table, refl, g.0, g.1, g.2, k)

-- and of an input
abbrev Opened : Input → Declarations → Type 0
Opened i d = (names : Names) × (body : Message) × (opened i ≡ ok (names, body)) × FromNames (of_class i) names body d

open_read : (i : Input)
    → Gives (λ r. Opened i r.0) (Results.◌>>=◌ (decoded i.d1) (payload (kind_of i.k) (d2_string (strings_from 0 i.ends i.d2))))
unfolding payload opened
open_read i =
    gives_bind _ _ (decoded i.d1) _ (gives_self (decoded i.d1)) λ bytes e.
    gives_bind _ _ (read_delimited (◌from◌ 0 bytes)) _ (gives_self (read_delimited (◌from◌ 0 bytes))) λ cuts f.
    gives_bind _ _ (cut cuts.0) _ (gives_self (cut cuts.0)) λ fields g.
    gives_bind _ _ (records_of fields) _ (gives_self (records_of fields)) λ records h.
    gives_bind _ _ (cut cuts.1) _ (gives_self (cut cuts.1)) λ body k.
    let names : Names = record { records = records; d2 = d2_string (strings_from 0 i.ends i.d2) } in
    let it : opened i ≡ ok (names, body) = rw (e, f, g, h, k) in
    go names body it (body_in (of_class i) names body allowance) ((body-read (of_class i) names body).at allowance)
  where
    go : (names : Names) (body : Message) → opened i ≡ ok (names, body) → (r : Res (Declarations × ℕ))
        → Gives (λ q. FromNames (of_class i) names body q.0) r → Gives (λ q. Opened i q.0) r
    go names body e (ok q) h = (names, body, e, h)
    go names body e (refused c p) h = tt

-- The parts before the last.
none_some : {A : Type 0} {a : A} → ◌≡◌ {A = Option A} none (some a) → ⊥
none_some e = let z : ◌≡◌ {A = ℕ} 0 1 = cc in omega arith

every_some : {A : Type 0} (xs : List (Option A)) (es : List A) → every_of xs ≡ some es → map some es ≡ xs
every_some {A} [] es e = ap (λ (l : List A). map some l) (sym (some-injective [] es e))
every_some {A} (none ∷ xs) es e = absurd (none_some e)
every_some {A} (some x ∷ xs) es e = go (every_of xs) (λ ys. every_some xs ys) e
  where
    go : (o : Option (List A)) → ((ys : List A) → o ≡ some ys → map some ys ≡ xs) → both_of (λ y ys. y ∷ ys) (some x) o ≡ some es → map some es ≡ some x ∷ xs
    go none h f = absurd (none_some f)
    go (some ys) h f = ap (λ (l : List A). map some l) (sym (some-injective (x ∷ ys) es f)) ∙ ap (λ (l : List (Option A)). some x ∷ l) (h ys refl)

types-map : (ps : List Parameter) → map erased_option (parameter_types ps) ≡ map (λ p. erased_option p.type) ps
types-map [] = refl
types-map (p ∷ ps) = ap (λ (l : List (Option Erased)). erased_option p.type ∷ l) (types-map ps)

-- the receiver's part, and those of the parameters
split : (has : Bool) (receiver : Option Erased) (ts : List (Option Erased)) (es : List Erased) → map some es ≡ (if has then receiver ∷ ts else ts)
    → (r : List Erased) × (ps : List Erased) × (es ≡ r ++ ps) × (map some r ≡ (if has then receiver ∷ [] else [])) × (map some ps ≡ ts)
split true receiver ts [] h = let z : ◌≡◌ {A = ℕ} 0 1 = cc in absurd (omega arith)
split true receiver ts (e ∷ es) h = (e ∷ [], es, refl, ap (λ (o : Option Erased). o ∷ []) (first-is h), rest-is h)
  where
    first-is : {A : Type 0} {x y : A} {xs ys : List A} → ◌≡◌ {A = List A} (x ∷ xs) (y ∷ ys) → x ≡ y
    first-is e = cc

    rest-is : {A : Type 0} {x y : A} {xs ys : List A} → ◌≡◌ {A = List A} (x ∷ xs) (y ∷ ys) → xs ≡ ys
    rest-is e = cc
split false receiver ts es h = ([], es, refl, refl, h)

abbrev continued : Bool → List Erased
continued suspended = if suspended then continuation_class ∷ [] else []

parts-given : (suspended : Bool) (before : Option (List Erased)) (returned : Option Returned) (p : Parts)
    → (if suspended then map_option suspended_parts before else both_of parts before returned) ≡ some p
    → (es : List Erased) × (before ≡ some es) × (p.before ≡ es ++ continued suspended)
parts-given true none returned p e = absurd (none_some e)
parts-given true (some es) returned p e = (es, refl, ap (λ (q : Parts). q.before) (sym (some-injective (suspended_parts es) p e)))
parts-given false none returned p e = absurd (none_some e)
parts-given false (some es) none p e = absurd (none_some e)
parts-given false (some es) (some r) p e =
    (es, refl, ap (λ (q : Parts). q.before) (sym (some-injective (parts es r) p e)) ∙ sym (append-nil es))

before-map : (f : Function) → map erased_option (types_before f)
    ≡ (if f.has_receiver then erased_option f.receiver ∷ map (λ p. erased_option p.type) f.parameters else map (λ p. erased_option p.type) f.parameters)
before-map f = go f.has_receiver
  where
    go : (has : Bool) → map erased_option (if has then f.receiver ∷ parameter_types f.parameters else parameter_types f.parameters)
        ≡ (if has then erased_option f.receiver ∷ map (λ p. erased_option p.type) f.parameters else map (λ p. erased_option p.type) f.parameters)
    go true = ap (λ (l : List (Option Erased)). erased_option f.receiver ∷ l) (types-map f.parameters)
    go false = types-map f.parameters

function_before : (f : Function) (p : Parts) → function_parts f ≡ some p → PartsBefore f p.before
unfolding function_parts
function_before f p e =
    let g = parts-given (suspends f) (every_of (map erased_option (types_before f))) (if_some f.returned none erased_return) p e in
    let h = every_some (map erased_option (types_before f)) g.0 g.1 ∙ before-map f in
    let k = split f.has_receiver (erased_option f.receiver) (map (λ p. erased_option p.type) f.parameters) g.0 h in
    record {
      receiver = k.0;
      parameters = k.1;
      continuation = continued (suspends f);
      are = g.2 ∙ ap (λ (l : List Erased). l ++ continued (suspends f)) k.2 ∙ append_assoc k.0 k.1 (continued (suspends f));
      of_receiver = k.3;
      of_parameters = k.4;
      of_continuation = refl;
    }

constructor_before : (c : Constructor) (p : Parts) → constructor_parts c ≡ some p → map some p.before ≡ map (λ q. erased_option q.type) c.parameters
unfolding constructor_parts
constructor_before c p e = go (every_of (map erased_option (parameter_types c.parameters))) (λ es h. every_some _ es h ∙ types-map c.parameters) e
  where
    go : (o : Option (List Erased)) → ((es : List Erased) → o ≡ some es → map some es ≡ map (λ q. erased_option q.type) c.parameters)
        → map_option (λ es. parts es void) o ≡ some p → map some p.before ≡ map (λ q. erased_option q.type) c.parameters
    go none h f = absurd (none_some f)
    go (some es) h f = ap (λ (q : Parts). map some q.before) (sym (some-injective (parts es void) p f)) ∙ h es refl

-- What follows for each function and each constructor.
module _ (i : Input) (names : Names) (body : Message) (o : opened i ≡ ok (names, body)) (s : Scope) (n : s.names ≡ names) (l b : ℕ)
    (t : type_table_in (type_table_field (of_class i)) body l ≡ ok (s.table, b)) where
  listed : {A : Type 0} (f : Message → Read (Option A)) (k : ℕ) (a : A) (m : Member f k body a) → Listed i k s m.among.message
  listed f k a m = record {
    body = body;
    opens = o ∙ ap (λ (x : Names). ok (x, body)) (sym n);
    left = l;
    after = b;
    table = t;
    ones = m.among.ones;
    others = m.among.others;
    stands = m.cuts ∙ ap ok m.among.are;
  }

  function-by : (f : Function) → Functional (of_class i) s body f → FunctionByMessages i f
  function-by f m =
      let x = m.among.message in
      let g = function_given s x f m.among.before m.among.after m.among.reads in
      let each = one_for_one s Function-value_parameter x f.parameters g.parameters.before g.parameters.after g.parameters.is in
      record {
        of = record {
          scope = s;
          message = x;
          listed = listed (function_in s) (function_field (of_class i)) f m;
          before = m.among.before;
          after = m.among.after;
          reads = m.among.reads;
          first = g.parameters.before;
          last = g.parameters.after;
          of_each = each;
        };
        parts = function_before f;
        many = same_number (parameter_in s) each;
      }

  constructor-by : (c : Constructor) → Constructed s body c → ConstructorByMessages i c
  constructor-by c m =
      let x = m.among.message in
      let g = constructor_given s x c m.among.before m.among.after m.among.reads in
      let each = one_for_one s Constructor-value_parameter x c.parameters g.before g.after g.is in
      record {
        of = record {
          scope = s;
          message = x;
          listed = listed (constructor_in s) Class-constructor c m;
          before = m.among.before;
          after = m.among.after;
          reads = m.among.reads;
          first = g.before;
          last = g.after;
          of_each = each;
        };
        parts = constructor_before c;
        many = same_number (parameter_in s) each;
      }

-- Of an input that is read, every function and every constructor.
abbrev ByMessages : Input → Declarations → Type 0
ByMessages i d = All (FunctionByMessages i) d.functions × All (ConstructorByMessages i) d.constructors

from-opened : (i : Input) (d : Declarations) → Opened i d → ByMessages i d
from-opened i d (names, body, o, (s, n, l, b, t, (fs, cs))) = (
  all_weaken (Functional (of_class i) s body) (FunctionByMessages i) (function-by i names body o s n l b t) d.functions fs,
  all_weaken (Constructed s body) (ConstructorByMessages i) (constructor-by i names body o s n l b t) d.constructors cs,
)

reading_by_lem : (i : Input) → Gives (λ r. ByMessages i r.0) (reading i)
unfolding reading
reading_by_lem i = go (fault_of i)
  where
    body : Res (Declarations × ℕ)
    body = Results.◌>>=◌ (decoded i.d1) (payload (kind_of i.k) (d2_string (strings_from 0 i.ends i.d2)))

    read : Gives (λ r. ByMessages i r.0) (if carries_declarations (kind_of i.k) then body else nothing_read)
    read =
        if_ind (λ (r : Res (Declarations × ℕ)). Gives (λ q. ByMessages i q.0) r) (carries_declarations (kind_of i.k))
        (λ t. gives_weaken (λ q. Opened i q.0) (λ q. ByMessages i q.0) body (open_read i) λ q h. from-opened i q.0 h) λ t. (tt, tt)

    go : (o : Option Cause) → Gives (λ r. ByMessages i r.0) (if_some o (if carries_declarations (kind_of i.k) then body else nothing_read) λ c. refused c 0)
    go none = read
    go (some c) = tt

pub by_messages : (i : Input) (d : Declarations) (left : ℕ) → reading i ≡ ok (d, left) → ByMessages i d
by_messages i d left e = gives-ok (λ r. ByMessages i r.0) e (reading_by_lem i)
