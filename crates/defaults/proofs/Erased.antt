-- There are erased parts exactly when every needed type has a descriptor.
-- Assumes nothing.
use mathlib.Core.Path.{◌≡◌, refl, ap, sym, subst}
use mathlib.Core.Logic.Iff
use mathlib.Core.Logic.{◌≢◌, ◌↔◌}
use mathlib.Core.Bool.{Bool, true, false}
use mathlib.Core.List.{List, [], ◌∷◌, ◌++◌, map}
use mathlib.Core.Option.{Option, none, some, IsSome}
use lib.Dec.{T}
use Prim.Native.Nat.{ℕ}
use Rattle.std.specs.Prelude.{if◌then◌else◌}
use Rattle.foundation.specs.Choices.{if_some, map_option, both_of, every_of, All}
use Rattle.foundation.specs.Texts.{Text, same}
use Rattle.foundation.proofs.ChoiceLaws.{if_ind, all_append, same_true}
use Rattle.foundation.proofs.EveryLaws.{all_split}
use Rattle.defaults.proofs.ChoiceLaws.{some_map, some_both, some-every, same_false}
use Rattle.declaration_rows.specs.Declarations.{invariant, Types, no_types, and_type, Ty, single, Constructor, Function}
use Rattle.erasure.specs.Erasure.{
  Meaning,
  primitive,
  primitive_array,
  array,
  unit,
  nothing,
  mapped,
  Entry,
  listed,
  look_up,
  meaning_of,
  Erased,
  array_of,
  erased_as,
  first_erased,
  erased,
  void,
  of_type,
  returned_as,
  erased_return,
}
use Rattle.descriptors.specs.Defaults.{Parts, parts, erased_option, parameter_types, types_before, suspends, suspended_parts, function_parts, constructor_parts}
use Rattle.defaults.specs.Needs.{with_slashes, kotlin-Array, kotlin-Nothing, HasDescriptor, ends, through, HasDescriptorTy, Has, needed, needed_by_constructor}

-- What a name means is plain, neither an array of its argument nor nothing, unless the table's entries that are not plain name it.
abbrev is_plain : Meaning → Bool
is_plain (primitive p) = true
is_plain (primitive_array p) = true
is_plain array = false
is_plain unit = true
is_plain nothing = false
is_plain (mapped n) = true

abbrev not_plain : List Entry → List Entry
not_plain [] = []
not_plain (e ∷ es) = if is_plain e.meaning then not_plain es else e ∷ not_plain es

abbrev Unnamed : Text → List Entry → Type 0
Unnamed n = All λ e. n ≢ e.name

look_up-plain : (n : Text) (es : List Entry) → Unnamed n (not_plain es) → T (is_plain (look_up n es))
unfolding look_up
look_up-plain n [] h = tt
look_up-plain n (e ∷ es) h =
    if_ind (λ (m : Meaning). T (is_plain m)) (same n e.name) (λ s. here (same_true n e.name s)) (λ s. look_up-plain n es later)
  where
    here : n ≡ e.name → T (is_plain e.meaning)
    here q =
        if_ind (λ (l : List Entry). Unnamed n l → T (is_plain e.meaning)) (is_plain e.meaning)
        (λ t k. subst T (sym t) tt) (λ t k. absurd (k.0 q)) h

    later : Unnamed n (not_plain es)
    later = if_ind (λ (l : List Entry). Unnamed n l → Unnamed n (not_plain es)) (is_plain e.meaning) (λ t k. k) (λ t k. k.1) h

-- The table's are kotlin/Array and kotlin/Nothing, by computing.
meaning-plain : (n : Text) → with_slashes n ≢ kotlin-Nothing → with_slashes n ≢ kotlin-Array → T (is_plain (meaning_of n))
meaning-plain n h k = look_up-plain (with_slashes n) listed (k, (h, tt))

meaning-array : (n : Text) → with_slashes n ≡ kotlin-Array → meaning_of n ≡ array
unfolding look_up
meaning-array n e = ap (λ (t : Text). look_up t listed) e

meaning-nothing : (n : Text) → with_slashes n ≡ kotlin-Nothing → meaning_of n ≡ nothing
unfolding look_up
meaning-nothing n e = ap (λ (t : Text). look_up t listed) e

plain-erased : (boxed : Bool) (inner : Option Erased) (m : Meaning) → T (is_plain m) → IsSome (erased_as boxed inner m)
plain-erased boxed inner (primitive p) h = tt
plain-erased boxed inner (primitive_array p) h = tt
plain-erased boxed inner array h = absurd h
plain-erased boxed inner unit h = tt
plain-erased boxed inner nothing h = absurd h
plain-erased boxed inner (mapped n) h = tt

-- The first of some types is erased exactly when it has a descriptor.
first-erased : (element : Bool) (ts : Types) → HasDescriptor ts → IsSome (first_erased element ts)
unfolding first_erased
first-erased element ts (ends {name} {arguments} h k) =
    plain-erased _ (first_erased true arguments) (meaning_of name) (meaning-plain name h k)
first-erased element ts (through {name} {arguments} e h) =
    rw (meaning-array name e) ((some_map array_of (first_erased true arguments)).1 (first-erased true arguments h))

has_by : (projection : ℕ) (nullable boxed : Bool) (name : Text) (arguments after : Types) (inner : Option Erased)
    → (IsSome inner → HasDescriptor arguments)
    → (is_array is_nothing : Bool)
    → same (with_slashes name) kotlin-Array ≡ is_array
    → same (with_slashes name) kotlin-Nothing ≡ is_nothing
    → IsSome (erased_as boxed inner (meaning_of name))
    → HasDescriptor (and_type projection nullable (some name) arguments after)
has_by projection nullable boxed name arguments after inner f true b p q h =
    let e = same_true (with_slashes name) kotlin-Array p in
    through e (f ((some_map array_of inner).0 (rw (meaning-array name e) at h)))
has_by projection nullable boxed name arguments after inner f false true p q h =
    let e = meaning-nothing name (same_true (with_slashes name) kotlin-Nothing q) in
    absurd (subst (λ (m : Meaning). IsSome (erased_as boxed inner m)) e h)
has_by projection nullable boxed name arguments after inner f false false p q h =
    ends (same_false (with_slashes name) kotlin-Nothing q) (same_false (with_slashes name) kotlin-Array p)

first_has : (element : Bool) (ts : Types) → IsSome (first_erased element ts) → HasDescriptor ts
unfolding first_erased
first_has element no_types h = absurd h
first_has element (and_type projection nullable none arguments after) h = absurd h
first_has element (and_type projection nullable (some name) arguments after) h =
    has_by projection nullable _ name arguments after (first_erased true arguments) (first_has true arguments) _ _ refl refl h

-- As a parameter,
erased_iff : (t : Ty) → IsSome (erased t) ↔ HasDescriptorTy t
unfolding erased
erased_iff t = (first_has false (single t), first-erased false (single t))

-- and as a return: the only one that is special there, Unit, has an erasure in any case.
returned_as_lem : (boxed : Bool) (inner : Option Erased) (m : Meaning)
    → IsSome (returned_as m (erased_as boxed inner m)) ↔ IsSome (erased_as boxed inner m)
returned_as_lem boxed inner (primitive p) = some_map of_type (erased_as boxed inner (primitive p))
returned_as_lem boxed inner (primitive_array p) = some_map of_type (erased_as boxed inner (primitive_array p))
returned_as_lem boxed inner array = some_map of_type (erased_as boxed inner array)
returned_as_lem boxed inner unit = (λ h. h, λ h. h)
returned_as_lem boxed inner nothing = some_map of_type (erased_as boxed inner nothing)
returned_as_lem boxed inner (mapped n) = some_map of_type (erased_as boxed inner (mapped n))

returned_iff : (t : Ty) → IsSome (erased_return t) ↔ HasDescriptorTy t
unfolding erased_return erased first_erased
returned_iff t = Iff.trans (go t.name) (erased_iff t)
  where
    -- t with that name
    named : Option Text → Option Erased
    named name = first_erased false (and_type invariant t.nullable name t.arguments no_types)

    go : (name : Option Text) → IsSome (if_some name none λ n. returned_as (meaning_of n) (named name)) ↔ IsSome (named name)
    go none = (λ h. h, λ h. h)
    go (some n) = returned_as_lem _ (first_erased true t.arguments) (meaning_of n)

option_iff : (t : Option Ty) → IsSome (erased_option t) ↔ Has t
option_iff none = (λ h. h, λ h. h)
option_iff (some t) = erased_iff t

option_returned_iff : (t : Option Ty) → IsSome (if_some t none erased_return) ↔ Has t
option_returned_iff none = (λ h. h, λ h. h)
option_returned_iff (some t) = returned_iff t

every_iff : (ts : List (Option Ty)) → IsSome (every_of (map erased_option ts)) ↔ All Has ts
every_iff = some-every Has erased_option option_iff

-- The parts of a function, by the types before the return, whether it suspends, and the return.
abbrev parts_by : List (Option Ty) → Bool → Option Ty → Option Parts
parts_by ts suspended returned =
    let before = every_of (map erased_option ts) in
    if suspended then map_option suspended_parts before else both_of parts before (if_some returned none erased_return)

parts_iff : (ts : List (Option Ty)) (suspended : Bool) (returned : Option Ty)
    → IsSome (parts_by ts suspended returned) ↔ All Has (ts ++ (if suspended then [] else returned ∷ []))
parts_iff ts true returned =
    let before = Iff.trans (some_map suspended_parts (every_of (map erased_option ts))) (every_iff ts) in
    (λ h. all_append Has ts [] (before.0 h) tt, λ h. before.1 (all_split Has ts [] h).0)
parts_iff ts false returned =
    let both = some_both parts (every_of (map erased_option ts)) (if_some returned none erased_return) in
    let before = every_iff ts in
    let last = option_returned_iff returned in (
      λ h. all_append Has ts (returned ∷ []) (before.0 (both.0 h).0) (last.0 (both.0 h).1, tt),
      λ h. let k = all_split Has ts (returned ∷ []) h in both.1 (before.1 k.0, last.1 k.1.0),
    )

receiver-first : {A : Type 0} (has : Bool) (receiver : A) (rest : List A)
    → (if has then receiver ∷ rest else rest) ≡ (if has then receiver ∷ [] else []) ++ rest
receiver-first true receiver rest = refl
receiver-first false receiver rest = refl

pub function_iff : (f : Function) → IsSome (function_parts f) ↔ All Has (needed f)
unfolding function_parts needed
function_iff f =
    rw (← receiver-first f.has_receiver f.receiver (parameter_types f.parameters))
    (parts_iff (types_before f) (suspends f) f.returned)

pub constructor_iff : (c : Constructor) → IsSome (constructor_parts c) ↔ All Has (needed_by_constructor c)
unfolding constructor_parts needed_by_constructor
constructor_iff c =
    let types = parameter_types c.parameters in
    Iff.trans (some_map (λ es. parts es void) (every_of (map erased_option types))) (every_iff types)
