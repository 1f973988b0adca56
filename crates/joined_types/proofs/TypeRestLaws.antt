-- What is asked for of the fields of a type or an argument from a place on, in the message as it was and as it is. Each field there goes from what is asked
-- for behind it to what is asked for before it.
-- Assumes nothing.
use mathlib.Core.Path.{◌≡◌, refl, subst}
use mathlib.Core.Bool.{Bool, true, false}
use Prim.Native.Nat.{ℕ, suc}
use lib.Dec.{eqb}
use Rattle.std.specs.Prelude.{◌||◌}
use Rattle.foundation.specs.Results.{Part}
use Rattle.fields.specs.Fields.{Type-argument, Type-nullable, Type-class_name, Type-Argument-projection, Type-Argument-type, Type-Argument-type_id}
use Rattle.wire.specs.Wire.{body, Field, field, Message, cut}
use Rattle.wire.specs.Messages.{values, value, bytes_of, message, messages}
use Rattle.schema.specs.told.Alike.{Alike, AlikeOption, extent, Dropped, Thinned, ArgumentsBy, TypesBy, SameType}
use Rattle.joined_types.proofs.JoiningLaws.{Carries, Passes, Lasting}
use Rattle.schema.proofs.AlikeLaws.{alike-itself, option-itself, thinned-itself, argument-itself}
use Rattle.joined_types.proofs.RestLaws.{
  Unless,
  Unasked,
  value_both,
  value-met,
  value-passed,
  SamePlaced,
  placed-both,
  placed-met,
  placed-passed,
  placed-body,
  messages-both,
  messages-passed,
  messages-body,
  message-both,
  message-met,
  message-passed,
  message-body,
}

unless_of : (b : Bool) {A : Type 0} → A → Unless b A
unless_of true a = tt
unless_of false a = a

unless_map : (b : Bool) {A B : Type 0} → (A → B) → Unless b A → Unless b B
unless_map true f u = tt
unless_map false f u = f u

-- Of a type: whether its class name and its flag have been met, and the arguments.
pub record TypeRest (P : Message → Message → Type 0) (n : ℕ) (named flagged : Bool) (m m' : Message) : Type 0 where
  pub name : Unless named (value Type-class_name m ≡ value Type-class_name m')
  pub nullable : Unless flagged (value Type-nullable m ≡ value Type-nullable m')
  pub arguments : Alike (Thinned (ArgumentsBy P) (Dropped n)) (messages Type-argument m) (messages Type-argument m')

-- Of an argument: whether its projection, its type and its index have been met.
pub record ArgumentRest (P : Message → Message → Type 0) (projected inlined indexed : Bool) (m m' : Message) : Type 0 where
  pub projection : Unless projected (value Type-Argument-projection m ≡ value Type-Argument-projection m')
  pub placed : Unless inlined (SamePlaced Type-Argument-type m m')
  pub inline : Unless inlined (Alike (AlikeOption P) (message Type-Argument-type m) (message Type-Argument-type m'))
  pub index : Unless indexed (value Type-Argument-type_id m ≡ value Type-Argument-type_id m')

-- where nothing has been met, that is all that is asked for of the message
module _ (P : Message → Message → Type 0) where
  type_whole : (n : ℕ) (m m' : Message) → TypeRest P n false false m m' → TypesBy P n m m'
  type_whole n m m' r = record { name = r.name; nullable = r.nullable; arguments = r.arguments }

  pub argument_whole : (m m' : Message) → ArgumentRest P false false false m m' → ArgumentsBy P m m'
  argument_whole m m' r = record { projection = r.projection; indexed = r.index; placed = r.placed; inline = r.inline }

pub types_whole : (n k : ℕ) (m m' : Message) → TypeRest (SameType n k) n false false m m' → SameType n (suc k) m m'
unfolding SameType
types_whole n k m m' r = type_whole (SameType n k) n m m' r

module _ (P : Message → Message → Type 0) (s : (m : Message) → P m m) where
  -- a type's fields
  module _ (n : ℕ) (named flagged : Bool) where
    abbrev Q : Message → Message → Type 0
    Q = ArgumentsBy P

    pub type_lasting : Lasting (TypeRest P n named flagged)
    unfolding values messages
    type_lasting = record {
      same = λ m. record {
        name = unless_of named refl;
        nullable = unless_of flagged refl;
        arguments = alike-itself (Thinned Q (Dropped n)) (thinned-itself Q (Dropped n) (argument-itself P s)) (messages Type-argument m);
      };
      either = λ f m m' r. record {
        name = unless_map named (value_both Type-class_name f m m') r.name;
        nullable = unless_map flagged (value_both Type-nullable f m m') r.nullable;
        arguments = messages-both Q (Dropped n) Type-argument m m' (argument-itself P s) f r.arguments;
      };
      joined = λ v m m' r. record { name = r.name; nullable = r.nullable; arguments = r.arguments };
    }

    -- one that is kept as it is, whatever it is
    pub type_kept : {named' flagged' : Bool} (f : Field) → named' ≡ (named || eqb f.number Type-class_name) → flagged' ≡ (flagged || eqb f.number Type-nullable)
        → Carries (TypeRest P n named' flagged') (TypeRest P n named flagged) f f
    type_kept {named'} {flagged'} f a b m m' r = record {
      name = value-met Type-class_name f m m' named (subst (λ (t : Bool). Unless t (value Type-class_name m ≡ value Type-class_name m')) a r.name);
      nullable = value-met Type-nullable f m m' flagged (subst (λ (t : Bool). Unless t (value Type-nullable m ≡ value Type-nullable m')) b r.nullable);
      arguments = messages-both Q (Dropped n) Type-argument m m' (argument-itself P s) f r.arguments;
    }

    -- an argument with a body alike
    pub type_body : (q q' : Part) → Alike Q (cut q) (cut q') → Carries (TypeRest P n named flagged) (TypeRest P n named flagged) (field Type-argument (body q)) (field Type-argument (body q'))
    unfolding values
    type_body q q' h m m' r = record {
      name = r.name;
      nullable = r.nullable;
      arguments = messages-body Q (Dropped n) Type-argument m m' q q' h r.arguments;
    }

    -- one that nothing asks for
    pub type_passed : (f : Field) → (f.number ≡ Type-class_name → named ≡ true) → (f.number ≡ Type-nullable → flagged ≡ true)
        → (f.number ≡ Type-argument → Unasked (Dropped n) f.value) → Passes (TypeRest P n named flagged) f
    type_passed f a b c m m' r = record {
      name = value-passed Type-class_name f m m' named a r.name;
      nullable = value-passed Type-nullable f m m' flagged b r.nullable;
      arguments = messages-passed Q (Dropped n) Type-argument m m' f c r.arguments;
    }

  -- an argument's
  module _ (projected inlined indexed : Bool) where
    pub argument_lasting : Lasting (ArgumentRest P projected inlined indexed)
    unfolding values message bytes_of
    argument_lasting = record {
      same = λ m. record {
        projection = unless_of projected refl;
        placed = unless_of inlined refl;
        inline = unless_of inlined (alike-itself (AlikeOption P) (option-itself P s) (message Type-Argument-type m));
        index = unless_of indexed refl;
      };
      either = λ f m m' r. record {
        projection = unless_map projected (value_both Type-Argument-projection f m m') r.projection;
        placed = unless_map inlined (placed-both Type-Argument-type m m' f) r.placed;
        inline = unless_map inlined (message-both P Type-Argument-type m m' s f) r.inline;
        index = unless_map indexed (value_both Type-Argument-type_id f m m') r.index;
      };
      joined = λ v m m' r. record { projection = r.projection; placed = r.placed; inline = r.inline; index = r.index };
    }

    pub argument_kept : {projected' inlined' indexed' : Bool} (f : Field) → projected' ≡ (projected || eqb f.number Type-Argument-projection)
        → inlined' ≡ (inlined || eqb f.number Type-Argument-type) → indexed' ≡ (indexed || eqb f.number Type-Argument-type_id)
        → Carries (ArgumentRest P projected' inlined' indexed') (ArgumentRest P projected inlined indexed) f f
    argument_kept f a b c m m' r = record {
      projection = value-met Type-Argument-projection f m m' projected (subst (λ (t : Bool). Unless t (value Type-Argument-projection m ≡ value Type-Argument-projection m')) a r.projection);
      placed = placed-met Type-Argument-type m m' f inlined
          (subst (λ (t : Bool). Unless t (SamePlaced Type-Argument-type m m')) b r.placed);
      inline = message-met P Type-Argument-type m m' s f inlined
          (subst (λ (t : Bool). Unless t (Alike (AlikeOption P) (message Type-Argument-type m) (message Type-Argument-type m'))) b r.inline);
      index = value-met Type-Argument-type_id f m m' indexed (subst (λ (t : Bool). Unless t (value Type-Argument-type_id m ≡ value Type-Argument-type_id m')) c r.index);
    }

    -- the type inline, with a body alike
    pub argument_body : (q q' : Part) → extent q ≡ extent q' → Alike P (cut q) (cut q')
        → Carries (ArgumentRest P projected true indexed) (ArgumentRest P projected inlined indexed) (field Type-Argument-type (body q)) (field Type-Argument-type (body q'))
    unfolding values
    argument_body q q' e h m m' r = record {
      projection = r.projection;
      placed = placed-body Type-Argument-type m m' q q' inlined e;
      inline = message-body P Type-Argument-type m m' q q' inlined h;
      index = r.index;
    }

    pub argument_passed : (f : Field) → (f.number ≡ Type-Argument-projection → projected ≡ true) → (f.number ≡ Type-Argument-type → inlined ≡ true)
        → (f.number ≡ Type-Argument-type_id → indexed ≡ true) → Passes (ArgumentRest P projected inlined indexed) f
    argument_passed f a b c m m' r = record {
      projection = value-passed Type-Argument-projection f m m' projected a r.projection;
      placed = placed-passed Type-Argument-type m m' f inlined b r.placed;
      inline = message-passed P Type-Argument-type m m' f inlined b r.inline;
      index = value-passed Type-Argument-type_id f m m' indexed c r.index;
    }
