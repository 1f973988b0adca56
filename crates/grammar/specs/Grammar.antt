-- Method descriptors: JVMS 4.3.2 and 4.3.3, without the limit of 255, each ClassName in the JVM's form (document 01, "Descriptors").
-- Of texts in UTF-8: /, ; and [ are single bytes there, as are the letters, ( and ), and these bytes occur in no other character. So
-- a name keeps to the form by its characters exactly when it does by its bytes (the law `form_by_characters` of defaults).
-- Assumes nothing.
use Rattle.std.specs.Prelude.{◌≡◌, ◌≢◌, List, [], ◌∷◌, ◌++◌, ℕ, eqb, if◌then◌else◌}
use Rattle.foundation.specs.Choices.{concat, All}

-- with c put before the first
abbrev pub before_first : ℕ → List (List ℕ) → List (List ℕ)
before_first c [] = (c ∷ []) ∷ []
before_first c (s ∷ ss) = (c ∷ s) ∷ ss

-- The segments between slashes: one more than there are slashes.
unfoldable pub segments : List ℕ → List (List ℕ)
segments [] = [] ∷ []
segments (c ∷ cs) = let more = segments cs in if eqb c 0x2f then [] ∷ more else before_first c more

-- A segment in the JVM's form: it is non-empty and holds no ; or [.
pub record Segment (s : List ℕ) : Type 0 where
  pub non_empty : s ≢ []
  pub no_semicolon : All (λ c. c ≢ 0x3b) s
  pub no_bracket : All (λ c. c ≢ 0x5b) s

-- The JVM's form of a class name.
unfoldable pub ClassName : List ℕ → Type 0
ClassName n = All Segment (segments n)

-- Table 4.3-A, the rows of the base types.
pub data BaseType : ℕ → Type 0 where
  byte : BaseType 0x42  -- B
  char : BaseType 0x43  -- C
  double : BaseType 0x44  -- D
  float : BaseType 0x46  -- F
  int : BaseType 0x49  -- I
  long : BaseType 0x4a  -- J
  short : BaseType 0x53  -- S
  boolean : BaseType 0x5a  -- Z

-- FieldType: BaseType | L ClassName ; | [ FieldType
pub data FieldType : List ℕ → Type 0 where
  base_type : {c : ℕ} → BaseType c → FieldType (c ∷ [])
  object_type : (n : List ℕ) → ClassName n → FieldType (0x4c ∷ (n ++ (0x3b ∷ [])))
  array_type : {t : List ℕ} → FieldType t → FieldType (0x5b ∷ t)

-- ReturnDescriptor: FieldType | V
pub data ReturnType : List ℕ → Type 0 where
  field_type : {t : List ℕ} → FieldType t → ReturnType t
  void_type : ReturnType (0x56 ∷ [])

-- ( , the parameters, ) , the result
abbrev pub join : List (List ℕ) → List ℕ → List ℕ
join parameters result = 0x28 ∷ (concat parameters ++ (0x29 ∷ result))

-- A cut of a text: a list of the grammar's parameter descriptors, then one return descriptor, that gives the text when ( is put
-- before the list and ) after it.
pub record Cut (text : List ℕ) : Type 0 where
  pub parameters : List (List ℕ)
  pub result : List ℕ
  pub are_field_types : All FieldType parameters
  pub is_return_type : ReturnType result
  pub gives : join parameters result ≡ text
