-- How what the code reads answers to the definitions, and the numbers of its refusals.
use Rattle.std.specs.Prelude.{◌≡◌, ⊤, ℕ, List, Result, Ok, Err, Option, Some, None}
use Rattle.std.specs.Option.{option_map}
use Rattle.bfs_model.specs.Bytes.Formats.{Reading}
use Rattle.bfs_codec.specs.declared.error.DecodeError.{DecodeError}
use Rattle.bfs_codec.specs.declared.error.DecodeError.TheVariants.{Malformed, Memory}

abbrev pub code_of : DecodeError → ℕ
code_of Malformed = 23
code_of Memory = 40

-- nothing is read there, or memory ran out
abbrev pub Fails : {Y : Type 0} → DecodeError → Option Y → Type 0
Fails Malformed reading = reading ≡ None
Fails Memory reading = Unit {0}

-- the code gave what is read, and stands behind it; or nothing is read, or memory ran out
abbrev pub Reads : {X Y : Type 0} → (X → Y) → Result X DecodeError → Reading Y → (rest : List ℕ) → Type 0
Reads view (Ok x) reading rest = reading ≡ Some (view x, rest)
Reads view (Err e) reading rest = Fails e reading

-- the same, where no memory is taken
abbrev pub Finds : {X Y E : Type 0} → (X → Y) → Result X E → Reading Y → (rest : List ℕ) → Type 0
Finds view (Ok x) reading rest = reading ≡ Some (view x, rest)
Finds view (Err e) reading rest = reading ≡ None

-- the bytes behind what is read
abbrev pub behind : {Y : Type 0} → Reading Y → Option (List ℕ)
behind reading = option_map (λ read. read.1) reading

-- the code passed over what is read, and stands behind it; or nothing is read
abbrev pub Passes : {Y E : Type 0} → Result ⊤ E → Reading Y → (rest : List ℕ) → Type 0
Passes (Ok done) reading rest = behind reading ≡ Some rest
Passes (Err e) reading rest = behind reading ≡ None

-- the same of a whole text
abbrev pub Gives : {X : Type 0} → Result X DecodeError → Option X → Type 0
Gives (Ok x) reading = reading ≡ Some x
Gives (Err e) reading = Fails e reading
