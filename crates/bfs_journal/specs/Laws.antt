-- What a journal tells after a crash: contracts of functions of src/laws.rt, which do nothing.
use Rattle.std.specs.Prelude.{◌≡◌, ◌≢◌, ℕ, ◌≤◌, List, ◌++◌, length, take, All}
use Rattle.std.specs.List.{fold}
use Rattle.bfs_journal.specs.Records.{IsBody, LacksRecord, Splits, journal_of}
use Rattle.bfs_journal.specs.Rests.{IsChanged, rest_of}
use Rattle.bfs_journal.specs.declared.rest.Rest.TheVariants.{Damaged}

-- bytes are records in one way
abbrev pub OneReading : Type 0
OneReading = (bytes : List ℕ) (bodies others : List (List ℕ)) (rest end : List ℕ) → Splits bytes bodies rest → Splits bytes others end
    → (bodies ≡ others) × (rest ≡ end)

-- a beginning of all, with all that were synced
pub record IsFront {A : Type 0} (synced all front : List A) : Type 0 where
  pub n : ℕ
  pub no_fewer : length synced ≤ n
  pub no_more : n ≤ length all
  pub read : front ≡ take n all

-- of a journal that was cut behind what was synced a beginning is read, with all that were synced
abbrev pub FrontsAreRead : Type 0
FrontsAreRead = (synced more : List (List ℕ)) (count : ℕ) (bodies : List (List ℕ)) (rest : List ℕ)
    → All IsBody (synced ++ more)
    → length (journal_of synced) ≤ count
    → Splits (take count (journal_of (synced ++ more))) bodies rest
    → IsFront synced (synced ++ more) bodies

-- what a journal that was cut ends with is no damage
abbrev pub CutsAreNoDamage : Type 0
CutsAreNoDamage = (all : List (List ℕ)) (count : ℕ) (bodies : List (List ℕ)) (rest : List ℕ)
    → All IsBody all
    → Splits (take count (journal_of all)) bodies rest
    → rest_of rest ≢ Damaged

-- whatever bytes stand behind what was synced, it is read, and behind it what those bytes spell
abbrev pub SyncedIsRead : Type 0
SyncedIsRead = (synced : List (List ℕ)) (left : List ℕ) (bodies : List (List ℕ)) (rest : List ℕ)
    → All IsBody synced
    → Splits (journal_of synced ++ left) bodies rest
    → (others : List (List ℕ)) × (bodies ≡ synced ++ others) × Splits left others rest

-- where a record was changed, but not both of its lengths, and is none any more, reading ends before it and tells damage, whatever stands behind it
abbrev pub DamageIsTold : Type 0
DamageIsTold = (before : List (List ℕ)) (body changed behind : List ℕ) (bodies : List (List ℕ)) (rest : List ℕ)
    → All IsBody before
    → IsChanged body changed
    → LacksRecord (changed ++ behind)
    → Splits (journal_of before ++ (changed ++ behind)) bodies rest
    → (bodies ≡ before) × (rest_of rest ≡ Damaged)

-- a machine that is started again from a journal that was cut is where a beginning of its steps led it, with all that were synced
abbrev pub RecoversAFront : (S : Type 0) → Type 0
RecoversAFront S = (step : S → List ℕ → S) (start : S) (synced more : List (List ℕ)) (count : ℕ) (bodies : List (List ℕ)) (rest : List ℕ)
    → All IsBody (synced ++ more)
    → length (journal_of synced) ≤ count
    → Splits (take count (journal_of (synced ++ more))) bodies rest
    → (front : List (List ℕ)) × IsFront synced (synced ++ more) front × (fold step start bodies ≡ fold step start front)
