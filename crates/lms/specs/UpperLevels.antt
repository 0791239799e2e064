-- The levels of signatures above the last one. Whether they pass hangs on no text.
use Rattle.std.specs.Prelude.{◌≡◌, ℕ, true, false, List, ◌++◌, Some}
use Rattle.lms.specs.declared.public_key.PublicKey.{PublicKey}
use Rattle.lms.specs.declared.hss.HssPublicKey.{HssPublicKey}
use Rattle.lms.specs.Levels.{hss_is_signed, is_signed_over}
use Rattle.lms.specs.Verifying.{is_signed}

-- it is a signature of no text
abbrev pub SignsNothing : HssPublicKey → (signature : List ℕ) → Type 0
SignsNothing key signature = (text : List ℕ) → hss_is_signed key text signature ≡ false

-- Each signature that begins with these bytes is one by the key where what stands behind them is one by the other key
abbrev pub LeadTo : HssPublicKey → (front : List ℕ) → (last : PublicKey) → Type 0
LeadTo key front last = (text bytes : List ℕ) → hss_is_signed key text (front ++ bytes) ≡ is_signed last text bytes

-- the same of signatures by a key that has so many levels below it
abbrev pub LeadOver : (below : ℕ) → PublicKey → (front : List ℕ) → (last : PublicKey) → Type 0
LeadOver below key front last = (text bytes : List ℕ) → is_signed_over below (Some key) text (front ++ bytes) ≡ is_signed last text bytes

-- A signature of some text by the key begins with these bytes
abbrev pub HavePassed : HssPublicKey → (front : List ℕ) → Type 0
HavePassed key front = (text : List ℕ) × (bytes : List ℕ) × (hss_is_signed key text (front ++ bytes) ≡ true)
