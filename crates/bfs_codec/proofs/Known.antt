-- Batches that were read before.
use Rattle.std.proofs.Common.{◌≡◌, ℕ, ◌-◌, ◌+◌, ◌≤◌, Bool, true, false, cond, eqb, List, ◌++◌, length, take, drop, Option, Some, None, refl, sym, ap, ◌∙◌, arith, Bor}
use Rattle.std.specs.Prelude.{bytes_eq, IfSome, MatchOption}
use Rattle.std.specs.Cmp.Lexicographic.{pointwise}
use Rattle.std.proofs.lemmas.Bool.Decides.{Decides-eqb}
use Rattle.std.proofs.lemmas.Slice.Eq.{bytes_eq-Decides, strip_prefix_is}
use Rattle.sha2.specs.Sha256.{sha256}
use Rattle.std.proofs.lemmas.List.{take_at, length-append}
use Rattle.bfs_model.specs.Bytes.Call.{◌>>=◌}
use Rattle.bfs_model.specs.Bytes.Formats.{Reading}
use Rattle.bfs_model.specs.Server.Stored.{AreBytes}
use Rattle.bfs_model.proofs.Public.{some_is}
use Rattle.bfs_messages.specs.Messages.{Batch}
use Rattle.bfs_messages.specs.Batches.{batch_text}
use Rattle.bfs_messages.specs.Limits.{FitsBatch}
use Rattle.bfs_codec.specs.Codes.{behind}
use Rattle.bfs_codec.specs.Parts.{batch_from, batch_of_from}
use Rattle.bfs_codec.proofs.BatchesExact.{batch_exact, batch_of_exact}

pub rest_is_shorter : (bytes : List ℕ) (batch : Batch) (rest : List ℕ) → AreBytes bytes → batch_from bytes ≡ Some (batch, rest) → length rest ≤ length bytes
rest_is_shorter bytes batch rest fits e = omega (arith, ap (λ (b : List ℕ). length b) (batch_exact.written bytes batch rest fits e).0, length-append (batch_text batch) rest)

-- the front that a batch was read from is its text
pub front_is_text : (bytes : List ℕ) (batch : Batch) (rest : List ℕ) → AreBytes bytes → batch_from bytes ≡ Some (batch, rest) → take (length bytes - length rest) bytes ≡ batch_text batch
front_is_text bytes batch rest fits e =
    let h = (batch_exact.written bytes batch rest fits e).0 in
    let len : length bytes - length rest ≡ length (batch_text batch) = omega (arith, ap (λ (b : List ℕ). length b) h, length-append (batch_text batch) rest) in
    ap (λ n. take n bytes) len ∙ ap (λ (b : List ℕ). take (length (batch_text batch)) b) h ∙ take_at (batch_text batch) rest (length (batch_text batch)) refl

pub read_fits : (bytes : List ℕ) (batch : Batch) (rest : List ℕ) → AreBytes bytes → batch_from bytes ≡ Some (batch, rest) → FitsBatch batch
read_fits bytes batch rest fits e = (batch_exact.written bytes batch rest fits e).1

-- The batch that was passed over --------------------------------------------------------------------------------------

found_behind : {A : Type 0} (o : Reading A) (rest : List ℕ) → behind o ≡ Some rest → (x : A) × (o ≡ Some (x, rest))
found_behind (Some x) rest e = (x.0, ap (λ left. Some (x.0, left)) (some_is x.1 rest e))
found_behind None rest e = absurd cc

pub rest_is_behind : (bytes rest : List ℕ) → AreBytes bytes → behind (batch_from bytes) ≡ Some rest → length rest ≤ length bytes
rest_is_behind bytes rest fits e = let b = found_behind (batch_from bytes) rest e in rest_is_shorter bytes b.0 rest fits b.1

-- its text has its digest
pub digest_tells : (digest bytes rest : List ℕ) → AreBytes bytes → behind (batch_from bytes) ≡ Some rest
    → behind (batch_of_from digest bytes) ≡ cond (bytes_eq digest (sha256 (take (length bytes - length rest) bytes))) (Some rest) None
digest_tells digest bytes rest fits e =
    let b = found_behind (batch_from bytes) rest e in
    ap (λ o. behind (o >>= λ read. cond (bytes_eq digest (sha256 (batch_text read.0))) (Some read) None)) b.1
    ∙ tested (bytes_eq digest (sha256 (batch_text b.0))) (b.0, rest)
    ∙ ap (λ text. cond (bytes_eq digest (sha256 text)) (Some rest) None) (sym (front_is_text bytes b.0 rest fits b.1))
  where
    tested : {A : Type 0} (test : Bool) (x : A × List ℕ) → behind (cond test (Some x) None) ≡ cond test (Some x.1) None
    tested true x = refl
    tested false x = refl

-- bytes that begin with a batch's
pub spelled_again : (digest bytes known : List ℕ) (batch : Batch) (r : Option (Bor (List ℕ))) → FitsBatch batch → known ≡ batch_text batch → bytes_eq digest (sha256 (batch_text batch)) ≡ true
    → MatchOption r (pointwise eqb (take (length known) bytes) known ≡ false) (λ x. (pointwise eqb (take (length known) bytes) known ≡ true) × (x.now ≡ drop (length known) bytes) × (length x.now + length known ≡ length bytes))
    → IfSome r (λ rest. batch_of_from digest bytes ≡ Some (batch, rest.now))
spelled_again digest bytes known batch r fits is same found = go r (strip_prefix_is Decides-eqb bytes known r found)
  where
    go : (o : Option (Bor (List ℕ))) → MatchOption o ((rest : List ℕ) → bytes ≡ known ++ rest → ⊥) (λ x. bytes ≡ known ++ x.now) → IfSome o (λ rest. batch_of_from digest bytes ≡ Some (batch, rest.now))
    go None none = tt
    go (Some x) whole = ap (batch_of_from digest) (whole ∙ ap (λ text. text ++ x.now) is) ∙ (batch_of_exact digest).again batch x.now (fits, (bytes_eq-Decides digest (sha256 (batch_text batch))).0 same)
