-- Snapshots that are kept.
use Rattle.std.proofs.Common.{◌≡◌, ℕ, ◌==◌, ◌-◌, Bool, true, false, cond, List, [], ◌∷◌, ◌++◌, length, take, Option, Some, refl, sym, ap, subst, ◌∙◌, arith}
use Rattle.std.specs.Prelude.{bytes_eq, find}
use Rattle.std.proofs.lemmas.Bool.{and_parts}
use Rattle.std.proofs.lemmas.List.{length_push, take_at}
use Rattle.std.proofs.lemmas.Option.{same_Some}
use Rattle.std.proofs.lemmas.Slice.Eq.{bytes_eq-Decides}
use Rattle.bfs_log.specs.Certificates.{MakesStable, StableCheckpoint}
use Rattle.bfs_checkpoints.specs.Keeping.{IsStable, Keeping, Kept, is_of, with_snapshot}
use Rattle.bfs_checkpoints.specs.Snapshots.{IsSnapshot, Snapshot}

last_off : (kept : List Kept) (one : Kept) → take (length (kept ++ one ∷ []) - 1) (kept ++ one ∷ []) ≡ kept
last_off kept one = let n = length_push kept one in take_at kept (one ∷ []) _ (omega (arith, n))

-- a snapshot that was put behind the others and is forgotten again leaves what was there
pub popped : (keeping : Keeping) (number : ℕ) (snapshot : Snapshot)
    → record (with_snapshot keeping number snapshot) { kept = take (length (with_snapshot keeping number snapshot).kept - 1) (with_snapshot keeping number snapshot).kept } ≡ keeping
popped keeping number snapshot = ap (λ kept. record keeping { kept = kept }) (last_off keeping.kept (record { number = number; snapshot = snapshot }))

found_step : (p : Kept → Bool) (b : Bool) (kept : Kept) (more : Option Kept) (found : Kept) → p kept ≡ b → (more ≡ Some found → p found ≡ true) → cond b (Some kept) more ≡ Some found → p found ≡ true
found_step p true kept more found e rest h = subst (λ k. p k ≡ true) (same_Some kept found h) e
found_step p false kept more found e rest h = rest h

found_passes : (p : Kept → Bool) (kept : List Kept) (found : Kept) → find p kept ≡ Some found → p found ≡ true
found_passes p [] found h = absurd cc
found_passes p (one ∷ kept) found h = found_step p (p one) one (find p kept) found refl (found_passes p kept found) h

-- the snapshot that is found by a stable checkpoint is the one that it makes stable
pub found_is_stable : (f : ℕ) (c : StableCheckpoint) (kept : List Kept) (one : Kept) → MakesStable f c → find (is_of c.number c.digest) kept ≡ Some one → IsSnapshot one.snapshot → IsStable f one.snapshot.text c
found_is_stable f c kept one certified found taken =
    let parts = and_parts (one.number == c.number) (bytes_eq one.snapshot.digest c.digest) (found_passes (is_of c.number c.digest) kept one found) in
    record {
      files = taken.files;
      table = taken.table;
      text_is = ap (λ (s : Snapshot). s.text) taken.is;
      digest_is = sym ((bytes_eq-Decides one.snapshot.digest c.digest).0 parts.1) ∙ ap (λ (s : Snapshot). s.digest) taken.is;
      certified = certified;
    }
