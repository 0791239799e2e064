-- The frozen inodes of a tree, which are shared and hashed by chunks.
use Rattle.std.proofs.Common.{◌≡◌, ℕ, List, [], ◌∷◌, ◌++◌, sym, ap, subst, ◌∙◌, append_assoc}
use Rattle.std.proofs.lemmas.Grind.{flat_map-append}
use Rattle.bfs_model.specs.Bytes.Items.{word}
use Rattle.bfs_inode.specs.Records.{Frozen}
use Rattle.bfs_digest.specs.Frozen.{digests_of}
use Rattle.bfs_digest.proofs.Pieces.{Takes, both_taken}

-- some are shared, and hashed; with those that wait, and the rest, they are all of them
pub record AreShared {H : Type 0} (Holds : H → List ℕ → Type 0) (before now : H) (shared waiting rest all : List Frozen) : Type 0 where
  pub total : shared ++ (waiting ++ rest) ≡ all
  pub hashed : Takes Holds before now (digests_of shared)

-- the first of the rest waits
pub one_waits : {H : Type 0} (Holds : H → List ℕ → Type 0) (before now : H) (shared waiting more xs rest all : List Frozen) (x : Frozen) → xs ≡ x ∷ rest → more ≡ waiting ++ (x ∷ [])
    → AreShared Holds before now shared waiting xs all → AreShared Holds before now shared more rest all
one_waits Holds before now shared waiting more xs rest all x is put so_far = record {
  total = ap (λ ys. shared ++ (ys ++ rest)) put ∙ ap (λ ys. shared ++ ys) (append_assoc waiting (x ∷ []) rest ∙ ap (λ ys. waiting ++ ys) (sym is)) ∙ so_far.total;
  hashed = so_far.hashed;
}

-- those that waited are shared, and none waits
pub more_shared : {H : Type 0} (Holds : H → List ℕ → Type 0) (before now after : H) (shared waiting more none rest all : List Frozen) → more ≡ shared ++ waiting → none ≡ [] → Takes Holds now after (digests_of waiting)
    → AreShared Holds before now shared waiting rest all → AreShared Holds before after more none rest all
more_shared Holds before now after shared waiting more none rest all is taken took so_far = record {
  total = ap (λ ys. more ++ (ys ++ rest)) taken ∙ ap (λ ys. ys ++ rest) is ∙ append_assoc shared waiting rest ∙ so_far.total;
  hashed = subst (Takes Holds before after) (sym (ap digests_of is ∙ flat_map-append (λ (inode : Frozen). word inode.id ++ inode.digest) shared waiting))
      (both_taken Holds before now after (digests_of shared) (digests_of waiting) so_far.hashed took);
}
