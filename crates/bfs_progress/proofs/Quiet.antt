-- Where nothing is unheard, what the primary proposed is committed.
use Rattle.std.proofs.Common.{◌≡◌, ℕ, ◌+◌, ◌*◌, ◌<◌, ◌≤◌, ◌==◌, Bool, true, false, ◌&&◌, not, nat_le, List, inl, inr, subst, arith}
use Rattle.std.proofs.lemmas.Bool.{and_parts, and_from, or_left, or_right, le-leb, cases_Bool, not-true}
use Rattle.bfs_votes.specs.Votes.{has_slot, told, Told, count_below, tellers, replicas, primary, backups, prepared, committed}
use Rattle.bfs_votes.proofs.Public.{more}
use Rattle.bfs_agreement.specs.Histories.{World}
use Rattle.bfs_progress.specs.Premises.{reached}
use Rattle.bfs_progress.specs.Members.{AreTogether, IsCommitted}
use Rattle.bfs_progress.specs.Laws.{QuietIsCommitted}
use Rattle.bfs_progress.proofs.Numbers.{without_one}
use Rattle.bfs_progress.proofs.Logs.{slot_told, is_prepared}
use Rattle.bfs_progress.proofs.Heard.{by_itself}
use Rattle.bfs_progress.proofs.Reached.{Responds, responds, always}

-- beside the PRE-PREPARE a correct replica's own vote tells its digest
pub own_digest : (f : ℕ) (faulty : ℕ → Bool) (w : World) (v n : ℕ) (d : List ℕ) → Responds f faulty w → (i t : ℕ) (e : List ℕ) → faulty i ≡ false → 2 < t → t < 5 → (w i).now.low < n
    → Told (w i).now.log 2 (primary f v) v n d → Told (w i).now.log t i v n e → Told (w i).now.log t i v n d
own_digest f faulty w v n d facts i t e correct vote small low there own =
    let kept = facts.sound.kept i correct in
    elim (kept.linked t i v n e (by_itself (w i) t i v n e vote (facts.heard.said i t i v n e small correct own))) [
      | inl under ↦ absurd (omega (arith, under, low))
      | inr linked ↦ subst (λ (x : List ℕ). Told (w i).now.log t i v n x) (kept.single 2 (primary f v) v n e d linked there) own
    ]

module _ (f : ℕ) (faulty members : ℕ → Bool) (w : World) (v n : ℕ) (d : List ℕ) (facts : Responds f faulty w) (together : AreTogether f faulty members w v)
    (lows : (k : ℕ) → members k ≡ true → (w k).now.low < n) where
  abbrev p : ℕ
  p = primary f v

  own_told : (i t : ℕ) → 2 < t → t < 5 → members i ≡ true → Told (w i).now.log 2 p v n d → has_slot (w i).now.log t i v n ≡ true → Told (w i).now.log t i v n d
  own_told i t vote small in_it there slot =
      let got = slot_told (w i).now.log t i v n slot in
      own_digest f faulty w v n d facts i t got.0 (together.quorum.correct i in_it) vote small (lows i in_it) there got.1

  -- a backup that has the PRE-PREPARE has sent its PREPARE
  pub has_prepared : (i : ℕ) → members i ≡ true → (i == p) ≡ false → Told (w i).now.log 2 p v n d → Told (w i).now.log 3 i v n d
  has_prepared i in_it backup there =
      let speaks = subst (λ (x : ℕ). (m : ℕ) (e : List ℕ) → (i == primary f x) ≡ false → Told (w i).now.log 2 (primary f x) x m e → has_slot (w i).now.log 3 i x m ≡ true)
      (together.entered i in_it) (facts.speaks i (together.quorum.correct i in_it)).prepares in
      own_told i 3 (omega arith) (omega arith) in_it there (speaks n d backup there)

  -- who is prepared has sent its COMMIT
  pub has_committed : (i : ℕ) → members i ≡ true → Told (w i).now.log 2 p v n d → prepared f i (w i).now.log v n d ≡ true → Told (w i).now.log 4 i v n d
  has_committed i in_it there ready =
      let speaks = subst (λ (x : ℕ). (m : ℕ) (e : List ℕ) → prepared f i (w i).now.log x m e ≡ true → has_slot (w i).now.log 4 i x m ≡ true)
      (together.entered i in_it) (facts.speaks i (together.quorum.correct i in_it)).commits in
      own_told i 4 (omega arith) (omega arith) in_it there (speaks n d ready)

  -- who has the PRE-PREPARE and the PREPAREs of all members is prepared
  pub all_prepare : (j : ℕ) → members j ≡ true → Told (w j).now.log 2 p v n d → ((i : ℕ) → members i ≡ true → (i == p) ≡ false → Told (w j).now.log 3 i v n d) → prepared f j (w j).now.log v n d ≡ true
  all_prepare j in_it there all =
      let l = (w j).now.log in
      let enough = together.quorum.enough in
      let without = without_one members p (replicas f) in
      let grown : count_below (λ k. not (k == p) && members k) (replicas f) ≤ backups f l v n d = more (λ k. not (k == p) && members k) (λ k. not (k == p) && told l 3 k v n d) (replicas f)
      (λ k x. let c = and_parts (not (k == p)) (members k) x in and_from (not (k == p)) (told l 3 k v n d) c.0 (all k c.1 (not-true (k == p) c.0))) in
      is_prepared f j l v n d (record {
        proposal = there;
        enough = omega (arith, enough, without, grown);
        own = elim (cases_Bool (j == p)) [
          | inl leads ↦ or_left (j == p) (told l 3 j v n d) leads
          | inr backup ↦ or_right (j == p) (told l 3 j v n d) (all j in_it backup)
        ];
      })

  -- and with their COMMITs the batch is committed
  pub all_commit : (j : ℕ) → members j ≡ true → prepared f j (w j).now.log v n d ≡ true → ((i : ℕ) → members i ≡ true → Told (w j).now.log 4 i v n d) → committed f j (w j).now.log v n d ≡ true
  all_commit j in_it ready all =
      let l = (w j).now.log in
      let enough = together.quorum.enough in
      let grown : count_below members (replicas f) ≤ tellers f l 4 v n d = more members (λ k. told l 4 k v n d) (replicas f) all in
      and_from (prepared f j l v n d) (nat_le (2 * f + 1) (tellers f l 4 v n d) && told l 4 j v n d) ready
      (and_from (nat_le (2 * f + 1) (tellers f l 4 v n d)) (told l 4 j v n d) (le-leb (2 * f + 1) (tellers f l 4 v n d) (omega (arith, enough, grown))) (all j in_it))

  -- votes on the digest are
  pub all_heard : Told (w p).now.log 2 p v n d
      → ((i j t : ℕ) → t < 5 → members i ≡ true → members j ≡ true → Told (w i).now.log t i v n d → Told (w j).now.log t i v n d) → IsCommitted f members w v n d
  all_heard there heard j in_it =
      let proposal : (i : ℕ) → members i ≡ true → Told (w i).now.log 2 p v n d = λ i x. heard p i 2 (omega arith) together.quorum.leads x there in
      let ready : (i : ℕ) → members i ≡ true → prepared f i (w i).now.log v n d ≡ true = λ i x. all_prepare i x (proposal i x)
      (λ k y backup. heard k i 3 (omega arith) y x (has_prepared k y backup (proposal k y))) in
      all_commit j in_it (ready j in_it) (λ i x. heard i j 4 (omega arith) x in_it (has_committed i x (proposal i x) (ready i x)))

pub quiet_is_committed : QuietIsCommitted
quiet_is_committed f null faulty members turns v n d run together lows there heard =
    let w = reached f null turns in
    all_heard f faulty members w v n d (responds f faulty w (always f null faulty turns run)) together lows there (λ i j t _ in_i in_j x. heard i j t d in_i in_j x)
