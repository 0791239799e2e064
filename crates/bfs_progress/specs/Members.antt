-- Replicas that hear one another, and what they have come to.
use Rattle.std.specs.Prelude.{◌≡◌, ℕ, ◌+◌, ◌*◌, ◌<◌, ◌≤◌, ◌==◌, Bool, true, false, List}
use Rattle.std.specs.List.{list_any}
use Rattle.bfs_votes.specs.Votes.{Told, count_below, replicas, primary, committed}
use Rattle.bfs_agreement.specs.Histories.{IsIn, ViewChange, World}
use Rattle.bfs_agreement.specs.Calls.{is_new_view, ChangesView, IsAuthentic}

-- 2f + 1 correct replicas or more, the primary of the view among them (OSDI 1999 section 4.2)
pub record IsQuorum (f : ℕ) (faulty members : ℕ → Bool) (view : ℕ) : Type 0 where
  pub enough : 2 * f + 1 ≤ count_below members (replicas f)
  pub correct : (k : ℕ) → members k ≡ true → faulty k ≡ false
  pub among : (k : ℕ) → members k ≡ true → k < replicas f
  pub leads : members (primary f view) ≡ true

-- In a view -----------------------------------------------------------------------------------------------------------

-- they have entered the view, and none has asked for another (OSDI 1999 section 4.4)
pub record AreTogether (f : ℕ) (faulty members : ℕ → Bool) (w : World) (view : ℕ) : Type 0 where
  pub quorum : IsQuorum f faulty members view
  pub entered : (k : ℕ) → members k ≡ true → (w k).now.view ≡ view
  pub asked : (k : ℕ) → members k ≡ true → (w k).now.asked ≡ view

-- a batch may stand there: the number lies between the marks of each (OSDI 1999 section 4.2)
pub record HasRoom (members : ℕ → Bool) (w : World) (number : ℕ) : Type 0 where
  pub low : (k : ℕ) → members k ≡ true → (w k).now.low < number
  pub min_s : (k : ℕ) → members k ≡ true → (w k).now.min_s < number
  pub high : (k : ℕ) → members k ≡ true → number ≤ (w k).now.low + 32

-- what one has said of a number of the view, as its log has it, each of them has heard
abbrev pub AllIsHeard : (members : ℕ → Bool) → World → (view number : ℕ) → Type 0
AllIsHeard members w view number = (i j tag : ℕ) (digest : List ℕ) → members i ≡ true → members j ≡ true
    → Told (w i).now.log tag i view number digest → Told (w j).now.log tag i view number digest

-- each may execute the batch (OSDI 1999 section 4.2)
abbrev pub IsCommitted : (f : ℕ) (members : ℕ → Bool) → World → (view number : ℕ) → List ℕ → Type 0
IsCommitted f members w view number digest = (k : ℕ) → members k ≡ true → committed f k (w k).now.log view number digest ≡ true

-- Between views -------------------------------------------------------------------------------------------------------

-- they have asked for the view, and none has entered it (OSDI 1999 section 4.4)
pub record HaveAsked (f : ℕ) (faulty members : ℕ → Bool) (w : World) (view : ℕ) : Type 0 where
  pub quorum : IsQuorum f faulty members view
  pub asked : (k : ℕ) → members k ≡ true → (w k).now.asked ≡ view
  pub before : (k : ℕ) → members k ≡ true → (w k).now.view < view

-- none has entered the view or a later one, or asked for a later one
pub record MayMeet (f : ℕ) (faulty members : ℕ → Bool) (w : World) (view : ℕ) : Type 0 where
  pub quorum : IsQuorum f faulty members view
  pub asked : (k : ℕ) → members k ≡ true → (w k).now.asked ≤ view
  pub before : (k : ℕ) → members k ≡ true → (w k).now.view < view

-- VIEW-CHANGEs for the view that they have sent, of each of them (OSDI 1999 section 4.4)
pub record AreChangesOf (members : ℕ → Bool) (w : World) (view : ℕ) (changes : List ViewChange) : Type 0 where
  pub of_members : (m : ViewChange) → IsIn m changes → members m.sender ≡ true
  pub sent : (m : ViewChange) → IsIn m changes → IsIn m (w m.sender).changes
  pub views : (m : ViewChange) → IsIn m changes → m.view ≡ view
  pub each : (k : ℕ) → members k ≡ true → list_any (λ m. m.sender == k) changes ≡ true

-- VIEW-CHANGEs by which the primary may begin the view, whoever sent them: valid ones of 2f + 1 replicas, and no correct one's is forged
-- (OSDI 1999 section 4.4)
pub record MakeNewView (f : ℕ) (faulty : ℕ → Bool) (w : World) (view : ℕ) (changes : List ViewChange) : Type 0 where
  pub valid : is_new_view f view changes ≡ true
  pub authentic : IsAuthentic faulty w (ChangesView view changes)
