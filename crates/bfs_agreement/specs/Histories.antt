-- What replicas have sent, entered and executed so far (OSDI 1999 sections 4.2 to 4.4).
use Rattle.std.specs.Prelude.{◌≡◌, ℕ, ◌+◌, ◌*◌, ◌<◌, ◌≤◌, ◌==◌, Bool, true, false, List, [], ◌∷◌, ◌⊎◌}
use Rattle.std.specs.List.{list_any}
use Rattle.bfs_votes.specs.Votes.{Header, Told, count_below, replicas, primary, is_backed}
use Rattle.bfs_votes.specs.Tags.{pre_prepare_tag}

-- x is one of the items
abbrev pub IsIn : {A : Type 0} → A → List A → Type 0
IsIn x [] = ⊥
IsIn x (y ∷ ys) = (x ≡ y) ⊎ IsIn x ys

-- that a batch was prepared: its PRE-PREPARE and PREPAREs that match it (OSDI 1999 section 4.4)
pub record Certificate : Type 0 where
  pub proposal : Header
  pub prepares : List Header

-- a VIEW-CHANGE: the view asked for, the stable number, and what was prepared above it (OSDI 1999 section 4.4)
pub record ViewChange : Type 0 where
  pub sender : ℕ
  pub view : ℕ
  pub stable : ℕ
  pub certificates : List Certificate

-- a NEW-VIEW by which a replica has entered a view, of another or its own: the VIEW-CHANGEs in it, the number that it begins behind, the
-- greatest one that it has, and a PRE-PREPARE for each between them (OSDI 1999 section 4.4)
pub record NewView : Type 0 where
  pub view : ℕ
  pub min_s : ℕ
  pub top : ℕ
  pub proposals : List Header
  pub changes : List ViewChange

-- a batch was executed, with the log that it was executed from
pub record Execution : Type 0 where
  pub proposal : Header
  pub log : List Header

-- what a replica knows of the order
pub record State : Type 0 where
  -- the view last entered
  pub view : ℕ
  -- the view last asked for: above the one entered while a view change is under way
  pub asked : ℕ
  -- the low mark: the number of the stable checkpoint
  pub low : ℕ
  -- the view has no batch up to that number
  pub min_s : ℕ
  -- the greatest number that the NEW-VIEW had
  pub handed : ℕ
  -- PRE-PREPAREs, PREPAREs and COMMITs that were accepted and not dropped, its own among them, the newest first
  pub log : List Header

-- a replica, with all that it has done
pub record History : Type 0 where
  pub now : State
  -- PRE-PREPAREs, PREPAREs and COMMITs that it has sent by themselves
  pub sent : List Header
  -- PRE-PREPAREs in NEW-VIEWs that it has sent
  pub offers : List Header
  -- VIEW-CHANGEs that it has sent
  pub changes : List ViewChange
  -- NEW-VIEWs by which it has entered
  pub entered : List NewView
  -- batches that it has executed
  pub executions : List Execution

-- each replica by its number
abbrev pub World : Type 0
World = ℕ → History

-- a replica has executed a batch with that PRE-PREPARE
abbrev pub Executed : History → Header → Type 0
Executed history proposal = (log : List Header) × IsIn (record { proposal = proposal; log = log }) history.executions

-- at most f replicas are faulty (OSDI 1999 section 2)
abbrev pub FewAreFaulty : (f : ℕ) (faulty : ℕ → Bool) → Type 0
FewAreFaulty f faulty = count_below faulty (replicas f) ≤ f

-- a replica has sent it, by itself or inside a NEW-VIEW
abbrev pub HasSaid : History → (tag sender view number : ℕ) → List ℕ → Type 0
HasSaid history tag sender view number digest =
    Told history.sent tag sender view number digest ⊎ ((tag ≡ pre_prepare_tag) × Told history.offers pre_prepare_tag sender view number digest)

-- a correct sender has (OSDI 1999 section 2: authenticators aren't forged)
abbrev pub WasSent : (faulty : ℕ → Bool) → World → (tag sender view number : ℕ) → List ℕ → Type 0
WasSent faulty w tag sender view number digest = faulty sender ≡ false → HasSaid (w sender) tag sender view number digest

-- a certificate, as who takes a VIEW-CHANGE for a view finds it (OSDI 1999 section 4.4)
pub record IsValidCertificate (f : ℕ) (faulty : ℕ → Bool) (w : World) (asked : ℕ) (c : Certificate) : Type 0 where
  pub earlier : c.proposal.view < asked
  pub backed : is_backed f (c.proposal ∷ c.prepares) c.proposal.view c.proposal.number c.proposal.digest ≡ true
  pub authentic : (tag sender view number : ℕ) (digest : List ℕ)
      → Told (c.proposal ∷ c.prepares) tag sender view number digest → WasSent faulty w tag sender view number digest

-- for each number above the latest stable one that has a certificate, the digest of one of the highest view; others are free
-- (OSDI 1999 section 4.4)
pub record IsChoice (f : ℕ) (r : NewView) : Type 0 where
  pub kinds : (tag sender view number : ℕ) (digest : List ℕ)
      → Told r.proposals tag sender view number digest → (tag ≡ pre_prepare_tag) × (sender ≡ primary f r.view) × (view ≡ r.view)
  pub within : (sender view number : ℕ) (digest : List ℕ) → Told r.proposals pre_prepare_tag sender view number digest → (r.min_s < number) × (number ≤ r.top)
  pub once : (sender view number : ℕ) (one other : List ℕ)
      → Told r.proposals pre_prepare_tag sender view number one → Told r.proposals pre_prepare_tag sender view number other → one ≡ other
  pub stable : (m : ViewChange) → IsIn m r.changes → m.stable ≤ r.min_s
  pub highest : (m : ViewChange) (c : Certificate) → IsIn m r.changes → IsIn c m.certificates → r.min_s < c.proposal.number
      → (l : ViewChange) × (b : Certificate) × IsIn l r.changes × IsIn b l.certificates
      × (b.proposal.number ≡ c.proposal.number) × (c.proposal.view ≤ b.proposal.view)
      × Told r.proposals pre_prepare_tag (primary f r.view) r.view c.proposal.number b.proposal.digest

-- VIEW-CHANGEs for the view from 2f + 1 replicas, each of them valid to who takes it, and the choice (OSDI 1999 section 4.4)
pub record IsValidNewView (f : ℕ) (faulty : ℕ → Bool) (w : World) (r : NewView) : Type 0 where
  pub senders : 2 * f + 1 ≤ count_below (λ k. list_any (λ m. m.sender == k) r.changes) (replicas f)
  pub views : (m : ViewChange) → IsIn m r.changes → m.view ≡ r.view
  pub sent : (m : ViewChange) → IsIn m r.changes → faulty m.sender ≡ false → IsIn m (w m.sender).changes
  pub valid : (m : ViewChange) (c : Certificate) → IsIn m r.changes → IsIn c m.certificates → IsValidCertificate f faulty w r.view c
  pub choice : IsChoice f r
