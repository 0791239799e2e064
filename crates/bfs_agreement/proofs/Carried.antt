-- What 2f + 1 replicas may have committed is carried into every later view.
use Rattle.std.proofs.Common.{◌≡◌, ℕ, zero, suc, ◌*◌, ◌<◌, ◌≤◌, ◌==◌, Bool, true, false, ◌&&◌, ◌||◌, not, nat_le, List, ◌∷◌, ◌⊎◌, inl, inr, sym, subst, ◌∙◌, arith}
use Rattle.std.specs.List.{list_any}
use Rattle.std.proofs.lemmas.Bool.{and_parts, or_cases, eqb-true, leb-true, cases_lt}
use Rattle.bfs_votes.specs.Votes.{told, Told, count_below, primary, replicas}
use Rattle.bfs_agreement.specs.Histories.{IsIn, Certificate, ViewChange, NewView, World, WasSent, IsValidCertificate, IsValidNewView}
use Rattle.bfs_agreement.specs.Laws.{HasQuorum, Carries}
use Rattle.bfs_agreement.proofs.Counts.{QuorumsShare, with_one}
use Rattle.bfs_agreement.proofs.Told.{change_of}

-- what holds of the histories of every world
pub record Facts (f : ℕ) (faulty : ℕ → Bool) (w : World) : Type 0 where
  -- of a number of a view a replica says one digest
  pub one : (k t u v n : ℕ) (d e : List ℕ) → faulty k ≡ false → Told (w k).sent t k v n d → Told (w k).sent u k v n e → d ≡ e
  pub offered_one : (k t v n : ℕ) (d e : List ℕ) → faulty k ≡ false → Told (w k).offers 2 k v n d → Told (w k).sent t k v n e → d ≡ e
  pub offered : (k v n : ℕ) (d : List ℕ) → faulty k ≡ false → Told (w k).offers 2 k v n d
      → (r : NewView) × IsIn r (w k).entered × (r.view ≡ v) × Told r.proposals 2 (primary f v) v n d
  -- a VIEW-CHANGE speaks of what was committed before
  pub covers : (k v n : ℕ) (d : List ℕ) (m : ViewChange) → faulty k ≡ false → IsIn m (w k).changes → Told (w k).sent 4 k v n d → v < m.view
      → (n ≤ m.stable) ⊎ ((c : Certificate) × IsIn c m.certificates × (c.proposal.number ≡ n) × (v ≤ c.proposal.view))
  -- who has committed a number says of it, in a later view, what was chosen on entry
  pub follows : (k t v u n : ℕ) (d e : List ℕ) → faulty k ≡ false → Told (w k).sent 4 k v n d → Told (w k).sent t k u n e → v < u
      → (r : NewView) × IsIn r (w k).entered × (r.view ≡ u) × (r.min_s < n) × ((g : List ℕ) → Told r.proposals 2 (primary f u) u n g → g ≡ e)
  pub entered : (k : ℕ) (r : NewView) → faulty k ≡ false → IsIn r (w k).entered → IsValidNewView f faulty w r

-- a correct one is not faulty
pub told_good : (b t : Bool) → b ≡ false → (b || t) ≡ true → t ≡ true
told_good true t e h = absurd cc
told_good false t e h = h

-- what a replica that sent a COMMIT says of the number in that view or a later one
pub same_said : (f : ℕ) (faulty : ℕ → Bool) (w : World) → Facts f faulty w → (v n : ℕ) (d : List ℕ) (s t u : ℕ) (g : List ℕ) → faulty s ≡ false → Told (w s).sent 4 s v n d
    → Told (w s).sent t s u n g ⊎ ((t ≡ 2) × Told (w s).offers 2 s u n g) → Carries f faulty w v n d u → v ≤ u → d ≡ g
same_said f faulty w facts v n d s t u g correct committed (inl sent) carries le = elim (cases_lt v u) [
  | inl lt ↦ let got = facts.follows s t v u n d g correct committed sent lt in got.4 d (carries s got.0 correct got.1 got.2 got.3 lt)
  | inr ge ↦ let e : u ≡ v = omega arith in facts.one s 4 t v n d g correct committed (subst (λ (x : ℕ). Told (w s).sent t s x n g) e sent)
]
same_said f faulty w facts v n d s t u g correct committed (inr offer) carries le = elim (cases_lt v u) [
  | inl lt ↦
      let got = facts.offered s u n g correct offer.1 in
      let choice = (facts.entered s got.0 correct got.1).choice in
      choice.once (primary f u) u n d g (carries s got.0 correct got.1 got.2 (choice.within (primary f u) u n g got.3).0 lt) got.3
  | inr ge ↦ let e : v ≡ u = omega arith in sym (facts.offered_one s 4 u n g d correct offer.1 (subst (λ (x : ℕ). Told (w s).sent 4 s x n d) e committed))
]

-- a certificate of that view or a later one has the digest
pub same_certificate : (f : ℕ) (faulty : ℕ → Bool) (w : World) → Facts f faulty w → QuorumsShare f faulty → (v u : ℕ) (d : List ℕ) (c : Certificate)
    → HasQuorum f faulty w v c.proposal.number d → IsValidCertificate f faulty w u c → Carries f faulty w v c.proposal.number d c.proposal.view → v ≤ c.proposal.view → d ≡ c.proposal.digest
same_certificate f faulty w facts few v u d c backers sound carries le =
    let votes = c.proposal ∷ c.prepares in
    let x = c.proposal.view in
    let n = c.proposal.number in
    let g = c.proposal.digest in
    let p = primary f x in
    let parts = and_parts (told votes 2 p x n g) (nat_le (2 * f) (count_below (λ k. not (k == p) && told votes 3 k x n g) (replicas f))) sound.backed in
    let enough : 2 * f ≤ count_below (λ k. not (k == p) && told votes 3 k x n g) (replicas f) = leb-true (2 * f) (count_below (λ k. not (k == p) && told votes 3 k x n g) (replicas f)) parts.1 in
    let below : p < replicas f = omega arith in
    let all = with_one (λ k. told votes 3 k x n g) p (replicas f) below in
    let got = few (λ k. (k == p) || told votes 3 k x n g) (λ k. faulty k || told (w k).sent 4 k v n d) (omega (arith, all, enough)) backers in
    let s = got.0 in
    let committed = told_good (faulty s) (told (w s).sent 4 s v n d) got.4 got.3 in
    elim (or_cases (s == p) (told votes 3 s x n g) got.2) [
      | inl e ↦
          let is_p : s ≡ p = eqb-true s p e in
          same_said f faulty w facts v n d s 2 x g got.4 committed (subst (λ (y : ℕ). WasSent faulty w 2 y x n g) (sym is_p) (sound.authentic 2 p x n g parts.0) got.4) carries le
      | inr h ↦ same_said f faulty w facts v n d s 3 x g got.4 committed (sound.authentic 3 s x n g h got.4) carries le
    ]

-- the step from all views below
step : (f : ℕ) (faulty : ℕ → Bool) (w : World) → Facts f faulty w → QuorumsShare f faulty → (v n : ℕ) (d : List ℕ) → HasQuorum f faulty w v n d
    → (u : ℕ) → ((x : ℕ) → x < u → Carries f faulty w v n d x) → Carries f faulty w v n d u
step f faulty w facts few v n d backers u before k r correct in_r view above lt =
    let new = facts.entered k r correct in_r in
    let got = few (λ s. list_any (λ m. m.sender == s) r.changes) (λ s. faulty s || told (w s).sent 4 s v n d) new.senders backers in
    let committed = told_good (faulty got.0) (told (w got.0).sent 4 got.0 v n d) got.4 got.3 in
    let change = change_of r.changes got.0 got.2 in
    let m = change.0 in
    let correct_m : faulty m.sender ≡ false = subst (λ (s : ℕ). faulty s ≡ false) (sym change.2) got.4 in
    let committed_m : Told (w m.sender).sent 4 m.sender v n d = subst (λ (s : ℕ). Told (w s).sent 4 s v n d) (sym change.2) committed in
    let later : v < m.view = subst (λ (x : ℕ). v < x) (sym (new.views m change.1 ∙ view)) lt in
    elim (facts.covers m.sender v n d m correct_m (new.sent m change.1 correct_m) committed_m later) [
      | inl low ↦ let le = new.choice.stable m change.1 in absurd (omega (arith, low, le, above))
      | inr has ↦
          let c = has.0 in
          let top = new.choice.highest m c change.1 has.1 (subst (λ (x : ℕ). r.min_s < x) (sym has.2) above) in
          let b = top.1 in
          let sound = new.valid top.0 b top.2 top.3 in
          let number : b.proposal.number ≡ n = top.4 ∙ has.2 in
          let under : b.proposal.view < u = subst (λ (x : ℕ). b.proposal.view < x) view sound.earlier in
          let same : d ≡ b.proposal.digest = same_certificate f faulty w facts few v r.view d b
          (subst (λ (x : ℕ). HasQuorum f faulty w v x d) (sym number) backers) sound
          (subst (λ (x : ℕ). Carries f faulty w v x d b.proposal.view) (sym number) (before b.proposal.view under))
          (omega (arith, has.3, top.5)) in
          let at_u : Told r.proposals 2 (primary f u) u c.proposal.number b.proposal.digest = subst (λ (x : ℕ). Told r.proposals 2 (primary f x) x c.proposal.number b.proposal.digest) view top.6 in
          let at_n : Told r.proposals 2 (primary f u) u n b.proposal.digest = subst (λ (x : ℕ). Told r.proposals 2 (primary f u) u x b.proposal.digest) has.2 at_u in
          subst (λ (e : List ℕ). Told r.proposals 2 (primary f u) u n e) (sym same) at_n
    ]

below_all : (f : ℕ) (faulty : ℕ → Bool) (w : World) → Facts f faulty w → QuorumsShare f faulty → (v n : ℕ) (d : List ℕ) → HasQuorum f faulty w v n d
    → (N u : ℕ) → u < N → Carries f faulty w v n d u
below_all f faulty w facts few v n d backers zero u lt = absurd (omega arith)
below_all f faulty w facts few v n d backers (suc N) u lt = step f faulty w facts few v n d backers u (λ x under. below_all f faulty w facts few v n d backers N x (omega arith))

-- the key lemma
pub carried : (f : ℕ) (faulty : ℕ → Bool) (w : World) → Facts f faulty w → QuorumsShare f faulty → (v n : ℕ) (d : List ℕ) → HasQuorum f faulty w v n d → (u : ℕ) → Carries f faulty w v n d u
carried f faulty w facts few v n d backers u = below_all f faulty w facts few v n d backers (suc u) u (omega arith)

later_same : (f : ℕ) (faulty : ℕ → Bool) (w : World) → Facts f faulty w → QuorumsShare f faulty → (v u n : ℕ) (d e : List ℕ) → HasQuorum f faulty w v n d → HasQuorum f faulty w u n e → v ≤ u → d ≡ e
later_same f faulty w facts few v u n d e first second le =
    let got = few (λ s. faulty s || told (w s).sent 4 s v n d) (λ s. faulty s || told (w s).sent 4 s u n e) first second in
    let s = got.0 in
    same_said f faulty w facts v n d s 4 u e got.4 (told_good (faulty s) (told (w s).sent 4 s v n d) got.4 got.2)
    (inl (told_good (faulty s) (told (w s).sent 4 s u n e) got.4 got.3)) (carried f faulty w facts few v n d first u) le

-- two quorums of COMMITs for a number, in whatever views
pub same_digest : (f : ℕ) (faulty : ℕ → Bool) (w : World) → Facts f faulty w → QuorumsShare f faulty → (v u n : ℕ) (d e : List ℕ) → HasQuorum f faulty w v n d → HasQuorum f faulty w u n e → d ≡ e
same_digest f faulty w facts few v u n d e first second = elim (cases_lt u v) [
  | inl lt ↦ sym (later_same f faulty w facts few u v n e d second first (omega arith))
  | inr ge ↦ later_same f faulty w facts few v u n d e first second ge
]
