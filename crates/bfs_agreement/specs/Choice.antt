-- What the primary of a new view makes of VIEW-CHANGEs (OSDI 1999 section 4.4).
use Rattle.std.specs.Prelude.{ℕ, zero, suc, ◌+◌, ◌-◌, ◌==◌, max, List, [], ◌∷◌, ◌++◌, Option, Some, None, nat_lt, if◌then◌else◌}
use Rattle.bfs_votes.specs.Votes.{Header, primary}
use Rattle.bfs_agreement.specs.Histories.{Certificate, ViewChange, NewView}
use Rattle.bfs_votes.specs.Tags.{pre_prepare_tag}

-- the latest stable number
abbrev pub latest_stable : List ViewChange → ℕ
latest_stable [] = 0
latest_stable (m ∷ ms) = max m.stable (latest_stable ms)

abbrev pub all_certificates : List ViewChange → List Certificate
all_certificates [] = []
all_certificates (m ∷ ms) = m.certificates ++ all_certificates ms

-- the greatest number that has a certificate, and at least that one
abbrev pub greatest_certified : (least : ℕ) → List Certificate → ℕ
greatest_certified least [] = least
greatest_certified least (c ∷ cs) = max c.proposal.number (greatest_certified least cs)

-- of two, the one of the higher view; the first where they tie
abbrev pub higher : Certificate → Option Certificate → Certificate
higher c None = c
higher c (Some b) = if nat_lt c.proposal.view b.proposal.view then b else c

-- the certificate of a number with the highest view
abbrev pub highest_of : List Certificate → (number : ℕ) → Option Certificate
highest_of [] number = None
highest_of (c ∷ cs) number = if c.proposal.number == number then Some (higher c (highest_of cs number)) else highest_of cs number

-- the digest of the null batch where there is no certificate
abbrev pub digest_or : (null : List ℕ) → Option Certificate → List ℕ
digest_or null None = null
digest_or null (Some c) = c.proposal.digest

-- PRE-PREPAREs of the view for so many numbers from one on
abbrev pub proposals_from : (f view : ℕ) (null : List ℕ) (cs : List Certificate) (number count : ℕ) → List Header
proposals_from f view null cs number zero = []
proposals_from f view null cs number (suc count) =
    record { tag = pre_prepare_tag; sender = primary f view; view = view; number = number; digest = digest_or null (highest_of cs number) }
    ∷ proposals_from f view null cs (number + 1) count

abbrev pub chosen : (f view : ℕ) (null : List ℕ) → List ViewChange → NewView
chosen f view null ms =
    let cs = all_certificates ms in
    let min_s = latest_stable ms in
    let top = greatest_certified min_s cs in
    record { view = view; min_s = min_s; top = top; proposals = proposals_from f view null cs (min_s + 1) (top - min_s); changes = ms }
