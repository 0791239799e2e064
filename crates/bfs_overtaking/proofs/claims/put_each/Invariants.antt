use Rattle.std.proofs.Common.{◌≡◌, ℕ, true, if◌then◌else◌, drop, Option}
use Rattle.std.specs.BTreeSet.{contains}
use Rattle.bfs_overtaking.specs.Inside.Claims.{claim_cmp, is_among_claims}
use Rattle.bfs_overtaking.proofs.claims.put_each.Given as goal

-- with the claims that are left, those of all fileids are there
abbrev pub invariant-loop-id : goal.invariant-loop-id
invariant-loop-id l = (other : Option ℕ) (k : ℕ) → (if is_among_claims (drop l.id-index l.ids) l.place other k then true else contains claim_cmp l.claims (other, k)) ≡ (if is_among_claims l.ids l.place other k then true else contains claim_cmp l.fn.claims (other, k))
