-- All calls wait, as at the start of the group.
use Rattle.std.proofs.Common.{Some, List, map, ap, subst}
use Rattle.bfs_footprint.specs.Seen.{footprint_seen}
use Rattle.bfs_footprint.specs.declared.footprints.Footprint.{Footprint}
use Rattle.bfs_overtaking.specs.Inside.Claims.{AreClaimed, all_wait}
use Rattle.bfs_overtaking.proofs.Beginning.{new_claimed, new_seen, new_running}
use Rattle.bfs_overtaking.proofs.machine.Core.of.Goals as goal

pub invariant_of-result : goal.invariant_of-result
invariant_of-result c =
    let a = c.args in
    let fs = a.footprints.items in
    let claims = c.in_ok-claims.claims in
    record {
      running = new_running a.part.now a.tree fs c.in_ok-calls.calls.items c.in_ok-calls.ensures c.requires.planned c.requires.whole c.requires.group;
      claimed = new_claimed a.part.now a.tree fs c.in_ok-calls.calls.items c.in_ok-calls.ensures c.requires.planned claims
          (subst (λ (gs : List Footprint). AreClaimed claims (all_wait (map footprint_seen gs))) c.as_slice.ensures.value c.in_ok-claims.ensures);
    }

pub returns : goal.returns
returns c =
    let a = c.args in
    ap Some (new_seen a.part.now a.tree a.footprints.items c.in_ok-calls.calls.items c.in_ok-calls.ensures c.requires.planned)
