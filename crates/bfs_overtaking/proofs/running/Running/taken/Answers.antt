-- What the call writes is at home, and when it has left, the core is one whose call is taken.
use Rattle.std.proofs.Common.{◌≡◌, None, ap, sym, subst, ◌∙◌}
use Rattle.bfs_overtaking.specs.Inside.Claims.{AreClaimed}
use Rattle.bfs_overtaking.specs.Machine.{Machine, after_take, take_refusal}
use Rattle.bfs_overtaking.proofs.Changing.{AtCall, seen_of, there_to_take, owned_to_take, taken_seen, taken_running}
use Rattle.bfs_overtaking.proofs.Holding.{taken_claimed}
use Rattle.bfs_overtaking.proofs.running.Running.taken.Goals.{After-index_mut-call}
use Rattle.bfs_overtaking.proofs.running.Running.taken.Goals as goal

none : (c : After-index_mut-call) → take_refusal (seen_of c.self.inside) c.args.number ≡ None
none c = ap (λ m. take_refusal m c.args.number) c.self.view_is ∙ c.requires

abbrev at : After-index_mut-call → AtCall
at c = record {
  core = c.self.inside;
  run = c.self.invariant.running;
  number = c.args.number;
  call = c.index_mut-call.result.now;
  there = there_to_take c.self.inside c.args.number c.index_mut-call.result.now (none c) c.index_mut-call.ensures.value;
}

pub lend-requires : goal.lend-requires
lend-requires c = owned_to_take (at (goal.at.lend-requires c).After-index_mut-call) (none (goal.at.lend-requires c).After-index_mut-call)

pub invariant_of-result : goal.invariant_of-result
invariant_of-result c =
    let taken = (goal.at.invariant_of-result c).After-index_mut-call in
    record {
      running = taken_running (at taken) (none taken) c.lend.new.tree c.in_ok-loans.loans c.in_ok-loans.ensures;
      claimed = subst (λ (m : Machine). AreClaimed c.self.inside.claims m.standings) (sym (taken_seen (at taken) (none taken) c.lend.new.tree c.in_ok-loans.loans c.in_ok-loans.ensures))
          (taken_claimed c.self.inside.claims (seen_of c.self.inside) c.args.number (none taken) c.self.invariant.claimed);
    }

pub returns : goal.returns
returns c =
    let taken = (goal.at.returns c).After-index_mut-call in
    taken_seen (at taken) (none taken) c.lend.new.tree c.in_ok-loans.loans c.in_ok-loans.ensures ∙ ap (λ m. after_take m c.args.number) c.self.view_is
