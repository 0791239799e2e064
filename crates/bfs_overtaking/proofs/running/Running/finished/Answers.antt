-- The call can be carried out, and when it has been, the core is one whose call is finished.
use Rattle.std.proofs.Common.{◌-◌, ◌≡◌, None, false, true, ap, sym, subst, ◌∙◌, refl, Vec}
use Rattle.bfs_model.specs.Server.Tree.{Inodes}
use Rattle.bfs_model.specs.Server.Footprints.{IsFreshFor, footprint_of}
use Rattle.bfs_model.specs.Server.Conflicts.{is_whole}
use Rattle.bfs_footprint.specs.Seen.{footprint_seen}
use Rattle.bfs_tree.specs.Reach.{Knows}
use Rattle.bfs_tree.specs.Slots.{Slots}
use Rattle.bfs_tree.specs.Tree.{reach_of}
use Rattle.bfs_handover.specs.declared.job.Job.{Job}
use Rattle.bfs_overtaking.specs.Inside.Claims.{AreClaimed, AreSet}
use Rattle.bfs_overtaking.specs.Inside.Lent.{IsCarriedOut}
use Rattle.bfs_overtaking.specs.Machine.{Machine, after_finish, finish_refusal}
use Rattle.bfs_overtaking.proofs.Holding.{finished_claimed}
use Rattle.bfs_overtaking.proofs.Changing.{AtCall, UnderWay, CarriesOutAlone, seen_of, foot, there_to_finish, in_batch, its_request, finished_seen, finished_running, alone_is, knows_all, its_fresh, can_run_known, is_out, distinct, own_is_home}
use Rattle.bfs_overtaking.proofs.running.Running.finished.Goals.{In-Taken, then-is_whole+in_ok-reply, else-is_whole+in_ok-reply-2}
use Rattle.bfs_overtaking.proofs.running.Running.finished.Goals as goal

none : (c : In-Taken) → finish_refusal (seen_of c.self.inside) c.args.number ≡ None
none c = ap (λ m. finish_refusal m c.args.number) c.self.view_is ∙ c.requires

abbrev at : In-Taken → AtCall
at c = record {
  core = c.self.inside;
  run = c.self.invariant.running;
  number = c.args.number;
  call = c.index_mut-call.result.now;
  there = there_to_finish c.self.inside c.args.number c.index_mut-call.result.now (none c) c.index_mut-call.ensures.value;
}

abbrev way : (c : In-Taken) → UnderWay (at c)
way c = record { none = none c; loans = c.in-Taken.inodes; lent = sym c.replace.ensures.value ∙ c.in-Taken.is }

pub request-requires-clause-within : goal.request-requires-clause-within
request-requires-clause-within c = let taken = (goal.at.request-requires-clause-within c).In-Taken in in_batch (at taken) (way taken)

pub carry_out_alone-requires-clause-known : goal.carry_out_alone-requires-clause-known
carry_out_alone-requires-clause-known c =
    let taken = (goal.at.carry_out_alone-requires-clause-known c).In-Taken in
    let asked = its_request (at taken) (way taken) c.request.result.now c.ordinal_of.result c.request.ensures c.ordinal_of.ensures in
    let all = sym c.is_whole.ensures ∙ c.if-is_whole.true in
    subst (λ (n : Inodes). Knows (reach_of c.self.inside.tree) (footprint_of n c.ordinal_of.result c.self.inside.part.time c.request.result.now)) (own_is_home (at taken) (way taken) asked all)
    (knows_all (at taken) (way taken) asked all)

pub carry_out_alone-requires-clause-fresh : goal.carry_out_alone-requires-clause-fresh
carry_out_alone-requires-clause-fresh c =
    let taken = (goal.at.carry_out_alone-requires-clause-fresh c).In-Taken in
    let asked = its_request (at taken) (way taken) c.request.result.now c.ordinal_of.result c.request.ensures c.ordinal_of.ensures in
    subst (λ (n : Inodes). IsFreshFor n c.ordinal_of.result (footprint_of n c.ordinal_of.result c.self.inside.part.time c.request.result.now))
    (own_is_home (at taken) (way taken) asked (sym c.is_whole.ensures ∙ c.if-is_whole.true)) (its_fresh (at taken) (way taken) asked)

pub carry_out-requires-clause-can_run : goal.carry_out-requires-clause-can_run
carry_out-requires-clause-can_run c =
    let taken = (goal.at.carry_out-requires-clause-can_run c).In-Taken in
    let asked = its_request (at taken) (way taken) c.request.result.now c.ordinal_of.result c.request.ensures c.ordinal_of.ensures in
    record {
      known = can_run_known (at taken) (way taken) asked (sym c.is_whole.ensures ∙ c.if-is_whole.false);
      fresh = its_fresh (at taken) (way taken) asked;
    }

pub carry_out-requires-clause-out : goal.carry_out-requires-clause-out
carry_out-requires-clause-out c =
    let taken = (goal.at.carry_out-requires-clause-out c).In-Taken in
    let asked = its_request (at taken) (way taken) c.request.result.now c.ordinal_of.result c.request.ensures c.ordinal_of.ensures in
    record { distinct = distinct (at taken) (way taken) asked; lent_out = is_out (at taken) (way taken) asked }

abbrev job : goal.Joined-call → Job
job c = record { number = c.args.number; request = c.request.result; ordinal = c.ordinal_of.result; time = c.self.inside.part.time; inodes = c.in-Taken.inodes }

-- the call has been carried out, on the whole tree or on what it was lent
carried : (c : goal.Joined-call)
    → (is_whole (footprint_seen c.index_mut-call.result.now.footprint) ≡ true → CarriesOutAlone c.self.inside.tree c.in-Taken.inodes c.ordinal_of.result c.self.inside.part.time c.request.result.now)
    → IsCarriedOut c.self.inside.tree c.if-is_whole.tree (job c) c.if-is_whole.reply.items
carried c alone = elim c.if-is_whole.branch [
  | then-is_whole+in_ok-reply w ↦
      subst (λ (s : Slots). IsCarriedOut c.self.inside.tree s (job c) c.if-is_whole.reply.items) (sym w.tree-is)
      (subst (λ (v : Vec _ _). IsCarriedOut c.self.inside.tree w.carry_out_alone.new.tree (job c) v.items) (sym w.reply-is)
      (alone (sym c.is_whole.ensures ∙ w.if-is_whole.true) w.carry_out_alone.new.tree (job c) _ refl refl refl refl w.in_ok-reply.ensures.done w.in_ok-reply.ensures.reach))
  | else-is_whole+in_ok-reply-2 w ↦
      subst (λ (s : Slots). IsCarriedOut c.self.inside.tree s (job c) c.if-is_whole.reply.items) (sym w.tree-is)
      (subst (λ (v : Vec _ _). IsCarriedOut c.self.inside.tree w.carry_out.new.tree (job c) v.items) (sym w.reply-is) w.in_ok-reply-2.ensures)
]

pub invariant_of-result : goal.invariant_of-result
invariant_of-result c =
    let taken = (goal.at.invariant_of-result c).In-Taken in
    let asked = its_request (at taken) (way taken) c.request.result.now c.ordinal_of.result c.request.ensures c.ordinal_of.ensures in
    let done = carried c (alone_is (at taken) (way taken) asked) in
    let claims = c.remove.new.self in
    record {
      running = finished_running (at taken) (way taken) asked c.if-is_whole.tree c.if-is_whole.reply done.answers done.still_out;
      claimed = subst (λ (m : Machine). AreClaimed claims m.standings) (sym (finished_seen (at taken) (way taken) asked c.if-is_whole.tree c.if-is_whole.reply done.answers done.still_out))
          (finished_claimed c.self.inside.claims claims (seen_of c.self.inside) c.args.number c.self.invariant.claimed
          (subst (AreSet false c.self.inside.claims claims (c.args.number - c.self.inside.part.first)) (sym (foot (at taken))) c.remove.ensures));
    }

pub returns : goal.returns
returns c =
    let taken = (goal.at.returns c).In-Taken in
    let asked = its_request (at taken) (way taken) c.request.result.now c.ordinal_of.result c.request.ensures c.ordinal_of.ensures in
    let done = carried c (alone_is (at taken) (way taken) asked) in
    finished_seen (at taken) (way taken) asked c.if-is_whole.tree c.if-is_whole.reply done.answers done.still_out ∙ ap (λ m. after_finish m c.args.number) c.self.view_is
