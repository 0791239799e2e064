use Rattle.std.proofs.Common.{◌≡◌, ◌∙◌, ◌++◌, ℕ, suc, Option, Some, None, inl, inr, refl, subst, sym, ap, arith}
use Rattle.std.specs.Option.{option_map}
use Rattle.bfs_node.specs.Advancing.{Acts, StopsAt, advanced, advancing, followed_by}
use Rattle.bfs_node.specs.Executing.{Runs}
use Rattle.bfs_node.specs.Nodes.{Messages, Node, Outcome}
use Rattle.bfs_node.specs.Inside.Acting.{HasAdvanced}
use Rattle.bfs_node.proofs.node.Node.advance.Goals as goal
use borrow.Author.Count.{below_more}

further : (Executes : Node → Type 0) (node now : Node) (sent : Messages) (done : Outcome) → HasAdvanced Executes node sent now → Executes now → advancing now ≡ Some done
    → HasAdvanced Executes node (sent ++ done.sent) done.now
further Executes node now sent done so_far here is = record {
  batches = suc so_far.batches;
  comes = ap (λ (all : Outcome). followed_by all (advancing all.now)) so_far.comes ∙ ap (followed_by (record { now = now; sent = sent })) is;
  executes = λ k lt.
      below_more (λ (n : ℕ). Executes (advanced n node).now) so_far.batches so_far.executes (subst Executes (sym (ap (λ (all : Outcome). all.now) so_far.comes)) here) k (omega (arith, lt));
}

goes_further : (Executes : Node → Type 0) (node now next : Node) (sent more : Messages) → HasAdvanced Executes node sent now → Executes now → Acts (advancing now) now next (Some more)
    → HasAdvanced Executes node (sent ++ more) next
goes_further Executes node now next sent more so_far here did = go (advancing now) refl did
  where
    go : (done : Option Outcome) → advancing now ≡ done → Acts done now next (Some more) → HasAdvanced Executes node (sent ++ more) next
    go None is did = absurd (let never : Some more ≡ None = did.1 in cc)
    go (Some done) is did =
        let same : more ≡ done.sent = let e : Some more ≡ Some done.sent = did.1 in cc in
        subst (λ (n : Node). HasAdvanced Executes node (sent ++ more) n) (sym did.0)
        (subst (λ (all : Messages). HasAdvanced Executes node (sent ++ all) done.now) (sym same) (further Executes node now sent done so_far here is))

pub loop-preserved : goal.loop-preserved
loop-preserved g c =
    let Executes = Runs g.G.Gate.ran c.args.executor.engine in
    let did = subst (λ given. Acts (advancing c.loop.self) c.loop.self c.advance_once.new.self (option_map (λ all. all.items) given)) c.in-Some-2.is c.in_ok-more.ensures.done in (
      subst (λ (sent : Messages). HasAdvanced Executes c.args.self.now sent c.advance_once.new.self) (sym c.in_ok-append-in-Some-2.ensures.items)
          (goes_further Executes c.args.self.now c.loop.self c.advance_once.new.self c.loop.sent.items c.in-Some-2.more.items c.loop.invariant.0 c.in_ok-more.ensures.runs did),
      c.in_ok-more.ensures.live,
    )

pub returns-in_err-append-in-Some-2-clause-short : goal.returns-in_err-append-in-Some-2-clause-short
returns-in_err-append-in-Some-2-clause-short g c memory =
    let Executes = Runs g.G.Gate.ran c.args.executor.engine in
    let did = subst (λ given. Acts (advancing c.loop.self) c.loop.self c.advance_once.new.self (option_map (λ all. all.items) given)) c.in-Some-2.is c.in_ok-more.ensures.done in
    let far = goes_further Executes c.args.self.now c.loop.self c.advance_once.new.self c.loop.sent.items c.in-Some-2.more.items c.loop.invariant.0 c.in_ok-more.ensures.runs did in
    record { batches = far.batches; stops = inr (subst (λ (n : Node). StopsAt n c.advance_once.new.self) (sym (ap (λ (all : Outcome). all.now) far.comes)) (inl refl)) }
