-- A certificate that is installed proposes nothing.
use Rattle.std.proofs.Common.{◌≤◌, Bool, true, false, cond, refl, sym, ◌∙◌, arith}
use Rattle.std.specs.Prelude.{nat_lt}
use Rattle.std.specs.List.{list_all}
use Rattle.std.proofs.lemmas.Bool.{and_parts}
use Rattle.bfs_log.specs.Certificates.{checkpoints_in, vouches}
use Rattle.bfs_log.specs.Logs.{greatest_proposed, headers, kept_after}
use Rattle.bfs_order.specs.Replica.Installing.{certified}
use Rattle.bfs_order.specs.Replica.States.{known}
use Rattle.bfs_agreement.specs.Moves.{kept_above}
use Rattle.bfs_agreement.proofs.Public.{kept_told}
use Rattle.bfs_nodes_agree.specs.Orders.Following.{HaveTheSameVotes}
use Rattle.bfs_nodes_agree.proofs.Public.{dropped, each_five, told_same}
use Rattle.bfs_liveness.specs.LawsOfWindows.{CatchingUpProposesNothing}
use Rattle.bfs_liveness.proofs.Filled.{greatest_under, told_le}

pub catching_up_proposes_nothing : CatchingUpProposesNothing
catching_up_proposes_nothing keys s c shown =
    let n = c.number in
    let g = greatest_proposed s.view (known s) in
    let all = (and_parts (list_all (vouches keys s.f n c.digest) (checkpoints_in c)) _ shown).0 in
    let same : HaveTheSameVotes (headers (certified s.log c)) (kept_above n (known s)) =
    each_five keys s.f n c.digest (kept_after n c.digest s.log) (checkpoints_in c) (kept_above n (known s)) all (dropped n c.digest s.log (known s) (λ test votes. refl)) in
    let fewer : greatest_proposed s.view (headers (certified s.log c)) ≤ g = greatest_under s.view (headers (certified s.log c)) g (λ k top d told.
    told_le s.view (known s) k top d (kept_told n (known s) 2 k s.view top d (sym (told_same (headers (certified s.log c)) (kept_above n (known s)) same 2 k s.view top d (omega arith)) ∙ told))) in
    let le : (b : Bool) → greatest_proposed s.view (headers (cond b (certified s.log c) s.log)) ≤ g = λ b.
    elim b as (λ b. greatest_proposed s.view (headers (cond b (certified s.log c) s.log)) ≤ g) [ true ↦ fewer | false ↦ omega arith ] in
    let under = le (nat_lt s.low n) in
    omega (arith, under)
