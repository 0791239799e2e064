use Rattle.std.proofs.Common.{refl, sym, subst}
use Rattle.bfs_service.specs.Journals.{Doing, Journals, all_told, with_no_steps}
use Rattle.bfs_service.proofs.Doing.{journals_both, journals_none}
use Rattle.bfs_service.proofs.service.Service.take_turn.Goals as goal

pub returns-clause-journals : goal.returns-clause-journals
returns-clause-journals g c =
    let done = c.go_on.new.self in
    let last = c.tell.new.self in
    let told : Journals done last = subst (λ (d : Doing). Journals done d) (sym c.in_ok-parcels.ensures.left) (journals_none done (all_told done) refl refl refl) in
    let ordered : Journals c.take_requests.new.self last = subst (λ (d : Doing). Journals d last) c.self-2.view_is
    (journals_both c.self-2.inside.actor c.deliver_all.new.self last c.in_ok-deliver_all.ensures.journals
    (journals_both c.deliver_all.new.self done last c.in_ok-go_on.ensures.journals told)) in
    subst (λ (d : Doing). Journals (with_no_steps d) last) c.self.view_is
    (subst (λ (d : Doing). Journals d last) c.begin.ensures
    (journals_both c.begin.new.self c.take_requests.new.self last c.in_ok-take_requests.ensures.journals ordered))
