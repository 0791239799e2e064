use Rattle.std.proofs.Common.{subst}
use Rattle.bfs_service.specs.Acting.{IsTaking}
use Rattle.bfs_service.specs.Journals.{Doing, Goes}
use Rattle.bfs_service.proofs.Doing.{goes_both}
use Rattle.bfs_service.proofs.service.Service.take_requests.Goals as goal

pub returns : goal.returns
returns g c =
    let last = c.give_requests.new.self in
    subst (λ (a : Doing). Goes IsTaking a last) c.in_ok-wanted.ensures
    (goes_both IsTaking c.take_wanted.new.self c.answer_again.new.self last c.in_ok-answer_again.ensures c.in_ok-give_requests.ensures)
