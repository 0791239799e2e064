use Rattle.bfs_outcome.proofs.Clients.{answers_go_to_clients, clients_stay}
use Rattle.bfs_outcome.proofs.laws.answers_go_to_clients.Goals as goal

pub returns : goal.returns
returns c = record { answers = answers_go_to_clients; table = clients_stay }
