use Rattle.bfs_order.proofs.Cleaning.{clean_kept, clean_always}
use Rattle.bfs_order.proofs.laws.logs_are_clean.Goals as goal

pub returns : goal.returns
returns c = record { kept = clean_kept c.what_is_signed_passes.ensures.replicas; always = clean_always c.what_is_signed_passes.ensures.replicas }
