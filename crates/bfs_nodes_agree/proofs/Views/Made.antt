-- The VIEW-CHANGE that is made tells all that is prepared.
use Rattle.std.proofs.Common.{◌≡◌, ℕ, ◌+◌, ◌*◌, ◌≤◌, ◌==◌, true, ◌||◌, List, refl, arith}
use Rattle.std.specs.Prelude.{nat_le}
use Rattle.std.proofs.lemmas.Bool.{and_parts}
use Rattle.bfs_votes.specs.Votes.{told, primary, backups, is_backed, prepared}
use Rattle.bfs_order.specs.Laws.Logs.{IsWindowed, IsInWindow}
use Rattle.bfs_order.specs.Replica.States.{State, known}
use Rattle.bfs_view_change.specs.Changes.Making.{certificates}
use Rattle.bfs_view_change.specs.Laws.Made.{MadeHasPrepared}
use Rattle.bfs_nodes_agree.specs.Views.Changes.{told_certificate}
use Rattle.bfs_nodes_agree.specs.Views.Laws.{MadeTellsWhatIsPrepared}
use Rattle.bfs_nodes_agree.proofs.Views.Lists.{is_in, at_in, in_map, told_in}

-- what is prepared is in the window
in_window : (s : State) → IsWindowed s → (v n : ℕ) (d : List ℕ) → prepared s.f s.me (known s) v n d ≡ true → n ≤ s.low + 32
in_window s windowed v n d ready =
    let p = primary s.f v in
    let a = and_parts (is_backed s.f (known s) v n d) ((s.me == p) || told (known s) 3 s.me v n d) ready in
    let b = and_parts (told (known s) 2 p v n d) (nat_le (2 * s.f) (backups s.f (known s) v n d)) a.0 in
    let got = told_in (known s) 2 p v n d b.0 in
    let to = (at_in (IsInWindow s.low) (known s) windowed got.0 got.1).to in
    let same = got.2.number in
    omega (arith, to, same)

pub made_tells : MadeHasPrepared → MadeTellsWhatIsPrepared
made_tells made s view windowed =
    record {
      stable = refl;
      all = λ v n d ready lt.
          let got = made s v n d ready lt (in_window s windowed v n d ready) in (
            told_certificate got.0,
            in_map told_certificate (certificates s) got.0 (is_in (certificates s) got.0 got.1),
            got.2,
            got.3,
          );
    }
