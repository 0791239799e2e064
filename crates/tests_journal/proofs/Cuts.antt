-- A disk in memory does what the calls of a disk are to do.
use Rattle.std.proofs.Common.{◌≡◌, inl, inr, ℕ, ◌-◌, ◌≤◌, List, ◌++◌, length, take, refl, sym, ◌∙◌, ap, append-nil, arith}
use Rattle.std.proofs.Math.Seq.{take-append-add}
use Rattle.std.proofs.lemmas.Bool.{cases_lt}
use Rattle.std.proofs.lemmas.List.{length-take, take-append-le, take-take, take_all}
use Rattle.bfs_journal.specs.Disk.{Elapses, Follows, Grown, Only}
use Rattle.tests_journal.specs.Cuts.{LeavesFront}

-- a front of a front
front_of_front : (m n : ℕ) (bytes : List ℕ) → (count : ℕ) × (take m (take n bytes) ≡ take count bytes)
front_of_front m n bytes = elim (cases_lt m n) [
  | inl below ↦ (m, take-take m n bytes (omega (arith, below)))
  | inr above ↦ (n, take_all m (take n bytes) (omega (arith, above, length-take n bytes)))
]

-- what a cut leaves behind the old bytes
behind : (old more : List ℕ) (count : ℕ) → length old ≤ count → take count (old ++ more) ≡ old ++ take (count - length old) more
behind old more count long =
    ap (λ (k : ℕ). take k (old ++ more)) (omega (arith, long) ∙ refl) ∙ take-append-add old more (count - length old)

pub grows : (synced k : ℕ) (old new bytes : List ℕ) → new ≡ old ++ take k bytes → Follows (Grown bytes) (LeavesFront synced old) (LeavesFront synced new)
grows synced k old new bytes is c left = elim (cases_lt left.0 (length old)) [
  | inl within ↦
      let same : c ≡ take left.0 old = left.2 ∙ ap (take left.0) is ∙ take-append-le left.0 old (take k bytes) (omega (arith, within)) in
      (c, (left.0, left.1, same), (0, sym (append-nil c)))
  | inr past ↦
      let cut = front_of_front (left.0 - length old) k bytes in
      let same : c ≡ old ++ take cut.0 bytes = left.2 ∙ ap (take left.0) is ∙ behind old (take k bytes) left.0 past ∙ ap (λ (l : List ℕ). old ++ l) cut.1 in
      (old, (left.0, left.1, sym (take_all left.0 old past)), (cut.0, same))
]

-- a write that refused at once
pub stays : (synced : ℕ) (old new bytes : List ℕ) → new ≡ old → Follows (Grown bytes) (LeavesFront synced old) (LeavesFront synced new)
stays synced old new bytes is = grows synced 0 old new bytes (is ∙ sym (append-nil old))

-- all bytes
pub grows_whole : (synced : ℕ) (old new bytes : List ℕ) → new ≡ old ++ bytes → Follows (Grown bytes) (LeavesFront synced old) (LeavesFront synced new)
grows_whole synced old new bytes is =
    grows synced (length bytes) old new bytes (is ∙ ap (λ (l : List ℕ). old ++ l) (sym (take_all (length bytes) bytes (omega arith))))

pub lies : (synced : ℕ) (bytes : List ℕ) → synced ≡ length bytes → Only (LeavesFront synced bytes) bytes
lies synced bytes is c left = left.2 ∙ take_all left.0 bytes (omega (arith, is, left.1))

pub fewer : (synced now : ℕ) (bytes c : List ℕ) → synced ≤ now → LeavesFront now bytes c → LeavesFront synced bytes c
fewer synced now bytes c more left = (left.0, omega (arith, more, left.1), left.2)

pub no_time : (past now : List ℕ → Type 0) → Elapses 0 0 (λ _. past) (λ _. now) now
no_time past now = record { later = omega arith; nothing_else = λ t c before left. inr left }
