-- Bytes that are written one part after another.
use Rattle.std.proofs.Common.{◌∙◌, ℕ, ◌+◌, ◌-◌, List, [], Option, Some, None, length, take, drop, refl, sym, subst, append-nil, take-append-drop}
use Rattle.std.specs.Io.KnownBytes.{Appends, Keeps}
use Rattle.std.proofs.KnownBytes.{Appends-nil, Appends-trans}
use Rattle.bfs_filter.specs.Output.{AppendsFront}
use Rattle.std.proofs.lemmas.List.{take_rest}
use lib.Seq.{take-add}

-- one part more, of those that are left
pub written_more : (a b c : Option (List ℕ)) (at n : ℕ) (bytes : List ℕ) → Appends a b (take at bytes)
    → Appends b c (take n (take (length bytes - at) (drop at bytes))) → Appends a c (take (at + n) bytes)
written_more a b c at n bytes first second =
    let part : Appends b c (take n (drop at bytes)) = subst (λ (left : List ℕ). Appends b c (take n left)) (take_rest bytes at) second in
    subst (Appends a c) (sym (take-add at n bytes)) (Appends-trans a b c (take at bytes) (take n (drop at bytes)) first part)

pub written_kept : (a b c : Option (List ℕ)) (xs : List ℕ) → Appends a b xs → Keeps b c → Appends a c xs
written_kept None b c xs p q = tt
written_kept (Some x) None c xs p q = absurd p
written_kept (Some x) (Some y) None xs p q = absurd q
written_kept (Some x) (Some y) (Some z) xs p q = q ∙ p

-- writing stopped behind a part
pub front_behind : (a b c : Option (List ℕ)) (at n : ℕ) (bytes : List ℕ) → Appends a b (take at bytes)
    → Appends b c (take n (take (length bytes - at) (drop at bytes))) → AppendsFront a c bytes
front_behind a b c at n bytes first second = record {
  front = take (at + n) bytes;
  rest = drop (at + n) bytes;
  cut = sym (take-append-drop (at + n) bytes);
  written = written_more a b c at n bytes first second;
}

pub front_at : (a b c : Option (List ℕ)) (at : ℕ) (bytes : List ℕ) → Appends a b (take at bytes) → Keeps b c → AppendsFront a c bytes
front_at a b c at bytes first kept = record {
  front = take at bytes;
  rest = drop at bytes;
  cut = sym (take-append-drop at bytes);
  written = written_kept a b c (take at bytes) first kept;
}

pub front_none : (a : Option (List ℕ)) (bytes : List ℕ) → AppendsFront a a bytes
front_none a bytes = record { front = []; rest = bytes; cut = refl; written = Appends-nil a }

pub front_all : (a b c : Option (List ℕ)) (bytes : List ℕ) → Appends a b bytes → Keeps b c → AppendsFront a c bytes
front_all a b c bytes first kept = record { front = bytes; rest = []; cut = sym (append-nil bytes); written = written_kept a b c bytes first kept }
