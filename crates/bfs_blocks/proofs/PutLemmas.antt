-- Bytes put over others, and zeros behind them.
use Rattle.std.proofs.Common.{◌≡◌, ℕ, ◌+◌, ◌-◌, ◌≤◌, min, List, [], ◌++◌, length, take, drop, replicate, sym, ap, ◌∙◌, inl, inr, arith}
use Rattle.std.proofs.lemmas.Bool.{cases_lt}
use Rattle.std.proofs.lemmas.List.{append-nil, append_assoc, drop-append-le, drop_all, length-append, length-drop, length-take, replicate-append-replicate, take-append-drop, take-append-le, take_all}
use Rattle.std.proofs.Math.Seq.{drop-append-add, take-append-add}
use Rattle.bfs_blocks.specs.Blocks.{put_at}

-- nothing put over them
pub put_none : (start : ℕ) (bytes : List ℕ) → put_at start [] bytes ≡ bytes
put_none start bytes = rw (append-nil (take start bytes)) (let e : start + 0 ≡ start = omega arith in ap (λ n. take start bytes ++ drop n bytes) e ∙ take-append-drop start bytes)

pub length_put : (start : ℕ) (put bytes : List ℕ) → start + length put ≤ length bytes → length (put_at start put bytes) ≡ length bytes
length_put start put bytes le =
    omega (arith, length-append (take start bytes ++ put) (drop (start + length put) bytes), length-append (take start bytes) put, length-take start bytes, length-drop (start + length put) bytes)

-- over bytes before others
pub put_first : (start : ℕ) (put bytes rest : List ℕ) → start + length put ≤ length bytes → put_at start put (bytes ++ rest) ≡ put_at start put bytes ++ rest
put_first start put bytes rest le =
    rw (take-append-le start bytes rest (omega arith), drop-append-le (start + length put) bytes rest le)
    (sym (append_assoc (take start bytes ++ put) (drop (start + length put) bytes) rest))

-- over bytes behind others
pub put_behind : (n start : ℕ) (put before bytes : List ℕ) → length before ≡ n → put_at (n + start) put (before ++ bytes) ≡ before ++ put_at start put bytes
put_behind n start put before bytes is =
    let e : n + start ≡ length before + start = omega (arith, is) in
    let f : n + start + length put ≡ length before + (start + length put) = omega (arith, is) in
    rw (f, e, take-append-add before bytes start, drop-append-add before bytes (start + length put))
    (append_assoc (before ++ take start bytes) put (drop (start + length put) bytes)
    ∙ append_assoc before (take start bytes) (put ++ drop (start + length put) bytes)
    ∙ ap (λ xs. before ++ xs) (sym (append_assoc (take start bytes) put (drop (start + length put) bytes))))

-- over bytes up to their end, and then over others from their start
put_across : (start n : ℕ) (put bytes rest : List ℕ) → n ≤ length put → start + n ≡ length bytes → put_at start (take n put) bytes ++ put_at 0 (drop n put) rest ≡ put_at start put (bytes ++ rest)
put_across start n put bytes rest le ends =
    let front : List ℕ = take start bytes in
    let back : List ℕ = drop (length put - n) rest in
    let none : drop (start + length (take n put)) bytes ≡ [] = drop_all (start + length (take n put)) bytes (omega (arith, length-take n put)) in
    let e : 0 + length (drop n put) ≡ length put - n = omega (arith, length-drop n put) in
    let f : start + length put ≡ length bytes + (length put - n) = omega arith in
    let left : put_at start (take n put) bytes ≡ front ++ take n put = ap (λ xs. front ++ take n put ++ xs) none ∙ append-nil (front ++ take n put) in
    let right : put_at 0 (drop n put) rest ≡ drop n put ++ back = ap (λ k. drop n put ++ drop k rest) e in
    let whole : put_at start put (bytes ++ rest) ≡ front ++ put ++ back =
    ap (λ xs. xs ++ put ++ drop (start + length put) (bytes ++ rest)) (take-append-le start bytes rest (omega arith))
    ∙ ap (λ xs. front ++ put ++ xs) (ap (λ k. drop k (bytes ++ rest)) f ∙ drop-append-add bytes rest (length put - n)) in
    ap (λ xs. xs ++ put_at 0 (drop n put) rest) left
    ∙ ap (λ xs. front ++ take n put ++ xs) right
    ∙ sym (append_assoc (front ++ take n put) (drop n put) back)
    ∙ ap (λ xs. xs ++ back) (append_assoc front (take n put) (drop n put) ∙ ap (λ xs. front ++ xs) (take-append-drop n put))
    ∙ sym whole

-- as many over bytes as go there, and those behind over others from their start
pub put_parts : (start n : ℕ) (put bytes rest : List ℕ) → n ≡ min (length put) (length bytes - start) → start ≤ length bytes → put_at start (take n put) bytes ++ put_at 0 (drop n put) rest ≡ put_at start put (bytes ++ rest)
put_parts start n put bytes rest is within =
    elim (cases_lt n (length put)) [
      | inl lt ↦ put_across start n put bytes rest (omega arith) (omega (arith, is))
      | inr le ↦
          ap (λ xs. put_at start xs bytes ++ put_at 0 (drop n put) rest) (take_all n put le)
          ∙ ap (λ xs. put_at start put bytes ++ put_at 0 xs rest) (drop_all n put le)
          ∙ ap (λ xs. put_at start put bytes ++ xs) (put_none 0 rest)
          ∙ sym (put_first start put bytes rest (omega (arith, is)))
    ]

-- Zeros ------------------------------------------------------------------------------------------------------------------------

-- some of the zeros that are to come
pub zeros_step : (left n : ℕ) (bytes now target : List ℕ) → n ≤ left → now ≡ bytes ++ replicate n 0 → bytes ++ replicate left 0 ≡ target → now ++ replicate (left - n) 0 ≡ target
zeros_step left n bytes now target le is was =
    let zero : ℕ = 0 in
    let sum : n + (left - n) ≡ left = omega (arith, le) in
    ap (λ xs. xs ++ replicate (left - n) zero) is
    ∙ append_assoc bytes (replicate n zero) (replicate (left - n) zero)
    ∙ ap (λ xs. bytes ++ xs) (replicate-append-replicate n (left - n) zero ∙ ap (λ k. replicate k zero) sum)
    ∙ was
