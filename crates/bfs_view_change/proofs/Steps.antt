-- The first VIEW-CHANGE of a list, and then the others.
use Rattle.std.proofs.Common.{◌≡◌, ℕ, ◌-◌, ◌<◌, List, [], ◌∷◌, length, get_or, take, drop, map, eqb, Option, sym, ap, ◌∙◌, arith}
use Rattle.std.specs.List.{filter, fold}
use Rattle.std.proofs.lemmas.List.{take_all}
use Rattle.std.proofs.lemmas.List.Sums.{fold-append}
use Rattle.bfs_messages.specs.Messages.{PreparedBatch, ViewChange}
use Rattle.bfs_messages.specs.declared.signed.Signed.{Signed}
use Rattle.bfs_log.specs.Certificates.{number_in}
use Rattle.bfs_view_change.specs.Changes.Choice.{Candidate, better, candidate, candidates, candidates_in}
use Rattle.bfs_view_change.specs.Changes.ViewChanges.{messages_of}

abbrev found_in : ℕ → ℕ → List PreparedBatch → List Candidate
found_in number sender certs = map (candidate sender) (filter (λ c. eqb (number_in c) number) certs)

pub first_then : (number : ℕ) (start mid : Option Candidate) (changes : List (Signed ViewChange)) (first : Signed ViewChange) (sender : ℕ) (certs : List PreparedBatch)
    → 0 < length changes → first ≡ get_or changes 0 first → sender ≡ first.message.sender → certs ≡ first.message.certificates
    → mid ≡ fold better start (map (candidate sender) (filter (λ c. eqb (number_in c) number) certs))
    → fold better mid (candidates number (messages_of (take (length changes - 1) (drop 1 changes)))) ≡ fold better start (candidates number (messages_of changes))
first_then number start mid [] first sender certs some is s k m = absurd (omega (arith, some))
first_then number start mid (x ∷ xs) first sender certs some is s k m =
    let who : sender ≡ x.message.sender = s ∙ ap (λ (y : Signed ViewChange). y.message.sender) is in
    let held : certs ≡ x.message.certificates = k ∙ ap (λ (y : Signed ViewChange). y.message.certificates) is in
    let there : mid ≡ fold better start (candidates_in number x.message) = m ∙ ap (λ n. fold better start (found_in number n certs)) who ∙ ap (λ (cs : List PreparedBatch). fold better start (found_in number x.message.sender cs)) held in
    let rest : take (length (x ∷ xs) - 1) xs ≡ xs = take_all (length (x ∷ xs) - 1) xs (omega arith) in
    ap (λ (ys : List (Signed ViewChange)). fold better mid (candidates number (messages_of ys))) rest
    ∙ ap (λ (o : Option Candidate). fold better o (candidates number (messages_of xs))) there ∙ sym (fold-append better start (candidates_in number x.message) (candidates number (messages_of xs)))
