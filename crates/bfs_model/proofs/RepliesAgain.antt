-- The messages of replies are read again.
use Rattle.std.proofs.Common.{◌≡◌, ℕ, ◌^◌, ◌<◌, true, List, [], ◌++◌, Option, Some, Ok, refl, ap, ◌∙◌, append_assoc, append-nil, arith}
use Rattle.std.proofs.lemmas.Bool.{eq-eqb}
use Rattle.bfs_model.specs.Bytes.Items.{opaque_at, word, fixed, counted}
use Rattle.bfs_model.specs.Bytes.Call.{silent, rpc_mismatch, bad_credential, program_unavailable, program_mismatch, procedure_unavailable}
use Rattle.bfs_model.specs.Bytes.Replies.{success, garbage, refusal}
use Rattle.bfs_model.specs.Server.Stored.{IsWord}
use Rattle.bfs_model.specs.Laws.ReplyReading.{SuccessIsReadBack, GarbageIsReadBack, RefusalsAreReadBack}
use Rattle.bfs_model.specs.Bytes.ReplyReading.{after_number, at_end, Verdict, succeeded, no_program, program_versions, no_procedure, garbage_arguments, rpc_versions, refused_credential, after_no_verifier, versions_of, accepted_by, accepted_of, bad_credential_of, denied_of, reply_body_of, reply_of}
use Rattle.bfs_model.proofs.Laws.{word_again, opaque_again}

-- Items --------------------------------------------------------------------------------------------------------------

pub after_number_again : (n : ℕ) (rest : List ℕ) → IsWord n → after_number n (word n ++ rest) ≡ Ok rest
unfolding after_number
after_number_again n rest lt = rw (word_again n rest lt, eq-eqb n n refl) refl

pub at_end_again : {A : Type 0} (x : A) → at_end x [] ≡ Ok x
unfolding at_end
at_end_again x = refl

-- Messages -------------------------------------------------------------------------------------------------------------

-- no bytes, behind their length
no_body_again : (rest : List ℕ) → opaque_at true 400 (word 0 ++ rest) ≡ Ok ([], rest)
unfolding counted fixed
no_body_again rest = rw (← append-nil (word 0)) (opaque_again true 400 [] rest (omega arith) (omega arith))

after_no_verifier_again : (rest : List ℕ) → after_no_verifier (word 0 ++ (word 0 ++ rest)) ≡ Ok rest
unfolding after_no_verifier
after_no_verifier_again rest = rw (after_number_again 0 (word 0 ++ rest) (omega arith), no_body_again rest) refl

versions_again : (verdict : (low high : ℕ) → Verdict) → versions_of verdict (word 2 ++ (word 2 ++ [])) ≡ Ok (verdict 2 2)
unfolding versions_of
versions_again verdict = rw (word_again 2 (word 2 ++ []) (omega arith), word_again 2 [] (omega arith), at_end_again (verdict 2 2)) refl

-- what is read behind the xid and the type
reply_again : (xid : ℕ) (body : List ℕ) (verdict : Verdict) → IsWord xid → reply_body_of body ≡ Ok verdict → reply_of (word xid ++ (word 1 ++ body)) ≡ Ok (xid, verdict)
unfolding reply_of
reply_again xid body verdict lt is = rw (word_again xid (word 1 ++ body) lt, after_number_again 1 body (omega arith), is) refl

-- what is read behind the verifier of an accepted reply
accepted_again : (rest : List ℕ) (verdict : Verdict) (status : ℕ) → status < 2 ^ 32 → accepted_by status rest ≡ Ok verdict → reply_body_of (word 0 ++ (word 0 ++ (word 0 ++ (word status ++ rest)))) ≡ Ok verdict
unfolding reply_body_of accepted_of
accepted_again rest verdict status lt is =
    rw (word_again 0 (word 0 ++ (word 0 ++ (word status ++ rest))) (omega arith), after_no_verifier_again (word status ++ rest), word_again status rest lt) is

-- what is read behind the status of a denied reply
denied_again : (body : List ℕ) (verdict : Verdict) → denied_of body ≡ Ok verdict → reply_body_of (word 1 ++ body) ≡ Ok verdict
unfolding reply_body_of
denied_again body verdict is = rw (word_again 1 body (omega arith)) is

pub success_again : SuccessIsReadBack
unfolding success
success_again xid bytes lt = simp append_assoc (reply_again xid _ (succeeded bytes) lt (accepted_again bytes (succeeded bytes) 0 (omega arith) refl))

pub garbage_again : GarbageIsReadBack
unfolding garbage
garbage_again xid lt = reply_again xid _ garbage_arguments lt (accepted_again [] garbage_arguments 4 (omega arith) (at_end_again garbage_arguments))

rpc_versions_again : denied_of (word 0 ++ (word 2 ++ (word 2 ++ []))) ≡ Ok (rpc_versions 2 2)
unfolding denied_of
rpc_versions_again = rw (word_again 0 (word 2 ++ (word 2 ++ [])) (omega arith)) (versions_again rpc_versions)

refused_credential_again : denied_of (word 1 ++ (word 1 ++ [])) ≡ Ok refused_credential
unfolding denied_of bad_credential_of
refused_credential_again = rw (word_again 1 (word 1 ++ []) (omega arith), after_number_again 1 [] (omega arith), at_end_again refused_credential) refl

-- a reading of what is told
told : (x : ℕ) (v : Verdict) (xid : ℕ) (verdict : Verdict) (bytes : List ℕ) → ◌≡◌ {A = Option (ℕ × Verdict)} (Some (x, v)) (Some (xid, verdict)) → (IsWord x → reply_of bytes ≡ Ok (x, v)) → IsWord xid → reply_of bytes ≡ Ok (xid, verdict)
told x v xid verdict bytes is again lt =
    let same : (x, v) ≡ (xid, verdict) = cc in
    let number : x ≡ xid = ap (λ (p : ℕ × Verdict). p.0) same in
    again (rw number lt) ∙ ap Ok same

pub refusals_again : RefusalsAreReadBack
unfolding refusal
refusals_again silent xid verdict is lt = absurd cc
refusals_again (rpc_mismatch x) xid verdict is lt = told x (rpc_versions 2 2) xid verdict (refusal (rpc_mismatch x)) is (λ h. reply_again x _ (rpc_versions 2 2) h (denied_again _ (rpc_versions 2 2) rpc_versions_again)) lt
refusals_again (bad_credential x) xid verdict is lt = told x refused_credential xid verdict (refusal (bad_credential x)) is (λ h. reply_again x _ refused_credential h (denied_again _ refused_credential refused_credential_again)) lt
refusals_again (program_unavailable x) xid verdict is lt = told x no_program xid verdict (refusal (program_unavailable x)) is (λ h. reply_again x _ no_program h (accepted_again [] no_program 1 (omega arith) (at_end_again no_program))) lt
refusals_again (program_mismatch x) xid verdict is lt = told x (program_versions 2 2) xid verdict (refusal (program_mismatch x)) is (λ h. reply_again x _ (program_versions 2 2) h (accepted_again _ (program_versions 2 2) 2 (omega arith) (versions_again program_versions))) lt
refusals_again (procedure_unavailable x) xid verdict is lt = told x no_procedure xid verdict (refusal (procedure_unavailable x)) is (λ h. reply_again x _ no_procedure h (accepted_again [] no_procedure 3 (omega arith) (at_end_again no_procedure))) lt
