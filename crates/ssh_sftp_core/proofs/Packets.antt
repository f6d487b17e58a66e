-- The parts of a packet, and what is answered by them.
use Rattle.std.proofs.Common.{◌≡◌, ℕ, ◌<◌, List, [], ◌∷◌, take, drop, length, get_or, refl, ap, ◌∙◌}
use Rattle.std.proofs.Common.{sym, arith}
use Rattle.std.specs.Prelude.{slice_index, Result}
use Rattle.ssh_sftp_core.specs.declared.status.Status.{Status}
use Rattle.ssh_sftp_core.specs.Requests.{Asked}
use Rattle.ssh_sftp_core.specs.Layouts.{said}
use Rattle.ssh_sftp_core.specs.Files.{State, answer, answer_with, outcome_of, heard}

-- the four bytes after the first
pub id_bytes : (packet : List ℕ) → 4 < length packet
    → get_or packet 1 0 ∷ get_or packet 2 0 ∷ get_or packet 3 0 ∷ get_or packet 4 0 ∷ []
    ≡ take 4 (drop 1 packet)
id_bytes (k ∷ a ∷ b ∷ c ∷ d ∷ body) more = refl
id_bytes (k ∷ a ∷ b ∷ c ∷ []) more = absurd (omega (arith, more))
id_bytes (k ∷ a ∷ b ∷ []) more = absurd (omega (arith, more))
id_bytes (k ∷ a ∷ []) more = absurd (omega (arith, more))
id_bytes (k ∷ []) more = absurd (omega (arith, more))
id_bytes [] more = absurd (omega (arith, more))

pub answer_is : (state : State) (packet : List ℕ) (kind id : ℕ) (body : List ℕ)
    (asked : Result Asked Status) → kind ≡ slice_index packet 0 → id ≡ said (drop 1 packet)
    → body ≡ drop 5 packet → heard state kind body ≡ asked
    → answer_with id (outcome_of state asked) ≡ answer state packet
unfolding answer
answer_is state packet kind id body asked kind_is id_is body_is asked_is =
    ap (λ a. answer_with id (outcome_of state a)) (sym asked_is)
    ∙ ap (λ k. answer_with id (outcome_of state (heard state k body))) kind_is
    ∙ ap (λ n. answer_with n (outcome_of state (heard state (slice_index packet 0) body))) id_is
    ∙ ap (λ b. answer_with (said (drop 1 packet))
    (outcome_of state (heard state (slice_index packet 0) b))) body_is
