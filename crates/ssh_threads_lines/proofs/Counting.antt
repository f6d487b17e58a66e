-- What is counted and printed of a run in threads.
use Rattle.std.proofs.Common.{◌≡◌, ◌==◌, ◌&&◌, ℕ, zero, suc, ◌+◌, List, [], ◌∷◌, ◌++◌, Bool}
use Rattle.std.proofs.Common.{true, false, cond, codes, arith, refl, ◌∙◌, ap, subst}
use Rattle.std.proofs.Common.{append_assoc}
use Rattle.std.proofs.lemmas.Bool.{and_parts, eqb-true}
use Rattle.ssh_link.specs.Frames.{Frame}
use Rattle.ssh_link.specs.declared.link.TraceEntry.{TraceEntry}
use Rattle.ssh_link.specs.declared.link.TraceEntry.TheVariants.{Took, Sent, Noticed, Answered}
use Rattle.ssh_hub_link.specs.Given.{frames_in}
use Rattle.ssh_transcript.specs.Summary.{in_all}
use Rattle.ssh_threads_lines.specs.Lines.{data_on, total_on, total_line, total_lines, are_whole}
use Rattle.ssh_threads_lines.specs.Lines.{full_lines, full_text}

adds_none : (number : ℕ) (trace : List TraceEntry)
    → in_all (data_on number) trace ≡ total_on number (frames_in trace)
    → 0 + in_all (data_on number) trace ≡ total_on number (frames_in trace)
adds_none number trace is = omega (arith, is)

-- what a trace brings on a channel is what its frames bring
pub total_is : (number : ℕ) (trace : List TraceEntry)
    → in_all (data_on number) trace ≡ total_on number (frames_in trace)
total_is number [] = refl
total_is number (Sent frame ∷ trace) = ap (λ n. data_on number frame + n) (total_is number trace)
total_is number (Took commands replies input ∷ trace) =
    adds_none number trace (total_is number trace)
total_is number (Noticed notice ∷ trace) = adds_none number trace (total_is number trace)
total_is number (Answered ticket outcome ∷ trace) = adds_none number trace (total_is number trace)

-- one line more
pub lines_more : (k : ℕ) (frames : List Frame) (front text text' : List ℕ)
    → text ≡ front ++ total_lines k frames
    → text' ≡ text ++ total_line (k + 2) (total_on (k + 2) frames)
    → text' ≡ front ++ total_lines (k + 1) frames
lines_more k frames front text text' before more =
    let line = total_line (k + 2) (total_on (k + 2) frames) in
    let next : suc k ≡ k + 1 = omega arith in
    subst (λ count. text' ≡ front ++ total_lines count frames) next
    (more ∙ ap (λ t. t ++ line) before ∙ append_assoc front (total_lines k frames) line)

-- whether one channel more has all bytes too
pub whole_more : (k : ℕ) (frames : List Frame)
    → are_whole (k + 1) frames ≡ are_whole k frames && (total_on (k + 2) frames == 100000)
whole_more k frames =
    let next : suc k ≡ k + 1 = omega arith in
    subst (λ count. are_whole count frames ≡ are_whole k frames
    && (total_on (k + 2) frames == 100000)) next refl

-- the lines of channels that have all bytes
pub lines_full : (count : ℕ) (frames : List Frame) → are_whole count frames ≡ true
    → total_lines count frames ≡ full_lines count
lines_full zero frames whole = refl
lines_full (suc k) frames whole =
    let parts = and_parts (are_whole k frames) (total_on (k + 2) frames == 100000) whole in
    ap (λ lines. lines ++ total_line (k + 2) (total_on (k + 2) frames))
    (lines_full k frames parts.0)
    ∙ ap (λ total. full_lines k ++ total_line (k + 2) total)
    (eqb-true (total_on (k + 2) frames) 100000 parts.1)

-- the text of a run that came to its end with the status 0
pub text_full : (count : ℕ) (frames : List Frame) (whole : Bool) → are_whole count frames ≡ whole
    → ◌≡◌ {A = ℕ} (cond whole 0 1) 0
    → total_lines count frames ++ cond whole (codes "ok\n") (codes "error Totals\n")
    ≡ full_text count
text_full count frames true is status = ap (λ lines. lines ++ codes "ok\n")
    (lines_full count frames is)
text_full count frames false is status = absurd (omega (arith, status))
