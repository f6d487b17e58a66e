-- Bytes that are written in hex in two parts.
use Rattle.std.proofs.Common.{◌≡◌, ℕ, ◌/◌, ◌%◌, List, [], ◌∷◌, ◌++◌, ◌==◌, false, length}
use Rattle.std.proofs.Common.{slice_index, Result, Ok, Err, refl, sym, ap, ◌∙◌, append_assoc}
use Rattle.std.specs.Prelude.{OnOk}
use Rattle.hex.specs.Hex.{encode_with, encode_lower, lower_digits}
use Rattle.ssh_transcript.specs.Words.{hex_text}

encode_joined : (digits front back : List ℕ) → encode_with digits (front ++ back)
    ≡ encode_with digits front ++ encode_with digits back
unfolding encode_with
encode_joined digits [] back = refl
encode_joined digits (byte ∷ front) back =
    ap (λ rest. slice_index digits (byte / 16) ∷ slice_index digits (byte % 16) ∷ rest)
    (encode_joined digits front back)

hex_joined : (head body : List ℕ) → (length body == 0) ≡ false → hex_text (head ++ body)
    ≡ encode_lower head ++ hex_text body
hex_joined head [] some = cc
hex_joined [] (byte ∷ body) some = encode_joined lower_digits [] (byte ∷ body)
hex_joined (first ∷ head) (byte ∷ body) some = encode_joined lower_digits (first ∷ head)
    (byte ∷ body)

-- the head was written, and then the body
payload_printed : (before written after head body payload : List ℕ) → head ++ body ≡ payload
    → (length body == 0) ≡ false →
    written ≡ before ++ encode_lower head → after ≡ written ++ hex_text body → after ≡ before
    ++ hex_text payload
payload_printed before written after head body payload whole some first second =
    second ∙ ap (λ text. text ++ hex_text body) first ∙ append_assoc before (encode_lower head)
    (hex_text body)
    ∙ ap (λ text. before ++ text) (sym (hex_joined head body some) ∙ ap hex_text whole)

pub payload_printed_on_ok : {T E : Type 0} (result : Result T E)
    (before written after head body payload : List ℕ) → head ++ body ≡ payload → (length body == 0)
    ≡ false →
    written ≡ before ++ encode_lower head → OnOk result (after ≡ written ++ hex_text body)
    → OnOk result (after ≡ before ++ hex_text payload)
payload_printed_on_ok (Ok value) before written after head body payload whole some first second =
    payload_printed before written after head body payload whole some first second
payload_printed_on_ok (Err error) before written after head body payload whole some first second =
    tt
