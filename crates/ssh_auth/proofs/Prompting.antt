-- How long replies are as they are written.
use Rattle.std.proofs.Common.{◌≡◌, ◌≤◌, ◌<◌, ◌+◌, ℕ, List, [], ◌∷◌, length, get_or, Result, Ok, Err}
use Rattle.std.proofs.Common.{IsErrAnd, IsErrOf, IfErr, ◌⊎◌, ◌↔◌, ◌^◌, inl, inr, sym, ap, subst}
use Rattle.std.proofs.Common.{arith}
use Rattle.std.specs.List.{flat_map}
use Rattle.std.proofs.lemmas.List.{length-append}
use Rattle.std.proofs.lemmas.List.Folds.{length-flat_map-take}
use Rattle.ssh_wire.specs.declared.error.WireError.{WireError}
use Rattle.ssh_wire.specs.declared.error.WireError.TheVariants.{NoMemory, TooLong}
use Rattle.ssh_wire.specs.Field.{number, string}
use Rattle.ssh_auth.specs.Prompts.{Prompt}
use Rattle.ssh_auth.specs.Layout.{flag, prompt_fields, pk_ok}

-- a prompt is longer than its text
longer : (prompt : Prompt) → length prompt.0 + 1 ≤ length (prompt_fields prompt)
longer prompt = omega (
  arith,
  length-append (string prompt.0) (flag prompt.1 ∷ []),
  length-append (number (length prompt.0)) prompt.0,
)

-- each prompt has a byte at least
pub count_fits : (prompts : List Prompt) → length prompts ≤ length (flat_map prompt_fields prompts)
count_fits [] = omega (arith)
count_fits (prompt ∷ prompts) = omega (
  arith,
  count_fits prompts,
  longer prompt,
  length-append (prompt_fields prompt) (flat_map prompt_fields prompts),
)

-- the text of each prompt is among them
pub text_fits : (prompts : List Prompt) (i : ℕ) (prompt : Prompt) → prompt ≡ get_or prompts i prompt
    → i < length prompts → length prompt.0 ≤ length (flat_map prompt_fields prompts)
text_fits prompts i prompt is below =
    let at : length (prompt_fields (get_or prompts i prompt)) ≡ length (prompt_fields prompt) =
    ap (λ p. length (prompt_fields p)) (sym is) in
    omega (arith, longer prompt, at, length-flat_map-take prompt_fields prompts i prompt below)

-- an error for this reason
pub refused_for : {T E : Type 0} (result : Result T E) (why : E) (P : E → Type 0)
    → IsErrAnd result (λ e. e ≡ why) → P why → IfErr result P
refused_for (Ok x) why P is h = tt
refused_for (Err e) why P is h = subst P (sym is) h

-- what is written is too long where a part of it is
pub too_long_for : {T : Type 0} (result : Result T WireError) (part whole : ℕ) →
    IfErr result (λ e. (e ≡ TooLong) ⊎ (e ≡ NoMemory)) →
    (IsErrOf result TooLong ↔ (2 ^ 32 ≤ part)) → part ≤ whole →
    IfErr result (λ e. (e ≡ NoMemory) ⊎ ((e ≡ TooLong) × (2 ^ 32 ≤ whole)))
too_long_for (Ok x) part whole errors long fits = tt
too_long_for (Err e) part whole (inl is) long fits =
    let large : 2 ^ 32 ≤ part = long.0 (ap Err is) in
    inr (is, omega (arith, large, fits))
too_long_for (Err e) part whole (inr is) long fits = inl is

-- the two strings of PK_OK are parts of it
pub name_fits : (name blob : List ℕ) → length name ≤ length (pk_ok name blob)
name_fits name blob = omega (
  arith,
  length-append (string name) (string blob),
  length-append (number (length name)) name,
)

pub blob_fits : (name blob : List ℕ) → length blob ≤ length (pk_ok name blob)
blob_fits name blob = omega (
  arith,
  length-append (string name) (string blob),
  length-append (number (length blob)) blob,
)
