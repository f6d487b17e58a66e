-- One line after another of the large session.
use Rattle.std.proofs.Common.{◌≡◌, ◌+◌, ℕ, sym, ◌∙◌, ap, subst, add-one}
use Rattle.ssh_scene.specs.declared.lines.InputLine.{InputLine}
use Rattle.ssh_scene.specs.Scene.{Scene, after_input}
use Rattle.ssh_scene.specs.Generated.{each_peer, letting_in, service_line, none_line}

-- alice was let in
abbrev pub let_in : Scene
let_in = after_input none_line (after_input service_line letting_in)

pub first_lines : (first second : InputLine) (s t u : Scene) → first ≡ service_line
    → second ≡ none_line → s ≡ letting_in → after_input first s ≡ t → after_input second t ≡ u
    → u ≡ let_in
first_lines first second s t u f n h k l =
    sym l ∙ ap (λ line. after_input line t) n ∙ ap (after_input none_line)
    (sym k ∙ ap (λ line. after_input line s) f ∙ ap (after_input service_line) h)

pub one_more : (line : ℕ → InputLine) (peer : ℕ) (this : InputLine) (base s t : Scene)
    → this ≡ line peer → s ≡ each_peer line peer base → after_input this s ≡ t
    → t ≡ each_peer line (peer + 1) base
one_more line peer this base s t e h k =
    let last : t ≡ after_input (line peer) (each_peer line peer base) =
    sym k ∙ ap (λ said. after_input said s) e ∙ ap (after_input (line peer)) h in
    subst (λ count. t ≡ each_peer line count base) (sym (add-one peer)) last
