-- A line of a gateway's script says one thing, and so does the script.
use Rattle.std.proofs.Common.{◌≡◌, ◌+◌, ℕ, List, [], ◌∷◌, Option, Some, None, Result, Err, refl}
use Rattle.std.proofs.Common.{sym, ◌∙◌, ap, subst, inl, inr}
use Rattle.std.specs.Prelude.{MatchOption}
use Rattle.ssh_scene.specs.Scene.{with_line}
use Rattle.ssh_scene.proofs.LinesOnce.{reads_once, small_once, hex_once}
use Rattle.ssh_scene_gateway.specs.declared.hosts.HostLine.{HostLine}
use Rattle.ssh_scene_gateway.specs.declared.hosts.HostWord.{HostWord}
use Rattle.ssh_scene_gateway.specs.HostLines.{HostForm, No_form, Just, By_text, By_small, By_bytes}
use Rattle.ssh_scene_gateway.specs.HostLines.{FitsHost, host_form}
use Rattle.ssh_scene_gateway.specs.GatewayScene.{GatewayScene, TakesSession, in_session, IsHostLine}
use Rattle.ssh_scene_gateway.specs.GatewayScene.{TakesWords, TakesLine, host_in, BringsFrom}
use Rattle.ssh_scene_gateway.specs.GatewayScene.{BringsGateway, opening_gateway}

fits_once : (form : HostForm) (a b : Option HostLine) → FitsHost form a → FitsHost form b → a ≡ b
fits_once No_form a b h k = h ∙ sym k
fits_once (Just one) a b h k = h ∙ sym k
fits_once (By_text next digits) a b (inl h) (inl k) =
    fits_once (next h.0) a b h.2 (subst (λ text. FitsHost (next text) b)
    (sym (hex_once digits h.0 k.0 h.1.0 k.1.0)) k.2)
fits_once (By_text next digits) a b (inl h) (inr k) = absurd (k.0 h.0 h.1)
fits_once (By_text next digits) a b (inr h) (inl k) = absurd (h.0 k.0 k.1)
fits_once (By_text next digits) a b (inr h) (inr k) = h.1 ∙ sym k.1
fits_once (By_small next digits) a b (inl h) (inl k) =
    fits_once (next h.0) a b h.2 (subst (λ n. FitsHost (next n) b)
    (sym (small_once digits h.0 k.0 h.1 k.1)) k.2)
fits_once (By_small next digits) a b (inl h) (inr k) = absurd (k.0 h.0 h.1)
fits_once (By_small next digits) a b (inr h) (inl k) = absurd (h.0 k.0 k.1)
fits_once (By_small next digits) a b (inr h) (inr k) = h.1 ∙ sym k.1
fits_once (By_bytes says digits) None None h k = refl
fits_once (By_bytes says digits) None (Some b) h k = absurd (h k.0 k.1)
fits_once (By_bytes says digits) (Some a) None h k = absurd (k h.0 h.1)
fits_once (By_bytes says digits) (Some a) (Some b) h k =
    ap Some (h.2 ∙ (ap says (hex_once digits h.0 k.0 h.1 k.1) ∙ sym k.2))

session_once : (s : GatewayScene) (text : List ℕ) (a b : Option GatewayScene)
    → TakesSession s text a → TakesSession s text b → a ≡ b
session_once s text a b h k =
    let said = reads_once text h.1.0 k.1.0 h.1.1 k.1.1 in
    let same : h.0 ≡ k.0 = sym h.1.2 ∙ (ap (with_line s.session) said ∙ k.1.2) in
    h.2 ∙ (ap (λ one. in_session one s) same ∙ sym k.2)

words_once : (text : List ℕ) (a b : Option (HostWord × List ℕ)) → IsHostLine text a
    → IsHostLine text b → a ≡ b
words_once text a b (inl h) (inl k) = h.1 ∙ sym k.1
words_once text a b (inl h) (inr k) = absurd (k.0 h.0)
words_once text a b (inr h) (inl k) = absurd (h.0 k.0)
words_once text a b (inr h) (inr k) = h.1 ∙ sym k.1

taken_once : (words : Option (HostWord × List ℕ)) (s : GatewayScene) (text : List ℕ)
    (a b : Option GatewayScene) → TakesWords words s text a → TakesWords words s text b → a ≡ b
taken_once None s text a b h k = session_once s text a b h k
taken_once (Some (word, rest)) s text a b h k =
    h.2 ∙ (ap (λ said. host_in s.session.stage said s)
    (fits_once (host_form word rest) h.0 k.0 h.1 k.1) ∙ sym k.2)

line_once : (s : GatewayScene) (text : List ℕ) (a b : Option GatewayScene)
    → TakesLine s text a → TakesLine s text b → a ≡ b
line_once s text a b h k =
    let same : h.0 ≡ k.0 = words_once text h.0 k.0 h.1 k.1 in
    taken_once h.0 s text a b h.2 (subst (λ words. TakesWords words s text b) (sym same) k.2)

next_once : (done : ℕ) (next : Option GatewayScene) (lines : List (List ℕ))
    (r s : Result GatewayScene ℕ) →
    ((later : GatewayScene) (r s : Result GatewayScene ℕ) → BringsFrom (done + 1) later lines r
    → BringsFrom (done + 1) later lines s → r ≡ s) →
    MatchOption next (r ≡ Err (done + 1)) (λ later. BringsFrom (done + 1) later lines r)
    → MatchOption next (s ≡ Err (done + 1)) (λ later. BringsFrom (done + 1) later lines s) → r ≡ s
next_once done None lines r s later h k = h ∙ sym k
next_once done (Some next) lines r s later h k = later next r s h k

brings_from_once : (done : ℕ) (scene : GatewayScene) (lines : List (List ℕ))
    (r s : Result GatewayScene ℕ) → BringsFrom done scene lines r → BringsFrom done scene lines s
    → r ≡ s
brings_from_once done scene [] r s h k = h ∙ sym k
brings_from_once done scene (text ∷ lines) r s h k =
    let same : h.0 ≡ k.0 = line_once scene text h.0 k.0 h.1 k.1 in
    next_once done h.0 lines r s (λ later r s. brings_from_once (done + 1) later lines r s) h.2
    (subst (λ next. MatchOption next (s ≡ Err (done + 1))
    (λ later. BringsFrom (done + 1) later lines s)) (sym same) k.2)

-- the lines bring one scene, or have one first bad line
pub brings_once : (lines : List (List ℕ)) (r s : Result GatewayScene ℕ) → BringsGateway lines r
    → BringsGateway lines s → r ≡ s
brings_once lines r s h k = brings_from_once 0 opening_gateway lines r s h k
