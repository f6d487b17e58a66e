-- The lines of a script bring one list of events, or have one first bad line.
use Rattle.std.proofs.Common.{◌≡◌, ◌+◌, ℕ, List, [], ◌∷◌, Bool, true, false, Option, Some}
use Rattle.std.proofs.Common.{None, Result, Err, sym, ◌∙◌, ap, subst, inl, inr, refl}
use Rattle.std.specs.Prelude.{MatchOption}
use Rattle.ssh_ends.specs.declared.event.EndEvent.{EndEvent}
use Rattle.ssh_scene.specs.Grammar.{cut, is_passed}
use Rattle.ssh_scene.proofs.LinesOnce.{hex_once, small_once}
use Rattle.ssh_scene_ends.specs.declared.events.EventLine.{EventLine}
use Rattle.ssh_scene_ends.specs.EventLines.{EventForm, No_event, Just, By_small, By_bytes}
use Rattle.ssh_scene_ends.specs.EventLines.{FitsEvent, words_event, as_line, ReadsEventWords}
use Rattle.ssh_scene_ends.specs.EventLines.{with_event, BringsFrom, BringsEvents}

event_once : (form : EventForm) (a b : Option EndEvent) → FitsEvent form a → FitsEvent form b
    → a ≡ b
event_once No_event a b h k = h ∙ sym k
event_once (Just e) a b h k = h ∙ sym k
event_once (By_small next digits) a b (inl h) (inl k) =
    event_once (next h.0) a b h.2 (subst (λ n. FitsEvent (next n) b)
    (sym (small_once digits h.0 k.0 h.1 k.1)) k.2)
event_once (By_small next digits) a b (inl h) (inr k) = absurd (k.0 h.0 h.1)
event_once (By_small next digits) a b (inr h) (inl k) = absurd (h.0 k.0 k.1)
event_once (By_small next digits) a b (inr h) (inr k) = h.1 ∙ sym k.1
event_once (By_bytes says digits) None None h k = refl
event_once (By_bytes says digits) None (Some b) h k = absurd (h k.0 k.1)
event_once (By_bytes says digits) (Some a) None h k = absurd (k h.0 h.1)
event_once (By_bytes says digits) (Some a) (Some b) h k =
    ap Some (h.2 ∙ (ap says (hex_once digits h.0 k.0 h.1 k.1) ∙ sym k.2))

said_once : (passed : Bool) (text : List ℕ) (a b : Option EventLine)
    → ReadsEventWords passed text a → ReadsEventWords passed text b → a ≡ b
said_once true text a b h k = h ∙ sym k
said_once false text a b (inl h) (inl k) =
    h.1.2 ∙ ap as_line (event_once (words_event (cut text)) h.1.0 k.1.0 h.1.1 k.1.1) ∙ sym k.1.2
said_once false text a b (inl h) (inr k) = absurd (k.0 h.0)
said_once false text a b (inr h) (inl k) = absurd (h.0 k.0)
said_once false text a b (inr h) (inr k) = h.1 ∙ sym k.1

next_once : (done : ℕ) (next : Option (List EndEvent)) (lines : List (List ℕ))
    (r s : Result (List EndEvent) ℕ)
    → ((events : List EndEvent) (r s : Result (List EndEvent) ℕ)
    → BringsFrom (done + 1) events lines r → BringsFrom (done + 1) events lines s → r ≡ s)
    → MatchOption next (r ≡ Err (done + 1)) (λ events. BringsFrom (done + 1) events lines r)
    → MatchOption next (s ≡ Err (done + 1)) (λ events. BringsFrom (done + 1) events lines s)
    → r ≡ s
next_once done None lines r s later h k = h ∙ sym k
next_once done (Some events) lines r s later h k = later events r s h k

brought_once : (done : ℕ) (events : List EndEvent) (lines : List (List ℕ))
    (r s : Result (List EndEvent) ℕ) → BringsFrom done events lines r
    → BringsFrom done events lines s → r ≡ s
brought_once done events [] r s h k = h ∙ sym k
brought_once done events (text ∷ lines) r s h k =
    let e : h.0 ≡ k.0 = said_once (is_passed text) text h.0 k.0 h.1 k.1 in
    next_once done (with_event events h.0) lines r s
    (λ next r s. brought_once (done + 1) next lines r s) h.2
    (subst (λ said. MatchOption (with_event events said) (s ≡ Err (done + 1))
    (λ next. BringsFrom (done + 1) next lines s)) (sym e) k.2)

pub events_once : (lines : List (List ℕ)) (r s : Result (List EndEvent) ℕ) → BringsEvents lines r
    → BringsEvents lines s → r ≡ s
events_once lines r s h k = brought_once 0 [] lines r s h k
