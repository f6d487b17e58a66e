-- How far the frames of an input that was not finished were handed on: none of them were, unless
-- the link failed at the next one, or the exchange of keys or memory refused behind this side's
-- KEXINIT or behind all of them.
use Rattle.std.specs.Prelude.{◌≡◌, ◌⊎◌, ℕ, List, [], ◌∷◌, ◌++◌, Ok}
use Rattle.ssh_link.specs.Frames.{Frame}
use Rattle.ssh_link.specs.declared.kex.KexCall.TheVariants as kex
use Rattle.ssh_link.specs.declared.link.TraceEntry.TheVariants.{Sent}
use Rattle.ssh_auth.specs.declared.question.Question.TheVariants as asked
use Rattle.ssh_auth.specs.Plan.{Plan, Finish, Ask, Tell, Event, Stepped, Told, Reaches}
use Rattle.ssh_rules.specs.Acts.{frames_given}
use Rattle.ssh_rules.specs.Cause.{Cause, Wants_memory, Link_failed, Broken_by}
use Rattle.ssh_rules.specs.Outcome.{Outcome}

-- the frames that were handed on in these events, in order
abbrev pub frames_in : {E F : Type 0} → List (Event E F) → List Frame
frames_in [] = []
frames_in (Told (Sent frame) ∷ events) = frame ∷ frames_in events
frames_in (_ ∷ events) = frames_in events

-- ---- who refused

-- the link: it failed, or it had no memory itself
abbrev pub RefusesAsLink : {E F : Type 0} → Cause E F → (starved : Type 0) → Type 0
RefusesAsLink Wants_memory starved = starved
RefusesAsLink Link_failed starved = Unit {0}
RefusesAsLink _ starved = ⊥

-- memory, or the exchange of keys
abbrev pub RefusesInside : {E F : Type 0} → Cause E F → Type 0
RefusesInside Wants_memory = Unit {0}
RefusesInside (Broken_by e) = Unit {0}
RefusesInside _ = ⊥

-- ---- where it stopped

-- the link was to be handed a frame
abbrev pub IsAtFrame : {E F : Type 0} → Plan Outcome → List (Event E F) → Type 0
IsAtFrame plan events = (frame : Frame) × (next : Plan Outcome)
    × Reaches plan events (Tell (Sent frame) next)

-- this side's KEXINIT was handed on, and no other frame
abbrev pub IsBehindKexinit : {E F : Type 0} → List (Event E F) → Type 0
IsBehindKexinit {E} {F} events = (payload : List ℕ) × (past more : List (Event E F))
    × (events ≡ past ++ Stepped (kex.Begun (Ok payload)) ∷ more)
    × (frames_in past ≡ []) × (frames_in more ≡ frames_given (payload ∷ []))

-- nothing more is owed, or that an exchange of keys begins
abbrev pub OwesNoFrame : Plan Outcome → Type 0
OwesNoFrame (Finish outcome) = Unit {0}
OwesNoFrame (Ask question next) = question ≡ asked.Begins
OwesNoFrame (Tell entry next) = ⊥

-- all frames were handed on that are owed before that
abbrev pub IsBehindAll : {E F : Type 0} → Plan Outcome → List (Event E F) → Type 0
IsBehindAll {E} {F} plan events = (rest : Plan Outcome) × (done more : List (Event E F))
    × (events ≡ done ++ more) × Reaches plan done rest × OwesNoFrame rest
    × (frames_in more ≡ [])

-- ---- how far it came

-- starved says that the link's count of calls that found no memory rose
abbrev pub IsCut : {E F : Type 0} → Cause E F → (starved : Type 0) → Plan Outcome
    → List (Event E F) → Type 0
IsCut cause starved plan events = (frames_in events ≡ [])
    ⊎ (RefusesAsLink cause starved × IsAtFrame plan events)
    ⊎ (RefusesInside cause × (IsBehindKexinit events ⊎ IsBehindAll plan events))
