-- How the program ends.
use Rattle.std.proofs.Common.{◌≡◌, ◌<◌, ◌≤◌, ◌+◌, ◌∙◌, ℕ, List, [], ◌∷◌, ◌++◌, Option, Some}
use Rattle.std.proofs.Common.{None, Result, Ok, sym}
use Rattle.std.proofs.Common.{Err, length, take, min, arith, refl, ap, subst, inl, inr}
use Rattle.std.proofs.lemmas.List.{length-take, take_all}
use Rattle.ssh_link.specs.Told.{Adds}
use Rattle.ssh_link.specs.declared.plain_kex.PlainKexError.{PlainKexError}
use Rattle.ssh_handler.specs.declared.recorded.RecordError.TheVariants as record_error
use Rattle.ssh_rules.specs.declared.error.RunError.{RunError}
use Rattle.ssh_rules.specs.declared.error.RunError.TheVariants as error
use Rattle.ssh_script.specs.Transfer.{IsFront, AddsPart}
use Rattle.ssh_scene.specs.Scene.{Gives, opening_scene}
use Rattle.ssh_scene.specs.Pieces.{BringsPieces}
use Rattle.ssh_sftp.specs.declared.error.SftpError.{SftpError}
use Rattle.ssh_sftp.specs.Packets.{left_of, fault_of}
use Rattle.ssh_players.specs.Played.{Failure}
use Rattle.ssh_script.specs.declared.task.Task.{Task}
use Rattle.ssh_script.specs.declared.task.Task.TheVariants as task
use Rattle.ssh_script.specs.Transcript.{status_of, Shows, longest, Scripted, Transcript, Owed}
use Rattle.ssh_script.specs.Transcript.{run_words, sftp_words, IsTask, Does, Ends, Shown}
use Rattle.ssh_script.specs.Transcript.{Unwritten, ShowsBy, ShowsFiles, ScriptedBy, FilesScripted}
use Rattle.ssh_script.specs.Transcript.{IsRun, line_by_line, IsTold, ShowsEnds, EndsScripted}
use Rattle.ssh_script.specs.Transcript.{ShowsGateway, GatewayScripted}
use Rattle.ssh_gateway.specs.declared.error.GatewayError.TheVariants as gateway_error
use Rattle.ssh_scene_gateway.specs.Forwarding.{Ending, IsForwarded}
use Rattle.ssh_scene_gateway.specs.Forwarding.{status_of as ending_status}
use Rattle.ssh_scene_gateway.specs.GatewayScene.{BringsGateway}
use Rattle.ssh_ends.specs.declared.event.EndEvent.{EndEvent}
use Rattle.ssh_scene_ends.specs.EventLines.{BringsEvents}
use Rattle.ssh_script.specs.Files.{IsServed, Written, at_end, unless_refused, served_on}

-- words that do not ask for a run owe the same whatever is left
owed_always : (words : List (List ℕ)) (left : Option (List ℕ)) (status : ℕ) (text : List ℕ)
    → ((bytes : List ℕ) → Transcript words bytes status text) → Owed words left status text
owed_always words None status text h = ([], tt, h [])
owed_always words (Some bytes) status text h = (bytes, refl, h bytes)

-- what is done without a script is owed whatever is left
pub owed_alone : (asked : Task) (words : List (List ℕ)) (left : Option (List ℕ)) (status : ℕ)
    (text : List ℕ) → IsTask asked words → ((bytes : List ℕ) → Does asked bytes status text)
    → Owed words left status text
owed_alone asked words left status text w h =
    owed_always words left status text (λ bytes. (asked, w, h bytes))

some_small : (n status : ℕ) → n < 2 → Some n ≡ Some status → status < 3
some_small n status l e = let z : n ≡ status = cc in omega arith

status_small : (result : Result (Unit {0}) (RunError Failure PlainKexError)) (status : ℕ)
    → status_of result ≡ Some status → status < 3
status_small (Ok done) status h = some_small 0 status (omega arith) h
status_small (Err error.NoMemory) status h = absurd (let z : None ≡ Some status = h in cc)
status_small (Err error.LinkFault) status h = some_small 1 status (omega arith) h
status_small (Err error.InputLimit) status h = some_small 1 status (omega arith) h
status_small (Err (error.Encoding why)) status h = some_small 1 status (omega arith) h
status_small (Err error.Inconsistent) status h = some_small 1 status (omega arith) h
status_small (Err (error.Key why)) status h = some_small 1 status (omega arith) h
status_small (Err error.UnsupportedAuthMethod) status h = some_small 1 status (omega arith) h
status_small (Err (error.Handler record_error.NoMemory)) status h =
    absurd (let z : None ≡ Some status = h in cc)
status_small (Err (error.Handler record_error.Untold)) status h = some_small 1 status (omega arith)
    h
status_small (Err (error.Handler (record_error.Inner e))) status h = some_small 1 status
    (omega arith) h
status_small (Err (error.Kex e)) status h = some_small 1 status (omega arith) h
status_small (Err error.ChannelsFull) status h = some_small 1 status (omega arith) h
status_small (Err error.KeepaliveTimeout) status h = some_small 1 status (omega arith) h
status_small (Err error.InactivityTimeout) status h = some_small 1 status (omega arith) h
status_small (Err error.Pending) status h = some_small 1 status (omega arith) h

shows_small : {A : Type 0} (shows : A → ℕ → List ℕ → Type 0)
    → ((a : A) (status : ℕ) (text : List ℕ) → shows a status text → status < 3)
    → (read : Result A ℕ) (status : ℕ) (text : List ℕ) → ShowsBy shows read status text
    → status < 3
shows_small shows small (Ok a) status text h = small a status text h
shows_small shows small (Err number) status text h = omega (arith, h.0)

scripted_small : {A : Type 0} (gives : List (List ℕ) → Result A ℕ → Type 0)
    (shows : A → ℕ → List ℕ → Type 0)
    → ((a : A) (status : ℕ) (text : List ℕ) → shows a status text → status < 3)
    → (bytes : List ℕ) (status : ℕ) (text : List ℕ)
    → ScriptedBy gives (ShowsBy shows) bytes status text → status < 3
scripted_small gives shows small bytes status text (inl h) = omega (arith, h.1)
scripted_small gives shows small bytes status text (inr h) =
    shows_small shows small h.1 status text h.3

end_small : (left : List ℕ) → (at_end left).0 < 3
end_small [] = omega arith
end_small (byte ∷ bytes) = omega arith

piece_small : (why : Option SftpError) (rest : Written) → rest.0 < 3
    → (unless_refused why rest).0 < 3
piece_small None rest small = small
piece_small (Some why) rest small = omega arith

served_small : (so_far : List ℕ) (pieces : List (List ℕ)) → (served_on so_far pieces).0 < 3
served_small so_far [] = end_small (left_of so_far)
served_small so_far (piece ∷ pieces) =
    piece_small (fault_of (so_far ++ piece)) (served_on (so_far ++ piece) pieces)
    (served_small (so_far ++ piece) pieces)

written_small : (pieces : List (List ℕ)) (status : ℕ) (text : List ℕ) → IsServed pieces status text
    → status < 3
written_small pieces status text h =
    subst (λ (n : ℕ). n < 3) (sym (ap (λ (w : Written). w.0) h)) (served_small [] pieces)

told_small : (window packet : ℕ) (events : List EndEvent) (status : ℕ) (text : List ℕ)
    → IsTold window packet events status text → status < 3
told_small window packet events status text h = omega (arith, h.0)

ending_small : (result : Ending) (status : ℕ) → ending_status result ≡ Some status → status < 3
ending_small (Ok done) status h = some_small 0 status (omega arith) h
ending_small (Err gateway_error.NoMemory) status h = absurd (let z : None ≡ Some status = h in cc)
ending_small (Err (gateway_error.Run why)) status h = some_small 1 status (omega arith) h
ending_small (Err gateway_error.TargetFault) status h = some_small 1 status (omega arith) h
ending_small (Err gateway_error.TurnLimit) status h = some_small 1 status (omega arith) h

does_small : (asked : Task) (bytes : List ℕ) (status : ℕ) (text : List ℕ)
    → Does asked bytes status text → status < 3
does_small task.Run bytes status text h =
    scripted_small (Gives 0 opening_scene) (IsRun line_by_line)
    (λ scene status text run. status_small run.result status run.status_is) bytes status text h
does_small task.ServeFiles bytes status text h =
    scripted_small BringsPieces IsServed written_small bytes status text h
does_small (task.Generate channels) bytes status text h = status_small h.result status h.status_is
does_small (task.JoinEnds window packet) bytes status text h =
    scripted_small BringsEvents (IsTold window packet) (told_small window packet) bytes status text h
does_small task.Forward bytes status text h =
    scripted_small BringsGateway IsForwarded
    (λ scene status text done. ending_small done.result status done.status_is) bytes status text h
does_small task.ShowUsage bytes status text h = omega (arith, h.0)
does_small task.ShowVersion bytes status text h = omega (arith, h.0)
does_small task.Refuse bytes status text h = omega (arith, h.0)

transcript_small : (words : List (List ℕ)) (bytes : List ℕ) (status : ℕ) (text : List ℕ)
    → Transcript words bytes status text → status < 3
transcript_small words bytes status text h = does_small h.0 bytes status text h.2

pub shown : (words : List (List ℕ)) (left : Option (List ℕ)) (source_failed sink_failed : Type 0)
    (held held' : Option (List ℕ)) (status : ℕ) (text slice : List ℕ) →
    Owed words left status text → slice ≡ text → Adds held held' slice → Ends (Owed words left)
    source_failed sink_failed held held' status
shown words left source_failed sink_failed held held' status text slice o e a =
    Shown text (transcript_small words o.0 status text o.2) o (subst (Adds held held') e a)

pub unwritten : (words : List (List ℕ)) (left : Option (List ℕ))
    (source_failed sink_failed : Type 0) (held held' : Option (List ℕ)) (status : ℕ)
    (text slice : List ℕ) →
    Owed words left status text → slice ≡ text → sink_failed → AddsPart held held' slice
    → Ends (Owed words left) source_failed sink_failed held held' 4
unwritten words left source_failed sink_failed held held' status text slice o e r a =
    Unwritten refl r text (inl (status, o)) (subst (AddsPart held held') e a)

-- a front that has more bytes than this is a front of more bytes, and one that has no more is all
long_front : (most : ℕ) (front bytes : List ℕ) → front ≡ take (most + 1) bytes → most < length front
    → most < length bytes
long_front most front bytes e l =
    let n : length front ≡ min (most + 1) (length bytes) = ap length e ∙ length-take (most + 1)
    bytes in
    omega arith

short_front : (most : ℕ) (front bytes : List ℕ) → front ≡ take (most + 1) bytes
    → length front ≤ most → front ≡ bytes
short_front most front bytes e l =
    let n : length front ≡ min (most + 1) (length bytes) = ap length e ∙ length-take (most + 1)
    bytes in
    let k : length bytes ≤ most + 1 = omega arith in
    e ∙ take_all (most + 1) bytes k

-- what the first bytes owe, one more than a script may have, is what all bytes owe
module _ {A : Type 0} (gives : List (List ℕ) → Result A ℕ → Type 0)
    (shows : Result A ℕ → ℕ → List ℕ → Type 0) (asked : Task) (words : List (List ℕ))
    (asks : IsTask asked words)
    (does : (bytes : List ℕ) (status : ℕ) (text : List ℕ) → ScriptedBy gives shows bytes status text
    → Does asked bytes status text) where
  read_owed : (left : Option (List ℕ)) (front : List ℕ) (status : ℕ) (text : List ℕ)
      → IsFront (longest + 1) left front → ScriptedBy gives shows front status text
      → Owed words left status text
  read_owed None front status text f h = (front, tt, (asked, asks, does front status text h))
  read_owed (Some bytes) front status text f (inl h) = (
    bytes,
    refl,
    (asked, asks, does bytes status text (inl (long_front longest front bytes f h.0, h.1, h.2))),
  )
  read_owed (Some bytes) front status text f (inr h) = (
    front,
    short_front longest front bytes f h.0,
    (asked, asks, does front status text (inr h)),
  )

pub owed_read : (words : List (List ℕ)) (left : Option (List ℕ)) (front : List ℕ) (status : ℕ)
    (text : List ℕ) → words ≡ run_words → IsFront (longest + 1) left front →
    Scripted front status text → Owed words left status text
owed_read words left front status text w f h =
    read_owed (Gives 0 opening_scene) Shows task.Run words w (λ bytes status text h. h) left front
    status text f h

pub owed_served : (words : List (List ℕ)) (left : Option (List ℕ)) (front : List ℕ) (status : ℕ)
    (text : List ℕ) → words ≡ sftp_words → IsFront (longest + 1) left front →
    FilesScripted front status text → Owed words left status text
owed_served words left front status text w f h =
    read_owed BringsPieces ShowsFiles task.ServeFiles words w (λ bytes status text h. h) left front
    status text f h

pub owed_told : (window packet : ℕ) (words : List (List ℕ)) (left : Option (List ℕ))
    (front : List ℕ) (status : ℕ) (text : List ℕ) → IsTask (task.JoinEnds window packet) words
    → IsFront (longest + 1) left front → EndsScripted window packet front status text
    → Owed words left status text
owed_told window packet words left front status text w f h =
    read_owed BringsEvents (ShowsEnds window packet) (task.JoinEnds window packet) words w
    (λ bytes status text h. h) left front status text f h

pub owed_forwarded : (words : List (List ℕ)) (left : Option (List ℕ)) (front : List ℕ)
    (status : ℕ) (text : List ℕ) → IsTask task.Forward words → IsFront (longest + 1) left front
    → GatewayScripted front status text → Owed words left status text
owed_forwarded words left front status text w f h =
    read_owed BringsGateway ShowsGateway task.Forward words w (λ bytes status text h. h) left front
    status text f h
