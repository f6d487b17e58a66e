-- Words and a script owe one status and one text.
use Rattle.std.proofs.Common.{◌≡◌, ◌≢◌, ◌<◌, ◌⊎◌, ℕ, List, [], ◌∷◌, ◌++◌, length, Option}
use Rattle.std.proofs.Common.{Some, None, Result, Ok, Bool, true, false}
use Rattle.std.proofs.Common.{Err, arith, refl, sym, ◌∙◌, ap, subst, inl, inr, codes}
use Rattle.std.specs.Prelude.{◌↔◌}
use Rattle.ssh_link.specs.declared.plain_kex.PlainKexError.{PlainKexError}
use Rattle.ssh_handler.specs.declared.recorded.RecordError.TheVariants as record_error
use Rattle.ssh_rules.specs.declared.error.RunError.{RunError}
use Rattle.ssh_rules.specs.declared.error.RunError.TheVariants as error
use Rattle.ssh_scene.specs.Scene.{Scene, opening_scene, lines_of, with_line, Gives}
use Rattle.ssh_scene.specs.Pieces.{BringsPieces, with_stream_line}
use Rattle.ssh_sftp.specs.declared.error.SftpError.{SftpError}
use Rattle.ssh_sftp.specs.Packets.{left_of, fault_of}
use Rattle.ssh_players.specs.Played.{Failure}
use Rattle.std.specs.Fmt.{decimal}
use Rattle.std.proofs.lemmas.Fmt.{decimal_injective}
use Rattle.ssh_scene.specs.Generated.{generated}
use Rattle.ssh_script.specs.declared.task.Task.{Task}
use Rattle.ssh_script.specs.declared.task.Task.TheVariants as task
use Rattle.ssh_script.specs.Files.{IsServed, Written, at_end, unless_refused, served_on}
use Rattle.ssh_script.specs.Transcript.{status_of, Shows, Scripted, Transcript, IsBadScript}
use Rattle.ssh_script.specs.Transcript.{ShowsBy, ShowsFiles, ScriptedBy, FilesScripted, IsRun}
use Rattle.ssh_script.specs.Transcript.{IsBadBy, IsBadStream, IsMisused, sftp_words, AskForScript}
use Rattle.ssh_script.specs.Transcript.{IsTask, Does, IsSize, generate_words, in_numbers}
use Rattle.ssh_script.specs.Transcript.{line_by_line, IsTold, ShowsEnds, EndsScripted, IsBadTale}
use Rattle.ssh_script.specs.Transcript.{AreWide, ends_words, gateway_words, ShowsGateway}
use Rattle.ssh_script.specs.Transcript.{GatewayScripted, IsBadGateway}
use Rattle.ssh_gateway.specs.declared.error.GatewayError.TheVariants as gateway_error
use Rattle.ssh_scene_gateway.specs.Forwarding.{Ending, IsForwarded}
use Rattle.ssh_scene_gateway.specs.Forwarding.{status_of as ending_status}
use Rattle.ssh_scene_gateway.specs.GatewayScene.{GatewayScene, BringsGateway}
use Rattle.ssh_scene_gateway.proofs.LinesOnce.{brings_once}
use Rattle.ssh_scene_gateway.proofs.RoundsOnce.{forwarded_once}
use Rattle.ssh_ends.specs.declared.event.EndEvent.{EndEvent}
use Rattle.ssh_scene_ends.specs.EventLines.{BringsEvents}
use Rattle.ssh_scene_ends.proofs.EventsOnce.{events_once}
use Rattle.ssh_script.specs.Transcript.{IsUnknown, run_words, help_words, version_words}
use Rattle.ssh_scene.proofs.LinesOnce.{gives_once}
use Rattle.ssh_script.proofs.RunsOnce.{run_once}

-- what scripts give is shown once, where one thing is shown once
shows_by_once : {A : Type 0} (shows : A → ℕ → List ℕ → Type 0)
    → ((a : A) (m n : ℕ) (s t : List ℕ) → shows a m s → shows a n t → (m ≡ n) × (s ≡ t))
    → (read : Result A ℕ) (m n : ℕ) (s t : List ℕ) → ShowsBy shows read m s → ShowsBy shows read n t
    → (m ≡ n) × (s ≡ t)
shows_by_once shows one (Ok a) m n s t h k = one a m n s t h k
shows_by_once shows one (Err number) m n s t h k = (h.0 ∙ sym k.0, h.1 ∙ sym k.1)

scripted_by_once : {A : Type 0} (gives : List (List ℕ) → Result A ℕ → Type 0)
    (shows : Result A ℕ → ℕ → List ℕ → Type 0)
    → ((lines : List (List ℕ)) (r s : Result A ℕ) → gives lines r → gives lines s → r ≡ s)
    → ((read : Result A ℕ) (m n : ℕ) (s t : List ℕ) → shows read m s → shows read n t
    → (m ≡ n) × (s ≡ t))
    → (bytes : List ℕ) (m n : ℕ) (s t : List ℕ) → ScriptedBy gives shows bytes m s
    → ScriptedBy gives shows bytes n t → (m ≡ n) × (s ≡ t)
scripted_by_once gives shows given shown bytes m n s t (inl h) (inl k) =
    (h.1 ∙ sym k.1, h.2 ∙ sym k.2)
scripted_by_once gives shows given shown bytes m n s t (inl h) (inr k) =
    let a = h.0 in let b = k.0 in absurd (omega arith)
scripted_by_once gives shows given shown bytes m n s t (inr h) (inl k) =
    let a = h.0 in let b = k.0 in absurd (omega arith)
scripted_by_once gives shows given shown bytes m n s t (inr h) (inr k) =
    let e : h.1 ≡ k.1 = given (lines_of bytes) h.1 k.1 h.2 k.2 in
    shown h.1 m n s t h.3 (subst (λ read. shows read n t) (sym e) k.3)

scripted_once : (bytes : List ℕ) (m n : ℕ) (s t : List ℕ) → Scripted bytes m s → Scripted bytes n t
    → (m ≡ n) × (s ≡ t)
scripted_once = scripted_by_once (Gives 0 opening_scene) Shows
    (λ lines r s h k. gives_once with_line 0 opening_scene lines r s h k)
    (λ read m n s t h k. shows_by_once (IsRun line_by_line)
    (λ scene m n s t h k. run_once line_by_line scene m n s t h k) read m n s t h k)

-- a text is written once
written_once : (pieces : List (List ℕ)) (m n : ℕ) (s t : List ℕ) → IsServed pieces m s
    → IsServed pieces n t → (m ≡ n) × (s ≡ t)
written_once pieces m n s t h k = (
  ap (λ (w : Written). w.0) (h ∙ sym k),
  ap (λ (w : Written). w.1) (h ∙ sym k),
)

files_once : (bytes : List ℕ) (m n : ℕ) (s t : List ℕ) → FilesScripted bytes m s
    → FilesScripted bytes n t → (m ≡ n) × (s ≡ t)
files_once = scripted_by_once BringsPieces ShowsFiles
    (λ lines r s h k. gives_once with_stream_line 0 [] lines r s h k)
    (λ read m n s t h k. shows_by_once IsServed written_once read m n s t h k)

-- and what two ends deliver once
tale_once : (window packet : ℕ) (events : List EndEvent) (m n : ℕ) (s t : List ℕ)
    → IsTold window packet events m s → IsTold window packet events n t → (m ≡ n) × (s ≡ t)
tale_once window packet events m n s t h k = (h.0 ∙ sym k.0, h.1 ∙ sym k.1)

ends_once : (window packet : ℕ) (bytes : List ℕ) (m n : ℕ) (s t : List ℕ)
    → EndsScripted window packet bytes m s → EndsScripted window packet bytes n t
    → (m ≡ n) × (s ≡ t)
ends_once window packet = scripted_by_once BringsEvents (ShowsEnds window packet) events_once
    (λ read m n s t h k. shows_by_once (IsTold window packet) (tale_once window packet) read m n s t
    h k)

-- and what a gateway does once
gateway_once : (bytes : List ℕ) (m n : ℕ) (s t : List ℕ) → GatewayScripted bytes m s
    → GatewayScripted bytes n t → (m ≡ n) × (s ≡ t)
gateway_once = scripted_by_once BringsGateway ShowsGateway brings_once
    (λ read m n s t h k. shows_by_once IsForwarded forwarded_once read m n s t h k)

-- words ask for one thing
first_length : List (List ℕ) → ℕ
first_length [] = 0
first_length (word ∷ words) = length word

not_help : run_words ≢ help_words
unfolding first_length
not_help = λ e. let z : 3 ≡ 6 = ap first_length e in omega (arith, z)

not_version : run_words ≢ version_words
unfolding first_length
not_version = λ e. let z : 3 ≡ 9 = ap first_length e in omega (arith, z)

not_sftp : run_words ≢ sftp_words
unfolding first_length
not_sftp = λ e. let z : 3 ≡ 4 = ap first_length e in omega (arith, z)

sftp_not_help : sftp_words ≢ help_words
unfolding first_length
sftp_not_help = λ e. let z : 4 ≡ 6 = ap first_length e in omega (arith, z)

sftp_not_version : sftp_words ≢ version_words
unfolding first_length
sftp_not_version = λ e. let z : 4 ≡ 9 = ap first_length e in omega (arith, z)

not_gateway : run_words ≢ gateway_words
unfolding first_length
not_gateway = λ e. let z : 3 ≡ 7 = ap first_length e in omega (arith, z)

sftp_not_gateway : sftp_words ≢ gateway_words
unfolding first_length
sftp_not_gateway = λ e. let z : 4 ≡ 7 = ap first_length e in omega (arith, z)

gateway_not_help : gateway_words ≢ help_words
unfolding first_length
gateway_not_help = λ e. let z : 7 ≡ 6 = ap first_length e in omega (arith, z)

gateway_not_version : gateway_words ≢ version_words
unfolding first_length
gateway_not_version = λ e. let z : 7 ≡ 9 = ap first_length e in omega (arith, z)

not_both : help_words ≢ version_words
unfolding first_length
not_both = λ e. let z : 6 ≡ 9 = ap first_length e in omega (arith, z)

not_generate : (word : List ℕ) (channels : ℕ) → word ∷ [] ≡ generate_words channels → ⊥
not_generate word channels e = cc

generate_once : (m n : ℕ) → IsSize m → IsSize n → generate_words m ≡ generate_words n → m ≡ n
generate_once m n h k e =
    let digits : decimal m ≡ decimal n = cc in
    decimal_injective m n (omega (arith, h.1)) (omega (arith, k.1)) digits

-- two ends are asked for by three words
not_ends : (word : List ℕ) (window packet : ℕ) → word ∷ [] ≡ ends_words window packet → ⊥
not_ends word window packet e = cc

generate_not_ends : (channels window packet : ℕ)
    → generate_words channels ≡ ends_words window packet → ⊥
generate_not_ends channels window packet e = cc

sizes_once : (v p w q : ℕ) → AreWide v p → AreWide w q → ends_words v p ≡ ends_words w q
    → task.JoinEnds v p ≡ task.JoinEnds w q
sizes_once v p w q h k e =
    let windows : decimal v ≡ decimal w = cc in
    let packets : decimal p ≡ decimal q = cc in
    let window : v ≡ w =
    decimal_injective v w (omega (arith, h.0)) (omega (arith, k.0)) windows in
    let packet : p ≡ q =
    decimal_injective p q (omega (arith, h.2)) (omega (arith, k.2)) packets in
    ap (λ one. task.JoinEnds one p) window ∙ ap (task.JoinEnds w) packet

asked_once : (words : List (List ℕ)) (one other : Task) → IsTask one words → IsTask other words
    → one ≡ other
asked_once words task.Run task.Run h k = refl
asked_once words task.Run (task.Generate n) h k = absurd (not_generate (codes "run") n (sym h ∙ k.1))
asked_once words task.Run task.ShowUsage h k = absurd (not_help (sym h ∙ k))
asked_once words task.Run task.ShowVersion h k = absurd (not_version (sym h ∙ k))
asked_once words task.Run task.Refuse h k = absurd (k.0 h)
asked_once words task.Run task.ServeFiles h k = absurd (not_sftp (sym h ∙ k))
asked_once words task.Run task.Forward h k = absurd (not_gateway (sym h ∙ k))
asked_once words task.Forward task.Run h k = absurd (not_gateway (sym k ∙ h))
asked_once words task.ServeFiles task.Forward h k = absurd (sftp_not_gateway (sym h ∙ k))
asked_once words task.Forward task.ServeFiles h k = absurd (sftp_not_gateway (sym k ∙ h))
asked_once words task.Forward (task.Generate n) h k =
    absurd (not_generate (codes "gateway") n (sym h ∙ k.1))
asked_once words (task.Generate m) task.Forward h k =
    absurd (not_generate (codes "gateway") m (sym k ∙ h.1))
asked_once words task.Forward (task.JoinEnds w q) h k =
    absurd (not_ends (codes "gateway") w q (sym h ∙ k.1))
asked_once words (task.JoinEnds w q) task.Forward h k =
    absurd (not_ends (codes "gateway") w q (sym k ∙ h.1))
asked_once words task.Forward task.Forward h k = refl
asked_once words task.Forward task.ShowUsage h k = absurd (gateway_not_help (sym h ∙ k))
asked_once words task.ShowUsage task.Forward h k = absurd (gateway_not_help (sym k ∙ h))
asked_once words task.Forward task.ShowVersion h k = absurd (gateway_not_version (sym h ∙ k))
asked_once words task.ShowVersion task.Forward h k = absurd (gateway_not_version (sym k ∙ h))
asked_once words task.Forward task.Refuse h k = absurd (k.6 h)
asked_once words task.Refuse task.Forward h k = absurd (h.6 k)
asked_once words task.ServeFiles task.Run h k = absurd (not_sftp (sym k ∙ h))
asked_once words task.ServeFiles task.ServeFiles h k = refl
asked_once words task.ServeFiles (task.Generate n) h k =
    absurd (not_generate (codes "sftp") n (sym h ∙ k.1))
asked_once words task.ServeFiles task.ShowUsage h k = absurd (sftp_not_help (sym h ∙ k))
asked_once words task.ServeFiles task.ShowVersion h k = absurd (sftp_not_version (sym h ∙ k))
asked_once words task.ServeFiles task.Refuse h k = absurd (k.4 h)
asked_once words (task.Generate m) task.ServeFiles h k =
    absurd (not_generate (codes "sftp") m (sym k ∙ h.1))
asked_once words task.ShowUsage task.ServeFiles h k = absurd (sftp_not_help (sym k ∙ h))
asked_once words task.ShowVersion task.ServeFiles h k = absurd (sftp_not_version (sym k ∙ h))
asked_once words task.Refuse task.ServeFiles h k = absurd (h.4 k)
asked_once words task.Run (task.JoinEnds w q) h k =
    absurd (not_ends (codes "run") w q (sym h ∙ k.1))
asked_once words task.ServeFiles (task.JoinEnds w q) h k =
    absurd (not_ends (codes "sftp") w q (sym h ∙ k.1))
asked_once words (task.Generate m) (task.JoinEnds w q) h k =
    absurd (generate_not_ends m w q (sym h.1 ∙ k.1))
asked_once words task.ShowUsage (task.JoinEnds w q) h k =
    absurd (not_ends (codes "--help") w q (sym h ∙ k.1))
asked_once words task.ShowVersion (task.JoinEnds w q) h k =
    absurd (not_ends (codes "--version") w q (sym h ∙ k.1))
asked_once words task.Refuse (task.JoinEnds w q) h k = absurd (h.5 w q k.0 k.1)
asked_once words (task.JoinEnds w q) task.Run h k =
    absurd (not_ends (codes "run") w q (sym k ∙ h.1))
asked_once words (task.JoinEnds w q) task.ServeFiles h k =
    absurd (not_ends (codes "sftp") w q (sym k ∙ h.1))
asked_once words (task.JoinEnds w q) (task.Generate m) h k =
    absurd (generate_not_ends m w q (sym k.1 ∙ h.1))
asked_once words (task.JoinEnds w q) (task.JoinEnds v p) h k =
    sizes_once w q v p h.0 k.0 (sym h.1 ∙ k.1)
asked_once words (task.JoinEnds w q) task.ShowUsage h k =
    absurd (not_ends (codes "--help") w q (sym k ∙ h.1))
asked_once words (task.JoinEnds w q) task.ShowVersion h k =
    absurd (not_ends (codes "--version") w q (sym k ∙ h.1))
asked_once words (task.JoinEnds w q) task.Refuse h k = absurd (k.5 w q h.0 h.1)
asked_once words (task.Generate m) task.Run h k =
    absurd (not_generate (codes "run") m (sym k ∙ h.1))
asked_once words (task.Generate m) (task.Generate n) h k =
    ap task.Generate (generate_once m n h.0 k.0 (sym h.1 ∙ k.1))
asked_once words (task.Generate m) task.ShowUsage h k =
    absurd (not_generate (codes "--help") m (sym k ∙ h.1))
asked_once words (task.Generate m) task.ShowVersion h k =
    absurd (not_generate (codes "--version") m (sym k ∙ h.1))
asked_once words (task.Generate m) task.Refuse h k = absurd (k.3 m h.0 h.1)
asked_once words task.ShowUsage task.Run h k = absurd (not_help (sym k ∙ h))
asked_once words task.ShowUsage (task.Generate n) h k =
    absurd (not_generate (codes "--help") n (sym h ∙ k.1))
asked_once words task.ShowUsage task.ShowUsage h k = refl
asked_once words task.ShowUsage task.ShowVersion h k = absurd (not_both (sym h ∙ k))
asked_once words task.ShowUsage task.Refuse h k = absurd (k.1 h)
asked_once words task.ShowVersion task.Run h k = absurd (not_version (sym k ∙ h))
asked_once words task.ShowVersion (task.Generate n) h k =
    absurd (not_generate (codes "--version") n (sym h ∙ k.1))
asked_once words task.ShowVersion task.ShowUsage h k = absurd (not_both (sym k ∙ h))
asked_once words task.ShowVersion task.ShowVersion h k = refl
asked_once words task.ShowVersion task.Refuse h k = absurd (k.2 h)
asked_once words task.Refuse task.Run h k = absurd (h.0 k)
asked_once words task.Refuse (task.Generate n) h k = absurd (h.3 n k.0 k.1)
asked_once words task.Refuse task.ShowUsage h k = absurd (h.1 k)
asked_once words task.Refuse task.ShowVersion h k = absurd (h.2 k)
asked_once words task.Refuse task.Refuse h k = refl

-- whether this is done with a script
abbrev pub reads : Task → Bool
reads task.Run = true
reads task.ServeFiles = true
reads (task.Generate channels) = false
reads (task.JoinEnds window packet) = true
reads task.Forward = true
reads task.ShowUsage = false
reads task.ShowVersion = false
reads task.Refuse = false

same_words : (asked : Task) (words : List (List ℕ)) → IsTask asked words → AskForScript words
    → reads asked ≡ true
same_words asked words w (inl k) = ap reads (asked_once words asked task.Run w k)
same_words asked words w (inr (inl k)) = ap reads (asked_once words asked task.ServeFiles w k)
same_words asked words w (inr (inr (inl k))) =
    ap reads (asked_once words asked (task.JoinEnds k.0 k.1) w (k.2, k.3))
same_words asked words w (inr (inr (inr k))) =
    ap reads (asked_once words asked task.Forward w k)

-- what is done without a script is not asked for by words that ask for one
pub ask_for_none : (asked : Task) (words : List (List ℕ)) → IsTask asked words → reads asked ≡ false
    → AskForScript words → ⊥
ask_for_none asked words w none k = absurd (cc (sym (same_words asked words w k) ∙ none))

does_once : (asked : Task) (script : List ℕ) (m n : ℕ) (s t : List ℕ) → Does asked script m s
    → Does asked script n t → (m ≡ n) × (s ≡ t)
does_once task.Run script m n s t h k = scripted_once script m n s t h k
does_once task.ServeFiles script m n s t h k = files_once script m n s t h k
does_once (task.Generate channels) script m n s t h k =
    run_once in_numbers (generated channels) m n s t h k
does_once (task.JoinEnds window packet) script m n s t h k =
    ends_once window packet script m n s t h k
does_once task.Forward script m n s t h k = gateway_once script m n s t h k
does_once task.ShowUsage script m n s t h k = (h.0 ∙ sym k.0, h.1 ∙ sym k.1)
does_once task.ShowVersion script m n s t h k = (h.0 ∙ sym k.0, h.1 ∙ sym k.1)
does_once task.Refuse script m n s t h k = (h.0 ∙ sym k.0, h.1 ∙ sym k.1)

pub transcript_once : (words : List (List ℕ)) (script : List ℕ) (m n : ℕ) (s t : List ℕ)
    → Transcript words script m s → Transcript words script n t → (m ≡ n) × (s ≡ t)
transcript_once words script m n s t h k =
    let e : h.0 ≡ k.0 = asked_once words h.0 k.0 h.1 k.1 in
    does_once h.0 script m n s t h.2 (subst (λ asked. Does asked script n t) (sym e) k.2)

not_two : (n : ℕ) → n < 2 → Some n ≡ Some 2 → ⊥
not_two n l e = let z : n ≡ 2 = cc in absurd (omega arith)

none_is_some : (n : ℕ) → None ≡ Some n → ⊥
none_is_some n e = cc

run_not_two : (result : Result (Unit {0}) (RunError Failure PlainKexError))
    → status_of result ≡ Some 2 → ⊥
run_not_two (Ok done) h = not_two 0 (omega arith) h
run_not_two (Err error.NoMemory) h = absurd (none_is_some 2 h)
run_not_two (Err error.LinkFault) h = not_two 1 (omega arith) h
run_not_two (Err error.InputLimit) h = not_two 1 (omega arith) h
run_not_two (Err (error.Encoding why)) h = not_two 1 (omega arith) h
run_not_two (Err error.Inconsistent) h = not_two 1 (omega arith) h
run_not_two (Err (error.Key why)) h = not_two 1 (omega arith) h
run_not_two (Err error.UnsupportedAuthMethod) h = not_two 1 (omega arith) h
run_not_two (Err (error.Handler record_error.NoMemory)) h = absurd (none_is_some 2 h)
run_not_two (Err (error.Handler record_error.Untold)) h = not_two 1 (omega arith) h
run_not_two (Err (error.Handler (record_error.Inner e))) h = not_two 1 (omega arith) h
run_not_two (Err (error.Kex e)) h = not_two 1 (omega arith) h
run_not_two (Err error.ChannelsFull) h = not_two 1 (omega arith) h
run_not_two (Err error.KeepaliveTimeout) h = not_two 1 (omega arith) h
run_not_two (Err error.InactivityTimeout) h = not_two 1 (omega arith) h
run_not_two (Err error.Pending) h = not_two 1 (omega arith) h

module _ {A : Type 0} (gives : List (List ℕ) → Result A ℕ → Type 0)
    (given : (lines : List (List ℕ)) (r s : Result A ℕ) → gives lines r → gives lines s → r ≡ s)
    (shows : A → ℕ → List ℕ → Type 0) (never : (a : A) (text : List ℕ) → shows a 2 text → ⊥) where
  two_shown : (read : Result A ℕ) (m : ℕ) (text : List ℕ) (lines : List (List ℕ))
      → gives lines read → ShowsBy shows read m text → m ≡ 2
      → (number : ℕ) × gives lines (Err number)
  two_shown (Ok a) m text lines g h e = absurd (never a text (subst (λ n. shows a n text) e h))
  two_shown (Err number) m text lines g h e = (number, g)

  bad_is_two : (bytes : List ℕ) (m : ℕ) (text : List ℕ)
      → ScriptedBy gives (ShowsBy shows) bytes m text → IsBadBy gives bytes → m ≡ 2
  bad_is_two bytes m text (inl h) k = h.1
  bad_is_two bytes m text (inr h) (inl k) = let a = h.0 in absurd (omega arith)
  bad_is_two bytes m text (inr h) (inr k) =
      let e : h.1 ≡ Err k.0 = given (lines_of bytes) h.1 (Err k.0) h.2 k.1 in
      (subst (λ read. ShowsBy shows read m text) e h.3).0

  two_is_bad : (bytes : List ℕ) (m : ℕ) (text : List ℕ)
      → ScriptedBy gives (ShowsBy shows) bytes m text → m ≡ 2 → IsBadBy gives bytes
  two_is_bad bytes m text (inl h) e = inl h.0
  two_is_bad bytes m text (inr h) e = inr (two_shown h.1 m text (lines_of bytes) h.2 h.3 e)

never_run : (scene : Scene) (text : List ℕ) → IsRun line_by_line scene 2 text → ⊥
never_run scene text h = run_not_two h.result h.status_is

-- no text of a file server has the status 2
end_not_two : (left : List ℕ) → (at_end left).0 ≡ 2 → ⊥
end_not_two [] e = absurd (omega (arith, e))
end_not_two (byte ∷ bytes) e = absurd (omega (arith, e))

piece_not_two : (why : Option SftpError) (rest : Written) → (rest.0 ≡ 2 → ⊥)
    → (unless_refused why rest).0 ≡ 2 → ⊥
piece_not_two None rest later e = later e
piece_not_two (Some why) rest later e = absurd (omega (arith, e))

served_not_two : (so_far : List ℕ) (pieces : List (List ℕ)) → (served_on so_far pieces).0 ≡ 2 → ⊥
served_not_two so_far [] e = end_not_two (left_of so_far) e
served_not_two so_far (piece ∷ pieces) e =
    piece_not_two (fault_of (so_far ++ piece)) (served_on (so_far ++ piece) pieces)
    (served_not_two (so_far ++ piece) pieces) e

never_served : (pieces : List (List ℕ)) (text : List ℕ) → IsServed pieces 2 text → ⊥
never_served pieces text h = served_not_two [] pieces (sym (ap (λ (w : Written). w.0) h))

script_bad : (script : List ℕ) (m : ℕ) (text : List ℕ) → Scripted script m text → m ≡ 2
    → IsBadScript script
script_bad = two_is_bad (Gives 0 opening_scene)
    (λ lines r s h k. gives_once with_line 0 opening_scene lines r s h k) (IsRun line_by_line)
    never_run

bad_script : (script : List ℕ) (m : ℕ) (text : List ℕ) → Scripted script m text
    → IsBadScript script → m ≡ 2
bad_script = bad_is_two (Gives 0 opening_scene)
    (λ lines r s h k. gives_once with_line 0 opening_scene lines r s h k) (IsRun line_by_line)
    never_run

stream_bad : (script : List ℕ) (m : ℕ) (text : List ℕ) → FilesScripted script m text → m ≡ 2
    → IsBadStream script
stream_bad = two_is_bad BringsPieces
    (λ lines r s h k. gives_once with_stream_line 0 [] lines r s h k) IsServed never_served

bad_stream : (script : List ℕ) (m : ℕ) (text : List ℕ) → FilesScripted script m text
    → IsBadStream script → m ≡ 2
bad_stream = bad_is_two BringsPieces
    (λ lines r s h k. gives_once with_stream_line 0 [] lines r s h k) IsServed never_served

never_told : (window packet : ℕ) (events : List EndEvent) (text : List ℕ)
    → IsTold window packet events 2 text → ⊥
never_told window packet events text h = omega (arith, h.0)

tale_bad : (window packet : ℕ) (script : List ℕ) (m : ℕ) (text : List ℕ)
    → EndsScripted window packet script m text → m ≡ 2 → IsBadTale script
tale_bad window packet =
    two_is_bad BringsEvents events_once (IsTold window packet) (never_told window packet)

bad_tale : (window packet : ℕ) (script : List ℕ) (m : ℕ) (text : List ℕ)
    → EndsScripted window packet script m text → IsBadTale script → m ≡ 2
bad_tale window packet =
    bad_is_two BringsEvents events_once (IsTold window packet) (never_told window packet)

ending_not_two : (result : Ending) → ending_status result ≡ Some 2 → ⊥
ending_not_two (Ok done) h = not_two 0 (omega arith) h
ending_not_two (Err gateway_error.NoMemory) h = absurd (none_is_some 2 h)
ending_not_two (Err (gateway_error.Run why)) h = not_two 1 (omega arith) h
ending_not_two (Err gateway_error.TargetFault) h = not_two 1 (omega arith) h
ending_not_two (Err gateway_error.TurnLimit) h = not_two 1 (omega arith) h

never_forwarded : (scene : GatewayScene) (text : List ℕ) → IsForwarded scene 2 text → ⊥
never_forwarded scene text h = ending_not_two h.result h.status_is

gateway_bad : (script : List ℕ) (m : ℕ) (text : List ℕ) → GatewayScripted script m text → m ≡ 2
    → IsBadGateway script
gateway_bad = two_is_bad BringsGateway brings_once IsForwarded never_forwarded

bad_gateway : (script : List ℕ) (m : ℕ) (text : List ℕ) → GatewayScripted script m text
    → IsBadGateway script → m ≡ 2
bad_gateway = bad_is_two BringsGateway brings_once IsForwarded never_forwarded

two_wrong : (asked : Task) (words : List (List ℕ)) (script : List ℕ) (m : ℕ) (text : List ℕ)
    → IsTask asked words → Does asked script m text → m ≡ 2
    → IsUnknown words ⊎ IsMisused words script
two_wrong task.Run words script m text w h e = inr (inl (w, script_bad script m text h e))
two_wrong task.ServeFiles words script m text w h e =
    inr (inr (inl (w, stream_bad script m text h e)))
two_wrong (task.JoinEnds window packet) words script m text w h e =
    inr (inr (inr (inl ((window, packet, w.0, w.1), tale_bad window packet script m text h e))))
two_wrong task.Forward words script m text w h e =
    inr (inr (inr (inr (w, gateway_bad script m text h e))))
two_wrong (task.Generate channels) words script m text w h e =
    absurd (run_not_two h.result (h.status_is ∙ ap Some e))
two_wrong task.ShowUsage words script m text w h e = absurd (omega (arith, h.0))
two_wrong task.ShowVersion words script m text w h e = absurd (omega (arith, h.0))
two_wrong task.Refuse words script m text w h e = inl w

-- words that are misused ask for a run, for a file server, for two ends or for a gateway
misused_two : (asked : Task) (words : List (List ℕ)) (script : List ℕ) (m : ℕ) (text : List ℕ)
    → IsTask asked words → Does asked script m text → IsMisused words script → m ≡ 2
misused_two asked words script m text w h (inl k) =
    let is : asked ≡ task.Run = asked_once words asked task.Run w k.0 in
    bad_script script m text (subst (λ one. Does one script m text) is h) k.1
misused_two asked words script m text w h (inr (inl k)) =
    let is : asked ≡ task.ServeFiles = asked_once words asked task.ServeFiles w k.0 in
    bad_stream script m text (subst (λ one. Does one script m text) is h) k.1
misused_two asked words script m text w h (inr (inr (inr k))) =
    let is : asked ≡ task.Forward = asked_once words asked task.Forward w k.0 in
    bad_gateway script m text (subst (λ one. Does one script m text) is h) k.1
misused_two asked words script m text w h (inr (inr (inl ((window, packet, wide, same), k)))) =
    let is : asked ≡ task.JoinEnds window packet =
    asked_once words asked (task.JoinEnds window packet) w (wide, same) in
    bad_tale window packet script m text (subst (λ one. Does one script m text) is h) k

wrong_two : (asked : Task) (words : List (List ℕ)) (script : List ℕ) (m : ℕ) (text : List ℕ)
    → IsTask asked words → Does asked script m text
    → IsUnknown words ⊎ IsMisused words script → m ≡ 2
wrong_two asked words script m text w h (inl k) =
    let is : asked ≡ task.Refuse = asked_once words asked task.Refuse w k in
    (subst (λ one. Does one script m text) is h).0
wrong_two asked words script m text w h (inr k) = misused_two asked words script m text w h k

-- status 2 comes exactly with words that ask for nothing, and with a run, a file server, two ends or a
-- gateway and a script that is too long or has a bad line
pub two_exactly : (words : List (List ℕ)) (script : List ℕ) (m : ℕ) (text : List ℕ)
    → Transcript words script m text →
    (m ≡ 2) ↔ (IsUnknown words ⊎ IsMisused words script)
two_exactly words script m text h = (
  two_wrong h.0 words script m text h.1 h.2,
  wrong_two h.0 words script m text h.1 h.2,
)
