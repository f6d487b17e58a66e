-- The words by which a script answers.
use Rattle.std.specs.Prelude.{ℕ, List, codes, bytes_eq, if◌then◌else◌, Option, Some, None}
use Rattle.std.specs.Prelude.{option_map}
use Rattle.ssh_scene.specs.declared.answers.InteractiveVerdict.{InteractiveVerdict}
use Rattle.ssh_scene.specs.declared.answers.InteractiveVerdict.TheVariants as interactive
use Rattle.ssh_scene.specs.declared.answers.OpenVerdict.{OpenVerdict}
use Rattle.ssh_scene.specs.declared.answers.OpenVerdict.TheVariants as open_verdict
use Rattle.ssh_scene.specs.declared.answers.DataVerdict.{DataVerdict}
use Rattle.ssh_scene.specs.declared.answers.DataVerdict.TheVariants as data_verdict
use Rattle.ssh_scene.specs.declared.answers.RequestVerdict.{RequestVerdict}
use Rattle.ssh_scene.specs.declared.answers.RequestVerdict.TheVariants as request_verdict
use Rattle.ssh_scene.specs.declared.answers.Verdict.{Verdict}
use Rattle.ssh_scene.specs.declared.answers.Verdict.TheVariants as verdict
use Rattle.ssh_scene.specs.declared.lines.Setting.{Setting}
use Rattle.ssh_scene.specs.declared.lines.Setting.TheVariants as setting

-- accept, reject or fail
abbrev pub verdict_of : List ℕ → Option Verdict
verdict_of word =
    if bytes_eq word (codes "accept") then Some verdict.Accept
    else if bytes_eq word (codes "reject") then Some verdict.Reject
    else if bytes_eq word (codes "fail") then Some verdict.Fail
    else None

-- the requests that a verdict answers
abbrev pub answer_to : List ℕ → Verdict → Option Setting
answer_to name one =
    if bytes_eq name (codes "none") then Some (setting.AnswerNone one)
    else if bytes_eq name (codes "password") then Some (setting.AnswerPassword one)
    else if bytes_eq name (codes "offered") then Some (setting.AnswerOffered one)
    else if bytes_eq name (codes "publickey") then Some (setting.AnswerPublickey one)
    else if bytes_eq name (codes "certificate") then Some (setting.AnswerCertificate one)
    else None

-- accept, reject, fail, unsupported or ask
abbrev pub interactive_verdict_of : List ℕ → Option InteractiveVerdict
interactive_verdict_of word =
    if bytes_eq word (codes "unsupported") then Some interactive.Unsupported
    else if bytes_eq word (codes "ask") then Some interactive.Ask
    else option_map interactive.Plain (verdict_of word)

-- accept, reject or hold
abbrev pub open_verdict_of : List ℕ → Option OpenVerdict
open_verdict_of word =
    if bytes_eq word (codes "accept") then Some open_verdict.Accept
    else if bytes_eq word (codes "reject") then Some open_verdict.Reject
    else if bytes_eq word (codes "hold") then Some open_verdict.Hold
    else None

-- echo or silent
abbrev pub data_verdict_of : List ℕ → Option DataVerdict
data_verdict_of word =
    if bytes_eq word (codes "echo") then Some data_verdict.Echo
    else if bytes_eq word (codes "silent") then Some data_verdict.Silent
    else None

-- success, failure or silent
abbrev pub request_verdict_of : List ℕ → Option RequestVerdict
request_verdict_of word =
    if bytes_eq word (codes "success") then Some request_verdict.Success
    else if bytes_eq word (codes "failure") then Some request_verdict.Failure
    else if bytes_eq word (codes "silent") then Some request_verdict.Silent
    else None
