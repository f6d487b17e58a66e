-- What the program owes for the word `threads`.
use Rattle.std.specs.Prelude.{◌≡◌, ◌≢◌, ◌<◌, ◌≤◌, ℕ, List, [], ◌∷◌, codes, Option, Some, None}
use Rattle.std.specs.Prelude.{Err}
use Rattle.std.specs.Fmt.{decimal}
use Rattle.ssh_link.specs.Frames.{Frame}
use Rattle.ssh_link.specs.declared.frame.Input.{Input}
use Rattle.ssh_link.specs.declared.link.TraceEntry.{TraceEntry}
use Rattle.ssh_hub.specs.declared.history.View.{View}
use Rattle.ssh_hub_link.specs.Given.{frames_in}
use Rattle.ssh_rules.specs.declared.error.RunError.TheVariants.{LinkFault}
use Rattle.ssh_threads_lines.specs.Lines.{status_of, text_of}
use Rattle.ssh_threads.specs.Runs.{RanInThreads}
use Rattle.ssh_threads.specs.Sessions.{Outcome}

-- so many channels may be asked for
abbrev pub IsCount : ℕ → Type 0
IsCount n = (0 < n) × (n ≤ 8)

abbrev pub threads_words : ℕ → List (List ℕ)
threads_words n = codes "threads" ∷ decimal n ∷ []

-- this is the status and the text of a run in threads of so many channels, by what the peer told
-- before and after it
pub record ShowsThreads (n : ℕ) (rose : Type 0) (given given_after : Option (List Input))
    (taken taken_after : Option (List Frame)) (status : ℕ) (text : List ℕ) : Type 0 where
  pub trace : List TraceEntry
  pub outcome : Outcome
  pub seat : View
  pub ran : RanInThreads rose given given_after taken taken_after trace outcome seat
  -- the peer failed where its fault ended the run
  pub cause : outcome ≡ Err LinkFault → rose
  pub status_is : status ≡ status_of n (frames_in trace) outcome
  pub text_is : text ≡ text_of n (frames_in trace) outcome

-- the words ask for no such run
abbrev pub NoThreads : List (List ℕ) → Type 0
NoThreads words = (n : ℕ) → IsCount n → words ≢ threads_words n

-- .. or for one of so many channels
abbrev pub IsAsked : Option ℕ → List (List ℕ) → Type 0
IsAsked None words = NoThreads words
IsAsked (Some n) words = IsCount n × (words ≡ threads_words n)
