-- What a link gave to its session and what it was handed, as its trace tells it.
use Rattle.std.specs.Prelude.{◌≡◌, not, List, [], ◌∷◌, ◌++◌, map, Option, Some, None}
use Rattle.std.specs.List.{filter}
use Rattle.std.specs.Option.{option_map, option_to_list}
use Rattle.ssh_link.specs.Frames.{Frame}
use Rattle.ssh_link.specs.declared.frame.Input.{Input}
use Rattle.ssh_link.specs.declared.frame.InputKind.{InputKind}
use Rattle.ssh_link.specs.declared.link.TraceEntry.{TraceEntry}
use Rattle.ssh_link.specs.declared.link.TraceEntry.TheVariants.{Took, Sent}
use Rattle.ssh_link.specs.Told.{Adds}
use Rattle.ssh_hub.specs.declared.answers.Taken.{Taken}
use Rattle.ssh_hub.specs.declared.answers.Taken.TheVariants.{Reply, Command as TakenCommand}
use Rattle.ssh_hub.specs.declared.history.HubCall.{HubCall}
use Rattle.ssh_hub.specs.declared.history.HubCall.TheVariants.{TakeNext}
use Rattle.ssh_hub.specs.declared.history.HubReply.{HubReply}
use Rattle.ssh_hub.specs.declared.history.HubReply.TheVariants.{Took as HubTook}
use Rattle.ssh_hub.specs.declared.history.View.{View}
use Rattle.ssh_hub.specs.Does.{Does}
use Rattle.ssh_link.specs.declared.frame.InputKind.TheVariants.{Command, OpenReply}
use Rattle.ssh_hub_link.specs.Feeds.{is_of_feed}

-- what a hub's take took out, as an input
abbrev pub kind_of : Taken → InputKind
kind_of (Reply ticket answer) = OpenReply ticket answer
kind_of (TakenCommand ticket command) = Command ticket command

-- what this call took out of the hub
abbrev pub taken_by : HubCall → HubReply → List InputKind
taken_by (TakeNext replies commands) (HubTook (Some taken)) = kind_of taken ∷ []
taken_by call reply = []

-- what the takes among these calls took out, in order
abbrev pub takes_in : List (HubCall × HubReply) → List InputKind
takes_in [] = []
takes_in (one ∷ others) = taken_by one.0 one.1 ++ takes_in others

-- the inputs that were taken, in order
abbrev pub inputs_in : List TraceEntry → List Input
inputs_in [] = []
inputs_in (Took commands replies input ∷ others) = input ∷ inputs_in others
inputs_in (entry ∷ others) = inputs_in others

-- the frames that were sent, in order
abbrev pub frames_in : List TraceEntry → List Frame
frames_in [] = []
frames_in (Sent frame ∷ others) = frame ∷ frames_in others
frames_in (entry ∷ others) = frames_in others

-- all inputs that were given, where a trace is kept: those that it tells, and the one that is lost,
-- since there was no memory to tell it
abbrev pub given : Option (List TraceEntry) → Option Input → Option (List Input)
given None lost = None
given (Some trace) lost = Some (inputs_in trace ++ option_to_list lost)

-- all frames that were sent, where a trace is kept
abbrev pub sent : Option (List TraceEntry) → Option (List Frame)
sent trace = option_map frames_in trace

-- of these inputs those of a feed
abbrev pub of_feed : List Input → List Input
of_feed inputs = filter (λ input. is_of_feed input.kind) inputs

-- and the others, which are commands and replies
abbrev pub of_hub : List Input → List InputKind
of_hub inputs = map (λ (input : Input). input.kind)
    (filter (λ (input : Input). not (is_of_feed input.kind)) inputs)

-- the list went on from the first to the second by just these, if they are known
unfoldable pub GoesOn : {A : Type 0} → Option (List A) → Option (List A) → Option (List A) → Type 0
GoesOn before now None = Unit {0}
GoesOn before now (Some more) = Adds before now more

-- these are just what the calls took, if they are known
abbrev pub AreTaken : Option (List InputKind) → List (HubCall × HubReply) → Type 0
AreTaken None calls = Unit {0}
AreTaken (Some kinds) calls = kinds ≡ takes_in calls

-- a seat went on from the first view to the second by calls that took just these out of the hub
unfoldable pub TakesOf : View → View → Option (List InputKind) → Type 0
TakesOf before now kinds =
    (calls : List (HubCall × HubReply)) × Does before calls now × AreTaken kinds calls
