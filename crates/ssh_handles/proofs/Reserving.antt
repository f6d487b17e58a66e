-- What a seat has reserved while it writes.
use Rattle.std.proofs.Common.{
  ◌≡◌,
  ◌<◌,
  ◌≤◌,
  ◌-◌,
  ℕ,
  Bool,
  true,
  false,
  cond,
  eqb,
  eq-eqb,
  ltb,
  lt-ltb,
  le-ltb,
  List,
  [],
  ◌∷◌,
  length,
  Option,
  Some,
  None,
  Result,
  Ok,
  Err,
  subst,
  refl,
  ap,
  sym,
  ◌∙◌,
  arith,
}
use Rattle.ssh_wire.specs.declared.channel_id.ChannelId.{ChannelId}
use Rattle.ssh_link.specs.declared.command.Command.{Command}
use Rattle.ssh_hub.specs.Lists.{data_channel}
use Rattle.ssh_hub.specs.Reserved.{
  reservation,
  with_more,
  with_less,
  less_at,
  lessened,
  is_roomy,
  after_reserve,
  reserved_by,
}
use Rattle.ssh_hub.specs.Views.{own_reservations}
use Rattle.ssh_hub.specs.Step.{opening}
use Rattle.ssh_hub.specs.History.{IsLegal}
use Rattle.ssh_hub.specs.Words.{Makes, IsNew}
use Rattle.ssh_hub.specs.Does.{Does}
use Rattle.ssh_hub.specs.declared.history.Entry.{Entry}
use Rattle.ssh_hub.specs.declared.answers.Reserve.{Reserve}
use Rattle.ssh_hub.specs.declared.history.HubCall.TheVariants.{
  ReserveBytes,
  ReleaseBytes,
  LookAt,
}
use Rattle.ssh_hub.specs.declared.history.HubReply.{HubReply}
use Rattle.ssh_hub.specs.declared.history.HubReply.TheVariants.{Reserved, Done}
use Rattle.ssh_hub.specs.declared.history.View.{View}
use Rattle.ssh_hub.specs.declared.reservations.Reservation.{Reservation}
use Rattle.ssh_hub.proofs.Did.{did_nothing}
use Rattle.ssh_hub.proofs.OwnAfter.{reserved_by_call}
use Rattle.ssh_handles.specs.DataCommands.{data_command}
use Rattle.ssh_handles.specs.Callers.{left_by}

-- who has nothing reserved has room for a reservation on one channel
pub roomy : (room c : ℕ) (rs : List Reservation) → rs ≡ [] → 0 < room → is_roomy room rs c ≡ true
roomy room c rs none some = ap (λ (l : List Reservation). is_roomy room l c) none
    ∙ lt-ltb 0 room some

lessened_whole : (b : Bool) (c n : ℕ) → b ≡ false
    → cond b (reservation c (n - n) ∷ []) [] ≡ []
lessened_whole true c n e = absurd (cc e)
lessened_whole false c n e = refl

less_found : (b : Bool) (c n : ℕ) → b ≡ true
    → cond b (lessened n (reservation c n) []) (reservation c n ∷ []) ≡ []
less_found true c n e = lessened_whole (ltb n n) c n (le-ltb n n (omega arith))
less_found false c n e = absurd (cc e)

-- what is reserved alone, and is given back or spent whole, is reserved no longer
pub all_gone : (c n : ℕ) → with_less c n (reservation c n ∷ []) ≡ []
all_gone c n = less_found (eqb c c) c n (eq-eqb c c refl)

pub data_on : (c : ChannelId) (ext : Option ℕ) (bytes : List ℕ)
    → data_channel (data_command c ext bytes) ≡ Some c.0
data_on c None bytes = refl
data_on c (Some n) bytes = refl

-- so are the bytes of a message that were put
pub spent_all : (c : ChannelId) (ext : Option ℕ) (bytes : List ℕ) (n : ℕ) (rs : List Reservation)
    → rs ≡ reservation c.0 n ∷ []
    → less_at (data_channel (data_command c ext bytes)) n rs ≡ []
spent_all c ext bytes n rs is = ap (λ (l : List Reservation).
    less_at (data_channel (data_command c ext bytes)) n l) is
    ∙ (ap (λ (o : Option ℕ). less_at o n (reservation c.0 n ∷ [])) (data_on c ext bytes)
    ∙ all_gone c.0 n)

-- and those that were given back
pub released_all : (v : View) (c : ChannelId) (n : ℕ) (w : View) → Makes v (ReleaseBytes c n) Done w
    → own_reservations v ≡ reservation c.0 n ∷ [] → own_reservations w ≡ []
released_all v c n w made is = reserved_by_call v (ReleaseBytes c n) Done w made
    ∙ (ap (λ (l : List Reservation). with_less c.0 n l) is ∙ all_gone c.0 n)

-- who had nothing reserved has what a reservation gave
pub reserved_first : (v : View) (c : ChannelId) (want : ℕ) (r s : Reserve) (w : View)
    → Makes v (ReserveBytes c want) (Reserved r) w → r ≡ s → own_reservations v ≡ []
    → own_reservations w ≡ after_reserve s c.0 []
reserved_first v c want r s w made is none =
    reserved_by_call v (ReserveBytes c want) (Reserved r) w made
    ∙ (ap (λ (x : Reserve). after_reserve x c.0 (own_reservations v)) is
    ∙ ap (λ (l : List Reservation). after_reserve s c.0 l) none)

-- a look changes nothing
pub looked_none : (v : View) (c : ChannelId) (r : HubReply) (w : View) → Makes v (LookAt c) r w
    → own_reservations w ≡ own_reservations v
looked_none v c r w made = reserved_by_call v (LookAt c) r w made

-- so are those of a message that is such a command
pub spent_msg : (c : ChannelId) (ext : Option ℕ) (bytes : List ℕ) (n : ℕ) (rs : List Reservation)
    (msg : Command) → msg ≡ data_command c ext bytes → rs ≡ reservation c.0 n ∷ []
    → less_at (data_channel msg) n rs ≡ []
spent_msg c ext bytes n rs msg same is = ap (λ (m : Command). less_at (data_channel m) n rs) same
    ∙ spent_all c ext bytes n rs is

-- nothing is left of nothing
pub less_none : (o : Option ℕ) (n : ℕ) → less_at o n [] ≡ []
less_none None n = refl
less_none (Some c) n = refl

pub none_left : (msg : Command) (n : ℕ) (r : Result ℕ (Command × ℕ)) → left_by msg n r [] ≡ []
none_left msg n (Ok ticket) = less_none (data_channel msg) n
none_left msg n (Err e) = refl

pub stays_none : (msg : Command) (n : ℕ) (r : Result ℕ (Command × ℕ)) (had has : List Reservation)
    → has ≡ left_by msg n r had → had ≡ [] → has ≡ []
stays_none msg n r had has is none = is
    ∙ (ap (λ (l : List Reservation). left_by msg n r l) none ∙ none_left msg n r)

-- what a new seat has reserved
pub fresh_none : (v w : View) → IsNew v w → own_reservations w ≡ []
fresh_none v w new = ap (λ (l : List Entry). reserved_by l []) new.none_made

pub did_same : (v w : View) → IsLegal (opening v.config) v.seen → w ≡ v → Does v [] w
did_same v w legal same = subst (λ (x : View). Does v [] x) (sym same) (did_nothing v legal)
