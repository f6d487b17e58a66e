-- What a writer that does not wait has reserved.
use Rattle.std.proofs.Common.{
  ◌≡◌,
  ◌<◌,
  ◌≤◌,
  ℕ,
  Bool,
  false,
  min,
  List,
  [],
  ◌∷◌,
  length,
  length-take,
  take,
  Option,
  None,
  Some,
  Result,
  inl,
  refl,
  ap,
  sym,
  ◌∙◌,
  subst,
  arith,
}
use Rattle.std.proofs.lemmas.List.{take-take}
use Rattle.ssh_wire.specs.declared.channel_id.ChannelId.{ChannelId}
use Rattle.ssh_wire.specs.declared.pty.Pty.{Pty}
use Rattle.ssh_link.specs.declared.command.Command.{Command}
use Rattle.ssh_link.specs.declared.command.Command.TheVariants.{ClientOnly}
use Rattle.ssh_link.specs.declared.notice.ChannelMsg.TheVariants.{RequestPty}
use Rattle.ssh_hub.specs.Lists.{data_channel}
use Rattle.ssh_hub.specs.Reserved.{reservation, after_put}
use Rattle.ssh_hub.specs.Views.{own_reservations}
use Rattle.ssh_hub.specs.Words.{Makes}
use Rattle.ssh_hub.specs.declared.answers.HandleError.{HandleError}
use Rattle.ssh_hub.specs.declared.answers.Put.{Put}
use Rattle.ssh_hub.specs.declared.answers.Put.TheVariants.{Done as IsDone, Full, Ended as PutEnded}
use Rattle.ssh_hub.specs.declared.answers.Reserve.TheVariants.{Got}
use Rattle.ssh_hub.specs.declared.history.HubCall.TheVariants.{
  PutCommand,
  ReserveBytes,
  ReleaseBytes,
}
use Rattle.ssh_hub.specs.declared.history.HubReply.{HubReply}
use Rattle.ssh_hub.specs.declared.history.HubReply.TheVariants.{WasPut, Reserved, Done}
use Rattle.ssh_hub.specs.declared.history.View.{View}
use Rattle.ssh_hub.specs.declared.reservations.Reservation.{Reservation}
use Rattle.ssh_hub.proofs.OwnAfter.{reserved_by_call}
use Rattle.ssh_handles.specs.DataCommands.{data_command, bytes_in}
use Rattle.ssh_handles.specs.Callers.{IsPut}
use Rattle.ssh_handles.specs.Handles.{IsAsked}
use Rattle.ssh_handles.specs.Staging.{staged_on, PutsStaged}
use Rattle.ssh_handles.specs.declared.poll.Poll.{Poll}
use Rattle.ssh_handles.proofs.Reserving.{spent_msg, released_all, reserved_first}

-- the one reservation of a message that is kept
one_held : (c n : ℕ) (staged : List ℕ) (rs : List Reservation) → rs ≡ staged_on c staged
    → n ≡ length staged → 0 < length staged → rs ≡ reservation c n ∷ []
one_held c n [] rs held len some = absurd (omega arith)
one_held c n (b ∷ bs) rs held len some = held
    ∙ ap (λ (k : ℕ). let l : List Reservation = reservation c k ∷ [] in l) (sym len)

pub none_held : (c : ℕ) (staged : List ℕ) (rs : List Reservation) → rs ≡ [] → staged ≡ []
    → rs ≡ staged_on c staged
none_held c staged rs none kept = none ∙ ap (staged_on c) (sym kept)

pub short_none : (xs : List ℕ) → xs ≡ [] → length xs < 4294967296
short_none xs none = let zero : length xs ≡ 0 = ap length none in omega arith

-- it is given back
pub given_back : (v : View) (c : ChannelId) (staged now : List ℕ) (n : ℕ) (w : View)
    → Makes v (ReleaseBytes c n) Done w → own_reservations v ≡ staged_on c.0 staged
    → n ≡ length staged → 0 < n → now ≡ [] → own_reservations w ≡ staged_on c.0 now
given_back v c staged now n w made held len some none = none_held c.0 now (own_reservations w)
    (released_all v c n w made
    (one_held c.0 n staged (own_reservations v) held len (omega arith))) none

-- it is spent
pub done_held : (v : View) (c : ChannelId) (ext : Option ℕ) (bytes : List ℕ) (n : ℕ) (msg : Command)
    (ticket : ℕ) (w : View) (staged now : List ℕ)
    → Makes v (PutCommand msg n false) (WasPut (IsDone ticket)) w → msg ≡ data_command c ext bytes
    → own_reservations v ≡ staged_on c.0 staged → n ≡ length staged → 0 < length staged → now ≡ []
    → own_reservations w ≡ staged_on c.0 now
done_held v c ext bytes n msg ticket w staged now made same held len some none =
    none_held c.0 now (own_reservations w)
    (reserved_by_call v (PutCommand msg n false) (WasPut (IsDone ticket)) w made
    ∙ spent_msg c ext bytes n (own_reservations v) msg same
    (one_held c.0 n staged (own_reservations v) held len some)) none

-- it is kept
pub full_held : (v : View) (c n : ℕ) (msg back : Command) (w : View) (staged now : List ℕ)
    → Makes v (PutCommand msg n false) (WasPut (Full back)) w
    → own_reservations v ≡ staged_on c staged → now ≡ staged → own_reservations w ≡ staged_on c now
full_held v c n msg back w staged now made held is =
    reserved_by_call v (PutCommand msg n false) (WasPut (Full back)) w made
    ∙ (held ∙ ap (staged_on c) (sym is))

-- it is given back at the end
pub ended_held : (v : View) (c : ChannelId) (n : ℕ) (msg back : Command) (at : ℕ) (x w : View)
    (staged now : List ℕ) → Makes v (PutCommand msg n false) (WasPut (PutEnded at back)) x
    → Makes x (ReleaseBytes c n) Done w → own_reservations v ≡ staged_on c.0 staged
    → n ≡ length staged → 0 < length staged → now ≡ [] → own_reservations w ≡ staged_on c.0 now
ended_held v c n msg back at x w staged now put made held len some none =
    given_back x c staged now n w made
    (reserved_by_call v (PutCommand msg n false) (WasPut (PutEnded at back)) x put ∙ held) len
    (omega arith) none

eof_keeps : (r : Put) (n : ℕ) (rs : List Reservation) → after_put r None n rs ≡ rs
eof_keeps (IsDone ticket) n rs = refl
eof_keeps (Full back) n rs = refl
eof_keeps (PutEnded at back) n rs = refl

-- a command without data changes nothing
pub quiet_held : (v : View) (msg : Command) (r : Put) (w : View)
    → data_channel msg ≡ None
    → Makes v (PutCommand msg 0 false) (WasPut r) w → own_reservations w ≡ own_reservations v
quiet_held v msg r w none made = reserved_by_call v (PutCommand msg 0 false) (WasPut r) w made
    ∙ (ap (λ (o : Option ℕ). after_put r o 0 (own_reservations v)) none
    ∙ eof_keeps r 0 (own_reservations v))

bytes_of_data : (c : ChannelId) (ext : Option ℕ) (bytes : List ℕ)
    → bytes_in (data_command c ext bytes) ≡ bytes
bytes_of_data c None bytes = refl
bytes_of_data c (Some k) bytes = refl

-- the bytes that come back are those that were put
pub kept_bytes : (c : ChannelId) (ext : Option ℕ) (bytes : List ℕ) (msg back : Command) → back ≡ msg
    → msg ≡ data_command c ext bytes → bytes_in back ≡ bytes
kept_bytes c ext bytes msg back same is = ap bytes_in (same ∙ is) ∙ bytes_of_data c ext bytes

pub put_as : (v : View) (msg msg' : Command) (n n' : ℕ) (r : HubReply) (w : View) → msg ≡ msg'
    → n ≡ n' → Makes v (PutCommand msg n false) r w → Makes v (PutCommand msg' n' false) r w
put_as v msg msg' n n' r w same len made = subst
    (λ (m : Command). Makes v (PutCommand m n' false) r w) same
    (subst (λ (k : ℕ). Makes v (PutCommand msg k false) r w) len made)

-- what a reservation gave is kept as a message of that length
pub got_held : (v : View) (c : ChannelId) (want n : ℕ) (w : View) (now : List ℕ)
    → Makes v (ReserveBytes c want) (Reserved (Got n)) w → own_reservations v ≡ [] → length now ≡ n
    → 0 < n → own_reservations w ≡ staged_on c.0 now
got_held v c want n w [] made none len some = absurd (omega arith)
got_held v c want n w (b ∷ bs) made none len some =
    reserved_first v c want (Got n) (Got n) w made refl none
    ∙ ap (λ (k : ℕ). let l : List Reservation = reservation c.0 k ∷ [] in l) (sym len)

-- the first n of the bytes that were copied
pub cut_is : (buf piece cut : List ℕ) (n w : ℕ) → piece ≡ take w buf → n ≤ w
    → cut ≡ take n piece → cut ≡ take n buf
cut_is buf piece cut n w is le front = front ∙ (ap (take n) is ∙ take-take n w buf le)

pub cut_length : (buf cut : List ℕ) (n w p : ℕ) → cut ≡ take n buf → n ≤ w → w ≡ min p (length buf)
    → length cut ≡ n
cut_length buf cut n w p is le want =
    let len : length cut ≡ length (take n buf) = ap length is in
    let front : length (take n buf) ≡ min n (length buf) = length-take n buf in
    omega arith

pub reserve_as : (v : View) (c : ChannelId) (want want' : ℕ) (r : HubReply) (w : View)
    → want ≡ want' → Makes v (ReserveBytes c want) r w → Makes v (ReserveBytes c want') r w
reserve_as v c want want' r w is made = subst (λ (k : ℕ). Makes v (ReserveBytes c k) r w) is made

pub staged_as : (c : ChannelId) (ext : Option ℕ) (bytes same : List ℕ) (v : View)
    (answer : Poll (Result ℕ HandleError)) (kept : List ℕ) (w : View) → bytes ≡ same
    → PutsStaged c ext bytes v answer kept w → PutsStaged c ext same v answer kept w
staged_as c ext bytes same v answer kept w is puts = subst
    (λ (l : List ℕ). PutsStaged c ext l v answer kept w) is puts

-- the request for a terminal with these modes
pub pty_as : (id : ChannelId) (want : Bool) (term : List ℕ) (a b x y : ℕ)
    (modes same : List (Pty × ℕ)) (v : View) (r : Result ℕ HandleError) (w : View) → modes ≡ same
    → IsPut (ClientOnly id (RequestPty want term a b x y modes)) 0 false v r w
    → IsAsked (ClientOnly id (RequestPty want term a b x y same)) v r w
pty_as id want term a b x y modes same v r w is put = inl
    (subst (λ (m : List (Pty × ℕ)). IsPut (ClientOnly id (RequestPty want term a b x y m)) 0 false v r
    w) is put)
