-- The bytes of calls that write.
use Rattle.std.proofs.Common.{
  ◌≡◌,
  ℕ,
  Bool,
  true,
  false,
  List,
  [],
  ◌∷◌,
  ◌++◌,
  take,
  drop,
  eqb,
  min,
  length,
  Option,
  Some,
  None,
  Result,
  Ok,
  Err,
  refl,
  ap,
  ◌∙◌,
  subst,
  append_assoc,
}
use Rattle.std.proofs.lemmas.List.{take-append-drop}
use Rattle.ssh_wire.specs.declared.channel_id.ChannelId.{ChannelId}
use Rattle.ssh_hub.specs.declared.answers.HandleError.{HandleError}
use Rattle.ssh_hub.specs.declared.answers.HandleError.TheVariants.{Ended}
use Rattle.ssh_hub.specs.declared.answers.Look.{Look}
use Rattle.ssh_hub.specs.declared.answers.Reserve.{Reserve}
use Rattle.ssh_hub.specs.declared.answers.Reserve.TheVariants.{
  Got,
  Empty,
  Gone,
  Ended as NoneEnded,
}
use Rattle.ssh_hub.specs.declared.history.HubCall.{HubCall}
use Rattle.ssh_hub.specs.declared.history.HubCall.TheVariants.{
  PutCommand,
  ReserveBytes,
  ReleaseBytes,
  LookAt,
}
use Rattle.ssh_hub.specs.declared.history.HubReply.{HubReply}
use Rattle.ssh_hub.specs.Follow.{Follows}
use Rattle.ssh_handles.specs.DataCommands.{data_command, bytes_in}
use Rattle.ssh_handles.specs.Said.{ticket_said}
use Rattle.ssh_handles.specs.Writing.{
  Writing,
  looking,
  asking,
  putting,
  releasing,
  written,
  stopped,
  writes,
  writing_asks,
  writing_told,
  to_write,
  rest_of,
  begun,
  goes_on,
  after_error,
  after_putting,
  told_look,
  told_reserve,
  look_said,
  reserve_said,
}
use Rattle.ssh_handles.specs.Written.{if_put, piece_put, bytes_put}

rest_begun : (b : Bool) (p : ℕ) (rest : List ℕ) → rest_of (begun b p rest) ≡ rest
rest_begun true p rest = refl
rest_begun false p rest = refl

rest_looked : (rest : List ℕ) (o : Option (Option Look)) → rest_of (told_look rest o) ≡ rest
rest_looked rest (Some (Some look)) = rest_begun (eqb look.packet 0) look.packet rest
rest_looked rest (Some None) = refl
rest_looked rest None = refl

rest_reserved : (p : ℕ) (rest : List ℕ) (o : Option Reserve) → rest_of (told_reserve p rest o)
    ≡ rest
rest_reserved p rest (Some (Got n)) = refl
rest_reserved p rest (Some Empty) = refl
rest_reserved p rest (Some Gone) = refl
rest_reserved p rest (Some (NoneEnded at)) = refl
rest_reserved p rest None = refl

rest_goes_on : (p : ℕ) (rest : List ℕ) → rest_of (goes_on p rest) ≡ rest
rest_goes_on p [] = refl
rest_goes_on p (x ∷ xs) = refl

rest_error : (n : ℕ) (rest : List ℕ) (e : HandleError) → rest_of (after_error n rest e) ≡ rest
rest_error n rest (Ended at) = refl
rest_error n rest e = refl

rest_put : (p n : ℕ) (rest piece : List ℕ) (o : Option (Result ℕ HandleError))
    → piece ≡ take n rest → if_put piece o ++ rest_of (after_putting p n rest o) ≡ rest
rest_put p n rest piece (Some (Ok t)) is = ap (λ l. piece ++ l) (rest_goes_on p (drop n rest))
    ∙ (ap (λ l. l ++ drop n rest) is ∙ take-append-drop n rest)
rest_put p n rest piece (Some (Err e)) is = rest_error n rest e
rest_put p n rest piece None is = refl

bytes_of_data : (c : ChannelId) (ext : Option ℕ) (bytes : List ℕ)
    → bytes_in (data_command c ext bytes) ≡ bytes
bytes_of_data c None bytes = refl
bytes_of_data c (Some k) bytes = refl

-- a state, and the call that it asks for
step : (c : ChannelId) (ext : Option ℕ) (s : Writing) (call : HubCall) (reply : HubReply)
    → writing_asks c ext s ≡ Some call → piece_put call reply ++ rest_of (writing_told s reply)
    ≡ rest_of s
step c ext (looking rest) call reply e =
    let is : LookAt c ≡ call = cc e in
    subst (λ (k : HubCall). piece_put k reply ++ rest_of (told_look rest (look_said reply)) ≡ rest)
    is (rest_looked rest (look_said reply))
step c ext (asking p rest) call reply e =
    let is : ReserveBytes c (min p (length rest)) ≡ call = cc e in
    subst (λ (k : HubCall). piece_put k reply
    ++ rest_of (told_reserve p rest (reserve_said reply)) ≡ rest) is
    (rest_reserved p rest (reserve_said reply))
step c ext (putting p n rest) call reply e =
    let is : PutCommand (data_command c ext (take n rest)) n false ≡ call = cc e in
    subst (λ (k : HubCall). piece_put k reply
    ++ rest_of (after_putting p n rest (ticket_said reply)) ≡ rest) is
    (rest_put p n rest (bytes_in (data_command c ext (take n rest))) (ticket_said reply)
    (bytes_of_data c ext (take n rest)))
step c ext (releasing n at rest) call reply e =
    let is : ReleaseBytes c n ≡ call = cc e in
    subst (λ (k : HubCall). piece_put k reply ++ rest ≡ rest) is refl
step c ext written call reply e = absurd (cc e)
step c ext (stopped why rest) call reply e = absurd (cc e)

put_so_far : (c : ChannelId) (ext : Option ℕ) (calls : List (HubCall × HubReply)) (s t : Writing)
    → Follows (writes c ext) s calls t → bytes_put calls ++ rest_of t ≡ rest_of s
put_so_far c ext [] s t f = ap rest_of f
put_so_far c ext (x ∷ xs) s t f =
    append_assoc (piece_put x.0 x.1) (bytes_put xs) (rest_of t)
    ∙ (ap (λ l. piece_put x.0 x.1 ++ l) (put_so_far c ext xs (writing_told s x.1) t f.1)
    ∙ step c ext s x.0 x.1 f.0)

rest_at_first : (bytes : List ℕ) → rest_of (to_write bytes) ≡ bytes
rest_at_first [] = refl
rest_at_first (x ∷ xs) = refl

pub in_order : (c : ChannelId) (ext : Option ℕ) (bytes : List ℕ)
    (calls : List (HubCall × HubReply)) (t : Writing)
    → Follows (writes c ext) (to_write bytes) calls t → bytes_put calls ++ rest_of t ≡ bytes
in_order c ext bytes calls t f = put_so_far c ext calls (to_write bytes) t f ∙ rest_at_first bytes
