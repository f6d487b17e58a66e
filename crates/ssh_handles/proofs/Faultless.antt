-- Writing never comes to the fault of a source.
use Rattle.std.proofs.Common.{
  ◌≡◌,
  ℕ,
  Bool,
  true,
  false,
  eqb,
  List,
  [],
  ◌∷◌,
  drop,
  Option,
  Some,
  None,
  Err,
  sym,
  subst,
}
use Rattle.ssh_wire.specs.declared.channel_id.ChannelId.{ChannelId}
use Rattle.ssh_hub.specs.declared.answers.HandleError.{HandleError}
use Rattle.ssh_hub.specs.declared.answers.HandleError.TheVariants.{ReadFault}
use Rattle.ssh_hub.specs.declared.answers.Look.{Look}
use Rattle.ssh_hub.specs.declared.answers.Put.TheVariants.{Done as IsPut, Ended as PutEnded}
use Rattle.ssh_hub.specs.declared.answers.Reserve.{Reserve}
use Rattle.ssh_hub.specs.declared.answers.Reserve.TheVariants.{
  Got,
  Empty,
  Gone,
  Ended as NoneEnded,
}
use Rattle.ssh_hub.specs.declared.history.HubCall.{HubCall}
use Rattle.ssh_hub.specs.declared.history.HubReply.{HubReply}
use Rattle.ssh_hub.specs.declared.history.HubReply.TheVariants.{WasPut}
use Rattle.ssh_hub.specs.declared.history.View.{View}
use Rattle.ssh_hub.specs.Follow.{Follows, Acts}
use Rattle.ssh_handles.specs.Said.{ticket_said}
use Rattle.ssh_handles.specs.Writing.{
  Writing,
  looking,
  asking,
  putting,
  releasing,
  written,
  stopped,
  begun,
  goes_on,
  told_look,
  told_reserve,
  look_said,
  reserve_said,
  after_putting,
  writing_told,
  writes,
  to_write,
  Writes,
}

abbrev IsNoFault : HandleError → Type 0
IsNoFault ReadFault = ⊥
IsNoFault e = Unit {0}

-- no writer stands at the fault of a source
abbrev Fair : Writing → Type 0
Fair (stopped e rest) = IsNoFault e
Fair s = Unit {0}

fair_begun : (b : Bool) (p : ℕ) (rest : List ℕ) → Fair (begun b p rest)
fair_begun true p rest = tt
fair_begun false p rest = tt

fair_looked : (rest : List ℕ) (o : Option (Option Look)) → Fair (told_look rest o)
fair_looked rest (Some (Some look)) = fair_begun (eqb look.packet 0) look.packet rest
fair_looked rest (Some None) = tt
fair_looked rest None = tt

fair_reserved : (p : ℕ) (rest : List ℕ) (o : Option Reserve) → Fair (told_reserve p rest o)
fair_reserved p rest (Some (Got n)) = tt
fair_reserved p rest (Some Empty) = tt
fair_reserved p rest (Some Gone) = tt
fair_reserved p rest (Some (NoneEnded at)) = tt
fair_reserved p rest None = tt

fair_on : (p : ℕ) (rest : List ℕ) → Fair (goes_on p rest)
fair_on p [] = tt
fair_on p (b ∷ bs) = tt

fair_put : (p n : ℕ) (rest : List ℕ) (reply : HubReply)
    → Fair (after_putting p n rest (ticket_said reply))
fair_put p n rest (WasPut (IsPut ticket)) = fair_on p (drop n rest)
fair_put p n rest (WasPut (PutEnded at back)) = tt
fair_put p n rest reply = tt

fair_told : (s : Writing) (reply : HubReply) → Fair s → Fair (writing_told s reply)
fair_told (looking rest) reply f = fair_looked rest (look_said reply)
fair_told (asking p rest) reply f = fair_reserved p rest (reserve_said reply)
fair_told (putting p n rest) reply f = fair_put p n rest reply
fair_told (releasing n at rest) reply f = tt
fair_told written reply f = tt
fair_told (stopped e rest) reply f = f

fair_still : (c : ChannelId) (ext : Option ℕ) (calls : List (HubCall × HubReply)) (s t : Writing)
    → Fair s → Follows (writes c ext) s calls t → Fair t
fair_still c ext [] s t f way = subst Fair (sym way) f
fair_still c ext (one ∷ others) s t f way =
    fair_still c ext others (writing_told s one.1) t (fair_told s one.1 f) way.1

fair_first : (bytes : List ℕ) → Fair (to_write bytes)
fair_first [] = tt
fair_first (b ∷ bs) = tt

fair_end : (c : ChannelId) (ext : Option ℕ) (bytes : List ℕ) (v : View) (t : Writing) (w : View)
    → Acts (writes c ext) v (to_write bytes) t w → Fair t
unfolding Acts
fair_end c ext bytes v t w a = fair_still c ext a.0 (to_write bytes) t (fair_first bytes) a.2

pub no_fault : (c : ChannelId) (ext : Option ℕ) (bytes : List ℕ) (v : View) (e : HandleError)
    (w : View) → Writes c ext bytes v (Err e) w → e ≡ ReadFault → ⊥
no_fault c ext bytes v e w stops is =
    let at : Writes c ext bytes v (Err ReadFault) w =
    subst (λ (k : HandleError). Writes c ext bytes v (Err k) w) is stops in
    fair_end c ext bytes v (stopped ReadFault at.1) w at.2
