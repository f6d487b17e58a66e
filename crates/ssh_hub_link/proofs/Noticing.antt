-- The calls that a notice makes.
use Rattle.std.proofs.Common.{◌≡◌, ◌∷◌, ◌++◌, Bool, false, if◌then◌else◌, List, [], Option, Some, None, refl, ap, sym, ◌∙◌, subst}
use Rattle.ssh_wire.specs.declared.channel_id.ChannelId.{ChannelId}
use Rattle.ssh_link.specs.declared.frame.InputKind.{InputKind}
use Rattle.ssh_link.specs.declared.notice.ChannelMsg.{ChannelMsg}
use Rattle.ssh_link.specs.declared.notice.Notice.{Notice}
use Rattle.ssh_link.specs.declared.notice.Notice.TheVariants.{
  Channel,
  Granted,
  Ready,
  Forwarded,
  Cancelled,
  Pong,
}
use Rattle.ssh_hub.specs.declared.answers.Deliver.{Deliver}
use Rattle.ssh_hub.specs.declared.history.HubCall.{HubCall}
use Rattle.ssh_hub.specs.declared.history.HubCall.TheVariants.{DeliverMsg}
use Rattle.ssh_hub.specs.declared.history.HubReply.{HubReply}
use Rattle.ssh_hub.specs.declared.history.HubReply.TheVariants.{Delivered}
use Rattle.ssh_hub.specs.declared.history.View.{View}
use Rattle.ssh_hub.specs.Words.{Makes}
use Rattle.ssh_hub.specs.Follow.{Follows, Acts}
use Rattle.ssh_hub.proofs.Following.{acts_one, acts_to}
use Rattle.ssh_hub_link.specs.Given.{taken_by, takes_in, TakesOf}
use Rattle.ssh_hub_link.specs.Notices.{
  call_for,
  is_made_again,
  Telling,
  to_tell,
  told,
  notices,
  Notices,
}
use Rattle.ssh_hub_link.proofs.Telling.{takes_nothing}

-- a notice whose call is made once
pub told_once : (n : Notice) (r : HubReply) (v w : View) → is_made_again n r ≡ false
    → Makes v (call_for n) r w → Notices n v w
told_once n r v w once made = acts_one (notices n) v to_tell (call_for n) r w told refl made
    (ap (λ (b : Bool). if b then to_tell else told) once)

-- the same at a notice that an equation tells
pub told_as : (n m : Notice) (r : HubReply) (v w : View) → n ≡ m → is_made_again m r ≡ false
    → Makes v (call_for m) r w → Notices n v w
told_as n m r v w is once made =
    subst (λ (k : Notice). Notices k v w) (sym is) (told_once m r v w once made)

-- a message was delivered once more
pub delivered : (v w x : View) (channel : ChannelId) (msg m : ChannelMsg) (r : Deliver) (b : Bool)
    → Acts (notices (Channel channel msg)) v to_tell to_tell w → m ≡ msg
    → Makes w (DeliverMsg channel m) (Delivered r) x
    → is_made_again (Channel channel msg) (Delivered r) ≡ b
    → Acts (notices (Channel channel msg)) v to_tell (if b then to_tell else told) x
delivered v w x channel msg m r b a same made is = acts_to (notices (Channel channel msg)) v to_tell w
    to_tell (DeliverMsg channel m) (Delivered r) x (if b then to_tell else told) a
    (ap (λ (k : ChannelMsg). Some (DeliverMsg channel k)) (sym same)) made
    (ap (λ (c : Bool). if c then to_tell else told) is)

none_taken : (n : Notice) (r : HubReply) → taken_by (call_for n) r ≡ []
none_taken (Channel c m) r = refl
none_taken (Granted c a) r = refl
none_taken (Ready c w p) r = refl
none_taken (Forwarded s p) r = refl
none_taken (Cancelled s o) r = refl
none_taken (Pong s) r = refl

follows_none : (n : Notice) (s : Telling) (calls : List (HubCall × HubReply)) (t : Telling)
    → Follows (notices n) s calls t → takes_in calls ≡ []
follows_none n s [] t f = refl
follows_none n to_tell (one ∷ others) t f =
    let same : one.0 ≡ call_for n = let z : Some (call_for n) ≡ Some one.0 = f.0 in cc in
    let first : taken_by one.0 one.1 ≡ [] =
    ap (λ (c : HubCall). taken_by c one.1) same ∙ none_taken n one.1 in
    ap (λ (l : List InputKind). l ++ takes_in others) first
    ∙ follows_none n ((notices n).told to_tell one.1) others t f.1
follows_none n told (one ∷ others) t f = absurd (let z : None ≡ Some one.0 = f.0 in cc)

-- a notice takes nothing out of the hub
pub takes_noticed : (start v w : View) (kinds : Option (List InputKind)) (n : Notice)
    → TakesOf start v kinds → Notices n v w → TakesOf start w kinds
unfolding Acts
takes_noticed start v w kinds n t a = takes_nothing start v w kinds a.0 t a.1
    (follows_none n to_tell a.0 told a.2)
