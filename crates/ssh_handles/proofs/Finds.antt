-- What a reader that does not wait finds.
use Rattle.std.proofs.Common.{
  ◌≡◌,
  ◌<◌,
  ℕ,
  Bool,
  true,
  false,
  List,
  [],
  ◌∷◌,
  length,
  min,
  take,
  drop,
  Result,
  Ok,
  Option,
  refl,
  ap,
  sym,
  ◌∙◌,
  subst,
  arith,
}
use Rattle.ssh_wire.specs.declared.channel_id.ChannelId.{ChannelId}
use Rattle.ssh_hub.specs.declared.history.HubCall.TheVariants.{ReceiveMsg}
use Rattle.ssh_hub.specs.declared.history.View.{View}
use Rattle.ssh_handles.specs.declared.reader.Found.{Found}
use Rattle.ssh_handles.specs.declared.reader.Found.TheVariants.{Data, End, Nothing}
use Rattle.ssh_hub.specs.declared.answers.HandleError.{HandleError}
use Rattle.ssh_handles.specs.declared.poll.Poll.{Poll}
use Rattle.ssh_handles.specs.declared.poll.Poll.TheVariants.{Ready}
use Rattle.ssh_handles.specs.Reading.{found_said, Finds, HandsOut}
use Rattle.ssh_handles.specs.Tries.{Tries}

module _ (c : ChannelId) (ext : Option ℕ) where
  -- what was not used up
  pub finds_unread : (unread bytes : List ℕ) (over : Bool) (v : View) → 0 < length unread
      → bytes ≡ unread → Finds c ext unread over v (Data bytes) v
  finds_unread [] bytes over v some is = absurd (omega arith)
  finds_unread (b ∷ bs) bytes over v some is =
      (ap (λ (l : List ℕ). Data l) is, refl)

  -- the end, that was found before
  pub finds_end : (unread : List ℕ) (over : Bool) (v : View) → length unread ≡ 0 → over ≡ true
      → Finds c ext unread over v End v
  finds_end [] true v none is = (refl, refl)
  finds_end [] false v none is = absurd (cc is)
  finds_end (b ∷ bs) over v none is = absurd (omega arith)

  -- what the inbox has
  pub finds_inbox : (unread : List ℕ) (over : Bool) (v : View) (found : Found) (w : View)
      → length unread ≡ 0 → over ≡ false → Tries (ReceiveMsg c) (found_said ext) v found w
      → Finds c ext unread over v found w
  finds_inbox [] false v found w none is tries = tries
  finds_inbox [] true v found w none is tries = absurd (cc is)
  finds_inbox (b ∷ bs) over v found w none is tries = absurd (omega arith)

pub none_unread : (unread : List ℕ) → length unread ≡ 0 → unread ≡ []
none_unread [] e = refl
none_unread (b ∷ bs) e = absurd (omega arith)

-- where nothing was found, the data were not at their end
pub finds_nothing : (c : ChannelId) (ext : Option ℕ) (unread : List ℕ) (over : Bool) (v w : View)
    → Finds c ext unread over v Nothing w → over ≡ false
finds_nothing c ext [] true v w f = absurd (cc f.0)
finds_nothing c ext [] false v w f = refl
finds_nothing c ext (b ∷ bs) over v w f = absurd (cc f.0)

-- what is handed out of the data that were found
pub handed : (bytes buf unread buf' : List ℕ) (over : Bool) (k : ℕ)
    → k ≡ min (length bytes) (length buf) → unread ≡ drop k bytes → take k buf' ≡ take k bytes
    → HandsOut (Data bytes) buf (Ready (Ok k)) unread over buf'
handed bytes buf unread buf' over k count rest front =
    let answer : Poll (Result ℕ HandleError) = Ready (Ok k) in
    subst (λ (n : ℕ). (answer ≡ Ready (Ok n)) × (unread ≡ drop n bytes) × (take n buf' ≡ take n bytes))
    count (refl, rest, front)
