-- The bytes of a channel: none is lost, and none is there twice.
use Rattle.std.proofs.Common.{
  ◌≡◌,
  ◌≢◌,
  ℕ,
  ◌+◌,
  ◌-◌,
  ◌≤◌,
  min,
  Bool,
  true,
  false,
  cond,
  eqb,
  eq-eqb,
  ne_eqb,
  ltb,
  ◌&&◌,
  List,
  [],
  ◌∷◌,
  ◌++◌,
  length,
  Option,
  Some,
  None,
  refl,
  ap,
  sym,
  ◌∙◌,
  subst,
  arith,
}
use Rattle.std.specs.Prelude.{is_none}
use mathlib.Core.Logic.{dite}
use native.Mathlib.Decide.{ℕ_discrete}
use Rattle.ssh_link.specs.declared.command.Command.{Command}
use Rattle.ssh_link.specs.declared.notice.ChannelMsg.{ChannelMsg}
use Rattle.ssh_link.specs.declared.outcome.CommandOutcome.{CommandOutcome}
use Rattle.ssh_link.specs.declared.outcome.CommandOutcome.TheVariants.{Accepted, Opened, Refused}
use Rattle.ssh_hub.specs.World.{Held, World, Channel, Map, find, with_new, with_changed}
use Rattle.ssh_hub.specs.Channels.{most_bytes, waiting, with_window, reserving, reserve_open, reserve_from, releasing, spending, granted_to, granting, closes_by, closed_on, deliver_open, deliver_to, receive_from, closed, claimed}
use Rattle.ssh_hub.specs.Lists.{
  data_channel,
  spent_at,
  spent_on,
  put_open,
  put_in,
  put_reply_open,
  put_reply_in,
  take_first,
  asked,
  reply_size,
}
use Rattle.ssh_hub.specs.Outcomes.{
  opened_at,
  closed_at,
  closed_by,
  channels_after,
  settled_if,
  answered,
}
use Rattle.ssh_hub.specs.Reserved.{bytes_on, bytes_at, with_more, with_less, less_at, after_reserve, after_put, reserved_after, reservations, at_hand, sum_on}
use Rattle.ssh_hub.specs.Step.{
  opening,
  act,
  hub_step,
  reserve_in,
  changed,
  ready_in,
  deliver_in,
  receive_in,
}
use Rattle.ssh_hub.specs.History.{run}
use Rattle.ssh_hub.specs.Laws.{
  Account,
  no_bytes,
  granted_in,
  is_data_on,
  account_from,
  after_call,
  account,
  left_of,
  total_on,
  reserved_of,
}
use Rattle.ssh_hub.specs.declared.answers.Config2.{Config2}
use Rattle.ssh_hub.specs.declared.queued.QueuedCommand.{QueuedCommand}
use Rattle.ssh_hub.specs.declared.queued.QueuedReply.{QueuedReply}
use Rattle.ssh_hub.specs.declared.queued.Due.{Due}
use Rattle.ssh_link.specs.declared.open_answer.OpenAnswer.{OpenAnswer}
use Rattle.ssh_hub.specs.declared.history.HubCall.{HubCall}
use Rattle.ssh_hub.specs.declared.history.HubCall.TheVariants.{
  ReserveBytes,
  ReleaseBytes,
  PutCommand,
  PutAnswer,
  TakeNext,
  MakeReady,
  GrantBytes,
  DeliverMsg,
  ReceiveMsg,
  AnswerTicket,
  TakeOutcome,
  EndHub,
  AskEnded,
  LookAt,
  ClaimChannel,
  DrawSlot,
  AnswerSlot,
  TakeSlotAnswer,
  AskRefusal,
  Nudge,
  SplitSeat,
}
use Rattle.ssh_hub.specs.declared.history.Entry.{Entry}
use Rattle.ssh_hub.specs.declared.reservations.Reservation.{Reservation}
use Rattle.ssh_hub.proofs.Counts.{act_counts}
use Rattle.ssh_hub.proofs.Found.{find_changed_here, find_changed_else, find_new_here, find_new_else}
use Rattle.ssh_hub.proofs.Holdings.{
  AreDistinct,
  more_here,
  more_else,
  less_here,
  less_else,
  put_total,
  one_of_all,
}
use Rattle.ssh_hub.proofs.Own.{distinct_through}

-- the inbox of a channel that is there has room for so many messages
abbrev HasInbox : ℕ → Option Channel → Type 0
HasInbox k None = Unit {0}
HasInbox k (Some ch) = ch.room ≡ k

-- the account of a channel that is there so, of which the seats have s bytes together
pub record Even (k : ℕ) (o : Option Channel) (a : Account) (s : ℕ) : Type 0 where
  pub sums : a.counted ≡ left_of o + s + a.spent
  pub most : left_of o + s ≤ most_bytes
  pub adds : sum_on o ≡ s
  pub inbox : HasInbox k o

module _ (P : Option Channel → Type 0) where
  -- one channel changes
  changed_to : (Q : Option Channel → Type 0) (cs : Map Channel) (d c : ℕ) (ch ch' : Channel)
      → find d cs ≡ Some ch → (d ≡ c → find c cs ≡ Some ch → P (Some ch) → Q (Some ch'))
      → (d ≢ c → P (find c cs) → Q (find c cs)) → P (find c cs)
      → Q (find c (with_changed cs d ch'))
  changed_to Q cs d c ch ch' is here else_ h = dite (ℕ_discrete d c)
      (λ same. let found : find c cs ≡ Some ch = subst (λ x. find x cs ≡ Some ch) same is in
      let now : find c (with_changed cs d ch') ≡ Some ch' = subst (λ x. find x
      (with_changed cs d ch') ≡ Some ch') same (find_changed_here cs d ch ch' is) in
      subst Q (sym now) (here same found (subst P found h)))
      (λ ne. subst Q (sym (find_changed_else cs d c ch ch' is ne)) (else_ ne h))

  -- one channel is new
  new_to : (Q : Option Channel → Type 0) (cs : Map Channel) (d c : ℕ) (ch' : Channel)
      → find d cs ≡ None → (d ≡ c → find c cs ≡ None → P None → Q (Some ch'))
      → (d ≢ c → P (find c cs) → Q (find c cs)) → P (find c cs)
      → Q (find c (with_new cs d ch'))
  new_to Q cs d c ch' is here else_ h = dite (ℕ_discrete d c)
      (λ same. let found : find c cs ≡ None = subst (λ x. find x cs ≡ None) same is in
      let now : find c (with_new cs d ch') ≡ Some ch' = subst (λ x. find x (with_new cs d ch')
      ≡ Some ch') same (find_new_here cs d ch' is) in
      subst Q (sym now) (here same found (subst P found h)))
      (λ ne. subst Q (sym (find_new_else cs d c ch' is ne)) (else_ ne h))

-- the account changes where the call is on this channel
here_is : {X : Type 0} (d c : ℕ) (x y : X) → d ≡ c → cond (eqb d c) x y ≡ x
here_is d c x y same = ap (λ (b : Bool). cond b x y) (eq-eqb d c same)

else_is : {X : Type 0} (d c : ℕ) (x y : X) → d ≢ c → cond (eqb d c) x y ≡ y
else_is d c x y ne = ap (λ (b : Bool). cond b x y) (ne_eqb d c ne)

module _ (k : ℕ) where
  same_sum : (o : Option Channel) (a : Account) (s t : ℕ) → t ≡ s → Even k o a s → Even k o a t
  same_sum o a s t is h = subst (Even k o a) (sym is) h

  -- a channel of which nothing is left more or less, and nothing reserved
  moved : (cs : Map Channel) (d c : ℕ) (ch ch' : Channel) (a : Account) (s : ℕ)
      → find d cs ≡ Some ch → ch'.left ≡ ch.left → ch'.reserved ≡ ch.reserved
      → ch'.room ≡ ch.room → Even k (find c cs) a s → Even k (find c (with_changed cs d ch')) a s
  moved cs d c ch ch' a s is left reserved room h =
      changed_to (λ o. Even k o a s) (λ o. Even k o a s) cs d c ch ch' is
      (λ _ _ e. let u = e.sums in let m = e.most in record {
        sums = omega arith;
        most = omega arith;
        adds = reserved ∙ e.adds;
        inbox = room ∙ e.inbox;
      })
      (λ _ e. e) h

  -- bytes are reserved of a channel
  reserving_even : (cs : Map Channel) (d c want : ℕ) (rs : List Reservation) (ch : Channel)
      (a : Account) (s t : ℕ) → find d cs ≡ Some ch
      → t + bytes_on c rs ≡ s + bytes_on c (with_more d (min want ch.left) rs)
      → Even k (find c cs) a s → Even k (find c (with_changed cs d (reserving ch want))) a t
  reserving_even cs d c want rs ch a s t is total h =
      changed_to (λ o. Even k o a s) (λ o. Even k o a t) cs d c ch (reserving ch want) is
      (λ same _ e. let u = e.sums in let m = e.most in let r = e.adds in
      let more = subst (λ (x : ℕ). bytes_on c (with_more x (min want ch.left) rs)
      ≡ bytes_on c rs + min want ch.left) (sym same) (more_here c (min want ch.left) rs) in
      record {
        sums = omega arith;
        most = omega arith;
        adds = omega arith;
        inbox = e.inbox;
      })
      (λ ne e. let more = more_else d c (min want ch.left) rs ne in
      same_sum (find c cs) a s t (omega arith) e)
      h

  reserve_open_even : (cs : Map Channel) (d c want : ℕ) (rs : List Reservation) (ch : Channel)
      (a : Account) (s t : ℕ) (b : Bool) → find d cs ≡ Some ch
      → t + bytes_on c rs ≡ s + bytes_on c (after_reserve (reserve_open ch want b).1 d rs)
      → Even k (find c cs) a s → Even k (find c (with_changed cs d (reserve_open ch want b).0)) a t
  reserve_open_even cs d c want rs ch a s t true is total h =
      moved cs d c ch ch a t is refl refl refl (same_sum (find c cs) a s t (omega arith) h)
  reserve_open_even cs d c want rs ch a s t false is total h =
      reserving_even cs d c want rs ch a s t is total h

  reserve_from_even : (cs : Map Channel) (d c want : ℕ) (rs : List Reservation) (ch : Channel)
      (a : Account) (s t : ℕ) (b : Bool) → find d cs ≡ Some ch
      → t + bytes_on c rs ≡ s + bytes_on c (after_reserve (reserve_from ch want b).1 d rs)
      → Even k (find c cs) a s → Even k (find c (with_changed cs d (reserve_from ch want b).0)) a t
  reserve_from_even cs d c want rs ch a s t true is total h =
      moved cs d c ch ch a t is refl refl refl (same_sum (find c cs) a s t (omega arith) h)
  reserve_from_even cs d c want rs ch a s t false is total h =
      reserve_open_even cs d c want rs ch a s t (eqb ch.left 0) is total h

  reserve_even : (cs : Map Channel) (d c want : ℕ) (rs : List Reservation) (a : Account) (s t : ℕ)
      (e : Option ℕ) (o : Option Channel) → find d cs ≡ o
      → t + bytes_on c rs ≡ s + bytes_on c (after_reserve (reserve_in cs d want e o).1 d rs)
      → Even k (find c cs) a s → Even k (find c (reserve_in cs d want e o).0) a t
  reserve_even cs d c want rs a s t (Some at) o is total h =
      same_sum (find c cs) a s t (omega arith) h
  reserve_even cs d c want rs a s t None None is total h =
      same_sum (find c cs) a s t (omega arith) h
  reserve_even cs d c want rs a s t None (Some ch) is total h =
      reserve_from_even cs d c want rs ch a s t ch.is_closed is total h

  -- what a seat gives back, or spends, of the channel d, as it is on the channel c
  less_on_same : (d c n : ℕ) (rs : List Reservation) → AreDistinct rs → d ≡ c
      → bytes_on c (with_less d n rs) + min n (bytes_on d rs) ≡ bytes_on c rs
  less_on_same d c n rs alone same = subst (λ (x : ℕ). bytes_on c (with_less x n rs)
      + min n (bytes_on x rs) ≡ bytes_on c rs) (sym same) (less_here c n rs alone)

  -- where the channel is not there, the seat has nothing of it
  less_of_none : (cs : Map Channel) (d c n : ℕ) (rs : List Reservation) (a : Account) (s t : ℕ)
      → AreDistinct rs → bytes_on c rs ≤ s → find d cs ≡ None
      → t + bytes_on c rs ≡ s + bytes_on c (with_less d n rs) → Even k (find c cs) a s → t ≡ s
  less_of_none cs d c n rs a s t alone part is total h = dite (ℕ_discrete d c)
      (λ same. let less = less_on_same d c n rs alone same in
      let none : sum_on (find c cs) ≡ 0 = ap sum_on (subst (λ x. find x cs ≡ None) same is) in
      let r = h.adds in omega arith)
      (λ ne. let less = less_else d c n rs ne in omega arith)

  release_even : (cs : Map Channel) (d c amount : ℕ) (rs : List Reservation) (a : Account)
      (s t : ℕ) (o : Option Channel) → AreDistinct rs → bytes_on c rs ≤ s → find d cs ≡ o
      → t + bytes_on c rs ≡ s + bytes_on c (with_less d amount rs) → Even k (find c cs) a s
      → Even k (find c (changed cs d (λ ch. releasing ch (min amount (bytes_on d rs))) o)) a t
  release_even cs d c amount rs a s t None alone part is total h =
      same_sum (find c cs) a s t (less_of_none cs d c amount rs a s t alone part is total h) h
  release_even cs d c amount rs a s t (Some ch) alone part is total h =
      changed_to (λ o. Even k o a s) (λ o. Even k o a t) cs d c ch
      (releasing ch (min amount (bytes_on d rs))) is
      (λ same _ e. let less = less_on_same d c amount rs alone same in
      let one : bytes_on d rs ≡ bytes_on c rs = ap (λ (x : ℕ). bytes_on x rs) same in
      let u = e.sums in let m = e.most in let r = e.adds in record {
        sums = omega arith;
        most = omega arith;
        adds = omega arith;
        inbox = e.inbox;
      })
      (λ ne e. let less = less_else d c amount rs ne in
      same_sum (find c cs) a s t (omega arith) e)
      h

  claim_even : (cs : Map Channel) (d c : ℕ) (a : Account) (s : ℕ) (o : Option Channel)
      → find d cs ≡ o → Even k (find c cs) a s → Even k (find c (changed cs d claimed o)) a s
  claim_even cs d c a s None is h = h
  claim_even cs d c a s (Some ch) is h = moved cs d c ch (claimed ch) a s is refl refl refl h

  deliver_open_even : (cs : Map Channel) (d c : ℕ) (msg : ChannelMsg) (ch : Channel) (a : Account)
      (s : ℕ) (b x : Bool) → find d cs ≡ Some ch → Even k (find c cs) a s
      → Even k (find c (with_changed cs d
      (closed_on (record ch { inbox = ch.inbox ++ msg ∷ [] }) x))) a s
  deliver_open_even cs d c msg ch a s b true is h = moved cs d c ch
      (closed_on (record ch { inbox = ch.inbox ++ msg ∷ [] }) true) a s is refl refl refl h
  deliver_open_even cs d c msg ch a s b false is h = moved cs d c ch
      (closed_on (record ch { inbox = ch.inbox ++ msg ∷ [] }) false) a s is refl refl refl h

  deliver_to_even : (cs : Map Channel) (d c : ℕ) (msg : ChannelMsg) (ch : Channel) (a : Account)
      (s : ℕ) (b : Bool) → find d cs ≡ Some ch → Even k (find c cs) a s
      → Even k (find c (with_changed cs d (deliver_open ch msg b).0)) a s
  deliver_to_even cs d c msg ch a s true is h = deliver_open_even cs d c msg ch a s true
      (closes_by msg) is h
  deliver_to_even cs d c msg ch a s false is h = moved cs d c ch ch a s is refl refl refl h

  deliver_some_even : (cs : Map Channel) (d c : ℕ) (msg : ChannelMsg) (ch : Channel) (a : Account)
      (s : ℕ) (b : Bool) → find d cs ≡ Some ch → Even k (find c cs) a s
      → Even k (find c (with_changed cs d (deliver_to ch msg b).0)) a s
  deliver_some_even cs d c msg ch a s true is h = moved cs d c ch ch a s is refl refl refl h
  deliver_some_even cs d c msg ch a s false is h = deliver_to_even cs d c msg ch a s
      (ltb (length ch.inbox) ch.room) is h

  deliver_even : (cs : Map Channel) (d c : ℕ) (msg : ChannelMsg) (a : Account) (s : ℕ)
      (o : Option Channel) → find d cs ≡ o → Even k (find c cs) a s
      → Even k (find c (deliver_in cs d msg o).0) a s
  deliver_even cs d c msg a s None is h = h
  deliver_even cs d c msg a s (Some ch) is h = deliver_some_even cs d c msg ch a s ch.is_closed is h

  receive_some_even : (cs : Map Channel) (d c : ℕ) (e : Option ℕ) (ch : Channel) (a : Account)
      (s : ℕ) (msgs : List ChannelMsg) → find d cs ≡ Some ch → Even k (find c cs) a s
      → Even k (find c (with_changed cs d (receive_from ch e msgs).0)) a s
  receive_some_even cs d c e ch a s [] is h = moved cs d c ch ch a s is refl refl refl h
  receive_some_even cs d c e ch a s (m ∷ ms) is h = moved cs d c ch (record ch { inbox = ms }) a s
      is refl refl refl h

  receive_even : (cs : Map Channel) (d c : ℕ) (e : Option ℕ) (a : Account) (s : ℕ)
      (o : Option Channel) → find d cs ≡ o → Even k (find c cs) a s
      → Even k (find c (receive_in cs d e o).0) a s
  receive_even cs d c e a s None is h = h
  receive_even cs d c e a s (Some ch) is h = receive_some_even cs d c e ch a s ch.inbox is h

  window_even : (ch : Channel) (window packet s : ℕ) → s ≤ most_bytes → ch.reserved ≡ s
      → ch.room ≡ k → Even k (Some (with_window ch window packet)) (account_from window s) s
  window_even ch window packet s most adds room = record {
    sums = omega arith;
    most = omega arith;
    adds = adds;
    inbox = room;
  }

  ready_even : (cs : Map Channel) (d c window packet : ℕ) (a : Account) (s : ℕ)
      (o : Option Channel) → find d cs ≡ o → Even k (find c cs) a s
      → Even k (find c (ready_in cs k d window packet o))
      (cond (eqb d c) (account_from window (sum_on (find c cs))) a) s
  ready_even cs d c window packet a s None is h =
      let b : Account = account_from window (sum_on (find c cs)) in
      new_to (λ o. Even k o a s) (λ o. Even k o (cond (eqb d c) b a) s) cs d c
      (with_window (waiting k) window packet) is
      (λ same found e. let r = e.adds in let none : sum_on (find c cs) ≡ s = ap sum_on found ∙ r in
      subst (λ (x : Account). Even k (Some (with_window (waiting k) window packet)) x s)
      (sym (here_is d c b a same ∙ ap (account_from window) none))
      (window_even (waiting k) window packet s (omega arith) r refl))
      (λ ne e. subst (λ (x : Account). Even k (find c cs) x s) (sym (else_is d c b a ne)) e) h
  ready_even cs d c window packet a s (Some ch) is h =
      let b : Account = account_from window (sum_on (find c cs)) in
      changed_to (λ o. Even k o a s) (λ o. Even k o (cond (eqb d c) b a) s) cs d c ch
      (with_window ch window packet) is
      (λ same found e. let m = e.most in
      let all : sum_on (find c cs) ≡ s = ap sum_on found ∙ e.adds in
      subst (λ (x : Account). Even k (Some (with_window ch window packet)) x s)
      (sym (here_is d c b a same ∙ ap (account_from window) all))
      (window_even ch window packet s (omega arith) e.adds e.inbox))
      (λ ne e. subst (λ (x : Account). Even k (find c cs) x s) (sym (else_is d c b a ne)) e) h

  granted_fits : (ch : Channel) (amount : ℕ) (r x : Bool) → granted_to ch amount r x ≤ most_bytes -
      (ch.left + ch.reserved)
  granted_fits ch amount true false = omega arith
  granted_fits ch amount true true = omega arith
  granted_fits ch amount false x = omega arith

  -- nothing is added to the account where the channel is not there
  none_added : (cs : Map Channel) (d c s : ℕ) (a b : Account) → find d cs ≡ None
      → (find c cs ≡ None → b ≡ a) → Even k (find c cs) a s
      → Even k (find c cs) (cond (eqb d c) b a) s
  none_added cs d c s a b is none h = dite (ℕ_discrete d c)
      (λ same. subst (λ (x : Account). Even k (find c cs) x s)
      (sym (here_is d c b a same ∙ none (subst (λ x. find x cs ≡ None) same is))) h)
      (λ ne. subst (λ (x : Account). Even k (find c cs) x s) (sym (else_is d c b a ne)) h)

  grant_even : (cs : Map Channel) (d c amount : ℕ) (a : Account) (s : ℕ) (o : Option Channel)
      → find d cs ≡ o → Even k (find c cs) a s
      → Even k (find c (changed cs d (λ ch. granting ch amount) o))
      (cond (eqb d c) (record a { counted = a.counted + granted_in amount (find c cs) }) a) s
  grant_even cs d c amount a s None is h = none_added cs d c s a
      (record a { counted = a.counted + granted_in amount (find c cs) }) is
      (λ none. let zero : a.counted + granted_in amount (find c cs) ≡ a.counted =
      (let g : granted_in amount (find c cs) ≡ 0 = ap (granted_in amount) none in omega arith) in
      ap (λ n. let b : Account = record a { counted = n } in b) zero) h
  grant_even cs d c amount a s (Some ch) is h =
      let b : Account = record a { counted = a.counted + granted_in amount (find c cs) } in
      changed_to (λ o. Even k o a s) (λ o. Even k o (cond (eqb d c) b a) s) cs d c ch
      (granting ch amount) is
      (λ same found e. subst (λ (x : Account). Even k (Some (granting ch amount)) x s)
      (sym (here_is d c b a same))
      (let g : granted_in amount (find c cs) ≡ granted_to ch amount ch.is_ready ch.is_closed =
      ap (granted_in amount) found in
      let f = granted_fits ch amount ch.is_ready ch.is_closed in let u = e.sums in
      let m = e.most in let r = e.adds in
      record { sums = omega arith; most = omega arith; adds = r; inbox = e.inbox }))
      (λ ne e. subst (λ (x : Account). Even k (find c cs) x s) (sym (else_is d c b a ne)) e) h

  -- a put of data on the channel d spends bytes
  spend_at_even : (cs : Map Channel) (d c spend : ℕ) (rs : List Reservation) (a : Account)
      (s t : ℕ) (o : Option Channel) → AreDistinct rs → bytes_on c rs ≤ s → find d cs ≡ o
      → t + bytes_on c rs ≡ s + bytes_on c (with_less d spend rs) → Even k (find c cs) a s
      → Even k (find c (spent_at cs d (min spend (bytes_on d rs)) o))
      (cond (eqb d c) (record a { spent = a.spent + min spend (bytes_on c rs) }) a) t
  spend_at_even cs d c spend rs a s t None alone part is total h =
      same_sum (find c cs) _ s t (less_of_none cs d c spend rs a s t alone part is total h)
      (none_added cs d c s a (record a { spent = a.spent + min spend (bytes_on c rs) }) is
      (λ none. let zero : a.spent + min spend (bytes_on c rs) ≡ a.spent =
      (let r = h.adds in let g : sum_on (find c cs) ≡ 0 = ap sum_on none in omega arith)
      in ap (λ n. let b : Account = record a { spent = n } in b) zero) h)
  spend_at_even cs d c spend rs a s t (Some ch) alone part is total h =
      let b : Account = record a { spent = a.spent + min spend (bytes_on c rs) } in
      changed_to (λ o. Even k o a s) (λ o. Even k o (cond (eqb d c) b a) t) cs d c ch
      (spending ch (min spend (bytes_on d rs))) is
      (λ same _ e. subst (λ (x : Account). Even k (Some (spending ch (min spend (bytes_on d rs)))) x
      t) (sym (here_is d c b a same))
      (let less = less_on_same d c spend rs alone same in
      let one : bytes_on d rs ≡ bytes_on c rs = ap (λ (x : ℕ). bytes_on x rs) same in
      let u = e.sums in let m = e.most in let r = e.adds in
      record {
        sums = omega arith;
        most = omega arith;
        adds = omega arith;
        inbox = e.inbox;
      }))
      (λ ne e. let less = less_else d c spend rs ne in
      same_sum (find c cs) (cond (eqb d c) b a) s t (omega arith)
      (subst (λ (x : Account). Even k (find c cs) x s) (sym (else_is d c b a ne)) e))
      h

  spend_even : (cs : Map Channel) (c spend : ℕ) (rs : List Reservation) (a : Account) (s t : ℕ)
      (x : Option ℕ) → AreDistinct rs → bytes_on c rs ≤ s
      → t + bytes_on c rs ≡ s + bytes_on c (less_at x spend rs) → Even k (find c cs) a s
      → Even k (find c (spent_on cs (min spend (bytes_at x rs)) x))
      (cond (is_data_on c x) (record a { spent = a.spent + min spend (bytes_on c rs) }) a) t
  spend_even cs c spend rs a s t None alone part total h =
      same_sum (find c cs) a s t (omega arith) h
  spend_even cs c spend rs a s t (Some d) alone part total h =
      spend_at_even cs d c spend rs a s t (find d cs) alone part refl total h

  put_open_even : (w : Held) (c seat spend : ℕ) (m : Command) (wanted : Bool)
      (rs : List Reservation) (a : Account) (s t : ℕ) (b : Bool) → AreDistinct rs
      → bytes_on c rs ≤ s → let n : ℕ = min spend (bytes_at (data_channel m) rs) in
      t + bytes_on c rs ≡ s + bytes_on c (after_put (put_open w seat n m wanted b).1
      (data_channel m) spend rs) → Even k (find c w.channels) a s
      → Even k (find c (put_open w seat n m wanted b).0.channels)
      (cond (b && is_data_on c (data_channel m))
      (record a { spent = a.spent + min spend (bytes_on c rs) }) a) t
  put_open_even w c seat spend m wanted rs a s t true alone part total h =
      spend_even w.channels c spend rs a s t (data_channel m) alone part total h
  put_open_even w c seat spend m wanted rs a s t false alone part total h =
      same_sum (find c w.channels) a s t (omega arith) h

  put_even : (w : Held) (c seat spend : ℕ) (m : Command) (wanted : Bool) (rs : List Reservation)
      (a : Account) (s t : ℕ) (o : Option ℕ) → AreDistinct rs → bytes_on c rs ≤ s
      → let n : ℕ = min spend (bytes_at (data_channel m) rs) in
      t + bytes_on c rs ≡ s + bytes_on c (after_put (put_in w seat n m wanted o).1
      (data_channel m) spend rs) → Even k (find c w.channels) a s
      → Even k (find c (put_in w seat n m wanted o).0.channels)
      (cond ((is_none o && ltb (length w.commands) w.command_size)
      && is_data_on c (data_channel m))
      (record a { spent = a.spent + min spend (bytes_on c rs) }) a) t
  put_even w c seat spend m wanted rs a s t (Some at) alone part total h =
      same_sum (find c w.channels) a s t (omega arith) h
  put_even w c seat spend m wanted rs a s t None alone part total h =
      put_open_even w c seat spend m wanted rs a s t (ltb (length w.commands) w.command_size) alone
      part total h

  opened_even : (cs : Map Channel) (d c : ℕ) (a : Account) (s : ℕ) (o : Option Channel)
      → find d cs ≡ o → Even k (find c cs) a s → Even k (find c (opened_at k cs d o)) a s
  opened_even cs d c a s None is h = new_to (λ o. Even k o a s) (λ o. Even k o a s) cs d c
      (waiting k) is
      (λ _ _ e. let u = e.sums in let m = e.most in record {
        sums = omega arith;
        most = omega arith;
        adds = e.adds;
        inbox = refl;
      })
      (λ _ e. e) h
  opened_even cs d c a s (Some ch) is h = h

  closed_at_even : (cs : Map Channel) (d c : ℕ) (a : Account) (s : ℕ) (o : Option Channel)
      → find d cs ≡ o → Even k (find c cs) a s → Even k (find c (closed_at cs d o)) a s
  closed_at_even cs d c a s None is h = h
  closed_at_even cs d c a s (Some ch) is h = moved cs d c ch (closed ch) a s is refl refl refl h

  closed_by_even : (cs : Map Channel) (c : ℕ) (a : Account) (s : ℕ) (x : Option ℕ)
      → Even k (find c cs) a s → Even k (find c (closed_by cs x)) a s
  closed_by_even cs c a s None h = h
  closed_by_even cs c a s (Some d) h = closed_at_even cs d c a s (find d cs) refl h

  after_even : (cs : Map Channel) (c : ℕ) (due : Due) (a : Account) (s : ℕ) (o : CommandOutcome)
      → Even k (find c cs) a s → Even k (find c (channels_after k cs due o)) a s
  after_even cs c due a s (Opened d) h = opened_even cs d.0 c a s (find d.0 cs) refl h
  after_even cs c due a s Accepted h = closed_by_even cs c a s due.closes h
  after_even cs c due a s (Refused why) h = h

reply_channels : (w : Held) (seat : ℕ) (m : OpenAnswer) (b : Bool)
    → (put_reply_open w seat m b).0.channels ≡ w.channels
reply_channels w seat m true = refl
reply_channels w seat m false = refl

put_reply_channels : (w : Held) (seat : ℕ) (m : OpenAnswer) (o : Option ℕ)
    → (put_reply_in w seat m o).0.channels ≡ w.channels
put_reply_channels w seat m (Some at) = refl
put_reply_channels w seat m None = reply_channels w seat m (ltb (length w.replies) reply_size)

take_channels : (w : Held) (rs : List QueuedReply) (cs : List QueuedCommand)
    → (take_first w rs cs).0.channels ≡ w.channels
take_channels w (r ∷ rs) cs = refl
take_channels w [] (q ∷ cs) = refl
take_channels w [] [] = refl

settled_even : (w : Held) (c : ℕ) (due : Due) (o : CommandOutcome) (a : Account) (s : ℕ) (b : Bool)
    → Even w.inbox_size (find c w.channels) a s
    → Even w.inbox_size (find c (settled_if w due o b).channels) a s
settled_even w c due o a s true h = after_even w.inbox_size w.channels c due a s o h
settled_even w c due o a s false h = h

answer_even : (w : Held) (c t : ℕ) (o : CommandOutcome) (a : Account) (s : ℕ) (due : Option Due)
    → Even w.inbox_size (find c w.channels) a s
    → Even w.inbox_size (find c (answered w t o due).channels) a s
answer_even w c t o a s None h = h
answer_even w c t o a s (Some due) h = settled_even w c due o a s (eqb due.ticket t) h

-- one call, where the seat has reserved rs, and the seats together s bytes before it and t after it
act_even : (w : World) (c by : ℕ) (call : HubCall) (a : Account) (t : ℕ)
    → let rs = reservations by w in let s = total_on c w.reserved in let k = w.hub.inbox_size in
    let p = act w.hub by (at_hand call rs) call in
    AreDistinct rs → bytes_on c rs ≤ s → t + bytes_on c rs ≡ s + bytes_on c (reserved_after call p.1 rs)
    → Even k (find c w.hub.channels) a s
    → Even k (find c p.0.channels) (after_call w c by call a) t
unfolding act
act_even w c by (ReserveBytes d n) a t alone part total h = reserve_even w.hub.inbox_size
    w.hub.channels d.0 c n (reservations by w) a (total_on c w.reserved) t w.hub.ended
    (find d.0 w.hub.channels) refl total h
act_even w c by (ReleaseBytes d n) a t alone part total h = release_even w.hub.inbox_size
    w.hub.channels d.0 c n (reservations by w) a (total_on c w.reserved) t
    (find d.0 w.hub.channels) alone part refl total h
act_even w c by (PutCommand m n b) a t alone part total h = put_even w.hub.inbox_size
    w.hub c by n m b (reservations by w) a (total_on c w.reserved) t w.hub.ended alone part total h
act_even w c by (PutAnswer m) a t alone part total h = same_sum w.hub.inbox_size _ _ _ t
    (omega arith) (subst (λ (cs : Map Channel). Even w.hub.inbox_size (find c cs) a (total_on c w.reserved))
    (sym (put_reply_channels w.hub by m w.hub.ended)) h)
act_even w c by (TakeNext r q) a t alone part total h = same_sum w.hub.inbox_size _ _ _ t
    (omega arith) (subst (λ (cs : Map Channel). Even w.hub.inbox_size (find c cs) a (total_on c w.reserved))
    (sym (take_channels w.hub (asked r w.hub.replies) (asked q w.hub.commands))) h)
act_even w c by (MakeReady d n p) a t alone part total h = same_sum w.hub.inbox_size _ _ _ t
    (omega arith) (ready_even w.hub.inbox_size w.hub.channels d.0 c n p a (total_on c w.reserved)
    (find d.0 w.hub.channels) refl h)
act_even w c by (GrantBytes d n) a t alone part total h = same_sum w.hub.inbox_size _ _ _ t
    (omega arith) (grant_even w.hub.inbox_size w.hub.channels d.0 c n a (total_on c w.reserved)
    (find d.0 w.hub.channels) refl h)
act_even w c by (DeliverMsg d m) a t alone part total h = same_sum w.hub.inbox_size _ _ _ t
    (omega arith) (deliver_even w.hub.inbox_size w.hub.channels d.0 c m a (total_on c w.reserved)
    (find d.0 w.hub.channels) refl h)
act_even w c by (ReceiveMsg d) a t alone part total h = same_sum w.hub.inbox_size _ _ _ t
    (omega arith) (receive_even w.hub.inbox_size w.hub.channels d.0 c w.hub.ended a (total_on c w.reserved)
    (find d.0 w.hub.channels) refl h)
act_even w c by (AnswerTicket x o) a t alone part total h = same_sum w.hub.inbox_size _ _ _ t
    (omega arith) (answer_even w.hub c x o a (total_on c w.reserved) w.hub.due h)
act_even w c by (TakeOutcome x) a t alone part total h = same_sum w.hub.inbox_size _ _ _ t
    (omega arith) (h)
act_even w c by EndHub a t alone part total h = same_sum w.hub.inbox_size _ _ _ t
    (omega arith) (h)
act_even w c by AskEnded a t alone part total h = same_sum w.hub.inbox_size _ _ _ t
    (omega arith) (h)
act_even w c by (LookAt d) a t alone part total h = same_sum w.hub.inbox_size _ _ _ t
    (omega arith) (h)
act_even w c by (ClaimChannel d) a t alone part total h = same_sum w.hub.inbox_size _ _ _ t
    (omega arith) (claim_even w.hub.inbox_size w.hub.channels d.0 c a (total_on c w.reserved)
    (find d.0 w.hub.channels) refl h)
act_even w c by DrawSlot a t alone part total h = same_sum w.hub.inbox_size _ _ _ t
    (omega arith) (h)
act_even w c by (AnswerSlot x y) a t alone part total h = same_sum w.hub.inbox_size _ _ _ t
    (omega arith) (h)
act_even w c by (TakeSlotAnswer x) a t alone part total h = same_sum w.hub.inbox_size _ _ _ t
    (omega arith) (h)
act_even w c by AskRefusal a t alone part total h = same_sum w.hub.inbox_size _ _ _ t
    (omega arith) (h)
act_even w c by Nudge a t alone part total h = same_sum w.hub.inbox_size _ _ _ t
    (omega arith) (h)
act_even w c by SplitSeat a t alone part total h = same_sum w.hub.inbox_size _ _ _ t
    (omega arith) (h)

step_even : (w : World) (c by : ℕ) (call : HubCall) (a : Account) → AreDistinct (reservations by w)
    → Even w.hub.inbox_size (find c w.hub.channels) a (total_on c w.reserved)
    → let x = (hub_step w by call).0 in
    Even x.hub.inbox_size (find c x.hub.channels) (after_call w c by call a) (total_on c x.reserved)
step_even w c by call a alone h =
    let rs : List Reservation = reservations by w in
    let x = (hub_step w by call).0 in
    let reply = (hub_step w by call).1 in
    subst (λ (k : ℕ). Even k (find c x.hub.channels) (after_call w c by call a)
    (total_on c x.reserved)) (sym (act_counts w.hub by (at_hand call rs) call).inbox)
    (act_even w c by call a (total_on c x.reserved) alone
    (one_of_all by c w.reserved (find by w.reserved) refl)
    (put_total by c w.reserved (reserved_after call reply rs) (find by w.reserved) refl) h)

even_through : (w : World) (c : ℕ) (log : List Entry) (a : Account)
    → ((n : ℕ) → AreDistinct (reservations n w))
    → Even w.hub.inbox_size (find c w.hub.channels) a (total_on c w.reserved)
    → let x = run w log in
    Even x.hub.inbox_size (find c x.hub.channels) (account w c log a) (total_on c x.reserved)
even_through w c [] a alone h = h
even_through w c (e ∷ es) a alone h = even_through (hub_step w e.by e.call).0 c es
    (after_call w c e.by e.call a) (distinct_through w e.by e.call alone)
    (step_even w c e.by e.call a (alone e.by) h)

all_even : (k : Config2) (log : List Entry) (c : ℕ) → let x = run (opening k) log in
    Even x.hub.inbox_size (find c x.hub.channels) (account (opening k) c log no_bytes)
    (total_on c x.reserved)
all_even k log c = even_through (opening k) c log no_bytes (λ n. tt) record {
  sums = refl;
  most = omega arith;
  adds = refl;
  inbox = tt;
}

-- what was counted is left, reserved or spent
pub conserved : (k : Config2) (log : List Entry) (c : ℕ) → let w = run (opening k) log in
    let a = account (opening k) c log no_bytes in
    a.counted ≡ left_of (find c w.hub.channels) + reserved_of c w + a.spent
conserved k log c = (all_even k log c).sums

-- what is left and what is reserved fit 32 bits together
pub fits : (k : Config2) (log : List Entry) (c : ℕ) → let w = run (opening k) log in
    left_of (find c w.hub.channels) + reserved_of c w ≤ most_bytes
fits k log c = (all_even k log c).most

-- the sum that the hub counts is right
pub adds_up : (k : Config2) (log : List Entry) (c : ℕ) → let w = run (opening k) log in
    sum_on (find c w.hub.channels) ≡ reserved_of c w
adds_up k log c = (all_even k log c).adds

-- one seat has no more than the hub counts
pub part_of_all : (k : Config2) (log : List Entry) (n c : ℕ) → let w = run (opening k) log in
    bytes_on c (reservations n w) ≤ sum_on (find c w.hub.channels)
part_of_all k log n c = let w = run (opening k) log in
    subst (λ (s : ℕ). bytes_on c (reservations n w) ≤ s) (sym (adds_up k log c))
    (one_of_all n c w.reserved (find n w.reserved) refl)

sizes_through : (w : World) (log : List Entry) → (run w log).hub.inbox_size ≡ w.hub.inbox_size
sizes_through w [] = refl
sizes_through w (e ∷ es) = sizes_through (hub_step w e.by e.call).0 es
    ∙ (act_counts w.hub e.by (at_hand e.call (reservations e.by w)) e.call).inbox

-- each inbox has the size that the hub was made with
pub of_one_size : (k : Config2) (log : List Entry) (c : ℕ) (ch : Channel)
    → find c (run (opening k) log).hub.channels ≡ Some ch → ch.room ≡ k.channel_buffer_size
of_one_size k log c ch is = subst (HasInbox (run (opening k) log).hub.inbox_size) is
    (all_even k log c).inbox ∙ sizes_through (opening k) log
