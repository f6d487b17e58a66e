-- The rows: all but those of the peer's CLOSE and of its opens leave the channel of a number and the
-- open that waits there as they are, but for what callbacks recorded (RFC 4254 section 5).
use Rattle.std.proofs.Common.{◌≡◌, ◌==◌, ◌||◌, ◌∙◌, ℕ, List, Bool, true, false, cond}
use Rattle.std.proofs.Common.{Option, Some, None, refl, ap, sym}
use Rattle.std.specs.Prelude.{length}
use Rattle.std.specs.Ordering.{nat_cmp}
use Rattle.std.specs.BTreeMap.{insert_entry}
use Rattle.ssh_wire.specs.declared.channel_id.ChannelId.{ChannelId}
use Rattle.ssh_wire.specs.declared.open.ChannelOpenConfirmation.{ChannelOpenConfirmation}
use Rattle.ssh_wire.specs.declared.open_failure.ChannelOpenFailure.{ChannelOpenFailure}
use Rattle.ssh_link.specs.declared.notice.Notice.{Notice}
use Rattle.ssh_auth.specs.declared.auth_step.AuthVerdict.{AuthVerdict}
use Rattle.ssh_auth.specs.declared.auth_step.AuthVerdict.TheVariants as verdict
use Rattle.ssh_channels.specs.declared.adjusted.Adjusted.{Adjusted}
use Rattle.ssh_channels.specs.declared.adjusted.Adjusted.TheVariants.{Dropped, Kept as Within}
use Rattle.ssh_channels.specs.declared.adjusted.Adjusted.TheVariants.{Granted}
use Rattle.ssh_channels.specs.declared.chunk.Chunk.{Chunk}
use Rattle.ssh_channels.specs.Does.{coming_of}
use Rattle.ssh_channels.specs.Entry.{Entry}
use Rattle.ssh_channels.specs.Layout.{as_uint32}
use Rattle.ssh_channels.specs.Lines.{aims, find, last_left}
use Rattle.ssh_channels.proofs.Listed.{one_number}
use Rattle.ssh_rules.specs.declared.exchange.Passage.{Passage}
use Rattle.ssh_rules.specs.declared.exchange.Passage.TheVariants.{Begins, Steps, Barred, Late}
use Rattle.ssh_rules.specs.declared.exchange.Passage.TheVariants.{Passes}
use Rattle.ssh_rules.specs.declared.messages.Spoken.{Spoken}
use Rattle.ssh_rules.specs.declared.messages.Spoken.TheVariants as spoken
use Rattle.ssh_rules.specs.Acts.{Act}
use Rattle.ssh_rules.specs.Opening.{Opening}
use Rattle.ssh_rules.specs.Opens.{own}
use Rattle.ssh_rules.specs.Reading.{Said, Disconnect, Over_cap, Open}
use Rattle.ssh_rules.specs.Reading.{Agreed, Unfit, Without_packets, Unread}
use Rattle.ssh_rules.specs.Reading as read
use Rattle.ssh_rules.specs.Rows.{owed, greets, is_short, replied, told}
use Rattle.ssh_rules.specs.Rows.{spoken_acts, on_entry, on_confirmed, data_told, waits}
use Rattle.ssh_rules.specs.Rows.{failure_acts, confirmation_acts, global_reply}
use Rattle.ssh_rules.specs.Rows.{bound_to, aims_at, exchange_acts, notes}
use Rattle.ssh_rules.specs.World.{World, lined, settles_global, unless_ended}
use Rattle.ssh_rules.specs.World.{is_there, is_waiting, target_on, request_at, settles_one, wants_if}
use Rattle.ssh_rules.proofs.Plans.Requested.{one_kept, wants_kept}
use Rattle.ssh_run_laws.specs.Channels.{Waits, bytes_of}
use Rattle.ssh_run_laws.specs.Deeds.{Asked}
use Rattle.ssh_run_laws.proofs.Calms.{AreCalm, IsCalmTurn}
use Rattle.ssh_run_laws.proofs.Changing.{Keeps, aims_keep, confirmed_keeps, failed_keeps}
use Rattle.ssh_run_laws.proofs.Changing.{grant_keeps, in_keeps, reply_keeps}
use Rattle.ssh_run_laws.proofs.Changing.{request_keeps, same_keeps}
use Rattle.ssh_run_laws.proofs.Commanding.{settled_calm}
use Rattle.ssh_run_laws.proofs.Leading.{Calm, Leads, calm_beside, calm_lines, calm_same}
use Rattle.ssh_run_laws.proofs.Openings.{inserted_other, inserted_self, waiting_at}

-- what is said is no CLOSE
abbrev pub IsNoClose : Spoken → Type 0
IsNoClose (spoken.Close channel) = ⊥
IsNoClose _ = Unit {0}

-- .. and no open
abbrev pub SaysCalm : Said → Type 0
SaysCalm (read.Connection said) = IsNoClose said
SaysCalm (Open message) = ⊥
SaysCalm _ = Unit {0}

either_calm : (n : ℕ) (b : Bool) (w v : World) → Calm n w v → Calm n w (cond b w v)
either_calm n true w v h = calm_same n w
either_calm n false w v h = h

module _ (n : ℕ)
  where
    ended_calm : (payload : List ℕ) → IsCalmTurn n (unless_ended (settles_global payload))
    ended_calm payload w =
        either_calm n w.disconnected w (settles_global payload w) (settled_calm n w payload)

    confirmed_calm : (confirmed : Bool) (owes : List Act) → AreCalm n owes
        → AreCalm n (on_confirmed confirmed owes)
    confirmed_calm true owes h = h
    confirmed_calm false owes h = tt

    entry_calm : (e : Option Entry) (owes : Entry → List Act) → ((e : Entry) → AreCalm n (owes e))
        → AreCalm n (on_entry e owes)
    entry_calm None owes h = tt
    entry_calm (Some e) owes h = confirmed_calm e.confirmed (owes e) (h e)

    aims_calm : (channel : ChannelId) (window : ℕ) → IsCalmTurn n (aims_at channel window)
    aims_calm channel window w =
        either_calm n (window == 0) w (lined (aims channel.0 (as_uint32 window)) w)
        (calm_lines n w _ (aims_keep n false channel.0 (as_uint32 window) w.channels.lines))

    told_calm : (adjusted : Adjusted) (channel : ChannelId) (piece : Chunk) (target : ℕ)
        → AreCalm n (data_told adjusted channel piece target)
    told_calm Dropped channel piece target = tt
    told_calm Within channel piece target = (refl, refl)
    told_calm (Granted amount) channel piece target = (aims_calm channel, (refl, refl))

    failure_calm : (there waiting : Bool) (channel : ChannelId) (why : ChannelOpenFailure)
        → AreCalm n (failure_acts there waiting channel why)
    failure_calm there true channel why =
        (λ w. calm_lines n w _ (failed_keeps n false channel.0 w.channels.lines), tt)
    failure_calm true false channel why = tt
    failure_calm false false channel why = tt

    confirmation_calm : (waiting : Bool) (message : ChannelOpenConfirmation)
        → AreCalm n (confirmation_acts waiting message)
    confirmation_calm true message = (
      λ w. calm_lines n w _ (confirmed_keeps n false message.recipient_channel
          message.sender_channel message.initial_window_size message.maximum_packet_size
          w.channels.lines),
      (refl, refl),
    )
    confirmation_calm false message = tt

    wanted_calm : (wanted : Bool) (channel : ℕ) → IsCalmTurn n (lined (wants_if wanted channel))
    wanted_calm wanted channel w =
        let lines = w.channels.lines in
        calm_lines n w _ (wants_kept (Keeps n false lines) wanted channel lines
        (λ h. request_keeps n false channel lines) (same_keeps n false lines))

    settled_one : (place : Option ℕ) (channel : ℕ) (granted : Bool)
        → IsCalmTurn n (lined (settles_one place channel granted))
    settled_one place channel granted w =
        let lines = w.channels.lines in
        calm_lines n w _ (one_kept (Keeps n false lines) channel granted lines
        (λ p h. reply_keeps n false channel p granted lines) place (same_keeps n false lines))

    notes_calm : (told : Option Notice) → AreCalm n (notes told)
    notes_calm None = tt
    notes_calm (Some notice) = tt

    beside : (by : World → World) → ((w : World) → (by w).channels ≡ w.channels) → IsCalmTurn n by
    beside by is w = calm_beside n w (by w) (is w)

    spoken_calm : (w : World) (said : Spoken) → IsNoClose said → AreCalm n (spoken_acts w said)
    spoken_calm w spoken.Nothing is = tt
    spoken_calm w (spoken.Grant channel amount) is =
        entry_calm (find channel.0 w.channels.lines.entries) _ (λ e. (
          λ v. calm_lines n v _ (grant_keeps n false channel.0 amount v.channels.lines),
          (refl, refl),
        ))
    spoken_calm w (spoken.Data channel piece) is =
        let target = target_on channel.0 w in
        let came = coming_of (length piece.bytes) target (find channel.0 w.channels.lines.entries)
        in (
          λ v. calm_lines n v _ (in_keeps n false channel.0 (length piece.bytes) target
              v.channels.lines),
          told_calm came channel piece target,
        )
    spoken_calm w (spoken.Tells channel message happening) is =
        entry_calm (find channel.0 w.channels.lines.entries) _ (λ e. (refl, refl))
    spoken_calm w (spoken.Close channel) is = absurd is
    spoken_calm w (spoken.Failed channel reason) is =
        failure_calm (is_there w channel.0) (is_waiting w channel.0) channel reason
    spoken_calm w (spoken.Requests channel wanted message happening) is =
        (wanted_calm wanted channel.0, (refl, refl))
    spoken_calm w (spoken.RequestsAgent channel wanted) is = (
      wanted_calm wanted channel.0,
      (
        λ granted v. either_calm n v.disconnected v
            (lined (settles_one (request_at channel wanted w).place channel.0 granted) v)
            (settled_one (request_at channel wanted w).place channel.0 granted v),
        refl,
      ),
    )
    spoken_calm w (spoken.RequestsUnknown channel wanted) is = (
      wanted_calm wanted channel.0,
      (settled_one (request_at channel wanted w).place channel.0 false, tt),
    )
    spoken_calm w (spoken.RequestsForward wanted address port) is = (
      beside _ (λ v. refl),
      (λ granted bound. ended_calm (global_reply granted (bound_to port bound)), refl),
    )
    spoken_calm w (spoken.RequestsGlobally wanted judged) is =
        (beside _ (λ v. refl), (λ granted. ended_calm (global_reply granted None), refl))
    spoken_calm w (spoken.RequestsGloballyUnknown wanted) is =
        (beside _ (λ v. refl), (λ v. settled_calm n v (global_reply false None), tt))
    spoken_calm w (spoken.GivesUpSessions wanted) is = (
      λ v. record { bytes = refl; waits = λ h. h; stands = λ ended s. s },
      (beside _ (λ v. refl), (λ v. settled_calm n v (global_reply true None), tt)),
    )
    spoken_calm w (spoken.Settles told) is = (beside _ (λ v. refl), notes_calm told)
    spoken_calm w spoken.Inconsistent is = tt

    -- frames of no channel are written
    pub written_calm : (w v : World) → v.channels.lines.entries ≡ w.channels.lines.entries
        → v.channels.lines.left ≡ w.channels.lines.left → v.channels.opens ≡ w.channels.opens
        → Calm n w v
    written_calm w v entries left opens = record {
      bytes = ap (λ es. bytes_of (find n es) (last_left n v.channels.lines.left)) entries
          ∙ ap (λ gone. bytes_of (find n w.channels.lines.entries) (last_left n gone)) left;
      waits = λ q. (q.0, ap (waiting_at n) opens ∙ q.1);
      stands = λ ended s. (s.0, ap (find n) entries ∙ s.1, s.2);
    }

    pub owed_calm : (w : World) (said : Said) → SaysCalm said → AreCalm n (owed w said)
    owed_calm w (Open message) is = absurd is
    owed_calm w (Agreed message) is =
        confirmation_calm (is_waiting w message.recipient_channel) message
    owed_calm w (read.Connection said) is = spoken_calm w said is
    owed_calm w Unread is = tt
    owed_calm w Disconnect is = tt
    owed_calm w Over_cap is = (λ v. written_calm v _ refl refl refl, tt)
    owed_calm w (Unfit why) is = tt
    owed_calm w Without_packets is = tt
    owed_calm w _ is = tt

    -- what goes to the exchange of keys
    pub exchange_calm : (payload : List ℕ) (at : Passage) → AreCalm n (exchange_acts payload at)
    exchange_calm payload Begins = tt
    exchange_calm payload Steps = tt
    exchange_calm payload Barred = tt
    exchange_calm payload Late = tt
    exchange_calm payload Passes = tt

    pub replied_calm : (w : World) (moment : ℕ) (requested : Bool) (reply : List ℕ) (v : AuthVerdict)
        → AreCalm n (replied w moment requested reply v)
    replied_calm w moment requested reply verdict.Accepted =
        (λ v. written_calm v _ refl refl refl, (refl, refl))
    replied_calm w moment requested reply (verdict.Rejected none_method) =
        (λ v. written_calm v _ refl refl refl, tt)
    replied_calm w moment requested reply verdict.Continued =
        (λ v. written_calm v _ refl refl refl, tt)

    pub greets_calm : (message : Option (List ℕ)) (short : Bool) → is_short message ≡ short
        → AreCalm n (greets message)
    greets_calm message true is = rw is (λ w. written_calm w _ refl refl refl, tt)
    greets_calm message false is = rw is tt

    -- ---- an open of the peer's

    waited_step : (b waits_before : Bool) (number : ℕ) (opening : Opening) (w : World)
        → (n == number) ≡ b → (waits_before ≡ true → Waits n w) → (b || waits_before) ≡ true
        → Waits n (waits number opening w)
    waited_step true before number opening w t h k = (
      opening,
      ap (λ m. waiting_at m (insert_entry nat_cmp w.channels.opens number opening))
          (one_number n number t) ∙ inserted_self number opening w.channels.opens,
    )
    waited_step false before number opening w t h k =
        let q = h k in (q.0, inserted_other n number opening w.channels.opens t ∙ q.1)

    pub asked_leads : (number : ℕ) (opening : Opening) (w : World)
        → (Waits n w → (n == number) ≡ false)
        → Leads n (Asked (own number)) w (waits number opening w)
    asked_leads number opening w apart = record {
      bytes = refl;
      waits = λ before h t. waited_step (n == number) before number opening w refl h t;
      stands = λ free ended s. s;
      still = λ free ended s. refl;
      opened = λ t. absurd (cc);
      fresh = λ t q. let no : true ≡ false = sym t ∙ apart q in cc;
    }
