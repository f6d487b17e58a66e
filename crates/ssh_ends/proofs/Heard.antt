-- A frame says one thing to the end that takes it.
use Rattle.std.proofs.Common.{◌≡◌, ◌<◌, ◌^◌, ◌==◌, ℕ, false, List, [], ◌∷◌, length, refl, sym}
use Rattle.std.proofs.Common.{◌≢◌, ap, subst, codes, arith, IsUtf8, Some, None}
use Rattle.ssh_wire.specs.Field.{Field, Values, SpellsAll, SpellsWhole}
use Rattle.ssh_wire.specs.Messages.{AreCarried, spellings}
use Rattle.ssh_wire.specs.Messages.{channel_window_adjust, channel_data, channel_extended_data}
use Rattle.ssh_wire.specs.Messages.{channel_eof, channel_close}
use Rattle.ssh_wire.specs.Open.{leading_fields, confirmation_fields}
use Rattle.ssh_wire.specs.declared.channel_type.ChannelType.TheVariants.{Session}
use Rattle.ssh_wire.proofs.Fields.{spells_all_once, spells_whole_once}
use Rattle.ssh_wire.proofs.Written.{spellings_spell}
use Rattle.ssh_channels.specs.Layout.{chunk}
use Rattle.ssh_channels.specs.declared.chunk.DataKind.{DataKind}
use Rattle.ssh_channels.specs.declared.chunk.DataKind.TheVariants.{Plain, Extended}
use Rattle.ssh_ends.specs.Incoming.{Says, number_of}
use Rattle.ssh_ends.specs.declared.incoming.Incoming.{Incoming}
use Rattle.ssh_ends.specs.declared.incoming.Incoming.TheVariants as incoming
use Rattle.ssh_ends.specs.Saying.{Saying, Open, Confirm, Grant, Data, Eof, Close}
use Rattle.ssh_ends.specs.Saying.{heard_in, frame_saying}
use Rattle.ssh_ends.specs.Strand.{IsCoded}
use Rattle.ssh_ends.proofs.Sides.{not_same}

-- the numbers of what is said have four bytes
abbrev pub HasRoom : Saying → Type 0
HasRoom (Open window packet) = (window < 2 ^ 32) × (0 < packet) × (packet < 2 ^ 32)
HasRoom (Confirm window packet) = (window < 2 ^ 32) × (0 < packet) × (packet < 2 ^ 32)
HasRoom (Grant amount) = amount < 2 ^ 32
HasRoom (Data piece) = IsCoded piece.kind × (length piece.bytes < 2 ^ 32)
HasRoom x = Unit {0}

session_is : IsUtf8 (codes "session")
unfolding lib.Utf8.encode
session_is = (codes "session", (refl, refl))

-- the fields behind the number
behind : (n k : ℕ) (xs ys : List ℕ) → n ∷ xs ≡ k ∷ ys → xs ≡ ys
behind n k xs ys is = cc

numbered : (n k : ℕ) (xs ys : List ℕ) → n ∷ xs ≡ k ∷ ys → n ≡ k
numbered n k xs ys is = cc

another : {A : Type 0} (n k : ℕ) (xs ys : List ℕ) → (n == k) ≡ false → n ∷ xs ≡ k ∷ ys → A
another n k xs ys t is = absurd (not_same n k t (numbered n k xs ys is))

-- fields that are written say one thing
whole_once : (fs : List Field) (v w : Values fs) (n : ℕ) (fields : List ℕ) → AreCarried fs w
    → n ∷ spellings fs w ≡ n ∷ fields → SpellsWhole fs v fields → v ≡ w
whole_once fs v w n fields carried is says =
    spells_whole_once fs v w (spellings fs w)
    (subst (SpellsWhole fs v) (sym (behind n n (spellings fs w) fields is)) says)
    (spellings_spell fs w carried)

module _ (own peer : ℕ) (mine : own < 2 ^ 32) (yours : peer < 2 ^ 32) where
  abbrev open_values : (window packet : ℕ) → Values leading_fields
  open_values window packet = (codes "session", (own, (window, (packet, tt))))

  open_carried : (window packet : ℕ) → HasRoom (Open window packet)
      → AreCarried leading_fields (open_values window packet)
  open_carried window packet h = ((omega arith, session_is), (mine, (h.0, (h.2, tt))))

  open_once : (window packet : ℕ) (said : Incoming) → HasRoom (Open window packet)
      → Says said (frame_saying own peer (Open window packet)).payload
      → said ≡ heard_in own peer (Open window packet)
  open_once window packet (incoming.Open sender w l) h
      (fields, is, (typ, rest, (name, after, leads, some, type))) =
      let values = open_values window packet in
      let whole = spellings leading_fields values in
      let once = spells_all_once leading_fields (name, (sender, (w, (l, tt)))) values whole after []
      (subst (λ xs. SpellsAll leading_fields (name, (sender, (w, (l, tt)))) xs after)
      (sym (behind 90 90 whole fields is)) leads)
      (spellings_spell leading_fields values (open_carried window packet h)) in
      ap (λ (v : Values leading_fields). incoming.Open v.1.0 v.1.1.0 v.1.1.1.0) once.0
  open_once window packet (incoming.Data channel None bytes) h (fields, is, says) =
      another 90 94 _ fields refl is
  open_once window packet (incoming.Data channel (Some code) bytes) h (fields, is, says) =
      another 90 95 _ fields refl is
  open_once window packet said h (fields, is, says) =
      another 90 (number_of said) _ fields refl is

  abbrev confirm_values : (window packet : ℕ) → Values confirmation_fields
  confirm_values window packet = (peer, (own, (window, (packet, tt))))

  confirm_once : (window packet : ℕ) (said : Incoming) → HasRoom (Confirm window packet)
      → Says said (frame_saying own peer (Confirm window packet)).payload
      → said ≡ heard_in own peer (Confirm window packet)
  confirm_once window packet (incoming.Confirmation m) h (fields, is, (spells, some)) =
      let once = whole_once confirmation_fields (
        m.recipient_channel,
        (
          m.sender_channel,
          (m.initial_window_size, (m.maximum_packet_size, tt)),
        ),
      ) (confirm_values window packet) 91
      fields (yours, (mine, (h.0, (h.2, tt)))) is spells in
      ap (λ (v : Values confirmation_fields). incoming.Confirmation (record {
        recipient_channel = v.0;
        sender_channel = v.1.0;
        initial_window_size = v.1.1.0;
        maximum_packet_size = v.1.1.1.0;
      })) once
  confirm_once window packet (incoming.Data channel None bytes) h (fields, is, says) =
      another 91 94 _ fields refl is
  confirm_once window packet (incoming.Data channel (Some code) bytes) h (fields, is, says) =
      another 91 95 _ fields refl is
  confirm_once window packet said h (fields, is, says) =
      another 91 (number_of said) _ fields refl is

  grant_once : (amount : ℕ) (said : Incoming) → HasRoom (Grant amount)
      → Says said (frame_saying own peer (Grant amount)).payload
      → said ≡ heard_in own peer (Grant amount)
  grant_once amount (incoming.WindowAdjust channel more) h (fields, is, says) =
      ap (λ (v : Values channel_window_adjust.fields).
      incoming.WindowAdjust (record { 0 = v.0 }) v.1.0)
      (whole_once channel_window_adjust.fields (channel.0, (more, tt)) (peer, (amount, tt)) 93
      fields (yours, (h, tt)) is says)
  grant_once amount (incoming.Data channel None bytes) h (fields, is, says) =
      another 93 94 _ fields refl is
  grant_once amount (incoming.Data channel (Some code) bytes) h (fields, is, says) =
      another 93 95 _ fields refl is
  grant_once amount said h (fields, is, says) = another 93 (number_of said) _ fields refl is

  eof_once : (said : Incoming) → Says said (frame_saying own peer Eof).payload
      → said ≡ heard_in own peer Eof
  eof_once (incoming.Eof channel) (fields, is, says) =
      ap (λ (v : Values channel_eof.fields). incoming.Eof (record { 0 = v.0 }))
      (whole_once channel_eof.fields (channel.0, tt) (peer, tt) 96 fields (yours, tt) is says)
  eof_once (incoming.Data channel None bytes) (fields, is, says) =
      another 96 94 _ fields refl is
  eof_once (incoming.Data channel (Some code) bytes) (fields, is, says) =
      another 96 95 _ fields refl is
  eof_once said (fields, is, says) = another 96 (number_of said) _ fields refl is

  close_once : (said : Incoming) → Says said (frame_saying own peer Close).payload
      → said ≡ heard_in own peer Close
  close_once (incoming.Close channel) (fields, is, says) =
      ap (λ (v : Values channel_close.fields). incoming.Close (record { 0 = v.0 }))
      (whole_once channel_close.fields (channel.0, tt) (peer, tt) 97 fields (yours, tt) is says)
  close_once (incoming.Data channel None bytes) (fields, is, says) =
      another 97 94 _ fields refl is
  close_once (incoming.Data channel (Some code) bytes) (fields, is, says) =
      another 97 95 _ fields refl is
  close_once said (fields, is, says) = another 97 (number_of said) _ fields refl is

  plain_once : (bytes : List ℕ) (said : Incoming) → length bytes < 2 ^ 32
      → Says said (frame_saying own peer (Data (chunk Plain bytes))).payload
      → said ≡ heard_in own peer (Data (chunk Plain bytes))
  plain_once bytes (incoming.Data channel None more) h (fields, is, says) =
      ap (λ (v : Values channel_data.fields). incoming.Data (record { 0 = v.0 }) None v.1.0)
      (whole_once channel_data.fields (channel.0, (more, tt)) (peer, (bytes, tt)) 94 fields
      (yours, (h, tt)) is says)
  plain_once bytes (incoming.Data channel (Some code) more) h (fields, is, says) =
      another 94 95 _ fields refl is
  plain_once bytes said h (fields, is, says) = another 94 (number_of said) _ fields refl is

  extended_once : (code : ℕ) (bytes : List ℕ) (said : Incoming) → code < 2 ^ 32
      → length bytes < 2 ^ 32
      → Says said (frame_saying own peer (Data (chunk (Extended code) bytes))).payload
      → said ≡ heard_in own peer (Data (chunk (Extended code) bytes))
  extended_once code bytes (incoming.Data channel None more) h g (fields, is, says) =
      another 95 94 _ fields refl is
  extended_once code bytes (incoming.Data channel (Some other) more) h g (fields, is, says) =
      ap (λ (v : Values channel_extended_data.fields).
      incoming.Data (record { 0 = v.0 }) (Some v.1.0) v.1.1.0)
      (whole_once channel_extended_data.fields (channel.0, (other, (more, tt)))
      (peer, (code, (bytes, tt))) 95 fields (yours, (h, (g, tt))) is says)
  extended_once code bytes said h g (fields, is, says) =
      another 95 (number_of said) _ fields refl is

  data_once : (kind : DataKind) (bytes : List ℕ) (said : Incoming)
      → HasRoom (Data (chunk kind bytes))
      → Says said (frame_saying own peer (Data (chunk kind bytes))).payload
      → said ≡ heard_in own peer (Data (chunk kind bytes))
  data_once Plain bytes said h says = plain_once bytes said h.1 says
  data_once (Extended code) bytes said h says = extended_once code bytes said h.0 h.1 says

  pub says_once : (x : Saying) (said : Incoming) → HasRoom x
      → Says said (frame_saying own peer x).payload → said ≡ heard_in own peer x
  says_once (Open window packet) said h says = open_once window packet said h says
  says_once (Confirm window packet) said h says = confirm_once window packet said h says
  says_once (Grant amount) said h says = grant_once amount said h says
  says_once (Data piece) said h says = data_once piece.kind piece.bytes said h says
  says_once Eof said h says = eof_once said says
  says_once Close said h says = close_once said says

  -- and it is that which the frame says
  says_data : (kind : DataKind) (bytes : List ℕ) → HasRoom (Data (chunk kind bytes))
      → Says (heard_in own peer (Data (chunk kind bytes)))
      (frame_saying own peer (Data (chunk kind bytes))).payload
  says_data Plain bytes h = (
    spellings channel_data.fields (peer, (bytes, tt)),
    refl,
    spellings_spell channel_data.fields (peer, (bytes, tt)) (yours, (h.1, tt)),
  )
  says_data (Extended code) bytes h = (
    spellings channel_extended_data.fields (peer, (code, (bytes, tt))),
    refl,
    spellings_spell channel_extended_data.fields (peer, (code, (bytes, tt)))
        (yours, (h.0, (h.1, tt))),
  )

  some_packet : (packet : ℕ) → 0 < packet → packet ≢ 0
  some_packet packet some is = omega arith

  pub says_it : (x : Saying) → HasRoom x → Says (heard_in own peer x) (frame_saying own peer x).payload
  says_it (Open window packet) h = (
    spellings leading_fields (open_values window packet),
    refl,
    (
      Session,
      [],
      (
        codes "session",
        [],
        spellings_spell leading_fields (open_values window packet)
            (open_carried window packet h),
        some_packet packet h.1,
        (tt, refl, refl, refl),
      ),
    ),
  )
  says_it (Confirm window packet) h = (
    spellings confirmation_fields (confirm_values window packet),
    refl,
    (
      spellings_spell confirmation_fields (confirm_values window packet)
          (yours, (mine, (h.0, (h.2, tt)))),
      some_packet packet h.1,
    ),
  )
  says_it (Grant amount) h = (
    spellings channel_window_adjust.fields (peer, (amount, tt)),
    refl,
    spellings_spell channel_window_adjust.fields (peer, (amount, tt)) (yours, (h, tt)),
  )
  says_it (Data piece) h = says_data piece.kind piece.bytes h
  says_it Eof h = (
    spellings channel_eof.fields (peer, tt),
    refl,
    spellings_spell channel_eof.fields (peer, tt) (yours, tt),
  )
  says_it Close h = (
    spellings channel_close.fields (peer, tt),
    refl,
    spellings_spell channel_close.fields (peer, tt) (yours, tt),
  )
