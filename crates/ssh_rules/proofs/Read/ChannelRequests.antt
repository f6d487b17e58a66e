-- What the code reads of a request is what the table of requests has (RFC 4254 section 6).
use Rattle.std.proofs.Common.{◌≡◌, ◌⊎◌, ◌∙◌, ℕ, List, [], ◌∷◌, Bool, Some, refl, sym, ap, subst}
use Rattle.std.proofs.Common.{inl, inr, true, false, length, None, rules}
use Rattle.std.specs.Prelude.{Option, bytes_eq, cond, find}
use Rattle.std.specs.Prelude.{Result, Ok, Err, IfOk, IfErr, IsErrAnd}
use Rattle.ssh_wire.specs.Field.{Flag, Number, Text}
use Rattle.ssh_wire.specs.Field.{Field, Values, SpellsAll, SpellsWhole, MisfitsAll, MisfitsWhole}
use Rattle.ssh_wire.specs.declared.channel_id.ChannelId.{ChannelId}
use Rattle.ssh_wire.specs.declared.error.WireError.{WireError}
use Rattle.ssh_wire.specs.declared.error.WireError.TheVariants.{NoMemory, Short, NotUtf8, Trailing}
use Rattle.ssh_wire.specs.declared.error.WireError.TheVariants.{TooLong}
use Rattle.ssh_wire.specs.declared.pty.Pty.{Pty}
use Rattle.ssh_link.specs.declared.notice.ChannelMsg.{ChannelMsg}
use Rattle.ssh_auth.specs.declared.question.Happening.{Happening}
use Rattle.ssh_rules.specs.declared.messages.Spoken.{Spoken}
use Rattle.ssh_rules.specs.declared.messages.Spoken.TheVariants as spoken
use Rattle.ssh_rules.specs.ChannelRequests.{KnownRequest, request_layout, to_the_end, request_said}
use Rattle.ssh_rules.specs.ChannelRequests.{request_named, known_requests, terminal_request}
use Rattle.ssh_rules.specs.Messages.{request, request_on}
use Rattle.ssh_rules.specs.Opens.{own}
use Rattle.ssh_rules.specs.Received.{data_length}
use Rattle.ssh_rules.specs.Spelling.{Layout, Fields, Spells, IsRead}
use Rattle.ssh_rules.specs.Terminal.{modes_of}
use Rattle.ssh_rules.proofs.Read.Misread.{misread, misread_so}

-- it says what is served
abbrev pub IsConsistent : Spoken → Type 0
IsConsistent spoken.Inconsistent = ⊥
IsConsistent _ = Unit {0}

ends_well : (said : Spoken) (rest : List ℕ) → rest ≡ [] → IsConsistent said
    → Spells (to_the_end said) rest (Ok said)
ends_well spoken.Inconsistent rest is h = absurd h
ends_well _ rest is h = inl (tt, is, refl)

ends_ill : (said : Spoken) (rest : List ℕ) (why : WireError) → MisfitsWhole [] rest why
    → IsConsistent said → Spells (to_the_end said) rest (Err why)
ends_ill spoken.Inconsistent rest why m h = absurd h
ends_ill _ rest why m h = inr (why, m, refl)

-- fields and their end do not fit where the fields do not, or where bytes follow them
misfits_apart : (fields : List Field) (bytes : List ℕ) (why : WireError)
    → MisfitsWhole fields bytes why
    → MisfitsAll fields bytes why
    ⊎ ((values : Values fields) × (rest : List ℕ) × SpellsAll fields values bytes rest
    × MisfitsWhole [] rest why)
misfits_apart [] bytes why m = inr (tt, bytes, refl, m)
misfits_apart (field ∷ fields) bytes why (inl m) = inl (inl m)
misfits_apart (field ∷ fields) bytes why (inr (value, piece, after, spells, is, m)) =
    elim (misfits_apart fields after why m) [
      | inl here ↦ inl (inr (value, piece, after, spells, is, here))
      | inr later ↦ inr (
        (value, later.0),
        later.1,
        (piece, after, spells, is, later.2),
        later.3,
      )
    ]

-- what was told of a request was kept, or memory was wanting for that, and the message ends there
pub asked_end : (channel : ChannelId) (wanted : Bool) (rest : List ℕ) (message : ChannelMsg)
    (happening : Happening) (told : Result (ChannelMsg × Happening) WireError)
    (result : Result Spoken WireError) → rest ≡ []
    → IfOk told (λ t. t ≡ (message, happening)) → IfErr told (λ e. e ≡ NoMemory)
    → result ≡ request_said channel wanted told
    → IsRead (to_the_end (spoken.Requests channel wanted message happening)) rest result
asked_end channel wanted rest message happening (Ok t) result ends is memory r =
    let said = spoken.Requests channel wanted message happening in
    let same : result ≡ Ok said =
    r ∙ ap (λ (x : ChannelMsg × Happening). Ok (spoken.Requests channel wanted x.0 x.1)) is in
    subst (IsRead (to_the_end said) rest) (sym same) (inl (tt, ends, refl))
asked_end channel wanted rest message happening (Err e) result ends is memory r =
    let said = spoken.Requests channel wanted message happening in
    subst (IsRead (to_the_end said) rest) (sym (r ∙ ap Err memory)) (Ok said, inl (tt, ends, refl))

-- .. or it goes on
pub misended : (said : Spoken) (rest : List ℕ) (why : WireError) → MisfitsWhole [] rest why
    → IsConsistent said → IsRead (to_the_end said) rest (Err why)
misended said rest why m h = misread_so (to_the_end said) rest why (ends_ill said rest why m h)

ends_step : (said : Spoken) (rest : List ℕ) → IsConsistent said
    → (read : Result Spoken WireError) × Spells (to_the_end said) rest read
ends_step said [] h = (Ok said, ends_well said [] refl h)
ends_step said (x ∷ rest) h = (
  Err (Trailing (length (x ∷ rest))),
  ends_ill said (x ∷ rest) (Trailing (length (x ∷ rest)))
      (λ none. (let e : x ∷ rest ≡ [] = none in cc), refl) h,
)

-- whatever it is, it ends in some way
pub ends_somehow : (said : Spoken) (rest : List ℕ)
    → (read : Result Spoken WireError) × Spells (to_the_end said) rest read
ends_somehow spoken.Inconsistent rest = (Ok spoken.Inconsistent, refl)
ends_somehow (spoken.Requests channel wanted message happening) rest =
    ends_step (spoken.Requests channel wanted message happening) rest tt
ends_somehow (spoken.RequestsAgent channel wanted) rest =
    ends_step (spoken.RequestsAgent channel wanted) rest tt
ends_somehow said rest = ends_step said rest tt

-- fields were read, and what stands behind them
pub fields_then : (fields : List Field) (next : Values fields → Layout Spoken)
    (values : Values fields) (bytes rest : List ℕ) (result : Result Spoken WireError)
    → SpellsAll fields values bytes rest → IsRead (next values) rest result
    → IsRead (Fields fields next) bytes result
fields_then fields next values bytes rest (Ok said) s h = inl (values, rest, s, h)
fields_then fields next values bytes rest (Err NoMemory) s h =
    (h.0, inl (values, rest, s, h.1))
fields_then fields next values bytes rest (Err Short) s h = inl (values, rest, s, h)
fields_then fields next values bytes rest (Err NotUtf8) s h = inl (values, rest, s, h)
fields_then fields next values bytes rest (Err (Trailing left)) s h = inl (values, rest, s, h)
fields_then fields next values bytes rest (Err TooLong) s h = inl (values, rest, s, h)

-- .. for which memory was wanting
pub fields_lost : (fields : List Field) (says : Values fields → Spoken) (values : Values fields)
    (bytes rest : List ℕ) (why : WireError) → SpellsAll fields values bytes rest
    → why ≡ NoMemory → IsRead (Fields fields (λ v. to_the_end (says v))) bytes (Err why)
fields_lost fields says values bytes rest why s is =
    let ends = ends_somehow (says values) rest in
    subst (λ e. IsRead (Fields fields (λ v. to_the_end (says v))) bytes (Err e)) (sym is)
    (ends.0, inl (values, rest, s, ends.1))

-- .. or a field does not fit
pub fields_misread : (fields : List Field) (next : Values fields → Layout Spoken)
    (bytes : List ℕ) (why : WireError) → MisfitsAll fields bytes why
    → IsRead (Fields fields next) bytes (Err why)
fields_misread fields next bytes why m = misread_so (Fields fields next) bytes why
    (inr (why, m, refl))

-- ---- a name that no request of the table has

unlike_step : (b : Bool) (text name : List ℕ) → bytes_eq text name ≡ b → (name ≡ text → ⊥)
    → bytes_eq text name ≡ false
unlike_step true text name is other =
    absurd (other (let same : name ≡ text = search (rules, is) in same))
unlike_step false text name is other = is

pub unlike : (text name : List ℕ) → (name ≡ text → ⊥) → bytes_eq text name ≡ false
unlike text name other = unlike_step (bytes_eq text name) text name refl other

-- nothing of it is read
pub unknown_by : (name : List ℕ) (channel : ChannelId) (wanted : Bool) (rest : List ℕ)
    → request_named name ≡ None
    → IsRead (request_layout (request_named name) channel wanted) rest
    (Ok (spoken.RequestsUnknown channel wanted))
unknown_by name channel wanted rest none =
    subst (λ k. IsRead (request_layout k channel wanted) rest (Ok (spoken.RequestsUnknown channel wanted)))
    (sym none) refl

module _ (known : KnownRequest) (channel : ChannelId) (wanted : Bool)
    (consistent : (values : Values known.fields) → IsConsistent (known.says channel wanted values))
  where
    abbrev layout : Layout Spoken
    layout = request_layout (Some known) channel wanted

    pub read_whole : (values : Values known.fields) (bytes : List ℕ)
        → SpellsWhole known.fields values bytes
        → Spells layout bytes (Ok (known.says channel wanted values))
    read_whole values bytes h =
        inl (
          values,
          [],
          h,
          ends_well (known.says channel wanted values) [] refl
              (consistent values),
        )

    unread_whole : (bytes : List ℕ) (why : WireError) → MisfitsWhole known.fields bytes why
        → Spells layout bytes (Err why)
    unread_whole bytes why h =
        elim (misfits_apart known.fields bytes why h) [
          | inl m ↦ inr (why, m, refl)
          | inr m ↦ inl (
            m.0,
            m.1,
            m.2,
            ends_ill (known.says channel wanted m.0) m.1 why m.3 (consistent m.0),
          )
        ]

    -- a field does not fit, or bytes follow the last
    pub misasked : (bytes : List ℕ) (why : WireError) → MisfitsWhole known.fields bytes why
        → IsRead layout bytes (Err why)
    misasked bytes why h = misread_so layout bytes why (unread_whole bytes why h)

    -- .. and the reading ends there
    pub misasked_at : (bytes : List ℕ) (why : WireError) (result : Result Spoken WireError)
        → IsErrAnd result (λ x. x ≡ why) → MisfitsWhole known.fields bytes why
        → IsRead layout bytes result
    misasked_at bytes why result is h =
        misread layout bytes why result is (unread_whole bytes why h)

    -- the fields were read, and what is told of them was kept, or memory was wanting for that
    pub asked_whole : (values : Values known.fields) (bytes : List ℕ) (message : ChannelMsg)
        (happening : Happening) (told : Result (ChannelMsg × Happening) WireError)
        (result : Result Spoken WireError) → SpellsWhole known.fields values bytes
        → known.says channel wanted values ≡ spoken.Requests channel wanted message happening
        → IfOk told (λ t. t ≡ (message, happening)) → IfErr told (λ e. e ≡ NoMemory)
        → result ≡ request_said channel wanted told → IsRead layout bytes result
    asked_whole values bytes message happening (Ok t) result h says is memory r =
        let same : result ≡ Ok (known.says channel wanted values) =
        r ∙ ap (λ (x : ChannelMsg × Happening). Ok (spoken.Requests channel wanted x.0 x.1)) is
        ∙ ap Ok (sym says) in
        subst (IsRead layout bytes) (sym same) (read_whole values bytes h)
    asked_whole values bytes message happening (Err e) result h says is memory r =
        subst (IsRead layout bytes) (sym (r ∙ ap Err memory))
        (Ok (known.says channel wanted values), read_whole values bytes h)

-- ---- what stands behind the flag

-- on a channel that is there, the request's own fields are read by its name
pub read_behind : (is_there : ℕ → Bool) (bytes rest : List ℕ) (n : ℕ) (name : List ℕ)
    (wanted : Bool) (result : Result Spoken WireError)
    → SpellsAll (Number ∷ Text ∷ Flag ∷ []) (n, (name, (wanted, tt))) bytes rest
    → is_there n ≡ true → IsRead (request_layout (request_named name) (own n) wanted) rest result
    → IsRead (request is_there) bytes result
read_behind is_there bytes rest n name wanted result spells there h =
    fields_then (Number ∷ Text ∷ Flag ∷ []) (λ (channel, (name, (wanted, _))).
    request_on (is_there channel) wanted channel name) (n, (name, (wanted, tt))) bytes rest result
    spells (subst (λ b. IsRead (request_on b wanted n name) rest result) (sym there) h)

-- ---- the table, an entry at a time

abbrev pub Every : (P : KnownRequest → Type 0) → List KnownRequest → Type 0
Every P [] = Unit {0}
Every P (one ∷ more) = P one × Every P more

found_step : (P : KnownRequest → Type 0) (b : Bool) (known one : KnownRequest)
    (o : Option KnownRequest) → P one → (o ≡ Some known → P known)
    → cond b (Some one) o ≡ Some known → P known
found_step P true known one o q h is = let same : one ≡ known = cc in subst P same q
found_step P false known one o q h is = h is

-- what is so of each request is so of the one that is found
found : (P : KnownRequest → Type 0) (test : KnownRequest → Bool) (table : List KnownRequest)
    (known : KnownRequest) → Every P table → find test table ≡ Some known → P known
found P test [] known q is = absurd (cc)
found P test (one ∷ more) known q is = found_step P (test one) known one (find test more) q.0
    (λ h. found P test more known q.1 h) is

-- it is of this channel and this flag, and no data come with it
abbrev pub IsOwn : (channel : ChannelId) (wanted : Bool) → Spoken → Type 0
IsOwn channel wanted (spoken.Requests at flag message happening) =
    (at ≡ channel) × (flag ≡ wanted) × (data_length happening ≡ [])
IsOwn channel wanted (spoken.RequestsAgent at flag) = (at ≡ channel) × (flag ≡ wanted)
IsOwn channel wanted spoken.Inconsistent = Unit {0}
IsOwn channel wanted said = ⊥

-- whatever its fields are
abbrev pub SaysOwn : KnownRequest → Type 0
SaysOwn known = (channel : ChannelId) (wanted : Bool) (values : Values known.fields)
    → IsOwn channel wanted (known.says channel wanted values)

terminal_own : (channel : ChannelId) (wanted : Bool) (term : List ℕ) (columns rows width height : ℕ)
    (modes : Option (List (Pty × ℕ)))
    → IsOwn channel wanted (terminal_request channel wanted term columns rows width height modes)
terminal_own channel wanted term columns rows width height None = tt
terminal_own channel wanted term columns rows width height (Some modes) = (refl, refl, refl)

-- of a terminal by its modes, and of each other request at once
table_own : Every SaysOwn known_requests
table_own = (
  λ channel wanted values. terminal_own channel wanted values.0 values.1.0 values.1.1.0
      values.1.1.1.0 values.1.1.1.1.0 (modes_of 130 values.1.1.1.1.1.0),
  search,
)

pub known_own : (name : List ℕ) (known : KnownRequest) → request_named name ≡ Some known
    → SaysOwn known
known_own name known is =
    found SaysOwn (λ known. bytes_eq known.name name) known_requests known table_own is
