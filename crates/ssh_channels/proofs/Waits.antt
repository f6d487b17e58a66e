-- What waits on a channel, before a call and after it.
use Rattle.std.proofs.Common.{◌≡◌, ◌<◌, ◌==◌, ◌&&◌, ◌||◌, ℕ, List, [], ◌∷◌, ◌++◌, length, Bool}
use Rattle.std.proofs.Common.{true, false, not, cond, rules, refl, sym, ◌∙◌, ap, arith}
use Rattle.std.proofs.lemmas.List.{length-append}
use Rattle.ssh_channels.specs.declared.params.ChannelParams.{ChannelParams}
use Rattle.ssh_channels.specs.declared.chunk.Chunk.{Chunk}
use Rattle.ssh_channels.specs.Cut.{left_of}
use Rattle.ssh_channels.specs.Line as line
use Rattle.ssh_channels.specs.Line.{data_waits, something_waits, settled, granted, ending, taking}

pub none_of : (a b c : Bool) → (a || b || c) ≡ false → (a ≡ false) × (b ≡ false) × (c ≡ false)
none_of false false false h = (refl, refl, refl)
none_of true b c h = absurd (cc)
none_of false true c h = absurd (cc)
none_of false false true h = absurd (cc)

-- an EOF that waited goes out, or waits behind the same data
or_ending : (d e c : Bool) → (d || d || c) ≡ true → (d || e || c) ≡ true
or_ending true e c h = refl
or_ending false true c h = refl
or_ending false false c h = h

pub ending_waits : (l : ChannelParams) → something_waits (ending l) ≡ true
    → something_waits l ≡ true
ending_waits l h = or_ending (data_waits l) l.pending_eof l.pending_close h

or_less : (d e c d' e' : Bool) → (d ≡ false → d' ≡ false) → (e ≡ false → e' ≡ false) →
    (d' || e' || c) ≡ true → (d || e || c) ≡ true
or_less true e c d' e' f g h = refl
or_less false true c d' e' f g h = refl
or_less false false c d' e' f g h =
    sym (ap (λ x. x || e' || c) (f refl) ∙ ap (λ x. false || x || c) (g refl)) ∙ h

pub and_less : (e b : Bool) → e ≡ false → (e && b) ≡ false
and_less false b h = refl
and_less true b h = absurd (cc)

pub no_data : (w : List Chunk) → not (length w == 0) ≡ false → w ≡ []
no_data [] h = refl
no_data (c ∷ cs) h = let k : length (c ∷ cs) ≡ 0 = search rules in absurd (omega arith)

none_left : (credit : ℕ) (w : List Chunk) → not (length w == 0) ≡ false →
    not (length (left_of credit w) == 0) ≡ false
none_left credit w h = ap (λ x. not (length (left_of credit x) == 0)) (no_data w h)

-- what goes out leaves no more behind
pub settled_waits : (l : ChannelParams) → something_waits (settled l) ≡ true
    → something_waits l ≡ true
settled_waits l h =
    or_less (data_waits l) l.pending_eof l.pending_close (data_waits (settled l))
    (settled l).pending_eof (none_left l.recipient_window_size l.waiting)
    (and_less l.pending_eof _) h

granted_waits : (amount : ℕ) (l : ChannelParams) → something_waits (granted amount l) ≡ true
    → something_waits l ≡ true
granted_waits amount l h =
    or_less (data_waits l) l.pending_eof l.pending_close (data_waits (granted amount l))
    l.pending_eof (none_left l.recipient_window_size l.waiting) (λ e. e) h

pub granting_waits : (amount : ℕ) (l : ChannelParams) →
    something_waits (settled (granted amount l)) ≡ true → something_waits l ≡ true
granting_waits amount l h = granted_waits amount l (settled_waits (granted amount l) h)

-- some data waited before, or some wait with them
or_more : (d e c d' : Bool) → (d ≡ true → d' ≡ true) → (d || e || c) ≡ true →
    (d' || e || c) ≡ true
or_more true e c d' f h = ap (λ x. x || e || c) (f refl)
or_more false e c true f h = refl
or_more false e c false f h = h

more_data : (b : Bool) (w : List Chunk) (chunk : Chunk) → not (length w == 0) ≡ true →
    not (length (cond b w (w ++ chunk ∷ [])) == 0) ≡ true
more_data true w chunk h = h
more_data false w chunk h =
    let k : 0 < length (w ++ chunk ∷ []) = omega (arith, length-append w (chunk ∷ [])) in
    search rules

second_false : (a b : Bool) → (a || b) ≡ false → b ≡ false
second_false true b h = absurd (cc)
second_false false b h = h

not_both : (b : Bool) → b ≡ false → b ≡ true → ⊥
not_both true h k = absurd (cc)
not_both false h k = absurd (cc)

taking_at : (b : Bool) (chunk : Chunk) (is_rekeying : Bool) (l : ChannelParams) →
    (is_rekeying || not (line.nothing_waits l)) ≡ b → something_waits l ≡ true →
    something_waits (cond b (line.waits_behind chunk l) (line.flushed (line.alone chunk l))) ≡ true
taking_at true chunk is_rekeying l t h =
    or_more (data_waits l) l.pending_eof l.pending_close
    (data_waits (line.waits_behind chunk l))
    (more_data (length chunk.bytes == 0) l.waiting chunk) h
taking_at false chunk is_rekeying l t h =
    or_more (data_waits l) l.pending_eof l.pending_close
    (data_waits (line.flushed (line.alone chunk l)))
    (λ d. absurd (not_both (data_waits l) (second_false is_rekeying (data_waits l) t) d)) h

-- data that are taken let nothing out that waited
pub taking_waits : (chunk : Chunk) (is_rekeying : Bool) (l : ChannelParams)
    → something_waits l ≡ true → something_waits (taking chunk is_rekeying l) ≡ true
taking_waits chunk is_rekeying l h =
    taking_at (is_rekeying || not (line.nothing_waits l)) chunk is_rekeying l refl h
