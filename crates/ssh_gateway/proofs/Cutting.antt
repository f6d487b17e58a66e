-- Calls of the targets, up to one that failed.
use Rattle.std.proofs.Common.{◌≡◌, ◌≢◌, List, [], ◌∷◌, ◌++◌, Option, Some, true, refl, sym}
use Rattle.std.proofs.Common.{◌∙◌, ap, append_assoc, subst, Result, Ok, Err, inl, inr}
use Rattle.std.specs.Prelude.{IfErr}
use Rattle.std.specs.List.{find}
use Rattle.std.proofs.lemmas.List.{append-nil}
use Rattle.ssh_wire.specs.declared.channel_id.ChannelId.{ChannelId}
use Rattle.ssh_link.specs.Told.{Adds, Tells, ToldBy}
use Rattle.ssh_link.proofs.Tellings.{adds_weak}
use Rattle.ssh_auth.specs.declared.question.Happening.{Happening}
use Rattle.ssh_auth.specs.declared.question.Lent.TheVariants.{Happened}
use Rattle.ssh_auth.specs.declared.question.Question.{Question}
use Rattle.ssh_auth.specs.declared.question.Question.TheVariants.{Lends}
use Rattle.ssh_serving.proofs.Serving.{told_then}
use Rattle.ssh_gateway.specs.declared.switchboard.Connection.{Connection}
use Rattle.ssh_gateway.specs.declared.targets.TargetCall.{TargetCall}
use Rattle.ssh_gateway.specs.declared.targets.TargetFault.{TargetFault}
use Rattle.ssh_gateway.specs.declared.targets.TargetFault.TheVariants.{Failed, NoMemory}
use Rattle.ssh_gateway.specs.Asked.{IsCutOff, failed}
use Rattle.ssh_gateway.specs.Board.{is_on, passed_on, passed_to, due_on}
use Rattle.ssh_gateway.specs.Doing.{FailsTelling}

-- the only one failed
pub cut_at : (fault : TargetFault) (one : TargetCall)
    → IsCutOff fault (one ∷ []) (failed fault one ∷ [])
cut_at fault one = inl ([], [], one, refl, refl)

-- the last one failed
pub cut_last : (fault : TargetFault) (before : List TargetCall) (one : TargetCall)
    → IsCutOff fault (before ++ one ∷ []) (before ++ failed fault one ∷ [])
cut_last fault before one = inl (before, [], one, refl, refl)

-- none failed, and there was no memory behind them
pub cut_none : (due : List TargetCall) → IsCutOff NoMemory due due
cut_none due = inr (refl, ([], append-nil due))

-- others were due behind it
pub cut_more : (fault : TargetFault) (due made more : List TargetCall) → IsCutOff fault due made
    → IsCutOff fault (due ++ more) made
cut_more fault due made more (inl (before, after, one, is, was)) = inl (
  before,
  after ++ more,
  one,
  ap (λ l. l ++ more) is ∙ append_assoc before (one ∷ after) more,
  was,
)
cut_more fault due made more (inr (only, (rest, is))) =
    inr (only, (rest ++ more, sym (append_assoc made rest more) ∙ ap (λ l. l ++ more) is))

-- these were made before
pub cut_behind : (fault : TargetFault) (first due made : List TargetCall) → IsCutOff fault due made
    → IsCutOff fault (first ++ due) (first ++ made)
cut_behind fault first due made (inl (before, after, one, is, was)) = inl (
  first ++ before,
  after,
  one,
  ap (λ l. first ++ l) is ∙ sym (append_assoc first before (one ∷ after)),
  ap (λ l. first ++ l) was ∙ sym (append_assoc first before (failed fault one ∷ [])),
)
cut_behind fault first due made (inr (only, (rest, is))) =
    inr (only, (rest, append_assoc first made rest ∙ ap (λ l. first ++ l) is))

-- the one call that was due was told with its answer
pub fails_alone : (result : Result (Unit {0}) TargetFault) (due : List TargetCall)
    (told told' : Option (List TargetCall)) (call : Result (Unit {0}) TargetFault → TargetCall)
    → due ≡ call (Ok tt) ∷ []
    → ((fault : TargetFault) → failed fault (call (Ok tt)) ≡ call (Err fault))
    → Tells told told' result (call result)
    → IfErr result (λ fault. FailsTelling fault due told told')
fails_alone (Ok done) due told told' call is fails h = tt
fails_alone (Err fault) due told told' call is fails h =
    subst (λ l. FailsTelling fault l told told') (sym is) (
      failed fault (call (Ok tt)) ∷ [],
      cut_at fault (call (Ok tt)),
      subst (λ one. ToldBy true told told' (one ∷ [])) (sym (fails fault)) h,
    )

pub fails_more : (fault : TargetFault) (due more : List TargetCall)
    (told told' : Option (List TargetCall)) → FailsTelling fault due told told'
    → FailsTelling fault (due ++ more) told told'
fails_more fault due more told told' (made, cut, h) = (made, cut_more fault due made more cut, h)

pub fails_behind : (fault : TargetFault) (first due : List TargetCall)
    (told mid told' : Option (List TargetCall)) → Adds told mid first
    → FailsTelling fault due mid told' → FailsTelling fault (first ++ due) told told'
fails_behind fault first due told mid told' h (made, cut, k) = (
  first ++ made,
  cut_behind fault first due made cut,
  told_then true told mid told' first made h k,
)

pub fails_behind_if : {T : Type 0} (result : Result T TargetFault) (first due : List TargetCall)
    (told mid told' : Option (List TargetCall)) → Adds told mid first
    → IfErr result (λ fault. FailsTelling fault due mid told')
    → IfErr result (λ fault. FailsTelling fault (first ++ due) told told')
fails_behind_if (Ok done) first due told mid told' h fails = tt
fails_behind_if (Err fault) first due told mid told' h fails =
    fails_behind fault first due told mid told' h fails

-- all that was due was told, and there was no memory behind it
pub fails_short : {T : Type 0} (result : Result T TargetFault) (due : List TargetCall)
    (told told' : Option (List TargetCall)) → result ≢ Err Failed → Adds told told' due
    → IfErr result (λ fault. FailsTelling fault due told told')
fails_short (Ok done) due told told' other h = tt
fails_short (Err NoMemory) due told told' other h = (due, cut_none due, adds_weak told told' due h)
fails_short (Err Failed) due told told' other h = absurd (other refl)

-- what happened on the channel of a connection is due as one call
pub due_as : (question : Question) (channel : ChannelId) (happening what : Happening)
    (connections : List Connection) (one : Connection) (call : TargetCall)
    → question ≡ Lends (Happened channel happening) → happening ≡ what
    → find (is_on channel) connections ≡ Some one → passed_on what one.id ≡ call ∷ []
    → due_on question connections ≡ call ∷ []
due_as question channel happening what connections one call asked is found passed =
    ap (λ q. due_on q connections) asked
    ∙ (ap (passed_to happening) found ∙ (ap (λ it. passed_on it one.id) is ∙ passed))
